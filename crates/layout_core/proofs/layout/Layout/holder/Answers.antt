use Rattle.std.proofs.Common.{arith}
use Rattle.layout_core.proofs.ObjectByChunk.{chunk_below, holds_at, holds_only, holds_within}
use Rattle.layout_core.proofs.layout.Layout.holder.Goals as goal

pub returns-in_err-index : goal.returns-in_err-index
returns-in_err-index c =
    let none = rw (← c.self.view_is) at c.in_err-index.ensures in
    rw (c.from_residual-in_err-index.ensures, ← c.self.view_is) (λ i h.
    let at = holds_at _ c.self.inside.chunk _ _ _ i c.self.invariant.chunk_is c.self.invariant.sized h in
    let below = chunk_below _ _ _ _ _ i c.self.invariant.chunk_is c.in_ok-from.ensures.1 at.1.chunk_of h.object in
    omega (arith, none, below))

pub returns-then-inside-self : goal.returns-then-inside-self
returns-then-inside-self c =
    let found = rw (← c.self.view_is) at c.in_ok-index.ensures in
    rw (← c.self.view_is)
    (holds_only _ _ _ _ _ _ _ c.self.invariant.chunk_is c.self.invariant.sized found.0 found.1 c.in_ok-from.ensures.0 c.in_ok-from.ensures.1 c.if-len-gt0.true c.if-len-self.true c.if-inside-self.true)

pub returns-else-len-gt0 : goal.returns-else-len-gt0
returns-else-len-gt0 c =
    let found = rw (← c.self.view_is) at c.in_ok-index.ensures in
    rw (← c.self.view_is) (λ i h.
    let within = holds_within _ c.self.inside.chunk _ _ _ _ _ i c.self.invariant.chunk_is c.self.invariant.sized found.1 c.in_ok-from.ensures.1 h in
    let some = h.some in
    elim c.else-len-gt0.branch [
      | goal.else-len-gt0-via-then-len-gt0+then-len-self+else-inside-self w ↦ omega arith
      | goal.else-len-gt0-via-then-len-gt0+else-len-self w ↦ omega arith
      | goal.else-len-gt0-via-else-len-gt0 w ↦ omega arith
    ])
