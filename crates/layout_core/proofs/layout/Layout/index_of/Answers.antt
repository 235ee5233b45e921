use Rattle.std.proofs.Common.{arith}
use Rattle.layout_core.proofs.ObjectByChunk.{begins_at, begins_only, begins_whole, chunk_below}
use Rattle.layout_core.proofs.layout.Layout.index_of.Goals as goal

pub returns-in_err-index : goal.returns-in_err-index
returns-in_err-index c =
    let none = rw (← c.self.view_is) at c.in_err-index.ensures in
    rw (c.from_residual-in_err-index.ensures, ← c.self.view_is) (λ i b.
    let at = begins_at _ c.self.inside.chunk _ _ i c.self.invariant.chunk_is c.self.invariant.some b in
    let below = chunk_below _ _ _ _ _ i c.self.invariant.chunk_is c.in_ok-from.ensures.1 at.chunk_of b.object in
    omega (arith, none, below))

pub returns-then-index-chunk : goal.returns-then-index-chunk
returns-then-index-chunk c =
    let found = rw (← c.self.view_is) at c.in_ok-index.ensures in
    rw (← c.self.view_is)
    (begins_only _ _ _ _ _ _ c.self.invariant.chunk_is c.self.invariant.some found.0 found.1 c.in_ok-from.ensures.0 c.in_ok-from.ensures.1 c.if-index-chunk.true)

pub returns-else-index-chunk : goal.returns-else-index-chunk
returns-else-index-chunk c =
    let found = rw (← c.self.view_is) at c.in_ok-index.ensures in
    rw (← c.self.view_is) (λ i b.
    c.if-index-chunk.false (begins_whole _ _ _ _ _ _ i c.self.invariant.chunk_is c.self.invariant.some found.1 c.in_ok-from.ensures.1 b))
