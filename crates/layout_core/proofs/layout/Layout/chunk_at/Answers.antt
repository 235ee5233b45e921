use Rattle.layout_core.proofs.Reciprocals.{chunk_found, chunk_missed}
use Rattle.layout_core.proofs.layout.Layout.chunk_at.Goals as goal

pub returns-then-index-self : goal.returns-then-index-self
returns-then-index-self c =
    rw (← c.self.view_is) (chunk_found _ _ _ _ _ _ _ _ _ _ c.self.invariant c.from.ensures c.from-2.ensures c.if-index-self.true)

pub returns-else-index-self : goal.returns-else-index-self
returns-else-index-self c =
    rw (← c.self.view_is) (chunk_missed _ _ _ _ _ _ _ _ _ _ c.self.invariant c.from.ensures c.from-2.ensures c.if-index-self.false)
