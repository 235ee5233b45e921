use Rattle.std.proofs.Common.{not, eqb, sym, subst}
use Rattle.model_core.specs.Blocks.{Block}
use Rattle.known_holdings.specs.Inside.{ArePages}
use Rattle.known_holdings.proofs.PageBlocks.{pages_less}
use Rattle.known_holdings.proofs.held.Held.free.Goals as goal

pub invariant_of-self : goal.invariant_of-self
invariant_of-self c = (
  c.self.invariant.0,
  subst (ArePages c.self.inside.longest) (sym c.remove.ensures.value)
      (pages_less c.self.inside.longest (λ (b : Block). not (eqb b.first c.args.frame)) c.self.inside.pages.items c.self.invariant.1),
  c.self.invariant.2,
)

pub returns : goal.returns
returns c = rw (c.remove.ensures.value, ← c.self.view_is)
