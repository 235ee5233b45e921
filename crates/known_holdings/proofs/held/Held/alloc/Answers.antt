use Rattle.std.proofs.Common.{◌≡◌, ℕ, ◌≤◌, max, sym, ap, ◌∙◌, subst, arith}
use Rattle.model_core.specs.declared.limits.TheConstants.{MAX_ORDER}
use Rattle.known_holdings.specs.Inside.{ArePages}
use Rattle.known_holdings.proofs.PageBlocks.{pages_put}
use Rattle.known_holdings.proofs.held.Held.alloc.Goals as goal

pub returns-clause-taken : goal.returns-clause-taken
returns-clause-taken c = rw (c.in_ok-put.ensures.put, ← c.self.view_is)

pub invariant_of-self-2 : goal.invariant_of-self-2
invariant_of-self-2 c =
    let small : c.args.block.order ≤ MAX_ORDER = omega (arith, c.order.ensures.value, c.order.ensures.most) in
    let longest : c.max-self-inside.result ≡ max c.self.inside.longest c.args.block.order = c.max-self-inside.ensures
    ∙ ap (max c.self.inside.longest) c.order.ensures.value in (
      c.self.invariant.0,
      subst (λ (n : ℕ). ArePages n c.put.new.items.items) (sym longest)
          (subst (ArePages (max c.self.inside.longest c.args.block.order)) (sym c.in_ok-put.ensures.put)
          (pages_put c.self.inside.longest c.args.block c.self.inside.pages.items c.self.invariant.1 small)),
      c.self.invariant.2,
    )
