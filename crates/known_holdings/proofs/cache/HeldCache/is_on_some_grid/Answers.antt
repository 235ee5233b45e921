use Rattle.std.proofs.Common.{◌≡◌, ℕ, ◌*◌, ◌-◌, ◌&&◌, nat_le, false, inl, inr, sym, ◌∙◌, subst, arith}
use Rattle.std.proofs.lemmas.Bool.{cases_eq}
use Rattle.model_core.proofs.BlocksByNumber.{any_below_is}
use Rattle.promise_core.specs.Holdings.{slab_around, is_grid}
use Rattle.known_holdings.proofs.SlabPlaces.{on_no_grid}
use Rattle.known_holdings.proofs.cache.HeldCache.is_on_some_grid.Goals as goal

pub loop-i-init : goal.loop-i-init
loop-i-init c = λ k from lt. absurd (omega arith)

pub loop-i-preserved : goal.loop-i-preserved
loop-i-preserved c = λ k from lt. elim (cases_eq k c.loop-i.i) [
  | inl e ↦ subst (λ (n : ℕ). (nat_le (n * c.args.self.now.chunk) c.args.place
      && is_grid c.args.self.now (slab_around c.args.self.now c.args.place) (c.args.place - n * c.args.self.now.chunk) c.args.beside.now) ≡ false)
      (sym e) (sym c.is_on_grid.ensures ∙ c.if-is_on_grid.false)
  | inr ne ↦ c.loop-i.invariant k from (omega arith)
]

pub returns-then-is_on_grid : goal.returns-then-is_on_grid
returns-then-is_on_grid c = sym (any_below_is _ c.args.self.now.count c.loop-i.i (omega (arith, c.numbers_at-low.ensures.most))
    (sym c.is_on_grid.ensures ∙ c.if-is_on_grid.true))

pub returns : goal.returns
returns c = sym (on_no_grid c.args.self.now c.args.place c.numbers_at-low.result.0 c.numbers_at-low.result.1 c.args.beside.now
    c.numbers_at-low.ensures.others (λ i from lt. c.loop-i.invariant i from (omega arith)))
