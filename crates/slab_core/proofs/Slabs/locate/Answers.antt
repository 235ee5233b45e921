use Rattle.std.proofs.Common.{◌≡◌, ℕ, ◌-◌, ◌*◌, ◌/◌, sym, ap, ◌∙◌, subst, arith}
use Rattle.model_core.specs.Blocks.{around}
use Rattle.layout_core.specs.Objects.{Begins, IsOnly}
use Rattle.slab_tables.specs.declared.cache.Kept.{Kept}
use Rattle.slab_tables.specs.Content.{Content, kept_at, layout_numbers}
use Rattle.slab_core.proofs.SlabFacts.{in_tables}
use Rattle.slab_core.proofs.SlabOfObject.{no_machine_frame, no_slab, none_begins, not_live}
use Rattle.slab_core.proofs.Slabs.locate.Goals as goal
use Rattle.slab_core.proofs.Slabs.locate.Goals.{After-block_around-first, After-kept_of-colour}

first_is : (c : After-block_around-first) → c.block_around-first.result ≡ (around (c.args.place / 4096) (layout_numbers c.args.cache.kept.now).order).first
first_is c = c.block_around-first.ensures.value ∙ ap (λ k. (around (c.args.place / 4096) k).first) c.order-order.ensures

colour_is : (c : After-kept_of-colour) → c.kept_of-colour.result.colour ≡ (kept_at c.args.self.now.kept c.in_ok-machine_frame.machine_frame).colour
colour_is c =
    ap (λ (k : Kept). k.colour) c.kept_of-colour.ensures ∙ ap (λ (s : Content). (kept_at s.kept c.in_ok-machine_frame.machine_frame).colour) c.self.view_is

pub block_around-first-requires : goal.block_around-first-requires
block_around-first-requires c =
    let cut = (in_tables c.args.self.now c.args.cache.tenant c.args.cache.number c.args.cache.kept.now c.requires.parts.1.slabs c.requires.cache).layout in
    omega (arith, cut.order, c.order-order.ensures)

pub returns-in_err-machine_frame : goal.returns-in_err-machine_frame
returns-in_err-machine_frame c =
    let a = goal.at.returns-in_err-machine_frame c in
    rw c.from_residual.ensures
    (no_machine_frame c.requires.parts.1 c.requires.tenant c.requires.cache c.args.place c.block_around-first.result (first_is a.After-block_around-first)
    (sym c.in_err-machine_frame.ensures.value))

pub returns-then-not-is_of_cache : goal.returns-then-not-is_of_cache
returns-then-not-is_of_cache c =
    let a = goal.at.returns-then-not-is_of_cache c in
    no_slab c.requires.parts.1 c.requires.tenant c.requires.cache c.args.place c.block_around-first.result (first_is a.After-block_around-first)
    c.in_ok-machine_frame.machine_frame (sym c.in_ok-machine_frame.ensures.value) (sym c.is_of_cache.ensures ∙ c.if-not-is_of_cache.true)

pub returns-in_err-index : goal.returns-in_err-index
returns-in_err-index c =
    let a = goal.at.returns-in_err-index c in
    rw c.from_residual-in_err-index.ensures
    (none_begins c.requires.parts.1 c.requires.tenant c.requires.cache c.args.place c.block_around-first.result (first_is a.After-block_around-first)
    c.in_ok-machine_frame.machine_frame (sym c.in_ok-machine_frame.ensures.value)
    (subst (λ (x : ℕ). (i : ℕ) → Begins c.args.cache.kept.now.layout x (c.args.place - 4096 * c.block_around-first.result) i → ⊥) (colour_is a.After-kept_of-colour) c.in_err-index.ensures))

pub returns : goal.returns
returns c =
    let a = goal.at.returns c in
    let below = c.block_around-first.ensures.below in
    let under = sym c.in_ok-machine_frame.ensures.value in
    let only : IsOnly (Begins c.args.cache.kept.now.layout (kept_at c.args.self.now.kept c.in_ok-machine_frame.machine_frame).colour (c.args.place - 4096 * c.block_around-first.result)) c.in_ok-index.index =
    subst (λ (x : ℕ). IsOnly (Begins c.args.cache.kept.now.layout x (c.args.place - 4096 * c.block_around-first.result)) c.in_ok-index.index) (colour_is a.After-kept_of-colour) c.in_ok-index.ensures in
    let begins = only.is.begins in record {
      slab = record { cached = c.requires.cache; under = under; listed = sym c.is_of_cache.ensures ∙ c.if-not-is_of_cache.false };
      index = only.is.object;
      begins = omega arith;
      dead = not_live c.requires.parts.1 c.requires.tenant c.requires.cache c.args.place c.block_around-first.result (first_is a.After-block_around-first)
          c.in_ok-machine_frame.machine_frame under c.in_ok-index.index only;
    }
