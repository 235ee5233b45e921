use Rattle.std.proofs.Common.{◌≡◌, ℕ, ◌<◌, length, Some, None, refl, sym, ap, ◌∙◌, subst, arith}
use Rattle.std.specs.Prelude.{option_map}
use Rattle.std.proofs.lemmas.List.{length-set}
use Rattle.model_core.specs.Blocks.{IsWithout}
use Rattle.klist_core.specs.Places.{place_at}
use Rattle.buddy_core.specs.Content.{is_held, taken_of, holding_of, with_holding, with_block}
use Rattle.slab_tables.specs.Content.{layout_numbers, kept_at, head_of}
use Rattle.slab_tables.specs.Changes.{fresh_kept, with_new_slab}
use Rattle.slab_core.specs.declared.objects.Slab.{Slab}
use Rattle.slab_core.specs.Calls.{IsConstructed}
use Rattle.slab_core.proofs.Slabs.make_slab.Goals as goal
use Rattle.slab_core.proofs.Slabs.make_slab.Goals.{Then-order, In_err-first, In-Some, After-kept_of-colour, After-construct}
use Rattle.slab_core.proofs.GrowOnFreeBlock.{has_machine_frame, choice_some, choice_none, choice_large, none_large, chosen_for, none_free, some_free, IsChosen, cut, in_reach, few, vacant, fresh, machine_frame_within, kept_now, IsMade, made}

-- The block would be larger than a slot

above : (c : Then-order) → c.args.buddy.now.top < (layout_numbers c.args.cache.kept.now).order
above c = omega (arith, c.if-order.true, c.order.ensures, c.order-order.ensures)

pub returns-then-order-clause-chosen : goal.returns-then-order-clause-chosen
returns-then-order-clause-chosen c = λ m h.
    let a = (goal.at.returns-then-order-clause-chosen c).Then-order in
    choice_large c.args.cache.tenant (layout_numbers c.args.cache.kept.now).order c.requires.agree c.laws_with.ensures.steady m h (above a)

pub returns-then-order-clause-free : goal.returns-then-order-clause-free
returns-then-order-clause-free c =
    let a = (goal.at.returns-then-order-clause-free c).Then-order in
    none_free {A = Slab} c.args.buddy.now c.args.cache.tenant (layout_numbers c.args.cache.kept.now).order
    (none_large c.args.cache.tenant (layout_numbers c.args.cache.kept.now).order c.requires.agree (above a)) None refl

-- No free block is large enough

without : (c : In_err-first) → IsWithout c.args.buddy.now.top (is_held (holding_of c.args.cache.tenant c.args.buddy.now)) (taken_of (holding_of c.args.cache.tenant c.args.buddy.now)) (layout_numbers c.args.cache.kept.now).order
without c =
    subst (IsWithout c.args.buddy.now.top (is_held (holding_of c.args.cache.tenant c.args.buddy.now)) (taken_of (holding_of c.args.cache.tenant c.args.buddy.now)))
    c.order-order.ensures c.in_err-first.ensures.refused.0

pub returns-in_err-first-clause-chosen : goal.returns-in_err-first-clause-chosen
returns-in_err-first-clause-chosen c = λ m h.
    let a = (goal.at.returns-in_err-first-clause-chosen c).In_err-first in
    choice_none c.args.cache.tenant (layout_numbers c.args.cache.kept.now).order c.requires.agree c.laws_with.ensures.steady m h (without a)
    ∙ sym (ap (option_map (λ o. o.first)) c.from_residual.ensures)

pub returns-in_err-first-clause-free : goal.returns-in_err-first-clause-free
returns-in_err-first-clause-free c =
    let a = (goal.at.returns-in_err-first-clause-free c).In_err-first in
    none_free {A = Slab} c.args.buddy.now c.args.cache.tenant (layout_numbers c.args.cache.kept.now).order (without a) c.from_residual.result c.from_residual.ensures

-- A block is chosen

pub unreachable-unreachable : goal.unreachable-unreachable
unreachable-unreachable c =
    has_machine_frame c.args.cache.tenant (layout_numbers c.args.cache.kept.now).order c.requires.agree
    c.in_ok-first.first c.in_ok-first.ensures.done.0 (chosen_for c.args.buddy.now c.args.cache.tenant _ _ _ _ c.order-order.ensures c.in_ok-first.ensures.done.1.0)
    (sym c.machine_frame.ensures.value ∙ c.in_default.is)

chosen : (c : In-Some) → IsChosen c.args.space.now c.args.buddy.now c.args.self.now c.args.cache.tenant c.args.cache.number c.args.cache.kept.now
    c.in_ok-first.first c.in_ok-first.ensures.done.0 c.in-Some.machine_frame
chosen c = record {
  parts = c.laws_with.ensures.parts;
  steady = c.laws_with.ensures.steady;
  tenant = c.requires.tenant;
  cached = c.requires.cache;
  block = chosen_for c.args.buddy.now c.args.cache.tenant _ _ _ _ c.order-order.ensures c.in_ok-first.ensures.done.1.0;
  under = sym c.machine_frame.ensures.value ∙ c.in-Some.is;
}

pub add_slab-requires-clause-machine_frame : goal.add_slab-requires-clause-machine_frame
add_slab-requires-clause-machine_frame c = subst (λ s. c.in-Some.machine_frame < length s.lists.places) (sym c.self.view_is) (machine_frame_within (chosen (goal.at.add_slab-requires-clause-machine_frame c).In-Some))

pub add_slab-requires-clause-free : goal.add_slab-requires-clause-free
add_slab-requires-clause-free c = subst (λ s. place_at s.lists.places c.in-Some.machine_frame ≡ None) (sym c.self.view_is) (vacant (chosen (goal.at.add_slab-requires-clause-free c).In-Some))

pub add_slab-requires-clause-fresh : goal.add_slab-requires-clause-fresh
add_slab-requires-clause-fresh c =
    subst (λ s. (n : ℕ) → place_at s.lists.places n ≡ Some (head_of c.args.cache.tenant c.args.cache.number 2, c.in_ok-first.first) → ⊥) (sym c.self.view_is)
    (fresh (chosen (goal.at.add_slab-requires-clause-fresh c).In-Some))

pub construct-requires-clause-in_reach : goal.construct-requires-clause-in_reach
construct-requires-clause-in_reach c = in_reach (chosen (goal.at.construct-requires-clause-in_reach c).In-Some)

pub construct-requires-clause-first : goal.construct-requires-clause-first
construct-requires-clause-first c = few (chosen (goal.at.construct-requires-clause-first c).In-Some)

pub construct-requires-clause-layout : goal.construct-requires-clause-layout
construct-requires-clause-layout c = cut (chosen (goal.at.construct-requires-clause-layout c).In-Some)

pub returns-clause-chosen : goal.returns-clause-chosen
returns-clause-chosen c = λ m h.
    choice_some c.args.cache.tenant (layout_numbers c.args.cache.kept.now).order c.requires.agree c.laws_with.ensures.steady m h
    c.in_ok-first.first c.in_ok-first.ensures.done.0 (chosen (goal.at.returns-clause-chosen c).In-Some).block

pub returns-clause-free : goal.returns-clause-free
returns-clause-free c =
    some_free {A = Slab} c.args.buddy.now c.args.cache.tenant (layout_numbers c.args.cache.kept.now).order c.in_ok-first.first c.in_ok-first.ensures.done.0
    (chosen (goal.at.returns-clause-free c).In-Some).block (record { first = c.in_ok-first.first; machine_frame = c.in-Some.machine_frame })

-- The slab is made

tables : (c : After-kept_of-colour) → c.add_slab.new.self ≡ with_new_slab c.args.self.now c.args.cache.tenant c.args.cache.number c.args.cache.kept.now c.in_ok-first.first c.in-Some.machine_frame
tables c = c.add_slab.ensures ∙ ap (λ s. with_new_slab s c.args.cache.tenant c.args.cache.number c.args.cache.kept.now c.in_ok-first.first c.in-Some.machine_frame) c.self.view_is

colour_is : (c : After-construct) → c.kept_of-colour.result.colour ≡ (fresh_kept c.args.cache.kept.now).colour
colour_is c =
    ap (λ x. x.colour) (c.kept_of-colour.ensures ∙ ap (λ s. kept_at s.kept c.in-Some.machine_frame) (tables (goal.at.returns-clause-grown c).After-kept_of-colour)
    ∙ kept_now (chosen (goal.at.returns-clause-grown c).In-Some))

pub kept_of-colour-requires : goal.kept_of-colour-requires
kept_of-colour-requires c =
    subst (λ s. c.in-Some.machine_frame < length s.lists.places) (sym c.add_slab.ensures)
    (subst (λ l. c.in-Some.machine_frame < l) (sym (length-set c.self.inside.tables.lists.places c.in-Some.machine_frame (Some (head_of c.args.cache.tenant c.args.cache.number 2, c.in_ok-first.first))))
    (subst (λ s. c.in-Some.machine_frame < length s.lists.places) (sym c.self.view_is) (machine_frame_within (chosen (goal.at.kept_of-colour-requires c).In-Some))))

pub construct-requires-clause-colour : goal.construct-requires-clause-colour
construct-requires-clause-colour c = (
  c.args.cache.kept.now.made,
  ap (λ x. x.colour) (c.kept_of-colour.ensures
      ∙ ap (λ s. kept_at s.kept c.in-Some.machine_frame) (tables (goal.at.construct-requires-clause-colour c).After-kept_of-colour)
      ∙ kept_now (chosen (goal.at.construct-requires-clause-colour c).In-Some)),
)

built : (c : After-construct) → IsConstructed c.args.space.now c.construct.new.space c.args.cache.tenant c.args.cache.kept.now c.in_ok-first.first (fresh_kept c.args.cache.kept.now).colour (layout_numbers c.args.cache.kept.now).count
built c =
    subst (λ x. IsConstructed c.args.space.now c.construct.new.space c.args.cache.tenant c.args.cache.kept.now c.in_ok-first.first x (layout_numbers c.args.cache.kept.now).count)
    (colour_is c) c.construct.ensures

is_made : (c : After-construct) → IsMade (chosen (goal.at.returns-clause-grown c).In-Some) (built c) c.reserve.new.self c.add_slab.new.self
is_made c =
    made (chosen (goal.at.returns-clause-grown c).In-Some) (built c) c.reserve.new.self c.add_slab.new.self
    (c.in_ok-first.ensures.done.1.1 ∙ ap (λ k. with_holding c.args.cache.tenant (with_block c.in_ok-first.first k (holding_of c.args.cache.tenant c.args.buddy.now)) c.args.buddy.now) c.order-order.ensures)
    (tables (goal.at.returns-clause-grown c).After-kept_of-colour)

pub returns-clause-grown : goal.returns-clause-grown
returns-clause-grown c = (is_made c).grown

pub returns-clause-spares : goal.returns-clause-spares
returns-clause-spares c = (is_made c).spares

pub returns-clause-agree : goal.returns-clause-agree
returns-clause-agree c = (is_made c).agree

pub returns-clause-shows : goal.returns-clause-shows
returns-clause-shows c = (is_made c).shows
