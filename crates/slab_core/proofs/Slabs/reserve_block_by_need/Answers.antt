use Rattle.std.proofs.Common.{◌≡◌, true, false, refl, subst, sym, ◌∙◌}
use Rattle.std.specs.Prelude.{◌↔◌, is_some, option_map}
use Rattle.std.proofs.lemmas.Bool.{false≢true}
use Rattle.model_core.specs.Machine.{Machine, choice}
use Rattle.model_core.specs.Operations.{alloc_step}
use Rattle.model_core.specs.Slabs.{reaped}
use Rattle.machine_changes.specs.Shows.{ShowsMachine}
use Rattle.machine_changes.specs.Keeps.{Spares}
use Rattle.machine_changes.specs.Changes.{IsReturned}
use Rattle.machine_changes.specs.Fitting.{WouldFit}
use Rattle.buddy_core.specs.declared.ReservedBlock.{ReservedBlock}
use Rattle.slab_core.specs.Calls.{idle_at}
use Rattle.slab_core.specs.Fitting.{HasFreeBlock}
use Rattle.slab_core.proofs.ReturnEmptySlabs.{spares_twice}
use Rattle.slab_core.proofs.ReserveByNeed.{found_choice, found_step, free_fits, next_choice, no_choice, refused_step, is_there, first_some, first_shown, IsServedThen, served_then}
use Rattle.slab_core.proofs.Slabs.reserve_block_by_need.Goals as goal

-- a block is found at once
pub returns-in-Some-clause-answer : goal.returns-in-Some-clause-answer
returns-in-Some-clause-answer c = λ m h. found_choice c.args.self.now.top c.args.k m c.in-Some.reserved.first (c.in-Some.ensures.answer m h)

pub returns-in-Some-clause-shows : goal.returns-in-Some-clause-shows
returns-in-Some-clause-shows c = λ m h.
    subst (ShowsMachine c.args.space.now c.reserve.new.buddy c.args.self.now c.args.t)
    (sym (found_step c.args.self.now.top c.args.k m c.requires.order c.in-Some.reserved.first (c.in-Some.ensures.answer m h)))
    (c.in-Some.ensures.shows m h)

pub returns-in-Some-clause-fits : goal.returns-in-Some-clause-fits
returns-in-Some-clause-fits c =
    let found : true ≡ true = refl in (
      λ e. free_fits c.args.space.now c.args.buddy.now c.args.self.now c.args.t c.args.k c.requires.agree (c.in-Some.ensures.free.0 e),
      λ fits. found,
    )

pub fits_by_need-requires-clause-none : goal.fits_by_need-requires-clause-none
fits_by_need-requires-clause-none c = λ h.
    false≢true (c.in_default.ensures.free.1 (subst (λ b. HasFreeBlock b c.args.t c.args.k) c.in_default.ensures.refused h))

-- if `fits_by_need` returns false, the machine finds no block even after reaping
still_none : (c : goal.Then-not-fits_by_need) (m : Machine) → ShowsMachine c.args.space.now c.args.buddy.now c.args.self.now c.args.t m
    → false ≡ is_some (choice c.args.self.now.top (reaped m) c.args.k)
still_none c m h =
    sym c.if-not-fits_by_need.true
    ∙ c.fits_by_need.ensures.answer m (subst (λ b. ShowsMachine c.args.space.now b c.args.self.now c.args.t m) (sym c.in_default.ensures.refused) h)

pub returns-then-not-fits_by_need-clause-answer : goal.returns-then-not-fits_by_need-clause-answer
returns-then-not-fits_by_need-clause-answer c = λ m h.
    sym (next_choice c.args.self.now.top c.args.k m (c.in_default.ensures.answer m h)
    ∙ no_choice c.args.self.now.top c.args.k m (choice c.args.self.now.top (reaped m) c.args.k) (still_none c m h))

pub returns-then-not-fits_by_need-clause-shows : goal.returns-then-not-fits_by_need-clause-shows
returns-then-not-fits_by_need-clause-shows c = λ m h.
    rw c.fits_by_need.ensures.same
    (subst (λ b. ShowsMachine c.args.space.now b c.args.self.now c.args.t (alloc_step c.args.self.now.top c.args.k m).machine) (sym c.in_default.ensures.refused)
    (subst (ShowsMachine c.args.space.now c.args.buddy.now c.args.self.now c.args.t)
    (sym (refused_step c.args.self.now.top c.args.k m c.requires.order (c.in_default.ensures.answer m h) (still_none c m h))) h))

pub returns-then-not-fits_by_need-clause-fits : goal.returns-then-not-fits_by_need-clause-fits
returns-then-not-fits_by_need-clause-fits c = (
  λ e. absurd (false≢true e),
  λ fits. sym c.if-not-fits_by_need.true
      ∙ c.fits_by_need.ensures.fits.1 (subst (λ b. WouldFit c.args.space.now b c.args.self.now c.args.t c.args.k) (sym c.in_default.ensures.refused) fits),
)

-- if `fits_by_need` returns true, exactly the empty slabs are freed
gone : (c : goal.After-reserve_then) → IsReturned c.args.space.now c.give_back_all.new.space c.args.buddy.now c.give_back_all.new.buddy
    c.args.self.now c.give_back_all.new.self c.args.t (idle_at (λ i. true) c.args.space.now c.args.self.now c.args.t)
gone c =
    subst (λ b. IsReturned c.args.space.now c.give_back_all.new.space b c.give_back_all.new.buddy c.args.self.now c.give_back_all.new.self c.args.t
    (idle_at (λ i. true) c.args.space.now c.args.self.now c.args.t)) c.in_default.ensures.refused (rw c.fits_by_need.ensures.same at c.give_back_all.ensures.returned)

fits : (c : goal.After-reserve_then) → WouldFit c.args.space.now c.args.buddy.now c.args.self.now c.args.t c.args.k
fits c =
    subst (λ b. WouldFit c.args.space.now b c.args.self.now c.args.t c.args.k) c.in_default.ensures.refused
    (c.fits_by_need.ensures.fits.0 c.if-not-fits_by_need.false)

served : (c : goal.After-reserve_then) → IsServedThen c.args.space.now c.give_back_all.new.space c.args.buddy.now c.reserve_then.new.buddy
    c.args.self.now c.give_back_all.new.self c.args.t c.args.k (option_map (λ (x : ReservedBlock). x.first) c.reserve_then.result)
served c =
    served_then c.laws_with.ensures.steady (gone c) c.laws_with.ensures.parts.slabs c.requires.agree c.give_back_all.ensures.agree
    c.requires.order (fits c) c.in_default.ensures.answer (option_map (λ (x : ReservedBlock). x.first) c.reserve_then.result) c.reserve_then.ensures.answer
    (first_shown c.reserve_then.result _ c.reserve_then.ensures.shows)
    (subst (λ v. (v ≡ true) ↔ HasFreeBlock c.give_back_all.new.buddy c.args.t c.args.k) (sym (first_some c.reserve_then.result)) c.reserve_then.ensures.free)

pub returns-clause-answer : goal.returns-clause-answer
returns-clause-answer c = (served c).answer

pub returns-clause-shows : goal.returns-clause-shows
returns-clause-shows c = (served c).shows

pub returns-clause-fits : goal.returns-clause-fits
returns-clause-fits c = (λ e. fits c, λ r. sym (first_some c.reserve_then.result) ∙ (served c).some)

pub returns-clause-refused : goal.returns-clause-refused
returns-clause-refused c = is_there c.reserve_then.result _ (sym (first_some c.reserve_then.result) ∙ (served c).some)

pub returns-clause-spares : goal.returns-clause-spares
returns-clause-spares c =
    spares_twice
    (subst (λ b. Spares c.args.t c.args.space.now c.give_back_all.new.space b c.give_back_all.new.buddy c.args.self.now c.give_back_all.new.self)
    c.in_default.ensures.refused (rw c.fits_by_need.ensures.same at c.give_back_all.ensures.spares))
    c.reserve_then.ensures.spares
