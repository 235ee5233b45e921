use Rattle.std.proofs.Common.{◌≡◌, true, sym, ap, ◌∙◌, subst, arith}
use Rattle.std.specs.Prelude.{is_some}
use Rattle.std.proofs.lemmas.Bool.{false≢true}
use Rattle.model_core.specs.Machine.{Machine, choice}
use Rattle.model_core.specs.Slabs.{reaped}
use Rattle.slab_tables.specs.Content.{layout_numbers}
use Rattle.machine_changes.specs.Shows.{ShowsMachine}
use Rattle.machine_changes.specs.Fitting.{WouldFit}
use Rattle.machine_changes.specs.Changes.{IsReturned}
use Rattle.slab_core.specs.Calls.{idle_at}
use Rattle.slab_core.specs.Fitting.{HasFreeBlock}
use Rattle.slab_core.proofs.GrowByNeed.{choice_above, need_none, unmoved, grown_by_need, chosen_by_need, grown_at_once}
use Rattle.slab_core.proofs.ReserveByNeed.{found_choice, next_choice, fits_free, is_there}
use Rattle.slab_core.proofs.ReturnEmptySlabs.{spares_twice}
use Rattle.slab_core.proofs.Slabs.grow.Goals as goal
use Rattle.slab_core.proofs.Slabs.grow.Goals.{then-order-via-then-order, then-order-via-else-order+then-not-fits_by_need}

pub returns-in-Some-clause-chosen : goal.returns-in-Some-clause-chosen
returns-in-Some-clause-chosen c = λ m h.
    sym (found_choice c.args.self.now.top (layout_numbers c.args.cache.kept.now).order m c.in-Some.slab.first (sym (c.in-Some.ensures.chosen m h)))

pub returns-in-Some-clause-shows : goal.returns-in-Some-clause-shows
returns-in-Some-clause-shows c =
    grown_at_once c.args.cache.tenant c.args.cache.number (layout_numbers c.args.cache.kept.now).order c.in-Some.slab.first
    c.in-Some.ensures.chosen c.in-Some.ensures.shows

pub fits_by_need-requires-clause-none : goal.fits_by_need-requires-clause-none
fits_by_need-requires-clause-none c = λ h.
    let x = c.args in
    false≢true (c.in_default.ensures.free.1 (subst (λ k. HasFreeBlock x.buddy.now x.cache.tenant k) c.order-order.ensures
    (subst (λ b. HasFreeBlock b x.cache.tenant c.order-order.result) c.in_default.ensures.refused.1.0 h)))

pub returns-then-order-clause-chosen : goal.returns-then-order-clause-chosen
returns-then-order-clause-chosen c =
    let x = c.args in
    let order = (layout_numbers x.cache.kept.now).order in
    elim c.then-order.branch [
      | then-order-via-then-order w ↦ λ m h.
          next_choice x.self.now.top order m (sym (c.in_default.ensures.chosen m h))
          ∙ choice_above x.self.now.top order (reaped m)
          (omega (arith, w.if-order.true, c.order.ensures, c.order-order.ensures, c.requires.agree.order, ap (λ b. b.top) c.in_default.ensures.refused.1.0))
      | then-order-via-else-order+then-not-fits_by_need w ↦ λ m h.
          let answer = unmoved
          (λ r b s. (m : Machine) → ShowsMachine r b s x.cache.tenant m → w.fits_by_need.result ≡ is_some (choice s.top (reaped m) c.order-order.result))
          c.in_default.ensures.refused w.fits_by_need.ensures.answer in
          let same : w.fits_by_need.result ≡ is_some (choice x.self.now.top (reaped m) order) =
          answer m h ∙ ap (λ k. is_some (choice x.self.now.top (reaped m) k)) c.order-order.ensures in
          need_none x.self.now.top order m (c.in_default.ensures.chosen m h) (sym same ∙ w.if-not-fits_by_need.true)
    ]

returned : (c : goal.After-make_slab-2) → IsReturned c.args.space.now c.give_back_all.new.space c.args.buddy.now c.give_back_all.new.buddy
    c.args.self.now c.give_back_all.new.self c.args.cache.tenant (idle_at (λ i. true) c.args.space.now c.args.self.now c.args.cache.tenant)
returned c =
    unmoved
    (λ r b s. IsReturned r c.give_back_all.new.space b c.give_back_all.new.buddy s c.give_back_all.new.self c.args.cache.tenant (idle_at (λ i. true) r s c.args.cache.tenant))
    c.in_default.ensures.refused (rw c.fits_by_need.ensures.same at c.give_back_all.ensures.returned)

pub returns-clause-chosen : goal.returns-clause-chosen
returns-clause-chosen c =
    chosen_by_need c.laws_with.ensures.parts.slabs c.requires.agree c.laws_with.ensures.steady (returned c)
    (layout_numbers c.args.cache.kept.now).order c.make_slab-2.result
    c.in_default.ensures.chosen c.make_slab-2.ensures.chosen

pub returns-clause-shows : goal.returns-clause-shows
returns-clause-shows c =
    grown_by_need c.laws_with.ensures.parts.slabs c.requires.agree c.laws_with.ensures.steady (returned c)
    (layout_numbers c.args.cache.kept.now).order c.make_slab-2.result c.in_default.ensures.chosen c.make_slab-2.ensures.chosen
    c.make_slab-2.new.space c.make_slab-2.new.buddy c.make_slab-2.new.self c.args.cache.number c.requires.full c.make_slab-2.ensures.shows

pub returns-clause-spares : goal.returns-clause-spares
returns-clause-spares c =
    spares_twice c.make_slab.ensures.spares (spares_twice (rw c.fits_by_need.ensures.same at c.give_back_all.ensures.spares) c.make_slab-2.ensures.spares)

pub returns-clause-refused : goal.returns-clause-refused
returns-clause-refused c =
    let x = c.args in
    let fits : WouldFit x.space.now x.buddy.now x.self.now x.cache.tenant (layout_numbers x.cache.kept.now).order =
    subst (λ k. WouldFit x.space.now x.buddy.now x.self.now x.cache.tenant k) c.order-order.ensures
    (unmoved (λ r b s. WouldFit r b s x.cache.tenant c.order-order.result) c.in_default.ensures.refused (c.fits_by_need.ensures.fits.0 c.if-not-fits_by_need.false)) in
    is_there c.make_slab-2.result _
    (c.make_slab-2.ensures.free.1 (fits_free c.laws_with.ensures.steady (returned c) c.give_back_all.ensures.agree fits))
