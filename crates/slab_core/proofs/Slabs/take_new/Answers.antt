use Rattle.std.proofs.Common.{◌≡◌, ◌<◌, Some, sym, ap, ◌∙◌, subst, rules, arith}
use Rattle.std.specs.Prelude.{option_map, IfSome, IfNone}
use Rattle.model_core.specs.Machine as model
use Rattle.model_core.specs.Machine.{Machine}
use Rattle.model_core.specs.Slabs.{cache_of, grown, by_need}
use Rattle.model_core.specs.Operations.{refuse}
use Rattle.model_core.specs.CacheOperations.{take_step}
use Rattle.model_core.specs.declared.refusals.TakeRefusal.TheVariants.{NoCache, NoFrames}
use Rattle.slab_tables.specs.declared.cache.Cache as own
use Rattle.slab_tables.specs.Content.{Content, kept_at, cache_at, layout_numbers}
use Rattle.machine_changes.specs.Shows.{ShowsMachine}
use Rattle.machine_changes.proofs.Lookups.{some_same}
use Rattle.slab_core.specs.Calls.{IsNew}
use Rattle.slab_core.proofs.SlabFacts.{in_tables}
use Rattle.slab_core.proofs.GrowByNeed.{unmoved}
use Rattle.slab_core.proofs.ReturnEmptySlabs.{spares_twice}
use Rattle.slab_core.proofs.TakeStepCases.{no_cache_step, no_frames_step, IsMade, made}
use Rattle.slab_core.proofs.Slabs.take_new.Goals as goal
use Rattle.slab_core.proofs.Slabs.take_new.Goals.{After-from_residual, In_ok-before, After-from_residual-in_err-slab, After-hand_out}

refused : (c : After-from_residual) (m : Machine) → ShowsMachine c.args.space.now c.args.buddy.now c.args.self.now c.args.t m
    → take_step c.args.self.now.top c.args.c m ≡ refuse NoCache m
refused c m h =
    no_cache_step c.args.c h
    (sym (ap (λ (s : Content). cache_at s c.args.t c.args.c) c.self.view_is)
    ∙ (sym c.cache.ensures ∙ ap (option_map (λ x. x.now)) c.in_err-before.ensures.ok_part))

pub returns-in_err-before-clause-answer : goal.returns-in_err-before-clause-answer
returns-in_err-before-clause-answer c = λ m h. let e = refused c m h in rw e (search rules)

pub returns-in_err-before-clause-shows : goal.returns-in_err-before-clause-shows
returns-in_err-before-clause-shows c = λ m h. rw (refused c m h) h

-- the cache that was read is cache c of tenant t in the tables
cached : (c : In_ok-before) → cache_at c.args.self.now c.args.t c.args.c ≡ Some c.in_ok-before.field-0.now
cached c =
    sym (ap (λ (s : Content). cache_at s c.args.t c.args.c) c.self.view_is)
    ∙ (sym c.cache.ensures ∙ ap (option_map (λ x. x.now)) c.in_ok-before.ensures.ok_part)

-- No slab can be made

no_frames : (c : After-from_residual-in_err-slab) (m : Machine) → ShowsMachine c.args.space.now c.args.buddy.now c.args.self.now c.args.t m
    → take_step c.args.self.now.top c.args.c m ≡ refuse NoFrames m
no_frames c m h =
    no_frames_step c.args.c h c.laws_with.ensures.parts.slabs c.requires.agree c.laws_with.ensures.steady
    (cached (goal.at.returns-in_err-slab-clause-answer c).In_ok-before) c.requires.full
    (c.grow.ensures.chosen m h ∙ ap (option_map (λ o. o.first)) c.in_err-slab.ensures.ok_part)

pub returns-in_err-slab-clause-answer : goal.returns-in_err-slab-clause-answer
returns-in_err-slab-clause-answer c = λ m h. let e = no_frames c m h in rw e (search rules)

pub returns-in_err-slab-clause-shows : goal.returns-in_err-slab-clause-shows
returns-in_err-slab-clause-shows c = λ m h.
    let same = subst (λ o. IfNone o ((c.grow.new.space ≡ c.args.space.now) × ((c.grow.new.buddy ≡ c.args.buddy.now) × (c.grow.new.self ≡ c.args.self.now))))
    c.in_err-slab.ensures.ok_part c.grow.ensures.refused in
    rw (no_frames c m h)
    (unmoved (λ r b s. ShowsMachine r b s c.args.t m)
    (sym same.0, (sym same.1.0, sym same.1.1)) h)

-- A slab is made

make_of : (c : After-hand_out) (m : Machine) → ShowsMachine c.args.space.now c.args.buddy.now c.args.self.now c.args.t m
    → IsMade c.args.self.now.top c.args.c m c.grow.new.space c.grow.new.buddy c.grow.new.self c.args.t c.in_ok-slab.slab.first
make_of c m h =
    made c.args.c h c.laws_with.ensures.parts.slabs c.requires.agree c.laws_with.ensures.steady
    (cached (goal.at.returns-clause-answer c).In_ok-before) c.requires.full c.in_ok-slab.slab.first
    (c.grow.ensures.chosen m h ∙ ap (option_map (λ o. o.first)) c.in_ok-slab.ensures.ok_part)
    (λ x ex.
    subst (λ o. IfSome o (λ o. (m : Machine) (x : model.Cache) → ShowsMachine c.args.space.now c.args.buddy.now c.args.self.now c.args.t m
    → cache_of m c.args.c ≡ Some x → ShowsMachine c.grow.new.space c.grow.new.buddy c.grow.new.self c.args.t
    (grown o.first x (by_need c.args.self.now.top (layout_numbers c.in_ok-before.field-0.now).order m))))
    c.in_ok-slab.ensures.ok_part c.grow.ensures.shows m x h ex)

pub returns-clause-answer : goal.returns-clause-answer
returns-clause-answer c = λ m h.
    let u = make_of c m h in
    c.hand_out.ensures.answer u.after u.shown u.slab u.shows u.found u.standing ∙ sym (ap (λ z. z.answer) u.step)

pub returns-clause-shows : goal.returns-clause-shows
returns-clause-shows c = λ m h.
    let u = make_of c m h in
    subst (λ z. ShowsMachine c.hand_out.new.space c.grow.new.buddy c.hand_out.new.self c.args.t z.machine) (sym u.step)
    (c.hand_out.ensures.shows u.after u.shown u.slab u.shows u.found u.standing)

pub returns-clause-spares : goal.returns-clause-spares
returns-clause-spares c = spares_twice c.grow.ensures.spares c.hand_out.ensures.spares

-- the new slab has a free object
pub hand_out-requires-clause-free : goal.hand_out-requires-clause-free
hand_out-requires-clause-free c =
    let x = c.args in
    let before = c.in_ok-before.field-0.now in
    let fresh : IsNew c.grow.new.space c.grow.new.self x.t x.c before c.in_ok-slab.slab.first c.in_ok-slab.slab.machine_frame =
    subst (λ o. IfSome o (λ p. IsNew c.grow.new.space c.grow.new.self x.t x.c before p.first p.machine_frame)) c.in_ok-slab.ensures.ok_part c.grow.ensures.slab in
    let after : cache_at c.grow.new.self x.t x.c ≡ Some c.unwrap.result.now =
    sym (ap (λ (s : Content). cache_at s x.t x.c) c.self-2.view_is) ∙ (sym c.cache-2.ensures ∙ ap (option_map (λ z. z.now)) c.unwrap.ensures) in
    let cut = (in_tables x.self.now x.t x.c before c.laws_with.ensures.parts.slabs (cached (goal.at.hand_out-requires-clause-free c).In_ok-before)).layout in
    let free : (kept_at c.grow.new.self.kept c.in_ok-slab.slab.machine_frame).live < (layout_numbers before).count = omega (arith, fresh.empty, (cut.fits 0).some) in
    subst (λ (z : own.Cache). (kept_at c.grow.new.self.kept c.in_ok-slab.slab.machine_frame).live < (layout_numbers z).count) (some_same (sym fresh.slab.cached ∙ after)) free
