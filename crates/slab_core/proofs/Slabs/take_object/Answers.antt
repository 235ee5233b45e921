use Rattle.std.proofs.Common.{◌≡◌, Some, sym, ap, ◌∙◌, subst, rules}
use Rattle.std.specs.Prelude.{option_map}
use Rattle.model_core.specs.Machine.{Machine}
use Rattle.model_core.specs.Operations.{refuse}
use Rattle.model_core.specs.CacheOperations.{take_step}
use Rattle.model_core.specs.declared.refusals.TakeRefusal.TheVariants.{NoCache}
use Rattle.slab_tables.specs.Content.{Content, cache_at}
use Rattle.machine_changes.specs.Shows.{ShowsMachine}
use Rattle.slab_core.specs.Objects.{standing}
use Rattle.slab_core.proofs.TakeStepCases.{no_cache_step, IsUsed, used}
use Rattle.slab_core.proofs.Slabs.take_object.Goals as goal
use Rattle.slab_core.proofs.Slabs.take_object.Goals.{After-from_residual, In_ok-kept, After-hand_out}

refused : (c : After-from_residual) (m : Machine) → ShowsMachine c.args.space.now c.args.buddy.now c.args.self.now c.args.t m
    → take_step c.args.self.now.top c.args.c m ≡ refuse NoCache m
refused c m h =
    no_cache_step c.args.c h
    (sym (ap (λ (s : Content). cache_at s c.args.t c.args.c) c.self.view_is)
    ∙ (sym c.cache.ensures ∙ ap (option_map (λ x. x.now)) c.in_err-kept.ensures.ok_part))

pub returns-in_err-kept-clause-answer : goal.returns-in_err-kept-clause-answer
returns-in_err-kept-clause-answer c = λ m h. let e = refused c m h in rw e (search rules)

pub returns-in_err-kept-clause-shows : goal.returns-in_err-kept-clause-shows
returns-in_err-kept-clause-shows c = λ m h. rw (refused c m h) h

-- the cache that was read is cache c of tenant t in the tables
cached : (c : In_ok-kept) → cache_at c.args.self.now c.args.t c.args.c ≡ Some c.in_ok-kept.field-0.now
cached c =
    sym (ap (λ (s : Content). cache_at s c.args.t c.args.c) c.self.view_is)
    ∙ (sym c.cache.ensures ∙ ap (option_map (λ x. x.now)) c.in_ok-kept.ensures.ok_part)

-- An existing slab is used

use_of : (c : After-hand_out) (m : Machine) → ShowsMachine c.args.space.now c.args.buddy.now c.args.self.now c.args.t m
    → IsUsed c.args.self.now.top c.args.c m c.in-Some.slab.first
use_of c m h =
    used c.args.c h c.laws_with.ensures.parts.slabs c.requires.agree c.laws_with.ensures.steady
    (cached (goal.at.returns-in-Some-clause-answer c).In_ok-kept) (standing c.in-Some.slab) c.in-Some.ensures.slab

pub returns-in-Some-clause-answer : goal.returns-in-Some-clause-answer
returns-in-Some-clause-answer c = λ m h.
    let u = use_of c m h in
    c.hand_out.ensures.answer m u.shown u.slab h u.found u.standing ∙ sym (ap (λ z. z.answer) u.step)

pub returns-in-Some-clause-shows : goal.returns-in-Some-clause-shows
returns-in-Some-clause-shows c = λ m h.
    let u = use_of c m h in
    subst (λ z. ShowsMachine c.hand_out.new.space c.args.buddy.now c.hand_out.new.self c.args.t z.machine) (sym u.step)
    (c.hand_out.ensures.shows m u.shown u.slab h u.found u.standing)
