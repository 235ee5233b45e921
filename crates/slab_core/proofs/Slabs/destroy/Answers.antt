use Rattle.std.proofs.Common.{◌≡◌, ℕ, Some, None, sym, ap, ◌∙◌, subst}
use Rattle.std.proofs.lemmas.Bool.{false≢true}
use Rattle.model_core.specs.CacheOperations.{destroy_step}
use Rattle.model_core.specs.Machine.{Machine}
use Rattle.model_core.specs.Operations.{refuse}
use Rattle.model_core.specs.declared.refusals.DestroyRefusal.TheVariants.{CacheInUse}
use Rattle.slab_tables.specs.Content.{IsPlacedIn, cache_at}
use Rattle.slab_tables.specs.Changes.{with_cache}
use Rattle.machine_changes.specs.Shows.{ShowsMachine, Agree}
use Rattle.machine_changes.specs.Keeps.{Spares}
use Rattle.slab_core.proofs.Slabs.destroy.Goals as goal
use Rattle.slab_core.proofs.Slabs.destroy.Goals.{In-Some, Then-in_use, After-give_back_empty}
use Rattle.slab_core.proofs.BareCache.{cache_agrees}
use Rattle.slab_core.proofs.ReturnEmptySlabs.{spares_twice}
use Rattle.slab_core.proofs.DestroyCache.{unplaced, no_cache_step, used_step, IsDestroyed, destroyed_as, spares_entry, IsLeft, left_of}

vacant : (c : goal.In_default) → cache_at c.args.self.now c.args.t c.args.c ≡ None
vacant c = subst (λ s. cache_at s c.args.t c.args.c ≡ None) c.self.view_is (sym c.cache.ensures ∙ sym c.copied.ensures ∙ c.in_default.is)

pub returns-in_default-clause-answer : goal.returns-in_default-clause-answer
returns-in_default-clause-answer c = λ m h. sym (ap (λ z. z.answer) (no_cache_step c.args.space.now c.args.buddy.now c.args.self.now c.args.t c.args.c m h (vacant c)))

pub returns-in_default-clause-shows : goal.returns-in_default-clause-shows
returns-in_default-clause-shows c = λ m h.
    subst (λ z. ShowsMachine c.args.space.now c.args.buddy.now c.args.self.now c.args.t z.machine) (sym (no_cache_step c.args.space.now c.args.buddy.now c.args.self.now c.args.t c.args.c m h (vacant c))) h

-- the cache that was read is cache c of tenant t in the tables
cached : (c : In-Some) → cache_at c.args.self.now c.args.t c.args.c ≡ Some c.in-Some.kept
cached c = subst (λ s. cache_at s c.args.t c.args.c ≡ Some c.in-Some.kept) c.self.view_is (sym c.cache.ensures ∙ sym c.copied.ensures ∙ c.in-Some.is)

used : (c : Then-in_use) (m : Machine) → ShowsMachine c.args.space.now c.args.buddy.now c.args.self.now c.args.t m
    → destroy_step c.args.c m ≡ refuse CacheInUse m
used c m h =
    used_step c.args.c c.laws_with.ensures.parts.slabs c.requires.agree c.laws_with.ensures.steady
    (cached (goal.at.returns-then-in_use-clause-answer c).In-Some) (λ unused. false≢true (sym (c.in_use.ensures.1 unused) ∙ c.if-in_use.true)) m h

pub returns-then-in_use-clause-answer : goal.returns-then-in_use-clause-answer
returns-then-in_use-clause-answer c = λ m h. sym (ap (λ z. z.answer) (used (goal.at.returns-then-in_use-clause-answer c).Then-in_use m h))

pub returns-then-in_use-clause-shows : goal.returns-then-in_use-clause-shows
returns-then-in_use-clause-shows c = λ m h.
    subst (λ z. ShowsMachine c.args.space.now c.args.buddy.now c.args.self.now c.args.t z.machine)
    (sym (used (goal.at.returns-then-in_use-clause-shows c).Then-in_use m h)) h

left : (c : After-give_back_empty) → IsLeft c.give_back_empty.new.self c.args.t c.args.c
left c =
    left_of c.args.c
    (subst (λ s. cache_at s c.args.t c.args.c ≡ Some c.in-Some.kept) c.self.view_is (sym c.cache.ensures ∙ sym c.copied.ensures ∙ c.in-Some.is))
    c.requires.tenant c.give_back_empty.ensures.spares c.give_back_empty.ensures.agree (c.in_use.ensures.0 c.if-in_use.false)
    c.give_back_empty.ensures.empty c.give_back_empty.ensures.lists

pub remove_cache-requires-clause-without_slabs : goal.remove_cache-requires-clause-without_slabs
remove_cache-requires-clause-without_slabs c =
    subst (λ s. (first machine_frame : ℕ) → IsPlacedIn s c.args.t c.args.c first machine_frame → ⊥) (sym c.self-2.view_is)
    (unplaced c.give_back_empty.new.self c.args.t c.args.c (left (goal.at.remove_cache-requires-clause-without_slabs c).After-give_back_empty).bare)

removed : (c : goal.After-remove_cache) → c.remove_cache.new.self ≡ with_cache c.give_back_empty.new.self c.args.t c.args.c None
removed c = c.remove_cache.ensures ∙ ap (λ s. with_cache s c.args.t c.args.c None) c.self-2.view_is

left_now : (c : goal.After-remove_cache) → IsLeft c.give_back_empty.new.self c.args.t c.args.c
left_now c = left (goal.at.returns-clause-answer c).After-give_back_empty

destroyed : (c : goal.After-remove_cache) (m : Machine) → ShowsMachine c.args.space.now c.args.buddy.now c.args.self.now c.args.t m
    → IsDestroyed c.give_back_empty.new.space c.give_back_empty.new.buddy c.give_back_empty.new.self c.args.t c.args.c m c.empty_frames_of-frames.result
destroyed c m h =
    destroyed_as c.args.c c.laws_with.ensures.parts.slabs c.requires.agree c.laws_with.ensures.steady
    (cached (goal.at.returns-clause-answer c).In-Some) (c.in_use.ensures.0 c.if-in_use.false) (left_now c)
    c.give_back_empty.ensures.returned m h c.empty_frames_of-frames.result
    (c.empty_frames_of-frames.ensures.frames c.args.space.now c.args.buddy.now m c.requires.agree c.laws_with.ensures.steady h)

pub returns-clause-answer : goal.returns-clause-answer
returns-clause-answer c = λ m h. (destroyed c m h).answer

pub returns-clause-shows : goal.returns-clause-shows
returns-clause-shows c = λ m h.
    subst (λ s. ShowsMachine c.give_back_empty.new.space c.give_back_empty.new.buddy s c.args.t (destroy_step c.args.c m).machine) (sym (removed c)) (destroyed c m h).shown

pub returns-clause-spares : goal.returns-clause-spares
returns-clause-spares c =
    subst (λ s. Spares c.args.t c.args.space.now c.give_back_empty.new.space c.args.buddy.now c.give_back_empty.new.buddy c.args.self.now s) (sym (removed c))
    (spares_twice c.give_back_empty.ensures.spares
    (spares_entry c.give_back_empty.new.space c.give_back_empty.new.buddy (left_now c)))

pub returns-clause-agree : goal.returns-clause-agree
returns-clause-agree c =
    subst (λ s. Agree c.give_back_empty.new.space c.give_back_empty.new.buddy s) (sym (removed c))
    (cache_agrees c.give_back_empty.new.self c.args.t c.args.c None (left_now c).small (left_now c).within (left_now c).bare
    c.give_back_empty.new.space c.give_back_empty.new.buddy c.give_back_empty.ensures.agree)
