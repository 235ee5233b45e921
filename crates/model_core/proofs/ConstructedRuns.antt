-- After any list of operations, an object that was not handed out since its slab was made is in constructed state. So is an
-- object that a take has just handed out for the first time.
use Rattle.std.proofs.Common.{◌≡◌, ℕ, ◌+◌, ◌<◌, Bool, true, false, eqb, List, [], ◌∷◌, ◌++◌, Some, Result, refl, sym, ap, ◌∙◌, subst, arith}
use Rattle.std.specs.Prelude.{if◌then◌else◌}
use Rattle.std.specs.Option.{option_map_or}
use Rattle.std.specs.List.{AllByRecursion as Each}
use Rattle.std.specs.Result.{result_ok}
use Rattle.std.proofs.lemmas.Bool.{false≢true, eqb-false, eq-eqb}
use Rattle.model_core.specs.declared.refusals.TakeRefusal.{TakeRefusal}
use Rattle.model_core.specs.Layouts.{pattern_byte}
use Rattle.model_core.specs.Machine.{Slab, Cache, Machine, empty_machine, in_block, layout}
use Rattle.model_core.specs.Slabs.{new_slab, grown_cache, next_object}
use Rattle.model_core.specs.Operations.{Step}
use Rattle.model_core.specs.CacheOperations.{next_number, hand_out, take_step}
use Rattle.model_core.specs.Runs.{Operation, Take, ArePossible, after, run}
use Rattle.model_core.specs.WellFormed.{IsWellFormed}
use Rattle.model_core.specs.Laws.{Object, IsObject, place_of, makes_slab_at, hands_out, hand_outs, ConstructedFirst, ConstructedWhenTaken}
use Rattle.model_core.specs.Elements.{IsIn}
use Rattle.model_core.proofs.Lists.{each_in}
use Rattle.model_core.proofs.ReapingByNeed.{by_need_keeps}
use Rattle.model_core.proofs.Outcomes.{outcome}
use Rattle.model_core.proofs.LaidSlabs.{laid, all_laid}
use Rattle.model_core.proofs.PageSteps.{created_laid}
use Rattle.model_core.proofs.CacheSteps.{IsMade, made}
use Rattle.model_core.proofs.Objects.{live_is}
use Rattle.model_core.proofs.ObjectsApart.{IsLaidObject, laid_object}
use Rattle.model_core.proofs.ConstructedObjects.{IsFresh, AllFresh, IsConstructed, AllConstructed, fresh_constructed, constructed_flagged, fresh_written, fresh_flagged, fresh_grown, fresh_destroyed, fresh_reaped, fresh_granted, fresh_taken_back}
use Rattle.model_core.proofs.WellFormedRuns.{keeps_well_formed, runs_well_formed}

-- If the operation hands out no object that begins at the place, all objects that begin there are fresh in machine n. If it hands
-- out an object that begins there, all objects that begin there are constructed in machine n.
abbrev Leaves : ℕ → ℕ → Operation → Machine → Machine → Type 0
Leaves order place operation m n = (hands_out order operation m place ≡ false → AllFresh place n) × (hands_out order operation m place ≡ true → AllConstructed place n)

-- for an operation that hands out no object, `Leaves` follows if all objects that begin at the place are fresh afterwards
leaves_fresh : {P Q : Type 0} → P → (false ≡ false → P) × (false ≡ true → Q)
leaves_fresh h = (λ _. h, λ e. absurd (false≢true e))

leaves_handed : {limit : ℕ} (order place number : ℕ) (c : Cache) (s : Slab) (m n : Machine) → IsWellFormed limit order n → IsIn c n.caches → IsIn s c.slabs
    → take_step order number m ≡ hand_out c s n → AllFresh place n → Leaves order place (Take number) m (hand_out c s n).machine
leaves_handed order place number c s m n w in_c in_s is h = (
  λ other. fresh_flagged order place c s (next_object s) true n w in_c in_s
      (λ _. eqb-false _ place (ap (λ (step : Step (Result ℕ TakeRefusal)). option_map_or (λ p. eqb p place) (result_ok step.answer) false) (sym is) ∙ other)) h,
  λ _. constructed_flagged order place c s (next_object s) true n w in_c in_s h,
)

fresh_empty : (place : ℕ) → AllFresh place empty_machine
unfolding empty_machine
fresh_empty place = tt

leaves : (limit order place : ℕ) (operation : Operation) (m : Machine) → IsWellFormed limit order m → (makes_slab_at order operation m place ≡ false → AllFresh place m)
    → Leaves order place operation m (after limit order operation m)
leaves limit order place operation m w = outcome limit order m (λ operation n. (makes_slab_at order operation m place ≡ false → AllFresh place m) → Leaves order place operation m n) (record {
  refused = λ operation none h. let f : AllFresh place m = h (ap (λ b. option_map_or (in_block place) b false) none) in (λ _. f, λ _. fresh_constructed place m f);
  page_taken = λ k first e h. leaves_fresh (by_need_keeps (AllFresh place) order k m (h refl) (fresh_reaped order place m w (h refl)));
  page_released = λ first h. leaves_fresh (h refl);
  bytes_written = λ begin new e h. leaves_fresh (fresh_written order place begin new m w e (h refl));
  cache_made = λ size align pattern _ _ _ h. leaves_fresh (subst (Each (IsFresh m.bytes place)) (sym (created_laid (next_number m) size align pattern m)) (h refl));
  object_taken = λ number c s i j none is h. leaves_handed order place number c s m m w i j is (h (ap (λ b. option_map_or (in_block place) b false) none));
  slab_made = λ number c first i e some is h.
      let g : IsMade limit order first c m = made order first c m w i e in
      leaves_handed order place number (grown_cache first c) (new_slab c first) m _ g.formed g.cache_in g.slab_in is (fresh_grown order place first c _ g.served i e (λ unmade.
      let fresh : AllFresh place m = h (ap (λ b. option_map_or (in_block place) b false) some ∙ unmade) in
      by_need_keeps (AllFresh place) order (layout c).order m fresh (fresh_reaped order place m w fresh)));
  object_given = λ number begin c o i j h. leaves_fresh
      (fresh_flagged order place c o.slab o.index false m w i (live_is c o j).slab_in (λ is same. false≢true is) (h refl));
  cache_destroyed = λ number c i _ h. leaves_fresh (fresh_destroyed order place c m w i (h refl));
  slabs_reaped = λ h. leaves_fresh (fresh_reaped order place m w (h refl));
  slot_granted = λ h. leaves_fresh (fresh_granted order place m w (h refl));
  slot_gone = λ slot _ free h. leaves_fresh (fresh_taken_back order place slot m w free (h refl));
  all_gone = λ h. leaves_fresh (fresh_empty place);
}) operation

-- Counts

none_counted : (made handed : Bool) (n : ℕ) → (if made then 0 else n) + (if handed then 1 else 0) ≡ 0 → (made ≡ false → n ≡ 0) × (handed ≡ false)
none_counted true true n e = absurd (omega arith)
none_counted true false n e = (λ f. absurd (false≢true (sym f)), refl)
none_counted false true n e = absurd (omega arith)
none_counted false false n e = (λ _. omega arith, refl)

one_counted : (made handed : Bool) (n : ℕ) → (if made then 0 else n) + (if handed then 1 else 0) ≡ 1 → handed ≡ true → made ≡ false → n ≡ 0
one_counted true handed n e is f = absurd (false≢true (sym f))
one_counted false true n e is f = omega arith
one_counted false false n e is f = absurd (false≢true is)

fresh_run : (limit order place : ℕ) (operations : List Operation) (m : Machine) (n : ℕ) → ArePossible operations → IsWellFormed limit order m → (n ≡ 0 → AllFresh place m)
    → hand_outs limit order place operations m n ≡ 0 → AllFresh place (run limit order operations m)
fresh_run limit order place [] m n can w h none = h none
fresh_run limit order place (operation ∷ operations) m n (first, rest) w h none =
    fresh_run limit order place operations (after limit order operation m) _ rest (keeps_well_formed limit order operation m first w) (λ zero.
    let parts = none_counted (makes_slab_at order operation m place) (hands_out order operation m place) n zero in
    (leaves limit order place operation m w (λ unmade. h (parts.0 unmade))).0 parts.1) none

hand_outs-append : (limit order place : ℕ) (before since : List Operation) (m : Machine) (n : ℕ)
    → hand_outs limit order place (before ++ since) m n ≡ hand_outs limit order place since (run limit order before m) (hand_outs limit order place before m n)
hand_outs-append limit order place [] since m n = refl
hand_outs-append limit order place (operation ∷ before) since m n = hand_outs-append limit order place before since (after limit order operation m) _

-- if no object that begins at the place was handed out since its slab was made, all objects that begin there are fresh
fresh_left : (limit order place : ℕ) (operations : List Operation) → ArePossible operations → hand_outs limit order place operations empty_machine 0 ≡ 0 → AllFresh place (run limit order operations empty_machine)
fresh_left limit order place operations can none = fresh_run limit order place operations empty_machine 0 can (runs_well_formed limit order [] tt) (λ _. fresh_empty place) none

-- an object reads as the pattern of its cache if all objects that begin at the object's first place are constructed
object_reads : {limit : ℕ} (order : ℕ) (m : Machine) (object : Object) (j : ℕ) → IsWellFormed limit order m → IsObject m object → j < object.cache.size → AllConstructed (place_of object) m
    → m.bytes (place_of object + j) ≡ Some (pattern_byte object.cache.pattern j)
object_reads order m object j w is_object in_size h =
    let o : IsLaidObject order m object = laid_object order m object w is_object in
    each_in (IsConstructed m.bytes (place_of object)) (laid object.cache object.slab) (all_laid m.caches) h o.laid_in object.index o.index_in refl j in_size

pub constructed_first : ConstructedFirst
constructed_first limit order operations object j can is_object in_size none =
    let m : Machine = run limit order operations empty_machine in
    object_reads order m object j (runs_well_formed limit order operations can) is_object in_size
    (fresh_constructed (place_of object) m (fresh_left limit order (place_of object) operations can none))

pub constructed_when_taken : ConstructedWhenTaken
constructed_when_taken limit order number operations object j can answer is_object in_size once =
    let m : Machine = run limit order operations empty_machine in
    let place : ℕ = place_of object in
    let w : IsWellFormed limit order m = runs_well_formed limit order operations can in
    let handed : hands_out order (Take number) m place ≡ true = ap (λ a. option_map_or (λ p. eqb p place) (result_ok a) false) answer ∙ eq-eqb place place refl in
    let before : makes_slab_at order (Take number) m place ≡ false → hand_outs limit order place operations empty_machine 0 ≡ 0 =
    one_counted (makes_slab_at order (Take number) m place) (hands_out order (Take number) m place) (hand_outs limit order place operations empty_machine 0)
    (sym (hand_outs-append limit order place operations (Take number ∷ []) empty_machine 0) ∙ once) handed in
    object_reads order (take_step order number m).machine object j (keeps_well_formed limit order (Take number) m tt w) is_object in_size
    ((leaves limit order place (Take number) m w (λ unmade. fresh_left limit order place operations can (before unmade))).1 handed)
