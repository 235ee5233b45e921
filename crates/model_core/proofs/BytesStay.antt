-- A place that an operation leaves alone keeps its byte.
use Rattle.std.proofs.Common.{◌≡◌, ℕ, ◌-◌, Bool, true, false, not, ◌&&◌, ◌||◌, eqb, List, [], ◌∷◌, ◌++◌, map, Option, Some, None, refl, sym, ap, ◌∙◌}
use Rattle.std.specs.Prelude.{if◌then◌else◌, filter, find, slice_get}
use Rattle.std.specs.Option.{option_map_or}
use Rattle.std.specs.List.{list_any}
use Rattle.std.proofs.lemmas.Bool.{false≢true, eq-eqb, ne_eqb, not-true, false_from_ne_true}
use Rattle.model_core.specs.Machine.{Cache, Machine, empty_machine, put_rising, holds, slot_of, in_block, layout, slab_block, order_in}
use Rattle.model_core.specs.Slabs.{LiveObject, live_objects, cache_of, new_slab, grown_cache, grown, next_object, zeroed, reaped, by_need, choice_by_need, destroyed}
use Rattle.model_core.specs.Operations.{free_at, free_step, next_slot, after_grant, after_take_back}
use Rattle.model_core.specs.CacheOperations.{hand_out, give_object, give_of, give_step}
use Rattle.model_core.specs.Runs.{after}
use Rattle.model_core.specs.WellFormed.{AreApart, in_slab, IsWellFormed}
use Rattle.model_core.specs.Laws.{makes_slab_at}
use Rattle.model_core.specs.ByteLaws.{writes, AllocKeeps, FreeKeeps, TakeKeeps, GiveKeeps, BytesStay, RunsKeepBytes}
use Rattle.model_core.specs.Elements.{IsIn}
use Rattle.model_core.proofs.Lists.{each_weaker, each_filtered, Found, found, PutIn, put_in, any_map, any_none, any_split, none_of}
use Rattle.model_core.proofs.ReapingByNeed.{by_need_keeps, by_need_found}
use Rattle.model_core.proofs.Outcomes.{alloc_outcome, take_outcome, outcome}
use Rattle.model_core.proofs.BlocksApart.{one_side}
use Rattle.model_core.proofs.LaidSlabs.{Laid, laid, all_laid, laid_block, in_laid, in_laid_object, in_slab_laid, IsLaidOut, laid_out}
use Rattle.model_core.proofs.MemoryKept.{any_put, no_object, slab_held}
use Rattle.model_core.proofs.SlabAmongOthers.{filter_laid, laid_of, slab_blocks_laid, is_empty_laid, kept_laid, gone_laid}
use Rattle.model_core.proofs.CacheSteps.{IsGrown, grown_is, IsMade, made}
use Rattle.model_core.proofs.ConstructedObjects.{grown_byte, next_unheld}
use Rattle.model_core.proofs.SlabsLeave.{flagged_same}
use Rattle.model_core.proofs.WellFormedRuns.{keeps_well_formed}

-- No byte changes

abbrev AllSame : Machine → Machine → Type 0
AllSame m n = n.bytes ≡ m.bytes

pub alloc_keeps : AllocKeeps
alloc_keeps order k first m e = alloc_outcome order k m (λ s. AllSame m s.machine) (λ _. refl) (λ _ _. ap (λ n. n.bytes) (by_need_found order k first m e))

pub take_keeps : TakeKeeps
take_keeps order number m e = take_outcome order number m (λ b s. b ≡ None → AllSame m s.machine) (λ _ _. refl) (λ _ _ _ _ _. refl) (λ _ _ _ _ some. absurd (cc)) e

pub free_keeps : FreeKeeps
unfolding free_step
free_keeps first m = go (order_in m.blocks first)
  where
    go : (o : Option ℕ) → AllSame m (free_at first m o).machine
    go None = refl
    go (Some k) = refl

pub give_keeps : GiveKeeps
unfolding give_step
give_keeps number place m = go (cache_of m number)
  where
    object : (c : Cache) (o : Option LiveObject) → AllSame m (give_object c m o).machine
    object c None = refl
    object c (Some o) = refl

    go : (o : Option Cache) → AllSame m (give_of place m o).machine
    go None = refl
    go (Some c) = object c (find (λ x. eqb x.place place) (live_objects c))

-- The byte at a place

-- if the place is in a slab of both machines or of neither, both machines have the same byte at the place
abbrev Same : ℕ → Machine → Machine → Type 0
Same place m n = in_slab n place ≡ in_slab m place → n.bytes place ≡ m.bytes place

-- if freeing slabs does not change whether a place is in a slab, the place keeps its byte
same_given_back : (place : ℕ) (q : Laid → Bool) (ls : List Laid) (bytes : ℕ → Option ℕ) → AreApart (map laid_block ls)
    → list_any (in_laid place) (filter (λ l. not (q l)) ls) ≡ list_any (in_laid place) ls → zeroed (map laid_block (filter q ls)) bytes place ≡ bytes place
same_given_back place q ls bytes apart same = ap (λ b. if b then Some 0 else bytes place) (any_map (in_block place) laid_block (filter q ls)
    ∙ false_from_ne_true (list_any (in_laid place) (filter q ls)) (λ gone. false≢true (sym (one_side laid_block q ls place apart gone)
    ∙ (same ∙ (any_split (in_laid place) q ls ∙ ap (λ b. b || list_any (in_laid place) (filter (λ l. not (q l)) ls)) gone)))))

same_reaped : {limit : ℕ} (order place : ℕ) (m : Machine) → IsWellFormed limit order m → Same place m (reaped m)
unfolding reaped
same_reaped order place m w same = ap (λ bs. zeroed bs m.bytes place) (gone_laid m.caches)
    ∙ same_given_back place is_empty_laid (all_laid m.caches) m.bytes (laid_out order m w).apart_slabs
    (ap (λ ls. list_any (in_laid place) ls) (kept_laid m.caches) ∙ (sym (in_slab_laid (reaped m) place) ∙ (same ∙ in_slab_laid m place)))

same_by_need : {limit : ℕ} (order k place : ℕ) (m : Machine) → IsWellFormed limit order m → Same place m (by_need order k m)
same_by_need order k place m w = by_need_keeps (Same place m) order k m (λ _. refl) (same_reaped order place m w)

-- if the new slab does not have the place, growth does not change whether the place is in a slab
grown_elsewhere : {limit : ℕ} (order place first : ℕ) (c : Cache) (m : Machine) → IsWellFormed limit order m → IsIn c m.caches → in_block place (slab_block c (new_slab c first)) ≡ false
    → in_slab (grown first c m) place ≡ in_slab m place
grown_elsewhere order place first c m w in_c outside =
    let g : IsGrown first c m = grown_is order first c m w in_c in
    in_slab_laid (grown first c m) place
    ∙ (ap (λ ls. list_any (in_laid place) ls) g.is
    ∙ (any_put (in_laid place) g.xs g.ys (laid c (new_slab c first))
    ∙ (ap (λ b. b || list_any (in_laid place) (g.xs ++ g.ys)) outside
    ∙ (ap (λ ls. list_any (in_laid place) ls) (sym g.was) ∙ sym (in_slab_laid m place)))))

same_made : {limit : ℕ} (order place first : ℕ) (c : Cache) (m : Machine) → IsWellFormed limit order m → IsIn c (by_need order (layout c).order m).caches
    → choice_by_need order (layout c).order m ≡ Some first → in_block place (slab_block c (new_slab c first)) ≡ false
    → Same place m (hand_out (grown_cache first c) (new_slab c first) (grown first c (by_need order (layout c).order m))).machine
same_made {limit} order place first c m w i e unmade same =
    let n : Machine = by_need order (layout c).order m in
    let g : IsMade limit order first c m = made order first c m w i e in
    let flags = flagged_same order place (grown_cache first c) (new_slab c first) (next_object (new_slab c first)) true (grown first c n) g.formed g.cache_in g.slab_in in
    grown_byte first c n place false unmade ∙ same_by_need order (layout c).order place m w (sym (grown_elsewhere order place first c n g.served i unmade) ∙ (sym flags ∙ same))

same_destroyed : {limit : ℕ} (order place : ℕ) (c : Cache) (m : Machine) → IsWellFormed limit order m → IsIn c m.caches → Same place m (destroyed c m)
unfolding destroyed
same_destroyed order place c m w in_c same =
    let f : Found (λ x. x.number) c m.caches = found (λ x. x.number) 0 c m.caches w.caches_rise in_c in
    ap (λ bs. zeroed bs m.bytes place) (slab_blocks_laid c ∙ ap (λ ls. map laid_block ls) (sym (laid_of c m.caches f)))
    ∙ same_given_back place (λ l. eqb l.number c.number) (all_laid m.caches) m.bytes (laid_out order m w).apart_slabs
    (ap (λ ls. list_any (in_laid place) ls) (filter_laid (λ n. not (eqb n c.number)) m.caches) ∙ (sym (in_slab_laid (destroyed c m) place) ∙ (same ∙ in_slab_laid m place)))

-- Slots

-- the slot of the place is held in both machines or in neither
abbrev SameSlot : ℕ → ℕ → Machine → Machine → Type 0
SameSlot order place m n = holds n (slot_of order place) ≡ holds m (slot_of order place)

same_granted : {limit : ℕ} (order place : ℕ) (m : Machine) → IsWellFormed limit order m → SameSlot order place m (after_grant order m) → (after_grant order m).bytes place ≡ m.bytes place
unfolding after_grant
same_granted order place m w same =
    let u : ℕ = next_slot m in
    let p : PutIn (λ v. v) u m.slots = put_in (λ v. v) u m.slots in
    let held : list_any (λ v. eqb v u) (put_rising (λ v. v) u m.slots) ≡ true =
    ap (λ us. list_any (λ v. eqb v u) us) p.is ∙ (any_put (λ v. eqb v u) p.before p.later u ∙ ap (λ b. b || list_any (λ v. eqb v u) (p.before ++ p.later)) (eq-eqb u u refl)) in
    ap (λ b. if b then Some 0 else m.bytes place) (ne_eqb (slot_of order place) u (λ at.
    false≢true (sym (next_unheld order m w) ∙ (ap (holds m) (sym at) ∙ (sym same ∙ (ap (λ v. holds (after_grant order m) v) at ∙ held))))))

same_taken_back : (order slot place : ℕ) (m : Machine) → holds m slot ≡ true → SameSlot order place m (after_take_back order slot m) → (after_take_back order slot m).bytes place ≡ m.bytes place
unfolding after_take_back
same_taken_back order slot place m e same = ap (λ t. if t then None else m.bytes place) (ne_eqb (slot_of order place) slot (λ at.
    false≢true (sym gone ∙ (ap (λ u. list_any (λ v. eqb v u) (filter (λ u. not (eqb u slot)) m.slots)) (sym at) ∙ (same ∙ (ap (holds m) at ∙ e))))))
  where
    gone : list_any (λ v. eqb v slot) (filter (λ u. not (eqb u slot)) m.slots) ≡ false
    gone = any_none (λ v. eqb v slot) (filter (λ u. not (eqb u slot)) m.slots)
        (each_weaker (λ v. not (eqb v slot) ≡ true) (λ v. eqb v slot ≡ false) (λ v h. not-true (eqb v slot) h) (filter (λ u. not (eqb u slot)) m.slots) (each_filtered (λ u. not (eqb u slot)) m.slots))

-- a place of a slot that is not held has no byte
unheld_none : {limit : ℕ} (order place : ℕ) (m : Machine) → IsWellFormed limit order m → holds m (slot_of order place) ≡ false → m.bytes place ≡ None
unheld_none order place m w unheld =
    let ls : List Laid = all_laid m.caches in
    let out : IsLaidOut order m.slots m.blocks ls m.bytes = laid_out order m w in
    let outside : list_any (in_laid place) ls ≡ false = false_from_ne_true (list_any (in_laid place) ls) (λ here.
    false≢true (sym unheld ∙ slab_held order m.slots place ls out.placed_slabs here)) in
    none_of (m.bytes place) (out.mapped place ∙ (ap (λ b. (b && not (list_any (in_laid place) ls)) || list_any (in_laid_object place) ls) unheld ∙ no_object place ls outside))

same_reset : {limit : ℕ} (order place : ℕ) (m : Machine) → IsWellFormed limit order m → SameSlot order place m empty_machine → empty_machine.bytes place ≡ m.bytes place
unfolding empty_machine
same_reset order place m w same = sym (unheld_none order place m w (sym same))

pub bytes_stay : BytesStay
bytes_stay limit order operation m place w h = outcome limit order m
    (λ operation n. writes operation place ≡ false → makes_slab_at order operation m place ≡ false → in_slab n place ≡ in_slab m place → SameSlot order place m n → n.bytes place ≡ m.bytes place) (record {
      refused = λ _ _ _ _ _ _. refl;
      page_taken = λ k first _ _ _ same _. same_by_need order k place m w same;
      page_released = λ first _ _ _ _. refl;
      bytes_written = λ begin new _ unwritten _ _ _. ap (λ b. if b then slice_get new (place - begin) else m.bytes place) unwritten;
      cache_made = λ size align pattern _ _ _ _ _ _ _. refl;
      object_taken = λ number c s _ _ _ _ _ _ _ _. refl;
      slab_made = λ number c first i e some _ _ unmade same _. same_made order place first c m w i e (ap (λ b. option_map_or (in_block place) b false) (sym some) ∙ unmade) same;
      object_given = λ number begin c o _ _ _ _ _ _. refl;
      cache_destroyed = λ number c i _ _ _ same _. same_destroyed order place c m w i same;
      slabs_reaped = λ _ _ same _. same_reaped order place m w same;
      slot_granted = λ _ _ _ same. same_granted order place m w same;
      slot_gone = λ slot e _ _ _ _ same. same_taken_back order slot place m e same;
      all_gone = λ _ _ _ same. same_reset order place m w same;
    }) operation h.unwritten h.unmade h.same_slab h.same_slot

pub runs_keep_bytes : RunsKeepBytes
runs_keep_bytes limit order [] m place can w h = refl
runs_keep_bytes limit order (operation ∷ operations) m place (first, rest) w (here, later) =
    runs_keep_bytes limit order operations (after limit order operation m) place rest (keeps_well_formed limit order operation m first w) later
    ∙ bytes_stay limit order operation m place w here
