-- After an operation frees a slab, the slab's places read as zero if their slot is still held.
use Rattle.std.proofs.Common.{◌≡◌, ℕ, Bool, true, false, not, ◌||◌, eqb, List, ◌∷◌, ◌++◌, map, Option, Some, refl, sym, ap, ◌∙◌}
use Rattle.std.specs.Prelude.{if◌then◌else◌, filter, slice_set}
use Rattle.std.specs.List.{list_any}
use Rattle.std.proofs.lemmas.Bool.{false≢true, or_parts}
use Rattle.model_core.specs.Machine.{Slab, Cache, Machine, empty_machine, holds, slot_of, layout, in_block}
use Rattle.model_core.specs.Slabs.{with_cache, with_slab, with_live, new_slab, grown_cache, grown, next_object, zeroed, reaped, by_need, destroyed}
use Rattle.model_core.specs.Operations.{after_grant, after_take_back}
use Rattle.model_core.specs.CacheOperations.{created, next_number}
use Rattle.model_core.specs.WellFormed.{in_slab, IsWellFormed}
use Rattle.model_core.specs.ByteLaws.{SlabsLeaveZeroes}
use Rattle.model_core.specs.Elements.{IsIn}
use Rattle.model_core.proofs.Lists.{Found, found, any_append, any_map, any_split}
use Rattle.model_core.proofs.ReapingByNeed.{by_need_keeps}
use Rattle.model_core.proofs.Outcomes.{outcome}
use Rattle.model_core.proofs.LaidSlabs.{Laid, laid, all_laid, laid_block, in_laid, in_slab_laid}
use Rattle.model_core.proofs.MemoryKept.{any_put, with_flags}
use Rattle.model_core.proofs.SlabAmongOthers.{filter_laid, laid_of, slab_blocks_laid, is_empty_laid, kept_laid, gone_laid}
use Rattle.model_core.proofs.PageSteps.{created_laid}
use Rattle.model_core.proofs.CacheSteps.{IsFlagged, flagged, IsGrown, grown_is, IsMade, made}
use Rattle.model_core.proofs.Objects.{live_is}
use Rattle.model_core.proofs.ConstructedObjects.{grown_byte}

-- the place is in a slab of the machine
abbrev Still : ℕ → Machine → Type 0
Still place m = in_slab m place ≡ true

-- the place is in a slab of the machine, or it reads as zero
abbrev Left : ℕ → Machine → Type 0
Left place m = in_slab m place ≡ false → m.bytes place ≡ Some 0

still_left : (place : ℕ) (m : Machine) → Still place m → Left place m
still_left place m h e = absurd (false≢true (sym e ∙ h))

pub flagged_same : {limit : ℕ} (order place : ℕ) (c : Cache) (s : Slab) (i : ℕ) (b : Bool) (m : Machine) → IsWellFormed limit order m → IsIn c m.caches → IsIn s c.slabs
    → in_slab (with_cache (with_slab (with_live i b s) c) m) place ≡ in_slab m place
flagged_same order place c s i b m w in_c in_s =
    let f : IsFlagged c s i b m = flagged order c s i b m w in_c in_s in
    in_slab_laid (with_cache (with_slab (with_live i b s) c) m) place
    ∙ (ap (λ ls. list_any (in_laid place) ls) f.is
    ∙ (any_append (in_laid place) f.xs (with_flags (slice_set s.live i b) (laid c s) ∷ f.ys)
    ∙ (sym (any_append (in_laid place) f.xs (laid c s ∷ f.ys))
    ∙ (ap (λ ls. list_any (in_laid place) ls) (sym f.was) ∙ sym (in_slab_laid m place)))))

left_flagged : {limit : ℕ} (order place : ℕ) (c : Cache) (s : Slab) (i : ℕ) (b : Bool) (m : Machine) → IsWellFormed limit order m → IsIn c m.caches → IsIn s c.slabs
    → Left place m → Left place (with_cache (with_slab (with_live i b s) c) m)
left_flagged order place c s i b m w in_c in_s h e = h (sym (flagged_same order place c s i b m w in_c in_s) ∙ e)

-- if a place is in a slab or reads as zero, it is in a slab or reads as zero after growth too
left_grown : {limit : ℕ} (order place first : ℕ) (c : Cache) (m : Machine) → IsWellFormed limit order m → IsIn c m.caches → Left place m → Left place (grown first c m)
left_grown order place first c m w in_c h e =
    let g : IsGrown first c m = grown_is order first c m w in_c in
    let new : Laid = laid c (new_slab c first) in
    let parts : (in_laid place new ≡ false) × (list_any (in_laid place) (g.xs ++ g.ys) ≡ false) = or_parts (in_laid place new) (list_any (in_laid place) (g.xs ++ g.ys))
    (sym (any_put (in_laid place) g.xs g.ys new) ∙ (ap (λ ls. list_any (in_laid place) ls) (sym g.is) ∙ (sym (in_slab_laid (grown first c m) place) ∙ e))) in
    grown_byte first c m place false parts.0 ∙ h (in_slab_laid m place ∙ (ap (λ ls. list_any (in_laid place) ls) g.was ∙ parts.1))

-- if a place was in a slab, and is in no slab after the slabs that pass q are freed, it reads as zero
left_kept : (place : ℕ) (q : Laid → Bool) (ls : List Laid) (bytes : ℕ → Option ℕ) → list_any (in_laid place) ls ≡ true → list_any (in_laid place) (filter (λ l. not (q l)) ls) ≡ false
    → zeroed (map laid_block (filter q ls)) bytes place ≡ Some 0
left_kept place q ls bytes h e = ap (λ b. if b then Some 0 else bytes place) (any_map (in_block place) laid_block (filter q ls)
    ∙ gone (list_any (in_laid place) (filter q ls)) (sym (any_split (in_laid place) q ls ∙ ap (λ b. list_any (in_laid place) (filter q ls) || b) e) ∙ h))
  where
    gone : (b : Bool) → (b || false) ≡ true → b ≡ true
    gone true e = refl
    gone false e = e

left_destroyed : {limit : ℕ} (order place : ℕ) (c : Cache) (m : Machine) → IsWellFormed limit order m → IsIn c m.caches → Still place m → Left place (destroyed c m)
unfolding destroyed
left_destroyed order place c m w in_c h e =
    let f : Found (λ x. x.number) c m.caches = found (λ x. x.number) 0 c m.caches w.caches_rise in_c in
    ap (λ bs. zeroed bs m.bytes place) (slab_blocks_laid c ∙ ap (λ ls. map laid_block ls) (sym (laid_of c m.caches f)))
    ∙ left_kept place (λ l. eqb l.number c.number) (all_laid m.caches) m.bytes (sym (in_slab_laid m place) ∙ h)
    (ap (λ ls. list_any (in_laid place) ls) (filter_laid (λ n. not (eqb n c.number)) m.caches) ∙ (sym (in_slab_laid (destroyed c m) place) ∙ e))

left_reaped : (place : ℕ) (m : Machine) → Still place m → Left place (reaped m)
unfolding reaped
left_reaped place m h e =
    ap (λ bs. zeroed bs m.bytes place) (gone_laid m.caches)
    ∙ left_kept place is_empty_laid (all_laid m.caches) m.bytes (sym (in_slab_laid m place) ∙ h) (ap (λ ls. list_any (in_laid place) ls) (kept_laid m.caches) ∙ (sym (in_slab_laid (reaped m) place) ∙ e))

left_by_need : (order k place : ℕ) (m : Machine) → Still place m → Left place (by_need order k m)
left_by_need order k place m h = by_need_keeps (Left place) order k m (still_left place m h) (left_reaped place m h)

still_created : (number size align place : ℕ) (pattern : List ℕ) (m : Machine) → Still place m → Still place (created number size align pattern m)
still_created number size align place pattern m h =
    in_slab_laid (created number size align pattern m) place ∙ (ap (λ ls. list_any (in_laid place) ls) (created_laid number size align pattern m) ∙ (sym (in_slab_laid m place) ∙ h))

nothing_held : (slot : ℕ) → holds empty_machine slot ≡ false
unfolding empty_machine
nothing_held slot = refl

still_granted : (order place : ℕ) (m : Machine) → Still place m → Still place (after_grant order m)
unfolding after_grant
still_granted order place m h = h

still_taken_back : (order slot place : ℕ) (m : Machine) → Still place m → Still place (after_take_back order slot m)
unfolding after_take_back
still_taken_back order slot place m h = h

pub slabs_leave_zeroes : SlabsLeaveZeroes
slabs_leave_zeroes limit order operation m place w h = outcome limit order m (λ _ n. in_slab n place ≡ false → holds n (slot_of order place) ≡ true → n.bytes place ≡ Some 0) (record {
  refused = λ _ _ e held. still_left place m h e;
  page_taken = λ k first _ e held. left_by_need order k place m h e;
  page_released = λ first e held. still_left place m h e;
  bytes_written = λ begin new _ e held. absurd (false≢true (sym e ∙ h));
  cache_made = λ size align pattern _ _ _ e held. still_left place (created (next_number m) size align pattern m) (still_created (next_number m) size align place pattern m h) e;
  object_taken = λ number c s i j _ _ e held. left_flagged order place c s (next_object s) true m w i j (still_left place m h) e;
  slab_made = λ number c first i f _ _ e held.
      let g : IsMade limit order first c m = made order first c m w i f in
      left_flagged order place (grown_cache first c) (new_slab c first) (next_object (new_slab c first)) true _ g.formed g.cache_in g.slab_in
      (left_grown order place first c _ g.served i (left_by_need order (layout c).order place m h)) e;
  object_given = λ number begin c o i j e held. left_flagged order place c o.slab o.index false m w i (live_is c o j).slab_in (still_left place m h) e;
  cache_destroyed = λ number c i _ e held. left_destroyed order place c m w i h e;
  slabs_reaped = λ e held. left_reaped place m h e;
  slot_granted = λ e held. still_left place (after_grant order m) (still_granted order place m h) e;
  slot_gone = λ slot _ _ e held. still_left place (after_take_back order slot m) (still_taken_back order slot place m h) e;
  all_gone = λ e held. absurd (false≢true (sym (nothing_held (slot_of order place)) ∙ held));
}) operation
