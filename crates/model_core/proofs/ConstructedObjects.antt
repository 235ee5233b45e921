-- If an object was not handed out since its slab was made, every step leaves it in constructed state.
use Rattle.std.proofs.Common.{◌≡◌, ◌≢◌, ℕ, ◌+◌, ◌-◌, ◌*◌, ◌/◌, ◌%◌, ◌^◌, ◌<◌, Bool, true, false, not, ◌&&◌, eqb, ltb, leb, List, ◌∷◌, ◌++◌, map, length, get_or, Option, Some, None, refl, sym, ap, ◌∙◌, subst, ◌⊎◌, inl, inr, arith}
use Rattle.std.specs.Prelude.{if◌then◌else◌, filter, slice_set, slice_get}
use Rattle.std.specs.List.{list_any, AllByRecursion as Each}
use Rattle.std.proofs.lemmas.List.{length-replicate, get_or-set_same, get_or-set_other}
use Rattle.std.proofs.lemmas.Bool.{cases_eq, and_parts, ltb-true, leb-true, ne_eqb, false≢true, false_from_ne_true}
use Rattle.model_core.specs.declared.limits.TheConstants.{FRAME_BYTES}
use Rattle.model_core.specs.Layouts.{object_place, in_object, pattern_byte}
use Rattle.model_core.specs.Machine.{Slab, Cache, Machine, slot_of, layout, choice, in_block, slab_block, least_missing}
use Rattle.model_core.specs.Slabs.{with_cache, with_slab, with_live, new_slab, fresh_byte, grown, zeroed, reaped, destroyed}
use Rattle.model_core.specs.Reach.{in_reach}
use Rattle.model_core.specs.Operations.{written, next_slot, after_grant, is_busy, after_take_back}
use Rattle.model_core.specs.WellFormed.{IsApart, AreApart, IsCache, IsWellFormed}
use Rattle.model_core.proofs.Layouts.{layouts_fit}
use Rattle.model_core.specs.Elements.{IsIn}
use Rattle.model_core.proofs.Lists.{each_right, each_put, each_less, each_middle, each_weaker, each_in, each_from, each_unmap, each_filter, any_in, any_map, none_any, any_none, filter_in, Found, found, least_is_missing, everywhere}
use Rattle.model_core.proofs.BlocksApart.{apart_turned, in_block-true, apart_place, one_holder, one_side}
use Rattle.model_core.proofs.LaidSlabs.{Laid, laid, all_laid, laid_layout, laid_block, in_laid, Placed, IsCutLaid, IsLaidOut, taken_laid, laid_out}
use Rattle.model_core.proofs.MemoryKept.{with_flags, frame_slot, place_held}
use Rattle.model_core.proofs.ChosenBlock.{chosen_apart}
use Rattle.model_core.proofs.SlabAmongOthers.{filter_laid, laid_of, slab_blocks_laid, is_empty_laid, kept_laid, gone_laid}
use Rattle.model_core.proofs.PageSteps.{not_busy}
use Rattle.model_core.proofs.CacheSteps.{in_all_laid, IsFlagged, flagged, IsGrown, grown_is}
use Rattle.model_core.proofs.Objects.{IsByte, IsByteOf, byte_is_of, IsPageByte, IsLiveByte, reached, live_byte, page_apart}

-- if an object of the slab begins at the place, the object is not live and reads as the pattern of its cache
abbrev pub IsFresh : (ℕ → Option ℕ) → ℕ → Laid → Type 0
IsFresh bytes place l = (i : ℕ) → i < (laid_layout l).count → place ≡ object_place (laid_layout l) l.first l.colour i
    → (get_or l.live i false ≡ false) × ((j : ℕ) → j < l.size → bytes (place + j) ≡ Some (pattern_byte l.pattern j))

abbrev pub AllFresh : ℕ → Machine → Type 0
AllFresh place m = Each (IsFresh m.bytes place) (all_laid m.caches)

-- if an object of the slab begins at the place, the object, live or not, reads as the pattern of its cache
abbrev pub IsConstructed : (ℕ → Option ℕ) → ℕ → Laid → Type 0
IsConstructed bytes place l = (i : ℕ) → i < (laid_layout l).count → place ≡ object_place (laid_layout l) l.first l.colour i
    → (j : ℕ) → j < l.size → bytes (place + j) ≡ Some (pattern_byte l.pattern j)

abbrev pub AllConstructed : ℕ → Machine → Type 0
AllConstructed place m = Each (IsConstructed m.bytes place) (all_laid m.caches)

pub fresh_constructed : (place : ℕ) (m : Machine) → AllFresh place m → AllConstructed place m
fresh_constructed place m h = each_weaker (IsFresh m.bytes place) (IsConstructed m.bytes place) (λ l fresh i lt at. (fresh i lt at).1) (all_laid m.caches) h

byte_at : (l : Laid) (i j place : ℕ) → i < (laid_layout l).count → j < l.size → place ≡ object_place (laid_layout l) l.first l.colour i → IsByte l i j (place + j)
byte_at l i j place lt in_size e = record { index_in = lt; byte_in = in_size; at = ap (λ n. n + j) e }

-- the first place of an object lies in its slab
begins_in : (l : Laid) → IsCutLaid l → (i place : ℕ) → i < (laid_layout l).count → place ≡ object_place (laid_layout l) l.first l.colour i → in_laid place l ≡ true
begins_in l c i place lt at =
    let here : place + 0 ≡ place = omega arith in
    subst (λ p. in_laid p l ≡ true) here (byte_is_of l c i 0 (place + 0) (byte_at l i 0 place lt c.fit.sized at)).in_slab

-- if the bytes of objects that are not live do not change, an object that begins at the place stays fresh
pub fresh_same : (bytes new : ℕ → Option ℕ) (place : ℕ) (l : Laid) → ((i j p : ℕ) → IsByte l i j p → get_or l.live i false ≡ false → new p ≡ bytes p) → IsFresh bytes place l → IsFresh new place l
fresh_same bytes new place l same h i lt at = ((h i lt at).0, λ j in_size. same i j (place + j) (byte_at l i j place lt in_size at) (h i lt at).0 ∙ (h i lt at).1 j in_size)

each_same : (bytes new : ℕ → Option ℕ) (place : ℕ) (ls : List Laid) → ((l : Laid) → IsIn l ls → (i j p : ℕ) → IsByte l i j p → get_or l.live i false ≡ false → new p ≡ bytes p)
    → Each (IsFresh bytes place) ls → Each (IsFresh new place) ls
each_same bytes new place ls same h = each_from (IsFresh new place) ls (λ l i. fresh_same bytes new place l (same l i) (each_in (IsFresh bytes place) l ls h i))

-- Writes

-- a byte of an object that is not live is out of reach
dead_byte : {limit : ℕ} (order : ℕ) (m : Machine) (l : Laid) (i j p : ℕ) → IsWellFormed limit order m → IsIn l (all_laid m.caches) → IsByte l i j p → get_or l.live i false ≡ false → IsPageByte m p ⊎ IsLiveByte m p → ⊥
dead_byte {limit} order m l i j p w in_ls b dead (inl h) =
    let out : IsLaidOut order m.slots m.blocks (all_laid m.caches) m.bytes = laid_out order m w in
    let here : IsByteOf l i j p = byte_is_of l (each_in IsCutLaid l (all_laid m.caches) out.cut in_ls) i j p b in
    false≢true (sym (each_in (λ k. in_laid p k ≡ false) l (all_laid m.caches) (none_any (in_laid p) (all_laid m.caches) (page_apart order m p out h)) in_ls) ∙ here.in_slab)
dead_byte {limit} order m l i j p w in_ls b dead (inr h) =
    let out : IsLaidOut order m.slots m.blocks (all_laid m.caches) m.bytes = laid_out order m w in
    let here : IsByteOf l i j p = byte_is_of l (each_in IsCutLaid l (all_laid m.caches) out.cut in_ls) i j p b in
    let k : Laid = laid h.cache h.slab in
    let in_k : IsIn k (all_laid m.caches) = in_all_laid h.cache h.slab m.caches h.cache_in h.slab_in in
    let cut : IsCutLaid k = each_in IsCutLaid k (all_laid m.caches) out.cut in_k in
    let there : IsByteOf k h.index h.byte p = byte_is_of k cut h.index h.byte p (live_byte m p h cut) in
    let one : l ≡ k = one_holder laid_block (all_laid m.caches) l k (p / FRAME_BYTES) out.apart_slabs in_ls in_k (in_block-true p (laid_block l) here.in_slab) (in_block-true p (laid_block k) there.in_slab) in
    let index : i ≡ h.index = sym here.index_is ∙ (ap (λ x. (p - FRAME_BYTES * x.first - x.colour) / (laid_layout x).chunk) one ∙ there.index_is) in
    false≢true (sym dead ∙ (ap (λ n. get_or l.live n false) index ∙ (ap (λ x. get_or x.live h.index false) one ∙ h.live)))

pub fresh_written : {limit : ℕ} (order place begin : ℕ) (new : List ℕ) (m : Machine) → IsWellFormed limit order m → in_reach m begin (length new) ≡ true → AllFresh place m → AllFresh place (record m { bytes = written begin new m.bytes })
fresh_written order place begin new m w e h = each_same m.bytes (written begin new m.bytes) place (all_laid m.caches) (λ l in_ls i j p b dead. stays l in_ls i j p b dead (leb begin p && ltb p (begin + length new)) refl) h
  where
    stays : (l : Laid) → IsIn l (all_laid m.caches) → (i j p : ℕ) → IsByte l i j p → get_or l.live i false ≡ false → (b : Bool) → (leb begin p && ltb p (begin + length new)) ≡ b
        → (if b then slice_get new (p - begin) else m.bytes p) ≡ m.bytes p
    stays l in_ls i j p b dead false is = refl
    stays l in_ls i j p b dead true is = absurd (dead_byte order m l i j p w in_ls b dead (reached m begin (length new) p e
        (leb-true begin p (and_parts (leb begin p) (ltb p (begin + length new)) is).0) (ltb-true p (begin + length new) (and_parts (leb begin p) (ltb p (begin + length new)) is).1)))

-- One flag is set. The objects that begin at the place stay fresh, unless one of them is marked live.

pub fresh_flagged : {limit : ℕ} (order place : ℕ) (c : Cache) (s : Slab) (i : ℕ) (b : Bool) (m : Machine) → IsWellFormed limit order m → IsIn c m.caches → IsIn s c.slabs
    → (b ≡ true → object_place (layout c) s.first s.colour i ≢ place) → AllFresh place m → AllFresh place (with_cache (with_slab (with_live i b s) c) m)
fresh_flagged order place c s i b m w in_c in_s other h =
    let f : IsFlagged c s i b m = flagged order c s i b m w in_c in_s in
    let l : Laid = laid c s in
    let old : Each (IsFresh m.bytes place) (f.xs ++ l ∷ f.ys) = subst (Each (IsFresh m.bytes place)) f.was h in
    let cut : IsCutLaid l = each_in IsCutLaid l (all_laid m.caches) (laid_out order m w).cut (in_all_laid c s m.caches in_c in_s) in
    subst (Each (IsFresh m.bytes place)) (sym f.is) (each_put (IsFresh m.bytes place) f.xs f.ys (with_flags (slice_set s.live i b) l) (each_less (IsFresh m.bytes place) f.xs f.ys l old)
    (λ k lt at. let was : (get_or s.live k false ≡ false) × ((j : ℕ) → j < c.size → m.bytes (place + j) ≡ Some (pattern_byte c.pattern j)) = each_middle (IsFresh m.bytes place) f.xs f.ys l old k lt at in
    (flag k (subst (λ n. k < n) (sym cut.count) lt) at was.0 b refl (cases_eq k i), was.1)))
  where
    flag : (k : ℕ) → k < length s.live → place ≡ object_place (layout c) s.first s.colour k → get_or s.live k false ≡ false → (v : Bool) → b ≡ v → (k ≡ i) ⊎ (k ≡ i → ⊥) → get_or (slice_set s.live i b) k false ≡ false
    flag k lt at dead v is (inr ne) = get_or-set_other s.live i k b false ne ∙ dead
    flag k lt at dead false is (inl same) = ap (λ n. get_or (slice_set s.live i b) n false) same ∙ (get_or-set_same s.live i b false (subst (λ n. n < length s.live) same lt) ∙ is)
    flag k lt at dead true is (inl same) = absurd (other is (ap (λ n. object_place (layout c) s.first s.colour n) (sym same) ∙ sym at))

-- if all objects that begin at the place are fresh, they still read as their patterns after any flag is set
pub constructed_flagged : {limit : ℕ} (order place : ℕ) (c : Cache) (s : Slab) (i : ℕ) (b : Bool) (m : Machine) → IsWellFormed limit order m → IsIn c m.caches → IsIn s c.slabs
    → AllFresh place m → AllConstructed place (with_cache (with_slab (with_live i b s) c) m)
constructed_flagged order place c s i b m w in_c in_s h =
    let f : IsFlagged c s i b m = flagged order c s i b m w in_c in_s in
    let old : Each (IsConstructed m.bytes place) (f.xs ++ laid c s ∷ f.ys) = subst (Each (IsConstructed m.bytes place)) f.was (fresh_constructed place m h) in
    subst (Each (IsConstructed m.bytes place)) (sym f.is) (each_put (IsConstructed m.bytes place) f.xs f.ys (with_flags (slice_set s.live i b) (laid c s)) (each_less (IsConstructed m.bytes place) f.xs f.ys (laid c s) old)
    (λ k lt at. each_middle (IsConstructed m.bytes place) f.xs f.ys (laid c s) old k lt at))

-- Growth

fresh_byte_is : (c : Cache) (s : Slab) (place : ℕ) → in_object (layout c) c.size s.colour (place - FRAME_BYTES * s.first) ≡ true
    → fresh_byte c s place ≡ Some (pattern_byte c.pattern ((place - FRAME_BYTES * s.first - s.colour) % (layout c).chunk))
unfolding fresh_byte
fresh_byte_is c s place e = ap (λ b. if b then Some (pattern_byte c.pattern ((place - FRAME_BYTES * s.first - s.colour) % (layout c).chunk)) else None) e

-- the byte at a place after growth
pub grown_byte : (first : ℕ) (c : Cache) (m : Machine) (place : ℕ) (b : Bool) → in_block place (slab_block c (new_slab c first)) ≡ b
    → (grown first c m).bytes place ≡ (if b then fresh_byte c (new_slab c first) place else m.bytes place)
unfolding grown
grown_byte first c m place b e = ap (λ b. if b then fresh_byte c (new_slab c first) place else m.bytes place) e

pub fresh_grown : {limit : ℕ} (order place first : ℕ) (c : Cache) (m : Machine) → IsWellFormed limit order m → IsIn c m.caches → choice order m (layout c).order ≡ Some first
    → (in_block place (slab_block c (new_slab c first)) ≡ false → AllFresh place m) → AllFresh place (grown first c m)
fresh_grown order place first c m w in_c e h =
    let g : IsGrown first c m = grown_is order first c m w in_c in
    let l : Laid = laid c (new_slab c first) in
    let out : IsLaidOut order m.slots m.blocks (all_laid m.caches) m.bytes = laid_out order m w in
    let apart : Each (λ k. IsApart (laid_block l) (laid_block k)) (all_laid m.caches) = each_unmap (IsApart (laid_block l)) laid_block (all_laid m.caches)
    (each_right (IsApart (laid_block l)) m.blocks (map laid_block (all_laid m.caches)) (subst (Each (IsApart (laid_block l))) (taken_laid m) (chosen_apart order (layout c).order first m w.apart e))) in
    let outside : (k : Laid) → IsIn k (all_laid m.caches) → (p : ℕ) → in_laid p k ≡ true → in_block p (laid_block l) ≡ false =
    λ k in_ls p here. apart_place p (laid_block k) (laid_block l) (apart_turned (laid_block l) (laid_block k) (each_in (λ k. IsApart (laid_block l) (laid_block k)) k (all_laid m.caches) apart in_ls)) here in
    let old : Each (IsFresh (grown first c m).bytes place) (all_laid m.caches) = each_from (IsFresh (grown first c m).bytes place) (all_laid m.caches) (λ k in_ls i lt at.
    let cut : IsCutLaid k = each_in IsCutLaid k (all_laid m.caches) out.cut in_ls in
    let untouched : AllFresh place m = h (outside k in_ls place (begins_in k cut i place lt at)) in
    fresh_same m.bytes (grown first c m).bytes place k (λ i j p b dead. grown_byte first c m p false (outside k in_ls p (byte_is_of k cut i j p b).in_slab))
    (each_in (IsFresh m.bytes place) k (all_laid m.caches) untouched in_ls) i lt at) in
    let is_c : IsCache c = each_in IsCache c m.caches w.caches in_c in
    let cut : IsCutLaid l = record { fit = layouts_fit c.size c.align is_c.sized is_c.aligned; count = length-replicate {A = Bool} (layout c).count false; colour_is = (c.made, refl) } in
    subst (Each (IsFresh (grown first c m).bytes place)) (sym g.is) (each_put (IsFresh (grown first c m).bytes place) g.xs g.ys l (subst (Each (IsFresh (grown first c m).bytes place)) g.was old)
    (λ i lt at. (
      everywhere false (layout c).count i,
      λ j in_size.
          let b : IsByteOf l i j (place + j) = byte_is_of l cut i j (place + j) (byte_at l i j place lt in_size at) in
          grown_byte first c m (place + j) true b.in_slab ∙ (fresh_byte_is c (new_slab c first) (place + j) b.in_one ∙ ap (λ n. Some (pattern_byte c.pattern n)) b.byte_is),
    )))

-- Freed slabs

-- a place in a slab that stays is in no freed slab
pub not_gone : (q : Laid → Bool) (ls : List Laid) (p : ℕ) (l : Laid) → AreApart (map laid_block ls) → IsIn l (filter (λ x. not (q x)) ls) → in_laid p l ≡ true
    → list_any (in_block p) (map laid_block (filter q ls)) ≡ false
not_gone q ls p l apart in_kept here = false_from_ne_true (list_any (in_block p) (map laid_block (filter q ls))) (λ e.
    false≢true (sym (one_side laid_block q ls p apart (sym (any_map (in_block p) laid_block (filter q ls)) ∙ e)) ∙ any_in (in_laid p) l (filter (λ x. not (q x)) ls) in_kept here))

fresh_given_back : (q : Laid → Bool) (ls : List Laid) (bytes : ℕ → Option ℕ) (place : ℕ) → AreApart (map laid_block ls) → Each IsCutLaid ls → Each (IsFresh bytes place) ls
    → Each (IsFresh (zeroed (map laid_block (filter q ls)) bytes) place) (filter (λ x. not (q x)) ls)
fresh_given_back q ls bytes place apart cut h = each_same bytes (zeroed (map laid_block (filter q ls)) bytes) place (filter (λ x. not (q x)) ls)
    (λ l in_kept i j p b dead. ap (λ t. if t then Some 0 else bytes p) (not_gone q ls p l apart in_kept
    (byte_is_of l (each_in IsCutLaid l ls cut (filter_in (λ x. not (q x)) l ls in_kept).0) i j p b).in_slab))
    (each_filter (IsFresh bytes place) (λ x. not (q x)) ls h)

pub fresh_destroyed : {limit : ℕ} (order place : ℕ) (c : Cache) (m : Machine) → IsWellFormed limit order m → IsIn c m.caches → AllFresh place m → AllFresh place (destroyed c m)
unfolding destroyed
fresh_destroyed order place c m w i h =
    let f : Found (λ x. x.number) c m.caches = found (λ x. x.number) 0 c m.caches w.caches_rise i in
    let out : IsLaidOut order m.slots m.blocks (all_laid m.caches) m.bytes = laid_out order m w in
    subst (Each (IsFresh (destroyed c m).bytes place)) (filter_laid (λ n. not (eqb n c.number)) m.caches)
    (subst (λ bs. Each (IsFresh (zeroed bs m.bytes) place) (filter (λ l. not (eqb l.number c.number)) (all_laid m.caches))) (ap (λ ls. map laid_block ls) (laid_of c m.caches f) ∙ sym (slab_blocks_laid c))
    (fresh_given_back (λ l. eqb l.number c.number) (all_laid m.caches) m.bytes place out.apart_slabs out.cut h))

pub fresh_reaped : {limit : ℕ} (order place : ℕ) (m : Machine) → IsWellFormed limit order m → AllFresh place m → AllFresh place (reaped m)
unfolding reaped
fresh_reaped order place m w h =
    let out : IsLaidOut order m.slots m.blocks (all_laid m.caches) m.bytes = laid_out order m w in
    subst (Each (IsFresh (reaped m).bytes place)) (kept_laid m.caches)
    (subst (λ bs. Each (IsFresh (zeroed bs m.bytes) place) (filter (λ l. not (is_empty_laid l)) (all_laid m.caches))) (sym (gone_laid m.caches))
    (fresh_given_back is_empty_laid (all_laid m.caches) m.bytes place out.apart_slabs out.cut h))

-- Slots

-- each byte of an object lies in the slot of the object's slab, and this slot is held
slab_slot : {limit : ℕ} (order : ℕ) (m : Machine) (l : Laid) (i j p : ℕ) → IsWellFormed limit order m → IsIn l (all_laid m.caches) → IsByte l i j p
    → (slot_of order p ≡ l.first / 2 ^ order) × (list_any (λ v. eqb v (slot_of order p)) m.slots ≡ true)
slab_slot order m l i j p w in_ls b =
    let out : IsLaidOut order m.slots m.blocks (all_laid m.caches) m.bytes = laid_out order m w in
    let placed : Placed order m.slots (laid_block l) = each_in (λ k. Placed order m.slots (laid_block k)) l (all_laid m.caches) out.placed_slabs in_ls in
    let here : in_laid p l ≡ true = (byte_is_of l (each_in IsCutLaid l (all_laid m.caches) out.cut in_ls) i j p b).in_slab in
    (frame_slot order (p / FRAME_BYTES) (laid_block l) placed.0 (in_block-true p (laid_block l) here), place_held order m.slots p (laid_block l) placed here)

pub next_unheld : {limit : ℕ} (order : ℕ) (m : Machine) → IsWellFormed limit order m → list_any (λ v. eqb v (next_slot m)) m.slots ≡ false
unfolding next_slot
next_unheld order m w = any_none (λ v. eqb v (least_missing 0 m.slots)) m.slots
    (each_weaker (λ v. v ≢ least_missing 0 m.slots) (λ v. eqb v (least_missing 0 m.slots) ≡ false) (λ v. ne_eqb v (least_missing 0 m.slots)) m.slots (least_is_missing 0 m.slots w.slots_rise))

pub fresh_granted : {limit : ℕ} (order place : ℕ) (m : Machine) → IsWellFormed limit order m → AllFresh place m → AllFresh place (after_grant order m)
unfolding after_grant
fresh_granted order place m w h = each_same m.bytes (after_grant order m).bytes place (all_laid m.caches) (λ l in_ls i j p b dead.
    ap (λ t. if t then Some 0 else m.bytes p) (ne_eqb (slot_of order p) (next_slot m) (λ same.
    false≢true (sym (next_unheld order m w) ∙ (ap (λ u. list_any (λ v. eqb v u) m.slots) (sym same) ∙ (slab_slot order m l i j p w in_ls b).1))))) h

pub fresh_taken_back : {limit : ℕ} (order place slot : ℕ) (m : Machine) → IsWellFormed limit order m → is_busy order m slot ≡ false → AllFresh place m → AllFresh place (after_take_back order slot m)
unfolding after_take_back
fresh_taken_back order place slot m w e h =
    let apart : Each (λ l. l.first / 2 ^ order ≢ slot) (all_laid m.caches) = each_unmap (λ b. b.first / 2 ^ order ≢ slot) laid_block (all_laid m.caches)
    (each_right (λ b. b.first / 2 ^ order ≢ slot) m.blocks (map laid_block (all_laid m.caches)) (not_busy order slot m e)) in
    each_same m.bytes (after_take_back order slot m).bytes place (all_laid m.caches) (λ l in_ls i j p b dead.
    ap (λ t. if t then None else m.bytes p) (ne_eqb (slot_of order p) slot (λ same.
    each_in (λ l. l.first / 2 ^ order ≢ slot) l (all_laid m.caches) apart in_ls (sym (slab_slot order m l i j p w in_ls b).0 ∙ same)))) h
