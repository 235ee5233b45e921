-- A byte that is in reach before and after an operation changes only if the operation writes it.
use Rattle.std.proofs.Common.{◌≡◌, ◌-◌, ◌≢◌, ℕ, zero, suc, ◌/◌, ◌^◌, ◌<◌, Bool, true, false, not, eqb, List, [], ◌∷◌, ◌++◌, map, length, get_or, Some, None, refl, sym, ap, ◌∙◌, subst, ◌⊎◌, inl, inr, arith}
use Rattle.std.specs.Prelude.{slice_get, if◌then◌else◌, filter}
use Rattle.std.specs.List.{list_any, AllByRecursion as Each}
use Rattle.std.proofs.lemmas.Bool.{false≢true, ne_eqb, or_left, or_right, or_parts, not_from_false}
use Rattle.model_core.specs.declared.limits.TheConstants.{FRAME_BYTES}
use Rattle.model_core.specs.Blocks.{Block, block}
use Rattle.model_core.specs.Machine.{Cache, Machine, empty_machine, slot_of, layout, in_block, choice}
use Rattle.model_core.specs.Slabs.{is_empty, grown, without_empty, reaped, by_need, choice_by_need, destroyed}
use Rattle.model_core.specs.Reach.{in_reach}
use Rattle.model_core.specs.Operations.{next_slot, after_grant, is_busy, after_take_back}
use Rattle.model_core.specs.WellFormed.{IsApart, IsWellFormed}
use Rattle.model_core.specs.ByteLaws.{writes, WritesAlone}
use Rattle.model_core.specs.Elements.{IsIn}
use Rattle.model_core.proofs.Lists.{in_filter, each_in, Found, found, any_map, any_split, none_any, in_left, in_right, in_map}
use Rattle.model_core.proofs.ReapingByNeed.{by_need_keeps}
use Rattle.model_core.proofs.Outcomes.{outcome}
use Rattle.model_core.proofs.BlocksApart.{in_block-true, apart_place}
use Rattle.model_core.proofs.ChosenBlock.{chosen_apart}
use Rattle.model_core.proofs.LaidSlabs.{Laid, laid, all_laid, laid_block, in_laid, Placed, IsCutLaid, taken_laid, laid_out}
use Rattle.model_core.proofs.MemoryKept.{frame_slot, place_held}
use Rattle.model_core.proofs.SlabAmongOthers.{laid_of, slab_blocks_laid, is_empty_laid, gone_laid}
use Rattle.model_core.proofs.PageSteps.{by_need_kept, not_busy}
use Rattle.model_core.proofs.CacheSteps.{in_all_laid}
use Rattle.model_core.proofs.Objects.{byte_is_of, IsPageByte, IsLiveByte, reached, live_byte, page_apart}
use Rattle.model_core.proofs.ConstructedObjects.{grown_byte, not_gone, next_unheld}
use Rattle.model_core.proofs.ObjectsApart.{one_key}

-- A place in reach lies in a taken block

abbrev Reached : Machine → ℕ → Type 0
Reached m place = IsPageByte m place ⊎ IsLiveByte m place

record IsHolder (m : Machine) (place : ℕ) : Type 0 where
  holder : Block
  holder_in : IsIn holder (m.blocks ++ map laid_block (all_laid m.caches))
  here : in_block place holder ≡ true

live_in_slab : {limit : ℕ} (order : ℕ) (m : Machine) (place : ℕ) → IsWellFormed limit order m → (h : IsLiveByte m place) → in_laid place (laid h.cache h.slab) ≡ true
live_in_slab order m place w h =
    let cut : IsCutLaid (laid h.cache h.slab) = each_in IsCutLaid (laid h.cache h.slab) (all_laid m.caches) (laid_out order m w).cut (in_all_laid h.cache h.slab m.caches h.cache_in h.slab_in) in
    (byte_is_of (laid h.cache h.slab) cut h.index h.byte place (live_byte m place h cut)).in_slab

holder_of : {limit : ℕ} (order : ℕ) (m : Machine) (place : ℕ) → IsWellFormed limit order m → Reached m place → IsHolder m place
holder_of order m place w (inl h) = record { holder = h.page; holder_in = in_left h.page m.blocks (map laid_block (all_laid m.caches)) h.page_in; here = h.in_page }
holder_of order m place w (inr h) = record {
  holder = laid_block (laid h.cache h.slab);
  holder_in = in_right (laid_block (laid h.cache h.slab)) m.blocks (map laid_block (all_laid m.caches))
      (in_map laid_block (laid h.cache h.slab) (all_laid m.caches) (in_all_laid h.cache h.slab m.caches h.cache_in h.slab_in));
  here = live_in_slab order m place w h;
}

holder_placed : {limit : ℕ} (order : ℕ) (m : Machine) (place : ℕ) → IsWellFormed limit order m → (h : IsHolder m place) → Placed order m.slots h.holder
holder_placed order m place w h = each_in (Placed order m.slots) h.holder (m.blocks ++ map laid_block (all_laid m.caches)) (subst (Each (Placed order m.slots)) (taken_laid m) w.placed) h.holder_in

-- growth does not change the byte of a place in reach
reached_grown : {limit : ℕ} (order first : ℕ) (c : Cache) (m : Machine) (place : ℕ) → IsWellFormed limit order m → choice order m (layout c).order ≡ Some first → Reached m place → (grown first c m).bytes place ≡ m.bytes place
reached_grown order first c m place w e r =
    let h : IsHolder m place = holder_of order m place w r in
    let b : Block = block first (layout c).order in
    let apart : IsApart b h.holder = each_in (IsApart b) h.holder (m.blocks ++ map laid_block (all_laid m.caches)) (subst (Each (IsApart b)) (taken_laid m) (chosen_apart order (layout c).order first m w.apart e)) h.holder_in in
    grown_byte first c m place false (apart_place place h.holder b (λ x p q. apart x q p) h.here)

-- Let the slabs that pass q be freed. A place in a page block, or in a live object of a slab that stays, is in no freed slab.
reached_kept : {limit : ℕ} (order : ℕ) (q : Laid → Bool) (m : Machine) (place : ℕ) → IsWellFormed limit order m → (r : Reached m place)
    → ((h : IsLiveByte m place) → q (laid h.cache h.slab) ≡ false) → list_any (in_block place) (map laid_block (filter q (all_laid m.caches))) ≡ false
reached_kept order q m place w (inl h) kept =
    let none : list_any (in_laid place) (all_laid m.caches) ≡ false = page_apart order m place (laid_out order m w) h in
    any_map (in_block place) laid_block (filter q (all_laid m.caches)) ∙ (or_parts (list_any (in_laid place) (filter q (all_laid m.caches))) _ (sym (any_split (in_laid place) q (all_laid m.caches)) ∙ none)).0
reached_kept order q m place w (inr h) kept =
    not_gone q (all_laid m.caches) place (laid h.cache h.slab) (laid_out order m w).apart_slabs
    (in_filter (λ x. not (q x)) (laid h.cache h.slab) (all_laid m.caches) (in_all_laid h.cache h.slab m.caches h.cache_in h.slab_in) (not_from_false (q (laid h.cache h.slab)) (kept h))) (live_in_slab order m place w h)

-- a slab with a live object is not empty
some_live : (flags : List Bool) (i : ℕ) → i < length flags → get_or flags i false ≡ true → list_any (λ live. live) flags ≡ true
some_live [] i lt live = absurd (omega arith)
some_live (flag ∷ flags) zero lt live = or_left flag (list_any (λ live. live) flags) live
some_live (flag ∷ flags) (suc i) lt live = or_right flag (list_any (λ live. live) flags) (some_live flags i (omega arith) live)

live_not_empty : (m : Machine) (place : ℕ) (h : IsLiveByte m place) → is_empty h.slab ≡ false
live_not_empty m place h = ap not (some_live h.slab.live h.index h.index_in h.live)

-- A place in reach keeps its byte

abbrev Same : ℕ → Machine → Machine → Type 0
Same place m n = n.bytes place ≡ m.bytes place

same_reaped : {limit : ℕ} (order place : ℕ) (m : Machine) → IsWellFormed limit order m → Reached m place → Same place m (reaped m)
unfolding reaped
same_reaped order place m w r = ap (λ b. if b then Some 0 else m.bytes place) (ap (λ bs. list_any (in_block place) bs) (gone_laid m.caches)
    ∙ reached_kept order is_empty_laid m place w r (live_not_empty m place))

same_by_need : {limit : ℕ} (order k place : ℕ) (m : Machine) → IsWellFormed limit order m → Reached m place → Same place m (by_need order k m)
same_by_need order k place m w r = by_need_keeps (Same place m) order k m refl (same_reaped order place m w r)

-- a place in reach is still in reach after a reap
reached_reaped : (m : Machine) (place : ℕ) → Reached m place → Reached (reaped m) place
unfolding reaped
reached_reaped m place (inl h) = inl (record { page = h.page; page_in = h.page_in; in_page = h.in_page })
reached_reaped m place (inr h) = inr (record {
  cache = without_empty h.cache;
  slab = h.slab;
  index = h.index;
  byte = h.byte;
  cache_in = in_map without_empty h.cache m.caches h.cache_in;
  slab_in = in_filter (λ s. not (is_empty s)) h.slab h.cache.slabs h.slab_in (ap not (live_not_empty m place h));
  index_in = h.index_in;
  live = h.live;
  byte_in = h.byte_in;
  at = h.at;
})

same_made : {limit : ℕ} (order first : ℕ) (c : Cache) (m : Machine) (place : ℕ) → IsWellFormed limit order m → choice_by_need order (layout c).order m ≡ Some first → Reached m place
    → Same place m (grown first c (by_need order (layout c).order m))
same_made order first c m place w e r =
    let k : ℕ = (layout c).order in
    reached_grown order first c (by_need order k m) place (by_need_kept order k m w) e (by_need_keeps (λ n. Reached n place) order k m r (reached_reaped m place r)) ∙ same_by_need order k place m w r

same_destroyed : {limit : ℕ} (order place : ℕ) (c : Cache) (m : Machine) → IsWellFormed limit order m → Reached m place → IsIn c m.caches → list_any (λ s. not (is_empty s)) c.slabs ≡ false → Same place m (destroyed c m)
unfolding destroyed
same_destroyed order place c m w r in_c e =
    let f : Found (λ x. x.number) c m.caches = found (λ x. x.number) 0 c m.caches w.caches_rise in_c in
    ap (λ b. if b then Some 0 else m.bytes place) (ap (λ bs. list_any (in_block place) bs) (slab_blocks_laid c ∙ ap (λ ls. map laid_block ls) (sym (laid_of c m.caches f)))
    ∙ reached_kept order (λ l. eqb l.number c.number) m place w r (λ h. ne_eqb h.cache.number c.number (λ same.
    let one : h.cache ≡ c = one_key (λ x. x.number) 0 m.caches h.cache c w.caches_rise h.cache_in in_c same in
    false≢true (sym (each_in (λ s. not (is_empty s) ≡ false) h.slab c.slabs (none_any (λ s. not (is_empty s)) c.slabs e) (subst (λ x. IsIn h.slab x.slabs) one h.slab_in)) ∙ ap not (live_not_empty m place h)))))

same_granted : {limit : ℕ} (order place : ℕ) (m : Machine) → IsWellFormed limit order m → Reached m place → Same place m (after_grant order m)
unfolding after_grant
same_granted order place m w r =
    let h : IsHolder m place = holder_of order m place w r in
    ap (λ b. if b then Some 0 else m.bytes place) (ne_eqb (slot_of order place) (next_slot m) (λ same.
    false≢true (sym (next_unheld order m w) ∙ (ap (λ u. list_any (λ v. eqb v u) m.slots) (sym same) ∙ place_held order m.slots place h.holder (holder_placed order m place w h) h.here))))

same_gone : {limit : ℕ} (order slot place : ℕ) (m : Machine) → IsWellFormed limit order m → Reached m place → is_busy order m slot ≡ false → Same place m (after_take_back order slot m)
unfolding after_take_back
same_gone order slot place m w r e =
    let h : IsHolder m place = holder_of order m place w r in
    ap (λ b. if b then None else m.bytes place) (ne_eqb (slot_of order place) slot (λ same.
    each_in (λ b. b.first / 2 ^ order ≢ slot) h.holder (m.blocks ++ map laid_block (all_laid m.caches)) (not_busy order slot m e) h.holder_in
    (sym (frame_slot order (place / FRAME_BYTES) h.holder (holder_placed order m place w h).0 (in_block-true place h.holder h.here)) ∙ same)))

nothing_reached : (place : ℕ) → in_reach empty_machine place 1 ≡ false
unfolding in_reach empty_machine
nothing_reached place = refl

pub writes_alone : WritesAlone
writes_alone limit order operation m place w e f not_written = outcome limit order m (λ operation n. in_reach n place 1 ≡ true → writes operation place ≡ false → Same place m n) (record {
  refused = λ _ _ _ _. refl;
  page_taken = λ k first _ _ _. same_by_need order k place m w r;
  page_released = λ first _ _. refl;
  bytes_written = λ begin new _ _ unwritten. ap (λ b. if b then slice_get new (place - begin) else m.bytes place) unwritten;
  cache_made = λ size align pattern _ _ _ _ _. refl;
  object_taken = λ number c s _ _ _ _ _ _. refl;
  slab_made = λ number c first i e _ _ _ _. same_made order first c m place w e r;
  object_given = λ number begin c o _ _ _ _. refl;
  cache_destroyed = λ number c i none _ _. same_destroyed order place c m w r i none;
  slabs_reaped = λ _ _. same_reaped order place m w r;
  slot_granted = λ _ _. same_granted order place m w r;
  slot_gone = λ slot _ free _ _. same_gone order slot place m w r free;
  all_gone = λ there _. absurd (false≢true (sym (nothing_reached place) ∙ there));
}) operation f not_written
  where
    r : Reached m place
    r = reached m place 1 place e (omega arith) (omega arith)
