-- Each byte of an object lies in the object's slab. The objects that `live_objects` lists are live, and every place in reach has
-- a byte.
use Rattle.std.proofs.Common.{◌≡◌, ℕ, suc, ◌+◌, ◌-◌, ◌*◌, ◌/◌, ◌%◌, ◌^◌, ◌<◌, ◌≤◌, Bool, true, false, not, ◌&&◌, ◌||◌, eqb, ltb, leb, List, [], ◌∷◌, map, length, get_or, refl, sym, ap, ◌∙◌, subst, ◌⊎◌, inl, inr, arith}
use Rattle.std.specs.Prelude.{if◌then◌else◌, is_some, flat_map}
use Rattle.std.specs.List.{list_any, AllByRecursion as Each}
use Rattle.std.proofs.lemmas.Bool.{and_parts, and_from, or_cases, or_right, leb-true, le-leb, lt-ltb}
use Rattle.std.proofs.lemmas.Nat.{row_fits, div-mul-add, mod-mul-add}
use Rattle.model_core.specs.declared.limits.TheConstants.{FRAME_BYTES}
use Rattle.model_core.specs.Blocks.{Block}
use Rattle.model_core.specs.Layouts.{object_place, in_object, IsFit}
use Rattle.model_core.specs.Machine.{Slab, Cache, Machine, slot_of, layout, in_block}
use Rattle.model_core.specs.Slabs.{LiveObject, live_from, live_in, live_objects}
use Rattle.model_core.specs.Reach.{is_within, within_block, within_object, within_objects, in_reach}
use Rattle.model_core.specs.WellFormed.{IsApart, IsWellFormed}
use Rattle.model_core.specs.Elements.{IsIn}
use Rattle.model_core.proofs.Lists.{each_in, each_unmap, some_any, any_in, any_none, each_weaker, in_append}
use Rattle.model_core.proofs.BlocksApart.{in_block-from, apart_place}
use Rattle.model_core.proofs.LaidSlabs.{Laid, laid, all_laid, laid_layout, laid_block, in_laid, in_laid_object, IsCutLaid, IsLaidOut, laid_out}
use Rattle.model_core.proofs.MemoryKept.{place_held}
use Rattle.model_core.proofs.CacheSteps.{in_all_laid}

-- the place is byte j of object i of the slab
pub record IsByte (l : Laid) (i j place : ℕ) : Type 0 where
  pub index_in : i < (laid_layout l).count
  pub byte_in : j < l.size
  pub at : place ≡ object_place (laid_layout l) l.first l.colour i + j

pub fit_of : (l : Laid) → IsCutLaid l → IsFit (laid_layout l) l.colour
fit_of l c = subst (IsFit (laid_layout l)) (sym c.colour_is.1) (c.fit.fits c.colour_is.0)

pub record IsByteOf (l : Laid) (i j place : ℕ) : Type 0 where
  pub in_slab : in_laid place l ≡ true
  pub in_one : in_object (laid_layout l) l.size l.colour (place - FRAME_BYTES * l.first) ≡ true
  pub index_is : (place - FRAME_BYTES * l.first - l.colour) / (laid_layout l).chunk ≡ i
  pub byte_is : (place - FRAME_BYTES * l.first - l.colour) % (laid_layout l).chunk ≡ j
  pub below : place < FRAME_BYTES * l.first + (laid_layout l).room

pub byte_is_of : (l : Laid) → IsCutLaid l → (i j place : ℕ) → IsByte l i j place → IsByteOf l i j place
byte_is_of l c i j place h =
    let fit : IsFit (laid_layout l) l.colour = fit_of l c in
    let chunk : ℕ = (laid_layout l).chunk in
    let in_chunk : j < chunk = omega (arith, h.byte_in, c.fit.chunked) in
    let fits : i * chunk + chunk ≤ (laid_layout l).count * chunk = row_fits i chunk (laid_layout l).count chunk h.index_in (omega arith) in
    let rest : place - FRAME_BYTES * l.first - l.colour ≡ i * chunk + j = omega (arith, h.at) in
    let low : l.colour ≤ place - FRAME_BYTES * l.first = omega (arith, h.at) in
    let inside : place < FRAME_BYTES * l.first + (laid_layout l).room = omega (arith, h.at, fits, fit.inside) in
    let index : (place - FRAME_BYTES * l.first - l.colour) / chunk ≡ i = ap (λ n. n / chunk) rest ∙ div-mul-add i chunk j in_chunk in
    let byte : (place - FRAME_BYTES * l.first - l.colour) % chunk ≡ j = ap (λ n. n % chunk) rest ∙ mod-mul-add i chunk j in_chunk in
    let within : (laid_layout l).room ≤ FRAME_BYTES * 2 ^ (laid_layout l).order = fit.within in
    record {
      in_slab = in_block-from place (laid_block l) (omega (arith, h.at), omega (arith, inside, within, h.at));
      in_one = and_from (leb l.colour (place - FRAME_BYTES * l.first)) _ (le-leb l.colour (place - FRAME_BYTES * l.first) low)
          (and_from (ltb ((place - FRAME_BYTES * l.first - l.colour) / chunk) (laid_layout l).count) (ltb ((place - FRAME_BYTES * l.first - l.colour) % chunk) l.size)
          (lt-ltb ((place - FRAME_BYTES * l.first - l.colour) / chunk) (laid_layout l).count (subst (λ n. n < (laid_layout l).count) (sym index) h.index_in))
          (lt-ltb ((place - FRAME_BYTES * l.first - l.colour) % chunk) l.size (subst (λ n. n < l.size) (sym byte) h.byte_in)));
      index_is = index;
      byte_is = byte;
      below = inside;
    }

-- Live objects

pub record IsLive (c : Cache) (o : LiveObject) : Type 0 where
  pub slab_in : IsIn o.slab c.slabs
  pub index_in : o.index < length o.slab.live
  pub live : get_or o.slab.live o.index false ≡ true
  pub at : o.place ≡ object_place (layout c) o.slab.first o.slab.colour o.index

-- o is a live object of slab s with an index of n or more; the list has the flags of the objects from n on
record IsLiveFrom (c : Cache) (s : Slab) (n : ℕ) (flags : List Bool) (o : LiveObject) : Type 0 where
  slab_is : o.slab ≡ s
  low : n ≤ o.index
  high : o.index < n + length flags
  live : get_or flags (o.index - n) false ≡ true
  at : o.place ≡ object_place (layout c) s.first s.colour o.index

live_from_is : (c : Cache) (s : Slab) (n : ℕ) (flags : List Bool) (o : LiveObject) → IsIn o (live_from c s n flags) → IsLiveFrom c s n flags o
live_from_is c s n [] o i = elim i [ ]
live_from_is c s n (flag ∷ flags) o i = go flag refl i (live_from_is c s (n + 1) flags o)
  where
    later : IsLiveFrom c s (n + 1) flags o → IsLiveFrom c s n (flag ∷ flags) o
    later h = let next : o.index - n ≡ suc (o.index - (n + 1)) = omega (arith, h.low) in
        record { slab_is = h.slab_is; low = omega (arith, h.low); high = omega (arith, h.high); live = ap (λ k. get_or (flag ∷ flags) k false) next ∙ h.live; at = h.at }

    go : (b : Bool) → flag ≡ b → IsIn o (if b then record { slab = s; index = n; place = object_place (layout c) s.first s.colour n } ∷ live_from c s (n + 1) flags else live_from c s (n + 1) flags)
        → (IsIn o (live_from c s (n + 1) flags) → IsLiveFrom c s (n + 1) flags o) → IsLiveFrom c s n (flag ∷ flags) o
    go true e (inl same) ih = record {
      slab_is = ap (λ x. x.slab) (sym same);
      low = omega (arith, ap (λ x. x.index) same);
      high = omega (arith, ap (λ x. x.index) same);
      live = (let none : o.index - n ≡ 0 = omega (arith, ap (λ x. x.index) same) in ap (λ k. get_or (flag ∷ flags) k false) none ∙ e);
      at = ap (λ x. x.place) (sym same) ∙ ap (λ i. object_place (layout c) s.first s.colour i) (ap (λ x. x.index) same);
    }
    go true e (inr j) ih = later (ih j)
    go false e j ih = later (ih j)

live_is_in : (c : Cache) (ss : List Slab) (o : LiveObject) → IsIn o (flat_map (live_in c) ss) → (s : Slab) × IsIn s ss × IsIn o (live_in c s)
live_is_in c [] o i = elim i [ ]
live_is_in c (s ∷ ss) o i = elim (in_append o (live_in c s) (flat_map (live_in c) ss) i) [
  | inl j ↦ (s, inl refl, j)
  | inr j ↦ let t : (s : Slab) × IsIn s ss × IsIn o (live_in c s) = live_is_in c ss o j in (t.0, inr t.1, t.2)
]

pub live_is : (c : Cache) (o : LiveObject) → IsIn o (live_objects c) → IsLive c o
live_is c o i =
    let t : (s : Slab) × IsIn s c.slabs × IsIn o (live_in c s) = live_is_in c c.slabs o i in
    let h : IsLiveFrom c t.0 0 t.0.live o = live_from_is c t.0 0 t.0.live o t.2 in
    let first : o.index - 0 ≡ o.index = omega arith in
    record {
      slab_in = subst (λ s. IsIn s c.slabs) (sym h.slab_is) t.1;
      index_in = subst (λ s. o.index < length s.live) (sym h.slab_is) (omega (arith, h.high));
      live = subst (λ s. get_or s.live o.index false ≡ true) (sym h.slab_is) (ap (λ k. get_or t.0.live k false) (sym first) ∙ h.live);
      at = subst (λ s. o.place ≡ object_place (layout c) s.first s.colour o.index) (sym h.slab_is) h.at;
    }

-- What is in reach

-- the place is a byte of a live object
pub record IsLiveByte (m : Machine) (place : ℕ) : Type 0 where
  pub cache : Cache
  pub slab : Slab
  pub index : ℕ
  pub byte : ℕ
  pub cache_in : IsIn cache m.caches
  pub slab_in : IsIn slab cache.slabs
  pub index_in : index < length slab.live
  pub live : get_or slab.live index false ≡ true
  pub byte_in : byte < cache.size
  pub at : place ≡ object_place (layout cache) slab.first slab.colour index + byte

-- the place is in a page block
pub record IsPageByte (m : Machine) (place : ℕ) : Type 0 where
  pub page : Block
  pub page_in : IsIn page m.blocks
  pub in_page : in_block place page ≡ true

pub within_is : (place len begin size : ℕ) → is_within place len begin size ≡ true → (begin ≤ place) × (place + len ≤ begin + size)
within_is place len begin size e =
    let p : (leb begin place ≡ true) × (leb (place + len) (begin + size) ≡ true) = and_parts (leb begin place) (leb (place + len) (begin + size)) e in
    (leb-true begin place p.0, leb-true (place + len) (begin + size) p.1)

pub reached : (m : Machine) (place len p : ℕ) → in_reach m place len ≡ true → place ≤ p → p < place + len → IsPageByte m p ⊎ IsLiveByte m p
unfolding in_reach
reached m place len p e low high = elim (or_cases (list_any (within_block place len) m.blocks) (list_any (within_objects place len) m.caches) (and_parts (ltb 0 len) _ e).1) [
  | inl h ↦
      let b : (b : Block) × IsIn b m.blocks × (within_block place len b ≡ true) = some_any (within_block place len) m.blocks h in
      let w : (FRAME_BYTES * b.0.first ≤ place) × (place + len ≤ FRAME_BYTES * b.0.first + FRAME_BYTES * 2 ^ b.0.order) = within_is place len (FRAME_BYTES * b.0.first) (FRAME_BYTES * 2 ^ b.0.order) b.2 in
      inl (record { page = b.0; page_in = b.1; in_page = in_block-from p b.0 (omega (arith, w.0), omega (arith, w.1)) })
  | inr h ↦
      let c : (c : Cache) × IsIn c m.caches × (within_objects place len c ≡ true) = some_any (within_objects place len) m.caches h in
      let o : (o : LiveObject) × IsIn o (live_objects c.0) × (within_object c.0 place len o ≡ true) = some_any (within_object c.0 place len) (live_objects c.0) c.2 in
      let w : (o.0.place ≤ place) × (place + len ≤ o.0.place + c.0.size) = within_is place len o.0.place c.0.size o.2 in
      let l : IsLive c.0 o.0 = live_is c.0 o.0 o.1 in
      inr (record {
        cache = c.0;
        slab = o.0.slab;
        index = o.0.index;
        byte = p - o.0.place;
        cache_in = c.1;
        slab_in = l.slab_in;
        index_in = l.index_in;
        live = l.live;
        byte_in = omega (arith, w.0, w.1);
        at = omega (arith, w.0, l.at);
      })
]

-- if a place is byte j of live object i of a slab, it is byte j of object i of the laid slab
pub live_byte : (m : Machine) (place : ℕ) (h : IsLiveByte m place) → IsCutLaid (laid h.cache h.slab) → IsByte (laid h.cache h.slab) h.index h.byte place
live_byte m place h c = record { index_in = subst (λ n. h.index < n) c.count h.index_in; byte_in = h.byte_in; at = h.at }

-- a place in a page block is in no slab
pub page_apart : (order : ℕ) (m : Machine) (place : ℕ) → IsLaidOut order m.slots m.blocks (all_laid m.caches) m.bytes → IsPageByte m place → list_any (in_laid place) (all_laid m.caches) ≡ false
page_apart order m place l h =
    let apart : Each (IsApart h.page) (map laid_block (all_laid m.caches)) = each_in (λ a. Each (IsApart a) (map laid_block (all_laid m.caches))) h.page m.blocks l.across h.page_in in
    any_none (in_laid place) (all_laid m.caches) (each_weaker (λ k. IsApart h.page (laid_block k)) (λ k. in_laid place k ≡ false) (λ k a. apart_place place h.page (laid_block k) a h.in_page) (all_laid m.caches)
    (each_unmap (IsApart h.page) laid_block (all_laid m.caches) apart))

-- a place in a page block or in a live object has a byte
pub reached_mapped : {limit : ℕ} (order : ℕ) (m : Machine) (place : ℕ) → IsWellFormed limit order m → IsPageByte m place ⊎ IsLiveByte m place → is_some (m.bytes place) ≡ true
reached_mapped order m place w (inl h) =
    let l : IsLaidOut order m.slots m.blocks (all_laid m.caches) m.bytes = laid_out order m w in
    l.mapped place
    ∙ (ap (λ b. (list_any (λ v. eqb v (slot_of order place)) m.slots && not b) || list_any (in_laid_object place) (all_laid m.caches)) (page_apart order m place l h)
    ∙ ap (λ b. (b && true) || list_any (in_laid_object place) (all_laid m.caches)) (place_held order m.slots place h.page (each_in _ h.page m.blocks l.placed_blocks h.page_in) h.in_page))
reached_mapped order m place w (inr h) =
    let l : IsLaidOut order m.slots m.blocks (all_laid m.caches) m.bytes = laid_out order m w in
    let k : Laid = laid h.cache h.slab in
    let i : IsIn k (all_laid m.caches) = in_all_laid h.cache h.slab m.caches h.cache_in h.slab_in in
    let c : IsCutLaid k = each_in IsCutLaid k (all_laid m.caches) l.cut i in
    let b : IsByteOf k h.index h.byte place = byte_is_of k c h.index h.byte place (live_byte m place h c) in
    l.mapped place ∙ or_right _ (list_any (in_laid_object place) (all_laid m.caches)) (any_in (in_laid_object place) k (all_laid m.caches) i (and_from (in_laid place k) _ b.in_slab b.in_one))
