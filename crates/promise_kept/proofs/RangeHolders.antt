-- The holder of a range is live and contains the range. What is known stays true after the bytes of the range are read or
-- written.
use Rattle.std.proofs.Common.{◌≡◌, ℕ, zero, suc, ◌+◌, ◌-◌, ◌*◌, ◌^◌, ◌<◌, ◌≤◌, Bool, true, false, not, ◌||◌, ◌&&◌, eqb, ltb, leb, List, [], ◌∷◌, ◌++◌, map, length, Option, Some, None, refl, sym, ap, ◌∙◌, subst, arith}
use Rattle.std.specs.Prelude.{if◌then◌else◌, slice_index}
use Rattle.std.specs.List.{list_any}
use Rattle.std.proofs.lemmas.Bool.{false≢true, and_parts, and_from, or_left, leb-true, ltb-true, eq-eqb}
use Rattle.model_core.specs.Blocks.{Block}
use Rattle.model_core.specs.Layouts.{pattern_byte}
use Rattle.model_core.specs.Machine.{Slab, Cache, Machine, in_block}
use Rattle.model_core.specs.Machine as model
use Rattle.model_core.specs.Slabs.{live_objects}
use Rattle.model_core.specs.Reach.{is_within, within_block}
use Rattle.model_core.specs.Reports.{order_row, order_rows}
use Rattle.model_core.specs.WellFormed.{IsWellFormed, in_slab}
use Rattle.model_core.specs.Laws.{Object, IsObject, place_of}
use Rattle.model_core.specs.Elements.{IsIn}
use Rattle.model_core.proofs.Lists.{each_in, some_any, any_in, map_in}
use Rattle.model_core.proofs.BlocksApart.{in_block-from}
use Rattle.model_core.proofs.LaidSlabs.{laid, all_laid, in_laid, IsCutLaid, laid_out, in_slab_laid}
use Rattle.model_core.proofs.CacheSteps.{in_all_laid}
use Rattle.model_core.proofs.Objects.{IsLive, live_is, within_is}
use Rattle.model_core.proofs.ObjectsApart.{contains_in, objects_apart, in_contains}
use Rattle.promise_core.specs.Holdings.{KnownCache}
use Rattle.promise_core.specs.Bytes.{Holder, is_same, Cell, may_be, with_bytes, object_with, holder_of}
use Rattle.promise_core.specs.State.{State}
use Rattle.promise_core.proofs.LeftInHeldSlots.{object_has}
use Rattle.promise_kept.specs.Meets.{cache_as_known, holdings_of, is_object_live, Meets}
use Rattle.promise_kept.proofs.PlaceCells.{is_same_refl}
use Rattle.promise_kept.proofs.KnownAfterReaping.{slab_no_page, object_in_slab}

-- the holder of a range is a live page block or a live object that contains the whole range
pub data IsHolder (m : Machine) (place len : ℕ) (holder : Holder) : Type 0 where
  page : holder ≡ Holder.Page → (b : Block) → IsIn b m.blocks → within_block place len b ≡ true → IsHolder m place len holder
  object : (o : Object) → IsObject m o → holder ≡ Holder.Object o.cache.number (place_of o) → is_within place len (place_of o) o.cache.size ≡ true
      → is_object_live (holdings_of m) holder place ≡ true → IsHolder m place len holder

pub holder_is : {limit : ℕ} (order : ℕ) (m : Machine) (place len : ℕ) (holder : Holder) → IsWellFormed limit order m → holder_of (holdings_of m) place len ≡ Some holder → IsHolder m place len holder
unfolding holder_of holdings_of
holder_is order m place len holder w e = go (ltb 0 len) (list_any (within_block place len) m.blocks) refl e
  where
    of_object : object_with place len (map cache_as_known m.caches) ≡ Some holder → IsHolder m place len holder
    of_object e =
        let r = object_has place len holder (map cache_as_known m.caches) e in
        let d = map_in cache_as_known r.cache m.caches r.listed in
        let lo = map_in (λ x. x.place) r.first (live_objects d.0) (subst (λ (x : KnownCache). IsIn r.first x.live) (sym d.2) r.live) in
        let l : IsLive d.0 lo.0 = live_is d.0 lo.0 lo.1 in
        let o : Object = record { cache = d.0; slab = lo.0.slab; index = lo.0.index } in
        let cut : IsCutLaid (laid d.0 lo.0.slab) = each_in IsCutLaid (laid d.0 lo.0.slab) (all_laid m.caches) (laid_out order m w).cut (in_all_laid d.0 lo.0.slab m.caches d.1 l.slab_in) in
        let first : r.first ≡ place_of o = sym lo.2 ∙ l.at in
        let number : r.cache.number ≡ d.0.number = ap (λ (x : KnownCache). x.number) (sym d.2) in
        let size : r.cache.size ≡ d.0.size = ap (λ (x : KnownCache). x.size) (sym d.2) in
        object o (record { cache_in = in_contains d.0 m.caches d.1; slab_in = in_contains lo.0.slab d.0.slabs l.slab_in; index_in = subst (λ n. lo.0.index < n) cut.count l.index_in })
        (r.is ∙ (ap (λ n. Holder.Object n r.first) number ∙ ap (λ p. Holder.Object d.0.number p) first))
        (ap (λ n. is_within place len (place_of o) n) (sym size) ∙ (ap (λ p. is_within place len p r.cache.size) (sym first) ∙ r.within))
        (ap (λ x. is_object_live (holdings_of m) x place) r.is
        ∙ any_in (λ c. eqb c.number r.cache.number && list_any (λ p. eqb p r.first) c.live) r.cache (map cache_as_known m.caches) r.listed
        (and_from _ _ (eq-eqb r.cache.number r.cache.number refl) (any_in (λ p. eqb p r.first) r.first r.cache.live r.live (eq-eqb r.first r.first refl))))

    go : (some in_page : Bool) → list_any (within_block place len) m.blocks ≡ in_page
        → (if not some then None else (if in_page then Some Holder.Page else object_with place len (map cache_as_known m.caches))) ≡ Some holder → IsHolder m place len holder
    go false in_page is e = absurd (cc)
    go true true is e = let b = some_any (within_block place len) m.blocks is in let same : Holder.Page ≡ holder = cc in page (sym same) b.0 b.1 b.2
    go true false is e = of_object e

-- the holder of a range is live at each place of the range
pub holder_lives : (m : Machine) (place len : ℕ) (holder : Holder) → IsHolder m place len holder → (p : ℕ) → place ≤ p → p < place + len → is_object_live (holdings_of m) holder p ≡ true
unfolding holdings_of
holder_lives m place len holder (page is b i e) p low high =
    let r = within_is place len (4096 * b.first) (4096 * 2 ^ b.order) e in
    ap (λ x. is_object_live (holdings_of m) x p) is ∙ any_in (in_block p) b m.blocks i (in_block-from p b (omega (arith, r.0), omega (arith, r.1)))
holder_lives m place len holder (object o i is e l) p low high =
    ap (λ x. is_object_live (holdings_of m) x p) is ∙ (ap (λ x. is_object_live (holdings_of m) x place) (sym is) ∙ l)

-- the rows that a report has for the orders do not depend on the machine's bytes
order_rows_same : (order n : ℕ) (m : Machine) (bytes : ℕ → Option ℕ) → order_rows order (record m { bytes = bytes }) n ≡ order_rows order m n
unfolding model.taken_blocks
order_rows_same order zero m bytes = refl
order_rows_same order (suc k) m bytes = ap (λ rows. rows ++ (order_row order m k ∷ [])) (order_rows_same order k m bytes)

module _ {limit : ℕ} (order : ℕ) (s : State) (m : Machine) (w : IsWellFormed limit order m) (h : Meets order s m) (place : ℕ) (new : List ℕ) (holder : Holder)
    (reach : holder_of s.has place (length new) ≡ Some holder) (bytes : ℕ → Option ℕ)
    (inside : (p : ℕ) → place ≤ p → p < place + length new → bytes p ≡ Some (slice_index new (p - place)))
    (outside : (p : ℕ) → (leb place p && ltb p (place + length new)) ≡ false → bytes p ≡ m.bytes p) where
  abbrev in_range : ℕ → Bool
  in_range p = leb place p && ltb p (place + length new)

  bounds : (p : ℕ) → in_range p ≡ true → (place ≤ p) × (p < place + length new)
  bounds p e = let b = and_parts (leb place p) (ltb p (place + length new)) e in (leb-true place p b.0, ltb-true p (place + length new) b.1)

  held_by : IsHolder m place (length new) holder
  held_by = holder_is order m place (length new) holder w (ap (λ x. holder_of x place (length new)) (sym h.has) ∙ reach)

  abbrev told_cell : ℕ → Cell
  told_cell p = record { holder = holder; byte = slice_index new (p - place); sure = true }

  byte_is : (p byte : ℕ) → in_range p ≡ true → bytes p ≡ Some byte → slice_index new (p - place) ≡ byte
  byte_is p byte e there = let r = bounds p e in let both : Some (slice_index new (p - place)) ≡ Some byte = sym (inside p r.0 r.1) ∙ there in cc

  -- the byte that was read from a place of the range, or written to it, is one that the range's holder may have there afterwards
  own : (p fresh byte : ℕ) (other : Holder) → holder ≡ other → slice_index new (p - place) ≡ byte → may_be other fresh (Some (told_cell p)) byte ≡ true
  own p fresh byte other same is = ap (λ b. if b then (eqb byte (slice_index new (p - place)) || (not true && eqb byte fresh)) else eqb byte fresh)
      (ap (λ x. is_same x other) same ∙ is_same_refl other) ∙ or_left (eqb byte (slice_index new (p - place))) _ (eq-eqb byte (slice_index new (p - place)) (sym is))

  range_lives : (p : ℕ) (cell : Cell) → with_bytes holder place new s.cells p ≡ Some cell → cell.sure ≡ true → is_object_live s.has cell.holder p ≡ true
  range_lives p cell e sure = go (in_range p) refl e
    where
      go : (b : Bool) → in_range p ≡ b → (if b then Some (record { holder = holder; byte = slice_index new (p - place); sure = true }) else s.cells p) ≡ Some cell → is_object_live s.has cell.holder p ≡ true
      go true is some =
          let same : record { holder = holder; byte = slice_index new (p - place); sure = true } ≡ cell = cc in
          let r = bounds p is in
          ap (λ x. is_object_live s.has x p) (ap (λ (x : Cell). x.holder) (sym same)) ∙ (ap (λ x. is_object_live x holder p) h.has ∙ holder_lives m place (length new) holder held_by p r.0 r.1)
      go false is some = h.lives p cell some sure

  range_page : (p byte : ℕ) → in_slab m p ≡ false → bytes p ≡ Some byte → may_be Holder.Page 0 (with_bytes holder place new s.cells p) byte ≡ true
  range_page p byte out there = go (in_range p) refl
    where
      by : in_range p ≡ true → IsHolder m place (length new) holder → holder ≡ Holder.Page
      by e (page is b i t) = is
      by e (object o i is t l) =
          let r = bounds p e in
          let b = within_is place (length new) (place_of o) o.cache.size t in
          let in_c : IsIn o.cache m.caches = contains_in m.caches o.cache i.cache_in in
          let in_s : IsIn o.slab o.cache.slabs = contains_in o.cache.slabs o.slab i.slab_in in
          let at : place_of o + (p - place_of o) ≡ p = omega (arith, r.0, b.0) in
          absurd (false≢true (sym out ∙ (in_slab_laid m p ∙ any_in (in_laid p) (laid o.cache o.slab) (all_laid m.caches) (in_all_laid o.cache o.slab m.caches in_c in_s)
          (ap (λ n. in_laid n (laid o.cache o.slab)) (sym at) ∙ object_in_slab order m o.cache o.slab o.index (p - place_of o) w in_c in_s i.index_in (omega (arith, r.0, r.1, b.0, b.1))))))

      go : (b : Bool) → in_range p ≡ b → may_be Holder.Page 0 (if b then Some (record { holder = holder; byte = slice_index new (p - place); sure = true }) else s.cells p) byte ≡ true
      go true e = own p 0 byte Holder.Page (by e held_by) (byte_is p byte e there)
      go false e = h.page_bytes p byte out (sym (outside p e) ∙ there)

  range_object : (o : Object) (j byte : ℕ) → IsObject m o → j < o.cache.size → bytes (place_of o + j) ≡ Some byte
      → may_be (Holder.Object o.cache.number (place_of o)) (pattern_byte o.cache.pattern j) (with_bytes holder place new s.cells (place_of o + j)) byte ≡ true
  range_object o j byte io byte_in there = go (in_range (place_of o + j)) refl
    where
      by : in_range (place_of o + j) ≡ true → IsHolder m place (length new) holder → holder ≡ Holder.Object o.cache.number (place_of o)
      by e (page is b i t) =
          let r = bounds (place_of o + j) e in
          let in_c : IsIn o.cache m.caches = contains_in m.caches o.cache io.cache_in in
          let in_s : IsIn o.slab o.cache.slabs = contains_in o.cache.slabs o.slab io.slab_in in
          let there : in_slab m (place_of o + j) ≡ true = in_slab_laid m (place_of o + j) ∙ any_in (in_laid (place_of o + j)) (laid o.cache o.slab) (all_laid m.caches) (in_all_laid o.cache o.slab m.caches in_c in_s)
          (object_in_slab order m o.cache o.slab o.index j w in_c in_s io.index_in byte_in) in
          absurd (false≢true (sym (slab_no_page order s m (place_of o + j) w h there)
          ∙ (ap (λ x. is_object_live s.has x (place_of o + j)) (sym is) ∙ (ap (λ x. is_object_live x holder (place_of o + j)) h.has ∙ holder_lives m place (length new) holder (page is b i t) (place_of o + j) r.0 r.1))))
      by e (object q i is t l) =
          let r = bounds (place_of o + j) e in
          let b = within_is place (length new) (place_of q) q.cache.size t in
          let same : q ≡ o = objects_apart limit order m w q o i io (place_of o + j) (omega (arith, r.0, b.0), omega (arith, r.1, b.1)) (omega arith, omega (arith, byte_in)) in
          is ∙ ap (λ x. Holder.Object x.cache.number (place_of x)) same

      go : (b : Bool) → in_range (place_of o + j) ≡ b
          → may_be (Holder.Object o.cache.number (place_of o)) (pattern_byte o.cache.pattern j) (if b then Some (record { holder = holder; byte = slice_index new (place_of o + j - place); sure = true }) else s.cells (place_of o + j)) byte ≡ true
      go true e = own (place_of o + j) (pattern_byte o.cache.pattern j) byte (Holder.Object o.cache.number (place_of o)) (by e held_by) (byte_is (place_of o + j) byte e there)
      go false e = h.object_bytes o j byte io byte_in (sym (outside (place_of o + j) e) ∙ there)

  pub range_meets : Meets order (record s { cells = with_bytes holder place new s.cells }) (record m { bytes = bytes })
  unfolding holdings_of
  range_meets = record {
    has = h.has;
    may_have_empty = h.may_have_empty;
    lives = range_lives;
    page_bytes = range_page;
    object_bytes = λ o j byte i byte_in there. range_object o j byte (record { cache_in = i.cache_in; slab_in = i.slab_in; index_in = i.index_in }) byte_in there;
    empty_told = h.empty_told;
    free_told = λ r e. h.free_told r e ∙ ap (λ rows. map (λ row. row.free) rows) (sym (order_rows_same order (order + 1) m bytes));
  }
