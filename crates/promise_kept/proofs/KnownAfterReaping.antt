-- What is known of a machine, except for the last report, stays true after all empty slabs of the machine are freed.
use Rattle.std.proofs.Common.{◌≡◌, ℕ, ◌+◌, ◌<◌, Bool, true, false, not, ◌||◌, map, Some, None, refl, sym, ap, ◌∙◌, subst}
use Rattle.std.specs.Prelude.{if◌then◌else◌, filter, flat_map, Contains}
use Rattle.std.specs.List.{list_any}
use Rattle.std.proofs.lemmas.Bool.{false≢true, false_from_ne_true, or_left}
use Rattle.model_core.specs.Layouts.{pattern_byte}
use Rattle.model_core.specs.Machine.{Slab, Cache, Machine, layout, in_block}
use Rattle.model_core.specs.Slabs.{is_empty, without_empty, empty_blocks, reaped, by_need}
use Rattle.model_core.specs.WellFormed.{IsWellFormed, in_slab}
use Rattle.model_core.specs.Laws.{Object, IsObject, place_of}
use Rattle.model_core.specs.Elements.{IsIn}
use Rattle.model_core.proofs.Lists.{each_in, filter_in, some_any, any_split, any_map, map_in, in_map}
use Rattle.model_core.proofs.LaidSlabs.{Laid, laid, all_laid, laid_block, in_laid, IsCutLaid, IsLaidOut, laid_out, in_slab_laid}
use Rattle.model_core.proofs.CacheSteps.{in_all_laid}
use Rattle.model_core.proofs.Objects.{byte_is_of, IsPageByte, page_apart}
use Rattle.model_core.proofs.ObjectsApart.{contains_in, in_contains}
use Rattle.model_core.proofs.SlabAmongOthers.{is_empty_laid, kept_laid, gone_laid}
use Rattle.model_core.proofs.ConstructedObjects.{not_gone}
use Rattle.model_core.proofs.ReapingByNeed.{by_need_keeps}
use Rattle.promise_core.specs.Bytes.{Holder, may_be}
use Rattle.promise_core.specs.State.{State}
use Rattle.promise_kept.specs.Meets.{holdings_of, is_object_live, Meets}
use Rattle.promise_kept.proofs.EmptySlabsUnseen.{holdings_reaped}
use Rattle.promise_kept.proofs.PlaceCells.{fresh_may}

-- the state without the last report
abbrev pub untold : State → State
untold s = record s { last_report = None }

pub meets_untold : (order : ℕ) (s : State) (m : Machine) → Meets order s m → Meets order (untold s) m
meets_untold order s m h = record {
  has = h.has;
  may_have_empty = h.may_have_empty;
  lives = h.lives;
  page_bytes = h.page_bytes;
  object_bytes = h.object_bytes;
  empty_told = λ r e. absurd (cc);
  free_told = λ r e. absurd (cc);
}

-- a place in a slab is in no live page block
pub slab_no_page : {limit : ℕ} (order : ℕ) (s : State) (m : Machine) (place : ℕ) → IsWellFormed limit order m → Meets order s m → in_slab m place ≡ true → is_object_live s.has Holder.Page place ≡ false
unfolding holdings_of
slab_no_page order s m place w h e = ap (λ x. list_any (in_block place) x.pages) h.has ∙ false_from_ne_true (list_any (in_block place) m.blocks) (λ p.
    let b = some_any (in_block place) m.blocks p in
    let page : IsPageByte m place = record { page = b.0; page_in = b.1; in_page = b.2 } in
    false≢true (sym (page_apart order m place (laid_out order m w) page) ∙ (sym (in_slab_laid m place) ∙ e)))

-- each byte of an object lies in the object's slab
pub object_in_slab : {limit : ℕ} (order : ℕ) (m : Machine) (c : Cache) (s : Slab) (i j : ℕ) → IsWellFormed limit order m → IsIn c m.caches → IsIn s c.slabs → i < (layout c).count → j < c.size
    → in_laid (place_of (record { cache = c; slab = s; index = i }) + j) (laid c s) ≡ true
object_in_slab order m c s i j w in_c in_s index_in byte_in =
    let k : Laid = laid c s in
    let l : IsLaidOut order m.slots m.blocks (all_laid m.caches) m.bytes = laid_out order m w in
    let cut : IsCutLaid k = each_in IsCutLaid k (all_laid m.caches) l.cut (in_all_laid c s m.caches in_c in_s) in
    let p : ℕ = place_of (record { cache = c; slab = s; index = i }) + j in
    (byte_is_of k cut i j p (record { index_in = index_in; byte_in = byte_in; at = refl })).in_slab

module _ {limit : ℕ} (order : ℕ) (s : State) (m : Machine) (w : IsWellFormed limit order m) (h : Meets order s m) where
  gone : ℕ → Bool
  gone place = list_any (in_block place) (flat_map empty_blocks m.caches)

  -- a place is in a slab exactly if it is in a slab that the reap frees or in a slab that is left after the reap
  in_slab_split : (place : ℕ) → in_slab m place ≡ (gone place || in_slab (reaped m) place)
  unfolding gone reaped
  in_slab_split place = in_slab_laid m place ∙ (any_split (in_laid place) is_empty_laid (all_laid m.caches)
      ∙ (ap (λ b. b || list_any (in_laid place) (filter (λ l. not (is_empty_laid l)) (all_laid m.caches))) (sym (ap (λ bs. list_any (in_block place) bs) (gone_laid m.caches) ∙ any_map (in_block place) laid_block (filter is_empty_laid (all_laid m.caches))))
      ∙ ap (λ b. gone place || b) (ap (λ ls. list_any (in_laid place) ls) (kept_laid m.caches) ∙ sym (in_slab_laid (reaped m) place))))

  reaped_page : (place byte : ℕ) → in_slab (reaped m) place ≡ false → (reaped m).bytes place ≡ Some byte → may_be Holder.Page 0 (s.cells place) byte ≡ true
  unfolding gone reaped
  reaped_page place byte out is = go (gone place) refl is
    where
      go : (b : Bool) → gone place ≡ b → (if b then Some 0 else m.bytes place) ≡ Some byte → may_be Holder.Page 0 (s.cells place) byte ≡ true
      go true e zeroes =
          let zero_is : 0 ≡ byte = cc in
          subst (λ n. may_be Holder.Page 0 (s.cells place) n ≡ true) zero_is
          (fresh_may s.has s.cells h.lives Holder.Page place 0 (slab_no_page order s m place w h (in_slab_split place ∙ or_left (gone place) _ e)))
      go false e same = h.page_bytes place byte (in_slab_split place ∙ (ap (λ b. b || in_slab (reaped m) place) e ∙ out)) same

  reaped_object : (c : Cache) (t : Slab) (i j byte : ℕ) → IsIn c m.caches → IsIn t (without_empty c).slabs → i < (layout c).count → j < c.size
      → (reaped m).bytes (place_of (record { cache = c; slab = t; index = i }) + j) ≡ Some byte
      → may_be (Holder.Object c.number (place_of (record { cache = c; slab = t; index = i }))) (pattern_byte c.pattern j) (s.cells (place_of (record { cache = c; slab = t; index = i }) + j)) byte ≡ true
  unfolding reaped
  reaped_object c t i j byte in_c in_t index_in byte_in is =
      let f = filter_in (λ x. not (is_empty x)) t c.slabs in_t in
      let o : Object = record { cache = c; slab = t; index = i } in
      let k : Laid = laid c t in
      let kept : IsIn k (filter (λ l. not (is_empty_laid l)) (all_laid m.caches)) =
      subst (λ ls. IsIn k ls) (sym (kept_laid m.caches)) (in_all_laid (without_empty c) t (map without_empty m.caches) (in_map without_empty c m.caches in_c) in_t) in
      let same : (reaped m).bytes (place_of o + j) ≡ m.bytes (place_of o + j) =
      ap (λ b. if b then Some 0 else m.bytes (place_of o + j)) (ap (λ bs. list_any (in_block (place_of o + j)) bs) (gone_laid m.caches)
      ∙ not_gone is_empty_laid (all_laid m.caches) (place_of o + j) k (laid_out order m w).apart_slabs kept (object_in_slab order m c t i j w in_c f.0 index_in byte_in)) in
      h.object_bytes o j byte (record { cache_in = in_contains c m.caches in_c; slab_in = in_contains t c.slabs f.0; index_in = index_in }) byte_in (sym same ∙ is)

  hidden : (c : Cache) (t : Slab) → Contains (reaped m).caches c → Contains c.slabs t → s.may_have_empty c.number ≡ true
  unfolding reaped
  hidden c t in_c in_t =
      let d = map_in without_empty c m.caches (contains_in (map without_empty m.caches) c in_c) in
      let kept : IsIn t (without_empty d.0).slabs = subst (λ x. IsIn t x.slabs) (sym d.2) (contains_in c.slabs t in_t) in
      subst (λ x. s.may_have_empty x.number ≡ true) d.2
      (h.may_have_empty d.0 t (in_contains d.0 m.caches d.1) (in_contains t d.0.slabs (filter_in (λ x. not (is_empty x)) t d.0.slabs kept).0))

  object_at : (o : Object) (j byte : ℕ) → IsObject (reaped m) o → j < o.cache.size → (reaped m).bytes (place_of o + j) ≡ Some byte
      → may_be (Holder.Object o.cache.number (place_of o)) (pattern_byte o.cache.pattern j) (s.cells (place_of o + j)) byte ≡ true
  unfolding reaped
  object_at o j byte is byte_in there =
      let d = map_in without_empty o.cache m.caches (contains_in (map without_empty m.caches) o.cache is.cache_in) in
      subst (λ c. IsIn o.slab c.slabs → o.index < (layout c).count → j < c.size → (reaped m).bytes (place_of (record { cache = c; slab = o.slab; index = o.index }) + j) ≡ Some byte
      → may_be (Holder.Object c.number (place_of (record { cache = c; slab = o.slab; index = o.index }))) (pattern_byte c.pattern j) (s.cells (place_of (record { cache = c; slab = o.slab; index = o.index }) + j)) byte ≡ true)
      d.2 (λ in_t index_in size_in is_there. reaped_object d.0 o.slab o.index j byte d.1 in_t index_in size_in is_there)
      (contains_in o.cache.slabs o.slab is.slab_in) is.index_in byte_in there

  pub meets_reaped : Meets order (untold s) (reaped m)
  meets_reaped = record {
    has = h.has ∙ sym (holdings_reaped m);
    may_have_empty = hidden;
    lives = h.lives;
    page_bytes = reaped_page;
    object_bytes = object_at;
    empty_told = λ r e. absurd (cc);
    free_told = λ r e. absurd (cc);
  }

  pub by_need_meets : (k : ℕ) → Meets order (untold s) (by_need order k m)
  by_need_meets k = by_need_keeps (λ n. Meets order (untold s) n) order k m (meets_untold order s m h) meets_reaped
