-- A `reap` keeps the promises.
use Rattle.std.proofs.Common.{◌≡◌, ℕ, ◌+◌, ◌%◌, ◌^◌, ◌<◌, true, false, not, ◌&&◌, eqb, leb, [], map, length, Option, Some, None, refl, sym, ap, ◌∙◌, subst, ◌⊎◌, inl, inr, arith}
use Rattle.std.specs.Prelude.{flat_map, Contains}
use Rattle.std.specs.List.{list_any}
use Rattle.std.specs.Option.{option_map_or}
use Rattle.std.proofs.lemmas.Bool.{and_from, or_left, or_right, le-leb, eq-eqb, not_from_true, not-true, not-false}
use Rattle.model_core.specs.Layouts.{object_place, pattern_byte}
use Rattle.model_core.specs.Machine.{Slab, Cache, Machine, layout, in_block, slab_block}
use Rattle.model_core.specs.Slabs.{LiveObject, live_objects, live_in, is_empty, without_empty, empty_blocks, reaped}
use Rattle.model_core.specs.CacheOperations.{frames_of, reap_step}
use Rattle.model_core.specs.WellFormed.{IsCache, IsWellFormed}
use Rattle.model_core.specs.Laws.{Object, place_of}
use Rattle.model_core.specs.Elements.{IsIn}
use Rattle.model_core.proofs.Lists.{each_in, filter_in, any_in, in_map, map_in, in_flat_map}
use Rattle.model_core.proofs.ObjectsApart.{contains_in, in_contains}
use Rattle.model_core.proofs.Layouts.{layouts_fit}
use Rattle.words_core.specs.declared.event.Command.TheVariants as Command
use Rattle.words_core.specs.declared.event.Event.TheVariants as On
use Rattle.words_core.specs.declared.report.Report.{Report}
use Rattle.words_core.specs.declared.reply.Addressee.TheVariants as To
use Rattle.words_core.specs.declared.reply.Body.TheVariants as Say
use Rattle.world_core.specs.PrivateStep.{command_step}
use Rattle.promise_core.specs.Holdings.{known_cache, slab_around, vacant_blocks}
use Rattle.promise_core.specs.Bytes.{Holder, is_object, without}
use Rattle.promise_core.specs.State.{State, is_in_use, is_in_no_slab, state_after}
use Rattle.promise_core.specs.Promises.{due, can_come_back, empty_frames}
use Rattle.promise_core.proofs.RefusalCauses.{listed_some}
use Rattle.promise_kept.specs.Meets.{cache_as_known, holdings_of, Meets, IsPromiseKept}
use Rattle.promise_kept.proofs.SeenBlocks.{one_live, slab_seen}
use Rattle.promise_kept.proofs.PlaceCells.{all_kept, without_some, without_may}
use Rattle.promise_kept.proofs.KnownAfterReaping.{untold, meets_reaped, object_in_slab}
use Rattle.promise_kept.proofs.KnownCaches.{seen, seen_is, cache_known}
use Rattle.promise_kept.proofs.EmptySlabFrames.{empty_vacant, empty_apart}
use Rattle.promise_kept.proofs.FramesReturned.{IsLeast, least_order, frames_divide, told_frames}

module _ (limit order : ℕ) (m : Machine) (s : State) (w : IsWellFormed limit order m) (h : Meets order s m) (k : Meets order (seen m s) m) where
  comes_back : can_come_back order (holdings_of m).caches (frames_of (flat_map empty_blocks m.caches)) (seen m s) ≡ true
  unfolding holdings_of
  comes_back = go (least_order m.caches)
    where
      all : ℕ
      all = frames_of (flat_map empty_blocks m.caches)

      go : (flat_map empty_blocks m.caches ≡ []) ⊎ IsLeast m.caches → can_come_back order (map cache_as_known m.caches) (frames_of (flat_map empty_blocks m.caches)) (seen m s) ≡ true
      go (inl none) = or_left (eqb all 0) _ (eq-eqb all 0 (ap frames_of none))
      go (inr l) = or_right (eqb all 0) _ (and_from (leb all (length (vacant_blocks order (holdings_of m) 0))) (list_any (λ c. s.may_have_empty c.number && eqb (all % 2 ^ c.order) 0) (map cache_as_known m.caches))
          (le-leb all (length (vacant_blocks order (holdings_of m) 0)) (empty_vacant limit order m w (flat_map empty_blocks m.caches) (empty_apart limit order m w) (λ b i. i)))
          (any_in (λ c. s.may_have_empty c.number && eqb (all % 2 ^ c.order) 0) (cache_as_known l.cache) (map cache_as_known m.caches) (in_map cache_as_known l.cache m.caches l.cache_in)
          (and_from (s.may_have_empty l.cache.number) (eqb (all % 2 ^ (layout l.cache).order) 0) (h.may_have_empty l.cache l.slab (in_contains l.cache m.caches l.cache_in) (in_contains l.slab l.cache.slabs l.slab_in))
          (eq-eqb (all % 2 ^ (layout l.cache).order) 0 (frames_divide (layout l.cache).order (flat_map empty_blocks m.caches) l.least)))))

  stays_told : option_map_or (λ r. eqb (frames_of (flat_map empty_blocks m.caches)) (empty_frames (λ n. true) (holdings_of m) r)) s.last_report true ≡ true
  unfolding holdings_of
  stays_told = go s.last_report refl
    where
      go : (o : Option Report) → s.last_report ≡ o → option_map_or (λ r. eqb (frames_of (flat_map empty_blocks m.caches)) (empty_frames (λ n. true) (holdings_of m) r)) o true ≡ true
      go None e = refl
      go (Some r) e = eq-eqb (frames_of (flat_map empty_blocks m.caches)) _ (sym (told_frames (λ n. true) m.caches r.caches.items (h.empty_told r e)))

  -- each slab that a reap does not free has a live object
  beside : (d : Cache) (t : Slab) → IsIn d m.caches → IsIn t (without_empty d).slabs → (o : LiveObject) × IsIn o (live_objects d) × (o.slab ≡ t)
  beside d t in_d in_t =
      let f : IsIn t d.slabs × (not (is_empty t) ≡ true) = filter_in (λ x. not (is_empty x)) t d.slabs in_t in
      let o : (o : LiveObject) × IsIn o (live_in d t) × (o.slab ≡ t) = one_live d t 0 t.live (not-false _ (not-true (is_empty t) f.1)) in
      (o.0, in_flat_map (live_in d) o.0 t d.slabs f.0 o.1, o.2)

  in_use : (d : Cache) (t : Slab) → IsIn d m.caches → IsIn t (without_empty d).slabs → is_in_use (known_cache (holdings_of m) d.number) ≡ true
  in_use d t in_d in_t =
      let o : (o : LiveObject) × IsIn o (live_objects d) × (o.slab ≡ t) = beside d t in_d in_t in
      ap is_in_use (cache_known order m d w in_d) ∙ listed_some o.0.place (map (λ x. x.place) (live_objects d)) (in_map (λ x. x.place) o.0 (live_objects d) o.1)

  in_one : (d : Cache) (t : Slab) (i : ℕ) → IsIn d m.caches → IsIn t (without_empty d).slabs → i < (layout d).count
      → is_in_no_slab (holdings_of m) d.number (object_place (layout d) t.first t.colour i) ≡ false
  unfolding holdings_of
  in_one d t i in_d in_t lt =
      let o : (o : LiveObject) × IsIn o (live_objects d) × (o.slab ≡ t) = beside d t in_d in_t in
      let f : IsIn t d.slabs × (not (is_empty t) ≡ true) = filter_in (λ x. not (is_empty x)) t d.slabs in_t in
      let p : ℕ = object_place (layout d) t.first t.colour i in
      let zero : p + 0 ≡ p = omega arith in
      let here : in_block p (slab_block d t) ≡ true = ap (λ x. in_block x (slab_block d t)) (sym zero) ∙ object_in_slab order m d t i 0 w in_d f.0 lt some in
      not_from_true _ (any_in (λ c. eqb c.number d.number && list_any (λ q. in_block p (slab_around c q)) c.live) (cache_as_known d) (map cache_as_known m.caches) (in_map cache_as_known d m.caches in_d)
      (and_from (eqb d.number d.number) (list_any (λ q. in_block p (slab_around (cache_as_known d) q)) (map (λ x. x.place) (live_objects d))) (eq-eqb d.number d.number refl)
      (any_in (λ q. in_block p (slab_around (cache_as_known d) q)) o.0.place (map (λ x. x.place) (live_objects d)) (in_map (λ x. x.place) o.0 (live_objects d) o.1)
      (ap (in_block p) (slab_seen order m d o.0 w in_d o.1 ∙ ap (slab_block d) o.2) ∙ here))))
    where
      some : 0 < d.size
      some = let c = each_in IsCache d m.caches w.caches in_d in (layouts_fit d.size d.align c.sized c.aligned).sized

  after : State
  after = record {
    has = holdings_of m;
    cells = without (λ place. is_object (is_in_no_slab (holdings_of m))) s.cells;
    may_have_empty = λ n. is_in_use (known_cache (holdings_of m) n);
    last_report = None;
  }

  was : (c : Cache) → Contains (reaped m).caches c → (d : Cache) × IsIn d m.caches × (without_empty d ≡ c)
  unfolding reaped
  was c i = map_in without_empty c m.caches (contains_in (map without_empty m.caches) c i)

  meets : Meets order after (reaped m)
  unfolding after
  meets = let r : Meets order (untold (seen m s)) (reaped m) = meets_reaped order (seen m s) m w k in record {
    has = r.has;
    may_have_empty = λ c t in_c in_t. go_may_have_empty c t (was c in_c) (contains_in c.slabs t in_t);
    lives = λ p cell e sure. r.lives p cell (without_some (λ place. is_object (is_in_no_slab (holdings_of m))) s.cells p cell e).0 sure;
    page_bytes = λ p byte out is. without_may (λ place. is_object (is_in_no_slab (holdings_of m))) s.cells Holder.Page p 0 byte refl (r.page_bytes p byte out is);
    object_bytes = λ o j byte i below is. without_may (λ place. is_object (is_in_no_slab (holdings_of m))) s.cells (Holder.Object o.cache.number (place_of o)) (place_of o + j) (pattern_byte o.cache.pattern j) byte
        (go_object o (was o.cache i.cache_in) (contains_in o.cache.slabs o.slab i.slab_in) i.index_in) (r.object_bytes o j byte i below is);
    empty_told = λ r e. absurd (cc);
    free_told = λ r e. absurd (cc);
  }
    where
      go_may_have_empty : (c : Cache) (t : Slab) → ((d : Cache) × IsIn d m.caches × (without_empty d ≡ c)) → IsIn t c.slabs → is_in_use (known_cache (holdings_of m) c.number) ≡ true
      go_may_have_empty c t (d, in_d, e) in_t = subst (λ x. IsIn t x.slabs → is_in_use (known_cache (holdings_of m) x.number) ≡ true) e (λ i. in_use d t in_d i) in_t

      go_object : (o : Object) → ((d : Cache) × IsIn d m.caches × (without_empty d ≡ o.cache)) → IsIn o.slab o.cache.slabs → o.index < (layout o.cache).count → is_in_no_slab (holdings_of m) o.cache.number (place_of o) ≡ false
      go_object o (d, in_d, e) in_t lt =
          subst (λ x. IsIn o.slab x.slabs → o.index < (layout x).count → is_in_no_slab (holdings_of m) x.number (object_place (layout x) o.slab.first o.slab.colour o.index) ≡ false) e
          (λ i l. in_one d o.slab o.index in_d i l) in_t lt

  reap_seen : IsPromiseKept limit order Command.Reap m (seen m s)
  unfolding command_step reap_step state_after due after
  reap_seen = record {
    allowed = λ t owners states. all_kept (On.Tenant t Command.Reap) (record { addressee = To.Tenant t; body = Say.Reaped (frames_of (flat_map empty_blocks m.caches)) })
        (record { limit = limit; order = order; owners = owners; states = states }) (seen m s)
        (and_from (eqb t t) true (eq-eqb t t refl) refl) refl refl refl refl refl refl comes_back refl refl refl stays_told;
    meets = λ t. (after, refl, meets);
  }

pub reap_kept : (limit order : ℕ) (m : Machine) (s : State) → IsWellFormed limit order m → Meets order s m → IsPromiseKept limit order Command.Reap m s
reap_kept limit order m s w h =
    let e : seen m s ≡ s = seen_is m s h.has in
    subst (IsPromiseKept limit order Command.Reap m) e (reap_seen limit order m s w h (subst (λ x. Meets order x m) (sym e) h))
