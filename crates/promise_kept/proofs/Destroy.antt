-- A `destroy` keeps the promises.
use Rattle.std.proofs.Common.{◌≡◌, ℕ, ◌+◌, ◌%◌, ◌^◌, ◌<◌, ◌≤◌, Bool, true, false, not, ◌&&◌, ◌||◌, cond, eqb, ltb, leb, List, [], ◌∷◌, ◌++◌, map, length, Option, Some, None, refl, sym, ap, ◌∙◌, subst, inl, arith}
use Rattle.std.specs.Prelude.{if◌then◌else◌, option_map, filter, flat_map, Contains, Result, Ok}
use Rattle.std.specs.List.{list_any, AllByRecursion as Each}
use Rattle.std.specs.Option.{option_map_or}
use Rattle.std.proofs.lemmas.Bool.{and_from, or_left, or_right, or_parts, le-leb, eqb-true, eq-eqb, not_from_false, not-true, not-false}
use Rattle.std.proofs.lemmas.List.Concat.{flat_map-append}
use Rattle.std.proofs.lemmas.List.{append-nil}
use Rattle.model_core.specs.Layouts.{pattern_byte}
use Rattle.model_core.specs.Machine.{Slab, Cache, Machine, layout, in_block, slab_block, slab_blocks}
use Rattle.model_core.specs.Slabs.{LiveObject, live_objects, live_in, is_empty, empty_blocks, cache_of, destroyed}
use Rattle.model_core.specs.declared.refusals.DestroyRefusal.{DestroyRefusal}
use Rattle.model_core.specs.Operations.{Step, refuse}
use Rattle.model_core.specs.CacheOperations.{frames_of, destroy_of, destroy_step}
use Rattle.model_core.specs.WellFormed.{in_slab, IsWellFormed}
use Rattle.model_core.specs.Laws.{Object, IsObject, place_of}
use Rattle.model_core.specs.Elements.{IsIn}
use Rattle.model_core.proofs.Lists.{Found, found, find_in, filter_in, in_filter, any_in, any_map, any_split, some_any, each_map, each_true, in_map, in_flat_map}
use Rattle.model_core.proofs.ObjectsApart.{contains_in, in_contains}
use Rattle.model_core.proofs.LaidSlabs.{Laid, laid, all_laid, laid_block, in_laid, in_slab_laid, laid_out}
use Rattle.model_core.proofs.SlabAmongOthers.{filter_laid, laid_of, slab_blocks_laid}
use Rattle.model_core.proofs.ConstructedObjects.{not_gone}
use Rattle.model_core.proofs.CacheSteps.{in_all_laid}
use Rattle.words_core.specs.declared.event.Command.TheVariants as Command
use Rattle.words_core.specs.declared.report.Report.{Report}
use Rattle.words_core.specs.declared.reply.Body.TheVariants as Say
use Rattle.words_core.specs.declared.reply.Refusal.{Refusal}
use Rattle.world_core.specs.PrivateStep.{command_step, destroy_body}
use Rattle.promise_core.specs.Holdings.{vacant_blocks}
use Rattle.promise_core.specs.Bytes.{Holder, is_object, may_be, without}
use Rattle.promise_core.specs.State.{State, state_after}
use Rattle.promise_core.specs.Promises.{due, can_come_back, empty_frames}
use Rattle.promise_core.proofs.RefusalCauses.{listed_some}
use Rattle.promise_kept.specs.Meets.{cache_as_known, holdings_of, is_object_live, Meets, IsKeptBy, IsPromiseKept}
use Rattle.promise_kept.proofs.EmptySlabsUnseen.{none_live}
use Rattle.promise_kept.proofs.SeenBlocks.{one_live}
use Rattle.promise_kept.proofs.PlaceCells.{without_some, without_may, fresh_may, refused}
use Rattle.promise_kept.proofs.KnownAfterReaping.{slab_no_page, object_in_slab}
use Rattle.promise_kept.proofs.LiveObjects.{apart_in}
use Rattle.promise_kept.proofs.KnownCaches.{seen, seen_is, cache_seen, IsLiveIn, live_told, told_live}
use Rattle.promise_kept.proofs.EmptySlabFrames.{empty_vacant}
use Rattle.promise_kept.proofs.FramesReturned.{frames_divide, empty_of, told_frames}

-- A cache without live objects

none_in_use : (c : Cache) (ss : List Slab) → list_any (λ s. not (is_empty s)) ss ≡ false → flat_map (live_in c) ss ≡ []
none_in_use c [] e = refl
none_in_use c (s ∷ ss) e =
    let p : (not (is_empty s) ≡ false) × (list_any (λ s. not (is_empty s)) ss ≡ false) = or_parts (not (is_empty s)) (list_any (λ s. not (is_empty s)) ss) e in
    ap (λ os. os ++ flat_map (live_in c) ss) (none_live c s 0 s.live (not-true (list_any (λ live. live) s.live) (not-false (is_empty s) p.0))) ∙ none_in_use c ss p.1

all_empty : (ss : List Slab) → list_any (λ s. not (is_empty s)) ss ≡ false → filter is_empty ss ≡ ss
all_empty [] e = refl
all_empty (s ∷ ss) e =
    let p : (not (is_empty s) ≡ false) × (list_any (λ s. not (is_empty s)) ss ≡ false) = or_parts (not (is_empty s)) (list_any (λ s. not (is_empty s)) ss) e in
    ap (λ b. cond b (s ∷ filter is_empty ss) (filter is_empty ss)) (not-false (is_empty s) p.0) ∙ ap (λ xs. s ∷ xs) (all_empty ss p.1)

-- if no cache has number k, no empty slab belongs to cache k
none_pass : (k : ℕ) (cs : List Cache) → Each (λ c. eqb c.number k ≡ false) cs → flat_map (empty_of (λ n. eqb n k)) cs ≡ []
none_pass k [] h = refl
none_pass k (c ∷ cs) (e, h) = ap (λ b. (if b then empty_blocks c else []) ++ flat_map (empty_of (λ n. eqb n k)) cs) e ∙ none_pass k cs h

one_passes : (c : Cache) (cs : List Cache) → Found (λ c. c.number) c cs → flat_map (empty_of (λ n. eqb n c.number)) cs ≡ empty_blocks c
one_passes c cs f =
    ap (λ xs. flat_map (empty_of (λ n. eqb n c.number)) xs) f.is
    ∙ (flat_map-append (empty_of (λ n. eqb n c.number)) f.before (c ∷ f.later)
    ∙ (ap (λ bs. bs ++ flat_map (empty_of (λ n. eqb n c.number)) (c ∷ f.later)) (none_pass c.number f.before f.others_before)
    ∙ (ap (λ b. (if b then empty_blocks c else []) ++ flat_map (empty_of (λ n. eqb n c.number)) f.later) (eq-eqb c.number c.number refl)
    ∙ (ap (λ bs. empty_blocks c ++ bs) (none_pass c.number f.later f.others_later) ∙ append-nil (empty_blocks c)))))

filter_told : (k : ℕ) (cs : List Cache) → filter (λ c. not (eqb c.number k)) (map cache_as_known cs) ≡ map cache_as_known (filter (λ c. not (eqb c.number k)) cs)
filter_told k [] = refl
filter_told k (c ∷ cs) = go (eqb c.number k) (filter_told k cs)
  where
    go : (b : Bool) → filter (λ c. not (eqb c.number k)) (map cache_as_known cs) ≡ map cache_as_known (filter (λ c. not (eqb c.number k)) cs)
        → cond (not b) (cache_as_known c ∷ filter (λ c. not (eqb c.number k)) (map cache_as_known cs)) (filter (λ c. not (eqb c.number k)) (map cache_as_known cs))
        ≡ map cache_as_known (cond (not b) (c ∷ filter (λ c. not (eqb c.number k)) cs) (filter (λ c. not (eqb c.number k)) cs))
    go true e = e
    go false e = ap (λ ts. cache_as_known c ∷ ts) e

module _ (limit order : ℕ) (c : Cache) (m : Machine) (s : State) (w : IsWellFormed limit order m) (h : Meets order s m) (in_c : IsIn c m.caches) (unused : list_any (λ s. not (is_empty s)) c.slabs ≡ false) where
  at : Found (λ c. c.number) c m.caches
  at = found (λ c. c.number) 0 c m.caches w.caches_rise in_c

  blocks_are : empty_blocks c ≡ slab_blocks c
  blocks_are = ap (λ ss. map (slab_block c) ss) (all_empty c.slabs unused)

  comes_back : can_come_back order (filter (λ x. eqb x.number c.number) (map cache_as_known m.caches)) (frames_of (slab_blocks c)) (seen m s) ≡ true
  comes_back = go c.slabs refl
    where
      all : ℕ
      all = frames_of (slab_blocks c)

      go : (ss : List Slab) → c.slabs ≡ ss → can_come_back order (filter (λ x. eqb x.number c.number) (map cache_as_known m.caches)) (frames_of (slab_blocks c)) (seen m s) ≡ true
      go [] e = or_left (eqb all 0) _ (eq-eqb all 0 (ap (λ ss. frames_of (map (slab_block c) ss)) e))
      go (t ∷ ts) e = or_right (eqb all 0) _ (and_from (leb all (length (vacant_blocks order (holdings_of m) 0))) (list_any (λ x. s.may_have_empty x.number && eqb (all % 2 ^ x.order) 0) (filter (λ x. eqb x.number c.number) (map cache_as_known m.caches)))
          (le-leb all (length (vacant_blocks order (holdings_of m) 0)) (empty_vacant limit order m w (slab_blocks c) (apart_in order c m w in_c)
          (λ b i. in_flat_map empty_blocks b c m.caches in_c (subst (IsIn b) (sym blocks_are) i))))
          (any_in (λ x. s.may_have_empty x.number && eqb (all % 2 ^ x.order) 0) (cache_as_known c) (filter (λ x. eqb x.number c.number) (map cache_as_known m.caches))
          (in_filter (λ x. eqb x.number c.number) (cache_as_known c) (map cache_as_known m.caches) (in_map cache_as_known c m.caches in_c) (eq-eqb c.number c.number refl))
          (and_from (s.may_have_empty c.number) (eqb (all % 2 ^ (layout c).order) 0) (h.may_have_empty c t (in_contains c m.caches in_c) (in_contains t c.slabs (subst (IsIn t) (sym e) (inl refl))))
          (eq-eqb (all % 2 ^ (layout c).order) 0 (frames_divide (layout c).order (slab_blocks c)
          (each_map (λ b. (layout c).order ≤ b.order) (slab_block c) c.slabs (each_true (λ x. (layout c).order ≤ (layout c).order) (λ x. omega arith) c.slabs)))))))

  stays_told : option_map_or (λ r. eqb (frames_of (slab_blocks c)) (empty_frames (λ n. eqb n c.number) (holdings_of m) r)) s.last_report true ≡ true
  unfolding holdings_of
  stays_told = go s.last_report refl
    where
      go : (o : Option Report) → s.last_report ≡ o → option_map_or (λ r. eqb (frames_of (slab_blocks c)) (empty_frames (λ n. eqb n c.number) (holdings_of m) r)) o true ≡ true
      go None e = refl
      go (Some r) e = eq-eqb (frames_of (slab_blocks c)) _ (ap frames_of (sym (one_passes c m.caches at ∙ blocks_are)) ∙ sym (told_frames (λ n. eqb n c.number) m.caches r.caches.items (h.empty_told r e)))

  after : State
  after = record {
    has = record (holdings_of m) { caches = filter (λ x. not (eqb x.number c.number)) (holdings_of m).caches };
    cells = without (λ place. is_object (λ n p. eqb n c.number)) s.cells;
    may_have_empty = λ n. not (eqb n c.number) && s.may_have_empty n;
    last_report = None;
  }

  has_after : after.has ≡ holdings_of (destroyed c m)
  unfolding after holdings_of destroyed
  has_after = ap (λ cs. record { slots = m.slots; pages = m.blocks; caches = cs }) (filter_told c.number m.caches)

  left : (x : Cache) → Contains (destroyed c m).caches x → IsIn x m.caches × (not (eqb x.number c.number) ≡ true)
  unfolding destroyed
  left x i = filter_in (λ y. not (eqb y.number c.number)) x m.caches (contains_in (filter (λ y. not (eqb y.number c.number)) m.caches) x i)

  gone_are : slab_blocks c ≡ map laid_block (filter (λ l. eqb l.number c.number) (all_laid m.caches))
  gone_are = slab_blocks_laid c ∙ ap (λ ls. map laid_block ls) (sym (laid_of c m.caches at))

  in_slab_split : (place : ℕ) → in_slab m place ≡ (list_any (in_block place) (slab_blocks c) || in_slab (destroyed c m) place)
  unfolding destroyed
  in_slab_split place = in_slab_laid m place ∙ (any_split (in_laid place) (λ l. eqb l.number c.number) (all_laid m.caches)
      ∙ (ap (λ b. b || list_any (in_laid place) (filter (λ l. not (eqb l.number c.number)) (all_laid m.caches)))
      (sym (ap (λ bs. list_any (in_block place) bs) gone_are ∙ any_map (in_block place) laid_block (filter (λ l. eqb l.number c.number) (all_laid m.caches))))
      ∙ ap (λ b. list_any (in_block place) (slab_blocks c) || b) (ap (λ ls. list_any (in_laid place) ls) (filter_laid (λ n. not (eqb n c.number)) m.caches) ∙ sym (in_slab_laid (destroyed c m) place))))

  still_live : (p : ℕ) (holder : Holder) → is_object_live (holdings_of m) holder p ≡ true → is_object (λ n q. eqb n c.number) holder ≡ false → is_object_live (holdings_of (destroyed c m)) holder p ≡ true
  unfolding holdings_of destroyed
  still_live p Holder.Page e differs = e
  still_live p (Holder.Object number first) e differs =
      let l : IsLiveIn number first m.caches = live_told m number first p e in
      told_live (destroyed c m) number first p (record {
        cache = l.cache;
        cache_in = in_filter (λ y. not (eqb y.number c.number)) l.cache m.caches l.cache_in (not_from_false (eqb l.cache.number c.number) (ap (λ n. eqb n c.number) l.number_is ∙ differs));
        number_is = l.number_is;
        place = l.place;
      })

  page_at : (p byte : ℕ) → in_slab (destroyed c m) p ≡ false → (destroyed c m).bytes p ≡ Some byte → may_be Holder.Page 0 (s.cells p) byte ≡ true
  unfolding destroyed
  page_at p byte out is = go (list_any (in_block p) (slab_blocks c)) refl is
    where
      go : (b : Bool) → list_any (in_block p) (slab_blocks c) ≡ b → (if b then Some 0 else m.bytes p) ≡ Some byte → may_be Holder.Page 0 (s.cells p) byte ≡ true
      go true e zeroes = let zero_is : 0 ≡ byte = cc in
          subst (λ n. may_be Holder.Page 0 (s.cells p) n ≡ true) zero_is
          (fresh_may s.has s.cells h.lives Holder.Page p 0 (slab_no_page order s m p w h (in_slab_split p ∙ or_left (list_any (in_block p) (slab_blocks c)) _ e)))
      go false e same = h.page_bytes p byte (in_slab_split p ∙ (ap (λ b. b || in_slab (destroyed c m) p) e ∙ out)) same

  object_at : (o : Object) (j byte : ℕ) → IsObject (destroyed c m) o → j < o.cache.size → (destroyed c m).bytes (place_of o + j) ≡ Some byte
      → may_be (Holder.Object o.cache.number (place_of o)) (pattern_byte o.cache.pattern j) (s.cells (place_of o + j)) byte ≡ true
  unfolding destroyed
  object_at o j byte i below is =
      let k : IsIn o.cache m.caches × (not (eqb o.cache.number c.number) ≡ true) = left o.cache i.cache_in in
      let in_s : IsIn o.slab o.cache.slabs = contains_in o.cache.slabs o.slab i.slab_in in
      let l : Laid = laid o.cache o.slab in
      let p : ℕ = place_of o + j in
      let kept : IsIn l (filter (λ x. not (eqb x.number c.number)) (all_laid m.caches)) = in_filter (λ x. not (eqb x.number c.number)) l (all_laid m.caches) (in_all_laid o.cache o.slab m.caches k.0 in_s) k.1 in
      let same : (destroyed c m).bytes p ≡ m.bytes p = ap (λ b. if b then Some 0 else m.bytes p) (ap (λ bs. list_any (in_block p) bs) gone_are
      ∙ not_gone (λ x. eqb x.number c.number) (all_laid m.caches) p l (laid_out order m w).apart_slabs kept (object_in_slab order m o.cache o.slab o.index j w k.0 in_s i.index_in below)) in
      h.object_bytes o j byte (record { cache_in = in_contains o.cache m.caches k.0; slab_in = i.slab_in; index_in = i.index_in }) below (sym same ∙ is)

  meets : Meets order after (destroyed c m)
  unfolding after
  meets = record {
    has = has_after;
    may_have_empty = λ x t in_x in_t. let k : IsIn x m.caches × (not (eqb x.number c.number) ≡ true) = left x in_x in and_from (not (eqb x.number c.number)) (s.may_have_empty x.number) k.1 (h.may_have_empty x t (in_contains x m.caches k.0) in_t);
    lives = λ p cell e sure. let k : (s.cells p ≡ Some cell) × (is_object (λ n q. eqb n c.number) cell.holder ≡ false) = without_some (λ place. is_object (λ n q. eqb n c.number)) s.cells p cell e in
        ap (λ x. is_object_live x cell.holder p) has_after ∙ still_live p cell.holder (ap (λ x. is_object_live x cell.holder p) (sym h.has) ∙ h.lives p cell k.0 sure) k.1;
    page_bytes = λ p byte out is. without_may (λ place. is_object (λ n q. eqb n c.number)) s.cells Holder.Page p 0 byte refl (page_at p byte out is);
    object_bytes = λ o j byte i below is. without_may (λ place. is_object (λ n q. eqb n c.number)) s.cells (Holder.Object o.cache.number (place_of o)) (place_of o + j) (pattern_byte o.cache.pattern j) byte
        (not-true (eqb o.cache.number c.number) (left o.cache i.cache_in).1) (object_at o j byte i below is);
    empty_told = λ r e. absurd (cc);
    free_told = λ r e. absurd (cc);
  }

  gave_back : cache_of m c.number ≡ Some c → IsKeptBy limit order (Command.Destroy c.number) (seen m s) (Say.Destroyed (frames_of (slab_blocks c))) (destroyed c m)
  unfolding holdings_of due state_after after
  gave_back e = record {
    allowed = λ t owners states. rw (eq-eqb t t refl) (rw (cache_seen c.number m.caches ∙ ap (option_map cache_as_known) e) (rw (ap (λ os. ltb 0 (length (map (λ o. o.place) os))) (none_in_use c c.slabs unused))
        (and_from _ _ comes_back (and_from _ _ stays_told refl))));
    meets = λ t. (after, refl, meets);
  }

in_use : (c : Cache) → list_any (λ s. not (is_empty s)) c.slabs ≡ true → ltb 0 (length (map (λ o. o.place) (live_objects c))) ≡ true
in_use c e =
    let t : (t : Slab) × IsIn t c.slabs × (not (is_empty t) ≡ true) = some_any (λ s. not (is_empty s)) c.slabs e in
    let o : (o : LiveObject) × IsIn o (live_in c t.0) × (o.slab ≡ t.0) = one_live c t.0 0 t.0.live (not-false _ (not-true (is_empty t.0) t.2)) in
    listed_some o.0.place (map (λ o. o.place) (live_objects c)) (in_map (λ o. o.place) o.0 (live_objects c) (in_flat_map (live_in c) o.0 t.0 c.slabs t.1 o.1))

destroy_seen : (limit order number : ℕ) (m : Machine) (s : State) → IsWellFormed limit order m → Meets order s m → Meets order (seen m s) m → IsPromiseKept limit order (Command.Destroy number) m (seen m s)
unfolding command_step destroy_step holdings_of due state_after
destroy_seen limit order number m s w h k = go (cache_of m number) refl
  where
    step : Cache → Bool → Step (Result ℕ DestroyRefusal)
    step c b = if b then refuse DestroyRefusal.CacheInUse m else record { answer = Ok (frames_of (slab_blocks c)); machine = destroyed c m }

    used : (c : Cache) → cache_of m number ≡ Some c → (b : Bool) → list_any (λ s. not (is_empty s)) c.slabs ≡ b
        → IsKeptBy limit order (Command.Destroy number) (seen m s) (destroy_body (step c b).answer) (step c b).machine
    used c e true u =
        refused limit order (Command.Destroy number) Refusal.CacheInUse (seen m s) m k
        (λ t owners states. (rw (cache_seen number m.caches ∙ ap (option_map cache_as_known) e) (rw (in_use c u) refl), refl))
    used c e false u =
        let in_c : IsIn c m.caches × (eqb c.number number ≡ true) = find_in (λ x. eqb x.number number) c m.caches e in
        let same : c.number ≡ number = eqb-true c.number number in_c.1 in
        subst (λ i. IsKeptBy limit order (Command.Destroy i) (seen m s) (Say.Destroyed (frames_of (slab_blocks c))) (destroyed c m)) same
        (gave_back limit order c m s w h in_c.0 u (subst (λ i. cache_of m i ≡ Some c) (sym same) e))

    go : (o : Option Cache) → cache_of m number ≡ o → IsKeptBy limit order (Command.Destroy number) (seen m s) (destroy_body (destroy_of m o).answer) (destroy_of m o).machine
    go None e =
        refused limit order (Command.Destroy number) Refusal.NoCache (seen m s) m k
        (λ t owners states. (rw (cache_seen number m.caches ∙ ap (option_map cache_as_known) e) refl, refl))
    go (Some c) e = used c e (list_any (λ s. not (is_empty s)) c.slabs) refl

pub destroy_kept : (limit order number : ℕ) (m : Machine) (s : State) → IsWellFormed limit order m → Meets order s m → IsPromiseKept limit order (Command.Destroy number) m s
destroy_kept limit order number m s w h =
    let e : seen m s ≡ s = seen_is m s h.has in
    subst (IsPromiseKept limit order (Command.Destroy number) m) e (destroy_seen limit order number m s w h (subst (λ x. Meets order x m) (sym e) h))
