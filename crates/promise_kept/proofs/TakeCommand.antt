-- A `take` keeps the promises. The object is in an existing slab or in a new slab.
use Rattle.std.proofs.Common.{◌≡◌, ℕ, suc, ◌<◌, ◌≤◌, Bool, true, false, not, ◌&&◌, eqb, List, [], ◌∷◌, map, length, get_or, Option, Some, None, refl, sym, ap, ◌∙◌, subst, arith}
use Rattle.std.specs.Prelude.{find, is_none, option_map}
use Rattle.std.specs.List.{list_any, list_all, position_or_len}
use Rattle.std.specs.Option.{option_map_or}
use Rattle.std.proofs.lemmas.List.{length-replicate}
use Rattle.std.proofs.lemmas.Bool.{false≢true, eqb-true, eq-eqb, and_from, and_parts, or_parts, or_right, not-true}
use Rattle.model_core.specs.Layouts.{IsLayout}
use Rattle.model_core.specs.Machine.{Slab, Cache, Machine, layout, choice}
use Rattle.model_core.specs.Slabs.{live_objects, is_full, is_partial, is_empty, cache_of, new_slab, grown_cache, grown, slab_to_use, next_object, by_need, choice_by_need}
use Rattle.model_core.specs.CacheOperations.{hand_out, take_new, take_from, take_of, take_step}
use Rattle.model_core.specs.WellFormed.{IsCache, IsWellFormed}
use Rattle.model_core.proofs.Layouts.{layouts_fit}
use Rattle.model_core.specs.Elements.{IsIn}
use Rattle.model_core.proofs.Lists.{each_in, find_in, none_any, any_unfound}
use Rattle.model_core.proofs.ReapingByNeed.{by_need_none}
use Rattle.model_core.proofs.PageSteps.{by_need_kept}
use Rattle.model_core.proofs.Outcomes.{used_in, stands_by_need}
use Rattle.model_core.proofs.CacheSteps.{IsGrown, grown_is, grown_kept}
use Rattle.words_core.specs.declared.event.Command.TheVariants as Command
use Rattle.words_core.specs.declared.reply.Body.TheVariants as Say
use Rattle.words_core.specs.declared.reply.Refusal.{Refusal}
use Rattle.world_core.specs.PrivateStep.{take_body, command_step}
use Rattle.promise_core.specs.Holdings.{live_beside, is_slab_full as is_full_there, has_vacant_block, known_cache as known_cache}
use Rattle.promise_core.specs.State.{State}
use Rattle.promise_core.specs.Promises.{due, first_due, is_used_up, is_one}
use Rattle.promise_kept.specs.Meets.{cache_as_known, holdings_of, Meets, IsKeptBy, IsPromiseKept}
use Rattle.promise_kept.proofs.SeenBlocks.{room_served}
use Rattle.promise_kept.proofs.PlaceCells.{refused}
use Rattle.promise_kept.proofs.KnownAfterReaping.{untold, meets_untold, by_need_meets}
use Rattle.promise_kept.proofs.LiveObjects.{IsSlab, IsLivePlace, live_place}
use Rattle.promise_kept.proofs.KnownCaches.{seen_is, cache_seen}
use Rattle.promise_kept.proofs.ObjectsBeside.{full_count, is_slab, beside_is}
use Rattle.promise_core.proofs.ObjectGrids.{all_from}
use Rattle.promise_kept.proofs.TakeFromSlab.{hidden, handed}
use Rattle.promise_kept.proofs.CacheGrown.{none_set, grown_meets}

-- Slabs that are not full

none_all : (flags : List Bool) → 0 < length flags → list_any (λ live. live) flags ≡ false → list_all (λ live. live) flags ≡ false
none_all [] some e = absurd (omega arith)
none_all (flag ∷ flags) some e = ap (λ b. b && list_all (λ live. live) flags) (or_parts flag (list_any (λ live. live) flags) e).0

record IsNext (flags : List Bool) : Type 0 where
  index_in : position_or_len not flags < length flags
  dead : get_or flags (position_or_len not flags) false ≡ false

-- if not all flags are set, `position_or_len` returns the index of a flag that is not set
next_is : (flags : List Bool) → list_all (λ live. live) flags ≡ false → IsNext flags
next_is [] e = absurd (false≢true (sym e))
next_is (false ∷ flags) e = record { index_in = omega arith; dead = refl }
next_is (true ∷ flags) e =
    let n : IsNext flags = next_is flags e in
    let later : position_or_len not (true ∷ flags) ≡ suc (position_or_len not flags) = omega arith in
    record { index_in = omega (arith, n.index_in); dead = ap (λ k. get_or (true ∷ flags) k false) later ∙ n.dead }

not_full : (c : Cache) (s : Slab) → IsSlab c s → slab_to_use (find is_partial c.slabs) (find is_empty c.slabs) ≡ Some s → is_full s ≡ false
unfolding slab_to_use
not_full c s k e = go (find is_partial c.slabs) refl e
  where
    go : (o : Option Slab) → find is_partial c.slabs ≡ o → slab_to_use o (find is_empty c.slabs) ≡ Some s → is_full s ≡ false
    go None f e = none_all s.live (omega (arith, k.count, k.fit.some)) (not-true _ (find_in is_empty s c.slabs e).1)
    go (Some t) f e = not-true (is_full s) (and_parts (not (is_full s)) (not (is_empty s)) (find_in is_partial s c.slabs (f ∙ e)).1).0

-- if `slab_to_use` finds no slab, all slabs of the cache are full
all_full : (c : Cache) → slab_to_use (find is_partial c.slabs) (find is_empty c.slabs) ≡ None → (s : Slab) → IsIn s c.slabs → is_full s ≡ true
unfolding slab_to_use
all_full c e s i = go (find is_partial c.slabs) refl e
  where
    full : (b empty : Bool) → (not b && not empty) ≡ false → empty ≡ false → b ≡ true
    full true empty e f = refl
    full false true e f = absurd (false≢true (sym f))
    full false false e f = absurd (false≢true (sym e))

    go : (o : Option Slab) → find is_partial c.slabs ≡ o → slab_to_use o (find is_empty c.slabs) ≡ None → is_full s ≡ true
    go (Some t) f e = absurd (cc)
    go None f e = full (is_full s) (is_empty s)
        (each_in (λ x. is_partial x ≡ false) s c.slabs (none_any is_partial c.slabs (any_unfound is_partial c.slabs f)) i)
        (each_in (λ x. is_empty x ≡ false) s c.slabs (none_any is_empty c.slabs (any_unfound is_empty c.slabs e)) i)

meets_hidden : (order number : ℕ) (s : State) (m : Machine) → Meets order (untold s) m → Meets order (hidden number s) m
meets_hidden order number s m h = record {
  has = h.has;
  may_have_empty = λ c slab i j. or_right _ (s.may_have_empty c.number) (h.may_have_empty c slab i j);
  lives = h.lives;
  page_bytes = h.page_bytes;
  object_bytes = h.object_bytes;
  empty_told = λ r e. absurd (cc);
  free_told = λ r e. absurd (cc);
}

-- a take of the first free object of a slab that is not full keeps the promises
hand_out_kept : {limit : ℕ} (order : ℕ) (c : Cache) (s : Slab) (m : Machine) (st : State) → IsWellFormed limit order m → Meets order (hidden c.number st) m → IsIn c m.caches → IsIn s c.slabs → is_full s ≡ false
    → IsKeptBy limit order (Command.Take c.number) st (take_body (hand_out c s m).answer) (hand_out c s m).machine
hand_out_kept {limit} order c s m st w h in_c in_s some =
    let n : IsNext s.live = next_is s.live some in
    let lt : next_object s < (layout c).count = subst (λ k. next_object s < k) (is_slab order c m w in_c s in_s).count n.index_in in
    subst (λ x. IsKeptBy limit order (Command.Take c.number) x (take_body (hand_out c s m).answer) (hand_out c s m).machine) (seen_is m st h.has)
    (handed order c s (next_object s) m st w h in_c in_s lt n.dead some)

-- a take of an object of a new slab keeps the promises
grow_kept : {limit : ℕ} (order first : ℕ) (c : Cache) (m : Machine) (st : State) → IsWellFormed limit order m → Meets order (untold st) m → IsIn c m.caches → choice order m (layout c).order ≡ Some first
    → let step = hand_out (grown_cache first c) (new_slab c first) (grown first c m) in IsKeptBy limit order (Command.Take c.number) st (take_body step.answer) step.machine
unfolding grown_cache
grow_kept order first c m st w h in_c e =
    let k : IsCache c = each_in IsCache c m.caches w.caches in_c in
    let g : IsGrown first c m = grown_is order first c m w in_c in
    let l : IsLayout c.size c.align (layout c) = layouts_fit c.size c.align k.sized k.aligned in
    hand_out_kept order (grown_cache first c) (new_slab c first) (grown first c m) st (grown_kept order first c m w in_c e) (grown_meets order first c m st w h in_c e) g.cache_in g.slab_in
    (none_all (new_slab c first).live (omega (arith, length-replicate {A = Bool} (layout c).count false, (l.fits 0).some)) (none_set (layout c).count))

module _ (limit order number : ℕ) (m : Machine) (s : State) (w : IsWellFormed limit order m) (h : Meets order s m) where
  told_of : (o : Option Cache) → cache_of m number ≡ o → known_cache s.has number ≡ option_map cache_as_known o
  unfolding holdings_of
  told_of o e = ap (λ x. known_cache x number) h.has ∙ (cache_seen number m.caches ∙ ap (option_map cache_as_known) e)

  no_cache : cache_of m number ≡ None → IsKeptBy limit order (Command.Take number) s (Say.Refused Refusal.NoCache) m
  unfolding due
  no_cache e =
      refused limit order (Command.Take number) Refusal.NoCache s m h (λ t owners states.
      (ap (λ o. option_map_or (is_one Refusal.NoCache) (first_due ((is_none o, Refusal.NoCache) ∷ [])) (is_one Refusal.NoCache Refusal.NoFrames)) (told_of None e), refl))

  -- if no slab of cache c can be used, and no block for a new slab is chosen even when empty slabs are freed on demand, the cache
  -- is seen as used up
  used_up : (c : Cache) → 3 ≤ order → IsIn c m.caches → slab_to_use (find is_partial c.slabs) (find is_empty c.slabs) ≡ None → choice_by_need order (layout c).order m ≡ None
      → is_used_up order s.has (cache_as_known c) ≡ true
  used_up c large in_c e none =
      let k : IsCache c = each_in IsCache c m.caches w.caches in_c in
      let l : IsLayout c.size c.align (layout c) = layouts_fit c.size c.align k.sized k.aligned in
      and_from _ _ (all_from (is_full_there (cache_as_known c)) (map (λ o. o.place) (live_objects c)) (λ u i. full u (live_place c u i)))
      (ap (λ x. not (has_vacant_block order x (layout c).order)) h.has ∙ ap not (room_served order (layout c).order m w (omega (arith, l.order)) none))
    where
      full : (u : ℕ) → IsLivePlace c u → is_full_there (cache_as_known c) u ≡ true
      full u o =
          let count : length o.slab.live ≡ (layout c).count = (is_slab order c m w in_c o.slab o.slab_in).count in
          eq-eqb (length (live_beside (cache_as_known c) u)) (layout c).count
          (ap (λ p. length (live_beside (cache_as_known c) p)) o.at ∙ (ap length (beside_is order c m w in_c o.slab o.index o.slab_in (subst (λ n. o.index < n) count o.index_in))
          ∙ (full_count c o.slab (all_full c e o.slab o.slab_in) ∙ count)))

  no_frames : (c : Cache) → 3 ≤ order → cache_of m number ≡ Some c → IsIn c m.caches → slab_to_use (find is_partial c.slabs) (find is_empty c.slabs) ≡ None → choice_by_need order (layout c).order m ≡ None
      → IsKeptBy limit order (Command.Take number) s (Say.Refused Refusal.NoFrames) (by_need order (layout c).order m)
  unfolding due
  no_frames c large is in_c e none =
      refused limit order (Command.Take number) Refusal.NoFrames s (by_need order (layout c).order m)
      (subst (λ n. Meets order s n) (sym (by_need_none order (layout c).order m none)) h) (λ t owners states. (
        ap (λ o. option_map_or (is_one Refusal.NoFrames) (first_due ((is_none o, Refusal.NoCache) ∷ [])) true) (told_of (Some c) is),
        and_from _ _ (ap (λ o. option_map_or (is_used_up order s.has) o false) (told_of (Some c) is) ∙ used_up c large in_c e none) refl,
      ))

  from_slab : (c : Cache) → 3 ≤ order → cache_of m number ≡ Some c → IsIn c m.caches → c.number ≡ number → (o : Option Slab) → slab_to_use (find is_partial c.slabs) (find is_empty c.slabs) ≡ o
      → IsKeptBy limit order (Command.Take number) s (take_body (take_from order c m o).answer) (take_from order c m o).machine
  from_slab c large is in_c same (Some t) e =
      let in_t : IsIn t c.slabs = used_in c t e in
      subst (λ i. IsKeptBy limit order (Command.Take i) s (take_body (hand_out c t m).answer) (hand_out c t m).machine) same
      (hand_out_kept order c t m s w (meets_hidden order c.number s m (meets_untold order s m h)) in_c in_t (not_full c t (is_slab order c m w in_c t in_t) e))
  from_slab c large is in_c same None e = go (choice_by_need order (layout c).order m) refl
    where
      go : (o : Option ℕ) → choice_by_need order (layout c).order m ≡ o
          → let step = take_new c (by_need order (layout c).order m) o in IsKeptBy limit order (Command.Take number) s (take_body step.answer) step.machine
      go None none = no_frames c large is in_c e none
      go (Some first) some =
          let n : Machine = by_need order (layout c).order m in
          subst (λ i. IsKeptBy limit order (Command.Take i) s (take_body (hand_out (grown_cache first c) (new_slab c first) (grown first c n)).answer) (hand_out (grown_cache first c) (new_slab c first) (grown first c n)).machine) same
          (grow_kept order first c n s (by_need_kept order (layout c).order m w) (by_need_meets order s m w h (layout c).order) (stands_by_need order (layout c).order c m in_c e) some)

  pub take_kept : 3 ≤ order → IsPromiseKept limit order (Command.Take number) m s
  unfolding command_step take_step
  take_kept large = go (cache_of m number) refl
    where
      go : (o : Option Cache) → cache_of m number ≡ o → IsKeptBy limit order (Command.Take number) s (take_body (take_of order m o).answer) (take_of order m o).machine
      go None e = no_cache e
      go (Some c) e =
          let f = find_in (λ x. eqb x.number number) c m.caches e in
          from_slab c large e f.0 (eqb-true c.number number f.1) (slab_to_use (find is_partial c.slabs) (find is_empty c.slabs)) refl
