-- `NoFrames` is an allowed reply to an `alloc` exactly if no frame is an allowed reply, and to a `take` exactly if no object is
-- an allowed reply.
use Rattle.std.proofs.Common.{◌≡◌, ℕ, ◌+◌, ◌-◌, ◌*◌, ◌/◌, ◌%◌, ◌^◌, ◌<◌, ◌≤◌, Bool, true, false, not, ◌&&◌, eqb, ltb, leb, List, [], ◌∷◌, length, Some, Err, slice_get, refl, sym, ap, ◌∙◌, subst, inl, inr, arith}
use Rattle.std.specs.Prelude.{if◌then◌else◌, flat_map, is_ok, is_none}
use Rattle.std.specs.List.{list_all, range_with_len}
use Rattle.std.specs.Option.{option_map_or}
use Rattle.std.proofs.Math.Nat.{div-div-eq-div-mul, div-eq_of_lt-le, mul-div_cancel, div-mul-le_self, lt-div-mul-add}
use Rattle.std.proofs.lemmas.Nat.{pow_pos, pow-add, div-add-mod'}
use Rattle.std.proofs.lemmas.Bool.{false≢true, and_parts, and_from, or_cases, or_left, or_right, leb-true, ltb-true, le-leb, le-ltb, lt-ltb, eqb-true, eq-eqb, false_from_ne_true, not-false}
use Rattle.std.proofs.Math.Bool.{and-true}
use Rattle.model_core.specs.Blocks.{Block, block}
use Rattle.model_core.specs.Elements.{IsIn}
use Rattle.model_core.proofs.Lists.{find_in, filter_in, in_filter, some_any, any_in, in_map, map_in, flat_map_in, in_flat_map}
use Rattle.model_core.proofs.BlocksByNumber.{aligned_first}
use Rattle.model_core.proofs.Room.{in_range, range_in}
use Rattle.words_core.specs.declared.event.Command.{Command}
use Rattle.words_core.specs.declared.event.Event.TheVariants as On
use Rattle.words_core.specs.declared.reply.Addressee.TheVariants as To
use Rattle.words_core.specs.declared.reply.Body.{Body}
use Rattle.words_core.specs.declared.reply.Body.TheVariants as Say
use Rattle.words_core.specs.declared.reply.Refusal.{Refusal}
use Rattle.promise_core.specs.declared.promise.Promise.{Promise}
use Rattle.promise_core.specs.Holdings.{KnownCache, Holdings, has_slot, known_cache, slab_around, is_vacant, can_stand, blocks_of_slot, vacant_blocks, has_vacant_block, live_beside, is_slab_full, can_be_taken}
use Rattle.promise_core.specs.State.{State, Known, state_after}
use Rattle.promise_core.specs.Promises.{first_due, is_one, due, is_used_up, verdict, kept, judged, allowed}
use Rattle.promise_core.specs.Laws.{may_tell, RefusedForCause, TakeRefusedForCause}
use Rattle.promise_core.specs.Lying.{IsGridded, live_of_slab}
use Rattle.promise_core.proofs.ObjectGrids.{all_in, free_place}
use Rattle.promise_core.proofs.LiveApart.{can_stand_is, empty_slab}
use Rattle.promise_core.proofs.ReachedStates.{reached_gridded}

-- Lists

pub listed_some : {X : Type 0} (x : X) (xs : List X) → IsIn x xs → ltb 0 (length xs) ≡ true
listed_some x [] i = elim i [ ]
listed_some x (y ∷ xs) i = lt-ltb 0 (length (y ∷ xs)) (omega arith)

some_listed : {X : Type 0} (xs : List X) → ltb 0 (length xs) ≡ true → (x : X) × IsIn x xs
some_listed [] e = absurd (false≢true e)
some_listed (x ∷ xs) e = (x, inl refl)

-- Blocks of slots

module _ (order k : ℕ) (of_slot : k ≤ order) (h : Holdings) where
  abbrev share : ℕ
  share = 2 ^ (order - k)

  -- the aligned block of order k that begins at frame q * 2 ^ k lies in slot q / share
  slot_of_number : (q : ℕ) → q * 2 ^ k / 2 ^ order ≡ q / share
  slot_of_number q =
      let size : 2 ^ order ≡ 2 ^ k * share = ap (λ n. 2 ^ n) (omega (arith, of_slot)) ∙ pow-add 2 k (order - k) in
      ap (λ n. q * 2 ^ k / n) size ∙ (sym (div-div-eq-div-mul (q * 2 ^ k) (2 ^ k) share) ∙ ap (λ n. n / share) (mul-div_cancel q (pow_pos k)))

  stands_vacant : (f : ℕ) → can_stand order h (block f k) ≡ true → has_vacant_block order h k ≡ true
  unfolding can_stand vacant_blocks
  stands_vacant f e =
      let parts = and_parts (leb k order && eqb (f % 2 ^ k) 0) (has_slot h (f / 2 ^ order) && is_vacant h (block f k)) e in
      let aligned : f % 2 ^ k ≡ 0 = eqb-true (f % 2 ^ k) 0 (and_parts (leb k order) (eqb (f % 2 ^ k) 0) parts.0).1 in
      let there = and_parts (has_slot h (f / 2 ^ order)) (is_vacant h (block f k)) parts.1 in
      let q : ℕ = f / 2 ^ k in
      let is : q * 2 ^ k ≡ f = omega (arith, aligned, div-add-mod' f (2 ^ k)) in
      let u : (v : ℕ) × IsIn v h.slots × (eqb v (f / 2 ^ order) ≡ true) = some_any (λ v. eqb v (f / 2 ^ order)) h.slots there.0 in
      let slot : u.0 ≡ q / share = eqb-true u.0 (f / 2 ^ order) u.2 ∙ (ap (λ n. n / 2 ^ order) (sym is) ∙ slot_of_number q) in
      let low : q / share * share ≤ q = div-mul-le_self q share in
      let high : q < q / share * share + share = lt-div-mul-add (pow_pos (order - k)) in
      listed_some (block f k) (vacant_blocks order h k) (in_filter (is_vacant h) (block f k) (flat_map (blocks_of_slot order k) h.slots)
      (in_flat_map (blocks_of_slot order k) (block f k) u.0 h.slots u.1 (subst (λ x. IsIn (block x k) (blocks_of_slot order k u.0)) is
      (in_map (λ i. block (i * 2 ^ k) k) q (range_with_len (u.0 * share) share)
      (in_range q (u.0 * share) share (subst (λ v. v * share ≤ q) (sym slot) low) (subst (λ v. q < v * share + share) (sym slot) high)))))
      there.1)

  vacant_stands : has_vacant_block order h k ≡ true → (f : ℕ) × (can_stand order h (block f k) ≡ true)
  unfolding can_stand vacant_blocks
  vacant_stands e =
      let b : (b : Block) × IsIn b (vacant_blocks order h k) = some_listed (vacant_blocks order h k) e in
      let v = filter_in (is_vacant h) b.0 (flat_map (blocks_of_slot order k) h.slots) b.1 in
      let u = flat_map_in (blocks_of_slot order k) b.0 h.slots v.0 in
      let q = map_in (λ i. block (i * 2 ^ k) k) b.0 (range_with_len (u.0 * share) share) u.2 in
      let r = range_in q.0 (u.0 * share) share q.1 in
      let slot : q.0 / share ≡ u.0 = div-eq_of_lt-le share r.0 (omega (arith, r.1)) in (
        q.0 * 2 ^ k,
        and_from (leb k order && eqb (q.0 * 2 ^ k % 2 ^ k) 0) (has_slot h (q.0 * 2 ^ k / 2 ^ order) && is_vacant h (block (q.0 * 2 ^ k) k))
            (and_from (leb k order) (eqb (q.0 * 2 ^ k % 2 ^ k) 0) (le-leb k order of_slot) (eq-eqb (q.0 * 2 ^ k % 2 ^ k) 0 (aligned_first q.0 k)))
            (and_from (has_slot h (q.0 * 2 ^ k / 2 ^ order)) (is_vacant h (block (q.0 * 2 ^ k) k))
            (any_in (λ x. eqb x (q.0 * 2 ^ k / 2 ^ order)) u.0 h.slots u.1 (eq-eqb u.0 (q.0 * 2 ^ k / 2 ^ order) (sym (slot_of_number q.0 ∙ slot))))
            (ap (is_vacant h) q.2 ∙ v.1)),
      )

-- Verdicts

ok_all : (ps : List (Promise × Bool)) (after : Known) → is_ok (verdict ps after) ≡ list_all (λ p. p.1) ps
ok_all [] after = refl
ok_all ((promise, b) ∷ ps) after = go b (ok_all ps after)
  where
    go : (b : Bool) → is_ok (verdict ps after) ≡ list_all (λ p. p.1) ps → is_ok (if b then verdict ps after else Err promise) ≡ (b && list_all (λ p. p.1) ps)
    go true e = e
    go false e = refl

-- a reply to a tenant's command is allowed exactly if it keeps each promise
pub tells_as : (w : Known) (s : State) (t : ℕ) (command : Command) (body : Body) → slice_get w.states t ≡ Some s
    → may_tell w t command body ≡ list_all (λ p. p.1) (kept (On.Tenant t command) (record { addressee = To.Tenant t; body = body }) w s)
unfolding allowed
tells_as w s t command body is = ap (λ o. is_ok (judged (On.Tenant t command) (record { addressee = To.Tenant t; body = body }) w o)) is
    ∙ ok_all (kept (On.Tenant t command) (record { addressee = To.Tenant t; body = body }) w s) _

both_ways_off : (b : Bool) → not b ≡ true → b ≡ true → ⊥
both_ways_off true e on = false≢true e
both_ways_off false e on = false≢true on

-- A page block

module _ (w : Known) (s : State) (t k : ℕ) (is : slice_get w.states t ≡ Some s) (of_slot : k ≤ w.order) where
  refusal_is : may_tell w t (Command.Alloc k) (Say.Refused Refusal.NoFrames) ≡ not (has_vacant_block w.order s.has k)
  unfolding due state_after
  refusal_is = tells_as w s t (Command.Alloc k) (Say.Refused Refusal.NoFrames) is
      ∙ (ap (λ b. (b && true) && (option_map_or (is_one Refusal.NoFrames) (first_due ((ltb w.order k, Refusal.BadOrder) ∷ [])) true && (not (has_vacant_block w.order s.has k) && true))) (eq-eqb t t refl)
      ∙ (ap (λ b. option_map_or (is_one Refusal.NoFrames) (first_due ((b, Refusal.BadOrder) ∷ [])) true && (not (has_vacant_block w.order s.has k) && true)) (le-ltb w.order k of_slot)
      ∙ and-true (not (has_vacant_block w.order s.has k))))

  frame_is : (f : ℕ) → may_tell w t (Command.Alloc k) (Say.Frame f) ≡ can_stand w.order s.has (block f k)
  unfolding due state_after
  frame_is f = tells_as w s t (Command.Alloc k) (Say.Frame f) is
      ∙ (ap (λ b. (b && true) && (is_none (first_due ((ltb w.order k, Refusal.BadOrder) ∷ [])) && (can_stand w.order s.has (block f k) && true))) (eq-eqb t t refl)
      ∙ (ap (λ b. is_none (first_due ((b, Refusal.BadOrder) ∷ [])) && (can_stand w.order s.has (block f k) && true)) (le-ltb w.order k of_slot)
      ∙ and-true (can_stand w.order s.has (block f k))))

pub refused_for_cause : RefusedForCause
refused_for_cause w s t k is of_slot = record {
  answered = λ e. let f = vacant_stands w.order k of_slot s.has (not-false (has_vacant_block w.order s.has k) (sym (refusal_is w s t k is of_slot) ∙ e)) in
      (f.0, frame_is w s t k is of_slot f.0 ∙ f.1);
  refused = λ f e. frame_is w s t k is of_slot f ∙ false_from_ne_true (can_stand w.order s.has (block f k))
      (λ stands. both_ways_off (has_vacant_block w.order s.has k) (sym (refusal_is w s t k is of_slot) ∙ e) (stands_vacant w.order k of_slot s.has f stands));
}

-- An object

module _ (w : Known) (s : State) (t number : ℕ) (c : KnownCache) (is : slice_get w.states t ≡ Some s) (told : known_cache s.has number ≡ Some c) where
  take_refusal_is : may_tell w t (Command.Take number) (Say.Refused Refusal.NoFrames) ≡ is_used_up w.order s.has c
  unfolding due state_after
  take_refusal_is = tells_as w s t (Command.Take number) (Say.Refused Refusal.NoFrames) is
      ∙ (ap (λ b. (b && true) && (option_map_or (is_one Refusal.NoFrames) (first_due ((is_none (known_cache s.has number), Refusal.NoCache) ∷ [])) true
      && (option_map_or (is_used_up w.order s.has) (known_cache s.has number) false && true))) (eq-eqb t t refl)
      ∙ (ap (λ o. option_map_or (is_one Refusal.NoFrames) (first_due ((is_none o, Refusal.NoCache) ∷ [])) true
      && (option_map_or (is_used_up w.order s.has) o false && true)) told
      ∙ and-true (is_used_up w.order s.has c)))

  place_is : (place : ℕ) → may_tell w t (Command.Take number) (Say.Object place) ≡ can_be_taken w.order s.has c place
  unfolding due state_after
  place_is place = tells_as w s t (Command.Take number) (Say.Object place) is
      ∙ (ap (λ b. (b && true) && (is_none (first_due ((is_none (known_cache s.has number), Refusal.NoCache) ∷ []))
      && (option_map_or (λ x. can_be_taken w.order s.has x place) (known_cache s.has number) false && true))) (eq-eqb t t refl)
      ∙ (ap (λ o. is_none (first_due ((is_none o, Refusal.NoCache) ∷ [])) && (option_map_or (λ x. can_be_taken w.order s.has x place) o false && true)) told
      ∙ and-true (can_be_taken w.order s.has c place)))

some_not : {X : Type 0} (p : X → Bool) (xs : List X) → list_all p xs ≡ false → (x : X) × IsIn x xs × (p x ≡ false)
some_not p [] e = absurd (false≢true (sym e))
some_not {X} p (x ∷ xs) e = go (p x) refl e (some_not p xs)
  where
    go : (b : Bool) → p x ≡ b → (b && list_all p xs) ≡ false → (list_all p xs ≡ false → (y : X) × IsIn y xs × (p y ≡ false)) → (y : X) × IsIn y (x ∷ xs) × (p y ≡ false)
    go true is e below = let r : (y : X) × IsIn y xs × (p y ≡ false) = below e in (r.0, inr r.1, r.2)
    go false is e below = (x, inl refl, is)

not_less : (a b n : ℕ) → a ≡ n → a ≡ b → b < n → ⊥
not_less a b n full same few = omega (arith, full, same, few)

-- if the cache is used up, no object can be taken
nothing_left : (order : ℕ) (h : Holdings) (c : KnownCache) (place : ℕ) → is_used_up order h c ≡ true → can_be_taken order h c place ≡ true → ⊥
unfolding can_be_taken can_stand
nothing_left order h c place used can =
    let u : (list_all (is_slab_full c) c.live ≡ true) × (not (has_vacant_block order h c.order) ≡ true) = and_parts _ _ used in
    let p = and_parts _ _ can in
    let few : length (live_beside c place) < c.count = ltb-true (length (live_beside c place)) c.count (and_parts _ _ p.1).0 in
    elim (or_cases (ltb 0 (length (live_beside c place))) (can_stand order h (slab_around c place)) (and_parts _ _ p.0).1) [
      | inl some ↦
          let q : (x : ℕ) × IsIn x (live_beside c place) = some_listed (live_beside c place) some in
          let at : IsIn q.0 c.live × (eqb (slab_around c q.0).first (slab_around c place).first ≡ true) = filter_in (λ p. eqb (slab_around c p).first (slab_around c place).first) q.0 c.live q.1 in
          let full : length (live_beside c q.0) ≡ c.count = eqb-true (length (live_beside c q.0)) c.count (all_in (is_slab_full c) q.0 c.live u.0 at.0) in
          let same : length (live_beside c q.0) ≡ length (live_beside c place) = ap (λ f. length (live_of_slab c f)) (eqb-true (slab_around c q.0).first (slab_around c place).first at.1) in
          not_less (length (live_beside c q.0)) (length (live_beside c place)) c.count full same few
      | inr stands ↦
          let of_slot : c.order ≤ order = leb-true c.order order (and_parts _ _ (and_parts _ _ stands).0).0 in
          both_ways_off (has_vacant_block order h c.order) u.1 (stands_vacant order c.order of_slot h (slab_around c place).first stands)
    ]

-- if the cache is not used up, an object can be taken: in a slab that has a live object, or in a vacant block
something_left : (order : ℕ) (h : Holdings) (c : KnownCache) → IsIn c h.caches → IsGridded order c → is_used_up order h c ≡ false
    → (place : ℕ) × (can_be_taken order h c place ≡ true)
something_left order h c i g unused = go (has_vacant_block order h c.order) refl (list_all (is_slab_full c) c.live) refl unused
  where
    beside : (p : ℕ) → IsIn p c.live → is_slab_full c p ≡ false → (place : ℕ) × (can_be_taken order h c place ≡ true)
    beside p j e =
        let f : ℕ = (slab_around c p).first in
        let few : length (live_of_slab c f) ≤ c.count = (g.grids f).few in
        let other : length (live_of_slab c f) ≡ c.count → ⊥ = λ same. false≢true (sym e ∙ eq-eqb (length (live_of_slab c f)) c.count same) in
        let here : IsIn p (live_of_slab c f) = in_filter (λ q. eqb (slab_around c q).first f) p c.live j (eq-eqb f f refl) in
        free_place order h c g f (aligned_first (p / 4096 / 2 ^ c.order) c.order) (omega (arith, few, other)) (or_left _ _ (listed_some p (live_of_slab c f) here))

    vacant : has_vacant_block order h c.order ≡ true → (place : ℕ) × (can_be_taken order h c place ≡ true)
    vacant room =
        let f : (f : ℕ) × (can_stand order h (block f c.order) ≡ true) = vacant_stands order c.order g.fitted.of_slot h room in
        let stands = can_stand_is order h (block f.0 c.order) f.1 in
        let none : length (live_of_slab c f.0) ≡ 0 = empty_slab order h c i f.0 stands.vacant in
        free_place order h c g f.0 stands.aligned.1 (omega (arith, none, g.fitted.some)) (or_right _ _ f.1)

    go : (r : Bool) → has_vacant_block order h c.order ≡ r → (a : Bool) → list_all (is_slab_full c) c.live ≡ a → (a && not r) ≡ false → (place : ℕ) × (can_be_taken order h c place ≡ true)
    go true room a full e = vacant room
    go false room true full e = absurd (false≢true (sym e))
    go false room false full e = let p : (p : ℕ) × IsIn p c.live × (is_slab_full c p ≡ false) = some_not (is_slab_full c) c.live full in beside p.0 p.1 p.2

pub take_refused_for_cause : TakeRefusedForCause
take_refused_for_cause limit order superblocks tenants t number es w s c run is told =
    let c_in : IsIn c s.has.caches = (find_in (λ y. eqb y.number number) c s.has.caches told).0 in
    let g : IsGridded w.order c = reached_gridded limit order superblocks tenants t es w s run is c c_in in
    record {
      answered = λ e. let p = something_left w.order s.has c c_in g (sym (take_refusal_is w s t number c is told) ∙ e) in
          (p.0, place_is w s t number c is told p.0 ∙ p.1);
      refused = λ p e. place_is w s t number c is told p ∙ false_from_ne_true (can_be_taken w.order s.has c p)
          (nothing_left w.order s.has c p (sym (take_refusal_is w s t number c is told) ∙ e));
    }
