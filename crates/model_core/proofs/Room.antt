-- Space for a block of order k: if the taken blocks have fewer frames than the held slots have aligned blocks of order k, one of
-- these aligned blocks is vacant.
use Rattle.std.proofs.Common.{◌≡◌, ℕ, zero, suc, ◌+◌, ◌-◌, ◌*◌, ◌/◌, ◌^◌, ◌<◌, ◌≤◌, Bool, true, false, not, cond, eqb, List, [], ◌∷◌, ◌++◌, map, length, Option, Some, None, Ok, refl, sym, ap, ◌∙◌, subst, inl, inr, ⊎_elim, arith}
use Rattle.std.specs.Prelude.{if◌then◌else◌, option_map, is_some, filter, find, flat_map}
use Rattle.std.specs.List.{list_any, range_with_len}
use Rattle.std.proofs.Math.Nat.{div-div-eq-div-mul, div-eq_of_lt-le, mul-div_cancel, mul-le-mul_right}
use Rattle.std.proofs.lemmas.Nat.{pow_pos, pow-add}
use Rattle.std.proofs.lemmas.Bool.{false≢true, cases_eq, eqb-true, eq-eqb, ne_eqb, le-ltb, not-true, not-false}
use Rattle.std.proofs.lemmas.List.{length-append, length-map}
use Rattle.std.proofs.lemmas.List.FromFn.{length-range_with_len}
use Rattle.model_core.specs.declared.refusals.AllocRefusal.{AllocRefusal}
use Rattle.model_core.specs.Blocks.{Block, block, HasFrame}
use Rattle.model_core.specs.Choice.{choose}
use Rattle.model_core.specs.Machine.{Slab, Machine, holds, beyond, layout, taken_blocks, order_in, taken_in, choice}
use Rattle.model_core.specs.Slabs.{is_partial, is_empty, cache_of, slab_to_use, reaped, by_need, choice_by_need}
use Rattle.model_core.specs.Operations.{refuse, alloc_at, alloc_step}
use Rattle.model_core.specs.CacheOperations.{frames_of, take_from, take_new, take_of, take_step}
use Rattle.model_core.specs.WellFormed.{RisesFrom}
use Rattle.model_core.specs.Room.{BlockIsPromised, AllocIsPromised, TakeIsPromised}
use Rattle.model_core.specs.Elements.{IsIn}
use Rattle.model_core.proofs.Lists.{each_in, in_filter, none_any, some_any, any_in, rises_more, in_left, in_right, in_map, in_append}
use Rattle.model_core.proofs.BlocksByNumber.{number_is, number_first, number_of_frame, aligned_first}
use Rattle.model_core.proofs.ChosenBlock.{held_below}
use Rattle.model_core.proofs.ReapingByNeed.{by_need_found, by_need_reaps}
use Rattle.model_core.proofs.VacantBlocks.{IsVacant, some_choice}

-- Lists of numbers

-- a number x with a ≤ x < a + n is one of the n numbers that begin with a
pub in_range : (x a n : ℕ) → a ≤ x → x < a + n → IsIn x (range_with_len a n)
in_range x a zero low high = absurd (omega arith)
in_range x a (suc n) low high = ⊎_elim (λ same. inl same) (λ other. inr (in_range x (a + 1) n (omega arith) (omega arith))) (cases_eq a x)

pub range_in : (x a n : ℕ) → IsIn x (range_with_len a n) → (a ≤ x) × (x < a + n)
range_in x a zero i = elim i [ ]
range_in x a (suc n) (inl same) = (omega arith, omega arith)
range_in x a (suc n) (inr i) = let rest = range_in x (a + 1) n i in (omega (arith, rest.0), omega (arith, rest.1))

-- the numbers in a list that rises from n are at least n
pub rises_in : (n x : ℕ) (xs : List ℕ) → RisesFrom n xs → IsIn x xs → n ≤ x
rises_in n x [] r i = elim i [ ]
rises_in n x (y ∷ ys) (l, r) (inl same) = omega arith
rises_in n x (y ∷ ys) (l, r) (inr i) = let above : y + 1 ≤ x = rises_in (y + 1) x ys r i in omega arith

-- the list without the numbers equal to x
others : ℕ → List ℕ → List ℕ
others x ys = filter (λ y. not (eqb y x)) ys

others_most : (x : ℕ) (ys : List ℕ) → length (others x ys) ≤ length ys
unfolding others
others_most x [] = omega arith
others_most x (y ∷ ys) = go (eqb y x) (others_most x ys)
  where
    go : (b : Bool) → length (others x ys) ≤ length ys → length (cond (not b) (y ∷ others x ys) (others x ys)) ≤ suc (length ys)
    go true le = omega arith
    go false le = omega arith

others_fewer : (x : ℕ) (ys : List ℕ) → IsIn x ys → length (others x ys) < length ys
unfolding others
others_fewer x [] i = elim i [ ]
others_fewer x (y ∷ ys) i = go (eqb y x) refl i (others_most x ys) (others_fewer x ys)
  where
    go : (b : Bool) → eqb y x ≡ b → IsIn x (y ∷ ys) → length (others x ys) ≤ length ys → (IsIn x ys → length (others x ys) < length ys)
        → length (cond (not b) (y ∷ others x ys) (others x ys)) < suc (length ys)
    go true is i le more = omega arith
    go false is (inl same) le more = absurd (false≢true (sym is ∙ eq-eqb y x same))
    go false is (inr j) le more = let less = more j in omega arith

-- a rising list has at most as many numbers as any list that contains all of them
no_longer : (n : ℕ) (xs ys : List ℕ) → RisesFrom n xs → ((x : ℕ) → IsIn x xs → IsIn x ys) → length xs ≤ length ys
unfolding others
no_longer n [] ys r all = omega arith
no_longer n (x ∷ xs) ys (l, r) all =
    let less : length (others x ys) < length ys = others_fewer x ys (all x (inl refl)) in
    let rest : length xs ≤ length (others x ys) = no_longer (x + 1) xs (others x ys) r (λ z i.
    in_filter (λ y. not (eqb y x)) z ys (all z (inr i)) (ap not (ne_eqb z x (λ same. let above : x + 1 ≤ z = rises_in (x + 1) z xs r i in absurd (omega arith))))) in
    omega arith

-- The numbers of the aligned blocks of one order in the listed slots. Slot u has w of these blocks, numbered from u * w.

blocks_in : ℕ → List ℕ → List ℕ
blocks_in w slots = flat_map (λ u. range_with_len (u * w) w) slots

count_blocks : (w : ℕ) (slots : List ℕ) → length (blocks_in w slots) ≡ length slots * w
unfolding blocks_in
count_blocks w [] = omega arith
count_blocks w (u ∷ us) =
    let rest : length (blocks_in w us) ≡ length us * w = count_blocks w us in
    let both : length (range_with_len (u * w) w ++ blocks_in w us) ≡ length (range_with_len (u * w) w) + length (blocks_in w us) = length-append (range_with_len (u * w) w) (blocks_in w us) in
    let here : length (range_with_len (u * w) w) ≡ w = length-range_with_len (u * w) w in
    omega arith

range_rises : (n a w : ℕ) (rest : List ℕ) → n ≤ a → RisesFrom (a + w) rest → RisesFrom n (range_with_len a w ++ rest)
range_rises n a zero rest le r = rises_more (a + zero) n rest (omega arith) r
range_rises n a (suc w) rest le r =
    let same : a + suc w ≡ a + 1 + w = omega arith in
    (le, range_rises (a + 1) (a + 1) w rest (omega arith) (subst (λ z. RisesFrom z rest) same r))

blocks_rise : (w n : ℕ) (slots : List ℕ) → RisesFrom n slots → RisesFrom (n * w) (blocks_in w slots)
unfolding blocks_in
blocks_rise w n [] r = tt
blocks_rise w n (u ∷ us) (l, r) =
    let next : (u + 1) * w ≡ u * w + w = omega arith in
    range_rises (n * w) (u * w) w (blocks_in w us) (mul-le-mul_right w l) (subst (λ z. RisesFrom z (blocks_in w us)) next (blocks_rise w (u + 1) us r))

-- block q is one of the w blocks of a listed slot
record IsOfSlot (w q : ℕ) (slots : List ℕ) : Type 0 where
  slot : ℕ
  listed : IsIn slot slots
  low : slot * w ≤ q
  high : q < slot * w + w

slot_of_block : (w q : ℕ) (slots : List ℕ) → IsIn q (blocks_in w slots) → IsOfSlot w q slots
unfolding blocks_in
slot_of_block w q [] i = elim i [ ]
slot_of_block w q (u ∷ us) i =
    ⊎_elim
    (λ here. let within = range_in q (u * w) w here in record { slot = u; listed = inl refl; low = within.0; high = within.1 })
    (λ later. let is = slot_of_block w q us later in record { slot = is.slot; listed = inr is.listed; low = is.low; high = is.high })
    (in_append q (range_with_len (u * w) w) (blocks_in w us) i)

-- The frames of the listed blocks

frames_in : List Block → List ℕ
frames_in bs = flat_map (λ b. range_with_len b.first (2 ^ b.order)) bs

count_frames : (bs : List Block) → length (frames_in bs) ≡ frames_of bs
unfolding frames_in
count_frames [] = refl
count_frames (b ∷ bs) =
    length-append (range_with_len b.first (2 ^ b.order)) (frames_in bs)
    ∙ (ap (λ n. n + length (frames_in bs)) (length-range_with_len b.first (2 ^ b.order)) ∙ ap (λ n. 2 ^ b.order + n) (count_frames bs))

-- if a look-up of frame f returns order k, each frame of the block of order k at f is in `frames_in bs`
found_in : (bs : List Block) (f k x : ℕ) → order_in bs f ≡ Some k → HasFrame (block f k) x → IsIn x (frames_in bs)
unfolding frames_in
found_in [] f k x e has = absurd (cc)
found_in (b ∷ bs) f k x e has = go (eqb b.first f) refl e (λ later. found_in bs f k x later has)
  where
    go : (t : Bool) → eqb b.first f ≡ t → (if t then Some b.order else order_in bs f) ≡ Some k → (order_in bs f ≡ Some k → IsIn x (frames_in bs)) → IsIn x (frames_in (b ∷ bs))
    go true is e later =
        let first : b.first ≡ f = eqb-true b.first f is in
        let order : b.order ≡ k = cc in
        let size : 2 ^ b.order ≡ 2 ^ k = ap (λ n. 2 ^ n) order in
        in_left x (range_with_len b.first (2 ^ b.order)) (frames_in bs) (in_range x b.first (2 ^ b.order) (omega (arith, has.0)) (omega (arith, has.1)))
    go false is e later = in_right x (range_with_len b.first (2 ^ b.order)) (frames_in bs) (later e)

-- A vacant block

module _ (order k : ℕ) (slots : List ℕ) (bs : List Block) (rises : RisesFrom 0 slots) (of_slot : k ≤ order)
    (fewer : frames_of bs < length slots * 2 ^ (order - k)) where
  -- the number of aligned blocks of order k in a slot
  abbrev share : ℕ
  share = 2 ^ (order - k)

  -- for each taken frame, the number of the aligned block of order k that has the frame
  abbrev met : List ℕ
  met = map (λ x. x / 2 ^ k) (frames_in bs)

  abbrev is_met : ℕ → Bool
  is_met q = list_any (λ p. eqb p q) met

  abbrev held : ℕ → Bool
  held u = list_any (λ v. eqb v u) slots

  slot_is : (q : ℕ) (is : IsOfSlot share q slots) → q * 2 ^ k / 2 ^ order ≡ is.slot
  slot_is q is =
      let size : 2 ^ order ≡ 2 ^ k * share = ap (λ n. 2 ^ n) (omega arith) ∙ pow-add 2 k (order - k) in
      let low = is.low in
      let high = is.high in
      ap (λ n. q * 2 ^ k / n) size
      ∙ (sym (div-div-eq-div-mul (q * 2 ^ k) (2 ^ k) share)
      ∙ (ap (λ n. n / share) (mul-div_cancel q (pow_pos k)) ∙ div-eq_of_lt-le share low (omega arith)))

  vacant : (q : ℕ) → IsIn q (blocks_in share slots) → not (is_met q) ≡ true → IsVacant order held (order_in bs) (q * 2 ^ k) k
  vacant q i unmet = record {
    aligned = (of_slot, aligned_first q k);
    slot =
        let is = slot_of_block share q slots i in
        any_in (λ v. eqb v (q * 2 ^ k / 2 ^ order)) is.slot slots is.listed (eq-eqb is.slot (q * 2 ^ k / 2 ^ order) (sym (slot_is q is)));
    untaken = λ x has is.
        let number : x / 2 ^ k ≡ q = sym (number_is k x) ∙ (number_of_frame (q * 2 ^ k) k x (aligned_first q k) has ∙ number_first q k) in
        let listed : IsIn (x / 2 ^ k) met = in_map (λ y. y / 2 ^ k) x (frames_in bs) (found_in bs is.0 is.1 x is.2 is.3) in
        false≢true (sym (not-true (is_met q) unmet) ∙ any_in (λ p. eqb p q) (x / 2 ^ k) met listed (eq-eqb (x / 2 ^ k) q number));
  }

  -- some aligned block of order k in the slots has no taken frame
  all_met : list_any (λ q. not (is_met q)) (blocks_in share slots) ≡ false → ⊥
  all_met none =
      let within : length (blocks_in share slots) ≤ length met = no_longer (0 * share) (blocks_in share slots) met (blocks_rise share 0 slots rises) (λ q i.
      let is : list_any (λ p. eqb p q) met ≡ true = not-false (is_met q) (each_in (λ q. not (is_met q) ≡ false) q (blocks_in share slots) (none_any (λ q. not (is_met q)) (blocks_in share slots) none) i) in
      let there = some_any (λ p. eqb p q) met is in
      subst (λ p. IsIn p met) (eqb-true there.0 q there.2) there.1) in
      let blocks : length (blocks_in share slots) ≡ length slots * share = count_blocks share slots in
      let frames : length met ≡ frames_of bs = length-map (frames_in bs) (λ x. x / 2 ^ k) ∙ count_frames bs in
      absurd (omega arith)

  pub room_left : (f : ℕ) × IsVacant order held (order_in bs) f k
  room_left = go (list_any (λ q. not (is_met q)) (blocks_in share slots)) refl
    where
      go : (b : Bool) → list_any (λ q. not (is_met q)) (blocks_in share slots) ≡ b → (f : ℕ) × IsVacant order held (order_in bs) f k
      go true some = let q = some_any (λ q. not (is_met q)) (blocks_in share slots) some in (q.0 * 2 ^ k, vacant q.0 q.1 q.2)
      go false none = absurd (all_met none)

-- Machines

some_first : (o : Option Block) → is_some o ≡ true → (first : ℕ) × (option_map (λ b. b.first) o ≡ Some first)
some_first None e = absurd (false≢true e)
some_first (Some b) e = (b.first, refl)

-- if the taken blocks have fewer frames than the held slots have aligned blocks of order k, `choice` finds a block of order k
room_chosen : (order k : ℕ) (m : Machine) → RisesFrom 0 m.slots → k ≤ order → frames_of (taken_blocks m) < length m.slots * 2 ^ (order - k)
    → (first : ℕ) × (choice order m k ≡ Some first)
unfolding choice
room_chosen order k m rises of_slot fewer =
    let left = room_left order k m.slots (taken_blocks m) rises of_slot fewer in
    some_first (choose order (holds m) (taken_in m) (beyond m.slots) k)
    (some_choice order (holds m) (taken_in m) (beyond m.slots) (held_below m.slots) left.0 k left.1)

reaped_slots : (m : Machine) → (reaped m).slots ≡ m.slots
unfolding reaped
reaped_slots m = refl

pub block_is_promised : BlockIsPromised
block_is_promised limit order k m w room = go (choice order m k) refl
  where
    left : (first : ℕ) × (choice order (reaped m) k ≡ Some first)
    left = room_chosen order k (reaped m) (subst (RisesFrom 0) (sym (reaped_slots m)) w.slots_rise) room.of_slot
        (subst (λ us. frames_of (taken_blocks (reaped m)) < length us * 2 ^ (order - k)) (sym (reaped_slots m)) room.fewer)

    go : (o : Option ℕ) → choice order m k ≡ o → (first : ℕ) × (choice_by_need order k m ≡ Some first)
    go (Some first) is = (first, ap (λ n. choice order n k) (by_need_found order k first m is) ∙ is)
    go None none = (left.0, ap (λ n. choice order n k) (by_need_reaps order k left.0 m none left.1) ∙ left.1)

pub alloc_is_promised : AllocIsPromised
unfolding alloc_step
alloc_is_promised limit order k m w room =
    let is = block_is_promised limit order k m w room in (
      is.0,
      ap (λ t. (if t then refuse AllocRefusal.BadOrder m else alloc_at k (by_need order k m) (choice_by_need order k m)).answer) (le-ltb order k room.of_slot)
          ∙ ap (λ o. (alloc_at k (by_need order k m) o).answer) is.1,
    )

pub take_is_promised : TakeIsPromised
unfolding take_step
take_is_promised limit order number m c w is room = go (slab_to_use (find is_partial c.slabs) (find is_empty c.slabs)) refl
  where
    go : (o : Option Slab) → slab_to_use (find is_partial c.slabs) (find is_empty c.slabs) ≡ o → (place : ℕ) × ((take_of order m (cache_of m number)).answer ≡ Ok place)
    go (Some s) used = (_, ap (λ c. (take_of order m c).answer) is ∙ ap (λ s. (take_from order c m s).answer) used)
    go None unused =
        let first = block_is_promised limit order (layout c).order m w room in (
          _,
          ap (λ c. (take_of order m c).answer) is ∙ (ap (λ s. (take_from order c m s).answer) unused
              ∙ ap (λ o. (take_new c (by_need order (layout c).order m) o).answer) first.1),
        )
