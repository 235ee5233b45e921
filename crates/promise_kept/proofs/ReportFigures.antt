-- The free blocks that a report counts have as many frames as are held and not taken. The free blocks of order k and above,
-- divided into blocks of order k, are at most as many as the blocks of order k that are seen as vacant.
use Rattle.std.proofs.Common.{◌≡◌, ℕ, zero, suc, ◌+◌, ◌-◌, ◌*◌, ◌/◌, ◌%◌, ◌^◌, ◌<◌, ◌≤◌, Bool, true, false, not, ◌&&◌, ◌||◌, eqb, leb, List, [], ◌∷◌, map, length, refl, sym, ap, ◌∙◌, subst, inl, inr, arith}
use Rattle.std.specs.Prelude.{flat_map}
use Rattle.std.specs.List.{list_any, range_with_len}
use Rattle.std.proofs.Math.Nat.{mul-div_cancel, div-div-eq-div-mul, div-mul-le_self, lt-div-mul-add, mul-le-mul_right}
use Rattle.std.proofs.lemmas.Nat.{pow_pos, pow-add}
use Rattle.std.proofs.lemmas.Bool.{and_parts, and_from, eqb-true, eq-eqb, le-leb, false_from_ne_true, not_from_false, ne_eqb}
use Rattle.std.proofs.lemmas.List.{length-map}
use Rattle.std.proofs.Math.Bool.{and-true}
use Rattle.model_core.specs.Blocks.{Block, block, slot_block, Taken, IsTaken, HasFrame}
use Rattle.model_core.specs.Choice.{is_taken, is_available, is_free, count_below}
use Rattle.model_core.specs.Numbered.{is_clear}
use Rattle.model_core.specs.Machine.{Machine, holds, beyond, taken_in}
use Rattle.model_core.specs.Machine as model
use Rattle.model_core.specs.Operations.{overlaps}
use Rattle.model_core.specs.CacheOperations.{frames_of}
use Rattle.model_core.specs.Reports.{frames_held, frames_taken, frames_free, free_count}
use Rattle.model_core.specs.WellFormed.{RisesFrom, IsApart, AreApart, IsPlaced, IsWellFormed}
use Rattle.model_core.specs.Elements.{IsIn}
use Rattle.model_core.proofs.Lists.{each_in, each_from, each_map, some_any, any_in, any_none, in_filter, in_map, map_in, in_flat_map}
use Rattle.model_core.proofs.BlocksByNumber.{number_first, number_of_frame, aligned_first, taken_tells, taken_is, available_tells}
use Rattle.model_core.proofs.BlockHalves.{clear_at}
use Rattle.model_core.proofs.CountBelow.{count_same}
use Rattle.model_core.proofs.FreeBlocks.{same_bool}
use Rattle.model_core.proofs.ChosenBlock as chosen
use Rattle.model_core.proofs.MemoryKept.{frame_slot}
use Rattle.model_core.proofs.TakenSteps.{order_in_is}
use Rattle.model_core.proofs.Room.{in_range}
use Rattle.promise_core.specs.Holdings.{known_blocks, is_vacant, blocks_of_slot, vacant_blocks}
use Rattle.promise_core.specs.Promises.{frames_of_counts}
use Rattle.promise_kept.specs.Meets.{holdings_of}
use Rattle.promise_kept.proofs.SeenBlocks.{overlap_shares, taken_seen}
use Rattle.promise_kept.proofs.CountBelow.{is_clear_alone, clear_halves, strided, count_less, in_frames, frame_in, in_frame, in_any, count_blocks, count_listed}

-- The number of free blocks of each order

module _ (top : ℕ) (held : ℕ → Bool) (taken : Taken) (slots : ℕ) where
  abbrev ok : ℕ → Bool
  ok = is_available top held taken

  abbrev free_at : ℕ → ℕ → Bool
  free_at k f = is_free top held taken (block f k)

  abbrev free : ℕ → ℕ
  free k = count_below (free_at k) (slots * 2 ^ top)

  -- if k + d is the order of a slot, the number of free blocks of order k is the number of q below slots * 2 ^ d for which block
  -- q of order k is free
  numbered : (k d : ℕ) → k + d ≡ top → free k ≡ count_below (λ q. free_at k (q * 2 ^ k)) (slots * 2 ^ d)
  numbered k d e =
      let size : 2 ^ top ≡ 2 ^ k * 2 ^ d = ap (λ n. 2 ^ n) (sym e) ∙ pow-add 2 k d in
      let all : slots * 2 ^ top ≡ slots * 2 ^ d * 2 ^ k = ap (λ n. slots * n) size ∙ omega arith in
      ap (count_below (free_at k)) all ∙ strided (free_at k) (2 ^ k) (slots * 2 ^ d) (pow_pos k)
      (λ f on. eqb-true (f % 2 ^ k) 0 (and_parts (leb k top) (eqb (f % 2 ^ k) 0) (and_parts (leb k top && eqb (f % 2 ^ k) 0) _ on).0).1)

  -- block q of order k is free exactly if it is clear and either k is the order of a slot or the block of order k + 1 around it
  -- is not clear
  free_is : (k q : ℕ) → k ≤ top → free_at k (q * 2 ^ k) ≡ (is_clear ok k q && (eqb k top || not (is_clear ok (suc k) (q / 2))))
  free_is k q le =
      let double : 2 ^ suc k ≡ 2 ^ k * 2 = omega arith in
      let here : q * 2 ^ k / 2 ^ k ≡ q = mul-div_cancel q (pow_pos k) in
      let around : q * 2 ^ k / 2 ^ suc k ≡ q / 2 = ap (λ n. q * 2 ^ k / n) double ∙ (sym (div-div-eq-div-mul (q * 2 ^ k) (2 ^ k) 2) ∙ ap (λ n. n / 2) here) in
      ap (λ b. b && (is_clear ok k (q * 2 ^ k / 2 ^ k) && (eqb k top || not (is_clear ok (suc k) (q * 2 ^ k / 2 ^ suc k)))))
      (and_from (leb k top) (eqb (q * 2 ^ k % 2 ^ k) 0) (le-leb k top le) (eq-eqb (q * 2 ^ k % 2 ^ k) 0 (aligned_first q k)))
      ∙ (ap (λ n. is_clear ok k n && (eqb k top || not (is_clear ok (suc k) (q * 2 ^ k / 2 ^ suc k)))) here
      ∙ ap (λ n. is_clear ok k q && (eqb k top || not (is_clear ok (suc k) n))) around)

  -- if the free blocks of order k and above are divided into blocks of order k, there are as many of these as clear blocks of
  -- order k
  pub free_clear : (d k : ℕ) → k + d ≡ top → frames_of_counts (map free (range_with_len k (suc d))) ≡ count_below (is_clear ok k) (slots * 2 ^ d)
  free_clear zero k e =
      let is : k ≡ top = omega (arith, e) in
      let n : free k ≡ count_below (λ q. free_at k (q * 2 ^ k)) (slots * 2 ^ zero) = numbered k zero e in
      let whole : count_below (λ q. free_at k (q * 2 ^ k)) (slots * 2 ^ zero) ≡ count_below (is_clear ok k) (slots * 2 ^ zero) = count_same (λ q. free_at k (q * 2 ^ k)) (is_clear ok k) (slots * 2 ^ zero)
      (λ q lt. free_is k q (omega (arith, is)) ∙ (ap (λ b. is_clear ok k q && (b || not (is_clear ok (suc k) (q / 2)))) (eq-eqb k top is) ∙ and-true (is_clear ok k q))) in
      omega (arith, n, whole)
  free_clear (suc d) k e =
      let rest : frames_of_counts (map free (range_with_len (k + 1) (suc d))) ≡ count_below (is_clear ok (k + 1)) (slots * 2 ^ d) = free_clear d (k + 1) (omega (arith, e)) in
      let next : k + 1 ≡ suc k = omega arith in
      let above : count_below (is_clear ok (k + 1)) (slots * 2 ^ d) ≡ count_below (is_clear ok (suc k)) (slots * 2 ^ d) = ap (λ j. count_below (is_clear ok j) (slots * 2 ^ d)) next in
      let power : 2 ^ suc d ≡ 2 ^ d * 2 = omega arith in
      let double : slots * 2 ^ suc d ≡ slots * 2 ^ d * 2 = ap (λ n. slots * n) power ∙ omega arith in
      let n : free k ≡ count_below (λ q. free_at k (q * 2 ^ k)) (slots * 2 ^ suc d) = numbered k (suc d) e in
      let alone : count_below (λ q. free_at k (q * 2 ^ k)) (slots * 2 ^ suc d) ≡ count_below (is_clear_alone ok k) (slots * 2 ^ suc d) = count_same (λ q. free_at k (q * 2 ^ k)) (is_clear_alone ok k) (slots * 2 ^ suc d)
      (λ q lt. free_is k q (omega (arith, e)) ∙ ap (λ b. is_clear ok k q && (b || not (is_clear ok (suc k) (q / 2)))) (ne_eqb k top (λ same. absurd (omega (arith, e, same))))) in
      let a : count_below (is_clear_alone ok k) (slots * 2 ^ suc d) ≡ count_below (is_clear_alone ok k) (slots * 2 ^ d * 2) = ap (count_below (is_clear_alone ok k)) double in
      let c : count_below (is_clear ok k) (slots * 2 ^ suc d) ≡ count_below (is_clear ok k) (slots * 2 ^ d * 2) = ap (count_below (is_clear ok k)) double in
      let half : count_below (is_clear ok k) (slots * 2 ^ d * 2) ≡ count_below (is_clear_alone ok k) (slots * 2 ^ d * 2) + 2 * count_below (is_clear ok (suc k)) (slots * 2 ^ d) = clear_halves ok k (slots * 2 ^ d) in
      omega (arith, rest, above, n, alone, a, c, half)

-- Held frames, taken frames and available frames

-- the blocks of an ascending list of slots share no frame
slots_apart : (order n : ℕ) (us : List ℕ) → RisesFrom n us → AreApart (map (slot_block order) us)
slots_apart order n [] r = tt
slots_apart order n (u ∷ us) (l, r) = (
  each_map (IsApart (slot_block order u)) (slot_block order) us (each_from (λ v. IsApart (slot_block order u) (slot_block order v)) us
      (λ v i x has other. let above : u + 1 ≤ v = each_above (u + 1) us r v i in
      let le : (u + 1) * 2 ^ order ≤ v * 2 ^ order = mul-le-mul_right (2 ^ order) above in
      absurd (omega (arith, le, has.1, other.0)))),
  slots_apart order (u + 1) us r,
)
  where
    each_above : (n : ℕ) (vs : List ℕ) → RisesFrom n vs → (v : ℕ) → IsIn v vs → n ≤ v
    each_above n [] r v i = elim i [ ]
    each_above n (w ∷ vs) (l, r) v (inl same) = omega (arith, l, same)
    each_above n (w ∷ vs) (l, r) v (inr i) = let above : w + 1 ≤ v = each_above (w + 1) vs r v i in omega (arith, l, above)

slots_frames : (order : ℕ) (us : List ℕ) → frames_of (map (slot_block order) us) ≡ length us * 2 ^ order
slots_frames order [] = omega arith
slots_frames order (u ∷ us) = let rest : frames_of (map (slot_block order) us) ≡ length us * 2 ^ order = slots_frames order us in
    let more : (length us + 1) * 2 ^ order ≡ length us * 2 ^ order + 2 ^ order = omega arith in omega (arith, rest, more)

module _ {limit : ℕ} (order : ℕ) (m : Machine) (w : IsWellFormed limit order m) where
  abbrev bound : ℕ
  bound = beyond m.slots * 2 ^ order

  abbrev available : ℕ → Bool
  available = is_available order (holds m) (taken_in m)

  abbrev is_held : ℕ → Bool
  is_held = in_any (map (slot_block order) m.slots)

  abbrev is_used : ℕ → Bool
  is_used = in_any (model.taken_blocks m)

  slot_below : (x : ℕ) → holds m (x / 2 ^ order) ≡ true → x < bound
  slot_below x e =
      let u : x / 2 ^ order < beyond m.slots = chosen.held_below m.slots (x / 2 ^ order) e in
      let next : x / 2 ^ order + 1 ≤ beyond m.slots = omega (arith, u) in
      let le : (x / 2 ^ order + 1) * 2 ^ order ≤ bound = mul-le-mul_right (2 ^ order) next in
      let lt : x < x / 2 ^ order * 2 ^ order + 2 ^ order = lt-div-mul-add (pow_pos order) in
      omega (arith, le, lt)

  held_is : (x : ℕ) → holds m (x / 2 ^ order) ≡ is_held x
  held_is x = same_bool (holds m (x / 2 ^ order)) (is_held x)
      (λ e. let u : (v : ℕ) × IsIn v m.slots × (eqb v (x / 2 ^ order) ≡ true) = some_any (λ v. eqb v (x / 2 ^ order)) m.slots e in
      let same : u.0 ≡ x / 2 ^ order = eqb-true u.0 (x / 2 ^ order) u.2 in
      let low : x / 2 ^ order * 2 ^ order ≤ x = div-mul-le_self x (2 ^ order) in
      let high : x < x / 2 ^ order * 2 ^ order + 2 ^ order = lt-div-mul-add (pow_pos order) in
      any_in (λ b. in_frames b x) (slot_block order u.0) (map (slot_block order) m.slots) (in_map (slot_block order) u.0 m.slots u.1)
      (subst (λ v. in_frames (slot_block order v) x ≡ true) (sym same) (in_frame (slot_block order (x / 2 ^ order)) x (low, high))))
      (λ e. let b : (b : Block) × IsIn b (map (slot_block order) m.slots) × (in_frames b x ≡ true) = some_any (λ b. in_frames b x) (map (slot_block order) m.slots) e in
      let u : (v : ℕ) × IsIn v m.slots × (slot_block order v ≡ b.0) = map_in (slot_block order) b.0 m.slots b.1 in
      let has : HasFrame (slot_block order u.0) x = frame_in (slot_block order u.0) x (ap (λ c. in_frames c x) u.2 ∙ b.2) in
      any_in (λ v. eqb v (x / 2 ^ order)) u.0 m.slots u.1 (eq-eqb u.0 (x / 2 ^ order) (sym (frame_slot order x (slot_block order u.0) (omega arith, aligned_first u.0 order) has ∙ mul-div_cancel u.0 (pow_pos order)))))

  placed_in : (b : Block) → IsIn b (model.taken_blocks m) → IsPlaced order m b
  placed_in b i = each_in (IsPlaced order m) b (model.taken_blocks m) w.placed i

  used_is : (x : ℕ) → is_taken (taken_in m) x ≡ is_used x
  used_is x = same_bool (is_taken (taken_in m) x) (is_used x)
      (λ e. let t : IsTaken (taken_in m) x = taken_tells (taken_in m) x e in
      any_in (λ b. in_frames b x) (block t.0 t.1) (model.taken_blocks m) (order_in_is (model.taken_blocks m) t.0 t.1 t.2) (in_frame (block t.0 t.1) x t.3))
      (λ e. let b : (b : Block) × IsIn b (model.taken_blocks m) × (in_frames b x ≡ true) = some_any (λ b. in_frames b x) (model.taken_blocks m) e in
      taken_is (taken_in m) x (b.0.first, b.0.order, chosen.order_in_listed (model.taken_blocks m) b.0 w.apart b.1, frame_in b.0 x b.2))

  used_held : (x : ℕ) → is_used x ≡ true → is_held x ≡ true
  used_held x e = let b : (b : Block) × IsIn b (model.taken_blocks m) × (in_frames b x ≡ true) = some_any (λ b. in_frames b x) (model.taken_blocks m) e in
      let p : IsPlaced order m b.0 = placed_in b.0 b.1 in
      sym (held_is x) ∙ (ap (holds m) (frame_slot order x b.0 p.0 (frame_in b.0 x b.2)) ∙ p.1)

  -- a taken block ends at `bound` or below
  used_below : (b : Block) → IsIn b (model.taken_blocks m) → b.first + 2 ^ b.order ≤ bound
  used_below b i = let p : IsPlaced order m b = placed_in b i in
      let last : ℕ = b.first + (2 ^ b.order - 1) in
      let pos : 1 ≤ 2 ^ b.order = pow_pos b.order in
      let has : HasFrame b last = (omega arith, omega (arith, pos)) in
      let lt : last < bound = slot_below last (ap (holds m) (frame_slot order last b p.0 has) ∙ p.1) in
      omega (arith, lt, pos)

  slots_below : (u : ℕ) → IsIn u m.slots → u * 2 ^ order + 2 ^ order ≤ bound
  slots_below u i = let lt : u < beyond m.slots = chosen.held_below m.slots u (any_in (λ v. eqb v u) u m.slots i (eq-eqb u u refl)) in
      let next : u + 1 ≤ beyond m.slots = omega (arith, lt) in
      let le : (u + 1) * 2 ^ order ≤ bound = mul-le-mul_right (2 ^ order) next in omega (arith, le)

  -- the number of available frames plus the number of taken frames is the number of held frames
  pub available_count : count_below available bound + frames_taken m ≡ frames_held order m
  available_count =
      let h : count_below is_held bound ≡ frames_of (map (slot_block order) m.slots) = count_blocks (map (slot_block order) m.slots) bound (slots_apart order 0 m.slots w.slots_rise)
      (each_map (λ b. b.first + 2 ^ b.order ≤ bound) (slot_block order) m.slots (each_from (λ u. u * 2 ^ order + 2 ^ order ≤ bound) m.slots slots_below)) in
      let t : count_below is_used bound ≡ frames_of (model.taken_blocks m) = count_blocks (model.taken_blocks m) bound w.apart (each_from (λ b. b.first + 2 ^ b.order ≤ bound) (model.taken_blocks m) used_below) in
      let a : count_below available bound ≡ count_below (λ x. is_held x && not (is_used x)) bound = count_same available (λ x. is_held x && not (is_used x)) bound
      (λ x lt. ap (λ b. b && not (is_taken (taken_in m) x)) (held_is x) ∙ ap (λ b. is_held x && not b) (used_is x)) in
      let less : count_below is_held bound ≡ count_below is_used bound + count_below (λ x. is_held x && not (is_used x)) bound = count_less is_held is_used bound used_held in
      omega (arith, h, t, a, less, slots_frames order m.slots)

  -- if all frames of block q of order k are available, the block is seen as vacant
  clear_vacant : (k q : ℕ) → k ≤ order → is_clear available k q ≡ true → IsIn (block (q * 2 ^ k) k) (vacant_blocks order (holdings_of m) k)
  unfolding vacant_blocks holdings_of
  clear_vacant k q le e =
      let f : ℕ = q * 2 ^ k in
      let b : Block = block f k in
      let free_frame : (x : ℕ) → HasFrame b x → available x ≡ true = λ x has.
      clear_at available k x (ap (is_clear available k) (number_of_frame f k x (aligned_first q k) has ∙ number_first q k) ∙ e) in
      let pos : 1 ≤ 2 ^ k = pow_pos k in
      let first : HasFrame b f = (omega arith, omega (arith, pos)) in
      let on : holds m (f / 2 ^ order) ≡ true = (available_tells order (holds m) (taken_in m) f (free_frame f first)).0 in
      let u : (v : ℕ) × IsIn v m.slots × (eqb v (f / 2 ^ order) ≡ true) = some_any (λ v. eqb v (f / 2 ^ order)) m.slots on in
      let share : ℕ = 2 ^ (order - k) in
      let size : 2 ^ order ≡ 2 ^ k * share = ap (λ n. 2 ^ n) (omega (arith, le)) ∙ pow-add 2 k (order - k) in
      let slot : u.0 ≡ q / share = eqb-true u.0 (f / 2 ^ order) u.2 ∙ (ap (λ n. f / n) size ∙ (sym (div-div-eq-div-mul f (2 ^ k) share) ∙ ap (λ n. n / share) (mul-div_cancel q pos))) in
      let low : q / share * share ≤ q = div-mul-le_self q share in
      let high : q < q / share * share + share = lt-div-mul-add (pow_pos (order - k)) in
      in_filter (is_vacant (holdings_of m)) b (flat_map (blocks_of_slot order k) m.slots)
      (in_flat_map (blocks_of_slot order k) b u.0 m.slots u.1 (in_map (λ i. block (i * 2 ^ k) k) q (range_with_len (u.0 * share) share)
      (in_range q (u.0 * share) share (subst (λ v. v * share ≤ q) (sym slot) low) (subst (λ v. q < v * share + share) (sym slot) high))))
      (not_from_false (list_any (overlaps b) (known_blocks (holdings_of m))) (any_none (overlaps b) (known_blocks (holdings_of m)) (each_from (λ t. overlaps b t ≡ false) (known_blocks (holdings_of m))
      (λ t in_t. false_from_ne_true (overlaps b t) (λ o. overlap_shares b t o (λ x has other.
      (available_tells order (holds m) (taken_in m) x (free_frame x has)).1
      (t.first, t.order, chosen.order_in_listed (model.taken_blocks m) t w.apart (taken_seen order m t w in_t), other)))))))

  pub clear_fits : (k : ℕ) → k ≤ order → count_below (is_clear available k) (beyond m.slots * 2 ^ (order - k)) ≤ length (vacant_blocks order (holdings_of m) k)
  clear_fits k le =
      let fits : count_below (is_clear available k) (beyond m.slots * 2 ^ (order - k)) ≤ length (map (λ b. b.first / 2 ^ k) (vacant_blocks order (holdings_of m) k)) =
      count_listed (is_clear available k) (beyond m.slots * 2 ^ (order - k)) (map (λ b. b.first / 2 ^ k) (vacant_blocks order (holdings_of m) k))
      (λ q lt e. subst (λ n. IsIn n (map (λ b. b.first / 2 ^ k) (vacant_blocks order (holdings_of m) k))) (mul-div_cancel q (pow_pos k))
      (in_map (λ b. b.first / 2 ^ k) (block (q * 2 ^ k) k) (vacant_blocks order (holdings_of m) k) (clear_vacant k q le e))) in
      omega (arith, fits, length-map (vacant_blocks order (holdings_of m) k) (λ b. b.first / 2 ^ k))

  -- The figures of a report

  pub free_frames : frames_of_counts (map (free_count order m) (range_with_len 0 (order + 1))) ≡ frames_free order m
  free_frames =
      let all : order + 1 ≡ suc order = omega arith in
      let sum : frames_of_counts (map (free_count order m) (range_with_len 0 (suc order))) ≡ count_below available bound = free_clear order (holds m) (taken_in m) (beyond m.slots) order 0 (omega arith) in
      ap (λ n. frames_of_counts (map (free_count order m) (range_with_len 0 n))) all ∙ (sum ∙ omega (arith, available_count))

  pub free_fits : (k : ℕ) → k ≤ order → frames_of_counts (map (free_count order m) (range_with_len k (order + 1 - k))) ≤ length (vacant_blocks order (holdings_of m) k)
  free_fits k le =
      let all : order + 1 - k ≡ suc (order - k) = omega (arith, le) in
      let sum : frames_of_counts (map (free_count order m) (range_with_len k (suc (order - k)))) ≡ count_below (is_clear available k) (beyond m.slots * 2 ^ (order - k)) =
      free_clear order (holds m) (taken_in m) (beyond m.slots) (order - k) k (omega (arith, le)) in
      let same : frames_of_counts (map (free_count order m) (range_with_len k (order + 1 - k))) ≡ frames_of_counts (map (free_count order m) (range_with_len k (suc (order - k)))) = ap (λ n. frames_of_counts (map (free_count order m) (range_with_len k n))) all in
      omega (arith, same, sum, clear_fits k le)
