-- Which places lie in a slot, and which lie in a block.
use Rattle.std.proofs.Common.{◌≡◌, ℕ, ◌+◌, ◌-◌, ◌*◌, ◌/◌, ◌%◌, ◌^◌, ◌<◌, ◌≤◌, Bool, true, leb, ltb, ap, ◌∙◌, subst, arith}
use Rattle.std.specs.Prelude.{◌&&◌, nat_le, nat_lt}
use Rattle.std.proofs.lemmas.Bool.Decides.{nat_tests}
use Rattle.std.proofs.lemmas.Nat.{shr_split, pow_pos}
use Rattle.std.proofs.Math.Nat.{mod-lt, div-add-mod, div-eq_of_lt-le}
use Rattle.model_core.specs.Blocks.{Block}
use Rattle.model_core.specs.Machine.{slot_of, in_block}
use Rattle.shadow_memory.specs.Left.{slot_places}

places_apart : (u m r f q place : ℕ) → u * m + r ≡ f → r < m → 4096 * f + q ≡ place → q < 4096
    → (u * (m * 4096) ≤ place) × (place - u * (m * 4096) < m * 4096)
places_apart u m r f q place ef lr ep lq = (omega arith, omega arith)

-- a place of a slot is not below the slot's first place, and its offset from there is below the slot's number of places
pub inside_slot : (order place u : ℕ) → slot_of order place ≡ u
    → (u * slot_places order ≤ place) × (place - u * slot_places order < slot_places order)
inside_slot order place u e = subst (λ (v : ℕ). (v * slot_places order ≤ place) × (place - v * slot_places order < slot_places order)) e
    (places_apart (place / 4096 / 2 ^ order) (2 ^ order) (place / 4096 % 2 ^ order) (place / 4096) (place % 4096) place
    (shr_split (place / 4096) order) (mod-lt (place / 4096) (pow_pos order)) (div-add-mod place 4096) (omega arith))

stays_inside : (u m f r place j : ℕ) → u * (m * 4096) ≤ place → place - u * (m * 4096) + j < m * 4096 → 4096 * f + r ≡ place + j → r < 4096
    → (u * m ≤ f) × (f < (u + 1) * m)
stays_inside u m f r place j low inside is few = (omega arith, omega arith)

-- if the offset of `place` plus j is below the slot's number of places, place + j is in the same slot
pub inside_behind : (order place u j : ℕ) → slot_of order place ≡ u → place - u * slot_places order + j < slot_places order
    → slot_of order (place + j) ≡ u
inside_behind order place u j e lt =
    let at = stays_inside u (2 ^ order) ((place + j) / 4096) ((place + j) % 4096) place j (inside_slot order place u e).0 lt (div-add-mod (place + j) 4096) (omega arith) in
    div-eq_of_lt-le (2 ^ order) at.0 at.1

leb_scaled : (a p : ℕ) → leb (4096 * a) p ≡ leb a (p / 4096)
leb_scaled a p = grind (arith, nat_tests)

ltb_scaled : (c p : ℕ) → ltb p (4096 * c) ≡ ltb (p / 4096) c
ltb_scaled c p = grind (arith, nat_tests)

-- a place lies in a block exactly if it is at or after the block's first place and before the block's end
pub in_frames : (b : Block) (place : ℕ) → (nat_le (4096 * b.first) place && nat_lt place (4096 * (b.first + 2 ^ b.order))) ≡ in_block place b
in_frames b place = ap (λ (t : Bool). t && ltb place (4096 * (b.first + 2 ^ b.order))) (leb_scaled b.first place)
    ∙ ap (λ (t : Bool). leb b.first (place / 4096) && t) (ltb_scaled (b.first + 2 ^ b.order) place)

-- every place below 2 ^ 32 lies in the range from 0 to 2 ^ 32
pub in_all : (place : ℕ) → place < 2 ^ 32 → (nat_le 0 place && nat_lt place (2 ^ 32)) ≡ true
in_all place lt = grind (arith, nat_tests)
