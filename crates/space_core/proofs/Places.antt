-- The offsets of places in one slot, and the bytes of a list after a write into it.
use Rattle.std.proofs.Common.{◌≡◌, ℕ, ◌+◌, ◌-◌, ◌*◌, ◌/◌, ◌%◌, ◌<◌, ◌≤◌, List, ◌++◌, length, get_or, take, drop, slice_range, ◌∙◌, ap, refl, arith}
use Rattle.std.proofs.lemmas.List.{get_or-take, get_or-drop, get_or_append_left, get_or-append_right, length-take-le}
use Rattle.std.proofs.lemmas.Nat.{same_from_place}
use Rattle.std.proofs.Math.Nat.{div-add-mod}
use Rattle.space_core.specs.Windows.{put_within}

-- if the offset of `place` plus i is below the unit, place + i is in the same slot as `place`, at this offset
pub place-add : (unit place i : ℕ) → 0 < unit → place % unit + i < unit → ((place + i) / unit ≡ place / unit) × ((place + i) % unit ≡ place % unit + i)
place-add unit place i some within =
    same_from_place ((place + i) / unit) ((place + i) % unit) (place / unit) (place % unit + i) unit (omega arith) within (omega (arith, div-add-mod (place + i) unit, div-add-mod place unit))

-- two places of one slot are as far apart as their offsets
pub same_slot : (unit place p : ℕ) → 0 < unit → p / unit ≡ place / unit → p + place % unit ≡ place + p % unit
same_slot unit place p some same = omega (arith, div-add-mod p unit, div-add-mod place unit, ap (λ q. unit * q) same)

pub get_or-slice_range : (xs : List ℕ) (from len i : ℕ) → i < len → get_or (slice_range xs from (from + len)) i 0 ≡ get_or xs (from + i) 0
get_or-slice_range xs from len i lt = get_or-take (from + len - from) (drop from xs) i 0 (omega arith) ∙ get_or-drop from xs i 0

pub put_within-before : (xs : List ℕ) (i : ℕ) (w : List ℕ) (k : ℕ) → i ≤ length xs → k < i → get_or (put_within xs i w) k 0 ≡ get_or xs k 0
put_within-before xs i w k le lt =
    let rest = w ++ drop (i + length w) xs in
    get_or-take (length xs) (take i xs ++ rest) k 0 (omega arith) ∙ (get_or_append_left (take i xs) rest 0 k (omega (arith, length-take-le i xs)) ∙ get_or-take i xs k 0 lt)

pub put_within-at : (xs : List ℕ) (i : ℕ) (w : List ℕ) (k : ℕ) → i + length w ≤ length xs → i ≤ k → k < i + length w → get_or (put_within xs i w) k 0 ≡ get_or w (k - i) 0
put_within-at xs i w k le from lt =
    let rest = w ++ drop (i + length w) xs in
    get_or-take (length xs) (take i xs ++ rest) k 0 (omega arith) ∙ (get_or-append_right (take i xs) rest i k 0 (length-take-le i xs (omega arith)) from ∙ get_or_append_left w (drop (i + length w) xs) 0 (k - i) (omega arith))

pub put_within-after : (xs : List ℕ) (i : ℕ) (w : List ℕ) (k : ℕ) → i + length w ≤ k → k < length xs → get_or (put_within xs i w) k 0 ≡ get_or xs k 0
put_within-after xs i w k from lt =
    let rest = w ++ drop (i + length w) xs in
    get_or-take (length xs) (take i xs ++ rest) k 0 lt ∙ (get_or-append_right (take i xs) rest i k 0 (length-take-le i xs (omega arith)) (omega arith) ∙ (get_or-append_right w (drop (i + length w) xs) (length w) (k - i) 0 refl (omega arith) ∙ (get_or-drop (i + length w) xs (k - i - length w) 0 ∙ ap (λ n. get_or xs n 0) (omega arith))))
