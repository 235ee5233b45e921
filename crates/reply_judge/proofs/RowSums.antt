-- Sums over the rows of a report, one row at a time.
use Rattle.std.proofs.Common.{◌≡◌, ℕ, suc, ◌+◌, ◌*◌, ◌^◌, ◌<◌, ◌≤◌, List, take, drop, get_or, length, ap, sym, ◌∙◌, min, arith}
use Rattle.std.proofs.Math.Nat.{pow-succ', mul_assoc, mul_comm, mul-add, mul-zero}
use Rattle.std.proofs.lemmas.List.{at_drop_more, at_drop_all, take_all}
use Rattle.std.proofs.lemmas.List.Sums.{sum_by_more}
use Rattle.std.proofs.lemmas.Slice.Zip.{length-zip, get_or-zip}
use Rattle.std.specs.List.{sum_by, zip}
use Rattle.promise_core.specs.Promises.{frames_of_counts}

double : (i : ℕ) → 2 ^ (i + 1) ≡ 2 * 2 ^ i
double i = let e : i + 1 ≡ suc i = omega arith in ap (λ n. 2 ^ n) e ∙ pow-succ' 2 i

spread : (p a b : ℕ) → p * (a + 2 * b) ≡ a * p + (2 * p) * b
spread p a b = mul-add p a (2 * b) ∙ (λ i. mul_comm p a i + (sym (mul_assoc p 2 b) ∙ ap (λ n. n * b) (mul_comm p 2)) i)

-- the frames in blocks of order i and above are the frames in blocks of order i plus the frames in blocks of order i + 1 and
-- above
pub from_order : (ns : List ℕ) (i : ℕ) → i < length ns
    → 2 ^ i * frames_of_counts (drop i ns) ≡ get_or ns i 0 * 2 ^ i + 2 ^ (i + 1) * frames_of_counts (drop (i + 1) ns)
from_order ns i lt = ap (λ n. 2 ^ i * n) (at_drop_more frames_of_counts ns i 0 lt)
    ∙ (spread (2 ^ i) (get_or ns i 0) (frames_of_counts (drop (i + 1) ns))
    ∙ ap (λ p. get_or ns i 0 * 2 ^ i + p * frames_of_counts (drop (i + 1) ns)) (sym (double i)))

-- if the list has no count for order i, the blocks of order i and above have no frames
pub no_order : (ns : List ℕ) (i : ℕ) → length ns ≤ i → 2 ^ i * frames_of_counts (drop i ns) ≡ 0
no_order ns i le = ap (λ n. 2 ^ i * n) (at_drop_all frames_of_counts ns i le) ∙ mul-zero (2 ^ i)

-- pair i, added to the sum over the pairs before it, gives the sum over the first i + 1 pairs
pub one_more_pair : {A B : Type 0} (f : A × B → ℕ) (xs : List A) (ys : List B) (i : ℕ) (a : A) (b : B) → i < length xs → i < length ys
    → a ≡ get_or xs i a → b ≡ get_or ys i b → sum_by f (take (i + 1) (zip xs ys)) ≡ sum_by f (take i (zip xs ys)) + f (a, b)
one_more_pair f xs ys i a b first second is_a is_b =
    let lt : i < length (zip xs ys) = omega (arith, length-zip xs ys) in
    sum_by_more f (zip xs ys) i (a, b) lt
    ∙ ap (λ p. sum_by f (take i (zip xs ys)) + f p) (get_or-zip xs ys i (a, b) first second ∙ sym (λ j. (is_a j, is_b j)))

-- if n is the length of the shorter list, the sum over the first n pairs is the sum over all pairs
pub all_pairs : {A B : Type 0} (f : A × B → ℕ) (xs : List A) (ys : List B) (n : ℕ) → n ≡ min (length xs) (length ys)
    → sum_by f (take n (zip xs ys)) ≡ sum_by f (zip xs ys)
all_pairs f xs ys n all = ap (sum_by f) (take_all n (zip xs ys) (omega (arith, length-zip xs ys)))
