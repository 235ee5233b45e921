-- What each flag of a list of flags is, and how many flags are set.
use Rattle.std.proofs.Common.{◌≡◌, ℕ, zero, suc, ◌+◌, ◌<◌, ◌≤◌, Bool, true, false, not, cond, List, [], ◌∷◌, length, get_or, refl, sym, ap, ◌∙◌, ⊎_elim, arith}
use Rattle.std.specs.Prelude.{◌==◌}
use Rattle.std.specs.List.{list_any, list_all}
use Rattle.std.proofs.lemmas.Bool.{eq-eqb, ne_eqb, cases_eq}
use Rattle.machine_changes.specs.Records.{flags_from, flags, count_true}

pub length_flags : (k n : ℕ) (p : ℕ → Bool) → length (flags_from k n p) ≡ n
length_flags k zero p = refl
length_flags k (suc n) p = ap suc (length_flags (suc k) n p)

pub flags_at : (k n i : ℕ) (p : ℕ → Bool) (d : Bool) → i < n → get_or (flags_from k n p) i d ≡ p (k + i)
flags_at k zero i p d less = absurd (omega arith)
flags_at k (suc n) zero p d less = ap p (omega arith)
flags_at k (suc n) (suc i) p d less = flags_at (suc k) n i p d (omega arith) ∙ ap p (omega arith)

-- flag i is the result of the test for i
pub flag_at : (n i : ℕ) (p : ℕ → Bool) (d : Bool) → i < n → get_or (flags n p) i d ≡ p i
flag_at n i p d less = flags_at 0 n i p d less ∙ ap p (omega arith)

pub count_few : (live : List Bool) → count_true live ≤ length live
count_few [] = omega arith
count_few (b ∷ bs) = go b (count_few bs)
  where
    go : (v : Bool) → count_true bs ≤ length bs → cond v 1 0 + count_true bs ≤ suc (length bs)
    go true more = omega arith
    go false more = omega arith

same_next : (n k : ℕ) → (n == k) ≡ ((1 + n) == suc k)
same_next n k =
    ⊎_elim
    (λ e. eq-eqb n k e ∙ sym (eq-eqb (1 + n) (suc k) (omega arith)))
    (λ differ. ne_eqb n k differ ∙ sym (ne_eqb (1 + n) (suc k) (λ e. differ (omega arith))))
    (cases_eq n k)

-- no flag is set if and only if the count is 0
pub any_counts : (live : List Bool) → not (list_any (λ b. b) live) ≡ (count_true live == 0)
any_counts [] = refl
any_counts (true ∷ bs) = sym (ne_eqb (1 + count_true bs) 0 (λ e. absurd (omega arith)))
any_counts (false ∷ bs) = any_counts bs ∙ ap (λ n. n == 0) (omega arith)

-- all flags are set if and only if the count is the number of flags
pub all_counts : (live : List Bool) → list_all (λ b. b) live ≡ (count_true live == length live)
all_counts [] = refl
all_counts (true ∷ bs) = all_counts bs ∙ same_next (count_true bs) (length bs)
all_counts (false ∷ bs) = let few = count_few bs in sym (ne_eqb (0 + count_true bs) (suc (length bs)) (λ e. absurd (omega arith)))
