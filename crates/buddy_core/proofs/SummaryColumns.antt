-- The columns of a summary's words: each has the words of one set.
use Rattle.std.proofs.Common.{◌≡◌, inl, inr, sym, ◌∙◌, ap, ℕ, ◌+◌, ◌*◌, ◌/◌, ◌<◌, List, length, get_or, set, length-set, replicate, arith}
use Rattle.std.proofs.lemmas.Bool.{cases_eq}
use Rattle.std.proofs.lemmas.List.{get_or-set_same, get_or-set_other, get_or-replicate, length-replicate, same_lists}
use Rattle.std.proofs.lemmas.List.FromFn.{get_or-map-range_with_len, length-map-range_with_len}
use Rattle.buddy_core.specs.SummaryWords.{column}

pub column_size : (words : List ℕ) (j : ℕ) → length (column words j) ≡ length words / 16
column_size words j = length-map-range_with_len (λ g. get_or words (g * 16 + j) 0) 0 (length words / 16)

pub column_at : (words : List ℕ) (j g d : ℕ) → g < length words / 16 → get_or (column words j) g d ≡ get_or words (g * 16 + j) 0
column_at words j g d lt = get_or-map-range_with_len (λ h. get_or words (h * 16 + j) 0) 0 (length words / 16) g g d lt (omega arith)

-- one word changes
module _ (words : List ℕ) (g j v : ℕ) (listed : g < length words / 16) (j_lt : j < 16) where
  sizes : (i : ℕ) → length (column (set words (g * 16 + j) v) i) ≡ length words / 16
  sizes i = column_size (set words (g * 16 + j) v) i ∙ ap (λ n. n / 16) (length-set words (g * 16 + j) v)

  now_at : (i k d : ℕ) → k < length words / 16 → get_or (column (set words (g * 16 + j) v) i) k d ≡ get_or (set words (g * 16 + j) v) (k * 16 + i) 0
  now_at i k d lt = column_at (set words (g * 16 + j) v) i k d (omega (arith, length-set words (g * 16 + j) v, lt))

  pub column_set : column (set words (g * 16 + j) v) j ≡ set (column words j) g v
  column_set =
      same_lists (column (set words (g * 16 + j) v) j) (set (column words j) g v) (sizes j ∙ sym (length-set (column words j) g v ∙ column_size words j)) (λ k d lt.
      let k_lt : k < length words / 16 = omega (arith, sizes j, lt) in
      now_at j k d k_lt
      ∙ elim (cases_eq k g) [
        | inl e ↦
            ap (λ n. get_or (set words (g * 16 + j) v) (n * 16 + j) 0) e
            ∙ get_or-set_same words (g * 16 + j) v 0 (omega (arith, listed, j_lt))
            ∙ sym (ap (λ n. get_or (set (column words j) g v) n d) e ∙ get_or-set_same (column words j) g v d (omega (arith, column_size words j, listed)))
        | inr ne ↦
            get_or-set_other words (g * 16 + j) (k * 16 + j) v 0 (λ e. ne (omega arith))
            ∙ sym (get_or-set_other (column words j) g k v d ne ∙ column_at words j k d k_lt)
      ])

  pub column_other : (i : ℕ) → i < 16 → (i ≡ j → ⊥) → column (set words (g * 16 + j) v) i ≡ column words i
  column_other i i_lt ne =
      same_lists (column (set words (g * 16 + j) v) i) (column words i) (sizes i ∙ sym (column_size words i)) (λ k d lt.
      let k_lt : k < length words / 16 = omega (arith, sizes i, lt) in
      now_at i k d k_lt
      ∙ get_or-set_other words (g * 16 + j) (k * 16 + i) v 0 (λ e. ne (omega (arith, i_lt, j_lt)))
      ∙ sym (column_at words i k d k_lt))

-- the columns of words that are all 0
pub column_zero : (rows j : ℕ) → j < 16 → column (replicate (rows * 16) 0) j ≡ replicate rows 0
column_zero rows j j_lt =
    same_lists (column (replicate (rows * 16) 0) j) (replicate rows 0) (column_size (replicate (rows * 16) 0) j ∙ size ∙ sym (length-replicate {A = ℕ} rows 0)) (λ k d lt.
    let k_lt : k < rows = omega (arith, column_size (replicate (rows * 16) 0) j, size, lt) in
    column_at (replicate (rows * 16) 0) j k d (omega (arith, size, k_lt))
    ∙ get_or-replicate {A = ℕ} (rows * 16) (k * 16 + j) 0 0 (omega (arith, k_lt, j_lt))
    ∙ sym (get_or-replicate {A = ℕ} rows k 0 d k_lt))
  where
    size : length (replicate {A = ℕ} (rows * 16) 0) / 16 ≡ rows
    size = let all = length-replicate {A = ℕ} (rows * 16) 0 in omega (arith, all)
