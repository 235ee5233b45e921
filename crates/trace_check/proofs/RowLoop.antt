-- Reading rows one at a time.
use Rattle.std.proofs.Common.{◌≡◌, ℕ, suc, ◌+◌, List, [], ◌∷◌, ◌++◌, Option, Some, None, sym, ◌∙◌, ap, append-nil, append_assoc}
use Rattle.trace_check.specs.Forms.{◌>>=◌}
use Rattle.trace_check.specs.Tables.{after_front, then_rows, rows_from}

abbrev paired : {A : Type 0} → List A → List ℕ → List A × List ℕ
paired rows text = (rows, text)

-- the rows and the text that were found, with `rows` put in front of the rows found
abbrev pub with_rows : {A : Type 0} → List A → List A × List ℕ → List A × List ℕ
with_rows rows found = (rows ++ found.0, found.1)

module _ {A : Type 0} (row_at : ℕ → List ℕ → Option (A × List ℕ)) (front : List ℕ) where
  so_far_is : (most left index : ℕ) (rows : List A) (text : List ℕ) (found : Option (A × List ℕ)) (total : List A × List ℕ)
      → most ≡ suc left → (after_front front text >>= row_at index) ≡ found → with_rows rows (rows_from row_at front most index text) ≡ total
      → with_rows rows (then_rows found text (λ rest. rows_from row_at front left (index + 1) rest)) ≡ total
  unfolding rows_from
  so_far_is most left index rows text found total most_is is so_far =
      sym (ap (λ found. with_rows rows (then_rows found text (λ rest. rows_from row_at front left (index + 1) rest))) is)
      ∙ sym (ap (λ most. with_rows rows (rows_from row_at front most index text)) most_is)
      ∙ so_far

  pub rows_go_on : (most left index : ℕ) (rows : List A) (row : A) (text rest : List ℕ) (total : List A × List ℕ) → most ≡ suc left
      → (after_front front text >>= row_at index) ≡ Some (row, rest) → with_rows rows (rows_from row_at front most index text) ≡ total
      → with_rows (rows ++ row ∷ []) (rows_from row_at front left (index + 1) rest) ≡ total
  rows_go_on most left index rows row text rest total most_is found so_far =
      let more = rows_from row_at front left (index + 1) rest in
      ap (λ all. paired all more.1) (append_assoc rows (row ∷ []) more.0)
      ∙ so_far_is most left index rows text (Some (row, rest)) total most_is found so_far

  pub rows_end : (most left index : ℕ) (rows : List A) (text : List ℕ) (total : List A × List ℕ) → most ≡ suc left
      → (after_front front text >>= row_at index) ≡ None → with_rows rows (rows_from row_at front most index text) ≡ total → total ≡ (rows, text)
  rows_end most left index rows text total most_is none so_far =
      sym (so_far_is most left index rows text None total most_is none so_far) ∙ ap (λ all. paired all text) (append-nil rows)

  pub rows_done : (most index : ℕ) (rows : List A) (text : List ℕ) (total : List A × List ℕ) → most ≡ 0
      → with_rows rows (rows_from row_at front most index text) ≡ total → total ≡ (rows, text)
  unfolding rows_from
  rows_done most index rows text total most_is so_far =
      sym so_far
      ∙ ap (λ most. with_rows rows (rows_from row_at front most index text)) most_is
      ∙ ap (λ all. paired all text) (append-nil rows)
