-- Copying the rows of a report over the front of an array, one row at a time.
use Rattle.std.proofs.Common.{◌≡◌, ℕ, zero, suc, ◌<◌, ◌≤◌, List, [], ◌∷◌, ◌++◌, length, map, take, drop, slice_set, slice_index_or, refl, ap, ◌∙◌, arith}
use Rattle.std.proofs.lemmas.List.{take_all, length-map}
use Rattle.partmem_c.specs.Figures.{over}

-- If the first `at` rows are copied over the front of `before`, and then the row at index `at` is copied, the first at + 1 rows
-- are copied. The copy of a row is f of the row.
pub row_put : {A B : Type 0} (f : A → B) (rows : List A) (before : List B) (at : ℕ) (d : A) → at < length rows → length rows ≤ length before
    → slice_set (map f (take at rows) ++ drop at before) at (f (slice_index_or rows at d)) ≡ map f (take (suc at) rows) ++ drop (suc at) before
row_put f [] before at d some few = absurd (omega (arith, some))
row_put f (row ∷ rows) [] at d some few = absurd (omega (arith, few))
row_put f (row ∷ rows) (b ∷ before) zero d some few = refl
row_put f (row ∷ rows) (b ∷ before) (suc at) d some few =
    ap (λ xs. f row ∷ xs) (row_put f rows before at d (omega (arith, some)) (omega (arith, few)))

-- if `at` is the number of rows, copying the first `at` rows over the front of `before` copies all rows
pub rows_put : {A B : Type 0} (f : A → B) (rows : List A) (before : List B) (at : ℕ) → at ≤ length rows → length rows ≤ at
    → map f (take at rows) ++ drop at before ≡ over (map f rows) before
rows_put f rows before at most least =
    ap (λ xs. map f xs ++ drop at before) (take_all at rows least)
    ∙ ap (λ n. map f rows ++ drop n before) (omega (arith, most, least, length-map rows f))
