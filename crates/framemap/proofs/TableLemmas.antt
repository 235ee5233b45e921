-- The joined texts of the numbers in a range, the text of a row, joined from its parts, and the rows of columns.
use Rattle.std.proofs.Common.{◌≡◌, ℕ, zero, suc, ◌+◌, ◌-◌, ◌≤◌, List, [], ◌∷◌, ◌++◌, codes, flat_map, take, slice_get, Some, ap, sym, ◌∙◌, append_assoc, append-nil, arith}
use Rattle.std.specs.Fmt.{decimal}
use Rattle.std.specs.List.{concat, range_with_len}
use Rattle.frame_picture.specs.declared.history.Figures.{Figures}
use Rattle.frame_picture.specs.declared.history.Column.{Column}
use Rattle.framemap.specs.declared.peaks.Peaks.{Peaks}
use Rattle.framemap.specs.Tables.{column_rows, figures_row, free_cell, rows_of_columns}

each_more : (f : ℕ → List ℕ) (a n : ℕ) → flat_map f (range_with_len a (suc n)) ≡ flat_map f (range_with_len a n) ++ f (a + n)
each_more f a zero = append-nil (f a) ∙ ap f (let e : a ≡ a + 0 = omega arith in e)
each_more f a (suc n) =
    ap (λ t. f a ++ t) (each_more f (a + 1) n)
    ∙ sym (append_assoc (f a) (flat_map f (range_with_len (a + 1) n)) (f (a + 1 + n)))
    ∙ ap (λ k. (f a ++ flat_map f (range_with_len (a + 1) n)) ++ f k) (let e : a + 1 + n ≡ a + suc n = omega arith in e)

-- the joined texts of the numbers from `first` to t are the joined texts from `first` to t - 1, followed by the text of t
pub range_more : (f : ℕ → List ℕ) (first t : ℕ) → first ≤ t
    → flat_map f (range_with_len first (t + 1 - first)) ≡ flat_map f (range_with_len first (t - first)) ++ f t
range_more f first t from =
    ap (λ n. flat_map f (range_with_len first n)) (let e : t + 1 - first ≡ suc (t - first) = omega (arith, from) in e)
    ∙ each_more f first (t - first)
    ∙ ap (λ k. flat_map f (range_with_len first (t - first)) ++ f k) (let e : first + (t - first) ≡ t = omega (arith, from) in e)

-- thirteen joined texts are the concatenation of their list
thirteen : (a b c d e f g h i j k l m : List ℕ)
    → ((a ++ (b ++ (c ++ (d ++ (e ++ (f ++ (g ++ (h ++ (i ++ (j ++ k)))))))))) ++ l) ++ m
    ≡ concat (a ∷ b ∷ c ∷ d ∷ e ∷ f ∷ g ∷ h ∷ i ∷ j ∷ k ∷ l ∷ m ∷ [])
thirteen a b c d e f g h i j k l m = simp (append_assoc, append-nil)

-- these parts, joined, are the row of a tenant
pub row_is : (orders line t most refused refused' : ℕ) (figures figures' : Figures) → figures ≡ figures' → refused ≡ refused'
    → ((decimal line ++ (codes "," ++ (decimal t ++ (codes "," ++ (decimal figures.held ++ (codes "," ++ (decimal figures.taken
    ++ (codes "," ++ (decimal most ++ (codes "," ++ decimal refused)))))))))) ++ flat_map free_cell (take orders figures.free)) ++ codes "\n"
    ≡ figures_row orders line t figures' most refused'
unfolding figures_row
row_is orders line t most refused refused' figures figures' is_figures is_refused =
    thirteen (decimal line) (codes ",") (decimal t) (codes ",") (decimal figures.held) (codes ",") (decimal figures.taken) (codes ",")
    (decimal most) (codes ",") (decimal refused) (flat_map free_cell (take orders figures.free)) (codes "\n")
    ∙ ap (λ f. figures_row orders line t f most refused) is_figures ∙ ap (λ n. figures_row orders line t figures' most n) is_refused

-- the rows of one more column
pub rows_more : (orders : ℕ) (peaks : Peaks) (first end at k : ℕ) (columns : List Column) (column : Column) → slice_get columns k ≡ Some column
    → rows_of_columns orders peaks first end at (take (suc k) columns)
    ≡ rows_of_columns orders peaks first end at (take k columns) ++ column_rows orders peaks first end (at + k) column
rows_more orders peaks first end at k [] column there = absurd (cc)
rows_more orders peaks first end at zero (x ∷ columns) column there =
    let same : x ≡ column = cc in
    append-nil (column_rows orders peaks first end at x) ∙ ap (λ c. column_rows orders peaks first end at c) same
    ∙ ap (λ n. column_rows orders peaks first end n column) (let e : at ≡ at + 0 = omega arith in e)
rows_more orders peaks first end at (suc k) (x ∷ columns) column there =
    ap (λ t. column_rows orders peaks first end at x ++ t) (rows_more orders peaks first end (at + 1) k columns column there)
    ∙ sym (append_assoc (column_rows orders peaks first end at x) (rows_of_columns orders peaks first end (at + 1) (take k columns)) _)
    ∙ ap (λ n. (column_rows orders peaks first end at x ++ rows_of_columns orders peaks first end (at + 1) (take k columns))
    ++ column_rows orders peaks first end n column) (let e : at + 1 + k ≡ at + suc k = omega arith in e)
