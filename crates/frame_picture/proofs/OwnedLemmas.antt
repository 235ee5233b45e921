-- A search for a tenant's sheets reaches the next sheet: the sheet is listed, or it has no frame of the tenant.
use Rattle.std.proofs.Common.{◌≡◌, ◌≢◌, ℕ, ◌+◌, ◌^◌, ◌<◌, ◌≤◌, ◌==◌, min, List, [], ◌∷◌, ◌++◌, Some, length, take, count_by, get_or, set, slice_get, slice_index, ap, sym, subst, ◌∙◌, refl, ◌⊎◌, inl, inr, append_assoc, arith, length-append}
use Rattle.std.proofs.lemmas.List.Sums.{sum_by-append, count_by-le-length}
use Rattle.std.proofs.Math.ListN.{length-set}
use Rattle.std.proofs.lemmas.List.{take_more, take-set, get_or-set_same, get_or-set_other, append-nil}
use Rattle.std.proofs.lemmas.Option.{slice_get-get_or}
use Rattle.std.proofs.lemmas.Bool.{cases_order}
use Rattle.kernel_core.specs.declared.frames.FrameKind.{FrameKind}
use Rattle.frame_picture.specs.declared.history.Sheet.{Sheet}
use Rattle.frame_picture.specs.Kinds.{rank_of}
use Rattle.frame_picture.specs.Rows.{cells_in, row_cells}
use Rattle.frame_picture.specs.Owned.{cells_of, listed_cells}
use Rattle.frame_picture.proofs.RowLemmas.{row_cells_more}

pub listed_cells-append : (order t first end : ℕ) (sheets : List Sheet) (xs ys : List ℕ)
    → listed_cells order t first end sheets (xs ++ ys) ≡ listed_cells order t first end sheets xs ++ listed_cells order t first end sheets ys
listed_cells-append order t first end sheets [] ys = refl
listed_cells-append order t first end sheets (x ∷ xs) ys =
    ap (λ cells. cells_of order t first end (slice_get sheets x) ++ cells) (listed_cells-append order t first end sheets xs ys)
    ∙ sym (append_assoc (cells_of order t first end (slice_get sheets x)) _ _)

-- if one more sheet is listed, its cells follow the cells of the sheets that were listed before
pub listed_more : (order t first end : ℕ) (sheets : List Sheet) (listed : List ℕ) (j : ℕ) (sheet : Sheet) → j < length listed
    → slice_index listed j < length sheets → sheet ≡ get_or sheets (slice_index listed j) sheet
    → listed_cells order t first end sheets (take (j + 1) listed) ≡ listed_cells order t first end sheets (take j listed) ++ cells_in order t first end sheet
listed_more order t first end sheets listed j sheet within there is =
    ap (listed_cells order t first end sheets) (take_more listed j 0 within)
    ∙ listed_cells-append order t first end sheets (take j listed) (slice_index listed j ∷ [])
    ∙ ap (λ cells. listed_cells order t first end sheets (take j listed) ++ cells)
    (append-nil _ ∙ ap (cells_of order t first end) (slice_get-get_or sheets (slice_index listed j) sheet there ∙ ap Some (sym is)))

-- if the old counts are the counts of the cells `before`, and the cells `here` of one more sheet are counted too, the new counts
-- are the counts of both together
pub counts_more : (before here after : List FrameKind) (old new : List ℕ) → after ≡ before ++ here
    → ((k : ℕ) → k < 6 → length before < 2 ^ 64 → get_or old k 0 ≡ count_by (λ cell. rank_of cell == k) before)
    → ((k : ℕ) → k < 6 → get_or old k 0 + length here < 2 ^ 64 → get_or new k 0 ≡ get_or old k 0 + count_by (λ cell. rank_of cell == k) here)
    → (k : ℕ) → k < 6 → length after < 2 ^ 64 → get_or new k 0 ≡ count_by (λ cell. rank_of cell == k) after
counts_more before here after old new more was counted k less fits =
    let test = λ (cell : FrameKind). rank_of cell == k in
    let long : length after ≡ length before + length here = ap length more ∙ length-append before here in
    let is : get_or old k 0 ≡ count_by test before = was k less (omega (arith, fits, long)) in
    let few : count_by test before ≤ length before = count_by-le-length test before in
    counted k less (omega (arith, fits, long, is, few)) ∙ ap (λ n. n + count_by test here) is ∙ sym (ap (count_by test) more ∙ sum_by-append _ before here)

-- if the old total is the number of the cells `before`, and the number of the cells `here` of one more sheet is added, the new
-- total is the number of both together
pub shown_more : (before here after : List FrameKind) (old new : ℕ) → after ≡ before ++ here → (length before < 2 ^ 64 → old ≡ length before)
    → new ≡ min (old + length here) 18446744073709551615 → length after < 2 ^ 64 → new ≡ length after
shown_more before here after old new more was is fits =
    let long : length after ≡ length before + length here = ap length more ∙ length-append before here in
    let before_is : old ≡ length before = was (omega (arith, fits, long)) in
    omega (arith, is, before_is, long, fits)

-- a sheet without frames of the tenant adds no cells to a row
pub passed_more : (order t first end : ℕ) (sheets : List Sheet) (i : ℕ) (sheet : Sheet) → i < length sheets → sheet ≡ get_or sheets i sheet
    → cells_in order t first end sheet ≡ [] → row_cells order t first end (take (i + 1) sheets) ≡ row_cells order t first end (take i sheets)
passed_more order t first end sheets i sheet within is none =
    row_cells_more order t first end sheets i sheet within is ∙ ap (λ cells. row_cells order t first end (take i sheets) ++ cells) none ∙ append-nil _

-- if the index of a sheet is stored behind the listed ones, the sheet's cells follow the cells of the listed sheets
pub listed_set : (order t first end : ℕ) (sheets : List Sheet) (listed : List ℕ) (len i : ℕ) (sheet : Sheet) → len < length listed
    → i < length sheets → sheet ≡ get_or sheets i sheet
    → listed_cells order t first end sheets (take (len + 1) (set listed len i)) ≡ listed_cells order t first end sheets (take len listed) ++ cells_in order t first end sheet
listed_set order t first end sheets listed len i sheet within there is =
    let same : slice_index (set listed len i) len ≡ i = get_or-set_same listed len i 0 within in
    listed_more order t first end sheets (set listed len i) len sheet (omega (arith, length-set {A = ℕ} listed len i, within))
    (subst (λ (n : ℕ). n < length sheets) (sym same) there) (is ∙ ap (λ (n : ℕ). get_or sheets n sheet) (sym same))
    ∙ ap (λ (xs : List ℕ). listed_cells order t first end sheets xs ++ cells_in order t first end sheet) (take-set listed len i)

-- if all listed indices are below `most`, and an index below `most` is stored behind them, all listed indices are below `most`
pub listed_inside : (listed : List ℕ) (len i most : ℕ) → len < length listed → i < most → ((j : ℕ) → j < len → slice_index listed j < most)
    → (j : ℕ) → j < len + 1 → slice_index (set listed len i) j < most
listed_inside listed len i most within less before j below = go (cases_order j len)
  where
    go : (j ≡ len) ⊎ ((j < len) ⊎ (len < j)) → slice_index (set listed len i) j < most
    go (inl e) = subst (λ (n : ℕ). n < most) (sym (ap (λ n. slice_index (set listed len i) n) e ∙ get_or-set_same listed len i 0 within)) less
    go (inr (inl under)) =
        let other : j ≢ len = omega arith in
        subst (λ (n : ℕ). n < most) (sym (get_or-set_other listed len j i 0 other)) (before j under)
    go (inr (inr above)) = absurd (omega arith)
