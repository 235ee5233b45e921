-- The rectangles of a tone contain all its cells, and no other cells. A rectangle ends before column c if its last column is
-- c - 1.
use Rattle.std.proofs.Common.{◌≡◌, ◌≢◌, ℕ, zero, suc, ◌+◌, ◌-◌, ◌<◌, ◌≤◌, true, false, List, [], ◌∷◌, ◌++◌, Some, Any, length, drop, take, get_or, slice_get, ap, subst, sym, ◌∙◌, refl, ◌⊎◌, inl, inr, arith, length-append}
use Rattle.std.proofs.lemmas.Bool.{cases_order, cases_Bool, cases_eq, cases_lt, cond-true, cond-false, false≢true}
use Rattle.std.proofs.lemmas.List.{get_or-drop, get_or-take, length-drop, length-take, get_or_append_left}
use Rattle.std.proofs.lemmas.List.Elements.{All-append}
use Rattle.std.proofs.lemmas.List.Quantifiers.{Any-push}
use Rattle.std.proofs.lemmas.List.Sums.{prefix_len_passes, prefix_len_stops, prefix_len-drop_yes}
use Rattle.std.proofs.lemmas.Option.{slice_get_within, get_or_from_slice_get}
use Rattle.std.specs.List.{prefix_len}
use Rattle.frame_picture.specs.declared.drawing.Tone.{Tone}
use Rattle.frame_picture.specs.declared.rectangles.Rectangle.{Rectangle}
use Rattle.frame_picture.specs.Tones.{is_tone, not_held}
use Rattle.frame_picture.specs.Rectangles.{goes_on, run_at, run_in, IsRectangle, GoesOn, AreRectangles, HasCell, CoverTone}

-- ---- the runs of one column

-- if a run begins at a row, its length is the number of consecutive rows that have the tone, counted upwards from this row
run_begins : (tone : Tone) (cells : List Tone) (row : ℕ) → 0 < run_at tone cells row
    → run_at tone cells row ≡ prefix_len (is_tone tone) (drop row cells)
run_begins tone cells row some = go (cases_Bool (goes_on tone cells row))
  where
    go : (goes_on tone cells row ≡ true) ⊎ (goes_on tone cells row ≡ false) → run_at tone cells row ≡ prefix_len (is_tone tone) (drop row cells)
    go (inl on) =
        let none : run_at tone cells row ≡ 0 = cond-true (goes_on tone cells row) 0 (prefix_len (is_tone tone) (drop row cells)) on in
        absurd (omega arith)
    go (inr off) = cond-false (goes_on tone cells row) 0 (prefix_len (is_tone tone) (drop row cells)) off

-- the cells of a run have the tone
run_has_tone : (tone : Tone) (cells : List Tone) (first row : ℕ) (cell : Tone) → first ≤ row → row < first + run_at tone cells first
    → get_or cells row cell ≡ cell → is_tone tone cell ≡ true
run_has_tone tone cells first row cell from to read =
    let is : run_at tone cells first ≡ prefix_len (is_tone tone) (drop first cells) = run_begins tone cells first (omega arith) in
    let passes : is_tone tone (get_or (drop first cells) (row - first) cell) ≡ true =
    prefix_len_passes (is_tone tone) (drop first cells) (row - first) cell (omega arith) in
    let at : first + (row - first) ≡ row = omega arith in
    let here : get_or (drop first cells) (row - first) cell ≡ cell =
    get_or-drop first cells (row - first) cell ∙ ap (λ k. get_or cells k cell) at ∙ read in
    ap (is_tone tone) (sym here) ∙ passes

-- a run begins at a cell of the tone if the cell below does not have the tone
run_starts : (tone : Tone) (cells : List Tone) (row : ℕ) → goes_on tone cells row ≡ false → row < length cells
    → is_tone tone (get_or cells row not_held) ≡ true → row < row + run_at tone cells row
run_starts tone cells row off within is =
    let run : run_at tone cells row ≡ prefix_len (is_tone tone) (drop row cells) =
    cond-false (goes_on tone cells row) 0 (prefix_len (is_tone tone) (drop row cells)) off in
    let more : prefix_len (is_tone tone) (drop row cells) ≡ 1 + prefix_len (is_tone tone) (drop (row + 1) cells) =
    prefix_len-drop_yes (is_tone tone) cells row not_held within is in
    omega arith

-- a run goes on to the next cell if that cell has the tone
run_goes_on : (tone : Tone) (cells : List Tone) (first row : ℕ) → first ≤ row → row < first + run_at tone cells first → suc row < length cells
    → is_tone tone (get_or cells (suc row) not_held) ≡ true → suc row < first + run_at tone cells first
run_goes_on tone cells first row from to within is = go (run_begins tone cells first (omega arith)) (cases_lt (suc row) (first + run_at tone cells first))
  where
    go : run_at tone cells first ≡ prefix_len (is_tone tone) (drop first cells)
        → (suc row < first + run_at tone cells first) ⊎ (first + run_at tone cells first ≤ suc row) → suc row < first + run_at tone cells first
    go run (inl less) = less
    go run (inr most) =
        let at : first + prefix_len (is_tone tone) (drop first cells) ≡ suc row = omega arith in
        let stops : is_tone tone (get_or (drop first cells) (prefix_len (is_tone tone) (drop first cells)) not_held) ≡ false =
        prefix_len_stops (is_tone tone) (drop first cells) not_held (omega (arith, length-drop first cells)) in
        let read : get_or (drop first cells) (prefix_len (is_tone tone) (drop first cells)) not_held ≡ get_or cells (suc row) not_held =
        get_or-drop first cells (prefix_len (is_tone tone) (drop first cells)) not_held ∙ ap (λ k. get_or cells k not_held) at in
        absurd (false≢true (sym stops ∙ ap (is_tone tone) read ∙ is))

-- each cell of the tone lies in a run
run_of_cell : (tone : Tone) (cells : List Tone) (row : ℕ) → row < length cells → is_tone tone (get_or cells row not_held) ≡ true
    → (first : ℕ) × (first ≤ row) × (row < first + run_at tone cells first)
run_of_cell tone cells zero within is = (0, omega arith, run_starts tone cells 0 refl within is)
run_of_cell tone cells (suc row) within is =
    go (run_of_cell tone cells row (omega arith)) (cases_Bool (is_tone tone (get_or cells row not_held)))
  where
    go : (is_tone tone (get_or cells row not_held) ≡ true → (first : ℕ) × (first ≤ row) × (row < first + run_at tone cells first))
        → (is_tone tone (get_or cells row not_held) ≡ true) ⊎ (is_tone tone (get_or cells row not_held) ≡ false)
        → (first : ℕ) × (first ≤ suc row) × (suc row < first + run_at tone cells first)
    go before (inl on) =
        let run = before on in
        let from : run.0 ≤ row = run.1 in
        (run.0, omega arith, run_goes_on tone cells run.0 row run.1 run.2 within is)
    go before (inr off) = (suc row, omega arith, run_starts tone cells (suc row) off within is)

-- ---- the columns with one run

-- the columns from c to e - 1 have the run `run`; column e has another run, or is behind the last of the n columns
record IsUntil (runs : ℕ → ℕ) (run n c e : ℕ) : Type 0 where
  more : c < e
  most : e ≤ n
  same : (j : ℕ) → c ≤ j → j < e → runs j ≡ run
  other : e < n → runs e ≢ run

until : (runs : ℕ → ℕ) (run n c k : ℕ) → c + suc k ≡ n → runs c ≡ run → (e : ℕ) × IsUntil runs run n c e
until runs run n c zero at is = (
  c + 1,
  record {
    more = omega arith;
    most = omega arith;
    same = λ j from to. let e : c ≡ j = omega arith in subst (λ i. runs i ≡ run) e is;
    other = λ less. absurd (omega arith);
  },
)
until runs run n c (suc k) at is = go (cases_eq (runs (c + 1)) run) (until runs run n (c + 1) k (omega arith))
  where
    first_or_later : (e j : ℕ) → IsUntil runs run n (c + 1) e → c ≤ j → j < e → (c ≡ j) ⊎ ((c < j) ⊎ (j < c)) → runs j ≡ run
    first_or_later e j later from to (inl same) = subst (λ i. runs i ≡ run) same is
    first_or_later e j later from to (inr (inl above)) = later.same j (omega arith) to
    first_or_later e j later from to (inr (inr below)) = absurd (omega arith)

    go : (runs (c + 1) ≡ run) ⊎ (runs (c + 1) ≡ run → ⊥) → (runs (c + 1) ≡ run → (e : ℕ) × IsUntil runs run n (c + 1) e)
        → (e : ℕ) × IsUntil runs run n c e
    go (inl same) on =
        let later = on same in (
          later.0,
          record {
            more = omega (arith, later.1.more);
            most = later.1.most;
            same = λ j from to. first_or_later later.0 j later.1 from to (cases_order c j);
            other = later.1.other;
          },
        )
    go (inr other) on = (
      c + 1,
      record {
        more = omega arith;
        most = omega arith;
        same = λ j from to. let e : c ≡ j = omega arith in subst (λ i. runs i ≡ run) e is;
        other = λ less. other;
      },
    )

-- ---- the rectangles

-- if the columns from c to e - 1 have equal runs, and column e does not, a rectangle that ends before column e begins at column c
-- or before, and is as high as the run
reaches : (runs : ℕ → ℕ) (n c e : ℕ) (r : Rectangle) → IsUntil runs (runs c) n c e → IsRectangle runs n e r
    → (r.column ≤ c) × (r.rows ≡ runs c)
reaches runs n c e r here rectangle =
    let ends : r.column + r.columns ≡ e = rectangle.ends in
    let some : 0 < r.columns = rectangle.wide in
    let more : c < e = here.more in
    let run : runs (e - 1) ≡ runs c = here.same (e - 1) (omega arith) (omega arith) in
    let rows : runs (e - 1) ≡ r.rows = rectangle.same (e - 1) (omega arith) (omega arith) in
    let high : r.rows ≡ runs c = sym rows ∙ run in
    (begins high (cases_lt c r.column), high)
  where
    begins : r.rows ≡ runs c → (c < r.column) ⊎ (r.column ≤ c) → r.column ≤ c
    begins high (inr le) = le
    begins high (inl above) =
        let ends : r.column + r.columns ≡ e = rectangle.ends in
        let run : runs (r.column - 1) ≡ runs c = here.same (r.column - 1) (omega arith) (omega arith) in
        absurd (rectangle.left (omega arith) (run ∙ sym high))

module _ (columns : List (List Tone)) (tone : Tone) (rows : ℕ) (rectangles : List Rectangle)
    (are : AreRectangles columns tone rows rows 0 (length columns) rectangles) (column row : ℕ) (cells : List Tone) (cell : Tone)
    (there : slice_get columns column ≡ Some cells) (here : slice_get cells row ≡ Some cell) (shown : row < rows) where
  n : ℕ
  n = length columns

  -- the run that begins at a row of this column is the run that begins there in the column's first `rows` cells
  runs_here : (first : ℕ) → run_in columns tone rows first column ≡ run_at tone (take rows cells) first
  runs_here first = ap (λ xs. run_at tone (take rows xs) first) (get_or_from_slice_get columns column cells [] there)

  read_here : (d : Tone) → get_or (take rows cells) row d ≡ cell
  read_here d = get_or-take rows cells row d shown ∙ get_or_from_slice_get cells row cell d here

  -- a cell of one of the rectangles has the tone
  pub cell_has_tone : Any (HasCell column row) rectangles → is_tone tone cell ≡ true
  cell_has_tone any =
      let r : Rectangle = any.1 in
      let has : HasCell column row r = any.4 in
      let rectangle : IsRectangle (run_in columns tone rows r.row) (length columns) (r.column + r.columns) r =
      subst (λ x. IsRectangle (run_in columns tone rows x.row) (length columns) (x.column + x.columns) x) any.3 (are.each any.0 r any.2).2 in
      let run : run_at tone (take rows cells) r.row ≡ r.rows = sym (runs_here r.row) ∙ rectangle.same column has.left has.right in
      run_has_tone tone (take rows cells) r.row row cell has.lower (omega (arith, has.upper, run)) (read_here cell)

  -- Suppose that a run that begins at row `first` of the column contains the cell. Suppose also that each column from this one to
  -- e - 1 has an equal run at row `first`, and that column e does not. Then a rectangle that ends before column e contains the
  -- cell.
  ends_there : (first e : ℕ) → first ≤ row → row < first + run_in columns tone rows first column
      → IsUntil (run_in columns tone rows first) (run_in columns tone rows first column) (length columns) column e
      → GoesOn (run_in columns tone rows first) (length columns) e ⊎ Any (λ r. (r.row ≡ first) × (r.column + r.columns ≡ e)) rectangles
      → Any (HasCell column row) rectangles
  ends_there first e from to span (inl (inl none)) =
      let more : column < e = span.more in
      let run : run_in columns tone rows first (e - 1) ≡ run_in columns tone rows first column = span.same (e - 1) (omega arith) (omega arith) in
      absurd (omega (arith, none, run))
  ends_there first e from to span (inl (inr on)) =
      let more : column < e = span.more in
      let run : run_in columns tone rows first (e - 1) ≡ run_in columns tone rows first column = span.same (e - 1) (omega arith) (omega arith) in
      absurd (span.other on.0 (on.1 ∙ run))
  ends_there first e from to span (inr any) =
      let r : Rectangle = any.1 in
      let at : r.row ≡ first = any.4.0 in
      let ends : r.column + r.columns ≡ e = any.4.1 in
      let rectangle : IsRectangle (run_in columns tone rows r.row) (length columns) (r.column + r.columns) r =
      subst (λ x. IsRectangle (run_in columns tone rows x.row) (length columns) (x.column + x.columns) x) any.3 (are.each any.0 r any.2).2 in
      let rectangle_here : IsRectangle (run_in columns tone rows first) (length columns) e r =
      subst (λ end. IsRectangle (run_in columns tone rows first) (length columns) end r) ends
      (subst (λ k. IsRectangle (run_in columns tone rows k) (length columns) (r.column + r.columns) r) at rectangle) in
      let reach : (r.column ≤ column) × (r.rows ≡ run_in columns tone rows first column) =
      reaches (run_in columns tone rows first) (length columns) column e r span rectangle_here in
      let more : column < e = span.more in (
        any.0,
        r,
        any.2,
        any.3,
        record {
          left = reach.0;
          right = omega arith;
          lower = omega arith;
          upper = omega (arith, reach.1, to);
        },
      )

  -- a cell of the tone is in a rectangle
  pub cell_is_covered : is_tone tone cell ≡ true → Any (HasCell column row) rectangles
  cell_is_covered is =
      let within : column < length columns = slice_get_within columns column cells there in
      let long : row < length (take rows cells) = omega (arith, length-take rows cells, slice_get_within cells row cell here) in
      let run = run_of_cell tone (take rows cells) row long (ap (is_tone tone) (read_here not_held) ∙ is) in
      let first : ℕ = run.0 in
      let from : first ≤ row = run.1 in
      let to : row < first + run_in columns tone rows first column = subst (λ k. row < first + k) (sym (runs_here first)) run.2 in
      let last = until (run_in columns tone rows first) (run_in columns tone rows first column) (length columns) column (length columns - column - 1) (omega arith) refl in
      ends_there first last.0 from to last.1 (are.all last.0 first (omega (arith, last.1.more)) last.1.most (omega arith))

-- if these are all rectangles of a tone in the first `rows` rows, they contain exactly the tone's cells in these rows
pub covers : (columns : List (List Tone)) (tone : Tone) (rows : ℕ) (rectangles : List Rectangle)
    → AreRectangles columns tone rows rows 0 (length columns) rectangles → CoverTone columns tone rows rectangles
covers columns tone rows rectangles are column row cells cell there here shown = (
  cell_is_covered columns tone rows rectangles are column row cells cell there here shown,
  cell_has_tone columns tone rows rectangles are column row cells cell there here shown,
)

-- ---- one rectangle after another

any_before : {X : Type 0} (P : X → Type 0) (xs ys : List X) → Any P xs → Any P (xs ++ ys)
any_before P xs ys any =
    (any.0, any.1, omega (arith, any.2, length-append xs ys), get_or_append_left xs ys any.1 any.0 any.2 ∙ any.3, any.4)

any_after : {X : Type 0} (P : X → Type 0) (xs ys : List X) → Any P ys → Any P (xs ++ ys)
any_after P [] ys any = any
any_after P (x ∷ xs) ys any =
    let later = any_after P xs ys any in
    let less : later.0 < length (xs ++ ys) = later.2 in
    (suc later.0, later.1, omega arith, later.3, later.4)

-- there are no columns from `from + 1` to `from`, so no rectangle ends before one of them
pub rectangles_none : (columns : List (List Tone)) (tone : Tone) (rows height from : ℕ) → AreRectangles columns tone rows height from from []
rectangles_none columns tone rows height from = record {
  each = λ k d less. absurd (omega arith);
  all = λ end row above upto less. absurd (omega arith);
}

pub rows_none : (columns : List (List Tone)) (tone : Tone) (rows from to : ℕ) → AreRectangles columns tone rows 0 from to []
rows_none columns tone rows from to = record {
  each = λ k d less. absurd (omega arith);
  all = λ end row above upto less. absurd (omega arith);
}

-- if all rectangles that end before one of the columns from + 1 to `mid` are joined with all that end before one of the columns
-- mid + 1 to `to`, the result is all rectangles that end before one of the columns from + 1 to `to`
pub rectangles_on : (columns : List (List Tone)) (tone : Tone) (rows height from mid to : ℕ) (front back : List Rectangle) → mid ≤ to
    → AreRectangles columns tone rows height from mid front → AreRectangles columns tone rows height mid to back
    → AreRectangles columns tone rows height from to (front ++ back)
rectangles_on columns tone rows height from mid to front back le before after = record {
  each = All-append (λ r. (r.row < height) × (r.column + r.columns ≤ to)
      × IsRectangle (run_in columns tone rows r.row) (length columns) (r.column + r.columns) r) front back
      (λ k d less. let is = before.each k d less in
      let short : (get_or front k d).column + (get_or front k d).columns ≤ mid = is.1 in (is.0, omega arith, is.2)) after.each;
  all = λ end row above upto less. split end row above upto less (cases_lt mid end);
}
  where
    split : (end row : ℕ) → from < end → end ≤ to → row < height → (mid < end) ⊎ (end ≤ mid)
        → GoesOn (run_in columns tone rows row) (length columns) end
        ⊎ Any (λ r. (r.row ≡ row) × (r.column + r.columns ≡ end)) (front ++ back)
    split end row above upto less (inl later) = behind (after.all end row later upto less)
      where
        behind : GoesOn (run_in columns tone rows row) (length columns) end ⊎ Any (λ r. (r.row ≡ row) × (r.column + r.columns ≡ end)) back
            → GoesOn (run_in columns tone rows row) (length columns) end ⊎ Any (λ r. (r.row ≡ row) × (r.column + r.columns ≡ end)) (front ++ back)
        behind (inl on) = inl on
        behind (inr any) = inr (any_after (λ r. (r.row ≡ row) × (r.column + r.columns ≡ end)) front back any)
    split end row above upto less (inr earlier) = ahead (before.all end row above earlier less)
      where
        ahead : GoesOn (run_in columns tone rows row) (length columns) end ⊎ Any (λ r. (r.row ≡ row) × (r.column + r.columns ≡ end)) front
            → GoesOn (run_in columns tone rows row) (length columns) end ⊎ Any (λ r. (r.row ≡ row) × (r.column + r.columns ≡ end)) (front ++ back)
        ahead (inl on) = inl on
        ahead (inr any) = inr (any_before (λ r. (r.row ≡ row) × (r.column + r.columns ≡ end)) front back any)

-- If `rectangles` are all rectangles that begin below row `height` and end before column `end`, and rectangle r begins in row
-- `height` and ends before column `end`, then `rectangles` and r are all rectangles that begin below row height + 1 and end
-- before column `end`.
pub row_with : (columns : List (List Tone)) (tone : Tone) (rows height end : ℕ) (rectangles : List Rectangle) (r : Rectangle) → r.row ≡ height
    → IsRectangle (run_in columns tone rows height) (length columns) end r → AreRectangles columns tone rows height (end - 1) end rectangles
    → AreRectangles columns tone rows (height + 1) (end - 1) end (rectangles ++ r ∷ [])
row_with columns tone rows height end rectangles r top_row rectangle are = record {
  each = All-append (λ x. (x.row < height + 1) × (x.column + x.columns ≤ end)
      × IsRectangle (run_in columns tone rows x.row) (length columns) (x.column + x.columns) x) rectangles (r ∷ [])
      (λ k d less. let is = are.each k d less in
      let low : (get_or rectangles k d).row < height = is.0 in (omega arith, is.1, is.2))
      (λ k d less. one k d (omega (arith, less)));
  all = λ at row above upto less. split at row above upto less (cases_lt row height);
}
  where
    ends : r.column + r.columns ≡ end
    ends = rectangle.ends

    itself : (r.row < height + 1) × (r.column + r.columns ≤ end) × IsRectangle (run_in columns tone rows r.row) (length columns) (r.column + r.columns) r
    itself = (
      omega (arith, top_row),
      omega (arith, ends),
      subst (λ k. IsRectangle (run_in columns tone rows k) (length columns) (r.column + r.columns) r) (sym top_row)
          (subst (λ e. IsRectangle (run_in columns tone rows height) (length columns) e r) (sym ends) rectangle),
    )

    one : (k : ℕ) (d : Rectangle) → k ≡ 0 → ((get_or (r ∷ []) k d).row < height + 1) × ((get_or (r ∷ []) k d).column + (get_or (r ∷ []) k d).columns ≤ end)
        × IsRectangle (run_in columns tone rows (get_or (r ∷ []) k d).row) (length columns) ((get_or (r ∷ []) k d).column + (get_or (r ∷ []) k d).columns) (get_or (r ∷ []) k d)
    one k d is = subst (λ j. ((get_or (r ∷ []) j d).row < height + 1) × ((get_or (r ∷ []) j d).column + (get_or (r ∷ []) j d).columns ≤ end)
        × IsRectangle (run_in columns tone rows (get_or (r ∷ []) j d).row) (length columns) ((get_or (r ∷ []) j d).column + (get_or (r ∷ []) j d).columns) (get_or (r ∷ []) j d))
        (sym is) itself

    split : (at row : ℕ) → end - 1 < at → at ≤ end → row < height + 1 → (row < height) ⊎ (height ≤ row)
        → GoesOn (run_in columns tone rows row) (length columns) at
        ⊎ Any (λ x. (x.row ≡ row) × (x.column + x.columns ≡ at)) (rectangles ++ r ∷ [])
    split at row above upto less (inl below) = ahead (are.all at row above upto below)
      where
        ahead : GoesOn (run_in columns tone rows row) (length columns) at ⊎ Any (λ x. (x.row ≡ row) × (x.column + x.columns ≡ at)) rectangles
            → GoesOn (run_in columns tone rows row) (length columns) at ⊎ Any (λ x. (x.row ≡ row) × (x.column + x.columns ≡ at)) (rectangles ++ r ∷ [])
        ahead (inl on) = inl on
        ahead (inr any) = inr (any_before (λ x. (x.row ≡ row) × (x.column + x.columns ≡ at)) rectangles (r ∷ []) any)
    split at row above upto less (inr top) =
        inr (Any-push (λ x. (x.row ≡ row) × (x.column + x.columns ≡ at)) rectangles r (omega (arith, top_row), omega (arith, ends)))

-- If `rectangles` are all rectangles that begin below row `height` and end before column `end`, and no rectangle that begins in
-- row `height` ends before column `end`, then `rectangles` are also all rectangles that begin below row height + 1 and end before
-- column `end`.
pub row_without : (columns : List (List Tone)) (tone : Tone) (rows height end : ℕ) (rectangles : List Rectangle)
    → GoesOn (run_in columns tone rows height) (length columns) end → AreRectangles columns tone rows height (end - 1) end rectangles
    → AreRectangles columns tone rows (height + 1) (end - 1) end rectangles
row_without columns tone rows height end rectangles on are = record {
  each = λ k d less. let is = are.each k d less in
      let low : (get_or rectangles k d).row < height = is.0 in (omega arith, is.1, is.2);
  all = λ at row above upto less. split at row above upto less (cases_lt row height);
}
  where
    split : (at row : ℕ) → end - 1 < at → at ≤ end → row < height + 1 → (row < height) ⊎ (height ≤ row)
        → GoesOn (run_in columns tone rows row) (length columns) at ⊎ Any (λ x. (x.row ≡ row) × (x.column + x.columns ≡ at)) rectangles
    split at row above upto less (inl below) = are.all at row above upto below
    split at row above upto less (inr top) =
        let same_row : height ≡ row = omega arith in
        let same_end : end ≡ at = omega arith in
        inl (subst (λ k. GoesOn (run_in columns tone rows k) (length columns) at) same_row
        (subst (λ e. GoesOn (run_in columns tone rows height) (length columns) e) same_end on))
