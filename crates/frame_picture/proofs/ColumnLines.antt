-- After each line, the columns stay even (`IsEven`), and at the end they are complete (`IsComplete`).
use Rattle.std.proofs.Common.{◌≡◌, ◌≢◌, ℕ, ◌+◌, ◌*◌, ◌/◌, ◌%◌, ◌<◌, ◌≤◌, min, List, Some, length, slice_get, subst, sym, ◌∙◌, ap, arith, ◌⊎◌, inl, inr}
use Rattle.std.proofs.Math.Nat.{mul-le-mul_right, mul-mod_left}
use Rattle.std.proofs.lemmas.Bool.{cases_order}
use Rattle.std.proofs.lemmas.Option.{slice_get_within}
use Rattle.frame_picture.specs.declared.history.Column.{Column}
use Rattle.frame_picture.specs.Histories.{IsEven, IsComplete}

-- if a * w is below b * w, a is below b
factor_below : (a b w : ℕ) → a * w < b * w → a < b
factor_below a b w less = go (cases_order a b)
  where
    go : (a ≡ b) ⊎ ((a < b) ⊎ (b < a)) → a < b
    go (inl e) = let same : a * w ≡ b * w = ap (λ x. x * w) e in absurd (omega arith)
    go (inr (inl below)) = below
    go (inr (inr above)) =
        let le : b ≤ a = omega arith in
        let more : b * w ≤ a * w = mul-le-mul_right w le in
        absurd (omega arith)

-- if l lines fill n columns of width w but not n + 1, and l + 1 is a multiple of w, then l + 1 lines fill n + 1 columns exactly
pub next_multiple : (n w l : ℕ) → n * w ≤ l → l < (n + 1) * w → (l + 1) % w ≡ 0 → l + 1 ≡ (n + 1) * w
next_multiple n w l some all zero =
    let q : ℕ = (l + 1) / w in
    let is : q * w ≡ l + 1 = grind arith in
    let above : n < q = factor_below n q w (omega arith) in
    let most : q < n + 2 = factor_below q (n + 2) w (grind arith) in
    let e : q ≡ n + 1 = omega arith in
    sym is ∙ ap (λ x. x * w) e

-- if l lines do not fill n + 1 columns of width w, the width is positive
positive : (n w l : ℕ) → l < (n + 1) * w → 0 < w
positive n w l all = go (cases_order 0 w)
  where
    go : (0 ≡ w) ⊎ ((0 < w) ⊎ (w < 0)) → 0 < w
    go (inl e) = let none : l < (n + 1) * 0 = subst (λ x. l < (n + 1) * x) (sym e) all in absurd (omega arith)
    go (inr (inl pos)) = pos
    go (inr (inr below)) = absurd (omega arith)

-- if l + 1 lines fill n + 1 columns exactly, then l lines fill n / 2 columns of twice the width, but not one more
half_reach : (n h w l : ℕ) → 0 < w → l + 1 ≡ (n + 1) * w → h ≡ n / 2 → (h * (2 * w) ≤ l) × (l < (h + 1) * (2 * w))
half_reach n h w l pos is half = go (cases_order n (2 * h))
  where
    go : (n ≡ 2 * h) ⊎ ((n < 2 * h) ⊎ (2 * h < n)) → (h * (2 * w) ≤ l) × (l < (h + 1) * (2 * w))
    go (inl e) = let at : l + 1 ≡ (2 * h + 1) * w = subst (λ x. l + 1 ≡ (x + 1) * w) e is in (omega arith, omega arith)
    go (inr (inl below)) = absurd (omega arith)
    go (inr (inr above)) =
        let e : n ≡ 2 * h + 1 = omega arith in
        let at : l + 1 ≡ (2 * h + 1 + 1) * w = subst (λ x. l + 1 ≡ (x + 1) * w) e is in
        (omega arith, omega arith)

-- if l lines fill n columns of width w but not n + 1, and l is a multiple of w, the l lines fill the n columns exactly
last_multiple : (n w l : ℕ) → 0 < w → n * w ≤ l → l < (n + 1) * w → l % w ≡ 0 → l ≡ n * w
last_multiple n w l pos some all zero =
    let q : ℕ = l / w in
    let is : q * w ≡ l = grind arith in
    let below : q < n + 1 = factor_below q (n + 1) w (omega arith) in
    let above : n < q + 1 = factor_below n (q + 1) w (omega arith) in
    let e : q ≡ n = omega arith in
    sym is ∙ ap (λ x. x * w) e

-- Suppose that l lines fill n columns but not n + 1, and that lines are left over. Then the l lines also fill n / 2 columns of
-- twice the width. Again lines are left over, and one more column is enough for them.
half_within : (n h w l : ℕ) → n * w < l → l < (n + 1) * w → h ≡ n / 2 → (h * (2 * w) < l) × (l ≤ (h + 1) * (2 * w))
half_within n h w l some all half = go (cases_order n (2 * h))
  where
    go : (n ≡ 2 * h) ⊎ ((n < 2 * h) ⊎ (2 * h < n)) → (h * (2 * w) < l) × (l ≤ (h + 1) * (2 * w))
    go (inl e) =
        let from : 2 * h * w < l = subst (λ x. x * w < l) e some in
        let to : l < (2 * h + 1) * w = subst (λ x. l < (x + 1) * w) e all in
        (omega arith, omega arith)
    go (inr (inl below)) = absurd (omega arith)
    go (inr (inr above)) =
        let e : n ≡ 2 * h + 1 = omega arith in
        let from : (2 * h + 1) * w < l = subst (λ x. x * w < l) e some in
        let to : l < (2 * h + 1 + 1) * w = subst (λ x. l < (x + 1) * w) e all in
        (omega arith, omega arith)

-- Suppose that column i of the old columns is for line (i + 1) * w, and that 1 to w lines are left over after these columns. If
-- one more column, for the last line, is added, the columns are complete.
completes : (columns more : List Column) (w l : ℕ) → length columns * w < l → l ≤ (length columns + 1) * w
    → ((i : ℕ) (column : Column) → slice_get columns i ≡ Some column → column.line ≡ (i + 1) * w)
    → length more ≡ length columns + 1 → ((i : ℕ) → i < length columns → slice_get more i ≡ slice_get columns i)
    → ((column : Column) → slice_get more (length columns) ≡ Some column → column.line ≡ l)
    → IsComplete more w l
completes columns more w l some all each one before last = record {
  all = rw one all;
  few = rw one (omega arith);
  each = λ i column there. go i column there (cases_order i (length columns));
}
  where
    go : (i : ℕ) (column : Column) → slice_get more i ≡ Some column → (i ≡ length columns) ⊎ ((i < length columns) ⊎ (length columns < i))
        → column.line ≡ min ((i + 1) * w) l
    go i column there (inl e) =
        let at : column.line ≡ l = last column (subst (λ j. slice_get more j ≡ Some column) e there) in
        let most : l ≤ (i + 1) * w = subst (λ j. l ≤ (j + 1) * w) (sym e) all in
        omega (arith, at, most)
    go i column there (inr (inl below)) =
        let at : column.line ≡ (i + 1) * w = each i column (sym (before i below) ∙ there) in
        let within : i + 1 ≤ length columns = omega arith in
        let most : (i + 1) * w ≤ length columns * w = mul-le-mul_right w within in
        omega (arith, at, most, some)
    go i column there (inr (inr above)) = absurd (omega (arith, slice_get_within more i column there))

-- `IsEven` still holds if the width and the number of lines are replaced by equal numbers
pub moved : (columns : List Column) (w w' l l' : ℕ) → w' ≡ w → l' ≡ l → IsEven columns w l → IsEven columns w' l'
moved columns w w' l l' e e' even = subst (λ x. IsEven columns x l') (sym e) (subst (IsEven columns w) (sym e') even)

pub completed : (columns : List Column) (w w' l l' : ℕ) → w' ≡ w → l' ≡ l → IsComplete columns w l → IsComplete columns w' l'
completed columns w w' l l' e e' complete = subst (λ x. IsComplete columns x l') (sym e) (subst (IsComplete columns w) (sym e') complete)

module _ (columns : List Column) (w l : ℕ) (even : IsEven columns w l) where
  pos : 0 < w
  pos = positive (length columns) w l even.all

  -- if line l + 1 is not a multiple of the width, the columns stay even without a column for it
  pub waits : (l + 1) % w ≢ 0 → IsEven columns w (l + 1)
  waits other = record {
    some = omega (arith, even.some);
    all =
        let same : l + 1 ≡ (length columns + 1) * w → ⊥ = λ e. other (ap (λ x. x % w) e ∙ mul-mod_left (length columns + 1) w) in
        omega (arith, even.all, same);
    each = even.each;
  }

  -- if line l + 1 is a multiple of the width and gets the next column, the columns stay even
  pub keeps : (l + 1) % w ≡ 0 → (more : List Column) → length more ≡ length columns + 1
      → ((i : ℕ) → i < length columns → slice_get more i ≡ slice_get columns i)
      → ((column : Column) → slice_get more (length columns) ≡ Some column → column.line ≡ l + 1)
      → IsEven more w (l + 1)
  keeps zero more one before last = record {
    some = rw one (omega (arith, is));
    all = rw one (grind (arith, is));
    each = λ i column there. go i column there (cases_order i (length columns));
  }
    where
      is : l + 1 ≡ (length columns + 1) * w
      is = next_multiple (length columns) w l even.some even.all zero

      go : (i : ℕ) (column : Column) → slice_get more i ≡ Some column → (i ≡ length columns) ⊎ ((i < length columns) ⊎ (length columns < i))
          → column.line ≡ (i + 1) * w
      go i column there (inl e) =
          last column (subst (λ j. slice_get more j ≡ Some column) e there) ∙ is ∙ ap (λ j. (j + 1) * w) (sym e)
      go i column there (inr (inl below)) = even.each i column (sym (before i below) ∙ there)
      go i column there (inr (inr above)) = absurd (omega (arith, slice_get_within more i column there))

  -- if l + 1 is a multiple of the width, and every second column is dropped, the columns are even for l lines with twice the
  -- width
  pub halves : (l + 1) % w ≡ 0 → (half : List Column) → length half ≡ length columns / 2
      → ((i : ℕ) → i < length half → slice_get half i ≡ slice_get columns (2 * i + 1))
      → IsEven half (2 * w) l
  halves zero half few second = record {
    some = (half_reach (length columns) (length half) w l pos is few).0;
    all = (half_reach (length columns) (length half) w l pos is few).1;
    each = λ i column there.
        let e = even.each (2 * i + 1) column (sym (second i (slice_get_within half i column there)) ∙ there) in
        grind (arith, e);
  }
    where
      is : l + 1 ≡ (length columns + 1) * w
      is = next_multiple (length columns) w l even.some even.all zero

  -- if the trace ends after l lines, and l is a multiple of the width, the columns are complete
  pub ends_even : l % w ≡ 0 → IsComplete columns w l
  ends_even zero =
      let is : l ≡ length columns * w = last_multiple (length columns) w l pos even.some even.all zero in record {
        all = omega (arith, is);
        few = omega (arith, is, pos);
        each = λ i column there.
            let at : column.line ≡ (i + 1) * w = even.each i column there in
            let within : i + 1 ≤ length columns = omega (arith, slice_get_within columns i column there) in
            let most : (i + 1) * w ≤ length columns * w = mul-le-mul_right w within in
            omega (arith, at, most, is);
      }

  -- if l is not a multiple of the width, some of the l lines have no column yet
  some_left : l % w ≢ 0 → length columns * w < l
  some_left other =
      let same : length columns * w ≡ l → ⊥ = λ e. other (ap (λ x. x % w) (sym e) ∙ mul-mod_left (length columns) w) in
      omega (arith, even.some, same)

  -- if the trace ends after l lines, l is not a multiple of the width, and line l gets the next column, the columns are complete
  pub ends_after : l % w ≢ 0 → (more : List Column) → length more ≡ length columns + 1
      → ((i : ℕ) → i < length columns → slice_get more i ≡ slice_get columns i)
      → ((column : Column) → slice_get more (length columns) ≡ Some column → column.line ≡ l)
      → IsComplete more w l
  ends_after other more = completes columns more w l (some_left other) (omega (arith, even.all)) even.each

  -- if every second column is dropped before line l gets the next column, the columns are complete with twice the width
  pub ends_halved : l % w ≢ 0 → (half more : List Column) → length half ≡ length columns / 2
      → ((i : ℕ) → i < length half → slice_get half i ≡ slice_get columns (2 * i + 1))
      → length more ≡ length half + 1 → ((i : ℕ) → i < length half → slice_get more i ≡ slice_get half i)
      → ((column : Column) → slice_get more (length half) ≡ Some column → column.line ≡ l)
      → IsComplete more (2 * w) l
  ends_halved other half more few second =
      let reach : (length half * (2 * w) < l) × (l ≤ (length half + 1) * (2 * w)) =
      half_within (length columns) (length half) w l (some_left other) even.all few in
      completes half more (2 * w) l reach.0 reach.1
      (λ i column there.
      let e : column.line ≡ (2 * i + 1 + 1) * w = even.each (2 * i + 1) column (sym (second i (slice_get_within half i column there)) ∙ there) in
      omega (arith, e))
