-- The peaks of tenants, when a line is added to the history, and at the end of the history.
use Rattle.std.proofs.Common.{◌≡◌, ◌≢◌, ℕ, ◌+◌, ◌*◌, ◌/◌, ◌%◌, ◌^◌, ◌<◌, ◌≤◌, min, ap, refl, subst, sym, ◌∙◌, ◌⊎◌, inl, inr, arith, slice_get, slice_index, Some, length, vec_len}
use Rattle.std.proofs.lemmas.Bool.{cases_order}
use Rattle.std.proofs.lemmas.Option.{slice_get_within}
use Rattle.std.proofs.Math.Nat.{mul-le-mul_right}
use Rattle.world_core.proofs.MachineLists.{get_within}
use Rattle.frame_picture.specs.declared.history.History.{History}
use Rattle.frame_picture.specs.Histories.{columns_of, line_count, most_columns_of, width_of, Doubles, IsComplete, IsEven}
use Rattle.frame_picture.proofs.ColumnLines.{next_multiple}
use Rattle.framemap.specs.declared.peaks.Peak.{Peak}
use Rattle.framemap.specs.declared.peaks.Peaks.{Peaks}
use Rattle.framemap.specs.Peaks.{EachPeak, HaveEnded, HaveMost, HaveWidened, IsMostTaken, IsPeak, KeepMost}
use Rattle.framemap.proofs.PeakLemmas.{most_at}

-- if a * w is below b * w, a is below b
factor_below : (a b w : ℕ) → a * w < b * w → a < b
factor_below a b w less = go (cases_order a b)
  where
    go : (a ≡ b) ⊎ ((a < b) ⊎ (b < a)) → a < b
    go (inl e) = let same : a * w ≡ b * w = ap (λ x. x * w) e in absurd (omega arith)
    go (inr (inl below)) = below
    go (inr (inr above)) =
        let le : b ≤ a = omega arith in
        let more : b * w ≤ a * w = mul-le-mul_right w le in
        absurd (omega arith)

-- whether a column ends at the next line, if `ended` columns have ended before it
abbrev pub MayEnd : ℕ → ℕ → ℕ → ℕ → Type 0
MayEnd ended columns width lines = (columns ≡ ended) ⊎ ((columns ≡ ended + 1) × (lines ≡ (ended + 1) * width))

-- if l lines fill n columns, and l + 1 lines fill n' columns of the same width, the last line has ended a column or not
same_width : (n w l n' : ℕ) → n * w ≤ l → l < (n + 1) * w → n' * w ≤ l + 1 → l + 1 < (n' + 1) * w → MayEnd n n' w (l + 1)
same_width n w l n' some all some' all' = go (cases_order n' n)
  where
    most : n' < n + 2
    most = factor_below n' (n + 2) w (omega arith)

    least : n < n' + 1
    least = factor_below n (n' + 1) w (omega arith)

    go : (n' ≡ n) ⊎ ((n' < n) ⊎ (n < n')) → MayEnd n n' w (l + 1)
    go (inl e) = inl e
    go (inr (inl below)) = absurd (omega (arith, least))
    go (inr (inr above)) =
        let e : n' ≡ n + 1 = omega (arith, most) in
        let reach : (n + 1) * w ≤ l + 1 = subst (λ k. k * w ≤ l + 1) e some' in
        inr (e, omega arith)

-- the same if the columns are joined in pairs before
twice_width : (n w l n' : ℕ) → l + 1 ≡ (n + 1) * w → n' * (2 * w) ≤ l + 1 → l + 1 < (n' + 1) * (2 * w) → MayEnd (n / 2) n' (2 * w) (l + 1)
twice_width n w l n' is some' all' = go (cases_order n (2 * (n / 2)))
  where
    least : n + 1 < 2 * n' + 2
    least = factor_below (n + 1) (2 * n' + 2) w (omega arith)

    most : 2 * n' < n + 2
    most = factor_below (2 * n') (n + 2) w (omega arith)

    go : (n ≡ 2 * (n / 2)) ⊎ ((n < 2 * (n / 2)) ⊎ (2 * (n / 2) < n)) → MayEnd (n / 2) n' (2 * w) (l + 1)
    go (inl e) = inl (omega (arith, least, most))
    go (inr (inl below)) = absurd (omega arith)
    go (inr (inr above)) =
        let e : n + 1 ≡ 2 * (n / 2 + 1) = omega arith in
        inr (omega (arith, least, most), is ∙ ap (λ k. k * w) e ∙ omega arith)

-- the same peak, with equal numbers
peak_at : (taken : ℕ → ℕ) (l l' w w' n n' m m' : ℕ) (peak : Peak) → l ≡ l' → w ≡ w' → n ≡ n' → m ≡ m' → IsPeak taken l w n m peak
    → IsPeak taken l' w' n' m' peak
peak_at taken l l' w w' n n' m m' peak el ew en em is =
    subst (λ x. IsPeak taken x w' n' m' peak) el (subst (λ x. IsPeak taken l x n' m' peak) ew
    (subst (λ x. IsPeak taken l w x m' peak) en (subst (λ x. IsPeak taken l w n x peak) em is)))

-- Peaks after `lines` lines: `ended` columns of `width` lines have ended.
abbrev pub ArePeaks : (ℕ → ℕ → ℕ) → ℕ → ℕ → ℕ → ℕ → Peaks → Type 0
ArePeaks taken lines width ended most_columns peaks =
    (t : ℕ) (peak : Peak) → slice_get peaks.of_tenants.items t ≡ Some peak → IsPeak (taken t) lines width ended most_columns peak

-- after the columns may have been joined, the peaks have this width
record AreWide (taken : ℕ → ℕ → ℕ) (lines width ended most_columns : ℕ) (peaks : Peaks) : Type 0 where
  pub now : peaks.ended ≡ ended
  pub are : ArePeaks taken lines width ended most_columns peaks

not_wider : (taken : ℕ → ℕ → ℕ) (lines width ended most_columns : ℕ) (old new : Peaks) → HaveWidened width old new → old.width ≡ width → old.ended ≡ ended
    → ArePeaks taken lines width ended most_columns old → AreWide taken lines width ended most_columns new
not_wider taken lines width ended most_columns old new widened same is are =
    subst (AreWide taken lines width ended most_columns) (sym (widened.same same)) (record { now = is; are = are })

wider : (taken : ℕ → ℕ → ℕ) (lines width ended most_columns : ℕ) (old new : Peaks) → HaveWidened (2 * width) old new → old.width ≡ width → 0 < width
    → old.ended ≡ ended → ended ≤ most_columns → ended * width ≤ lines
    → ArePeaks taken lines width ended most_columns old → AreWide taken lines (2 * width) (ended / 2) most_columns new
wider taken lines width ended most_columns old new widened same some is few reach are =
    let other : old.width ≢ 2 * width = λ e. absurd (omega (arith, e, same, some)) in record {
      now = widened.ended other ∙ ap (λ n. n / 2) is;
      are = λ t peak there.
          let step = widened.joined other t peak there in
          let was : IsPeak (taken t) lines width old.ended most_columns step.0 =
          subst (λ n. IsPeak (taken t) lines width n most_columns step.0) (sym is) (are t step.0 step.1) in
          subst (λ n. IsPeak (taken t) lines (2 * width) (n / 2) most_columns peak) is
          (step.2 (taken t) lines width most_columns (omega (arith, is, few)) (subst (λ n. n * width ≤ lines) (sym is) reach) was);
    }

-- after a column may have ended, the peaks have this number of columns
columns_end : (taken : ℕ → ℕ → ℕ) (lines width ended columns most_columns : ℕ) (old new : Peaks) → HaveEnded columns old new
    → MayEnd ended columns width lines → columns ≤ most_columns → AreWide taken lines width ended most_columns old
    → AreWide taken lines width columns most_columns new
columns_end taken lines width ended columns most_columns old new done may few wide = go may
  where
    go : MayEnd ended columns width lines → AreWide taken lines width columns most_columns new
    go (inl e) =
        let same : new ≡ old = done.same (omega (arith, e, wide.now)) in
        subst (λ n. AreWide taken lines width n most_columns new) (sym e) (subst (AreWide taken lines width ended most_columns) (sym same) wide)
    go (inr end) =
        let one : columns ≡ ended + 1 = end.0 in
        let less : old.ended < columns = omega (arith, one, wide.now) in record {
          now = done.ended less ∙ ap (λ n. n + 1) wide.now ∙ sym one;
          are = λ t peak there.
              let step = done.one less t peak there in
              let was : IsPeak (taken t) lines width old.ended most_columns step.0 =
              subst (λ n. IsPeak (taken t) lines width n most_columns step.0) (sym wide.now) (wide.are t step.0 step.1) in
              subst (λ n. IsPeak (taken t) lines width n most_columns peak) (ap (λ n. n + 1) wide.now ∙ sym one)
              (step.2.whole (taken t) lines width most_columns (omega (arith, less, few))
              (subst (λ n. lines ≡ (n + 1) * width) (sym wide.now) end.1) was);
        }

-- Lengths of lists of peaks

within : (peaks before : Peaks) (t : ℕ) (peak : Peak) → vec_len peaks.of_tenants ≡ vec_len before.of_tenants
    → slice_get peaks.of_tenants.items t ≡ Some peak → (old : Peak) × (slice_get before.of_tenants.items t ≡ Some old)
within peaks before t peak same there =
    get_within before.of_tenants.items t (omega (arith, same, slice_get_within peaks.of_tenants.items t peak there))

-- after a line is added to the history, and the peaks have noted it, they have the most taken frames of the history's columns
pub line_added : (taken : ℕ → ℕ → ℕ) (old new : History) (peaks noted wide done : Peaks)
    → line_count old < 2 ^ 30 → line_count new ≡ line_count old + 1 → most_columns_of new ≡ most_columns_of old
    → length (columns_of new) ≤ most_columns_of new
    → IsEven (columns_of old) (width_of old) (line_count old) → IsEven (columns_of new) (width_of new) (line_count new)
    → (width_of new ≡ width_of old) ⊎ ((line_count new % width_of old ≡ 0) × Doubles old new)
    → vec_len done.of_tenants ≡ vec_len peaks.of_tenants → noted.width ≡ peaks.width → noted.ended ≡ peaks.ended
    → EachPeak (λ t before after. (width ended most_columns : ℕ) → ended * width ≤ line_count old
    → IsPeak (taken t) (line_count old) width ended most_columns before → IsPeak (taken t) (line_count old + 1) width ended most_columns after)
    peaks.of_tenants.items noted.of_tenants.items
    → HaveWidened (width_of new) noted wide → HaveEnded (length (columns_of new)) wide done
    → KeepMost taken old peaks → KeepMost taken new done
line_added taken old new peaks noted wide done small lines most few' even even' full tenants noted_width noted_ended each widened ended keep t peak there =
    (ended.width ∙ widened.width, finish.now, finish.are t peak there)
  where
    first : (before : Peak) × (slice_get peaks.of_tenants.items t ≡ Some before)
    first = within done peaks t peak tenants there

    n : ℕ
    n = length (columns_of old)

    w : ℕ
    w = width_of old

    l : ℕ
    l = line_count old

    is_width : noted.width ≡ w
    is_width = noted_width ∙ (keep t first.0 first.1).0

    is_ended : noted.ended ≡ n
    is_ended = noted_ended ∙ (keep t first.0 first.1).1

    are : ArePeaks taken (l + 1) w n (most_columns_of old) noted
    are u it here =
        let step = each u it here in
        step.2 w n (most_columns_of old) even.some ((keep u step.0 step.1).2)

    some' : length (columns_of new) * width_of new ≤ l + 1
    some' = subst (λ x. length (columns_of new) * width_of new ≤ x) lines even'.some

    all' : l + 1 < (length (columns_of new) + 1) * width_of new
    all' = subst (λ x. x < (length (columns_of new) + 1) * width_of new) lines even'.all

    fits : length (columns_of new) ≤ most_columns_of old
    fits = omega (arith, few', most)

    at_new : (width : ℕ) → width ≡ width_of new → AreWide taken (l + 1) width (length (columns_of new)) (most_columns_of old) done
        → AreWide taken (line_count new) (width_of new) (length (columns_of new)) (most_columns_of new) done
    at_new width same last = record {
      now = last.now;
      are = λ u it here. peak_at (taken u) (l + 1) (line_count new) width (width_of new) _ _ (most_columns_of old) (most_columns_of new) it
          (sym lines) same refl (sym most) (last.are u it here);
    }

    finish : AreWide taken (line_count new) (width_of new) (length (columns_of new)) (most_columns_of new) done
    finish = go full
      where
        go : (width_of new ≡ w) ⊎ ((line_count new % w ≡ 0) × Doubles old new)
            → AreWide taken (line_count new) (width_of new) (length (columns_of new)) (most_columns_of new) done
        go (inl same) =
            let widened' : HaveWidened w noted wide = subst (λ x. HaveWidened x noted wide) same widened in
            at_new w (sym same)
            (columns_end taken (l + 1) w n (length (columns_of new)) (most_columns_of old) wide done ended
            (same_width n w l (length (columns_of new)) even.some even.all (subst (λ x. length (columns_of new) * x ≤ l + 1) same some')
            (subst (λ x. l + 1 < (length (columns_of new) + 1) * x) same all'))
            fits (not_wider taken (l + 1) w n (most_columns_of old) noted wide widened' is_width is_ended are))
        go (inr double) =
            let due : (l + 1) % w ≡ 0 = subst (λ x. x % w ≡ 0) lines double.0 in
            let is : l + 1 ≡ (n + 1) * w = next_multiple n w l even.some even.all due in
            let narrow : w ≤ l + 1 = omega (arith, is) in
            let twice : width_of new ≡ 2 * w = (let e = double.1.1 in omega (arith, e, narrow, small)) in
            let positive : 0 < w = factor_below 0 w 1 (omega (arith, is, even.some, even.all)) in
            at_new (2 * w) (sym twice)
            (columns_end taken (l + 1) (2 * w) (n / 2) (length (columns_of new)) (most_columns_of old) wide done ended
            (twice_width n w l (length (columns_of new)) is (subst (λ x. length (columns_of new) * x ≤ l + 1) twice some')
            (subst (λ x. l + 1 < (length (columns_of new) + 1) * x) twice all'))
            fits
            (wider taken (l + 1) w n (most_columns_of old) noted wide (subst (λ x. HaveWidened x noted wide) twice widened) is_width positive is_ended
            (omega (arith, double.1.0))
            (omega (arith, even.some)) are))

-- At the end, the last column may be shorter.
abbrev pub MayEndLast : ℕ → ℕ → ℕ → ℕ → Type 0
MayEndLast ended columns width lines = (columns ≡ ended) ⊎ ((columns ≡ ended + 1) × (lines ≤ (ended + 1) * width))

last_same : (n w l n' : ℕ) → n * w ≤ l → l < (n + 1) * w → l ≤ n' * w → n' * w < l + w → MayEndLast n n' w l
last_same n w l n' some all all' few' = go (cases_order n' n)
  where
    most : n' < n + 2
    most = factor_below n' (n + 2) w (omega arith)

    least : n < n' + 1
    least = factor_below n (n' + 1) w (omega arith)

    go : (n' ≡ n) ⊎ ((n' < n) ⊎ (n < n')) → MayEndLast n n' w l
    go (inl e) = inl e
    go (inr (inl below)) = absurd (omega (arith, least))
    go (inr (inr above)) = inr (omega (arith, most), omega arith)

last_twice : (n w l n' : ℕ) → n * w ≤ l → l < (n + 1) * w → l ≤ n' * (2 * w) → n' * (2 * w) < l + 2 * w
    → (n / 2 * (2 * w) ≤ l) × MayEndLast (n / 2) n' (2 * w) l
last_twice n w l n' some all all' few' = go (cases_order n (2 * (n / 2)))
  where
    most : 2 * n' < n + 3
    most = factor_below (2 * n') (n + 3) w (omega arith)

    least : n < 2 * n' + 1
    least = factor_below n (2 * n' + 1) w (omega arith)

    whole : n ≡ 2 * (n / 2) → (n' ≡ n / 2) ⊎ ((n' < n / 2) ⊎ (n / 2 < n')) → (n / 2 * (2 * w) ≤ l) × MayEndLast (n / 2) n' (2 * w) l
    whole e (inl same) = ((let from : 2 * (n / 2) * w ≤ l = subst (λ x. x * w ≤ l) e some in omega arith), inl same)
    whole e (inr (inl below)) = absurd (omega (arith, least, e, below))
    whole e (inr (inr above)) =
        let from : 2 * (n / 2) * w ≤ l = subst (λ x. x * w ≤ l) e some in
        let to : l < (2 * (n / 2) + 1) * w = subst (λ x. l < (x + 1) * w) e all in
        (omega arith, inr (omega (arith, most, e, above), omega arith))

    go : (n ≡ 2 * (n / 2)) ⊎ ((n < 2 * (n / 2)) ⊎ (2 * (n / 2) < n)) → (n / 2 * (2 * w) ≤ l) × MayEndLast (n / 2) n' (2 * w) l
    go (inl e) = whole e (cases_order n' (n / 2))
    go (inr (inl below)) = absurd (omega arith)
    go (inr (inr above)) =
        let e : n ≡ 2 * (n / 2) + 1 = omega arith in
        let from : (2 * (n / 2) + 1) * w ≤ l = subst (λ x. x * w ≤ l) e some in
        let to : l < (2 * (n / 2) + 1 + 1) * w = subst (λ x. l < (x + 1) * w) e all in
        (omega arith, inr (omega (arith, most, least, e), omega arith))

-- at the end, after the last column may have ended, the peaks have the most taken frames of each column
last_ends : (taken : ℕ → ℕ → ℕ) (lines width ended columns most_columns : ℕ) (old new : Peaks) → HaveEnded columns old new
    → MayEndLast ended columns width lines → ended * width ≤ lines → columns ≤ most_columns → AreWide taken lines width ended most_columns old
    → (t i : ℕ) (peak : Peak) → slice_get new.of_tenants.items t ≡ Some peak → i < columns
    → IsMostTaken (taken t) (i * width) (min ((i + 1) * width) lines) (slice_index peak.columns.items i)
last_ends taken lines width ended columns most_columns old new done may reach few wide t i peak there less = go may
  where
    before : (was : Peak) → IsPeak (taken t) lines width ended most_columns was → i < ended
        → IsMostTaken (taken t) (i * width) (min ((i + 1) * width) lines) (slice_index was.columns.items i)
    before was is below =
        let up : (i + 1) * width ≤ ended * width = mul-le-mul_right width (omega (arith, below)) in
        let whole : (i + 1) * width ≡ min ((i + 1) * width) lines = omega (arith, up, reach) in
        subst (λ end. IsMostTaken (taken t) (i * width) end (slice_index was.columns.items i)) whole (is.each i below)

    go : MayEndLast ended columns width lines → IsMostTaken (taken t) (i * width) (min ((i + 1) * width) lines) (slice_index peak.columns.items i)
    go (inl e) =
        let same : new ≡ old = done.same (omega (arith, e, wide.now)) in
        let was : slice_get old.of_tenants.items t ≡ Some peak = subst (λ (p : Peaks). slice_get p.of_tenants.items t ≡ Some peak) same there in
        before peak (wide.are t peak was) (omega (arith, less, e))
    go (inr end) =
        let one : columns ≡ ended + 1 = end.0 in
        let more : old.ended < columns = omega (arith, one, wide.now) in
        let step = done.one more t peak there in
        let is = wide.are t step.0 step.1 in
        let at_end : slice_index peak.columns.items ended ≡ step.0.since =
        ap (λ n. slice_index peak.columns.items n) (sym wide.now) ∙ step.2.last (omega (arith, more, few, is.fits)) in
        at (cases_order i ended) step.0 is at_end (λ below. step.2.kept i (omega (arith, below, wide.now))) one end.1
      where
        at : (i ≡ ended) ⊎ ((i < ended) ⊎ (ended < i)) → (was : Peak) → IsPeak (taken t) lines width ended most_columns was
            → slice_index peak.columns.items ended ≡ was.since → (i < ended → slice_index peak.columns.items i ≡ slice_index was.columns.items i)
            → columns ≡ ended + 1 → lines ≤ (ended + 1) * width
            → IsMostTaken (taken t) (i * width) (min ((i + 1) * width) lines) (slice_index peak.columns.items i)
        at (inl e) was is at_end kept one within =
            let short : lines ≤ (i + 1) * width = subst (λ n. lines ≤ (n + 1) * width) (sym e) within in
            most_at (taken t) (ended * width) (i * width) lines (min ((i + 1) * width) lines) was.since (slice_index peak.columns.items i)
            (ap (λ n. n * width) (sym e)) (omega (arith, short)) (sym at_end ∙ ap (λ n. slice_index peak.columns.items n) (sym e)) is.since
        at (inr (inl below)) was is at_end kept one within =
            subst (IsMostTaken (taken t) (i * width) (min ((i + 1) * width) lines)) (sym (kept below)) (before was is below)
        at (inr (inr above)) was is at_end kept one within = absurd (omega (arith, less, one, above))

-- after the history has ended, and the peaks with it, they have the most taken frames of the history's columns
pub history_ended : (taken : ℕ → ℕ → ℕ) (old new : History) (peaks wide done : Peaks)
    → 0 < most_columns_of old → line_count old ≤ 2 ^ 30 → line_count new ≡ line_count old → most_columns_of new ≡ most_columns_of old
    → length (columns_of new) ≤ most_columns_of new
    → IsEven (columns_of old) (width_of old) (line_count old) → IsComplete (columns_of new) (width_of new) (line_count new)
    → (width_of new ≡ width_of old) ⊎ Doubles old new → vec_len done.of_tenants ≡ vec_len peaks.of_tenants
    → HaveWidened (width_of new) peaks wide → HaveEnded (length (columns_of new)) wide done
    → KeepMost taken old peaks → HaveMost taken new done
history_ended taken old new peaks wide done some small lines most few even complete full tenants widened ended keep t i peak there less =
    subst (λ l. IsMostTaken (taken t) (i * width_of new) (min ((i + 1) * width_of new) l) (slice_index peak.columns.items i)) (sym lines) (go full)
  where
    first : (before : Peak) × (slice_get peaks.of_tenants.items t ≡ Some before)
    first = within done peaks t peak tenants there

    n : ℕ
    n = length (columns_of old)

    w : ℕ
    w = width_of old

    l : ℕ
    l = line_count old

    is_width : peaks.width ≡ w
    is_width = (keep t first.0 first.1).0

    is_ended : peaks.ended ≡ n
    is_ended = (keep t first.0 first.1).1

    are : ArePeaks taken l w n (most_columns_of old) peaks
    are u it here = (keep u it here).2

    all' : l ≤ length (columns_of new) * width_of new
    all' = subst (λ x. x ≤ length (columns_of new) * width_of new) lines complete.all

    few' : length (columns_of new) * width_of new < l + width_of new
    few' = subst (λ x. length (columns_of new) * width_of new < x + width_of new) lines complete.few

    fits : length (columns_of new) ≤ most_columns_of old
    fits = omega (arith, few, most)

    go : (width_of new ≡ w) ⊎ Doubles old new
        → IsMostTaken (taken t) (i * width_of new) (min ((i + 1) * width_of new) l) (slice_index peak.columns.items i)
    go (inl same) =
        subst (λ x. IsMostTaken (taken t) (i * x) (min ((i + 1) * x) l) (slice_index peak.columns.items i)) (sym same)
        (last_ends taken l w n (length (columns_of new)) (most_columns_of old) wide done ended
        (last_same n w l (length (columns_of new)) even.some even.all (subst (λ x. l ≤ length (columns_of new) * x) same all')
        (subst (λ x. length (columns_of new) * x < l + x) same few'))
        even.some fits
        (not_wider taken l w n (most_columns_of old) peaks wide (subst (λ x. HaveWidened x peaks wide) same widened) is_width is_ended are)
        t i peak there less)
    go (inr double) =
        let least : 1 * w ≤ n * w = mul-le-mul_right w (omega (arith, some, double.0)) in
        let twice : width_of new ≡ 2 * w = (let e = double.1 in omega (arith, e, least, even.some, small)) in
        let positive : 0 < w = factor_below 0 w 1 (omega (arith, even.some, even.all)) in
        let last = last_twice n w l (length (columns_of new)) even.some even.all (subst (λ x. l ≤ length (columns_of new) * x) twice all')
        (subst (λ x. length (columns_of new) * x < l + x) twice few') in
        subst (λ x. IsMostTaken (taken t) (i * x) (min ((i + 1) * x) l) (slice_index peak.columns.items i)) (sym twice)
        (last_ends taken l (2 * w) (n / 2) (length (columns_of new)) (most_columns_of old) wide done ended last.1 last.0 fits
        (wider taken l w n (most_columns_of old) peaks wide (subst (λ x. HaveWidened x peaks wide) twice widened) is_width positive is_ended
        (omega (arith, double.0)) even.some are)
        t i peak there less)
