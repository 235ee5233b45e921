-- The most taken frames of a tenant, when one more line is run, columns are joined, or a column ends.
use Rattle.std.proofs.Common.{◌≡◌, ◌≢◌, ℕ, ◌+◌, ◌-◌, ◌*◌, ◌/◌, ◌%◌, ◌<◌, ◌≤◌, max, ap, refl, subst, sym, ◌∙◌, ◌⊎◌, inl, inr, arith, zero, suc, List, [], ◌∷◌, ◌++◌, slice_get, slice_index, slice_set, Some, vec_len}
use Rattle.std.proofs.lemmas.Bool.{cases_order}
use Rattle.std.proofs.lemmas.List.{get_or-set_same, get_or-set_other}
use Rattle.std.proofs.Math.Nat.{mul-le-mul_right}
use Rattle.frame_picture.proofs.Greatest.{greatest_both, greatest_one}
use Rattle.framemap.specs.declared.peaks.Peak.{Peak}
use Rattle.framemap.specs.Peaks.{IsEnded, IsMostTaken, IsPeak}

-- the same most, with equal bounds
pub most_at : (taken : ℕ → ℕ) (a a' b b' n n' : ℕ) → a ≡ a' → b ≡ b' → n ≡ n' → IsMostTaken taken a b n → IsMostTaken taken a' b' n'
most_at taken a a' b b' n n' is_a is_b is_n most =
    subst (IsMostTaken taken a' b') is_n (subst (λ x. IsMostTaken taken a' x n) is_b (subst (λ x. IsMostTaken taken x b n) is_a most))

-- the most of two adjacent ranges
pub most_both : (taken : ℕ → ℕ) (a b c x y : ℕ) → a ≤ b → b ≤ c → IsMostTaken taken a b x → IsMostTaken taken b c y → IsMostTaken taken a c (max y x)
most_both taken a b c x y up on first second =
    greatest_both (λ n. (j : ℕ) × (a ≤ j) × (j ≤ b) × (taken j ≡ n)) (λ n. (j : ℕ) × (b ≤ j) × (j ≤ c) × (taken j ≡ n))
    (λ n. (j : ℕ) × (a ≤ j) × (j ≤ c) × (taken j ≡ n)) 0 x y first second
    (λ n is. (is.0, is.1, (let le : is.0 ≤ b = is.2 in omega arith), is.3))
    (λ n is. (is.0, (let le : b ≤ is.0 = is.1 in omega arith), is.2, is.3))
    (λ n is. split n is.0 is.1 is.2 is.3 (cases_order is.0 b))
  where
    split : (n j : ℕ) → a ≤ j → j ≤ c → taken j ≡ n → (j ≡ b) ⊎ ((j < b) ⊎ (b < j))
        → ((j : ℕ) × (a ≤ j) × (j ≤ b) × (taken j ≡ n)) ⊎ ((j : ℕ) × (b ≤ j) × (j ≤ c) × (taken j ≡ n))
    split n j from to is (inl e) = inl (j, from, omega arith, is)
    split n j from to is (inr (inl below)) = inl (j, from, omega arith, is)
    split n j from to is (inr (inr above)) = inr (j, omega arith, to, is)

-- the most of one number
pub most_one : (taken : ℕ → ℕ) (a : ℕ) → IsMostTaken taken a a (taken a)
most_one taken a = record {
  above = omega arith;
  all = λ n is.
      let e : is.0 ≡ a = (let from : a ≤ is.0 = is.1 in let to : is.0 ≤ a = is.2 in omega arith) in
      let same : taken a ≡ n = sym (ap taken e) ∙ is.3 in omega arith;
  some = inr (a, omega arith, omega arith, refl);
}

-- the most of a range and of the number after it
pub most_more : (taken : ℕ → ℕ) (a l x v : ℕ) → a ≤ l → taken (l + 1) ≡ v → IsMostTaken taken a l x → IsMostTaken taken a (l + 1) (max v x)
most_more taken a l x v from is first =
    greatest_both (λ n. (j : ℕ) × (a ≤ j) × (j ≤ l) × (taken j ≡ n)) (λ n. n ≡ v)
    (λ n. (j : ℕ) × (a ≤ j) × (j ≤ l + 1) × (taken j ≡ n)) 0 x v first (greatest_one v)
    (λ n it. (it.0, it.1, (let le : it.0 ≤ l = it.2 in omega arith), it.3))
    (λ n e. (l + 1, omega arith, omega arith, is ∙ sym e))
    (λ n it. split n it.0 it.1 it.2 it.3 (cases_order it.0 (l + 1)))
  where
    split : (n j : ℕ) → a ≤ j → j ≤ l + 1 → taken j ≡ n → (j ≡ l + 1) ⊎ ((j < l + 1) ⊎ (l + 1 < j))
        → ((j : ℕ) × (a ≤ j) × (j ≤ l) × (taken j ≡ n)) ⊎ (n ≡ v)
    split n j low high at (inl e) = inr (sym at ∙ ap taken e ∙ is)
    split n j low high at (inr (inl below)) = inl (j, low, omega arith, at)
    split n j low high at (inr (inr above)) = absurd (omega arith)

-- if one more line leaves the number of taken frames as it is, it leaves the peak as it is
pub unchanged : (taken : ℕ → ℕ) (lines width ended most_columns : ℕ) (peak : Peak) → taken (lines + 1) ≡ taken lines → ended * width ≤ lines
    → IsPeak taken lines width ended most_columns peak → IsPeak taken (lines + 1) width ended most_columns peak
unchanged taken lines width ended most_columns peak same from is = record {
  now = is.now ∙ sym same;
  each = is.each;
  since =
      let among : taken lines ≤ peak.since = is.since.all (taken lines) (lines, from, omega arith, refl) in
      most_at taken (ended * width) (ended * width) (lines + 1) (lines + 1) (max (taken lines) peak.since) peak.since refl refl (omega arith)
      (most_more taken (ended * width) lines peak.since (taken lines) from same is.since);
  fits = is.fits;
}

-- the most of each joined column, and of the lines after them
pub joined : (taken : ℕ → ℕ) (lines width ended most_columns since : ℕ) (columns : ℕ → ℕ) (old : Peak) → ended * width ≤ lines
    → IsPeak taken lines width ended most_columns old
    → ((i : ℕ) → i < ended / 2 → columns i ≡ max (slice_index old.columns.items (2 * i)) (slice_index old.columns.items (2 * i + 1)))
    → (ended % 2 ≡ 1 → since ≡ max old.since (slice_index old.columns.items (ended - 1))) → (ended % 2 ≢ 1 → since ≡ old.since)
    → ((i : ℕ) → i < ended / 2 → IsMostTaken taken (i * (2 * width)) ((i + 1) * (2 * width)) (columns i))
    × IsMostTaken taken (ended / 2 * (2 * width)) lines since
joined taken lines width ended most_columns since columns old reach is pairs odd even =
    (each, rest (cases_order (ended % 2) 1))
  where
    column : ℕ → ℕ
    column = slice_index old.columns.items

    each : (i : ℕ) → i < ended / 2 → IsMostTaken taken (i * (2 * width)) ((i + 1) * (2 * width)) (columns i)
    each i less =
        most_at taken (2 * i * width) (i * (2 * width)) ((2 * i + 1 + 1) * width) ((i + 1) * (2 * width))
        (max (column (2 * i + 1)) (column (2 * i))) (columns i) (omega arith) (omega arith)
        (let here : columns i ≡ max (column (2 * i)) (column (2 * i + 1)) = pairs i less in omega arith)
        (most_both taken (2 * i * width) ((2 * i + 1) * width) ((2 * i + 1 + 1) * width) (column (2 * i)) (column (2 * i + 1))
        (omega arith) (omega arith) (is.each (2 * i) (omega arith)) (is.each (2 * i + 1) (omega arith)))

    whole : ended ≡ 2 * (ended / 2) → since ≡ old.since → IsMostTaken taken (ended / 2 * (2 * width)) lines since
    whole halves same =
        let begin : ended * width ≡ ended / 2 * (2 * width) = ap (λ n. n * width) halves ∙ omega arith in
        most_at taken (ended * width) (ended / 2 * (2 * width)) lines lines old.since since begin refl (sym same) is.since

    left_over : ended ≡ 2 * (ended / 2) + 1 → since ≡ max old.since (column (ended - 1)) → IsMostTaken taken (ended / 2 * (2 * width)) lines since
    left_over halves more =
        let last : ℕ = ended - 1 in
        let next : last + 1 ≡ ended = omega arith in
        let begin : last * width ≡ ended / 2 * (2 * width) =
        ap (λ n. n * width) (let e : last ≡ 2 * (ended / 2) = omega arith in e) ∙ omega arith in
        let end : (last + 1) * width ≡ ended * width = ap (λ n. n * width) next in
        let before : IsMostTaken taken (last * width) (ended * width) (column last) =
        most_at taken (last * width) (last * width) ((last + 1) * width) (ended * width) (column last) (column last) refl end refl
        (is.each last (omega arith)) in
        let up : last * width ≤ ended * width = mul-le-mul_right width (omega arith) in
        most_at taken (last * width) (ended / 2 * (2 * width)) lines lines (max old.since (column last)) since begin refl (sym more)
        (most_both taken (last * width) (ended * width) lines (column last) old.since up reach before is.since)

    rest : (ended % 2 ≡ 1) ⊎ ((ended % 2 < 1) ⊎ (1 < ended % 2)) → IsMostTaken taken (ended / 2 * (2 * width)) lines since
    rest (inl e) = left_over (omega arith) (odd e)
    rest (inr (inl none)) = whole (omega arith) (even (λ e. absurd (omega arith)))
    rest (inr (inr many)) = absurd (omega arith)

-- one more column has ended after `ended` others, with the most taken frames since these
pub ended_is : (ended : ℕ) (old new : Peak) → ended < vec_len old.columns → new.now ≡ old.now → new.since ≡ old.now
    → vec_len new.columns ≡ vec_len old.columns → new.columns.items ≡ slice_set old.columns.items ended old.since → IsEnded ended old new
ended_is ended old new room now since long items = record {
  whole = λ taken lines width most_columns few full is. record {
    now = now ∙ is.now;
    each = λ i less. each taken lines width most_columns full is i less (cases_order i ended);
    since = most_at taken lines ((ended + 1) * width) lines lines (taken lines) new.since full refl (sym (since ∙ is.now)) (most_one taken lines);
    fits = omega (arith, long, is.fits);
  };
  last = λ _. here;
  kept = λ i less. other i (omega (arith, less));
}
  where
    here : slice_index new.columns.items ended ≡ old.since
    here = ap (λ (xs : List ℕ). slice_index xs ended) items
        ∙ get_or-set_same old.columns.items ended old.since 0 (omega (arith, room, old.columns.ok.0))

    other : (i : ℕ) → i ≢ ended → slice_index new.columns.items i ≡ slice_index old.columns.items i
    other i e = ap (λ (xs : List ℕ). slice_index xs i) items ∙ get_or-set_other old.columns.items ended i old.since 0 e

    each : (taken : ℕ → ℕ) (lines width most_columns : ℕ) → lines ≡ (ended + 1) * width → IsPeak taken lines width ended most_columns old
        → (i : ℕ) → i < ended + 1 → (i ≡ ended) ⊎ ((i < ended) ⊎ (ended < i))
        → IsMostTaken taken (i * width) ((i + 1) * width) (slice_index new.columns.items i)
    each taken lines width most_columns full is i less (inl e) =
        most_at taken (ended * width) (i * width) lines ((i + 1) * width) old.since (slice_index new.columns.items i)
        (ap (λ n. n * width) (sym e)) (full ∙ ap (λ n. (n + 1) * width) (sym e))
        (sym here ∙ ap (λ n. slice_index new.columns.items n) (sym e)) is.since
    each taken lines width most_columns full is i less (inr (inl below)) =
        most_at taken (i * width) (i * width) ((i + 1) * width) ((i + 1) * width) (slice_index old.columns.items i) (slice_index new.columns.items i)
        refl refl (sym (other i (omega (arith, below)))) (is.each i below)
    each taken lines width most_columns full is i less (inr (inr above)) = absurd (omega (arith, less, above))

-- if a property holds of each peak of a list, and of one more, it holds of each peak after this one is added at the end
pub all_more : (P : Peak → Type 0) (xs : List Peak) (y : Peak) → ((t : ℕ) (x : Peak) → slice_get xs t ≡ Some x → P x) → P y
    → (t : ℕ) (x : Peak) → slice_get (xs ++ y ∷ []) t ≡ Some x → P x
all_more P [] y all one zero x is = let same : y ≡ x = cc in subst P same one
all_more P [] y all one (suc t) x is = absurd (cc)
all_more P (z ∷ xs) y all one zero x is = all zero x is
all_more P (z ∷ xs) y all one (suc t) x is = all_more P xs y (λ k v there. all (suc k) v there) one t x is
