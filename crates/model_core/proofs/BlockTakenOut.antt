-- How the open blocks change when the frames of one block no longer pass a test. A block is open under a test if all its frames
-- pass, and it is a whole slot or the block of the next order around it has a frame that fails. Read forwards, the change is a
-- reservation with its splits; read backwards, it is a release with its joins. If the block is a whole slot, the slot is taken
-- back or granted.
use Rattle.std.proofs.Common.{◌≡◌, ◌⊎◌, inl, inr, refl, sym, ◌∙◌, ap, ℕ, suc, ◌/◌, ◌<◌, ◌≤◌, Bool, true, false, arith}
use Rattle.std.proofs.lemmas.Bool.{both_ways, cases_lt, cases_eq, false_from_ne_true}
use Rattle.model_core.specs.Numbered.{number_at, is_clear, IsOpen}
use Rattle.model_core.proofs.BlockHalves.{clear_below, clear_at, same_above, clear_same, clear_more, one_open}

-- The frames that pass `small` are those that pass `large`, except the frames of the block of order k around f. This block lies
-- in the block of order j around f, which is open under `large`.
pub record TakesOut (large small : ℕ → Bool) (top f k j : ℕ) : Type 0 where
  pub order : k ≤ j
  pub open_block : IsOpen large top j (number_at j f)
  pub inside : (x : ℕ) → number_at k x ≡ number_at k f → small x ≡ false
  pub outside : (x : ℕ) → (number_at k x ≡ number_at k f → ⊥) → small x ≡ large x

-- the blocks of order i around x and around f are the two halves of one block
pub record IsOtherHalf (f i x : ℕ) : Type 0 where
  pub other : number_at i x ≡ number_at i f → ⊥
  pub one_whole : number_at (suc i) x ≡ number_at (suc i) f

module _ (large small : ℕ → Bool) (top f k j : ℕ) (out : TakesOut large small top f k j) where
  -- a block is clear under a test if all its frames pass; no block around f is clear under `small`
  without_f : (i x : ℕ) → is_clear small i (number_at i x) ≡ true → number_at i x ≡ number_at i f → ⊥
  without_f i x clear same = both_ways (small f) (out.inside f refl) (clear_at small i f (ap (is_clear small i) (sym same) ∙ clear))

  -- a block of order k or more that is not around f is clear under `small` if and only if it is clear under `large`
  off_above : (i x : ℕ) → k ≤ i → (number_at i x ≡ number_at i f → ⊥) → is_clear small i (number_at i x) ≡ is_clear large i (number_at i x)
  off_above i x le ne = clear_same small large i (number_at i x) (λ y e. out.outside y (λ same. ne (sym e ∙ same_above y f k i le same)))

  off_below : (i x : ℕ) → i ≤ k → (number_at k x ≡ number_at k f → ⊥) → is_clear small i (number_at i x) ≡ is_clear large i (number_at i x)
  off_below i x le ne = clear_same small large i (number_at i x) (λ y e. out.outside y (λ same. ne (same_above x y i k le (sym e) ∙ same)))

  fewer : (y : ℕ) → small y ≡ true → large y ≡ true
  fewer y pass = go (cases_eq (number_at k y) (number_at k f))
    where
      go : (number_at k y ≡ number_at k f) ⊎ (number_at k y ≡ number_at k f → ⊥) → large y ≡ true
      go (inl same) = absurd (both_ways (small y) (out.inside y same) pass)
      go (inr ne) = sym (out.outside y ne) ∙ pass

  -- no block around f that is larger than the open block is clear under `large`
  not_above : (i : ℕ) → j < i → i ≤ top → is_clear large i (number_at i f) ≡ true → ⊥
  not_above i above le clear = go out.open_block.2
    where
      go : (j ≡ top) ⊎ (is_clear large (suc j) (number_at j f / 2) ≡ false) → ⊥
      go (inl e) = omega arith
      go (inr fails) = both_ways _ fails (clear_below large f (suc j) i (omega arith) clear)

  -- A block that is open under `small` is the other half at one of the splits, or it is open under `large`. In the second case it
  -- is not the open block of order j around f.
  pub open_after : (i x : ℕ) → IsOpen small top i (number_at i x)
      → (IsOpen large top i (number_at i x) × (i ≡ j → number_at i x ≡ number_at i f → ⊥)) ⊎ ((k ≤ i) × (i < j) × IsOtherHalf f i x)
  open_after i x (le, clear, end) = go (cases_lt i k)
    where
      off : number_at i x ≡ number_at i f → ⊥
      off same = without_f i x clear same

      below : i < k → (i ≡ top) ⊎ (is_clear small (suc i) (number_at i x / 2) ≡ false) → (number_at k x ≡ number_at k f → ⊥)
          → (IsOpen large top i (number_at i x) × (i ≡ j → number_at i x ≡ number_at i f → ⊥)) ⊎ ((k ≤ i) × (i < j) × IsOtherHalf f i x)
      below lt (inl e) ne = inl ((le, sym (off_below i x (omega arith) ne) ∙ clear, inl e), λ _ same. off same)
      below lt (inr fails) ne = inl ((le, sym (off_below i x (omega arith) ne) ∙ clear, inr (sym (off_below (suc i) x (omega arith) ne) ∙ fails)), λ _ same. off same)

      was_clear : k ≤ i → is_clear large i (number_at i x) ≡ true
      was_clear up = sym (off_above i x up off) ∙ clear

      joined : k ≤ i → (i < j) ⊎ (j ≤ i) → (i ≡ top) ⊎ (i ≡ top → ⊥) → number_at (suc i) x ≡ number_at (suc i) f
          → (IsOpen large top i (number_at i x) × (i ≡ j → number_at i x ≡ number_at i f → ⊥)) ⊎ ((k ≤ i) × (i < j) × IsOtherHalf f i x)
      joined up (inl lt) _ whole = inr (up, lt, record { other = off; one_whole = whole })
      joined up (inr ge) (inl e) whole = inl ((le, was_clear up, inl e), λ _ same. off same)
      joined up (inr ge) (inr ne) whole = inl ((le, was_clear up, inr (false_from_ne_true _ (λ full. not_above (suc i) (omega arith) (omega arith) (ap (is_clear large (suc i)) (sym whole) ∙ full)))), λ _ same. off same)

      above : k ≤ i → (i ≡ top) ⊎ (is_clear small (suc i) (number_at i x / 2) ≡ false) → (number_at (suc i) x ≡ number_at (suc i) f) ⊎ (number_at (suc i) x ≡ number_at (suc i) f → ⊥)
          → (IsOpen large top i (number_at i x) × (i ≡ j → number_at i x ≡ number_at i f → ⊥)) ⊎ ((k ≤ i) × (i < j) × IsOtherHalf f i x)
      above up (inl e) _ = inl ((le, was_clear up, inl e), λ _ same. off same)
      above up (inr fails) (inl whole) = joined up (cases_lt i j) (cases_eq i top) whole
      above up (inr fails) (inr ne) = inl ((le, was_clear up, inr (sym (off_above (suc i) x (omega arith) ne) ∙ fails)), λ _ same. off same)

      go : (i < k) ⊎ (k ≤ i) → (IsOpen large top i (number_at i x) × (i ≡ j → number_at i x ≡ number_at i f → ⊥)) ⊎ ((k ≤ i) × (i < j) × IsOtherHalf f i x)
      go (inl lt) = below lt end (λ same. both_ways (small x) (out.inside x same) (clear_at small i x clear))
      go (inr up) = above up end (cases_eq (number_at (suc i) x) (number_at (suc i) f))

  -- every block that is open under `large`, except the block of order j around f, is open under `small`
  pub open_stays : (i x : ℕ) → IsOpen large top i (number_at i x) → (i ≡ j → number_at i x ≡ number_at i f → ⊥) → IsOpen small top i (number_at i x)
  open_stays i x (le, clear, end) other = (le, still (cases_lt i k), ending end)
    where
      off_open : number_at j x ≡ number_at j f → ⊥
      off_open same = apart (one_open large top i j x (le, clear, end) (out.open_block.0, ap (is_clear large j) same ∙ out.open_block.1, around out.open_block.2))
        where
          around : (j ≡ top) ⊎ (is_clear large (suc j) (number_at j f / 2) ≡ false) → (j ≡ top) ⊎ (is_clear large (suc j) (number_at j x / 2) ≡ false)
          around (inl e) = inl e
          around (inr fails) = inr (ap (λ n. is_clear large (suc j) (n / 2)) same ∙ fails)

          apart : i ≡ j → ⊥
          apart e = other e (ap (λ n. number_at n x) e ∙ same ∙ ap (λ n. number_at n f) (sym e))

      off : number_at i x ≡ number_at i f → ⊥
      off same = go (cases_lt j i)
        where
          go : (j < i) ⊎ (i ≤ j) → ⊥
          go (inl lt) = not_above i lt le (ap (is_clear large i) (sym same) ∙ clear)
          go (inr ge) = off_open (same_above x f i j ge same)

      still : (i < k) ⊎ (k ≤ i) → is_clear small i (number_at i x) ≡ true
      still (inl lt) = off_below i x (omega arith) (λ same. off_open (same_above x f k j out.order same)) ∙ clear
      still (inr up) = off_above i x up off ∙ clear

      ending : (i ≡ top) ⊎ (is_clear large (suc i) (number_at i x / 2) ≡ false) → (i ≡ top) ⊎ (is_clear small (suc i) (number_at i x / 2) ≡ false)
      ending (inl e) = inl e
      ending (inr fails) = inr (false_from_ne_true _ (λ full. both_ways _ fails (clear_more small large (suc i) x fewer full)))

  -- the other half at each split is open under `small`
  pub open_half : (i x : ℕ) → k ≤ i → i < j → IsOtherHalf f i x → IsOpen small top i (number_at i x)
  open_half i x up lt half = (omega (arith, out.open_block.0), off_above i x up half.other ∙ was_clear, inr (false_from_ne_true _ (λ full. without_f (suc i) x full half.one_whole)))
    where
      was_clear : is_clear large i (number_at i x) ≡ true
      was_clear = clear_below large x i j (omega arith) (ap (is_clear large j) (same_above x f (suc i) j (omega arith) half.one_whole) ∙ out.open_block.1)
