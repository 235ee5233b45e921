-- The grids and bands of the tenants of a picture, one after the other.
use Rattle.std.proofs.Common.{◌≡◌, ℕ, ◌+◌, ◌*◌, ◌^◌, ◌<◌, ◌≤◌, List, [], ◌∷◌, ◌++◌, Some, length, max, take, slice_get, ap, refl, subst, sym, ◌∙◌, ◌⊎◌, inl, inr, arith, append_assoc, append-nil, length-take}
use Rattle.std.proofs.lemmas.Bool.{cases_order}
use Rattle.std.proofs.lemmas.List.{get_or-take}
use Rattle.std.proofs.lemmas.Option.{slice_get_within, slice_get-get_or, get_or_from_slice_get}
use Rattle.std.specs.Int.{div_ceil}
use Rattle.frame_picture.specs.declared.grid.Grid.{Grid}
use Rattle.frame_picture.specs.declared.history.History.{History}
use Rattle.frame_picture.specs.Bounds.{IsGreatest, IsLeastPower}
use Rattle.frame_picture.specs.Grids.{IsGridOf}
use Rattle.picture_svg.specs.declared.picture.Picture.{Picture}
use Rattle.picture_svg.specs.Pictures.{bottom_of, drawn_tenants, most_rows_of, rows_of, AreBands, IsBandOf}
use Rattle.picture_svg.specs.Sizes.{band_height, lower}

-- ---- the history, the tenant and the largest number of rows determine the number of rows of a grid

greatest_unique : (P : ℕ → Type 0) (lowest a b : ℕ) → IsGreatest P lowest a → IsGreatest P lowest b → a ≡ b
greatest_unique P lowest a b first second = let le : a ≤ b = upto a b first second in let ge : b ≤ a = upto b a second first in omega arith
  where
    upto : (a b : ℕ) → IsGreatest P lowest a → IsGreatest P lowest b → a ≤ b
    upto a b first second = go first.some
      where
        go : (a ≡ lowest) ⊎ P a → a ≤ b
        go (inl e) = let above : lowest ≤ b = second.above in omega arith
        go (inr p) = second.all a p

power_unique : (P : ℕ → Type 0) (otherwise a b : ℕ) → IsLeastPower P otherwise a → IsLeastPower P otherwise b → a ≡ b
power_unique P otherwise a b (inl first) (inl second) = go (cases_order first.0 second.0)
  where
    go : (first.0 ≡ second.0) ⊎ ((first.0 < second.0) ⊎ (second.0 < first.0)) → a ≡ b
    go (inl e) = first.2 ∙ ap (λ k. 2 ^ k) e ∙ sym second.2
    go (inr (inl below)) = absurd (second.4 first.0 below first.3)
    go (inr (inr above)) = absurd (first.4 second.0 above second.3)
power_unique P otherwise a b (inl first) (inr second) = absurd (second.1 first.0 first.1 first.3)
power_unique P otherwise a b (inr first) (inl second) = absurd (first.1 second.0 second.1 second.3)
power_unique P otherwise a b (inr first) (inr second) = first.0 ∙ sym second.0

same_rows : (history : History) (t most : ℕ) (a b : Grid) → IsGridOf history t most a → IsGridOf history t most b → a.rows ≡ b.rows
same_rows history t most a b first second =
    let slots : first.slots ≡ second.slots = greatest_unique _ 1 first.slots second.slots first.held second.held in
    let order : a.order ≡ b.order = first.order ∙ sym second.order in
    let frames : a.frames ≡ b.frames =
    first.frames ∙ ap (λ n. n * 2 ^ a.order) slots ∙ ap (λ k. second.slots * 2 ^ k) order ∙ sym second.frames in
    let size : a.frames_per_row ≡ b.frames_per_row =
    power_unique (λ size. div_ceil b.frames size ≤ most) (max b.frames 1) a.frames_per_row b.frames_per_row
    (subst (λ frames. IsLeastPower (λ size. div_ceil frames size ≤ most) (max frames 1) a.frames_per_row) frames first.row) second.row in
    a.all ∙ ap (λ n. div_ceil n a.frames_per_row) frames ∙ ap (div_ceil b.frames) size ∙ sym b.all

-- ---- the grids of the tenants from tenant t on

abbrev pub AreGrids : History → ℕ → ℕ → List Grid → Type 0
AreGrids history most t [] = Unit {0}
AreGrids history most t (grid ∷ grids) = IsGridOf history t most grid × AreGrids history most (t + 1) grids

pub grids_push : (history : History) (most t k : ℕ) (grids : List Grid) (grid : Grid) → t + length grids ≡ k → AreGrids history most t grids
    → IsGridOf history k most grid → AreGrids history most t (grids ++ grid ∷ [])
grids_push history most t k [] grid e are is = (subst (λ u. IsGridOf history u most grid) (let e' : k ≡ t = omega arith in e') is, tt)
grids_push history most t k (x ∷ grids) grid e are is = (are.0, grids_push history most (t + 1) k grids grid (omega arith) are.1 is)

pub same_heights : (history : History) (most t : ℕ) (xs ys : List Grid) → length xs ≡ length ys → AreGrids history most t xs → AreGrids history most t ys
    → rows_of xs ≡ rows_of ys
same_heights history most t [] [] e first second = refl
same_heights history most t [] (y ∷ ys) e first second = absurd (omega arith)
same_heights history most t (x ∷ xs) [] e first second = absurd (omega arith)
same_heights history most t (x ∷ xs) (y ∷ ys) e first second =
    ap (λ n. n ∷ rows_of xs) (same_rows history t most x y first.0 second.0)
    ∙ ap (λ rows. y.rows ∷ rows) (same_heights history most (t + 1) xs ys (omega arith) first.1 second.1)

-- with one more band, the bands end lower by the height of this band
pub bottom_push : (top : ℕ) (grids : List Grid) (grid : Grid)
    → bottom_of top (rows_of (grids ++ grid ∷ [])) ≡ lower (bottom_of top (rows_of grids)) (band_height grid.rows)
bottom_push top [] grid = refl
bottom_push top (x ∷ grids) grid = bottom_push (lower top (band_height x.rows)) grids grid

-- ---- the bands

pub grids_of_bands : (picture : Picture) (history : History) (t top : ℕ) (grids : List Grid) (text : List ℕ) → AreBands picture history t top grids text
    → AreGrids history (most_rows_of (drawn_tenants picture)) t grids
grids_of_bands picture history t top [] text are = tt
grids_of_bands picture history t top (grid ∷ grids) text are =
    (are.2.is_grid, grids_of_bands picture history (t + 1) (lower top (band_height grid.rows)) grids are.1 are.3)

-- Let `text` be the bands of the tenants from t to k - 1. If the band of tenant k begins where these bands end, `text` with this
-- band appended is the text of the bands of the tenants from t to k.
pub bands_push : (picture : Picture) (history : History) (t top k bottom : ℕ) (grids : List Grid) (grid : Grid) (text band : List ℕ) → t + length grids ≡ k
    → bottom_of top (rows_of grids) ≡ bottom → AreBands picture history t top grids text → IsBandOf picture history k grid bottom band
    → AreBands picture history t top (grids ++ grid ∷ []) (text ++ band)
bands_push picture history t top k bottom [] grid text band e at are is = (
  band,
  [],
  subst (λ b. IsBandOf picture history t grid b band) (sym at)
      (subst (λ u. IsBandOf picture history u grid bottom band) (let e' : k ≡ t = omega arith in e') is),
  refl,
  ap (λ s. s ++ band) are ∙ sym (append-nil band),
)
bands_push picture history t top k bottom (x ∷ grids) grid text band e at are is = (
  are.0,
  are.1 ++ band,
  are.2,
  bands_push picture history (t + 1) (lower top (band_height x.rows)) k bottom grids grid are.1 band (omega arith) at are.3 is,
  ap (λ s. s ++ band) are.4 ∙ append_assoc are.0 are.1 band,
)

-- element k of the first n elements is element k of all of them
pub in_front : {X : Type 0} (xs : List X) (n k : ℕ) (x : X) → slice_get (take n xs) k ≡ Some x → slice_get xs k ≡ Some x
in_front xs n k x there =
    let within : k < length (take n xs) = slice_get_within (take n xs) k x there in
    let less : k < n = omega (arith, length-take n xs) in
    let long : k < length xs = omega (arith, length-take n xs) in
    slice_get-get_or xs k x long ∙ ap Some (sym (get_or-take n xs k x less) ∙ get_or_from_slice_get (take n xs) k x x there)
