-- Lemmas for the text of a band's cells, which has a path for each kind and tone: what is true of the paths written so far stays
-- true when the path of one more tone, or those of one more kind, are appended.
use Rattle.std.proofs.Common.{◌≡◌, ℕ, zero, suc, ◌+◌, ◌*◌, ◌/◌, ◌^◌, ◌<◌, Bool, true, false, List, [], ◌∷◌, ◌++◌, Option, length, get_or, take, filter, codes, ap, refl, subst, sym, ◌∙◌, append_assoc, append-nil, arith, Bor}
use Rattle.std.proofs.lemmas.Bool.{cond-true, cond-false}
use Rattle.std.proofs.lemmas.List.Elements.{filter_more}
use Rattle.std.proofs.lemmas.List.{take_more}
use Rattle.std.specs.Fmt.{decimal}
use Rattle.std.specs.List.{AllZip, concat}
use Rattle.kernel_core.specs.declared.frames.FrameKind.{FrameKind}
use Rattle.frame_picture.specs.declared.drawing.Tone.{Tone}
use Rattle.frame_picture.specs.declared.grid.Grid.{Grid}
use Rattle.frame_picture.specs.declared.kinds.TheConstants.{ALL}
use Rattle.picture_svg.specs.declared.svg.TheConstants.{LEFT, WIDTH}
use Rattle.picture_svg.specs.Cells.{group_begin, shade_of, AreKindPaths, AreShadePaths, IsTonePath}
use Rattle.picture_svg.specs.Sizes.{row_height}
use Rattle.picture_svg.specs.Texts.{parts_text, AppendsText}

pub zip_push : {A B : Type 0} (R : A → B → Type 0) (xs : List A) (ys : List B) (x : A) (y : B) → AllZip R xs ys → R x y
    → AllZip R (xs ++ x ∷ []) (ys ++ y ∷ [])
zip_push R [] [] x y zip here = (here, tt)
zip_push R [] (z ∷ ys) x y zip here = absurd zip
zip_push R (z ∷ xs) [] x y zip here = absurd zip
zip_push R (z ∷ xs) (v ∷ ys) x y zip here = (zip.0, zip_push R xs ys x y zip.1 here)

pub concat_push : (texts : List (List ℕ)) (text : List ℕ) → concat texts ++ text ≡ concat (texts ++ text ∷ [])
concat_push [] text = sym (append-nil text)
concat_push (x ∷ texts) text = append_assoc x (concat texts) text ∙ ap (λ t. x ++ t) (concat_push texts text)

-- Suppose that, of the first i elements, those that pass the filter are related to `ys`, one by one. If element i passes too and
-- is related to y, those of the first i + 1 elements that pass are related to `ys` with y appended.
pub kept_more : {A B : Type 0} (R : A → B → Type 0) (p : A → Bool) (xs : List A) (i : ℕ) (d : A) (ys : List B) (y : B) → i < length xs
    → p (get_or xs i d) ≡ true → AllZip R (filter p (take i xs)) ys → R (get_or xs i d) y → AllZip R (filter p (take (i + 1) xs)) (ys ++ y ∷ [])
kept_more R p xs i d ys y within passes zip here =
    subst (λ zs. AllZip R zs (ys ++ y ∷ []))
    (sym (filter_more p xs i d within ∙ ap (λ zs. filter p (take i xs) ++ zs) (cond-true (p (get_or xs i d)) (get_or xs i d ∷ []) [] passes)))
    (zip_push R (filter p (take i xs)) ys (get_or xs i d) y zip here)

-- Let the elements before element i that pass the filter be related to `ys`. If element i does not pass, the elements up to
-- element i that pass are related to `ys` too.
pub passed_over : {A B : Type 0} (R : A → B → Type 0) (p : A → Bool) (xs : List A) (i : ℕ) (d : A) (ys : List B) → i < length xs
    → p (get_or xs i d) ≡ false → AllZip R (filter p (take i xs)) ys → AllZip R (filter p (take (i + 1) xs)) ys
passed_over R p xs i d ys within fails zip =
    subst (λ zs. AllZip R zs ys)
    (sym (filter_more p xs i d within ∙ ap (λ zs. filter p (take i xs) ++ zs) (cond-false (p (get_or xs i d)) (get_or xs i d ∷ []) [] fails)
    ∙ append-nil (filter p (take i xs)))) zip

-- if the elements before element i are related to `ys` and element i is related to y, the elements up to element i are related
-- to `ys` with y appended
pub each_more : {A B : Type 0} (R : A → B → Type 0) (xs : List A) (i : ℕ) (d : A) (ys : List B) (y : B) → i < length xs
    → AllZip R (take i xs) ys → R (get_or xs i d) y → AllZip R (take (i + 1) xs) (ys ++ y ∷ [])
each_more R xs i d ys y within zip here =
    subst (λ zs. AllZip R zs (ys ++ y ∷ [])) (sym (take_more xs i d within)) (zip_push R (take i xs) ys (get_or xs i d) y zip here)

-- entry i of the table of shades is for rows with this many quarters of their frames taken
abbrev pub quarters_at : ℕ → ℕ
quarters_at i = get_or (1 ∷ 2 ∷ 3 ∷ 4 ∷ []) i 0

pub quarters_are : (a b c e : Bor (List ℕ)) (d : Bor (List ℕ) × ℕ) (i : ℕ) → i < 4
    → (get_or ((a, 1) ∷ (b, 2) ∷ (c, 3) ∷ (e, 4) ∷ []) i d).1 ≡ quarters_at i
quarters_are a b c e d zero less = refl
quarters_are a b c e d (suc zero) less = refl
quarters_are a b c e d (suc (suc zero)) less = refl
quarters_are a b c e d (suc (suc (suc zero))) less = refl
quarters_are a b c e d (suc (suc (suc (suc i)))) less = absurd (omega arith)

-- a path that was appended with the class and the quarters of entry i of the table of shades is the path for `quarters_at i`
-- quarters, with the class that `shade_of` gives them
pub tone_at : {old new : Option (List ℕ)} (columns : List (List Tone)) (rows : ℕ) (kind : FrameKind) (a b c e : Bor (List ℕ)) (d : Bor (List ℕ) × ℕ)
    (i : ℕ) → i < 4 → a.now ≡ codes " one" → b.now ≡ codes " two" → c.now ≡ codes " three" → e.now ≡ []
    → AppendsText old new (IsTonePath columns rows (record { kind = kind; quarters = (get_or ((a, 1) ∷ (b, 2) ∷ (c, 3) ∷ (e, 4) ∷ []) i d).1 })
    (get_or ((a, 1) ∷ (b, 2) ∷ (c, 3) ∷ (e, 4) ∷ []) i d).0.now)
    → AppendsText old new (IsTonePath columns rows (record { kind = kind; quarters = quarters_at i }) (shade_of (quarters_at i)))
tone_at {old} {new} columns rows kind a b c e d zero less one two three four h =
    subst (λ shade. AppendsText old new (IsTonePath columns rows (record { kind = kind; quarters = 1 }) shade)) one h
tone_at {old} {new} columns rows kind a b c e d (suc zero) less one two three four h =
    subst (λ shade. AppendsText old new (IsTonePath columns rows (record { kind = kind; quarters = 2 }) shade)) two h
tone_at {old} {new} columns rows kind a b c e d (suc (suc zero)) less one two three four h =
    subst (λ shade. AppendsText old new (IsTonePath columns rows (record { kind = kind; quarters = 3 }) shade)) three h
tone_at {old} {new} columns rows kind a b c e d (suc (suc (suc zero))) less one two three four h =
    subst (λ shade. AppendsText old new (IsTonePath columns rows (record { kind = kind; quarters = 4 }) shade)) four h
tone_at columns rows kind a b c e d (suc (suc (suc (suc i)))) less one two three four h = absurd (omega arith)

-- ---- the kinds

-- a kind other than `Free` and `NotHeld` has only the paths of its shades
pub taken_kind : (columns : List (List Tone)) (grid : Grid) (kind : FrameKind) (text : List ℕ) → (kind ≡ FrameKind.Free → ⊥) → (kind ≡ FrameKind.NotHeld → ⊥)
    → AreShadePaths columns grid kind text → AreKindPaths columns grid kind text
taken_kind columns grid FrameKind.Free text free none paths = absurd (free refl)
taken_kind columns grid FrameKind.NotHeld text free none paths = absurd (none refl)
taken_kind columns grid FrameKind.Page text free none paths = paths
taken_kind columns grid FrameKind.Full text free none paths = paths
taken_kind columns grid FrameKind.Partial text free none paths = paths
taken_kind columns grid FrameKind.Empty text free none paths = paths

-- if `paths` has the paths of the first i kinds and `text` has the paths of kind i, `paths` with `text` appended has the paths of
-- the first i + 1 kinds
pub kind_more : (columns : List (List Tone)) (grid : Grid) (i : ℕ) (kind : FrameKind) (paths : List (List ℕ)) (text : List ℕ) → i < 6 → get_or ALL i FrameKind.NotHeld ≡ kind
    → AllZip (AreKindPaths columns grid) (take i ALL) paths → AreKindPaths columns grid kind text
    → AllZip (AreKindPaths columns grid) (take (i + 1) ALL) (paths ++ text ∷ [])
kind_more columns grid i kind paths text less is before here =
    each_more (AreKindPaths columns grid) ALL i FrameKind.NotHeld paths text less before (subst (λ k. AreKindPaths columns grid k text) (sym is) here)

-- the beginning of a group, joined from its parts
begin_of : ℕ → ℕ → ℕ → List ℕ
begin_of foot width height = codes "<g class=\"cells\" transform=\"translate(" ++ (decimal LEFT ++ (codes " " ++ (decimal foot ++ (codes ") scale("
    ++ (parts_text width ++ (codes " -" ++ (decimal height ++ codes ")\">\n")))))))

pub begins : (columns rows foot width height : ℕ) → width ≡ WIDTH * 10 ^ 8 / columns → height ≡ row_height rows
    → codes "<g class=\"cells\" transform=\"translate(" ++ (decimal LEFT ++ (codes " " ++ (decimal foot ++ (codes ") scale("
    ++ (parts_text width ++ (codes " -" ++ (decimal height ++ codes ")\">\n"))))))) ≡ group_begin columns rows foot
unfolding begin_of group_begin
begins columns rows foot width height is_width is_height =
    ap (λ x. begin_of foot x height) is_width ∙ ap (λ x. begin_of foot (WIDTH * 10 ^ 8 / columns) x) is_height
