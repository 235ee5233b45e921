-- The cells of a row, one sheet after another, and the kind that is drawn for their counts.
use Rattle.std.proofs.Common.{◌≡◌, ◌≢◌, ℕ, ◌+◌, ◌-◌, ◌*◌, ◌^◌, ◌<◌, ◌≤◌, ◌==◌, ◌⊎◌, inl, inr, cond, Bool, true, false, List, [], ◌∷◌, ◌++◌, Some, length, count_by, get_or, set, take, ap, subst, sym, ◌∙◌, refl, append_assoc, arith}
use Rattle.std.proofs.lemmas.Bool.{eq-eqb}
use Rattle.std.proofs.lemmas.Bool.Decides.{eqb_tells}
use Rattle.std.proofs.lemmas.List.{take_more, get_or-set_same, get_or-set_other, append-nil}
use Rattle.model_core.specs.declared.owner.Owner.{Owner}
use Rattle.kernel_core.specs.declared.frames.FrameKind.{FrameKind}
use Rattle.frame_picture.specs.declared.history.Sheet.{Sheet}
use Rattle.frame_picture.specs.Kinds.{rank_of}
use Rattle.frame_picture.specs.Rows.{cells_between, owned_cells, cells_in, row_cells, kind_count}
use Rattle.frame_picture.specs.Tones.{taken_cells, drawn_kinds, IsMostCommon}

-- if tenant t is the owner of a superblock, its cells from first to end - 1 there are the cells of these frames of the slot
pub owned : (order t first end : ℕ) (owner : Owner) (cells : List FrameKind) → owner.tenant ≡ t
    → owned_cells order t first end (Some owner) cells ≡ cells_between (owner.slot * 2 ^ order) first end cells
owned order t first end owner cells mine =
    ap (λ b. cond b (cells_between (owner.slot * 2 ^ order) first end cells) []) (eq-eqb owner.tenant t mine)

row_cells-append : (order t first end : ℕ) (xs ys : List Sheet)
    → row_cells order t first end (xs ++ ys) ≡ row_cells order t first end xs ++ row_cells order t first end ys
row_cells-append order t first end [] ys = refl
row_cells-append order t first end (x ∷ xs) ys =
    ap (λ cells. cells_in order t first end x ++ cells) (row_cells-append order t first end xs ys)
    ∙ sym (append_assoc (cells_in order t first end x) (row_cells order t first end xs) (row_cells order t first end ys))

-- with one more sheet, the cells of a row are the cells of the sheets before it and then the sheet's own cells
pub row_cells_more : (order t first end : ℕ) (sheets : List Sheet) (i : ℕ) (sheet : Sheet) → i < length sheets → sheet ≡ get_or sheets i sheet
    → row_cells order t first end (take (i + 1) sheets) ≡ row_cells order t first end (take i sheets) ++ cells_in order t first end sheet
row_cells_more order t first end sheets i sheet within is =
    ap (row_cells order t first end) (take_more sheets i sheet within)
    ∙ row_cells-append order t first end (take i sheets) (get_or sheets i sheet ∷ [])
    ∙ ap (λ x. row_cells order t first end (take i sheets) ++ (cells_in order t first end x ++ [])) (sym is)
    ∙ ap (λ cells. row_cells order t first end (take i sheets) ++ cells) (append-nil (cells_in order t first end sheet))

-- if the frames without a cell are added to the count of the frames not held, the counts are those of `kind_count`
pub counted : (counts : List ℕ) (cells : List FrameKind) (frames v : ℕ) → length counts ≡ 6
    → ((k : ℕ) → k < 6 → get_or counts k 0 ≡ count_by (λ cell. rank_of cell == k) cells)
    → v ≡ get_or counts 5 0 + (frames - length cells)
    → (k : ℕ) → k < 6 → get_or (set counts 5 v) k 0 ≡ kind_count cells frames k
counted counts cells frames v six each is k less = go (eqb_tells k 5)
  where
    total : Bool → ℕ
    total b = count_by (λ cell. rank_of cell == k) cells + cond b (frames - length cells) 0

    go : ((k == 5 ≡ true) × (k ≡ 5)) ⊎ ((k == 5 ≡ false) × (k ≢ 5)) → get_or (set counts 5 v) k 0 ≡ kind_count cells frames k
    go (inl (five, e)) =
        ap (λ j. get_or (set counts 5 v) j 0) e ∙ get_or-set_same counts 5 v 0 (omega arith) ∙ is
        ∙ ap (λ j. get_or counts j 0 + (frames - length cells)) (sym e) ∙ ap (λ n. n + (frames - length cells)) (each k less)
        ∙ ap total (sym five)
    go (inr (another, other)) =
        let same : get_or (set counts 5 v) k 0 ≡ get_or counts k 0 = get_or-set_other counts 5 k v 0 other in
        let none : count_by (λ cell. rank_of cell == k) cells ≡ count_by (λ cell. rank_of cell == k) cells + 0 = omega arith in
        same ∙ each k less ∙ none ∙ ap total (sym another)

-- equal counts have the same most common kind
most_along : (kinds : ℕ) (count same : ℕ → ℕ) (kind : ℕ) → kinds ≤ 6 → ((k : ℕ) → k < 6 → count k ≡ same k)
    → IsMostCommon kinds count kind → IsMostCommon kinds same kind
most_along kinds count same kind few equal most =
    let here : count kind ≡ same kind = equal kind (omega (arith, most.among)) in
    record {
      among = most.among;
      greatest = λ k less. omega (arith, most.greatest k less, equal k (omega arith), here);
      first = λ k less. omega (arith, most.first k less, equal k (omega (arith, most.among)), here);
    }

-- equal counts have the same number of taken frames
pub taken_along : (count same : ℕ → ℕ) → ((k : ℕ) → k < 6 → count k ≡ same k) → taken_cells count ≡ taken_cells same
taken_along count same equal =
    omega (arith, equal 0 (omega arith), equal 1 (omega arith), equal 2 (omega arith), equal 3 (omega arith))

few_kinds : (taken : ℕ) → drawn_kinds taken ≤ 6
few_kinds taken = elim (taken == 0) as (λ b. cond b 6 4 ≤ 6) [ true ↦ omega arith | false ↦ omega arith ]

-- equal counts are drawn as the same kind
pub drawn_along : (count same : ℕ → ℕ) (kind : ℕ) → ((k : ℕ) → k < 6 → count k ≡ same k)
    → IsMostCommon (drawn_kinds (taken_cells count)) count kind → IsMostCommon (drawn_kinds (taken_cells same)) same kind
drawn_along count same kind equal most =
    subst (λ taken. IsMostCommon (drawn_kinds taken) same kind) (taken_along count same equal)
    (most_along (drawn_kinds (taken_cells count)) count same kind (few_kinds (taken_cells count)) equal most)
