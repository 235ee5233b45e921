-- The places of a slot behind its stored bytes, at which nothing was left.
use Rattle.std.proofs.Common.{◌≡◌, ℕ, zero, suc, ◌+◌, ◌-◌, ◌/◌, ◌<◌, ◌≤◌, ◌++◌, Bool, true, false, leb, ltb, List, [], ◌∷◌, length, get_or, map, take, Option, None, replicate, inl, inr, refl, sym, ap, ◌∙◌, subst, arith, take_all}
use Rattle.std.specs.Prelude.{if◌then◌else◌, ◌&&◌}
use Rattle.std.proofs.lemmas.Bool.{cases_lt}
use Rattle.std.proofs.lemmas.Bool.Decides.{nat_tests}
use Rattle.std.proofs.lemmas.List.{append-nil, get_or_append_left, get_or-append_right, get_or-replicate, get_or_past, length-append, length-replicate, length-map}
use Rattle.known_holdings.proofs.ComputedTests.{same_at}
use Rattle.shadow_memory.specs.declared.kept.KeptByte.{KeptByte}
use Rattle.shadow_memory.specs.declared.kept.KeptByte.TheVariants as Kept
use Rattle.shadow_memory.specs.Inside.{CellStep, padded, shown_kept, within}
use Rattle.shadow_memory.specs.Summaries.{IsSummarizedBy, any_summary, cell_in, AreSummarized}

-- padding the stored bytes does not change what a lookup returns
pub padded_at : (n k : ℕ) (xs : List KeptByte) → get_or (padded n xs) k Kept.Fresh ≡ get_or xs k Kept.Fresh
padded_at n k xs = elim (cases_lt k (length xs)) [
  | inl lt ↦ get_or_append_left xs (replicate (n - length xs) Kept.Fresh) Kept.Fresh k lt
  | inr ge ↦ get_or-append_right xs (replicate (n - length xs) Kept.Fresh) (length xs) k Kept.Fresh refl ge
      ∙ (same_at (n - length xs) (k - length xs) Kept.Fresh ∙ sym (get_or_past xs k Kept.Fresh ge))
]

pub padded_len : (n : ℕ) (xs : List KeptByte) → length xs ≤ n → length (padded n xs) ≡ n
padded_len n xs le = let a = length-append xs (replicate (n - length xs) Kept.Fresh) in
    let b = length-replicate (n - length xs) Kept.Fresh in omega (arith, a, b, le)

map_at : (k : ℕ) (xs : List KeptByte) → get_or (map shown_kept xs) k None ≡ shown_kept (get_or xs k Kept.Fresh)
map_at k [] = refl
map_at zero (x ∷ xs) = refl
map_at (suc k) (x ∷ xs) = map_at k xs

-- padding does not change what was left at a place
pub shown_at : (n k : ℕ) (xs : List KeptByte) → get_or (map shown_kept (padded n xs)) k None ≡ cell_in xs k
shown_at n k xs = map_at k (padded n xs) ∙ ap shown_kept (padded_at n k xs)

pub shown_len : (n : ℕ) (xs : List KeptByte) → length xs ≤ n → length (map shown_kept (padded n xs)) ≡ n
shown_len n xs le = length-map (padded n xs) shown_kept ∙ padded_len n xs le

-- resizing the stored bytes to n, with `Fresh` at the new places, pads them to n places
pub grown : (n : ℕ) (xs : List KeptByte) → length xs ≤ n → take n xs ++ replicate (n - length xs) Kept.Fresh ≡ padded n xs
grown n xs le = ap (λ (ys : List KeptByte). ys ++ replicate (n - length xs) Kept.Fresh) (take_all n xs le)

pub enough : (n : ℕ) (xs : List KeptByte) → n ≤ length xs → xs ≡ padded n xs
enough n xs le = let none : n - length xs ≡ 0 = omega arith in
    sym (ap (λ (m : ℕ). xs ++ replicate m Kept.Fresh) none ∙ append-nil xs)

-- if a change leaves the places behind the stored bytes unchanged, making it at the stored places makes it at all places
pub changed_all : (step : CellStep) (first begin end places : ℕ) (old mid new : List KeptByte) → length new ≡ length mid
    → ((k : ℕ) → cell_in mid k ≡ cell_in old k)
    → ((k : ℕ) → k < length mid → cell_in new k ≡ within begin end step (first + k) (cell_in mid k))
    → ((k : ℕ) → length mid ≤ k → k < places → within begin end step (first + k) None ≡ None)
    → (k : ℕ) → k < places → cell_in new k ≡ within begin end step (first + k) (cell_in old k)
changed_all step first begin end places old mid new len same inside behind k lt = elim (cases_lt k (length mid)) [
  | inl below ↦ inside k below ∙ ap (within begin end step (first + k)) (same k)
  | inr past ↦ ap shown_kept (get_or_past new k Kept.Fresh (omega (arith, len, past)))
      ∙ (sym (behind k past lt) ∙ ap (within begin end step (first + k)) (sym (ap shown_kept (get_or_past mid k Kept.Fresh past)) ∙ same k))
]

pub none_behind : (step : CellStep) (begin end place : ℕ) → end ≤ place → within begin end step place None ≡ None
none_behind step begin end place le = ap (λ (b : Bool). if b then step place None else None) no
  where
    no : (leb begin place && ltb place end) ≡ false
    no = grind (arith, nat_tests)
