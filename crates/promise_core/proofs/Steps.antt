-- A step changes only the state of the tenant that its event names. If a byte is left at a place after a step, it was left there
-- before the step, or the step put it there.
use Rattle.std.proofs.Common.{◌≡◌, ℕ, zero, suc, ◌+◌, ◌-◌, ◌<◌, ◌≤◌, Bool, true, false, not, ◌&&◌, ◌||◌, List, [], ◌∷◌, length, replicate, Option, Some, None, slice_get, slice_set, refl, ap, sym, subst, ◌∙◌, ◌⊎◌, inl, inr}
use Rattle.std.specs.Prelude.{nat_le, nat_lt, slice_index, if◌then◌else◌, ◌==◌}
use Rattle.std.specs.Option.{option_map_or}
use Rattle.std.proofs.lemmas.Bool.{cases_eq, and_parts, leb-true, ltb-true, cases_Bool}
use Rattle.model_core.specs.Machine.{in_block}
pub use Rattle.model_core.proofs.Lists.{in_put}
use Rattle.world_core.proofs.MachineLists.{slice_get-set_other}
use Rattle.promise_core.specs.Holdings.{KnownCache, slab_around, are_apart}
use Rattle.promise_core.specs.Bytes.{Holder, is_object, Cell, Cells, with_bytes, doubted, without}
use Rattle.promise_core.specs.State.{State, with_object}

-- Lists

set_same : {X : Type 0} (xs : List X) (i : ℕ) (x y : X) → slice_get (slice_set xs i y) i ≡ Some x → x ≡ y
set_same [] i x y e = absurd (cc)
set_same (z ∷ zs) zero x y e = cc
set_same (z ∷ zs) (suc i) x y e = set_same zs i x y e

pub replicated : {X : Type 0} (n i : ℕ) (x y : X) → slice_get (replicate n x) i ≡ Some y → y ≡ x
replicated zero i x y e = absurd (cc)
replicated (suc n) zero x y e = cc
replicated (suc n) (suc i) x y e = replicated n i x y e

-- The states

pub some_state : {x y : State} → Some x ≡ Some y → x ≡ y
some_state e = cc

pub some_number : {x y : ℕ} → Some x ≡ Some y → x ≡ y
some_number e = cc

pub none_named : {t : ℕ} → ◌≡◌ {A = Option ℕ} None (Some t) → ⊥
none_named e = absurd (cc)

-- after an event, the state of tenant t is the new one if the event names t, and otherwise its old one
pub states_at : (t : ℕ) (name : Option ℕ) (states : List State) (after x : State) → slice_get (option_map_or (λ i. slice_set states i after) name states) t ≡ Some x
    → ((name ≡ Some t) × (x ≡ after)) ⊎ ((name ≡ Some t → ⊥) × (slice_get states t ≡ Some x))
states_at t None states after x e = inr ((λ n. none_named n), e)
states_at t (Some i) states after x e = elim (cases_eq i t) [
  | inl same ↦ inl (ap Some same, set_same states t x after (subst (λ k. slice_get (slice_set states k after) t ≡ Some x) same e))
  | inr other ↦ inr ((λ n. other (some_number n)), sym (slice_get-set_other states i t after other) ∙ e)
]

-- The cells that stay

-- the old cell at the place has the same byte, and the place and the old holder do not pass the test
pub record IsLeft (test : ℕ → Holder → Bool) (cells : Cells) (place : ℕ) (cell : Cell) : Type 0 where
  pub old : Cell
  pub was : cells place ≡ Some old
  pub byte : old.byte ≡ cell.byte
  pub fails : test place old.holder ≡ false

pub without_left : (test : ℕ → Holder → Bool) (cells : Cells) (place : ℕ) (cell : Cell) → without test cells place ≡ Some cell → IsLeft test cells place cell
without_left test cells place cell = go (cells place) refl
  where
    go : (found : Option Cell) → cells place ≡ found → without test (λ p. found) place ≡ Some cell → IsLeft test cells place cell
    go None is e = absurd (cc)
    go (Some old) is e = by_test (test place old.holder) refl e
      where
        by_test : (b : Bool) → test place old.holder ≡ b → ◌≡◌ {A = Option Cell} (if b then None else Some old) (Some cell) → IsLeft test cells place cell
        by_test true fails e = absurd (cc)
        by_test false fails e = record { old = old; was = is; byte = ap (λ o. option_map_or (λ (x : Cell). x.byte) o 0) e; fails = fails }

pub doubted_left : (test : ℕ → Holder → Bool) (cells : Cells) (place : ℕ) (cell : Cell) → doubted test cells place ≡ Some cell
    → (old : Cell) × (cells place ≡ Some old) × (old.byte ≡ cell.byte)
doubted_left test cells place cell = go (cells place) refl
  where
    go : (found : Option Cell) → cells place ≡ found → doubted test (λ p. found) place ≡ Some cell → (old : Cell) × (cells place ≡ Some old) × (old.byte ≡ cell.byte)
    go None is e = absurd (cc)
    go (Some old) is e = (old, is, ap (λ o. option_map_or (λ (x : Cell). x.byte) o 0) e)

pub same_cells : (place : ℕ) (s : State) (cell : Cell) → s.cells place ≡ Some cell → (old : Cell) × (s.cells place ≡ Some old) × (old.byte ≡ cell.byte)
same_cells place s cell e = (cell, e, refl)

pub without_cells : (test : ℕ → Holder → Bool) (place : ℕ) (s : State) (cell : Cell) → without test s.cells place ≡ Some cell
    → (old : Cell) × (s.cells place ≡ Some old) × (old.byte ≡ cell.byte)
without_cells test place s cell e = let l = without_left test s.cells place cell e in (l.old, l.was, l.byte)

pub object_cells : (first place : ℕ) (s : State) (cache : Option KnownCache) (cell : Cell) → with_object first cache s.cells place ≡ Some cell
    → (old : Cell) × (s.cells place ≡ Some old) × (old.byte ≡ cell.byte)
object_cells first place s None cell e = (cell, e, refl)
object_cells first place s (Some c) cell e =
    without_cells (λ p holder. in_block p (slab_around c first) && not (is_object (λ n q. n == c.number && (q == first || are_apart c first q)) holder)) place s cell e

-- after bytes are put at the places from `begin` on, the byte at the place is one of them, or the cell there is the old one
pub range_cells : (begin place : ℕ) (new : List ℕ) (s : State) (holder : Option Holder) (cell : Cell)
    → option_map_or (λ x. with_bytes x begin new s.cells) holder s.cells place ≡ Some cell
    → ((x : Holder) × (holder ≡ Some x) × (begin ≤ place) × (place < begin + length new) × (cell.byte ≡ slice_index new (place - begin))) ⊎ (s.cells place ≡ Some cell)
range_cells begin place new s None cell e = inr e
range_cells begin place new s (Some x) cell e = go (cases_Bool (nat_le begin place && nat_lt place (begin + length new))) e
  where
    value : Option Cell → ℕ
    value found = option_map_or (λ (c : Cell). c.byte) found 0

    go : ((nat_le begin place && nat_lt place (begin + length new)) ≡ true) ⊎ ((nat_le begin place && nat_lt place (begin + length new)) ≡ false)
        → with_bytes x begin new s.cells place ≡ Some cell
        → ((y : Holder) × (Some x ≡ Some y) × (begin ≤ place) × (place < begin + length new) × (cell.byte ≡ slice_index new (place - begin))) ⊎ (s.cells place ≡ Some cell)
    go (inl b) e = let parts = and_parts _ _ b in
        let is : (if true then Some (record { holder = x; byte = slice_index new (place - begin); sure = true }) else s.cells place) ≡ Some cell = rw (b) at e in
        inl (x, refl, leb-true begin place parts.0, ltb-true place _ parts.1, sym (ap value is))
    go (inr b) e = inr (rw (b) at e)

pub doubted_cells : (test : ℕ → Holder → Bool) (place : ℕ) (s : State) (cell : Cell) → doubted test s.cells place ≡ Some cell
    → (old : Cell) × (s.cells place ≡ Some old) × (old.byte ≡ cell.byte)
doubted_cells test place s cell e = doubted_left test s.cells place cell e
