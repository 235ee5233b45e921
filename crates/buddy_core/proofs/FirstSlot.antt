-- The first slot in the set of an order, and the source that it gives.
use Rattle.std.proofs.Common.{◌≡◌, inl, inr, refl, sym, ◌∙◌, ap, ℕ, zero, suc, ◌<◌, ◌≤◌, ◌==◌, Bool, true, false, Option, Some, None, List, [], ◌∷◌, length, get_or, position, arith}
use Rattle.std.specs.List.{position_or_len}
use Rattle.std.specs.Prelude.{slice_index}
use Rattle.std.proofs.lemmas.Bool.{cases_lt}
use Rattle.std.proofs.lemmas.Bool.Decides.{nat_tests}
use Rattle.std.proofs.lemmas.List.{get_or_past}
use Rattle.std.proofs.lemmas.List.Quantifiers.{position-Some}
use Rattle.std.proofs.Math.ListN.{get_or-eq_default}
use Rattle.buddy_core.specs.Roots.{HasBit, IsCounted}
use Rattle.buddy_core.specs.Stored.{StoredSuperblock, StoredTenant, superblock_at}
use Rattle.buddy_core.specs.Summary.{is_source, summary_of}
use Rattle.buddy_core.proofs.ExactSummaries.{is_in, summary_size}

-- the first number in a set is not above any number in it
first_le : (set : List Bool) (k : ℕ) → get_or set k false ≡ true → position_or_len (λ b. b) set ≤ k
first_le [] k is_in = cc
first_le (true ∷ rest) k is_in = omega arith
first_le (false ∷ rest) zero is_in = cc
first_le (false ∷ rest) (suc k) is_in = let le = first_le rest k is_in in omega arith

member_lt : (set : List Bool) (k : ℕ) → get_or set k false ≡ true → k < length set
member_lt set k is_in =
    elim (cases_lt k (length set)) [ inl lt ↦ lt | inr past ↦ absurd (let off : get_or set k false ≡ false = get_or-eq_default set false past in cc) ]

-- a set with a number has a first number
first_some : (set : List Bool) (k : ℕ) → get_or set k false ≡ true → None ≡ position (λ b. b) set → ⊥
first_some set k is_in none =
    let le = first_le set k is_in in
    let lt = member_lt set k is_in in
    grind (arith, nat_tests, le, lt, none)

module _ (superblocks : List StoredSuperblock) where
  pub source_bit : (m j : ℕ) → is_source superblocks j (Some m) ≡ true → HasBit superblocks m j
  source_bit m j is = grind (arith, nat_tests, is)

  pub bit_source : (o : Option ℕ) (m j : ℕ) → o ≡ Some m → HasBit superblocks m j → is_source superblocks j o ≡ true
  bit_source o m j at bit = ap (is_source superblocks j) at ∙ ap (λ n. n == 1) bit

  pub source_slot : (o : Option ℕ) (j : ℕ) → is_source superblocks j o ≡ true → (m : ℕ) × (o ≡ Some m)
  source_slot None j is = cc
  source_slot (Some m) j is = (m, refl)

  module _ (tenant : StoredTenant) (counted : IsCounted superblocks tenant) (sets : List (List Bool)) (exact : sets ≡ summary_of superblocks tenant) (j : ℕ) (some : 0 < slice_index tenant.free j) where
    order_lt : j < length tenant.free
    order_lt =
        elim (cases_lt j (length tenant.free)) [ inl lt ↦ lt | inr past ↦ absurd (let none = get_or_past tenant.free j 0 past in omega arith) ]

    pub order_in : j < length sets
    order_in = omega (arith, ap length exact, summary_size superblocks tenant, order_lt)

    member : (u : ℕ) → get_or (get_or sets j []) u false ≡ is_source superblocks j (superblock_at tenant u)
    member u = ap (λ (ss : List (List Bool)). get_or (get_or ss j []) u false) exact ∙ is_in superblocks tenant j u order_lt

    pub not_none : None ≡ position (λ b. b) (get_or sets j []) → ⊥
    not_none none =
        let has = (counted j).0 some in
        first_some (get_or sets j []) has.0 (member has.0 ∙ bit_source (superblock_at tenant has.0) has.1 j has.2 has.3) none

    -- the slot that is first in the set has a superblock with a free block of the order, and no slot before it has one
    pub first_is : (slot : ℕ) → Some slot ≡ position (λ b. b) (get_or sets j []) → is_source superblocks j (superblock_at tenant slot) ≡ true
    first_is slot first = sym (member slot) ∙ (position-Some (λ b. b) (get_or sets j []) slot false (sym first)).1

    pub first_least : (slot : ℕ) → Some slot ≡ position (λ b. b) (get_or sets j []) → (u m : ℕ) → u < slot → superblock_at tenant u ≡ Some m → HasBit superblocks m j → ⊥
    first_least slot first u m lt at bit =
        let off = (position-Some (λ b. b) (get_or sets j []) slot false (sym first)).2 u lt in
        let on = member u ∙ bit_source (superblock_at tenant u) m j at bit in
        cc
