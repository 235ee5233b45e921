-- If a slot and the owner of its superblock change together, owners and slots still agree.
use Rattle.std.proofs.Common.{◌≡◌, ◌≢◌, ◌⊎◌, ◌↔◌, ℕ, ◌+◌, ◌<◌, Bool, true, false, cond, List, [], Option, Some, None, is_some, length, get_or, count_by, sym, ◌∙◌, ap, subst, inl, inr, arith}
use Rattle.std.proofs.Math.ListN.{set}
use Rattle.std.proofs.lemmas.List.{get_or-set_same, get_or-set_other, length-set}
use Rattle.std.proofs.lemmas.List.Sums.{sum_by-set}
use Rattle.std.proofs.lemmas.Bool.{cases_eq}
use Rattle.std.proofs.lemmas.Bool.Decides.{nat_tests}
use Rattle.std.specs.Prelude.{◌==◌, if◌then◌else◌}
use Rattle.model_core.specs.declared.owner.Owner.{Owner}
use Rattle.model_core.specs.Owners.{owned_by, is_of}
use Rattle.space_core.specs.Content.{Content, IsSpace, owner_at, slots_of, superblock_at}
use Rattle.space_core.specs.Changes.{with_entry}

pub row_of-with_slot : (slots : List (List (Option ℕ))) (t u : ℕ) (x : Option ℕ) → t < length slots → slots_of (with_entry slots t u x) t ≡ set (slots_of slots t) u x
row_of-with_slot slots t u x lt = get_or-set_same slots t (set (slots_of slots t) u x) [] lt

pub row_of_other-with_slot : (slots : List (List (Option ℕ))) (t u : ℕ) (x : Option ℕ) (k : ℕ) → k ≢ t → slots_of (with_entry slots t u x) k ≡ slots_of slots k
row_of_other-with_slot slots t u x k differ = get_or-set_other slots t k (set (slots_of slots t) u x) [] differ

-- after slot u of tenant t is set, the row of each tenant k has as many slots as before
pub length-row_of-with_slot : (slots : List (List (Option ℕ))) (t u : ℕ) (x : Option ℕ) (k : ℕ) → t < length slots → length (slots_of (with_entry slots t u x) k) ≡ length (slots_of slots k)
length-row_of-with_slot slots t u x k lt =
    elim (cases_eq k t) [
      | inl same ↦ subst (λ n. length (slots_of (with_entry slots t u x) n) ≡ length (slots_of slots n)) (sym same) (ap length (row_of-with_slot slots t u x lt) ∙ length-set (slots_of slots t) u x)
      | inr differ ↦ ap length (row_of_other-with_slot slots t u x k differ)
    ]

-- after slot u of tenant t is set to x, this slot has entry x, and every other slot keeps its entry
pub superblock_at-with_entry : (slots : List (List (Option ℕ))) (t u : ℕ) (x : Option ℕ) → t < length slots → u < length (slots_of slots t) → superblock_at (with_entry slots t u x) t u ≡ x
superblock_at-with_entry slots t u x lt short =
    ap (λ (row : List (Option ℕ)). get_or row u None) (row_of-with_slot slots t u x lt) ∙ get_or-set_same (slots_of slots t) u x None short

pub superblock_at_other-with_entry : (slots : List (List (Option ℕ))) (t u : ℕ) (x : Option ℕ) (k v : ℕ) → t < length slots → ((k ≡ t) × (v ≡ u) → ⊥) → superblock_at (with_entry slots t u x) k v ≡ superblock_at slots k v
superblock_at_other-with_entry slots t u x k v lt differ =
    elim (cases_eq k t) [
      | inl same ↦ subst (λ n. superblock_at (with_entry slots t u x) n v ≡ superblock_at slots n v) (sym same) (ap (λ (row : List (Option ℕ)). get_or row v None) (row_of-with_slot slots t u x lt) ∙ get_or-set_other (slots_of slots t) u v x None (λ e. differ (same, e)))
      | inr apart ↦ ap (λ (row : List (Option ℕ)). get_or row v None) (row_of_other-with_slot slots t u x k apart)
    ]

pub if_true : {A : Type 0} (b : Bool) (x y : A) → b ≡ true → (if b then x else y) ≡ x
if_true b x y e = ap (λ test. if test then x else y) e

pub if_false : {A : Type 0} (b : Bool) (x y : A) → b ≡ false → (if b then x else y) ≡ y
if_false b x y e = ap (λ test. if test then x else y) e

-- after slot u of tenant t is set to x, slot v of this tenant has entry x if v is u, or else its old entry
pub slot_put : (slots : List (List (Option ℕ))) (t u : ℕ) (x : Option ℕ) → t < length slots → u < length (slots_of slots t) → (v : ℕ) → superblock_at (with_entry slots t u x) t v ≡ (if v == u then x else superblock_at slots t v)
slot_put slots t u x tenant short v =
    elim (cases_eq v u) [
      | inl same ↦ ap (superblock_at (with_entry slots t u x) t) same ∙ (superblock_at-with_entry slots t u x tenant short ∙ sym (if_true (v == u) _ _ (grind (arith, nat_tests))))
      | inr differ ↦ superblock_at_other-with_entry slots t u x t v tenant (λ e. differ e.1) ∙ sym (if_false (v == u) _ _ (grind (arith, nat_tests)))
    ]

abbrev pub one_if : Bool → ℕ
one_if b = cond b 1 0

cases_both : (a b c d : ℕ) → ((a ≡ b) × (c ≡ d)) ⊎ ((a ≡ b) × (c ≡ d) → ⊥)
cases_both a b c d =
    elim (cases_eq a b) [
      | inl first ↦ elim (cases_eq c d) [ inl second ↦ inl (first, second) | inr differ ↦ inr (λ e. differ e.1) ]
      | inr differ ↦ inr (λ e. differ e.0)
    ]

same_owner : {a b c d : ℕ} → a ≡ b → c ≡ d → owned_by a c ≡ owned_by b d
same_owner first second = λ i. owned_by (first i) (second i)

-- after x is written at index i, the count is less by 1 if the old entry was counted, and more by 1 if x is counted
pub count_by-set : {A : Type 0} (p : A → Bool) (xs : List A) (i : ℕ) (x d : A) → i < length xs → count_by p (set xs i x) + cond (p (get_or xs i d)) 1 0 ≡ count_by p xs + cond (p x) 1 0
count_by-set p xs i x d lt = sum_by-set (λ y. cond (p y) 1 0) xs i x d lt

-- Slot u of tenant t gets entry x, and superblock m gets owner o. Suppose that, before and after, t holds the slot exactly when
-- it owns m, and no other tenant owns m. Then each tenant still holds as many slots as it owns superblocks.
pub counted-set : {s : Content} → IsSpace s → (t u m : ℕ) (x : Option ℕ) (o : Option Owner) → t < length s.slots → u < length s.owners → m < length s.owners
    → is_some (superblock_at s.slots t u) ≡ is_of t (owner_at s.owners m) → is_some x ≡ is_of t o
    → ((k : ℕ) → k ≢ t → is_of k (owner_at s.owners m) ≡ false) → ((k : ℕ) → k ≢ t → is_of k o ≡ false)
    → (k : ℕ) → k < length s.slots → count_by is_some (slots_of (with_entry s.slots t u x) k) ≡ count_by (is_of k) (set s.owners m o)
counted-set {s} facts t u m x o tenant slot within was is others other k lt =
    let owners = count_by-set (is_of k) s.owners m o None within in
    elim (cases_eq k t) [
      | inl same ↦
          let row = count_by-set is_some (slots_of s.slots t) u x None (omega (arith, facts.rows t tenant)) in
          let alike = facts.counted t tenant in
          let owned = count_by-set (is_of t) s.owners m o None within in
          subst (λ n. count_by is_some (slots_of (with_entry s.slots t u x) n) ≡ count_by (is_of n) (set s.owners m o)) (sym same)
          (ap (count_by is_some) (row_of-with_slot s.slots t u x tenant)
          ∙ omega (arith, row, owned, alike, ap one_if was, ap one_if is))
      | inr differ ↦
          ap (count_by is_some) (row_of_other-with_slot s.slots t u x k differ)
          ∙ omega (arith, owners, facts.counted k lt, ap one_if (others k differ), ap one_if (other k differ))
    ]

-- Slot u of tenant t gets entry x, and superblock m gets owner o. After that, slots and owners still agree if three things
-- hold: x and o agree, the slot had no superblock other than m, and m was in no other slot.
pub agree-set : {s : Content} → IsSpace s → (t u m : ℕ) (x : Option ℕ) (o : Option Owner) → t < length s.slots → u < length s.owners → m < length s.owners
    → ((n : ℕ) → x ≡ Some n → (n ≡ m) × (o ≡ Some (owned_by t u))) → ((k v : ℕ) → o ≡ Some (owned_by k v) → (k ≡ t) × (v ≡ u) × (x ≡ Some m))
    → ((k v : ℕ) → superblock_at s.slots k v ≡ Some m → (k ≡ t) × (v ≡ u)) → ((n : ℕ) → superblock_at s.slots t u ≡ Some n → n ≡ m)
    → (k v n : ℕ) → (superblock_at (with_entry s.slots t u x) k v ≡ Some n) ↔ (owner_at (set s.owners m o) n ≡ Some (owned_by k v))
agree-set {s} facts t u m x o tenant slot within to_owner to_slot alone unique k v n =
    let short : u < length (slots_of s.slots t) = omega (arith, facts.rows t tenant) in
    let here = superblock_at-with_entry s.slots t u x tenant short in
    let owner = get_or-set_same s.owners m o None within in
    let at_slot : (k ≡ t) × (v ≡ u) → superblock_at (with_entry s.slots t u x) k v ≡ x = λ e. rw (e.0, e.1) here in
    let at_owner : n ≡ m → owner_at (set s.owners m o) n ≡ o = λ e. rw e owner in
    let elsewhere = superblock_at_other-with_entry s.slots t u x k v tenant in
    let kept = get_or-set_other s.owners m n o None in (
      λ under. elim (cases_both k t v u) [
        | inl same ↦ let found = to_owner n (sym (at_slot same) ∙ under) in at_owner found.0 ∙ (found.1 ∙ ap Some (same_owner (sym same.0) (sym same.1)))
        | inr differ ↦ let was = sym (elsewhere differ) ∙ under in kept (λ e. differ (alone k v (was ∙ ap Some e))) ∙ (facts.agree k v n).0 was
      ],
      λ owned. elim (cases_eq n m) [
        | inl same ↦ let found = to_slot k v (sym (at_owner same) ∙ owned) in at_slot (found.0, found.1) ∙ (found.2 ∙ ap Some (sym same))
        | inr differ ↦ let was = (facts.agree k v n).1 (sym (kept differ) ∙ owned) in elsewhere (λ e. differ (unique n (rw (← e.0, ← e.1) was))) ∙ was
      ],
    )
