-- If some superblock has no owner, each tenant has an empty slot.
use Rattle.std.proofs.Common.{◌≡◌, ℕ, ◌<◌, ◌≤◌, zero, true, false, cond, List, [], ◌∷◌, Option, Some, None, IsSome, is_some, is_none, length, position, count_by, ◌∙◌, ap, inl, inr, refl, arith}
use Rattle.std.proofs.Math.ListN.{set}
use Rattle.std.specs.List.{position_or_len}
use Rattle.std.proofs.lemmas.List.{length-set}
use Rattle.std.proofs.lemmas.List.Sums.{sum_by-cons, count_by-le-length}
use Rattle.std.proofs.lemmas.List.Quantifiers.{position-Some}
use Rattle.std.proofs.lemmas.Bool.{cases_lt}
use Rattle.std.proofs.lemmas.Bool.Decides.{nat_tests}
use Rattle.model_core.specs.declared.owner.Owner.{Owner}
use Rattle.model_core.specs.Owners.{owned_by, is_of}
use Rattle.space_core.specs.Content.{Content, IsSpace, owner_at, slots_of, superblock_at}
use Rattle.space_core.specs.Changes.{IsLeastSlot}
use Rattle.space_core.proofs.MappingKept.{one_if, count_by-set}
use Rattle.space_core.proofs.InvariantKept.{is_of_self}

none_from_test : {A : Type 0} (o : Option A) → is_none o ≡ true → o ≡ None
none_from_test None e = refl
none_from_test (Some x) e = cc

some_from_test : {A : Type 0} (o : Option A) → is_none o ≡ false → IsSome o
some_from_test None e = cc
some_from_test (Some x) e = refl

-- if a search for None reaches the end of a list, the count of the entries that are not None is the length of the list
count_by_full : {A : Type 0} (xs : List (Option A)) → length xs ≤ position_or_len is_none xs → count_by is_some xs ≡ length xs
count_by_full [] full = refl
count_by_full (None ∷ xs) full = absurd (omega arith)
count_by_full (Some x ∷ xs) full = sum_by-cons (λ y. cond (is_some y) 1 0) (Some x) xs ∙ omega (arith, count_by_full xs (omega arith))

full_from_none : {A : Type 0} (xs : List (Option A)) → position is_none xs ≡ None → length xs ≤ position_or_len is_none xs
full_from_none xs none =
    elim (cases_lt (position_or_len is_none xs) (length xs)) [ inl lt ↦ grind (arith, nat_tests) | inr le ↦ le ]

-- if some superblock has no owner, tenant t does not own all superblocks
count_by-lt-length : (t : ℕ) (owners : List (Option Owner)) (m : ℕ) → m < length owners → owner_at owners m ≡ None → count_by (is_of t) owners < length owners
count_by-lt-length t owners m within none =
    let o : Option Owner = Some (owned_by t zero) in
    let one_more = count_by-set (is_of t) owners m o None within in
    let bound = count_by-le-length (is_of t) (set owners m o) in
    omega (arith, one_more, bound, length-set owners m o, ap (λ p. one_if (is_of t p)) none, ap one_if (is_of_self t zero))

-- if a search for None in the list of owners finds one, some superblock m has no owner
pub unowned_from_pool : (owners : List (Option Owner)) → IsSome (position is_none owners) → (m : ℕ) × (m < length owners) × (owner_at owners m ≡ None)
unowned_from_pool owners pool = go (position is_none owners) refl pool
  where
    go : (o : Option ℕ) → position is_none owners ≡ o → IsSome o → (m : ℕ) × (m < length owners) × (owner_at owners m ≡ None)
    go None e some = cc
    go (Some m) e some = let found = position-Some is_none owners m None e in (m, found.0, none_from_test (owner_at owners m) found.1)

pub has_vacant_slot : {s : Content} → IsSpace s → (t : ℕ) → t < length s.slots → IsSome (position is_none s.owners) → IsSome (position is_none (slots_of s.slots t))
has_vacant_slot {s} facts t tenant pool = go (position is_none (slots_of s.slots t)) refl
  where
    go : (o : Option ℕ) → position is_none (slots_of s.slots t) ≡ o → IsSome o
    go (Some u) e = refl
    go None e =
        let row = slots_of s.slots t in
        let spare = unowned_from_pool s.owners pool in
        let fewer = count_by-lt-length t s.owners spare.0 spare.1 spare.2 in
        absurd (omega (arith, fewer, facts.counted t tenant, facts.rows t tenant, count_by_full row (full_from_none row e)))

pub least_from_position : (slots : List (List (Option ℕ))) (t u : ℕ) → position is_none (slots_of slots t) ≡ Some u → IsLeastSlot slots t u
least_from_position slots t u e =
    let found = position-Some is_none (slots_of slots t) u None e in
    record { vacant = none_from_test (superblock_at slots t u) found.1; below = λ v lt. some_from_test (superblock_at slots t v) (found.2 v lt) }

pub slot-lt : {s : Content} → IsSpace s → (t u : ℕ) → t < length s.slots → position is_none (slots_of s.slots t) ≡ Some u → u < length s.owners
slot-lt {s} facts t u tenant e =
    let found = position-Some is_none (slots_of s.slots t) u None e in
    omega (arith, facts.rows t tenant, found.0)

pub unowned-from_position : (owners : List (Option Owner)) (m : ℕ) → position is_none owners ≡ Some m → owner_at owners m ≡ None
unowned-from_position owners m e = none_from_test (owner_at owners m) (position-Some is_none owners m None e).1
