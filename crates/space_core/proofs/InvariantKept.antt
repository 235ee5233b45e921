-- `IsSpace` stays true after a grant, a take-back and a move.
use Rattle.std.proofs.Common.{◌≡◌, ◌≢◌, ℕ, ◌*◌, ◌<◌, ◌≤◌, true, false, List, [], Option, Some, None, is_some, length, get_or, replicate, sym, ◌∙◌, ap, subst, inl, inr, refl, arith}
use Rattle.std.proofs.Math.ListN.{set}
use Rattle.std.proofs.lemmas.List.{get_or-set_same, get_or-set_other, set-set, length-set, length-replicate, get_or_past}
use Rattle.std.proofs.lemmas.Bool.{cases_lt, cases_eq}
use Rattle.std.proofs.lemmas.Bool.Decides.{nat_tests}
use Rattle.model_core.specs.declared.owner.Owner.{Owner}
use Rattle.model_core.specs.Owners.{owned_by, is_of}
use Rattle.model_core.specs.declared.limits.TheConstants.{FRAME_BYTES, WIDE_FRAMES}
use Rattle.space_core.specs.Content.{Content, IsSpace, bank, owner_at, mark_at, slots_of, superblock_at}
use Rattle.space_core.specs.Changes.{with_entry, with_grant, with_take_back, with_move}
use Rattle.space_core.specs.Laws.{IsOneToOne}
use Rattle.space_core.proofs.BankLemmas.{after-set, with_bank, with_bank-IsSpace}
use Rattle.space_core.proofs.Mapping.{within_from_some, superblock-lt}
use Rattle.space_core.proofs.BytesUnderSlots.{not_unowned}
use Rattle.space_core.proofs.MappingKept.{superblock_at-with_entry, length-row_of-with_slot, counted-set, agree-set}

-- if slot u of tenant t has a superblock, t is below the number of tenants
pub tenant-lt : (slots : List (List (Option ℕ))) (t u m : ℕ) → superblock_at slots t u ≡ Some m → t < length slots
tenant-lt slots t u m under =
    elim (cases_lt t (length slots)) [
      | inl lt ↦ lt
      | inr past ↦ let none = ap (λ (row : List (Option ℕ)). get_or row u None) (get_or_past slots t [] past) in absurd (cc)
    ]

pub is_of_self : (t u : ℕ) → is_of t (Some (owned_by t u)) ≡ true
is_of_self t u = grind (arith, nat_tests)

is_of_other : (t u k : ℕ) → k ≢ t → is_of k (Some (owned_by t u)) ≡ false
is_of_other t u k differ = grind (arith, nat_tests)

pub same_parts : (k v t u : ℕ) → (let p : Option Owner = Some (owned_by k v) in p) ≡ Some (owned_by t u) → (k ≡ t) × (v ≡ u)
same_parts k v t u e = let q : owned_by k v ≡ owned_by t u = cc in (ap (λ (o : Owner). o.tenant) q, ap (λ (o : Owner). o.slot) q)

pub taken_back-IsSpace : {s : Content} → IsSpace s → (t u m : ℕ) → superblock_at s.slots t u ≡ Some m → IsSpace (with_take_back s t u m)
taken_back-IsSpace {s} facts t u m under =
    let owned = (facts.agree t u m).0 under in
    let within = superblock-lt facts t u m under in
    let tenant = tenant-lt s.slots t u m under in
    let short = within_from_some (slots_of s.slots t) u m under in
    let slot : u < length s.owners = omega (arith, facts.rows t tenant) in
    let row = set (slots_of s.slots t) u None in
    let is_t : is_of t (owner_at s.owners m) ≡ true = ap (is_of t) owned ∙ is_of_self t u in
    record {
      some = facts.some;
      small = facts.small;
      few = omega (arith, facts.few, length-set s.owners m None);
      bytes = subst (λ k. k * s.unit ≤ FRAME_BYTES * WIDE_FRAMES) (sym (length-set s.owners m None)) facts.bytes;
      tenants = omega (arith, facts.tenants, length-set s.slots t row);
      paired = facts.paired ∙ sym (length-set s.owners m None);
      flagged = length-set s.marks m true ∙ (facts.flagged ∙ sym (length-set s.owners m None));
      rows = λ k lt. length-row_of-with_slot s.slots t u None k tenant ∙ (facts.rows k (omega (arith, length-set s.slots t row)) ∙ sym (length-set s.owners m None));
      sized = facts.sized;
      agree = agree-set facts t u m None None tenant slot within (λ n e. absurd (cc)) (λ k v e. absurd (cc)) (λ k v e. same_parts k v t u (sym ((facts.agree k v m).0 e) ∙ owned)) (λ n e. let both = sym e ∙ under in cc);
      counted = λ k lt. counted-set facts t u m None None tenant slot within (ap is_some under ∙ sym is_t) refl (λ j differ. ap (is_of j) owned ∙ is_of_other t u j differ) (λ j differ. refl) k (omega (arith, length-set s.slots t row));
      spare = λ n lt ownerless unmarked. elim (cases_eq n m) [
        | inl same ↦ let marked = ap (mark_at (set s.marks m true)) same ∙ get_or-set_same s.marks m true false (omega (arith, facts.flagged)) in absurd (cc)
        | inr differ ↦ facts.spare n lt (sym (get_or-set_other s.owners m n None None differ) ∙ ownerless) (sym (get_or-set_other s.marks m n true false differ) ∙ unmarked)
      ];
    }

pub granted-IsSpace : {s : Content} → IsSpace s → (t u m : ℕ) → t < length s.slots → u < length s.owners → m < length s.owners → superblock_at s.slots t u ≡ None → owner_at s.owners m ≡ None → IsSpace (with_grant s t u m)
granted-IsSpace {s} facts t u m tenant slot within vacant unowned =
    let o : Option Owner = Some (owned_by t u) in
    let zeroes : List ℕ = replicate s.unit 0 in
    let row = set (slots_of s.slots t) u (Some m) in
    record {
      some = facts.some;
      small = facts.small;
      few = omega (arith, facts.few, length-set s.owners m o);
      bytes = subst (λ k. k * s.unit ≤ FRAME_BYTES * WIDE_FRAMES) (sym (length-set s.owners m o)) facts.bytes;
      tenants = omega (arith, facts.tenants, length-set s.slots t row);
      paired = length-set s.banks m zeroes ∙ (facts.paired ∙ sym (length-set s.owners m o));
      flagged = length-set s.marks m false ∙ (facts.flagged ∙ sym (length-set s.owners m o));
      rows = λ k lt. length-row_of-with_slot s.slots t u (Some m) k tenant ∙ (facts.rows k (omega (arith, length-set s.slots t row)) ∙ sym (length-set s.owners m o));
      sized = λ n lt. after-set (λ (xs : List ℕ). length xs ≡ s.unit) s.banks m zeroes n [] (omega (arith, facts.paired)) (λ _. length-replicate s.unit 0) (λ _. facts.sized n (omega (arith, length-set s.banks m zeroes)));
      agree = agree-set facts t u m (Some m) o tenant slot within (λ n e. (cc, refl)) (λ k v e. let parts = same_parts k v t u (sym e) in (parts.0, parts.1, refl)) (λ k v e. let owned = (facts.agree k v m).0 e in absurd (cc)) (λ n e. absurd (cc));
      counted = λ k lt. counted-set facts t u m (Some m) o tenant slot within (ap is_some vacant ∙ sym (ap (is_of t) unowned)) (sym (is_of_self t u)) (λ j differ. ap (is_of j) unowned) (λ j differ. is_of_other t u j differ) k (omega (arith, length-set s.slots t row));
      spare = λ n lt ownerless unmarked. elim (cases_eq n m) [
        | inl same ↦ let owned = ap (owner_at (set s.owners m o)) same ∙ get_or-set_same s.owners m o None within in absurd (cc)
        | inr differ ↦ get_or-set_other s.banks m n zeroes [] differ ∙ facts.spare n (omega (arith, length-set s.banks m zeroes)) (sym (get_or-set_other s.owners m n o None differ) ∙ ownerless) (sym (get_or-set_other s.marks m n false false differ) ∙ unmarked)
      ];
    }

-- a move is a take-back, then a grant, and then a write of the old superblock's bytes into the new superblock
moved_is : (s : Content) (t u from to : ℕ) → t < length s.slots → with_bank (with_grant (with_take_back s t u from) t u to) to (bank s.banks from) ≡ with_move s t u from to
moved_is s t u from to tenant =
    let row = slots_of s.slots t in
    let bytes = bank s.banks from in
    let here : with_entry (with_entry s.slots t u None) t u (Some to) ≡ with_entry s.slots t u (Some to) =
    set-set s.slots t (set row u None) _ ∙ ap (set s.slots t) (ap (λ (r : List (Option ℕ)). set r u (Some to)) (get_or-set_same s.slots t (set row u None) [] tenant) ∙ set-set row u None (Some to)) in
    let there : set (set s.banks to (replicate s.unit 0)) to bytes ≡ set s.banks to bytes = set-set s.banks to (replicate s.unit 0) bytes in
    ap (λ (slots : List (List (Option ℕ))). record (with_move s t u from to) { slots = slots; banks = set (set s.banks to (replicate s.unit 0)) to bytes }) here
    ∙ ap (λ (banks : List (List ℕ)). record (with_move s t u from to) { banks = banks }) there

pub moved-IsSpace : {s : Content} → IsSpace s → (t u from to : ℕ) → superblock_at s.slots t u ≡ Some from → to < length s.owners → owner_at s.owners to ≡ None → IsSpace (with_move s t u from to)
moved-IsSpace {s} facts t u from to under within unowned =
    let left = with_take_back s t u from in
    let tenant = tenant-lt s.slots t u from under in
    let short = within_from_some (slots_of s.slots t) u from under in
    let apart = not_unowned facts t u from to under unowned in
    let row = set (slots_of s.slots t) u None in
    let still : to < length left.owners = omega (arith, length-set s.owners from None) in
    let given = granted-IsSpace {s = left} (taken_back-IsSpace facts t u from under) t u to
    (omega (arith, length-set s.slots t row))
    (omega (arith, facts.rows t tenant, length-set s.owners from None))
    still
    (superblock_at-with_entry s.slots t u None tenant short)
    (get_or-set_other s.owners from to None None (λ same. apart (sym same)) ∙ unowned) in
    let o = Some (owned_by t u) in
    let owned : owner_at (set left.owners to o) to ≢ None = λ none. let some = get_or-set_same left.owners to o None still in absurd (cc) in
    subst IsSpace (moved_is s t u from to tenant)
    (with_bank-IsSpace given to owned (omega (arith, length-set left.owners to o)) (bank s.banks from) (facts.sized from (omega (arith, facts.paired, superblock-lt facts t u from under))))

-- no slot has two superblocks, and no superblock is in two slots
pub space-IsApart : {s : Content} → IsSpace s → IsOneToOne s
space-IsApart {s} facts = record {
  superblocks = λ t u m n first second. let q : (let o : Option ℕ = Some m in o) ≡ Some n = sym ((facts.agree t u m).1 first) ∙ (facts.agree t u n).1 second in cc;
  slots = λ t u v w m first second. same_parts t u v w (sym ((facts.agree t u m).0 first) ∙ (facts.agree v w m).0 second);
}
