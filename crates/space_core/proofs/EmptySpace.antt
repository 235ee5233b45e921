-- `IsSpace` is true of the space that boot makes.
use Rattle.std.proofs.Common.{◌≡◌, ℕ, ◌<◌, ◌≤◌, ◌^◌, ◌*◌, zero, Bool, cond, false, List, [], Option, None, length, get_or, replicate, count_by, is_some, sym, ◌∙◌, ap, inl, inr, refl, subst, arith}
use Rattle.std.proofs.lemmas.List.{get_or-replicate, length-replicate, get_or_past}
use Rattle.std.proofs.lemmas.List.Folds.{sum_by-replicate}
use Rattle.std.proofs.lemmas.Bool.{cases_lt}
use Rattle.model_core.specs.declared.owner.Owner.{Owner}
use Rattle.model_core.specs.Owners.{is_of}
use Rattle.model_core.specs.declared.limits.TheConstants.{WIDE_ORDER, WIDE_SUPERBLOCKS, WIDE_TENANTS, WIDE_FRAMES, FRAME_BYTES}
use Rattle.model_core.proofs.Lists.{everywhere}
use Rattle.space_core.specs.Content.{IsSpace, empty_space, superblock_at}

no_superblock : (tenants n t u : ℕ) → superblock_at (replicate tenants (replicate n None)) t u ≡ None
no_superblock tenants n t u =
    let none : Option ℕ = None in
    let row = replicate n none in
    elim (cases_lt t tenants) [
      | inl lt ↦ ap (λ (r : List (Option ℕ)). get_or r u None) (get_or-replicate tenants t row [] lt) ∙ everywhere None n u
      | inr past ↦ ap (λ (r : List (Option ℕ)). get_or r u None) (get_or_past (replicate tenants row) t [] (omega (arith, length-replicate tenants row)))
    ]

-- in a list of copies of an entry that fails the test, no entry is counted
count_by-copies : {A : Type 0} (p : A → Bool) (n : ℕ) (x : A) → p x ≡ false → count_by p (replicate n x) ≡ zero
count_by-copies p n x fails =
    sum_by-replicate (λ y. cond (p y) 1 0) n x ∙ (ap (λ b. n * cond b 1 0) fails ∙ omega arith)

pub empty_space-IsSpace : (unit n tenants : ℕ) → 0 < unit → unit ≤ FRAME_BYTES * 2 ^ WIDE_ORDER → n ≤ WIDE_SUPERBLOCKS → tenants ≤ WIDE_TENANTS → n * unit ≤ FRAME_BYTES * WIDE_FRAMES → IsSpace (empty_space unit n tenants)
empty_space-IsSpace unit n tenants some small few short bytes =
    let none : Option ℕ = None in
    let nobody : Option Owner = None in
    let row = replicate n none in
    let zeroes : List ℕ = replicate unit 0 in
    record {
      some = some;
      small = small;
      few = omega (arith, length-replicate n nobody);
      bytes = subst (λ k. k * unit ≤ FRAME_BYTES * WIDE_FRAMES) (sym (length-replicate n nobody)) bytes;
      tenants = omega (arith, length-replicate tenants row);
      paired = length-replicate n zeroes ∙ sym (length-replicate n nobody);
      flagged = length-replicate n false ∙ sym (length-replicate n nobody);
      rows = λ t lt. ap length (get_or-replicate tenants t row [] (omega (arith, length-replicate tenants row))) ∙ (length-replicate n none ∙ sym (length-replicate n nobody));
      sized = λ m lt. ap length (get_or-replicate n m zeroes [] (omega (arith, length-replicate n zeroes))) ∙ length-replicate unit 0;
      agree = λ t u m. (λ under. let free = no_superblock tenants n t u in absurd (cc), λ owned. let free = everywhere nobody n m in absurd (cc));
      counted = λ t lt. ap (count_by is_some) (get_or-replicate tenants t row [] (omega (arith, length-replicate tenants row))) ∙ (count_by-copies is_some n none refl ∙ sym (count_by-copies (is_of t) n nobody refl));
      spare = λ m lt ownerless unmarked. get_or-replicate n m zeroes [] (omega (arith, length-replicate n zeroes));
    }
