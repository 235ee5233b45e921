-- The number of every superblock in a slot is below the number of superblocks.
use Rattle.std.proofs.Common.{◌≡◌, ℕ, ◌<◌, List, length, get_or, Option, Some, None, IfSome, inl, inr}
use Rattle.std.proofs.lemmas.List.{get_or_past}
use Rattle.std.proofs.lemmas.Bool.{cases_lt}
use Rattle.model_core.specs.Owners.{owned_by}
use Rattle.space_core.specs.Content.{Content, IsSpace, superblock_at}

-- if entry i of a list is not None, i is below the length of the list
pub within_from_some : {A : Type 0} (xs : List (Option A)) (i : ℕ) (x : A) → get_or xs i None ≡ Some x → i < length xs
within_from_some xs i x is =
    elim (cases_lt i (length xs)) [ inl lt ↦ lt | inr past ↦ let none = get_or_past xs i None past in cc ]

-- the number of a superblock in a slot is below the number of superblocks
pub superblock-lt : {s : Content} → IsSpace s → (t u m : ℕ) → superblock_at s.slots t u ≡ Some m → m < length s.owners
superblock-lt {s} facts t u m under = within_from_some s.owners m (owned_by t u) ((facts.agree t u m).0 under)

pub superblock-below : {s : Content} → IsSpace s → (t u : ℕ) (o : Option ℕ) → superblock_at s.slots t u ≡ o → IfSome o (λ m. m < length s.owners)
superblock-below facts t u None under = tt
superblock-below facts t u (Some m) under = superblock-lt facts t u m under
