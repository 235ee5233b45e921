-- A walk along a list that is linked by key visits slabs of that list.
use Rattle.std.proofs.Common.{ℕ, List, Option, Some, None, IfSome}
use Rattle.std.specs.Prelude.{MatchOption}
use Rattle.klist_core.specs.Places.{IsByKey, IsPlacedByKey, IsEmpty, IsFirst, NoneAbove, IsNext}

-- if there is a pair of a key and a machine frame, the slab at that machine frame is in a list that is linked by key
abbrev pub IsThere : List (Option (ℕ × ℕ)) → Option (ℕ × ℕ) → Type 0
IsThere places o = IfSome o (λ p. IsPlacedByKey places p.1)

pub first_there : (places : List (Option (ℕ × ℕ))) (h : ℕ) (o : Option (ℕ × ℕ)) → IsByKey h → MatchOption o (IsEmpty places h) (λ p. IsFirst places h p.0 p.1)
    → IsThere places o
first_there places h None by_key none = tt
first_there places h (Some p) by_key first = record { list = h; key = p.0; here = first.here; by_key = by_key }

pub after_there : (places : List (Option (ℕ × ℕ))) (h k : ℕ) (o : Option (ℕ × ℕ)) → IsByKey h → MatchOption o (NoneAbove places h k) (λ n. IsNext places h k n.0 n.1) → IsThere places o
after_there places h k None by_key after = tt
after_there places h k (Some n) by_key after = record { list = h; key = n.0; here = after.here; by_key = by_key }
