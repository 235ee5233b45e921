-- For each held slot, exactly one superblock has this slot as its owner.
use Rattle.model_core.specs.declared.owner.Owner.{Owner}
use Rattle.std.proofs.Common.{◌≡◌, ◌≢◌, ℕ, ◌<◌, ◌==◌, ◌&&◌, true, false, if◌then◌else◌, Option, Some, None, length, map, slice_index_or, slice_set, sym, ap, ◌∙◌, ⊎_elim, arith}
use Rattle.std.specs.List.{position_or_len}
use Rattle.std.proofs.lemmas.Bool.{false≢true, cases_eq, cases_lt, eqb-true, and_parts, false_from_ne_true}
use Rattle.std.proofs.lemmas.List.{length-set, get_or-set_same, get_or-set_other, get_or-map, get_or_default, get_or_past, same_lists}
use Rattle.std.proofs.lemmas.List.Sums.{position_or_len_is}
use Rattle.std.proofs.Math.ListN.{length-map}
use Rattle.space_core.specs.Content as spaces
use Rattle.model_core.specs.Owners.{owned_by, is_owner}
use Rattle.world_core.specs.World.{given_up}
use Rattle.world_core.proofs.OwnListRuns.{is_same}
use Rattle.machine_changes.proofs.Lookups.{some_none, some_same}

-- if the test `is_owner t u` passes, the owner is slot u of tenant t
pub owner_is : (t u : ℕ) (o : Option Owner) → is_owner t u o ≡ true → o ≡ Some (owned_by t u)
owner_is t u None fails = absurd (false≢true fails)
owner_is t u (Some o) owns =
    let both = and_parts (o.tenant == t) (o.slot == u) owns in
    let tenant = eqb-true o.tenant t both.0 in
    let slot = eqb-true o.slot u both.1 in
    ap (λ a. Some (owned_by a o.slot)) tenant ∙ ap (λ b. Some (owned_by t b)) slot

pub owner_self : (t u : ℕ) → is_owner t u (Some (owned_by t u)) ≡ true
owner_self t u = ap (λ b. b && (u == u)) (is_same t) ∙ is_same u

-- superblock m, and no other superblock, has slot u of tenant t as its owner
pub record IsUnder (s : spaces.Content) (t u m : ℕ) : Type 0 where
  pub within : m < length s.owners
  pub owner : spaces.owner_at s.owners m ≡ Some (owned_by t u)
  pub only : (n : ℕ) → n ≢ m → is_owner t u (spaces.owner_at s.owners n) ≡ false

pub is_under : (s : spaces.Content) (t u m : ℕ) → spaces.IsSpace s → spaces.superblock_at s.slots t u ≡ Some m → IsUnder s t u m
is_under s t u m space here = record {
  within = ⊎_elim (λ less. less)
      (λ past. absurd (some_none (sym ((space.agree t u m).0 here) ∙ get_or_past s.owners m None past)))
      (cases_lt m (length s.owners));
  owner = (space.agree t u m).0 here;
  only = λ n other. false_from_ne_true (is_owner t u (spaces.owner_at s.owners n)) (λ owns.
      other (some_same (sym ((space.agree t u n).1 (owner_is t u (spaces.owner_at s.owners n) owns)) ∙ here)));
}

-- if superblock m is the only one that slot u of tenant t owns, a search for the first superblock with this owner finds m
pub found_under : (s : spaces.Content) (t u m : ℕ) → IsUnder s t u m → position_or_len (is_owner t u) s.owners ≡ m
found_under s t u m under =
    position_or_len_is (is_owner t u) s.owners m None (omega (arith, under.within))
    (λ n below. under.only n (λ same. absurd (omega arith)))
    (λ _. ap (is_owner t u) under.owner ∙ owner_self t u)

-- if superblock m is the only one that slot u of tenant t owns, removing the owner of m gives the same table as removing this
-- owner from every superblock
pub given_up_one : (s : spaces.Content) (t u m : ℕ) → IsUnder s t u m → slice_set s.owners m None ≡ map (given_up (is_owner t u)) s.owners
given_up_one s t u m under =
    same_lists (slice_set s.owners m None) (map (given_up (is_owner t u)) s.owners)
    (length-set s.owners m None ∙ sym (length-map s.owners (given_up (is_owner t u))))
    (λ n d below.
    let within : n < length s.owners = omega (arith, below, length-set s.owners m None) in
    at n d within)
  where
    at : (n : ℕ) (d : Option Owner) → n < length s.owners
        → slice_index_or (slice_set s.owners m None) n d ≡ slice_index_or (map (given_up (is_owner t u)) s.owners) n d
    at n d within = ⊎_elim
        (λ same.
        ap (λ i. slice_index_or (slice_set s.owners m None) i d) same ∙ get_or-set_same s.owners m None d under.within
        ∙ sym (get_or-map (given_up (is_owner t u)) s.owners n None d within
        ∙ ap (λ i. given_up (is_owner t u) (spaces.owner_at s.owners i)) same
        ∙ ap (given_up (is_owner t u)) under.owner
        ∙ ap (λ b. if b then None else Some (owned_by t u)) (owner_self t u)))
        (λ other.
        get_or-set_other s.owners m n None d other
        ∙ get_or_default s.owners n d None within
        ∙ sym (get_or-map (given_up (is_owner t u)) s.owners n None d within
        ∙ ap (λ b. if b then None else spaces.owner_at s.owners n) (under.only n other)))
        (cases_eq n m)
