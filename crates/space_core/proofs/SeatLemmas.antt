-- The seats of the tenants follow the owners.
use Rattle.std.proofs.Common.{◌≡◌, ◌≢◌, ◌↔◌, ℕ, ◌<◌, Bool, cond, List, [], Option, Some, None, length, map, get_or, replicate, ap, sym, ◌∙◌, refl, subst, inl, inr, arith}
use Rattle.std.proofs.Math.ListN.{set}
use Rattle.std.proofs.Math.Seq.{map-set_same}
use Rattle.std.proofs.lemmas.List.{map-set, get_or-map, length-map, length-set, length-replicate, get_or-set_same, get_or-set_other, get_or-replicate}
use Rattle.std.proofs.lemmas.Bool.{cases_eq, ne_eqb}
use Rattle.model_core.specs.declared.owner.Owner.{Owner}
use Rattle.model_core.specs.Owners.{owned_by}
use Rattle.space_core.specs.Content.{Content, IsSpace, owner_at, slots_of, superblock_at}
use Rattle.space_core.specs.Changes.{with_entry}
use Rattle.space_core.specs.Seats.{AreSeats, seats_of, seat_for, with_seat}
use Rattle.space_core.specs.declared.seats.TheConstants.{NO_SLOT}
use Rattle.space_core.proofs.InvariantKept.{is_of_self}
use Rattle.space_core.proofs.Mapping.{within_from_some}
use Rattle.space_core.proofs.Vacancies.{map_replicate}

seat_for-own : (t u : ℕ) → seat_for t (Some (owned_by t u)) ≡ u
seat_for-own t u = ap (λ (own : Bool). cond own u NO_SLOT) (is_of_self t u)

-- for another tenant, a superblock of tenant t has the same seat as one without an owner
seat_for-other : (t u other : ℕ) → other ≢ t → seat_for other (Some (owned_by t u)) ≡ seat_for other None
seat_for-other t u other differ = ap (λ (own : Bool). cond own u NO_SLOT) (ne_eqb t other (λ same. differ (sym same)))

-- if the owner of superblock m changes, and only tenant t has another seat for it then, one write keeps the seats in agreement
seats_follow : (owners : List (Option Owner)) (n : ℕ) (seats : List (List ℕ)) → AreSeats owners n seats → (t m : ℕ) (o : Option Owner) → t < n
    → ((other : ℕ) → other ≢ t → seat_for other o ≡ seat_for other (owner_at owners m)) → AreSeats (set owners m o) n (with_seat seats t m (seat_for t o))
seats_follow owners n seats are t m o tenant others = record {
  count = length-set seats t (set (seats_of seats t) m (seat_for t o)) ∙ are.count;
  rows = row;
}
  where
    row : (v : ℕ) → v < n → seats_of (with_seat seats t m (seat_for t o)) v ≡ map (seat_for v) (set owners m o)
    row v lt = elim (cases_eq v t) [
      | inl same ↦ subst (λ w. seats_of (with_seat seats t m (seat_for t o)) w ≡ map (seat_for w) (set owners m o)) (sym same)
          (get_or-set_same seats t (set (seats_of seats t) m (seat_for t o)) [] (omega (arith, are.count))
          ∙ ap (λ (seats : List ℕ). set seats m (seat_for t o)) (are.rows t tenant)
          ∙ sym (map-set (seat_for t) owners m o))
      | inr differ ↦ get_or-set_other seats t v (set (seats_of seats t) m (seat_for t o)) [] differ
          ∙ are.rows v lt
          ∙ sym (map-set_same (seat_for v) owners m o None (others v differ))
    ]

module _ (owners : List (Option Owner)) (n : ℕ) (seats : List (List ℕ)) (are : AreSeats owners n seats) (t u m : ℕ) (tenant : t < n) (seats' : List (List ℕ)) where
  -- superblock m, which had no owner, is put into slot u of tenant t
  pub filled_seats : owner_at owners m ≡ None → seats' ≡ with_seat seats t m u → AreSeats (set owners m (Some (owned_by t u))) n seats'
  filled_seats unowned written =
      subst (AreSeats (set owners m (Some (owned_by t u))) n) (sym (written ∙ ap (with_seat seats t m) (sym (seat_for-own t u))))
      (seats_follow owners n seats are t m (Some (owned_by t u)) tenant (λ other differ. seat_for-other t u other differ ∙ ap (seat_for other) (sym unowned)))

  -- superblock m, which was in slot u of tenant t, loses its owner
  pub emptied_seats : owner_at owners m ≡ Some (owned_by t u) → seats' ≡ with_seat seats t m NO_SLOT → AreSeats (set owners m None) n seats'
  emptied_seats owned written =
      subst (AreSeats (set owners m None) n) (sym written)
      (seats_follow owners n seats are t m None tenant (λ other differ. sym (ap (seat_for other) owned ∙ seat_for-other t u other differ)))

-- no slot was added or removed
pub seats_after_entry : (owners : List (Option Owner)) (slots : List (List (Option ℕ))) (seats : List (List ℕ)) (t u : ℕ) (x : Option ℕ) → AreSeats owners (length slots) seats
    → AreSeats owners (length (with_entry slots t u x)) seats
seats_after_entry owners slots seats t u x = subst (λ n. AreSeats owners n seats) (sym (length-set slots t (set (slots_of slots t) u x)))

-- the writes stay within the rows
pub tenant_in_seats : (owners : List (Option Owner)) (n : ℕ) (seats : List (List ℕ)) → AreSeats owners n seats → (t : ℕ) → t < n → t < length seats
tenant_in_seats owners n seats are t tenant = omega (arith, are.count)

pub superblock_in_seats : (owners : List (Option Owner)) (n : ℕ) (seats : List (List ℕ)) → AreSeats owners n seats → (t m : ℕ) → t < n → m < length owners → m < length (seats_of seats t)
superblock_in_seats owners n seats are t m tenant within = omega (arith, ap length (are.rows t tenant), length-map owners (seat_for t))

-- at first no superblock is in a slot
pub empty_seats : (superblocks tenants : ℕ) (seats : List (List ℕ)) → seats ≡ replicate tenants (replicate superblocks NO_SLOT)
    → AreSeats (replicate superblocks None) (length (replicate tenants (replicate {A = Option ℕ} superblocks None))) seats
empty_seats superblocks tenants seats none =
    let row : List ℕ = replicate superblocks NO_SLOT in
    let slots : List (Option ℕ) = replicate superblocks None in
    subst (AreSeats (replicate superblocks None) (length (replicate tenants slots))) (sym none) (record {
      count = length-replicate tenants row ∙ sym (length-replicate tenants slots);
      rows = λ t lt. get_or-replicate tenants t row [] (omega (arith, length-replicate tenants slots)) ∙ sym (map_replicate (seat_for t) superblocks None);
    })

-- a read of the seat of superblock m for tenant t
pub seat_is : (owners : List (Option Owner)) (n : ℕ) (seats : List (List ℕ)) → AreSeats owners n seats → (t m d : ℕ) → t < n → m < length owners
    → get_or (seats_of seats t) m d ≡ seat_for t (owner_at owners m)
seat_is owners n seats are t m d tenant within = ap (λ (row : List ℕ). get_or row m d) (are.rows t tenant) ∙ get_or-map (seat_for t) owners m None d within

-- every slot number is below the number that is no slot
slot_small : {s : Content} → IsSpace s → (t u m : ℕ) → t < length s.slots → superblock_at s.slots t u ≡ Some m → u < NO_SLOT
slot_small {s} facts t u m tenant under =
    let within = within_from_some (slots_of s.slots t) u m under in
    omega (arith, within, facts.rows t tenant, facts.few)

-- if the seat is NO_SLOT, no slot of the tenant uses the superblock
pub none_under : {s : Content} → IsSpace s → (t m : ℕ) → t < length s.slots → seat_for t (owner_at s.owners m) ≡ NO_SLOT → (u : ℕ) → superblock_at s.slots t u ≢ Some m
none_under {s} facts t m tenant none u under =
    let owned = (facts.agree t u m).0 under in
    let small = slot_small facts t u m tenant under in
    let seat = sym (seat_for-own t u) ∙ ap (seat_for t) (sym owned) ∙ none in
    absurd (omega (arith, seat, small))

-- if the seat is not NO_SLOT, the superblock is in the slot of that number
pub some_under : {s : Content} → IsSpace s → (t m : ℕ) → seat_for t (owner_at s.owners m) ≢ NO_SLOT
    → owner_at s.owners m ≡ Some (owned_by t (seat_for t (owner_at s.owners m)))
some_under {s} facts t m some = go (owner_at s.owners m) some
  where
    go : (o : Option Owner) → seat_for t o ≢ NO_SLOT → o ≡ Some (owned_by t (seat_for t o))
    go None some = absurd (some refl)
    go (Some owner) some = elim (cases_eq owner.tenant t) [
      | inl same ↦ rw (← same) (ap (λ (o : ℕ). Some (owned_by owner.tenant o)) (sym (seat_for-own owner.tenant owner.slot)))
      | inr differ ↦ absurd (some (ap (λ (own : Bool). cond own owner.slot NO_SLOT) (ne_eqb owner.tenant t differ)))
    ]

-- the two directions of the answer of a lookup
pub under_is : {s : Content} → IsSpace s → (t m seat : ℕ) → seat ≡ seat_for t (owner_at s.owners m) → seat ≢ NO_SLOT
    → (u : ℕ) → (Some seat ≡ Some u) ↔ (superblock_at s.slots t u ≡ Some m)
under_is {s} facts t m seat is some u =
    let owned = some_under facts t m (λ none. some (is ∙ none)) in
    let owned_here : owner_at s.owners m ≡ Some (owned_by t seat) = owned ∙ ap (λ v. Some (owned_by t v)) (sym is) in (
      λ same. let number : seat ≡ u = cc in (facts.agree t u m).1 (owned_here ∙ ap (λ v. Some (owned_by t v)) number),
      λ under. let owner : owned_by t seat ≡ owned_by t u = (let owned_so = (facts.agree t u m).0 under in cc) in ap (λ (o : Owner). Some o.slot) owner,
    )
