use Rattle.std.proofs.Common.{◌≡◌, ℕ, Bool, List, [], Option, ◌<◌, Some, None, length, ap, sym, ◌∙◌, refl, inl, inr, arith}
use Rattle.std.specs.Global.{Vec}
use Rattle.std.specs.List.{swap}
use Rattle.std.proofs.Math.ListN.{set}
use Rattle.std.proofs.lemmas.Bool.{cases_eq, cases_lt}
use Rattle.std.proofs.lemmas.List.{length-set, get_or_past, get_or-set_same, get_or-set_other}
use Rattle.std.proofs.lemmas.List.Edits.{swap_is}
use Rattle.model_core.specs.declared.owner.Owner.{Owner}
use Rattle.model_core.specs.Owners.{owned_by}
use Rattle.space_core.specs.Content.{owner_at}
use Rattle.space_core.specs.Seats.{AreSeats}
use Rattle.space_core.specs.Storage.{shown_banks}
use Rattle.space_core.specs.Tables.{stored_rows}
use Rattle.space_core.specs.contracts.Space.{the_view}
use Rattle.space_core.proofs.TableLemmas.{lists_of, length-lists_of}
use Rattle.space_core.proofs.Mapping.{superblock-lt}
use Rattle.space_core.proofs.BytesUnderSlots.{not_unowned}
use Rattle.space_core.proofs.InvariantKept.{moved-IsSpace}
use Rattle.space_core.proofs.StoredBytes.{length-shown, shown-copied, stored-short}
use Rattle.space_core.proofs.Vacancies.{moved_vacancy, superblock_in_set}
use Rattle.space_core.proofs.VacantSlots.{unowned-from_position}
use Rattle.space_core.proofs.SeatLemmas.{filled_seats, emptied_seats, seats_after_entry, tenant_in_seats, superblock_in_seats}
use Rattle.space_core.proofs.Space.move_slot.Goals as goal
use Rattle.space_core.proofs.Space.move_slot.Goals.{After-set_seat}

pub copy_bank-requires-clause-apart : goal.copy_bank-requires-clause-apart
copy_bank-requires-clause-apart c =
    let s = the_view c.self.inside in
    let under = rw (← c.self.view_is) at (sym c.machine_of.ensures.value ∙ c.in_ok-from.ensures.ok_part) in
    let found = rw (← c.self.view_is) at (sym c.least_unowned.ensures.value ∙ c.in_ok-to.ensures.ok_part) in
    rw (c.from-source.ensures, c.from-target.ensures) (not_unowned c.self.invariant.0 c.args.t c.args.slot c.in_ok-from.from c.in_ok-to.to under (unowned-from_position s.owners c.in_ok-to.to found))

pub copy_bank-requires-clause-capacity : goal.copy_bank-requires-clause-capacity
copy_bank-requires-clause-capacity c =
    let s = the_view c.self.inside in
    let facts = c.self.invariant.0 in
    let m = c.in_ok-from.from in
    let stored = lists_of c.self.inside.banks.items in
    let under = rw (← c.self.view_is) at (sym c.machine_of.ensures.value ∙ c.in_ok-from.ensures.ok_part) in
    let within : m < length stored = omega (arith, facts.paired, superblock-lt facts c.args.t c.args.slot m under, length-shown s.unit stored) in
    let short = stored-short s.unit stored m within in
    let size = facts.sized m (omega (arith, within, length-shown s.unit stored)) in
    rw c.from-source.ensures (λ k d lt. omega (arith, short, size, c.self.invariant.1.capacity k d lt))

-- if superblock `from` has owner o and `to` has none, the swap gives `to` the owner o and leaves `from` without an owner
owner_passes : (owners : List (Option Owner)) (from to : ℕ) (o : Owner) → from < length owners → to < length owners → owner_at owners from ≡ Some o → owner_at owners to ≡ None → swap owners from to ≡ set (set owners from None) to (Some o)
owner_passes owners from to o there here owned unowned = sym (swap_is owners from to None there here) ∙ ap (λ (x : Option Owner). set (set owners from x) to (owner_at owners from)) unowned ∙ ap (set (set owners from None) to) owned

pub pass-requires-clause-from : goal.pass-requires-clause-from
pass-requires-clause-from c =
    let s = the_view c.self.inside in
    let v = c.self.inside.vacancy in
    let under = rw (← c.self.view_is) at (sym c.machine_of.ensures.value ∙ c.in_ok-from.ensures.ok_part) in
    superblock_in_set s.owners s.slots v.unowned v.vacant.items c.self.invariant.2 c.args.t 0 [] [] c.in_ok-from.from (superblock-lt c.self.invariant.0 c.args.t c.args.slot c.in_ok-from.from under)

pub pass-requires-clause-to : goal.pass-requires-clause-to
pass-requires-clause-to c =
    let s = the_view c.self.inside in
    let v = c.self.inside.vacancy in
    let below = rw (← c.self.view_is) at (rw c.in_ok-to.ensures.ok_part at c.least_unowned.ensures.below) in
    superblock_in_set s.owners s.slots v.unowned v.vacant.items c.self.invariant.2 c.args.t 0 [] [] c.in_ok-to.to below

-- after the first write, the seats agree with owners among which superblock `from` has none
seats_left : (c : After-set_seat) → AreSeats (set c.self.inside.owners.items c.in_ok-from.from None) (length (the_view c.self.inside).slots) (stored_rows c.set_seat.new.seats)
seats_left c =
    let s = the_view c.self.inside in
    let under = rw (← c.self.view_is) at (sym c.machine_of.ensures.value ∙ c.in_ok-from.ensures.ok_part) in
    emptied_seats s.owners (length s.slots) (stored_rows c.self.inside.seats) c.self.invariant.3 c.args.t c.args.slot c.in_ok-from.from (rw (← c.self.view_is) at c.requires) (stored_rows c.set_seat.new.seats)
    ((c.self.invariant.0.agree c.args.t c.args.slot c.in_ok-from.from).0 under) (rw c.from-source.ensures at c.set_seat.ensures)

-- a superblock without an owner has none after another one lost its owner
unowned_still : (owners : List (Option Owner)) (from to : ℕ) → owner_at owners to ≡ None → owner_at (set owners from None) to ≡ None
unowned_still owners from to unowned = elim (cases_eq to from) [
  | inl same ↦ elim (cases_lt to (length owners)) [
    | inl lt ↦ ap (λ n. owner_at (set owners n None) to) (sym same) ∙ get_or-set_same owners to None None lt
    | inr past ↦ get_or_past (set owners from None) to None (omega (arith, length-set owners from None))
  ]
  | inr differ ↦ get_or-set_other owners from to None None differ ∙ unowned
]

pub set_seat-requires-clause-tenant : goal.set_seat-requires-clause-tenant
set_seat-requires-clause-tenant c =
    let s = the_view c.self.inside in
    let seats = c.self.inside.seats in
    let lt = tenant_in_seats s.owners (length s.slots) (stored_rows seats) c.self.invariant.3 c.args.t (rw (← c.self.view_is) at c.requires) in
    omega (arith, lt, length-lists_of seats.items, seats.ok.0)

pub set_seat-requires-clause-superblock : goal.set_seat-requires-clause-superblock
set_seat-requires-clause-superblock c =
    let s = the_view c.self.inside in
    let under = rw (← c.self.view_is) at (sym c.machine_of.ensures.value ∙ c.in_ok-from.ensures.ok_part) in
    rw c.from-source.ensures (superblock_in_seats s.owners (length s.slots) (stored_rows c.self.inside.seats) c.self.invariant.3 c.args.t c.in_ok-from.from (rw (← c.self.view_is) at c.requires)
    (superblock-lt c.self.invariant.0 c.args.t c.args.slot c.in_ok-from.from under))

pub set_seat-requires-2-clause-tenant : goal.set_seat-requires-2-clause-tenant
set_seat-requires-2-clause-tenant c =
    let s = the_view c.self.inside in
    let seats = c.set_seat.new.seats in
    let lt = tenant_in_seats _ (length s.slots) (stored_rows seats) (seats_left (goal.at.set_seat-requires-2-clause-tenant c).After-set_seat) c.args.t (rw (← c.self.view_is) at c.requires) in
    omega (arith, lt, length-lists_of seats.items, seats.ok.0)

pub set_seat-requires-2-clause-superblock : goal.set_seat-requires-2-clause-superblock
set_seat-requires-2-clause-superblock c =
    let s = the_view c.self.inside in
    let below = rw (← c.self.view_is) at (rw c.in_ok-to.ensures.ok_part at c.least_unowned.ensures.below) in
    rw c.from-target.ensures (superblock_in_seats (set s.owners c.in_ok-from.from None) (length s.slots) (stored_rows c.set_seat.new.seats) (seats_left (goal.at.set_seat-requires-2-clause-superblock c).After-set_seat) c.args.t c.in_ok-to.to
    (rw (← c.self.view_is) at c.requires) (omega (arith, below, length-set s.owners c.in_ok-from.from None)))

pub invariant_of-self : goal.invariant_of-self
invariant_of-self c =
    let s = the_view c.self.inside in
    let v = c.self.inside.vacancy in
    let facts = c.self.invariant.0 in
    let stored = lists_of c.self.inside.banks.items in
    let from = c.in_ok-from.from in
    let to = c.in_ok-to.to in
    let under = rw (← c.self.view_is) at (sym c.machine_of.ensures.value ∙ c.in_ok-from.ensures.ok_part) in
    let found = rw (← c.self.view_is) at (sym c.least_unowned.ensures.value ∙ c.in_ok-to.ensures.ok_part) in
    let below = rw (← c.self.view_is) at (rw c.in_ok-to.ensures.ok_part at c.least_unowned.ensures.below) in
    let unowned = unowned-from_position s.owners to found in
    let owned = (facts.agree c.args.t c.args.slot from).0 under in
    let there : from < length stored = omega (arith, superblock-lt facts c.args.t c.args.slot from under, facts.paired, length-shown s.unit stored) in
    let bytes = rw (c.from-source.ensures, c.from-target.ensures) at c.copy_bank.ensures.bytes in
    let banks = ap (shown_banks s.unit) bytes ∙ shown-copied s.unit stored from to there in
    let within = superblock-lt facts c.args.t c.args.slot from under in
    let owners = rw (c.from-source.ensures, c.from-target.ensures) at c.swap.ensures.items ∙ owner_passes s.owners from to (owned_by c.args.t c.args.slot) within below owned unowned in
    rw (c.from-source.ensures, c.from-target.ensures, c.set_slot.ensures, banks, owners) (
      moved-IsSpace facts c.args.t c.args.slot from to under below unowned,
      record { few = c.self.invariant.1.few; size = c.self.invariant.1.size; capacity = c.copy_bank.ensures.capacity s.unit c.self.invariant.1.capacity; blank = c.self.invariant.1.blank },
      moved_vacancy s.owners s.slots v.unowned v.vacant.items c.self.invariant.2 c.args.t c.args.slot c.pass.new.self.unowned c.pass.new.self.vacant.items from to (owned_by c.args.t c.args.slot) under c.pass.ensures.unowned
          (ap (λ (all : Vec (List Bool)). all.items) c.pass.ensures.vacant),
      seats_after_entry _ s.slots _ c.args.t c.args.slot (Some to)
          (filled_seats (set s.owners from None) (length s.slots) (stored_rows c.set_seat.new.seats) (seats_left (goal.at.invariant_of-self c).After-set_seat) c.args.t c.args.slot to (rw (← c.self.view_is) at c.requires)
          (stored_rows c.set_seat-2.new.seats) (unowned_still s.owners from to unowned) (rw c.from-target.ensures at c.set_seat-2.ensures)),
    )

pub returns-clause-ok : goal.returns-clause-ok
returns-clause-ok c =
    let s = the_view c.self.inside in
    let facts = c.self.invariant.0 in
    let stored = lists_of c.self.inside.banks.items in
    let from = c.in_ok-from.from in
    let to = c.in_ok-to.to in
    let under = rw (← c.self.view_is) at (sym c.machine_of.ensures.value ∙ c.in_ok-from.ensures.ok_part) in
    let owned = (facts.agree c.args.t c.args.slot from).0 under in
    let there : from < length stored = omega (arith, superblock-lt facts c.args.t c.args.slot from under, facts.paired, length-shown s.unit stored) in
    let bytes = rw (c.from-source.ensures, c.from-target.ensures) at c.copy_bank.ensures.bytes in
    let banks = ap (shown_banks s.unit) bytes ∙ shown-copied s.unit stored from to there in
    let within = superblock-lt facts c.args.t c.args.slot from under in
    let found = rw (← c.self.view_is) at (sym c.least_unowned.ensures.value ∙ c.in_ok-to.ensures.ok_part) in
    let below = rw (← c.self.view_is) at (rw c.in_ok-to.ensures.ok_part at c.least_unowned.ensures.below) in
    let owners = rw (c.from-source.ensures, c.from-target.ensures) at c.swap.ensures.items ∙ owner_passes s.owners from to (owned_by c.args.t c.args.slot) within below owned (unowned-from_position s.owners to found) in
    rw (← c.self.view_is, c.from-source.ensures, c.from-target.ensures, c.set_slot.ensures, banks, owners) refl
