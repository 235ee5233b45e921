use Rattle.std.proofs.Common.{[], Some, length, replicate, ap, refl, sym, ◌∙◌, arith}
use Rattle.std.proofs.lemmas.List.{get_or-set_same}
use Rattle.model_core.specs.Owners.{owned_by}
use Rattle.space_core.specs.Storage.{shown_banks}
use Rattle.space_core.specs.Tables.{stored_rows}
use Rattle.space_core.specs.contracts.Space.{the_view}
use Rattle.space_core.proofs.InvariantKept.{granted-IsSpace}
use Rattle.space_core.proofs.TableLemmas.{length-lists_of}
use Rattle.space_core.proofs.StoredBytes.{shown-set}
use Rattle.space_core.proofs.SeatLemmas.{filled_seats, seats_after_entry, tenant_in_seats, superblock_in_seats}
use Rattle.space_core.proofs.Vacancies.{granted_vacancy, tenant_in_set, slot_in_set, superblock_in_set}
use Rattle.space_core.proofs.VacantSlots.{unowned-from_position}
use Rattle.space_core.proofs.Space.grant.Goals as goal

pub fill-requires-clause-tenant : goal.fill-requires-clause-tenant
fill-requires-clause-tenant c =
    let s = the_view c.self.inside in
    let v = c.self.inside.vacancy in
    let lt = tenant_in_set s.owners s.slots v.unowned v.vacant.items c.self.invariant.2 c.args.t 0 [] [] (rw (← c.self.view_is) at c.requires) in
    omega (arith, lt, v.vacant.ok.0)

pub fill-requires-clause-slot : goal.fill-requires-clause-slot
fill-requires-clause-slot c =
    let s = the_view c.self.inside in
    let v = c.self.inside.vacancy in
    let tenant = rw (← c.self.view_is) at c.requires in
    let short = rw (← c.self.view_is) at c.least_slot-u.ensures.below in
    slot_in_set s.owners s.slots v.unowned v.vacant.items c.self.invariant.2 c.args.t c.least_slot-u.result [] [] (omega (arith, short, c.self.invariant.0.rows c.args.t tenant))

pub fill-requires-clause-superblock : goal.fill-requires-clause-superblock
fill-requires-clause-superblock c =
    let s = the_view c.self.inside in
    let v = c.self.inside.vacancy in
    let within = rw (← c.self.view_is) at (rw c.in_ok-m.ensures.ok_part at c.least_unowned.ensures.below) in
    superblock_in_set s.owners s.slots v.unowned v.vacant.items c.self.invariant.2 c.args.t 0 [] [] c.in_ok-m.m within

pub set_seat-requires-clause-tenant : goal.set_seat-requires-clause-tenant
set_seat-requires-clause-tenant c =
    let s = the_view c.self.inside in
    let seats = c.self.inside.seats in
    let lt = tenant_in_seats s.owners (length s.slots) (stored_rows seats) c.self.invariant.3 c.args.t (rw (← c.self.view_is) at c.requires) in
    omega (arith, lt, length-lists_of seats.items, seats.ok.0)

pub set_seat-requires-clause-superblock : goal.set_seat-requires-clause-superblock
set_seat-requires-clause-superblock c =
    let s = the_view c.self.inside in
    let within = rw (← c.self.view_is) at (rw c.in_ok-m.ensures.ok_part at c.least_unowned.ensures.below) in
    rw c.from-5.ensures (superblock_in_seats s.owners (length s.slots) (stored_rows c.self.inside.seats) c.self.invariant.3 c.args.t c.in_ok-m.m (rw (← c.self.view_is) at c.requires) within)

pub invariant_of-self : goal.invariant_of-self
invariant_of-self c =
    let s = the_view c.self.inside in
    let v = c.self.inside.vacancy in
    let facts = c.self.invariant.0 in
    let tenant = rw (← c.self.view_is) at c.requires in
    let found = rw (← c.self.view_is) at (sym c.least_unowned.ensures.value ∙ c.in_ok-m.ensures.ok_part) in
    let within = rw (← c.self.view_is) at (rw c.in_ok-m.ensures.ok_part at c.least_unowned.ensures.below) in
    let least = rw (← c.self.view_is) at c.least_slot-u.ensures.slot in
    let short = rw (← c.self.view_is) at c.least_slot-u.ensures.below in
    let unowned = unowned-from_position s.owners c.in_ok-m.m found in
    let banks = ap (shown_banks s.unit) (rw c.from.ensures at c.clear_bank.ensures.bytes) ∙ shown-set s.unit (stored_rows c.self.inside.banks) c.in_ok-m.m [] in
    rw (c.from-2.ensures, c.from-3.ensures, rw c.from-4.ensures at c.set_slot.ensures, banks) (
      granted-IsSpace facts c.args.t c.least_slot-u.result c.in_ok-m.m tenant short within least.vacant unowned,
      record { few = c.self.invariant.1.few; size = c.self.invariant.1.size; capacity = c.clear_bank.ensures.capacity s.unit c.self.invariant.1.capacity; blank = c.self.invariant.1.blank },
      granted_vacancy s.owners s.slots v.unowned v.vacant.items c.self.invariant.2 c.args.t c.least_slot-u.result c.fill.new.self.unowned c.fill.new.self.vacant.items c.in_ok-m.m (owned_by c.args.t c.least_slot-u.result) c.fill.ensures.unowned
          c.fill.ensures.vacant,
      seats_after_entry _ s.slots _ c.args.t c.least_slot-u.result (Some c.in_ok-m.m)
          (filled_seats s.owners (length s.slots) (stored_rows c.self.inside.seats) c.self.invariant.3 c.args.t c.least_slot-u.result c.in_ok-m.m tenant (stored_rows c.set_seat.new.seats) unowned
          (rw c.from-5.ensures at c.set_seat.ensures)),
    )

pub returns-clause-ok : goal.returns-clause-ok
returns-clause-ok c =
    let s = the_view c.self.inside in
    let banks = ap (shown_banks s.unit) (rw c.from.ensures at c.clear_bank.ensures.bytes) ∙ shown-set s.unit (stored_rows c.self.inside.banks) c.in_ok-m.m [] in
    rw (← c.self.view_is, c.from-2.ensures, c.from-3.ensures, rw c.from-4.ensures at c.set_slot.ensures, banks) refl

pub returns-clause-fresh : goal.returns-clause-fresh
returns-clause-fresh c =
    let s = the_view c.self.inside in
    let within = rw (← c.self.view_is) at (rw c.in_ok-m.ensures.ok_part at c.least_unowned.ensures.below) in
    let banks = ap (shown_banks s.unit) (rw c.from.ensures at c.clear_bank.ensures.bytes) ∙ shown-set s.unit (stored_rows c.self.inside.banks) c.in_ok-m.m [] in
    rw banks (get_or-set_same s.banks c.in_ok-m.m (replicate s.unit 0) [] (omega (arith, within, c.self.invariant.0.paired)))
