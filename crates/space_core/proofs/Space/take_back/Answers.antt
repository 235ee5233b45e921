use Rattle.std.proofs.Common.{[], None, length, sym, ◌∙◌, arith}
use Rattle.space_core.specs.Content.{slots_of}
use Rattle.space_core.specs.Tables.{stored_rows}
use Rattle.space_core.specs.contracts.Space.{the_view}
use Rattle.space_core.proofs.InvariantKept.{taken_back-IsSpace}
use Rattle.space_core.proofs.Mapping.{superblock-lt, within_from_some}
use Rattle.space_core.proofs.TableLemmas.{length-lists_of}
use Rattle.space_core.proofs.SeatLemmas.{emptied_seats, seats_after_entry, tenant_in_seats, superblock_in_seats}
use Rattle.space_core.proofs.Vacancies.{taken_vacancy, tenant_in_set, slot_in_set, superblock_in_set}
use Rattle.space_core.proofs.Space.take_back.Goals as goal

pub empty-requires-clause-tenant : goal.empty-requires-clause-tenant
empty-requires-clause-tenant c =
    let s = the_view c.self.inside in
    let v = c.self.inside.vacancy in
    let lt = tenant_in_set s.owners s.slots v.unowned v.vacant.items c.self.invariant.2 c.args.t 0 [] [] (rw (← c.self.view_is) at c.requires) in
    omega (arith, lt, v.vacant.ok.0)

pub empty-requires-clause-slot : goal.empty-requires-clause-slot
empty-requires-clause-slot c =
    let s = the_view c.self.inside in
    let v = c.self.inside.vacancy in
    let under = rw (← c.self.view_is) at (sym c.machine_of.ensures.value ∙ c.in_ok-m.ensures.ok_part) in
    slot_in_set s.owners s.slots v.unowned v.vacant.items c.self.invariant.2 c.args.t c.args.slot [] [] (within_from_some (slots_of s.slots c.args.t) c.args.slot c.in_ok-m.m under)

pub empty-requires-clause-superblock : goal.empty-requires-clause-superblock
empty-requires-clause-superblock c =
    let s = the_view c.self.inside in
    let v = c.self.inside.vacancy in
    let under = rw (← c.self.view_is) at (sym c.machine_of.ensures.value ∙ c.in_ok-m.ensures.ok_part) in
    superblock_in_set s.owners s.slots v.unowned v.vacant.items c.self.invariant.2 c.args.t 0 [] [] c.in_ok-m.m (superblock-lt c.self.invariant.0 c.args.t c.args.slot c.in_ok-m.m under)

pub set_seat-requires-clause-tenant : goal.set_seat-requires-clause-tenant
set_seat-requires-clause-tenant c =
    let s = the_view c.self.inside in
    let seats = c.self.inside.seats in
    let lt = tenant_in_seats s.owners (length s.slots) (stored_rows seats) c.self.invariant.3 c.args.t (rw (← c.self.view_is) at c.requires) in
    omega (arith, lt, length-lists_of seats.items, seats.ok.0)

pub set_seat-requires-clause-superblock : goal.set_seat-requires-clause-superblock
set_seat-requires-clause-superblock c =
    let s = the_view c.self.inside in
    let under = rw (← c.self.view_is) at (sym c.machine_of.ensures.value ∙ c.in_ok-m.ensures.ok_part) in
    rw c.from-3.ensures (superblock_in_seats s.owners (length s.slots) (stored_rows c.self.inside.seats) c.self.invariant.3 c.args.t c.in_ok-m.m (rw (← c.self.view_is) at c.requires)
    (superblock-lt c.self.invariant.0 c.args.t c.args.slot c.in_ok-m.m under))

pub invariant_of-self : goal.invariant_of-self
invariant_of-self c =
    let s = the_view c.self.inside in
    let v = c.self.inside.vacancy in
    let under = rw (← c.self.view_is) at (sym c.machine_of.ensures.value ∙ c.in_ok-m.ensures.ok_part) in
    rw (c.from.ensures, c.from-2.ensures, c.set_slot.ensures) (
      taken_back-IsSpace c.self.invariant.0 c.args.t c.args.slot c.in_ok-m.m under,
      c.self.invariant.1,
      taken_vacancy s.owners s.slots v.unowned v.vacant.items c.self.invariant.2 c.args.t c.args.slot c.empty.new.self.unowned c.empty.new.self.vacant.items c.in_ok-m.m c.empty.ensures.unowned c.empty.ensures.vacant,
      seats_after_entry _ s.slots _ c.args.t c.args.slot None
          (emptied_seats s.owners (length s.slots) (stored_rows c.self.inside.seats) c.self.invariant.3 c.args.t c.args.slot c.in_ok-m.m (rw (← c.self.view_is) at c.requires) (stored_rows c.set_seat.new.seats)
          ((c.self.invariant.0.agree c.args.t c.args.slot c.in_ok-m.m).0 under) (rw c.from-3.ensures at c.set_seat.ensures)),
    )
