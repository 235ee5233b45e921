use Rattle.std.proofs.Common.{◌≡◌, ℕ, List, [], length, get_or, ap, sym, ◌∙◌, arith}
use Rattle.space_core.specs.Content.{owner_at}
use Rattle.space_core.specs.Seats.{seat_for}
use Rattle.space_core.specs.Tables.{stored_rows}
use Rattle.space_core.specs.contracts.Space.{the_view}
use Rattle.space_core.proofs.TableLemmas.{get_or-lists_of, length-lists_of}
use Rattle.space_core.proofs.SeatLemmas.{seat_is, under_is, none_under, tenant_in_seats, superblock_in_seats}
use Rattle.space_core.proofs.Space.slot_under.Goals as goal
use Rattle.space_core.proofs.Space.slot_under.Goals.{After-index, After-index-seat}

-- the row that is read has the seats of the tenant
row_read : (c : After-index) → get_or (stored_rows c.self.inside.seats) c.args.t [] ≡ c.index.result.now.items
row_read c =
    let s = the_view c.self.inside in
    let seats = c.self.inside.seats in
    let tenant = rw (← c.self.view_is) at c.requires.tenant in
    let lt = tenant_in_seats s.owners (length s.slots) (stored_rows seats) c.self.invariant.3 c.args.t tenant in
    get_or-lists_of seats.items c.args.t c.index.result.now (omega (arith, lt, length-lists_of seats.items)) (rw c.from.ensures at c.index.ensures)

seat_read : (c : After-index-seat) → c.index-seat.result.now ≡ seat_for c.args.t (owner_at (the_view c.self.inside).owners c.args.m)
seat_read c =
    let s = the_view c.self.inside in
    let tenant = rw (← c.self.view_is) at c.requires.tenant in
    let within = rw (← c.self.view_is) at c.requires.superblock in
    rw c.from-2.ensures at c.index-seat.ensures
    ∙ ap (λ (row : List ℕ). get_or row c.args.m c.index-seat.result.now) (sym (row_read (goal.at.After-index-seat c).After-index))
    ∙ seat_is s.owners (length s.slots) (stored_rows c.self.inside.seats) c.self.invariant.3 c.args.t c.args.m c.index-seat.result.now tenant within

pub index-seat-requires : goal.index-seat-requires
index-seat-requires c =
    let s = the_view c.self.inside in
    let tenant = rw (← c.self.view_is) at c.requires.tenant in
    let within = rw (← c.self.view_is) at c.requires.superblock in
    let short = superblock_in_seats s.owners (length s.slots) (stored_rows c.self.inside.seats) c.self.invariant.3 c.args.t c.args.m tenant within in
    rw c.from-2.ensures (omega (arith, short, ap length (row_read (goal.at.index-seat-requires c).After-index), c.index.result.now.ok.0))

pub returns-then-seat : goal.returns-then-seat
returns-then-seat c =
    let tenant = rw (← c.self.view_is) at c.requires.tenant in
    let none = sym (seat_read (goal.at.returns-then-seat c).After-index-seat) ∙ c.if-seat.true in
    rw (← c.self.view_is) (λ u. (λ same. absurd (cc), λ under. absurd (none_under c.self.invariant.0 c.args.t c.args.m tenant none u under)))

pub returns : goal.returns
returns c =
    rw (← c.self.view_is)
    (under_is c.self.invariant.0 c.args.t c.args.m c.index-seat.result.now (seat_read (goal.at.returns c).After-index-seat) c.if-seat.false)
