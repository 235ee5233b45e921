use Rattle.std.proofs.Common.{List, ℕ, ap, sym, ◌∙◌, arith}
use Rattle.std.proofs.Math.ListN.{set}
use Rattle.space_core.proofs.TableLemmas.{lists_of, get_or-lists_of, lists_of-set}
use Rattle.space_core.proofs.seats.set_seat.Goals as goal

pub returns : goal.returns
returns c =
    let seats = c.args.seats.now.items in
    let here = get_or-lists_of seats c.args.t c.index_mut.result.now (omega (arith, c.args.seats.now.ok.0, c.requires.tenant)) (rw c.from.ensures at c.index_mut.ensures.value) in
    rw c.from.ensures (lists_of-set seats c.args.t _ ∙ ap (λ (row : List ℕ). set (lists_of seats) c.args.t (set row c.args.m c.args.seat)) (sym here))
