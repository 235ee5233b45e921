use Rattle.std.proofs.Common.{List, Option, ℕ, ap, sym, ◌∙◌, arith}
use Rattle.std.proofs.Math.ListN.{set}
use Rattle.space_core.proofs.TableLemmas.{lists_of, get_or-lists_of, lists_of-set}
use Rattle.space_core.proofs.pool.set_slot.Goals as goal

pub returns : goal.returns
returns c =
    let slots = c.args.slots.now.items in
    let here = get_or-lists_of slots c.args.t c.index_mut.result.now (omega (arith, c.args.slots.now.ok.0, c.requires.tenant)) (rw c.from.ensures at c.index_mut.ensures.value) in
    rw c.from.ensures (lists_of-set slots c.args.t _ ∙ ap (λ (row : List (Option ℕ)). set (lists_of slots) c.args.t (set row c.args.u c.args.to)) (sym here))
