use Rattle.std.proofs.Common.{sym, ◌∙◌, ap, subst, arith}
use Rattle.std.specs.Prelude.{MatchOption}
use Rattle.std.proofs.lemmas.Option.{none-some}
use Rattle.buddy_core.specs.Roots.{IsWithoutOrder, IsSource}
use Rattle.buddy_core.specs.Stored.{superblock_at}
use Rattle.buddy_core.specs.Summary.{is_source}
use Rattle.buddy_core.proofs.FirstSlot.{source_bit, source_slot, order_in, not_none, first_is, first_least}
use Rattle.buddy_core.proofs.find.find.Goals as goal

pub returns-in_err-order : goal.returns-in_err-order
returns-in_err-order c =
    let none : IsWithoutOrder c.args.superblocks.now c.args.tenant.now.slots c.args.k = (λ j u m le at bit.
    let zero = c.in_err-order.ensures j le in
    let some = (c.requires.counted j).1 (u, m, at, bit) in
    absurd (omega arith)) in
    subst (λ o. MatchOption o (IsWithoutOrder c.args.superblocks.now c.args.tenant.now.slots c.args.k) (IsSource c.args.superblocks.now c.args.tenant.now.slots c.args.k)) (sym c.from_residual.ensures) none

pub first-requires : goal.first-requires
first-requires c = order_in c.args.superblocks.now c.args.tenant.now c.requires.counted c.args.summary.now c.requires.exact c.in_ok-order.order c.in_ok-order.ensures.2

pub returns-in_err-slot : goal.returns-in_err-slot
returns-in_err-slot c =
    absurd (not_none c.args.superblocks.now c.args.tenant.now c.requires.counted c.args.summary.now c.requires.exact c.in_ok-order.order c.in_ok-order.ensures.2 c.in_err-slot.ensures)

pub returns-in_err-superblock : goal.returns-in_err-superblock
returns-in_err-superblock c =
    let is = first_is c.args.superblocks.now c.args.tenant.now c.requires.counted c.args.summary.now c.requires.exact c.in_ok-order.order c.in_ok-order.ensures.2 c.in_ok-slot.slot c.in_ok-slot.ensures in
    let at = source_slot c.args.superblocks.now (superblock_at c.args.tenant.now c.in_ok-slot.slot) c.in_ok-order.order is in
    absurd (none-some at.0 (c.in_err-superblock.ensures ∙ ap (superblock_at c.args.tenant.now) c.from.ensures ∙ at.1))

pub returns : goal.returns
returns c =
    let xs = c.args.superblocks.now in
    let at = sym (c.in_ok-superblock.ensures ∙ ap (superblock_at c.args.tenant.now) c.from.ensures) in
    let is = first_is xs c.args.tenant.now c.requires.counted c.args.summary.now c.requires.exact c.in_ok-order.order c.in_ok-order.ensures.2 c.in_ok-slot.slot c.in_ok-slot.ensures in
    record {
      at = at;
      enough = c.in_ok-order.ensures.0;
      bit = source_bit xs c.in_ok-superblock.superblock c.in_ok-order.order (ap (is_source xs c.in_ok-order.order) (sym at) ∙ is);
      least = λ i u m le lt there bit.
          let none = c.in_ok-order.ensures.3 i le lt in
          let some = (c.requires.counted i).1 (u, m, there, bit) in
          absurd (omega arith);
      first = first_least xs c.args.tenant.now c.requires.counted c.args.summary.now c.requires.exact c.in_ok-order.order c.in_ok-order.ensures.2 c.in_ok-slot.slot c.in_ok-slot.ensures;
    }
