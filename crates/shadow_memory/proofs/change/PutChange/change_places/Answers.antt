use Rattle.std.proofs.Common.{◌+◌, ◌-◌, get_or, ap, ◌∙◌, arith}
use Rattle.std.specs.Prelude.{Some, true}
use Rattle.known_holdings.specs.Holders.{shown_holder}
use Rattle.shadow_memory.proofs.RangeChanges.{put_before, put_more, put_behind}
use Rattle.shadow_memory.proofs.change.PutChange.change_places.Goals as goal

pub loop-k-init : goal.loop-k-init
loop-k-init c =
    let p = c.args.self.now in
    put_before (shown_holder p.holder) p.begin c.args.first c.args.low c.args.high c.min-from.result
    c.max-to.result p.bytes.now c.args.cells.now
    (omega arith) (omega arith) c.requires.order

pub loop-k-preserved : goal.loop-k-preserved
loop-k-preserved c =
    let p = c.args.self.now in
    put_more (shown_holder p.holder) p.begin c.args.first c.args.low c.args.high c.min-from.result
    c.max-to.result p.bytes.now c.args.cells.now
    (omega arith) (omega arith) c.loop-k.k c.loop-k.cells c.of.result c.requires.order (omega arith)
    c.loop-k-test.true (omega arith) c.loop-k.invariant
    (c.of.ensures ∙ ap
    (λ n. Some (record { holder = shown_holder p.holder; byte = get_or p.bytes.now (c.args.first + c.loop-k.k - n) 0; sure = true }))
    c.from-begin.ensures)

pub returns : goal.returns
returns c =
    let p = c.args.self.now in
    put_behind (shown_holder p.holder) p.begin c.args.first c.args.low c.args.high c.min-from.result
    c.max-to.result p.bytes.now c.args.cells.now
    (omega arith) (omega arith) c.loop-k.k c.loop-k.cells c.requires.order (omega arith) (omega arith)
    (omega arith) c.loop-k.invariant
