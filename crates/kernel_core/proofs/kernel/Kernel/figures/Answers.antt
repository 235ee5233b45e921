use Rattle.std.proofs.Common.{refl, ◌≡◌, ◌*◌, ◌-◌, ◌%◌, ◌^◌, ◌<◌, length, ap, ap₂, sym, subst, ◌∙◌, arith}
use Rattle.model_core.specs.Reports.{frames_held, frames_taken, frames_free, greatest_free, rows_of_caches}
use Rattle.buddy_core.specs.Content as buddies
use Rattle.slab_tables.specs.Content as tables
use Rattle.machine_changes.specs.Figures.{HasFigures, AreWithin}
use Rattle.machine_changes.specs.Shows as showing
use Rattle.machine_changes.specs.Steady.{IsSteady}
use Rattle.world_core.specs.PrivateStep.{figures_of}
use Rattle.kernel_core.proofs.CallEffects.{steady}
use Rattle.kernel_core.proofs.ReportFigures.{within, meet, live_below, frames_read, top_none, top_some, figures_are}
use Rattle.words_core.specs.declared.event.Command.TheVariants as Command
use Rattle.kernel_core.specs.Shows.{Shows}
use Rattle.kernel_core.proofs.CallsAsCommands.{reported}
use Rattle.kernel_core.proofs.KernelToWorld.{steps_asked}
use Rattle.kernel_core.proofs.kernel.Kernel.figures.Goals as goal

pub orders_of-blocks-requires-clause-fit : goal.orders_of-blocks-requires-clause-fit
orders_of-blocks-requires-clause-fit c = rw c.buddy-buddy.ensures (within c.args.self.now c.args.t c.laws.ensures.agree c.laws.ensures.together c.requires)

pub overflow_sub-free : goal.overflow_sub-free
overflow_sub-free c =
    let small : AreWithin c.buddy-buddy.result.now c.args.t
    = rw c.buddy-buddy.ensures (within c.args.self.now c.args.t c.laws.ensures.agree c.laws.ensures.together c.requires) in
    live_below c.buddy-buddy.result.now c.args.t c.slots.result c.order.result c.orders_of-blocks.result.live small
    c.slots.ensures c.order.ensures c.orders_of-blocks.ensures.live

pub returns-clause-machine : goal.returns-clause-machine
returns-clause-machine c = λ m shown.
    let k = c.args.self.now in
    let b = c.buddy-buddy.result.now in
    let t = c.args.t in
    let agree = c.laws.ensures.agree in
    let holds = c.laws.ensures.together in
    let small : AreWithin b t = rw c.buddy-buddy.ensures (within k t agree holds c.requires) in
    let inside : t < length k.buddy.tenants = omega (arith, agree.holdings, c.requires) in
    let has : HasFigures b t m = rw c.buddy-buddy.ensures (meet k t m agree holds c.requires shown) in
    let frames_is : c.slots.result * 2 ^ c.order.result % 4294967296 ≡ frames_held b.top m
    = frames_read b t m c.slots.result c.order.result has small c.slots.ensures c.order.ensures in
    let live_is : c.orders_of-blocks.result.live ≡ frames_taken m = c.orders_of-blocks.ensures.live ∙ sym has.frames in
    let free_is : c.slots.result * 2 ^ c.order.result % 4294967296 - c.orders_of-blocks.result.live ≡ frames_free b.top m
    = ap₂ (λ n j. n - j) frames_is live_is in
    let top_is : c.if-free-eq0.top ≡ greatest_free b.top m = elim c.if-free-eq0.branch [
      | goal.then-free-eq0 w ↦ top_none b.top m _ c.if-free-eq0.top free_is w.if-free-eq0.true w.top-is
      | goal.else-free-eq0 w ↦ top_some b.top m _ c.if-free-eq0.top free_is w.if-free-eq0.false (w.top-is ∙ c.orders_of-blocks.ensures.top m has)
    ] in
    let rows : c.rows.result.items ≡ rows_of_caches m = subst (λ (s : tables.Content). showing.Agree k.space k.buddy s → IsSteady k.space k.buddy s t
    → showing.ShowsMachine k.space k.buddy s t m → c.rows.result.items ≡ rows_of_caches m) c.slabs.ensures (c.rows.ensures k.space k.buddy m)
    holds.agree (steady k.space k.buddy k.slabs t holds inside) shown in
    figures_are b.top m _ c.orders_of-blocks.result.live _ c.if-free-eq0.top c.split_share.result c.orders_of-blocks.result.orders.items c.rows.result.items
    frames_is live_is free_is top_is c.split_share.ensures (c.orders_of-blocks.ensures.orders m has) rows
    ∙ ap (λ order. figures_of order m) (ap (λ (x : buddies.Content). x.top) c.buddy-buddy.ensures ∙ agree.top)

pub returns-clause-steps : goal.returns-clause-steps
returns-clause-steps c =
    steps_asked _ _ c.args.t c.args.t Command.Report _ refl c.requires (λ w (shown : Shows c.args.self.now w). shown.agree)
    (reported _ c.args.t _ (returns-clause-machine c))
