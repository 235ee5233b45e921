use Rattle.std.proofs.Common.{◌+◌, ap, sym, ◌∙◌}
use Rattle.model_core.specs.Machine.{Machine}
use Rattle.model_core.specs.Reports.{frames_held, order_rows}
use Rattle.buddy_core.specs.Content as buddies
use Rattle.machine_changes.specs.Figures.{HasFigures}
use Rattle.kernel_core.specs.Shows.{ShowsMachine}
use Rattle.kernel_core.proofs.ReportFigures.{within, meet, frames_read}
use Rattle.kernel_core.proofs.kernel.Kernel.block_figures.Goals as goal
use Rattle.kernel_core.proofs.kernel.Kernel.block_figures.Goals.{After-orders_of-blocks}

pub orders_of-blocks-requires-clause-fit : goal.orders_of-blocks-requires-clause-fit
orders_of-blocks-requires-clause-fit c = rw c.buddy-buddy.ensures (within c.args.self.now c.args.t c.laws.ensures.agree c.laws.ensures.together c.requires)

-- the tenant's figures in the buddy system are the machine's figures
has : (c : After-orders_of-blocks) → (m : Machine) → ShowsMachine c.args.self.now c.args.t m → HasFigures c.buddy-buddy.result.now c.args.t m
has c m shown = rw c.buddy-buddy.ensures (meet c.args.self.now c.args.t m c.laws.ensures.agree c.laws.ensures.together c.requires shown)

pub returns-clause-frames : goal.returns-clause-frames
returns-clause-frames c = λ m shown.
    frames_read c.buddy-buddy.result.now c.args.t m c.slots.result c.order.result (has (goal.at.returns-clause-frames c).After-orders_of-blocks m shown)
    (rw c.buddy-buddy.ensures (within c.args.self.now c.args.t c.laws.ensures.agree c.laws.ensures.together c.requires)) c.slots.ensures c.order.ensures
    ∙ ap (λ order. frames_held order m) (ap (λ (x : buddies.Content). x.top) c.buddy-buddy.ensures ∙ c.laws.ensures.agree.top)

pub returns-clause-live : goal.returns-clause-live
returns-clause-live c = λ m shown. c.orders_of-blocks.ensures.live ∙ sym (has (goal.at.returns-clause-live c).After-orders_of-blocks m shown).frames

pub returns-clause-orders : goal.returns-clause-orders
returns-clause-orders c = λ m shown.
    c.orders_of-blocks.ensures.orders m (has (goal.at.returns-clause-orders c).After-orders_of-blocks m shown)
    ∙ ap (λ order. order_rows order m (order + 1)) (ap (λ (x : buddies.Content). x.top) c.buddy-buddy.ensures ∙ c.laws.ensures.agree.top)
