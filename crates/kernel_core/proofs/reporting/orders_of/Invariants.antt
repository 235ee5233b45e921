use Rattle.std.proofs.Common.{◌≡◌, ◌<◌, IfSome}
use Rattle.arrayvec.specs.ArrayVec.{array_vec_len}
use Rattle.model_core.specs.Machine.{Machine}
use Rattle.model_core.specs.Reports.{greatest, free_count, order_rows}
use Rattle.buddy_core.specs.Content.{holding_of}
use Rattle.machine_changes.specs.Figures.{HasFigures, frames_below}
use Rattle.kernel_core.proofs.reporting.orders_of.Given as goal

abbrev pub invariant-loop-k : goal.invariant-loop-k
invariant-loop-k l =
    (array_vec_len l.orders ≡ l.k)
    × (l.live ≡ frames_below (holding_of l.t l.buddy) l.k)
    × IfSome l.top (λ j. j < l.k)
    × ((m : Machine) → HasFigures l.buddy l.t m → (l.orders.items ≡ order_rows l.buddy.top m l.k) × (l.top ≡ greatest (free_count l.buddy.top m) l.k))
