-- Lookups of blocks by first frame.
use Rattle.std.proofs.Common.{◌≡◌, ℕ, not, cond, List, map, Some, None, sym, ap, ◌∙◌}
use Rattle.std.specs.Prelude.{option_map, filter, ◌==◌}
use Rattle.model_core.specs.Blocks.{Block}
use Rattle.model_core.specs.Machine.{order_in}
use Rattle.model_core.specs.WellFormed.{RisesFrom}
use Rattle.model_core.specs.Elements.{IsIn}
use Rattle.machine_changes.proofs.Lookups.{at, found_kept, in_found, through}
use Rattle.machine_changes.proofs.PageReserved.{order_found}

-- after the block at frame f is removed, a lookup of f returns None, and all other lookups are unchanged
pub order_less : (f : ℕ) (bs : List Block) (g : ℕ) → order_in (filter (λ x. not (x.first == f)) bs) g ≡ cond (g == f) None (order_in bs g)
order_less f bs g =
    order_found (filter (λ x. not (x.first == f)) bs) g
    ∙ ap (option_map (λ x. x.order)) (found_kept (λ x. x.first) (λ n. n == f) g bs)
    ∙ through (option_map (λ x. x.order)) (g == f) None (at (λ x. x.first) g bs)
    ∙ ap (cond (g == f) None) (sym (order_found bs g))

-- in a list of blocks whose first frames rise, a lookup of the first frame of block z returns the order of z
pub order_told : (z : Block) (bs : List Block) → RisesFrom 0 (map (λ b. b.first) bs) → IsIn z bs → order_in bs z.first ≡ Some z.order
order_told z bs rises i = order_found bs z.first ∙ ap (option_map (λ b. b.order)) (in_found (λ b. b.first) 0 z bs rises i)
