use Rattle.std.proofs.Common.{◌≡◌, sym, ap, ◌∙◌, ◌/◌, ◌^◌, arith}
use Rattle.kernel_core.specs.Content.{KernelContent, superblock_at}
use Rattle.kernel_core.proofs.PageCalls.{IsRequested, not_held, home_is}
use Rattle.kernel_core.proofs.kernel.Kernel.reached.Goals as goal
use Rattle.kernel_core.proofs.kernel.Kernel.reached.Goals.{After-machine_of}

asked : (c : After-machine_of) → IsRequested c.args.self.now.space c.args.self.now.buddy c.args.self.now.slabs c.args.t
asked c = record { together = c.laws.ensures.together; tenant = omega (arith, c.requires, c.laws.ensures.agree.holdings) }

-- `machine_of` returned the superblock in the slot of the place
read : (c : After-machine_of) → superblock_at c.args.self.now c.args.t (c.args.place / 4096 / 2 ^ c.args.self.now.slabs.top) ≡ c.machine_of.result
read c =
    let top = sym c.laws.ensures.together.agree.order ∙ (c.laws.ensures.agree.top ∙ sym c.order.ensures) in
    ap (λ n. superblock_at c.args.self.now c.args.t (c.args.place / 4096 / 2 ^ n)) top
    ∙ (ap (λ (k : KernelContent). superblock_at k c.args.t (c.args.place / 4096 / 2 ^ c.order.result)) (sym c.self.view_is) ∙ sym c.machine_of.ensures.value)

pub returns-in_err-superblock-clause-reach : goal.returns-in_err-superblock-clause-reach
returns-in_err-superblock-clause-reach c =
    let a = (goal.at.returns-in_err-superblock-clause-reach c).After-machine_of in
    rw c.from_residual.ensures (not_held _ _ _ c.args.t c.args.place c.args.len (asked a) (read a ∙ c.in_err-superblock.was))

pub returns-clause-reach : goal.returns-clause-reach
returns-clause-reach c =
    let a = (goal.at.returns-clause-reach c).After-machine_of in
    let reach = c.is_in_reach.ensures.0 c.if-not-is_in_reach.false in
    (reach, home_is _ _ _ c.args.t c.args.place c.args.len (asked a) c.in_ok-superblock.superblock (read a ∙ c.in_ok-superblock.was) reach)
