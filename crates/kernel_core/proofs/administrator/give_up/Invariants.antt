use Rattle.kernel_core.proofs.Resetting.{IsGivingUp}
use Rattle.kernel_core.proofs.administrator.give_up.Given as goal

-- the slots below `slot` are taken back, and `count` is the number of those that the tenant held
abbrev pub invariant-loop-slot : goal.invariant-loop-slot
invariant-loop-slot l = IsGivingUp l.fn.space l.space l.t l.slot l.count
