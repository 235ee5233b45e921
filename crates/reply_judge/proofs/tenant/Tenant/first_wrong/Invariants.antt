use Rattle.std.proofs.Common.{◌≡◌, ◌+◌, drop}
use Rattle.known_holdings.specs.Holders.{shown_holder}
use Rattle.shadow_memory.specs.Left.{left_at}
use Rattle.reply_judge.specs.WrongBytes.{wrong_from}
use Rattle.reply_judge.proofs.tenant.Tenant.first_wrong.Given as goal

abbrev pub invariant-loop-i : goal.invariant-loop-i
invariant-loop-i l = wrong_from l.self.has (left_at l.self.left) (shown_holder l.holder) l.place l.bytes
    ≡ wrong_from l.self.has (left_at l.self.left) (shown_holder l.holder) (l.place + l.i) (drop l.i l.bytes)
