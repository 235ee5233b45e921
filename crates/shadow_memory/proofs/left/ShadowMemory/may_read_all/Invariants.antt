use Rattle.std.proofs.Common.{◌≡◌, ◌+◌, drop}
use Rattle.promise_core.specs.Bytes.{may_all_be}
use Rattle.known_holdings.specs.Holders.{shown_holder}
use Rattle.shadow_memory.specs.Left.{left_at}
use Rattle.shadow_memory.proofs.left.ShadowMemory.may_read_all.Given as goal

abbrev pub invariant-loop-i : goal.invariant-loop-i
invariant-loop-i l = may_all_be l.held (left_at l.self) (shown_holder l.holder) l.place l.bytes
    ≡ may_all_be l.held (left_at l.self) (shown_holder l.holder) (l.place + l.i) (drop l.i l.bytes)
