use Rattle.std.proofs.Common.{None, replicate, false, refl, ap}
use Rattle.shadow_memory.specs.Left.{Left}
use Rattle.reply_judge.specs.Seen.{Seen}
use Rattle.known_holdings.proofs.ComputedTests.{same_at}
use Rattle.reply_judge.proofs.KnownAfterAdmin.{opened}
use Rattle.reply_judge.proofs.tenant.Tenant.new.Goals as goal

pub returns : goal.returns
returns c =
    let x : Seen = record { has = c.in_ok-new.field-0; left = c.new-2.result; may_have_empty = replicate 32 false; last_report = None } in
    record {
      sized = ap (λ (l : Left). l.order) c.new-2.ensures;
      state = opened x c.args.order c.in_ok-new.ensures c.new-2.ensures (λ n. same_at 32 n false) refl;
    }
