use Rattle.std.proofs.Common.{false, refl}
use Rattle.words_core.specs.Requests.{body_of_answer}
use Rattle.words_core.specs.declared.event.Event.TheVariants as On
use Rattle.promise_core.specs.Promises.{due}
use Rattle.reply_judge.specs.Seen.{state_of}
use Rattle.reply_judge.specs.Judged.{known_at}
use Rattle.reply_judge.proofs.UnchangedVerdicts.{refused, misfit, admin_refused}
use Rattle.reply_judge.proofs.KnownAfterAdmin.{owners_refused}
use Rattle.words_core.specs.declared.event.AdminCommand.TheVariants as Do
use Rattle.reply_judge.proofs.tenant.Tenant.judge_admin_refusal.Goals as goal

pub returns-in_default : goal.returns-in_default
returns-in_default c = record {
  judged = λ w. misfit (On.Admin c.args.command.now) (body_of_answer c.args.answer.now) (record w { owners = c.args.owners.now }) c.args.self.now
      (c.requires c.args.self.now.left.order (state_of c.args.self.now) c.in_default.not-Refused);
  owners = refl;
}

pub returns-in-Grant : goal.returns-in-Grant
unfolding due
returns-in-Grant c =
    let t = c.in-Grant.tenant in
    let x = c.args.self.now in
    record {
      judged = λ w. let v = record w { owners = c.args.owners.now } in rw (c.in-Grant.is, c.in-Refused.is) (refused (On.Admin (Do.Grant t)) c.in-Refused.refusal v x
          c.on_refusal.result c.due_of_grant.result false false c.on_refusal.ensures (c.due_of_grant.ensures t (known_at x v) (state_of x)) refl refl);
      owners = rw c.in-Refused.is (owners_refused (On.Admin c.args.command.now) c.in-Refused.refusal c.args.owners.now c.on_refusal.result);
    }

pub returns-in-TakeBack : goal.returns-in-TakeBack
returns-in-TakeBack c = record {
  judged = λ w. rw (c.in-TakeBack.is, c.in-Refused.is) (c.judge_slot_kept.ensures c.in-TakeBack.tenant (record w { owners = c.args.owners.now }));
  owners = rw c.in-Refused.is (owners_refused (On.Admin c.args.command.now) c.in-Refused.refusal c.args.owners.now c.judge_slot_kept.result);
}

pub returns-in-Move : goal.returns-in-Move
unfolding due
returns-in-Move c = record {
  judged = λ w. rw (c.in-Move.is, c.in-Refused.is) (refused (On.Admin (Do.Move c.in-Move.tenant c.in-Move.slot)) c.in-Refused.refusal (record w { owners = c.args.owners.now }) c.args.self.now
      c.on_refusal-in-Move.result c.due_of_move.result false false c.on_refusal-in-Move.ensures (c.due_of_move.ensures c.in-Move.tenant w) refl refl);
  owners = rw c.in-Refused.is (owners_refused (On.Admin c.args.command.now) c.in-Refused.refusal c.args.owners.now c.on_refusal-in-Move.result);
}

pub returns-in_default-command : goal.returns-in_default-command
returns-in_default-command c = record {
  judged = λ w. rw c.in-Refused.is (admin_refused c.args.command.now c.in-Refused.refusal (record w { owners = c.args.owners.now }) c.args.self.now c.on_refusal-in_default-command.result
      c.in_default-command.not-Grant c.in_default-command.not-TakeBack c.in_default-command.not-Move c.on_refusal-in_default-command.ensures);
  owners = rw c.in-Refused.is (owners_refused (On.Admin c.args.command.now) c.in-Refused.refusal c.args.owners.now c.on_refusal-in_default-command.result);
}
