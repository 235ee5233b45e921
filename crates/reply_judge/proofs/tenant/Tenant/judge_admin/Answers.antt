use Rattle.words_core.specs.declared.event.Event.TheVariants as On
use Rattle.reply_judge.proofs.MisfitAnswers.{unfit}
use Rattle.reply_judge.proofs.tenant.Tenant.judge_admin.Goals as goal
use Rattle.reply_judge.proofs.tenant.Tenant.judge_admin.Goals.{in_default-via-in-Grant+in_default, in_default-via-in-TakeBack+in_default, in_default-via-in-Reset+in_default, in_default-via-in-Move+in_default, in_default-via-in_default}

pub returns-in-Grant-Granted-clause-judged : goal.returns-in-Grant-Granted-clause-judged
returns-in-Grant-Granted-clause-judged c w = rw (c.in-Grant-Granted.is-0, c.in-Grant-Granted.is-1) (c.add_superblock.ensures.judged w)

pub returns-in-TakeBack-TakenBack-clause-judged : goal.returns-in-TakeBack-TakenBack-clause-judged
returns-in-TakeBack-TakenBack-clause-judged c w = rw (c.in-TakeBack-TakenBack.is-0, c.in-TakeBack-TakenBack.is-1) (c.drop_superblock.ensures.judged w)

pub returns-in-Reset-WasReset-clause-judged : goal.returns-in-Reset-WasReset-clause-judged
returns-in-Reset-WasReset-clause-judged c w = rw (c.in-Reset-WasReset.is-0, c.in-Reset-WasReset.is-1) (c.drop_all.ensures.judged w)

pub returns-in-Move-Moved-clause-judged : goal.returns-in-Move-Moved-clause-judged
returns-in-Move-Moved-clause-judged c w = rw (c.in-Move-Moved.is-0, c.in-Move-Moved.is-1) (c.put_over.ensures.judged w)

pub judge_admin_refusal-requires : goal.judge_admin_refusal-requires
judge_admin_refusal-requires c = unfit (On.Admin c.args.command.now) c.args.answer.now (elim c.in_default.branch [
  | in_default-via-in-Grant+in_default w ↦ rw w.in_default.is-0 (λ x. w.in_default.not-Granted-1 x.0 x.1 x.2 x.3)
  | in_default-via-in-TakeBack+in_default w ↦ rw w.in_default.is-0 (λ x. w.in_default.not-TakenBack-1 x.0 x.1)
  | in_default-via-in-Reset+in_default w ↦ rw w.in_default.is-0 (λ x. w.in_default.not-WasReset-1 x.0 x.1 x.2)
  | in_default-via-in-Move+in_default w ↦ rw w.in_default.is-0 (λ x. w.in_default.not-Moved-1 x.0 x.1 x.2 x.3)
  | in_default-via-in_default w ↦ rw w.in_default.is-0 (λ x. x)
])
