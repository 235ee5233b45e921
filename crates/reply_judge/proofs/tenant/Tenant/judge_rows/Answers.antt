use Rattle.words_core.specs.declared.event.Event.TheVariants as On
use Rattle.words_core.specs.declared.reply.Body.TheVariants as Say
use Rattle.reply_judge.specs.Seen.{state_of}
use Rattle.reply_judge.proofs.UnchangedVerdicts.{misfit}
use Rattle.reply_judge.proofs.MisfitAnswers.{no_report_asked}
use Rattle.reply_judge.proofs.tenant.Tenant.judge_rows.Goals as goal

pub returns-in-Report : goal.returns-in-Report
returns-in-Report c t w = rw c.in-Report.is (c.judge_report.ensures t w)

pub returns-in_default : goal.returns-in_default
returns-in_default c t w = misfit (On.Tenant t c.args.command.now) (Say.Report c.args.report.now) w c.args.self.now (no_report_asked t c.args.self.now.left.order (state_of c.args.self.now) c.args.command.now c.args.report.now c.in_default.not-Report)
