use Rattle.std.proofs.Common.{ap, ◌∙◌}
use Rattle.std.specs.Prelude.{Err}
use Rattle.std.proofs.lemmas.Result.{err_from_is_err_and}
use Rattle.words_core.specs.declared.event.Command.TheVariants as Command
use Rattle.words_core.specs.declared.reply.Body.TheVariants.{Given}
use Rattle.kernel_core.proofs.LendSpans.{reply_unknown, reply_known, reply_refused}
use Rattle.kernel_core.proofs.kernel.Kernel.give_object.Goals as goal

pub returns-in_default : goal.returns-in_default
returns-in_default c = reply_unknown c.args.self.now c.args.tenant (Command.Give c.args.cache c.args.place) c.in_default.ensures

pub returns-in_err-give : goal.returns-in_err-give
returns-in_err-give c =
    let x = c.args in
    let told = err_from_is_err_and c.from_residual.result c.from_residual.ensures.1 in
    rw (told.1 ∙ ap Err told.2)
    (reply_refused x.self.now c.give.new.self c.in-Some.t x.tenant (Command.Give x.cache x.place) c.in_err-give.field-0.0 c.in-Some.ensures.0 c.in-Some.ensures.1
    c.laws.ensures.agree c.in_err-give.ensures)

pub returns : goal.returns
returns c =
    reply_known c.args.self.now c.give.new.self c.in-Some.t c.args.tenant (Command.Give c.args.cache c.args.place) Given c.in-Some.ensures.0 c.in-Some.ensures.1
    c.laws-2.ensures.agree c.in_ok-give.ensures
