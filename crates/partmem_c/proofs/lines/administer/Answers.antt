use Rattle.std.proofs.Common.{refl}
use Rattle.words_core.specs.Requests.{reply_to}
use Rattle.words_core.specs.Texts.{text_of}
use Rattle.words_core.specs.declared.reply.Addressee.TheVariants as To
use Rattle.partmem_c.proofs.FitLemmas.{other_fits}
use Rattle.partmem_c.proofs.lines.administer.Goals as goal

pub returns-in-Some : goal.returns-in-Some
returns-in-Some c =
    let reply = reply_to To.Admin c.in-Some.answer in (
      other_fits c.args.kernel.now c.args.command.now c.args.buffer.now c.requires c.in_default.not-Pool,
      (text_of reply, (reply, c.in-Some.ensures.steps, refl), c.put_long_answer.ensures),
    )
