use Rattle.std.proofs.Common.{Err, ap, ◌∙◌}
use Rattle.std.proofs.lemmas.Result.{err_from_is_err_and}
use Rattle.partmem_c.proofs.LendLemmas.{page_is}
use Rattle.partmem_c.proofs.lends.lend_block.Goals as goal

pub returns-in_err-span-clause-answers : goal.returns-in_err-span-clause-answers
returns-in_err-span-clause-answers c =
    let told = err_from_is_err_and c.from_residual.result c.from_residual.ensures.1 in
    rw (told.1 ∙ ap Err told.2) c.in_err-span.ensures.answers

pub returns-clause-answers : goal.returns-clause-answers
returns-clause-answers c =
    page_is c.args.kernel.now c.args.tenant c.in_ok-span.span c.lent_of.result c.lent_of.ensures.lent c.args.place c.in_ok-span.ensures.answers
