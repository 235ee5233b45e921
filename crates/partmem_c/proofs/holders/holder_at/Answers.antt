use Rattle.std.proofs.Common.{Err, ap, ◌∙◌}
use Rattle.std.proofs.lemmas.Result.{err_from_is_err_and}
use Rattle.partmem_c.proofs.holders.holder_at.Goals as goal

pub returns-in_err-holder : goal.returns-in_err-holder
returns-in_err-holder c =
    let told = err_from_is_err_and c.from_residual.result c.from_residual.ensures.1 in
    rw (told.1 ∙ ap Err told.2) (c.in_err-holder.ensures.refused, c.in_err-holder.ensures.answers)

pub returns : goal.returns
returns c = (
  c.in_ok-holder.holder,
  c.numbers_of_holder.ensures,
  c.in_ok-holder.ensures.answers,
)
