use Rattle.std.proofs.Common.{ap, length, length-append, arith}
use Rattle.words_core.specs.Texts.{addressee_text}
use Rattle.trace_check.proofs.AnswerLemmas.{addressee_takes}
use Rattle.trace_check.proofs.table.table_of.Goals as goal

pub slice_bounds-front-count : goal.slice_bounds-front-count
slice_bounds-front-count c =
    omega (
      arith,
      ap length (addressee_takes c.args.text.now c.in_ok-addressee.addressee c.in_ok-addressee.rest.now c.in_ok-addressee.ensures),
      length-append (addressee_text c.in_ok-addressee.addressee) c.in_ok-addressee.rest.now,
    )
