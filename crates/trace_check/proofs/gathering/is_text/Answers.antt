use Rattle.std.proofs.Common.{sym, arith}
use Rattle.trace_check.proofs.ReadingLemmas.{whole_none, longer_differs}
use Rattle.trace_check.proofs.gathering.is_text.Goals as goal

pub returns-in-None : goal.returns-in-None
returns-in-None c came gathers =
    let over = whole_none 65792 came (c.in-None.ensures came gathers) in
    sym (longer_differs came c.args.due.now (omega (arith, over, c.requires)))
