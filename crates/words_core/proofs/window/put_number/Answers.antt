use Rattle.std.proofs.Common.{arith}
use Rattle.words_core.proofs.DigitLemmas.{written_before}
use Rattle.words_core.proofs.window.put_number.Goals as goal

pub returns-clause-text : goal.returns-clause-text
returns-clause-text c =
    let start = rw c.from.ensures at c.write_digits.ensures.start in
    let written = rw c.from.ensures at c.write_digits.ensures.written in
    written_before _ c.args.at _ _ c.args.out.now _ start (omega arith) (omega arith) c.write_digits.ensures.before written
