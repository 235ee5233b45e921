use Rattle.std.proofs.Common.{refl}
use Rattle.partmem_c.proofs.TextLemmas.{one_line}
use Rattle.partmem_c.proofs.lines.partmem_line.Goals as goal

pub returns-in-Ok-clause-done : goal.returns-in-Ok-clause-done
returns-in-Ok-clause-done c = λ done.
    let answered = rw c.in-Ok.is at c.run_line.ensures in record {
      before = c.in-Some.kernel.now;
      after = c.run_line.new.kernel;
      text = answered.text;
      was = c.in-Some.ensures.value;
      is = refl;
      one = one_line c.args.line.now answered.one;
      answers = answered.answers;
      puts = answered.puts;
    }
