use Rattle.std.proofs.Common.{[], Some, refl, ap}
use Rattle.partmem_c.proofs.calls.run_command.Goals as goal

pub returns : goal.returns
returns c =
    let said = c.run-numbers.ensures [] in record {
      reply = Some said.reply;
      replies = record {
        before = c.in-Some.kernel.now;
        after = c.run-numbers.new.kernel;
        was = c.in-Some.ensures.value;
        is = refl;
        steps = said.steps;
      };
      returns = ap (λ n. Some n) said.are;
    }
