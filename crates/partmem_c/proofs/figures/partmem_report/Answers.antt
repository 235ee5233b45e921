use Rattle.std.proofs.Common.{Some, refl}
use Rattle.partmem_c.proofs.figures.partmem_report.Goals as goal

pub returns : goal.returns
returns c =
    let put = c.put_figures.ensures in record {
      reply = Some put.reply;
      replies = record {
        before = c.in-Some.kernel.now;
        after = c.in-Some.kernel.now;
        was = c.in-Some.ensures.value;
        is = refl;
        steps = put.steps;
      };
      returns = (put.returns, put.are);
    }
