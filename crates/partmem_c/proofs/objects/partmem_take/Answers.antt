use Rattle.std.proofs.Common.{Some, refl}
use Rattle.partmem_c.specs.Lends.{take_reply}
use Rattle.partmem_c.proofs.LendLemmas.{object_returned}
use Rattle.partmem_c.proofs.objects.partmem_take.Goals as goal

pub returns-clause-runs : goal.returns-clause-runs
returns-clause-runs c =
    let old = c.in-Some.kernel.now in let new = c.take_object-outcome.new.kernel in let t = c.args.tenant in let cache = c.args.cache in
    let outcome = c.take_object-outcome.result in let did = c.take_object-outcome.ensures in let reply = take_reply old t outcome in record {
      reply = Some reply;
      replies = record {
        before = old;
        after = new;
        was = c.in-Some.ensures.value;
        is = refl;
        steps = did.steps;
      };
      returns = object_returned old t outcome c.put_lent.result c.put_lent.new.to c.put_lent.ensures did.lent;
    }
