use Rattle.std.proofs.Common.{Some, refl}
use Rattle.partmem_c.specs.Lends.{alloc_reply}
use Rattle.partmem_c.proofs.LendLemmas.{block_returned}
use Rattle.partmem_c.proofs.pages.partmem_alloc.Goals as goal

pub returns : goal.returns
returns c =
    let old = c.in-Some.kernel.now in let new = c.alloc_block-outcome.new.kernel in let t = c.args.tenant in let order = c.args.order in
    let outcome = c.alloc_block-outcome.result in let did = c.alloc_block-outcome.ensures in let reply = alloc_reply old t outcome in record {
      reply = Some reply;
      replies = record {
        before = old;
        after = new;
        was = c.in-Some.ensures.value;
        is = refl;
        steps = did.steps;
      };
      returns = block_returned old t order outcome c.put_lent.result c.put_lent.new.to c.put_lent.ensures did.block;
    }
