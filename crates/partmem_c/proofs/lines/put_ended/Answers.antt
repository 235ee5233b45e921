use Rattle.partmem_c.proofs.TextLemmas.{ended_put}
use Rattle.partmem_c.proofs.lines.put_ended.Goals as goal

pub returns : goal.returns
returns c = ended_put c.args.line.now c.args.out.now _ _ c.put_short.ensures c.put.ensures
