use Rattle.partmem_c.proofs.TextLemmas.{ends_put}
use Rattle.partmem_c.proofs.lines.put_ends.Goals as goal

pub returns : goal.returns
returns g c = ends_put g.row.N c.args.bytes.now c.args.buffer.now c.put.new.buffer c.put-2.new.buffer c.requires.long c.requires.short c.put.ensures c.put-2.ensures
