use Rattle.partmem_c.proofs.FreeLemmas.{offsets_refused}
use Rattle.partmem_c.proofs.laws.offsets_are_refused.Goals as goal

pub returns : goal.returns
returns c = offsets_refused
