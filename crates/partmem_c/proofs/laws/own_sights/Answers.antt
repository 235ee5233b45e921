use Rattle.partmem_c.proofs.ActionLemmas.{own_sights_of}
use Rattle.partmem_c.proofs.laws.own_sights.Goals as goal

pub returns : goal.returns
returns c = own_sights_of c.own_sights.ensures.own
