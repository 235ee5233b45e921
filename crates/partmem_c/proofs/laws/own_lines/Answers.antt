use Rattle.partmem_c.proofs.CallLemmas.{stands_after, own_lines_of, same_lines_of}
use Rattle.partmem_c.proofs.laws.own_lines.Goals as goal

pub returns-clause-stands : goal.returns-clause-stands
returns-clause-stands c = stands_after

pub returns-clause-lines : goal.returns-clause-lines
returns-clause-lines c = own_lines_of c.own_lines.ensures

pub returns-clause-same : goal.returns-clause-same
returns-clause-same c = same_lines_of c.non_interference.ensures.lines
