use Rattle.std.proofs.Common.{subst}
use Rattle.machine_changes.specs.Laws.{ListsHold}
use Rattle.machine_changes.proofs.KindLists.{kinds_hold}
use Rattle.slab_core.proofs.Slabs.lists.Goals as goal

pub returns-clause-hold : goal.returns-clause-hold
returns-clause-hold c = subst ListsHold c.self.view_is (kinds_hold c.self.inside.tables c.laws.ensures.slabs c.laws.ensures.table)
