use Rattle.std.proofs.Common.{subst}
use Rattle.slab_tables.specs.Content.{IsSlabs}
use Rattle.machine_changes.proofs.SteadyParts.{agree_steady}
use Rattle.slab_core.proofs.Slabs.laws_with.Goals as goal

pub returns-clause-parts : goal.returns-clause-parts
returns-clause-parts c = record {
  space = c.laws-2.ensures;
  buddy = c.laws-3.ensures;
  slabs = subst IsSlabs c.self.view_is c.laws.ensures.slabs;
  agree = c.requires.agree;
}

pub returns-clause-steady : goal.returns-clause-steady
returns-clause-steady c =
    (agree_steady c.args.space.now c.args.buddy.now c.args.self.now c.args.t (subst IsSlabs c.self.view_is c.laws.ensures.slabs) c.requires.agree c.requires.tenant
    c.laws-2.ensures.apart c.laws-3.ensures.sizes c.laws-3.ensures.sound).0
