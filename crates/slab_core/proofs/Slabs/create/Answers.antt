use Rattle.std.proofs.Common.{sym, subst}
use Rattle.model_core.specs.Machine.{Machine}
use Rattle.space_core.specs.Content as spaces
use Rattle.buddy_core.specs.Content as buddies
use Rattle.slab_tables.specs.Content.{IsTenant}
use Rattle.machine_changes.specs.Shows.{ShowsMachine, Agree}
use Rattle.slab_core.proofs.Slabs.create.Goals as goal
use Rattle.slab_core.proofs.CreateStep.{IsCreated, created_as, created_agrees}

made : (c : goal.After-create) (r : spaces.Content) (b : buddies.Content) (m : Machine) (h : ShowsMachine r b c.args.self.now c.args.t m)
    → IsCreated c.self.inside.tables c.args.t c.args.layout c.args.pattern c.laws.ensures.slabs
    (subst (λ s. IsTenant s c.args.t) (sym c.self.view_is) c.requires.tenant) r b m (subst (λ s. ShowsMachine r b s c.args.t m) (sym c.self.view_is) h)
    c.create.new.self c.create.result
made c r b m h =
    created_as c.self.inside.tables c.args.t c.args.layout c.args.pattern c.laws.ensures.slabs
    (subst (λ s. IsTenant s c.args.t) (sym c.self.view_is) c.requires.tenant) r b m (subst (λ s. ShowsMachine r b s c.args.t m) (sym c.self.view_is) h)
    c.create.new.self c.create.result c.create.ensures.answer c.create.ensures.created c.create.ensures.full

pub returns-clause-answer : goal.returns-clause-answer
returns-clause-answer c = λ r b m h. (made c r b m h).answer

pub returns-clause-shows : goal.returns-clause-shows
returns-clause-shows c = λ r b m h. (made c r b m h).shows

pub returns-clause-agree : goal.returns-clause-agree
returns-clause-agree c = λ r b a.
    created_agrees c.self.inside.tables c.create.new.self c.args.t c.args.layout c.args.pattern c.laws.ensures.slabs
    (subst (λ s. IsTenant s c.args.t) (sym c.self.view_is) c.requires.tenant) c.create.result
    c.create.ensures.answer c.create.ensures.created c.create.ensures.full r b (subst (λ s. Agree r b s) (sym c.self.view_is) a)
