use Rattle.std.proofs.Common.{subst, arith}
use Rattle.klist_core.specs.Places.{IsEmpty, IsFirst}
use Rattle.slab_tables.specs.Content.{Content, head_of}
use Rattle.slab_core.proofs.SlabForTake.{use_partial, use_empty, free_in_list}
use Rattle.slab_core.proofs.Slabs.slab_to_use.Goals as goal
use Rattle.slab_core.proofs.Slabs.slab_to_use.Goals.{In-Some, In_ok-first}

partial : (c : In-Some) → IsFirst c.args.self.now.lists.places (head_of c.args.cache.tenant c.args.cache.number 1) c.in-Some.first c.in-Some.machine_frame
partial c =
    subst (λ (s : Content). IsFirst s.lists.places (head_of c.args.cache.tenant c.args.cache.number 1) c.in-Some.first c.in-Some.machine_frame) c.self.view_is
    c.in-Some.ensures

empty : (c : In_ok-first) → IsFirst c.args.self.now.lists.places (head_of c.args.cache.tenant c.args.cache.number 2) c.in_ok-first.first c.in_ok-first.machine_frame
empty c =
    subst (λ (s : Content). IsFirst s.lists.places (head_of c.args.cache.tenant c.args.cache.number 2) c.in_ok-first.first c.in_ok-first.machine_frame) c.self.view_is
    c.in_ok-first.ensures

pub returns-in-Some-clause-slab : goal.returns-in-Some-clause-slab
returns-in-Some-clause-slab c =
    use_partial c.args.cache.tenant c.args.cache.number c.requires.parts.agree c.requires.cache _ _ (partial (goal.at.returns-in-Some-clause-slab c).In-Some)

pub returns-clause-slab : goal.returns-clause-slab
returns-clause-slab c =
    use_empty c.args.cache.tenant c.args.cache.number c.requires.parts.agree c.requires.cache _ _
    (subst (λ (s : Content). IsEmpty s.lists.places (head_of c.args.cache.tenant c.args.cache.number 1)) c.self.view_is c.in_default.ensures)
    (empty (goal.at.returns-clause-slab c).In_ok-first)

pub returns-in-Some-clause-free : goal.returns-in-Some-clause-free
returns-in-Some-clause-free c =
    free_in_list c.args.cache.tenant c.args.cache.number c.requires.parts.agree c.requires.cache c.requires.parts.slabs 1 _ _ (omega arith) (omega arith)
    (partial (goal.at.returns-in-Some-clause-free c).In-Some).here

pub returns-clause-free : goal.returns-clause-free
returns-clause-free c =
    free_in_list c.args.cache.tenant c.args.cache.number c.requires.parts.agree c.requires.cache c.requires.parts.slabs 2 _ _ (omega arith) (omega arith)
    (empty (goal.at.returns-clause-free c).In_ok-first).here
