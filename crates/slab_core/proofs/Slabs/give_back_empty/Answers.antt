use Rattle.std.proofs.Common.{sym, ◌∙◌, subst, arith}
use Rattle.klist_core.specs.Places.{IsEmpty, IsFirst}
use Rattle.klist_core.proofs.PlacesChanged.{placed_within, count_removed}
use Rattle.slab_tables.specs.Content.{IsSlabs, head_of}
use Rattle.slab_tables.proofs.InvariantKept.{slabs_without}
use Rattle.machine_changes.proofs.SteadyParts.{in_table}
use Rattle.slab_core.proofs.SlabFacts.{machine_frame_within}
use Rattle.slab_core.proofs.ReturnEmptySlabs.{giving_none, giving_more, still_apart, giving_all, IsEmptySlab, listed_empty, one_idle, none_idle, empty_without}
use Rattle.slab_core.proofs.Slabs.give_back_empty.Goals as goal
use Rattle.slab_core.proofs.Slabs.give_back_empty.Goals.{In-Some}

pub loop-first-init : goal.loop-first-init
loop-first-init c = record {
  giving = giving_none c.requires.agree c.laws_with.ensures.parts.slabs;
  lists = λ head none. none;
}

-- the slab that is freed next is the first one in the list of the cache's empty slabs
first : (c : In-Some) → IsFirst c.loop-first.self.lists.places (head_of c.args.cache.tenant c.args.cache.number 2) c.in-Some.first c.in-Some.machine_frame
first c =
    subst (λ s. IsFirst s.lists.places (head_of c.args.cache.tenant c.args.cache.number 2) c.in-Some.first c.in-Some.machine_frame) c.self-in-loop-first.view_is
    c.in-Some.ensures

is_empty : (c : In-Some)
    → IsEmptySlab c.loop-first.space c.loop-first.self c.args.cache.tenant c.args.cache.number c.in-Some.first c.in-Some.machine_frame c.args.cache.kept.now
is_empty c =
    let giving = c.loop-first.invariant.giving in
    listed_empty giving.tables giving.agree (giving.returned.caches c.args.cache.number ∙ c.requires.cache) (first c).here

pub give_back-requires-clause-slab : goal.give_back-requires-clause-slab
give_back-requires-clause-slab c = (is_empty (goal.at.give_back-requires-clause-slab c).In-Some).slab

pub give_back-requires-clause-empty : goal.give_back-requires-clause-empty
give_back-requires-clause-empty c = (is_empty (goal.at.give_back-requires-clause-empty c).In-Some).empty

pub loop-first-preserved : goal.loop-first-preserved
loop-first-preserved c =
    let is = is_empty (goal.at.loop-first-preserved c).In-Some in
    record {
      giving = giving_more c.laws_with.ensures.steady c.loop-first.invariant.giving c.give_back.ensures.returned (one_idle is)
          c.give_back.ensures.spares c.give_back.ensures.agree
          (subst IsSlabs (sym c.give_back.ensures.tables)
          (slabs_without c.loop-first.self c.in-Some.machine_frame c.loop-first.invariant.giving.tables (machine_frame_within is.slab) is.empty));
      lists = λ head none. subst (λ s. IsEmpty s.lists.places head) (sym c.give_back.ensures.tables)
          (empty_without c.loop-first.self c.in-Some.machine_frame head (c.loop-first.invariant.lists head none));
    }

pub loop-first-smaller : goal.loop-first-smaller
loop-first-smaller c =
    let here = (first (goal.at.loop-first-smaller c).In-Some).here in
    let less = count_removed c.loop-first.self.lists.places (head_of c.args.cache.tenant c.args.cache.number 2) c.in-Some.machine_frame c.in-Some.first (placed_within _ _ _ here) here in
    rw c.give_back.ensures.tables (omega (arith, less))

pub returns-clause-empty : goal.returns-clause-empty
returns-clause-empty c = subst (λ s. IsEmpty s.lists.places (head_of c.args.cache.tenant c.args.cache.number 2)) c.self-in-loop-first.view_is c.in_default.ensures

pub returns-clause-returned : goal.returns-clause-returned
returns-clause-returned c =
    let giving = c.loop-first.invariant.giving in
    giving_all c.laws_with.ensures.steady giving
    (none_idle c.args.cache.tenant c.args.cache.number giving.tables giving.agree (still_apart c.laws_with.ensures.steady giving c.laws_with.ensures.parts.space.apart)
    (in_table c.args.self.now c.args.cache.tenant c.args.cache.number c.args.cache.kept.now c.requires.cache).number (returns-clause-empty c))

pub returns-clause-tables : goal.returns-clause-tables
returns-clause-tables c = c.loop-first.invariant.giving.tables
