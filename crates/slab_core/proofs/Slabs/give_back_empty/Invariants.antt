use Rattle.std.proofs.Common.{ℕ}
use Rattle.std.specs.Prelude.{count_by}
use Rattle.klist_core.specs.Places.{is_in, IsEmpty}
use Rattle.slab_tables.specs.Content.{head_of}
use Rattle.slab_core.proofs.ReturnEmptySlabs.{IsGiving, this}
use Rattle.slab_core.proofs.Slabs.give_back_empty.Given as goal

abbrev pub invariant-loop-first : goal.invariant-loop-first
invariant-loop-first l = record {
  giving : IsGiving (this l.cache.tenant l.cache.number) l.initial.space l.space l.initial.buddy l.buddy l.initial.self l.self l.cache.tenant;
  lists : (head : ℕ) → IsEmpty l.initial.self.lists.places head → IsEmpty l.self.lists.places head;
}

abbrev pub decreases-loop-first : goal.decreases-loop-first
decreases-loop-first l = count_by (is_in (head_of l.cache.tenant l.cache.number 2)) l.self.lists.places
