-- The machine after any list of operations that can be requested, run on the empty machine, is well formed.
use Rattle.std.proofs.Common.{ℕ, true, false, List, [], ◌∷◌}
use Rattle.model_core.specs.Machine.{Machine, empty_machine}
use Rattle.model_core.specs.Slabs.{new_slab, grown_cache, next_object, by_need}
use Rattle.model_core.specs.Runs.{Operation, IsPossible, ArePossible, after, run}
use Rattle.model_core.specs.WellFormed.{IsWellFormed}
use Rattle.model_core.specs.Laws.{KeepsWellFormed, RunsWellFormed}
use Rattle.model_core.proofs.Outcomes.{outcome}
use Rattle.model_core.proofs.PageSteps.{empty_kept, by_need_kept, block_kept, released_kept, new_kept, gone_kept, reaped_kept, grant_kept, slot_gone_kept}
use Rattle.model_core.proofs.CacheSteps.{live_kept, IsMade, made}
use Rattle.model_core.proofs.Objects.{live_is}
use Rattle.model_core.proofs.ByteSteps.{written_kept}

pub keeps_well_formed : KeepsWellFormed
keeps_well_formed limit order operation m can w = outcome limit order m (λ operation n. IsPossible operation → IsWellFormed limit order n) (record {
  refused = λ _ _ _. w;
  page_taken = λ k first e _. block_kept order first k (by_need order k m) (by_need_kept order k m w) e;
  page_released = λ first _. released_kept order first m w;
  bytes_written = λ place new e _. written_kept order place new m w e;
  cache_made = λ size align pattern. new_kept order size align pattern m w;
  object_taken = λ number c s i j _ _ _. live_kept order c s (next_object s) true m w i j;
  slab_made = λ number c first i e _ _ _.
      let h : IsMade limit order first c m = made order first c m w i e in
      live_kept order (grown_cache first c) (new_slab c first) (next_object (new_slab c first)) true _ h.formed h.cache_in h.slab_in;
  object_given = λ number place c o i j _. live_kept order c o.slab o.index false m w i (live_is c o j).slab_in;
  cache_destroyed = λ number c i _ _. gone_kept order c m w i;
  slabs_reaped = λ _. reaped_kept order m w;
  slot_granted = λ _. grant_kept order m w;
  slot_gone = λ slot _ free _. slot_gone_kept order slot m w free;
  all_gone = λ _. empty_kept order;
}) operation can

pub run_kept : (limit order : ℕ) (operations : List Operation) (m : Machine) → ArePossible operations → IsWellFormed limit order m → IsWellFormed limit order (run limit order operations m)
run_kept limit order [] m can w = w
run_kept limit order (operation ∷ operations) m (first, rest) w = run_kept limit order operations (after limit order operation m) rest (keeps_well_formed limit order operation m first w)

pub runs_well_formed : RunsWellFormed
runs_well_formed limit order operations can = run_kept limit order operations empty_machine can (empty_kept order)
