use Rattle.std.proofs.Common.{◌≡◌, length}
use Rattle.slab_core.specs.Fitting.{AreRefused, has_number}
use Rattle.slab_core.proofs.FittingCache.{IsSearched, left}
use Rattle.slab_core.proofs.fitting.View.would_fit_in_cache.Given as goal

abbrev pub invariant-loop-next : goal.invariant-loop-next
invariant-loop-next l = record {
  searched : IsSearched l.self.space.now l.self.buddy.now l.self.tables.now l.self.tenant l.c l.k l.next;
  len : length l.refused ≡ length l.initial.refused;
  refused : AreRefused l.self.space.now l.self.buddy.now l.self.tables.now l.self.tenant l.k (has_number l.refused);
}

abbrev pub decreases-loop-next : goal.decreases-loop-next
decreases-loop-next l = left l.next
