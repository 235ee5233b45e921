use Rattle.std.proofs.Common.{ℕ, ◌*◌, ◌^◌, ◌<◌, ◌≤◌, length}
use Rattle.slab_core.specs.Fitting.{WouldFitAround, AreRefused, has_number}
use Rattle.slab_core.proofs.fitting.View.would_fit_around.Given as goal

abbrev pub invariant-loop-c : goal.invariant-loop-c
invariant-loop-c l = record {
  none : (d : ℕ) → d < l.c → WouldFitAround l.self.space.now l.self.buddy.now l.self.tables.now l.self.tenant d l.k → ⊥;
  words : length l.self.tables.now.lists.places ≤ 64 * length l.refused * 2 ^ l.k;
  refused : AreRefused l.self.space.now l.self.buddy.now l.self.tables.now l.self.tenant l.k (has_number l.refused);
}
