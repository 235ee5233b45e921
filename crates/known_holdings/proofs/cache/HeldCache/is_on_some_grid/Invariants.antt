use Rattle.std.proofs.Common.{◌≡◌, ℕ, ◌*◌, ◌-◌, ◌<◌, ◌≤◌, ◌&&◌, nat_le, false}
use Rattle.promise_core.specs.Holdings.{slab_around, is_grid}
use Rattle.known_holdings.proofs.cache.HeldCache.is_on_some_grid.Given as goal

abbrev pub invariant-loop-i : goal.invariant-loop-i
invariant-loop-i l = (k : ℕ) → l.low ≤ k → k < l.i → (nat_le (k * l.self.chunk) l.place
    && is_grid l.self (slab_around l.self l.place) (l.place - k * l.self.chunk) l.beside) ≡ false
