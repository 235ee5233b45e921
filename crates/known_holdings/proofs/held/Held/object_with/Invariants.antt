use Rattle.std.proofs.Common.{◌≡◌, drop}
use Rattle.promise_core.specs.Bytes.{object_with}
use Rattle.known_holdings.proofs.held.Held.object_with.Given as goal

abbrev pub invariant-loop-c : goal.invariant-loop-c
invariant-loop-c l = object_with l.place l.len (drop l.c-index l.self.caches) ≡ object_with l.place l.len l.self.caches
