use Rattle.promise_core.specs.Bytes.{with_bytes}
use Rattle.known_holdings.specs.Holders.{shown_holder}
use Rattle.shadow_memory.specs.Summaries.{IsChanged}
use Rattle.shadow_memory.proofs.change.PutChange.change_places.Given as goal

abbrev pub invariant-loop-k : goal.invariant-loop-k
invariant-loop-k l =
    IsChanged (λ place cell. with_bytes (shown_holder l.self.holder) l.self.begin l.self.bytes.now (λ _. cell) place)
    l.first l.low l.k l.fn.cells l.cells
