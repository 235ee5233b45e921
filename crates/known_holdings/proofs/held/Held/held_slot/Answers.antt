use Rattle.known_holdings.proofs.ComputedTests.{match_found}
use Rattle.known_holdings.proofs.held.Held.held_slot.Goals as goal

pub returns : goal.returns
returns c = rw c.find_slot.ensures (match_found c.args.slot c.args.self.now.slots)
