use Rattle.known_holdings.proofs.held.Held.take_back.Goals as goal

pub returns : goal.returns
returns c = rw (c.remove.ensures.value, ← c.self.view_is)
