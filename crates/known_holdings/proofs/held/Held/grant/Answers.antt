use Rattle.known_holdings.proofs.held.Held.grant.Goals as goal

pub returns-clause-granted : goal.returns-clause-granted
returns-clause-granted c = rw (c.in_ok-put.ensures.put, ← c.self.view_is)
