use Rattle.known_holdings.proofs.cache.HeldCache.take.Goals as goal

pub returns-clause-taken : goal.returns-clause-taken
returns-clause-taken c = rw (c.in_ok-put.ensures.put, ← c.self.view_is)
