use Rattle.framemap.proofs.watched.WatchedSink.quick_lines.Goals as goal

pub returns-then-returns-clause-done : goal.returns-then-returns-clause-done
returns-then-returns-clause-done g c = c.watch_requests.ensures.gone _

pub returns-else-returns-clause-done : goal.returns-else-returns-clause-done
returns-else-returns-clause-done g c = c.watch_requests-else-returns.ensures.gone _
