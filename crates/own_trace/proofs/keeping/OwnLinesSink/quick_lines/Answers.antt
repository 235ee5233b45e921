use Rattle.std.proofs.Common.{refl}
use Rattle.own_trace.proofs.keeping.OwnLinesSink.quick_lines.Goals as goal

pub returns-then-returns-clause-done : goal.returns-then-returns-clause-done
returns-then-returns-clause-done g c = c.keep_ended_lines.ensures.done _ refl

pub returns-else-returns-clause-done : goal.returns-else-returns-clause-done
returns-else-returns-clause-done g c = c.keep_ended_lines-else-returns.ensures.done _ refl
