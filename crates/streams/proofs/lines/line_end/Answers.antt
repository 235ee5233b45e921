use Rattle.streams.proofs.LineLemmas.{first_byte}
use Rattle.streams.proofs.lines.line_end.Goals as goal

pub returns-clause-at : goal.returns-clause-at
returns-clause-at c = first_byte _ c.args.bytes.now c.memchr.result c.memchr.ensures
