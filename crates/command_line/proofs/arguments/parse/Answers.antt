use Rattle.command_line.proofs.ParserRefusals.{refused_by}
use Rattle.command_line.proofs.arguments.parse.Goals as goal

pub returns-in-Err-clause-kinds : goal.returns-in-Err-clause-kinds
returns-in-Err-clause-kinds c free = refused_by _ _ c.not_parsed.result (c.in-Err.ensures.kinds free) c.not_parsed.ensures
