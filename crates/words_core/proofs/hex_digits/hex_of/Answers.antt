use Rattle.std.proofs.Common.{[], arith}
use Rattle.words_core.proofs.HexLemmas.{pair_of}
use Rattle.words_core.proofs.hex_digits.hex_of.Goals as goal

pub returns : goal.returns
returns c = pair_of c.args.byte [] (omega arith)
