use Rattle.std.proofs.Common.{arith}
use Rattle.words_core.proofs.HexLemmas.{hex_four}
use Rattle.words_core.proofs.hex_digits.hex_of_four.Goals as goal

pub returns : goal.returns
returns c =
    hex_four c.args.bytes.now c.hex_of-first.result c.hex_of-second.result c.hex_of-third.result c.hex_of-fourth.result (omega arith)
    c.hex_of-first.ensures c.hex_of-second.ensures c.hex_of-third.ensures c.hex_of-fourth.ensures
