use Rattle.std.proofs.Common.{◌+◌, ◌*◌, ◌++◌, ◌∙◌, ap, arith, take, get_or}
use Rattle.hex.proofs.Pairs.{take-two_writes}
use Rattle.words_core.specs.declared.window.TheConstants.{PAIRS}
use Rattle.words_core.proofs.DigitLemmas.{pair_at}
use Rattle.words_core.proofs.window.put_two.Goals as goal

pub returns-clause-text : goal.returns-clause-text
returns-clause-text c =
    let from = 2 * c.args.number in
    take-two_writes c.args.out.now c.args.at (get_or PAIRS from 0) (get_or PAIRS (from + 1) 0) (omega arith)
    ∙ ap (λ pair. take c.args.at c.args.out.now ++ pair) (pair_at c.args.number c.requires.two)
