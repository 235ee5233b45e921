use Rattle.std.proofs.Common.{◌≡◌, ◌∙◌, ◌-◌, arith, length, drop, take}
use Rattle.std.proofs.lemmas.Grind.{common_steps}
use Rattle.words_core.proofs.WordLemmas.{words_of-after_blanks, words_of-none, first_word}
use Rattle.words_core.proofs.words.next_word.Goals as goal

pub returns-then-is_empty : goal.returns-then-is_empty
returns-then-is_empty c =
    words_of-after_blanks c.args.bytes.now c.blanks_len.result c.blanks_len.ensures.fits c.blanks_len.ensures.blanks
    ∙ words_of-none (drop c.blanks_len.result c.args.bytes.now) (grind (arith, common_steps))

pub returns : goal.returns
returns c =
    let bytes = take (length c.args.bytes.now - c.blanks_len.result) (drop c.blanks_len.result c.args.bytes.now) in
    let is : bytes ≡ drop c.blanks_len.result c.args.bytes.now = grind (arith, common_steps) in
    first_word c.args.bytes.now bytes _ _ c.blanks_len.result c.word_len.result
    c.blanks_len.ensures.fits c.blanks_len.ensures.blanks c.blanks_len.ensures.stops
    is (grind (arith, common_steps)) c.word_len.ensures.fits c.word_len.ensures.word c.word_len.ensures.stops
    c.split_at.ensures.front c.split_at.ensures.back
