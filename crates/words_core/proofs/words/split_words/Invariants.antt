use Rattle.std.proofs.Common.{◌≡◌, ◌-◌, ◌++◌, map, take}
use Rattle.arrayvec.specs.ArrayVec.{array_vec_len}
use Rattle.words_core.specs.Words.{words_of}
use Rattle.words_core.proofs.words.split_words.Given as goal

-- the words found so far and the next words of the rest are together the first six words of the line
abbrev pub invariant-loop-rest : goal.invariant-loop-rest
invariant-loop-rest l =
    map (λ word. word.now) l.words.items ++ take (6 - array_vec_len l.words) (words_of l.rest) ≡ take 6 (words_of l.line)

abbrev pub decreases-loop-rest : goal.decreases-loop-rest
decreases-loop-rest l = 6 - array_vec_len l.words
