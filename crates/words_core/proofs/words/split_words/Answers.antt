use Rattle.std.proofs.Common.{◌∙◌, ◌-◌, ℕ, List, arith, Bor}
use Rattle.std.proofs.lemmas.Bool.Decides.{nat_tests}
use Rattle.arrayvec.specs.ArrayVec.{array_vec_len}
use Rattle.words_core.specs.Words.{words_of}
use Rattle.words_core.proofs.WordLemmas.{one_more}
use Rattle.words_core.proofs.words.split_words.Goals as goal

pub loop-rest-preserved : goal.loop-rest-preserved
loop-rest-preserved c =
    one_more (λ (word : Bor (List ℕ)). word.now) c.loop-rest.words.items c.push.new.self.items c.in-Some.word
    (words_of c.loop-rest.rest.now) (words_of c.in-Some.after.now)
    (6 - array_vec_len c.loop-rest.words) (6 - array_vec_len c.push.new.self)
    c.push.ensures.items c.in-Some.ensures (grind (arith, nat_tests, c.loop-rest-test.ensures.value))
    ∙ c.loop-rest.invariant
