use Rattle.std.proofs.Common.{◌≡◌, drop}
use Rattle.std.specs.Prelude.{count_by, ◌==◌}
use Rattle.trace_check.specs.Forms.{form_at}
use Rattle.trace_check.proofs.form.behind_word.Given as goal

-- matching the rest of the word with the rest of the text gives the result of the whole match; the rest of the word has no `#`
abbrev pub invariant-loop-letter : goal.invariant-loop-letter
invariant-loop-letter l = record {
  left : form_at (drop l.letter-index l.word) l.rest ≡ form_at l.word l.text;
  marks : count_by (λ b. b == 35) (drop l.letter-index l.word) ≡ 0;
}
