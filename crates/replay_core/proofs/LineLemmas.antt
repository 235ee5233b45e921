-- The lines of a trace are the lines that ended in LF, and then the lines of the bytes after them.
use Rattle.std.proofs.Common.{◌≡◌, ℕ, ◌<◌, List, [], ◌∷◌, ◌++◌, length, refl, ap, ◌∙◌, arith, append_assoc}
use Rattle.std.specs.List.{onto_first}
use Rattle.words_core.specs.Cutting.{lines_of_trace}
use Rattle.world_core.specs.Output.{onto_ended, ended_lines, with_line_feeds}
use Rattle.streams.specs.Lines.{IsOneLine}
use Rattle.replay_core.specs.Standing.{AreLines}

line_cut : (line after : List ℕ) → IsOneLine line → lines_of_trace ((line ++ 10 ∷ []) ++ after) ≡ line ∷ lines_of_trace after
line_cut [] after h = refl
line_cut (b ∷ line) after h = rw h.0 (ap (onto_first b) (line_cut line after h.1))

pub line_ended : (line after : List ℕ) → IsOneLine line → ended_lines ((line ++ 10 ∷ []) ++ after) ≡ line ∷ ended_lines after
line_ended [] after h = refl
line_ended (b ∷ line) after h = rw h.0 (ap (onto_ended b) (line_ended line after h.1))

pub lines_cut : (xs : List (List ℕ)) (left : List ℕ) → AreLines xs → lines_of_trace (with_line_feeds xs ++ left) ≡ xs ++ lines_of_trace left
lines_cut [] left h = refl
lines_cut (x ∷ xs) left h =
    ap lines_of_trace (append_assoc (x ++ 10 ∷ []) (with_line_feeds xs) left)
    ∙ line_cut x (with_line_feeds xs ++ left) h.0 ∙ ap (λ more. x ∷ more) (lines_cut xs left h.1)

pub lines_ended : (xs : List (List ℕ)) (left : List ℕ) → AreLines xs → ended_lines (with_line_feeds xs ++ left) ≡ xs ++ ended_lines left
lines_ended [] left h = refl
lines_ended (x ∷ xs) left h =
    ap ended_lines (append_assoc (x ++ 10 ∷ []) (with_line_feeds xs) left)
    ∙ line_ended x (with_line_feeds xs ++ left) h.0 ∙ ap (λ more. x ∷ more) (lines_ended xs left h.1)

last_line : (b : ℕ) (line : List ℕ) → IsOneLine (b ∷ line) → lines_of_trace (b ∷ line) ≡ (b ∷ line) ∷ []
last_line b [] h = rw h.0 refl
last_line b (c ∷ line) h = rw h.0 (ap (onto_first b) (last_line c line h.1))

-- if bytes are not empty and have no LF, they are one line of a trace
pub one_line_cut : (line : List ℕ) → IsOneLine line → 0 < length line → lines_of_trace line ≡ line ∷ []
one_line_cut [] h some = absurd (omega arith)
one_line_cut (b ∷ line) h some = last_line b line h

-- bytes without an LF have no line that ended in LF
pub one_line_unended : (line : List ℕ) → IsOneLine line → ended_lines line ≡ []
one_line_unended [] h = refl
one_line_unended (b ∷ line) h = rw h.0 (ap (onto_ended b) (one_line_unended line h.1))
