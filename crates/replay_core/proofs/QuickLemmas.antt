-- The line at the front of a piece was answered in full, or the drain failed within its answer.
use Rattle.std.proofs.Common.{◌≡◌, ℕ, ◌+◌, ◌-◌, ◌<◌, ◌≤◌, List, [], ◌∷◌, ◌++◌, Option, Some, length, take, drop, position, ◌==◌, ap, sym, ◌∙◌, arith, length-drop}
use Rattle.std.specs.Prelude.{Ok, Err}
use Rattle.words_core.specs.declared.event.Event.TheVariants.{Tenant}
use Rattle.words_core.specs.Grammar.{reading_of}
use Rattle.words_core.specs.declared.event.Command.{Command}
use Rattle.kernel_core.specs.Content.{KernelContent}
use Rattle.quick_core.specs.Lines.{ReadsAs}
use Rattle.streams.specs.declared.feed.Stopped.{Stopped}
use Rattle.replay_core.specs.declared.run.Run.{Run}
use Rattle.replay_core.specs.Noting.{Noting}
use Rattle.replay_core.specs.Doing.{HasDone, HasGone, HasStopped}
use Rattle.streams.specs.Lines.{IsOneLine}
use Rattle.replay_core.specs.Standing.{AnswersRead, answers}
use Rattle.replay_core.proofs.DoingLemmas.{gone_end, stopped_end}
use Rattle.streams.proofs.LineLemmas.{found_cut}
use Rattle.replay_core.proofs.RunLemmas.{done_of_event}

-- if the bytes before the first LF of `rest` are read alone as a request, `rest` begins with the line of this request
pub reads_alone : (rest : List ℕ) (end tenant : ℕ) (command : Command) → end < length rest → position (λ b. b == 10) rest ≡ Some end
    → reading_of (take end rest) ≡ Ok (Some (Tenant tenant command)) → ReadsAs rest tenant command (end + 1)
reads_alone rest end tenant command within found reading =
    let same : end + 1 - 1 ≡ end = omega arith in
    record { some = omega arith; within = omega arith; ended = found ∙ ap Some (sym same); reading = ap (λ n. reading_of (take n rest)) same ∙ reading }

-- if a request of `len` bytes was read, `rest` is its line of `len - 1` bytes, an LF, and the bytes after this LF
pub front_cut : (rest : List ℕ) (tenant : ℕ) (command : Command) (len : ℕ) → ReadsAs rest tenant command len
    → IsOneLine (take (len - 1) rest) × (rest ≡ (take (len - 1) rest ++ 10 ∷ []) ++ drop len rest)
front_cut rest tenant command len read =
    let found = found_cut rest (len - 1) read.ended in
    let some = read.some in
    (found.0, found.1 ∙ ap (λ n. (take (len - 1) rest ++ 10 ∷ []) ++ drop n rest) (omega arith))

module _ {N : Type 0} (noting : Noting N) where
  -- if the lines before `rest` were processed, and the line at its front was answered in full, all lines up to this line were
  -- processed
  pub line_done : (s mid s' : Run N × KernelContent) (bytes rest : List ℕ) (old now new : Option (List ℕ)) (tenant : ℕ) (command : Command) (len : ℕ)
      → ReadsAs rest tenant command len → HasGone (answers noting) s bytes rest old now mid
      → HasDone (AnswersRead noting []) mid (Ok (Some (Tenant tenant command))) now new (Ok tt) s'
      → HasGone (answers noting) s bytes (drop len rest) old new s'
  line_done s mid s' bytes rest old now new tenant command len read gone done =
      let cut = front_cut rest tenant command len read in
      gone_end (answers noting) s mid s' bytes [] rest (take (len - 1) rest) (drop len rest) old now new gone tt cut.0 cut.1
      (done_of_event noting mid s' (take (len - 1) rest) _ now new (Ok tt) read.reading done)

  -- if the lines before `rest` were processed, and the drain failed within the answer to the line at its front, it failed in a
  -- line of `bytes`
  pub line_stopped : (s mid s' : Run N × KernelContent) (bytes rest : List ℕ) (old now new : Option (List ℕ)) (stopped : Stopped) (tenant : ℕ) (command : Command) (len : ℕ)
      → ReadsAs rest tenant command len → HasGone (answers noting) s bytes rest old now mid
      → HasDone (AnswersRead noting []) mid (Ok (Some (Tenant tenant command))) now new (Err stopped) s'
      → HasStopped (answers noting) s bytes old new s'
  line_stopped s mid s' bytes rest old now new stopped tenant command len read gone done =
      let cut = front_cut rest tenant command len read in
      stopped_end (answers noting) s mid s' bytes [] rest (take (len - 1) rest) (drop len rest) old now new stopped gone tt cut.0 cut.1
      (done_of_event noting mid s' (take (len - 1) rest) _ now new (Err stopped) read.reading done)

-- if `rest` has at least `len` bytes, its length is the sum of `len` and the number of bytes after the first `len` bytes
pub left_over : (rest : List ℕ) (len : ℕ) → len ≤ length rest → length (drop len rest) + len ≡ length rest
left_over rest len within = omega (arith, length-drop len rest)
