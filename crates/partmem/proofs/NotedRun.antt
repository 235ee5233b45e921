-- The notes of a run are the notes that its replay took.
use Rattle.std.proofs.Common.{◌≡◌, ℕ, suc, Bool, true, false, inl, inr, List, [], ◌∷◌, ◌++◌, length, Result, Ok, Err, Option, refl, ap, sym, ◌∙◌}
use Rattle.std.proofs.lemmas.List.{append-nil}
use Rattle.words_core.specs.Cutting.{lines_of_trace}
use Rattle.words_core.specs.Grammar.{reading_of}
use Rattle.world_core.specs.Limits.{cache_limit}
use Rattle.world_core.specs.World.{World, opening_world}
use Rattle.world_core.specs.Output.{ended_lines}
use Rattle.kernel_core.specs.Content.{KernelContent}
use Rattle.streams.specs.declared.tally.Tally.{Tally}
use Rattle.streams.specs.declared.tally.ReplayError.{ReplayError}
use Rattle.streams.specs.declared.tally.ReplayError.TheVariants as Failed
use Rattle.replay_core.specs.Noting.{Noting, noted_fault, noted_lines}
use Rattle.replay_core.specs.Runs.{AreNoted, Noted, Replays, IsDone}
use Rattle.replay_core.proofs.RunLemmas.{reading_of_nothing}
use Rattle.command_line.specs.declared.machine_options.MachineOptions.{MachineOptions}
use Rattle.partmem.specs.Outcome.{tally_of}
use Rattle.partmem.specs.Notes.{HasNoted, with_notes, with_unended}
use Rattle.partmem.proofs.ReplayOutcome.{IsNew, run_outcome}

module _ {N : Type 0} (noting : Noting N) (m : MachineOptions) where
  at_new : (k : KernelContent) (lines : List (List ℕ)) (n n' : N) → IsNew m k → AreNoted noting m.only k lines n n' → n' ≡ with_notes noting m lines n
  at_new k lines n n' new noted =
      noted (opening_world m.config.superblocks m.config.tenants) new.shows
      ∙ ap (λ order. noted_lines noting m.only cache_limit order 1 lines (opening_world m.config.superblocks m.config.tenants) n) new.order

  -- an unfinished line without bytes adds nothing to the notes
  none_behind : (lines : List (List ℕ)) (n : N) → n ≡ with_unended noting lines [] n
  none_behind lines n = ap (λ r. noted_fault noting (suc (length lines)) [] r n) (sym reading_of_nothing)

  -- for every outcome, the notes of the run are those that `HasNoted` states
  pub noted : (k k' : KernelContent) (ended : Bool) (given taken : List ℕ) (replayed : Result Tally ReplayError) (unsent flushed : Bool) (count : ℕ) (n n' : N)
      → IsNew m k → Replays ended m.only k k' given taken replayed → IsDone replayed ended → count ≡ (tally_of replayed).lines
      → Noted noting ended m.only k given replayed n n' → HasNoted noting m (run_outcome replayed unsent flushed) count ended given n n'
  noted k k' ended given taken (Ok t) unsent true count n n' new ran done same h = at_new k (lines_of_trace given) n n' new h
  noted k k' ended given taken (Ok t) unsent false count n n' new ran done same h = (
    lines_of_trace given,
    [],
    inr (done, refl),
    sym ran.counted.lines ∙ sym same,
    inl refl,
    at_new k (lines_of_trace given) n n' new h ∙ none_behind (lines_of_trace given) _,
  )
  noted k k' ended given taken (Err (Failed.Feed t)) true flushed count n n' new ran done same (mid, tail, sofar, split, last) = (
    ended_lines given,
    tail,
    inl ([], sym (append-nil _)),
    sym ran.counted.lines ∙ sym same,
    inr split,
    last ∙ ap (with_unended noting (ended_lines given) tail) (at_new k (ended_lines given) n mid new sofar),
  )
  noted k k' ended given taken (Err (Failed.Feed t)) false flushed count n n' new ran done same (mid, tail, sofar, split, last) =
      (tail, split, last ∙ ap (with_unended noting (ended_lines given) tail) (at_new k (ended_lines given) n mid new sofar))
  noted k k' ended given taken (Err (Failed.Drain t)) unsent flushed count n n' new ran done same (lines, come, few, h) =
      (lines, [], come, few ∙ sym same, inl refl, at_new k lines n n' new h ∙ none_behind lines _)
