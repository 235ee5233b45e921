-- The outcome and the counts of a run.
use Rattle.std.specs.Prelude.{ℕ, ◌-◌, Result, Ok, Err}
use Rattle.command_line.specs.declared.outcome.Outcome.{Outcome}
use Rattle.partmem.specs.declared.outcome.Ended.{Ended}
use Rattle.own_trace.specs.declared.keeping.KeepError.{KeepError}
use Rattle.streams.specs.declared.tally.Tally.{Tally}
use Rattle.streams.specs.declared.tally.ReplayError.{ReplayError}

-- the outcome that a run has before its last flush, if `keep` returned this result
abbrev pub outcome_of_kept : Result (Unit {0}) KeepError → Outcome
outcome_of_kept (Ok done) = Outcome.Done
outcome_of_kept (Err KeepError.Feed) = Outcome.Unreadable
outcome_of_kept (Err KeepError.Drain) = Outcome.Unwritable

-- the counts in the result of a replay
abbrev pub tally_of : Result Tally ReplayError → Tally
tally_of (Ok tally) = tally
tally_of (Err (ReplayError.Feed tally)) = tally
tally_of (Err (ReplayError.Drain tally)) = tally

-- these counts, with `unwritten` subtracted from the number of bytes written
abbrev pub without_unwritten : Tally → ℕ → Tally
without_unwritten tally unwritten = record { lines = tally.lines; events = tally.events; faults = tally.faults; written = tally.written - unwritten }

-- the counts of a run in which nothing was done: all are 0
abbrev pub no_tally : Tally
no_tally = record { lines = 0; events = 0; faults = 0; written = 0 }

-- a run that ended with this outcome before the first line
abbrev pub ended_at_once : Outcome → Ended
ended_at_once outcome = record { outcome = outcome; tally = no_tally }
