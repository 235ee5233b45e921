-- The run of one tenant's private machine over a list of entries.
use Rattle.std.specs.Prelude.{ℕ, List, [], ◌∷◌, ◌++◌}
use Rattle.model_core.specs.Machine.{Machine}
use Rattle.world_core.specs.PrivateStep.{Entry, Told, private_step}

-- the replies to the commands among the entries, in order, and the machine after the last entry; the run begins with machine m
abbrev pub private_run : ℕ → ℕ → List Entry → Machine → Told
private_run limit order [] m = record { replies = []; machine = m }
private_run limit order (entry ∷ entries) m = record {
  replies = (private_step limit order entry m).replies
      ++ (private_run limit order entries (private_step limit order entry m).machine).replies;
  machine = (private_run limit order entries (private_step limit order entry m).machine).machine;
}
