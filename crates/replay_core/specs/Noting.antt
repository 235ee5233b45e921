-- The notes that a replay takes in addition to its replies: the refusals that are shown, and the faulty lines.
use Rattle.std.specs.Prelude.{ℕ, suc, List, [], ◌∷◌, take, Option, Some, None, Result, Ok, Err, if◌then◌else◌}
use Rattle.words_core.specs.declared.reply.Body.{Body}
use Rattle.words_core.specs.declared.event.Event.{Event}
use Rattle.words_core.specs.declared.event.LineFault.{LineFault}
use Rattle.words_core.specs.declared.reply.Refusal.{Refusal}
use Rattle.words_core.specs.declared.reply.Reply.{Reply}
use Rattle.world_core.specs.World.{World, world_step, world_after}
use Rattle.world_core.specs.Output.{event_in, is_shown}
use Rattle.words_core.specs.Grammar.{reading_of}

-- how notes change: `refused` adds a refusal, and `faulty` adds a faulty line by its number, its fault and its first 256 bytes
pub record Noting (N : Type 0) : Type 0 where
  pub refused : N → Refusal → N
  pub faulty : N → ℕ → LineFault → List ℕ → N

abbrev pub noted_body : {N : Type 0} → Noting N → Body → N → N
noted_body noting (Body.Refused refusal) n = noting.refused n refusal
noted_body noting (Body.Granted tenant slot superblock) n = n
noted_body noting (Body.TakenBack superblock) n = n
noted_body noting (Body.WasReset tenant superblocks) n = n
noted_body noting (Body.Moved tenant slot superblock) n = n
noted_body noting (Body.Owners owners) n = n
noted_body noting (Body.Frame frame) n = n
noted_body noting (Body.Freed order) n = n
noted_body noting (Body.Bytes bytes) n = n
noted_body noting (Body.Written count) n = n
noted_body noting (Body.Cache cache chunk order objects colours) n = n
noted_body noting (Body.Destroyed frames) n = n
noted_body noting (Body.Object place) n = n
noted_body noting Body.Given n = n
noted_body noting (Body.Reaped frames) n = n
noted_body noting (Body.Report report) n = n
noted_body noting (Body.Fault fault) n = n

-- the notes after a reply: a refusal is noted if it is shown
abbrev pub noted_reply : {N : Type 0} → Noting N → Option ℕ → Reply → N → N
noted_reply noting only reply n = if is_shown only reply.addressee then noted_body noting reply.body n else n

-- the notes after a line with this number, front and reading: a faulty line is noted
abbrev pub noted_fault : {N : Type 0} → Noting N → ℕ → List ℕ → Result (Option Event) LineFault → N → N
noted_fault noting number front (Ok event) n = n
noted_fault noting number front (Err fault) n = noting.faulty n number fault front

-- the notes after a line with this reading, run in world w: a fault is noted, and so is a shown reply that is a refusal
abbrev pub noted_reading : {N : Type 0} → Noting N → Option ℕ → ℕ → ℕ → ℕ → List ℕ → Result (Option Event) LineFault → World → N → N
noted_reading noting only limit order number front (Ok (Some event)) w n = noted_reply noting only (world_step limit order event w).reply n
noted_reading noting only limit order number front (Ok None) w n = noted_fault noting number front (Ok None) n
noted_reading noting only limit order number front (Err fault) w n = noted_fault noting number front (Err fault) n

-- the notes after these lines, each run in the world that the events before it left; the first line has this number
abbrev pub noted_lines : {N : Type 0} → Noting N → Option ℕ → ℕ → ℕ → ℕ → List (List ℕ) → World → N → N
noted_lines noting only limit order number [] w n = n
noted_lines noting only limit order number (line ∷ lines) w n =
    noted_lines noting only limit order (suc number) lines (world_after limit order w (event_in (reading_of line)))
    (noted_reading noting only limit order number (take 256 line) (reading_of line) w n)
