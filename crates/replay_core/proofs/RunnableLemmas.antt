-- A kernel can run every event that is read from a line: the pattern of a cache has 1 to 16 bytes.
use Rattle.std.proofs.Common.{◌≡◌, sym, List, ℕ, Option, Some, None, Result, Ok, Err}
use Rattle.words_core.specs.declared.event.Event.{Event}
use Rattle.words_core.specs.declared.event.Event.TheVariants as On
use Rattle.words_core.specs.declared.event.Command.TheVariants as Command
use Rattle.words_core.specs.declared.event.LineFault.{LineFault}
use Rattle.words_core.specs.Grammar.{reading_of}
use Rattle.world_core.proofs.AskableCommands.{IsPossibleEvent, reading_possible}
use Rattle.kernel_core.specs.Steps.{HasPattern}
use Rattle.replay_core.specs.Standing.{IsRunnable}

possible_pattern : (event : Event) → IsPossibleEvent event → HasPattern event
possible_pattern (On.Tenant t (Command.Cache size align pattern)) possible = possible.0
possible_pattern (On.Tenant t (Command.Alloc k)) possible = tt
possible_pattern (On.Tenant t (Command.Free frame)) possible = tt
possible_pattern (On.Tenant t (Command.Read place len)) possible = tt
possible_pattern (On.Tenant t (Command.Write place bytes)) possible = tt
possible_pattern (On.Tenant t (Command.Destroy number)) possible = tt
possible_pattern (On.Tenant t (Command.Take number)) possible = tt
possible_pattern (On.Tenant t (Command.Give number place)) possible = tt
possible_pattern (On.Tenant t Command.Reap) possible = tt
possible_pattern (On.Tenant t Command.Report) possible = tt
possible_pattern (On.Admin command) possible = tt

-- the reading of a line has no event, or an event that a kernel can run
pub read_is_runnable : (line : List ℕ) (reading : Result (Option Event) LineFault) → reading ≡ reading_of line → IsRunnable reading
read_is_runnable line (Ok (Some event)) is = possible_pattern event (reading_possible line event (sym is))
read_is_runnable line (Ok None) is = tt
read_is_runnable line (Err fault) is = tt
