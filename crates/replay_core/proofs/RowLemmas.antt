-- The events whose reply has several lines are reports and requests for the table of owners.
use Rattle.std.proofs.Common.{◌≡◌, ℕ, refl}
use Rattle.words_core.specs.declared.event.AdminCommand.{AdminCommand}
use Rattle.words_core.specs.declared.event.AdminCommand.TheVariants.{Pool}
use Rattle.words_core.specs.declared.event.Command.{Command}
use Rattle.words_core.specs.declared.event.Command.TheVariants.{Report}
use Rattle.words_core.specs.declared.event.Event.TheVariants.{Tenant, Admin}
use Rattle.replay_core.specs.Rows.{HasRows}

pub only_report : (t : ℕ) (command : Command) → HasRows (Tenant t command) → Report ≡ command
only_report t Report rows = refl
only_report t command rows = absurd rows

pub only_pool : (command : AdminCommand) → HasRows (Admin command) → Pool ≡ command
only_pool Pool rows = refl
only_pool command rows = absurd rows
