-- The tables of commands: each actor's commands with their words and the forms of their arguments.
use Rattle.std.specs.Prelude.{◌*◌, ℕ, ◌&&◌, nat_le, List, [], ◌∷◌, length, slice_index, codes, if◌then◌else◌, Option, Some, None, Result, Ok, Err}
use Rattle.std.specs.Char.{is_ascii_digit}
use Rattle.arrayvec.specs.ArrayVec.{ArrayVec}
use Rattle.hex.specs.Hex.{decode_of}
use Rattle.hex.specs.declared.error.FromHexError.{FromHexError}
use Rattle.model_core.specs.declared.limits.TheConstants.{MAX_BYTES, MAX_PATTERN}
use Rattle.words_core.specs.Numbers.{number_of}
use Rattle.words_core.specs.declared.event.AdminCommand.{AdminCommand}
use Rattle.words_core.specs.declared.event.Command.{Command}
use Rattle.words_core.specs.declared.event.Event.{Event}
use Rattle.words_core.specs.declared.event.LineFault.{LineFault}

-- the number, or this fault if there is no number
abbrev pub or_fault : Option ℕ → LineFault → Result ℕ LineFault
or_fault (Some number) fault = Ok number
or_fault None fault = Err fault

-- an argument read as a number, or the fault `Number`
abbrev pub argument : List ℕ → Result ℕ LineFault
argument word = or_fault (number_of word) LineFault.Number

-- the bytes decoded from hex, or the fault `Hex` if the decoding failed
abbrev pub bytes_or_fault : Result (List ℕ) FromHexError → Result (ArrayVec ℕ) LineFault
bytes_or_fault (Ok bytes) = Ok (record { items = bytes })
bytes_or_fault (Err _) = Err LineFault.Hex

-- an argument read as 1 to `most` bytes in hex, or the fault `Hex`; each byte is two digits, in upper or lower case
abbrev pub bytes_argument : ℕ → List ℕ → Result (ArrayVec ℕ) LineFault
bytes_argument most word =
    if nat_le 2 (length word) && nat_le (length word) (2 * most) then bytes_or_fault (decode_of word) else Err LineFault.Hex

-- the form of an argument: `number` is a number, and `hex most` is 1 to `most` bytes in hex
pub data Form : Type 0 where
  number : Form
  hex : ℕ → Form

-- the type of the value of an argument of this form
abbrev pub Given : Form → Type 0
Given number = ℕ
Given (hex most) = ArrayVec ℕ

-- the value of an argument that has this form, or the argument's fault
abbrev pub read_as : (form : Form) → List ℕ → Result (Given form) LineFault
read_as number word = argument word
read_as (hex most) word = bytes_argument most word

-- the type of a function that makes a command from arguments of these forms
abbrev pub Maker : List Form → Type 0 → Type 0
Maker [] C = C
Maker (form ∷ forms) C = Given form → Maker forms C

-- a row of a table of commands: the command's word, the forms of its arguments, and the command that they make
pub record CommandRow (C : Type 0) : Type 0 where
  pub word : List ℕ
  pub forms : List Form
  pub makes : Maker forms C

abbrev pub grant_row : CommandRow AdminCommand
grant_row = record { word = codes "grant"; forms = number ∷ []; makes = AdminCommand.Grant }

abbrev pub take_back_row : CommandRow AdminCommand
take_back_row = record { word = codes "takeback"; forms = number ∷ number ∷ []; makes = AdminCommand.TakeBack }

abbrev pub reset_row : CommandRow AdminCommand
reset_row = record { word = codes "reset"; forms = number ∷ []; makes = AdminCommand.Reset }

abbrev pub move_row : CommandRow AdminCommand
move_row = record { word = codes "move"; forms = number ∷ number ∷ []; makes = AdminCommand.Move }

abbrev pub pool_row : CommandRow AdminCommand
pool_row = record { word = codes "pool"; forms = []; makes = AdminCommand.Pool }

abbrev pub alloc_row : CommandRow Command
alloc_row = record { word = codes "alloc"; forms = number ∷ []; makes = Command.Alloc }

abbrev pub free_row : CommandRow Command
free_row = record { word = codes "free"; forms = number ∷ []; makes = Command.Free }

abbrev pub read_row : CommandRow Command
read_row = record { word = codes "read"; forms = number ∷ number ∷ []; makes = Command.Read }

abbrev pub write_row : CommandRow Command
write_row = record { word = codes "write"; forms = number ∷ hex MAX_BYTES ∷ []; makes = Command.Write }

abbrev pub cache_row : CommandRow Command
cache_row = record { word = codes "cache"; forms = number ∷ number ∷ hex MAX_PATTERN ∷ []; makes = Command.Cache }

abbrev pub destroy_row : CommandRow Command
destroy_row = record { word = codes "destroy"; forms = number ∷ []; makes = Command.Destroy }

abbrev pub take_row : CommandRow Command
take_row = record { word = codes "take"; forms = number ∷ []; makes = Command.Take }

abbrev pub give_row : CommandRow Command
give_row = record { word = codes "give"; forms = number ∷ number ∷ []; makes = Command.Give }

abbrev pub reap_row : CommandRow Command
reap_row = record { word = codes "reap"; forms = []; makes = Command.Reap }

abbrev pub report_row : CommandRow Command
report_row = record { word = codes "report"; forms = []; makes = Command.Report }

-- the commands of the administrator
abbrev pub admin_rows : List (CommandRow AdminCommand)
admin_rows = grant_row ∷ take_back_row ∷ reset_row ∷ move_row ∷ pool_row ∷ []

-- the commands of a tenant
abbrev pub tenant_rows : List (CommandRow Command)
tenant_rows =
    alloc_row ∷ free_row ∷ read_row ∷ write_row ∷ cache_row ∷ destroy_row ∷ take_row ∷ give_row ∷ reap_row ∷ report_row ∷ []

-- who gives a command: the administrator, or the tenant with this number
pub data Actor : Type 0 where
  administrator : Actor
  tenant : ℕ → Actor

-- the type of an actor's commands
abbrev pub CommandOf : Actor → Type 0
CommandOf administrator = AdminCommand
CommandOf (tenant t) = Command

-- the table of an actor's commands
abbrev pub command_rows : (actor : Actor) → List (CommandRow (CommandOf actor))
command_rows administrator = admin_rows
command_rows (tenant t) = tenant_rows

-- the event of this command, given by this actor
abbrev pub event_by : (actor : Actor) → CommandOf actor → Event
event_by administrator command = Event.Admin command
event_by (tenant t) command = Event.Tenant t command

-- the fault of a line whose first word names nobody: `Number` if the word begins with a digit, or else `Unknown`
abbrev pub nobody_fault : List ℕ → LineFault
nobody_fault word = if is_ascii_digit (slice_index word 0) then LineFault.Number else LineFault.Unknown
