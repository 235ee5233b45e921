-- How the machine that a command line requests is read from its arguments.
use Rattle.std.specs.Prelude.{◌≡◌, ℕ, ◌^◌, ◌<◌, ◌≤◌, true, Option, Some, None, codes}
use Rattle.std.specs.String.{string_bytes}
use Rattle.std.specs.Str.Parse.{IsNumeral, digits_value, without_leading_plus}
use Rattle.clap.specs.Words.{Text}
use Rattle.model_core.specs.Booting.{is_bootable}
use Rattle.model_core.specs.declared.config.Config.{Config}
use Rattle.command_line.specs.declared.machine_options.MachineOptions.{MachineOptions}
use Rattle.command_line.specs.declared.outcome.Outcome.{Outcome}

-- the text is a number below 2 ^ 32 in decimal digits, which may have a `+` in front
abbrev pub IsNumber : Text → Type 0
IsNumber text = IsNumeral 10 (without_leading_plus text) × (digits_value 10 (without_leading_plus text) < 2 ^ 32)

-- there is a text, and it is the number n
abbrev pub Writes : Option Text → ℕ → Type 0
Writes None n = ⊥
Writes (Some text) n = IsNumber text × (n ≡ digits_value 10 (without_leading_plus text))

-- the number of the text; None if there is no text, or if the text is not a number below 2 ^ 32
abbrev pub MayWrite : Option Text → Option ℕ → Type 0
MayWrite text (Some n) = Writes text n
MayWrite None None = Unit {0}
MayWrite (Some text) None = ¬ IsNumber text

-- the sizes are the numbers given under the arguments' names
pub record AsksSizes (read : Text → Option Text) (config : Config) : Type 0 where
  pub order : Writes (read (codes "order")) config.order
  pub superblocks : Writes (read (codes "superblocks")) config.superblocks
  pub tenants : Writes (read (codes "tenants")) config.tenants

-- the machine's sizes and its `only` are those given under the arguments' names
pub record AsksMachine (read : Text → Option Text) (machine : MachineOptions) : Type 0 where
  pub sizes : AsksSizes read machine.config
  pub only : MayWrite (read (codes "only")) machine.only

-- a size is missing or out of its range
abbrev pub AsksNoSizes : (Text → Option Text) → Type 0
AsksNoSizes read = (sizes : Config) → AsksSizes read sizes → ¬ (is_bootable sizes ≡ true)

-- the message if a size is missing or out of its range
abbrev pub bad_size_text : Text
bad_size_text = codes "error: a size of the machine is missing or out of its range\n"

-- the sizes are valid, and `--only` is a number that is not below the number of tenants
pub record AsksNoTenant (read : Text → Option Text) : Type 0 where
  pub sizes : Config
  pub tenant : ℕ
  pub asked : AsksSizes read sizes
  pub bootable : is_bootable sizes ≡ true
  pub only : Writes (read (codes "only")) tenant
  pub above : sizes.tenants ≤ tenant

-- why no machine is found; the outcome may be `NoMemory` only if a size is missing or out of its range
abbrev pub IsNoMachine : (Text → Option Text) → Outcome → Type 0
IsNoMachine read (Outcome.BadLine text) = AsksNoSizes read × (string_bytes text ≡ bad_size_text)
IsNoMachine read Outcome.NoMemory = AsksNoSizes read
IsNoMachine read Outcome.BadOnly = AsksNoTenant read
IsNoMachine read Outcome.Done = ⊥
IsNoMachine read (Outcome.Help text) = ⊥
IsNoMachine read (Outcome.Version text) = ⊥
IsNoMachine read Outcome.Unreadable = ⊥
IsNoMachine read Outcome.Unwritable = ⊥
