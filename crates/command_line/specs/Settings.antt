-- The settings that a command line of `partmem` requests, in terms of clap's model.
use Rattle.std.specs.Prelude.{◌≡◌, ◌⊎◌, ℕ, ◌-◌, ◌^◌, ◌<◌, ◌≤◌, Bool, true, false, List, []}
use Rattle.std.specs.Prelude.{Option, Some, None, option_map, codes}
use Rattle.std.specs.Option.{ForSome}
use Rattle.std.specs.String.{string_bytes}
use Rattle.clap.specs.Words.{App, Kinds, Rule, Text, fault_of, first_of, matches_of, new_rule, one_of, takes, with_rule}
use Rattle.clap.specs.declared.builder.action.ArgAction.TheVariants.{SetTrue}
use Rattle.command_line.specs.Arguments.{machine_command, number_rule, positional_rule}
use Rattle.command_line.specs.MachineOptions.{AsksMachine, IsNoMachine, MayWrite, Writes}
use Rattle.command_line.specs.Outcome.{IsBadLine, IsRefusedBy}
use Rattle.command_line.specs.declared.machine_options.MachineOptions.{MachineOptions}
use Rattle.command_line.specs.declared.outcome.Outcome.{Outcome}
use Rattle.command_line.specs.declared.settings.Settings.{Settings}

-- the machine that these settings request, with the tenant whose lines are written
abbrev pub machine_of : Settings → MachineOptions
machine_of settings = record { config = settings.config; only = settings.only; bootable = settings.bootable; below = settings.below }

-- a flag is set if its text is `true`, and not set if its text is `false` or missing
pub record IsFlag (text : Option Text) (flag : Bool) : Type 0 where
  pub given : text ≡ Some (codes "true") → flag ≡ true
  pub denied : text ≡ Some (codes "false") → flag ≡ false
  pub none : text ≡ None → flag ≡ false

-- if a tenant's own list is requested, neither `--only` nor `--tally` is given
abbrev pub IsAlone : Option ℕ → Option ℕ → Bool → Type 0
IsAlone None only tally = Unit {0}
IsAlone (Some t) only tally = (only ≡ None) × (tally ≡ false)

-- The settings have the values of a command line: `read` returns the text of an option by the option's name, and `whole` returns
-- the text of FILE. If `--own` is given, it names a tenant of the machine, and `--only` and `--tally` are not given.
pub record Asks (read whole : Text → Option Text) (settings : Settings) : Type 0 where
  pub machine : AsksMachine read (machine_of settings)
  pub own : MayWrite (read (codes "own")) settings.own
  pub own_below : ForSome settings.own (λ tenant. tenant < settings.config.tenants)
  pub own_alone : IsAlone settings.own settings.only settings.tally
  pub tally : IsFlag (read (codes "tally")) settings.tally
  pub file : option_map (λ path. string_bytes path) settings.file ≡ whole (codes "FILE")

abbrev pub tally_rule : Rule
tally_rule = record (new_rule (codes "tally")) { long = Some (codes "tally"); action = Some SetTrue }

abbrev pub own_rule : Rule
own_rule = record (number_rule (codes "own") 0 (2 ^ 32 - 1)) { required = false }

abbrev pub command_line : App
command_line = with_rule (with_rule (with_rule (machine_command (codes "partmem")) own_rule) tally_rule) (positional_rule (codes "FILE"))

-- the settings are those that clap's model finds in these words
abbrev pub IsRequestedBy : List Text → Settings → Type 0
IsRequestedBy words settings = Asks (λ name. one_of name (matches_of command_line words)) (λ name. first_of name (matches_of command_line words)) settings

-- clap's model accepts these words
unfoldable pub IsInOrder : List Text → Type 0
IsInOrder words = takes command_line words ≡ true

-- these words request the settings, and if the settings have `--own`, the words have neither `--only` nor `--tally`
pub record CanBeHad (words : List Text) (settings : Settings) : Type 0 where
  pub asked : IsRequestedBy words settings
  pub own_alone : (flag : Bool) → IsFlag (one_of (codes "tally") (matches_of command_line words)) flag → IsAlone settings.own settings.only flag

-- the message if `--own` is given beside `--only` or `--tally`, and then the message if `--own` names no tenant of the machine
abbrev pub own_beside_text : Text
own_beside_text = codes "error: --own goes with neither --only nor --tally\n"

abbrev pub own_no_tenant_text : Text
own_no_tenant_text = codes "partmem: --own names no tenant\n"

-- why `--own` is refused for this machine: it is given beside `--only` or `--tally`, or it is given without them and names no
-- tenant of the machine
abbrev pub IsNoOwn : (Text → Option Text) → MachineOptions → Bool → Outcome → Type 0
IsNoOwn read machine tally outcome = (tenant : ℕ) × Writes (read (codes "own")) tenant
    × (((¬ IsAlone (Some tenant) machine.only tally) × IsBadLine own_beside_text outcome)
    ⊎ (IsAlone (Some tenant) machine.only tally × (machine.config.tenants ≤ tenant) × IsBadLine own_no_tenant_text outcome))

-- why the arguments give no settings: they give no machine, or `--own` is refused
abbrev pub IsNoSettings : (Text → Option Text) → Outcome → Type 0
IsNoSettings read outcome = IsNoMachine read outcome
    ⊎ ((machine : MachineOptions) × (tally : Bool) × AsksMachine read machine × IsFlag (read (codes "tally")) tally
    × IsNoOwn read machine tally outcome)

-- the kinds of error for which clap's model refuses these words; empty if it accepts them
unfoldable pub parse_faults : List Text → Kinds
parse_faults words = fault_of command_line words

-- why these words are refused: clap's model refuses them, or it accepts them and they give no settings
abbrev pub IsRefusedFor : List Text → Outcome → Type 0
IsRefusedFor words outcome = IsRefusedBy (parse_faults words) outcome
    ⊎ ((parse_faults words ≡ []) × IsNoSettings (λ name. one_of name (matches_of command_line words)) outcome)
