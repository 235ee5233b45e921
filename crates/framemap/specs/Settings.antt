-- The settings that a command line of `framemap` requests, in terms of clap's model.
use Rattle.std.specs.Prelude.{◌≡◌, ◌⊎◌, ℕ, true, false, List, [], Option, Some, codes, max, min, option_map, unwrap_or}
use Rattle.std.specs.String.{string_bytes}
use Rattle.clap.specs.Words.{App, Kinds, Rule, Text, fault_of, first_of, matches_of, new_rule, one_of, takes, with_rule}
use Rattle.clap.specs.declared.builder.action.ArgAction.TheVariants.{SetTrue}
use Rattle.frame_picture.specs.declared.history.TheConstants.{MAX_COLUMNS}
use Rattle.command_line.specs.Arguments.{machine_command, number_rule, positional_rule}
use Rattle.command_line.specs.MachineOptions.{AsksMachine, IsNoMachine, MayWrite}
use Rattle.command_line.specs.Outcome.{IsRefusedBy}
use Rattle.command_line.specs.Settings.{IsFlag}
use Rattle.command_line.specs.declared.outcome.Outcome.{Outcome}
use Rattle.framemap.specs.declared.settings.Settings.{Settings}
use Rattle.framemap.specs.declared.settings.TheConstants.{DEFAULT_COLUMNS}

-- `columns` is the number in the text, or the default if the text has no number. It is limited to the range from 1 to
-- MAX_COLUMNS.
pub record AreColumns (text : Option Text) (columns : ℕ) : Type 0 where
  pub written : Option ℕ
  pub read : MayWrite text written
  pub within : columns ≡ max 1 (min (unwrap_or written DEFAULT_COLUMNS) MAX_COLUMNS)

-- The settings are the values of the arguments. Both functions take the name of an argument: `read` returns the text of a number
-- or a flag, and `whole` returns the path of FILE.
pub record AsksMap (read whole : Text → Option Text) (settings : Settings) : Type 0 where
  pub machine : AsksMachine read settings.machine
  pub columns : AreColumns (read (codes "columns")) settings.columns
  pub figures : IsFlag (read (codes "figures")) settings.figures
  pub file : option_map (λ path. string_bytes path) settings.file ≡ whole (codes "FILE")

abbrev pub columns_rule : Rule
columns_rule = record (number_rule (codes "columns") 1 MAX_COLUMNS) { required = false }

abbrev pub figures_rule : Rule
figures_rule = record (new_rule (codes "figures")) { long = Some (codes "figures"); action = Some SetTrue }

abbrev pub map_command_line : App
map_command_line =
    with_rule (with_rule (with_rule (machine_command (codes "framemap")) columns_rule) figures_rule) (positional_rule (codes "FILE"))

-- the settings are what clap finds in these words
abbrev pub IsMapRequestedBy : List Text → Settings → Type 0
IsMapRequestedBy words settings = let rows = matches_of map_command_line words in
    AsksMap (λ name. one_of name rows) (λ name. first_of name rows) settings

-- clap's model takes these words
unfoldable pub IsMapInOrder : List Text → Type 0
IsMapInOrder words = takes map_command_line words ≡ true

-- the kinds of error for which clap's model refuses these words, or none if it takes them
unfoldable pub map_faults : List Text → Kinds
map_faults words = fault_of map_command_line words

-- why these words are refused: clap's model refuses them, or it takes them but their values give no machine
abbrev pub IsMapRefusedFor : List Text → Outcome → Type 0
IsMapRefusedFor words outcome = IsRefusedBy (map_faults words) outcome
    ⊎ ((map_faults words ≡ []) × IsNoMachine (λ name. one_of name (matches_of map_command_line words)) outcome)
