-- The arguments that the programs share, in terms of clap's model.
use Rattle.std.specs.Prelude.{◌-◌, ◌^◌, ℕ, true, false, Some, pos, codes}
use Rattle.clap.specs.Words.{App, Rule, Text, new_app, new_rule, with_rule}
use Rattle.clap.specs.declared.builder.action.ArgAction.TheVariants.{Set}
use Rattle.clap.specs.declared.builder.value_parser.ValueParser.TheVariants.{Signed}
use Rattle.model_core.specs.declared.limits.TheConstants.{MIN_ORDER, MAX_ORDER, MAX_SUPERBLOCKS, MAX_TENANTS}

-- the required argument `--name NUMBER`, whose value is a number from `least` to `most`
abbrev pub number_rule : Text → ℕ → ℕ → Rule
number_rule name least most = record (new_rule name) {
  long = Some name;
  value_names = 1;
  action = Some Set;
  required = true;
  parser = Some (Signed (pos least) (pos most));
}

-- an argument that is given by its position, without `--name`
abbrev pub positional_rule : Text → Rule
positional_rule name = record (new_rule name) { action = Some Set }

-- a command that has a version and parses words without the program's name in front
abbrev pub bare_command : Text → App
bare_command name = record (new_app name) { top = record (new_app name).top { no_binary_name = true; has_version = true } }

-- the command of a program with this name, whose arguments are the sizes of a machine
abbrev pub sizes_command : Text → App
sizes_command name = with_rule (with_rule (with_rule (bare_command name)
    (number_rule (codes "order") MIN_ORDER MAX_ORDER))
    (number_rule (codes "superblocks") 1 MAX_SUPERBLOCKS))
    (number_rule (codes "tenants") 1 MAX_TENANTS)

-- the command of a program whose arguments are the sizes of a machine and an optional `--only NUMBER`
abbrev pub machine_command : Text → App
machine_command name = with_rule (sizes_command name) (record (number_rule (codes "only") 0 (2 ^ 32 - 1)) { required = false })
