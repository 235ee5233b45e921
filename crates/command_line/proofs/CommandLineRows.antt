-- Worked examples: command lines of `partmem`, and the kinds of error for which clap's model refuses them.
use Rattle.std.proofs.Common.{◌≡◌, [], ◌∷◌, refl, codes}
use Rattle.clap.proofs.OnLiterals.{clap_on_literals}
use Rattle.clap.specs.declared.error.kind.ErrorKind.TheVariants.{DisplayHelp, DisplayVersion, MissingRequiredArgument, ValueValidation}
use Rattle.command_line.specs.Settings.{parse_faults}

pub help_is_asked_for : parse_faults (codes "--help" ∷ []) ≡ DisplayHelp ∷ []
unfolding clap_on_literals parse_faults
help_is_asked_for = refl

pub version_is_asked_for : parse_faults (codes "--version" ∷ []) ≡ DisplayVersion ∷ []
unfolding clap_on_literals parse_faults
version_is_asked_for = refl

pub sizes_are_missing : parse_faults [] ≡ MissingRequiredArgument ∷ []
unfolding clap_on_literals parse_faults
sizes_are_missing = refl

pub order_is_out_of_its_range : parse_faults (codes "--order" ∷ codes "2" ∷ []) ≡ ValueValidation ∷ []
unfolding clap_on_literals parse_faults
order_is_out_of_its_range = refl

-- clap's model accepts an `--only` that is not below the number of tenants
pub nothing_is_wrong : parse_faults (codes "--order" ∷ codes "3" ∷ codes "--superblocks" ∷ codes "2" ∷ codes "--tenants" ∷ codes "2"
    ∷ codes "--only" ∷ codes "2" ∷ codes "trace" ∷ []) ≡ []
unfolding clap_on_literals parse_faults
nothing_is_wrong = refl
