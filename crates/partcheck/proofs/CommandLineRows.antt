-- Worked examples: command lines of `partcheck`, and the faults that clap's model finds in them.
use Rattle.std.proofs.Common.{◌≡◌, [], ◌∷◌, refl, codes}
use Rattle.clap.proofs.OnLiterals.{clap_on_literals}
use Rattle.clap.specs.declared.error.kind.ErrorKind.TheVariants.{DisplayHelp, DisplayVersion, MissingRequiredArgument, ValueValidation}
use Rattle.partcheck.specs.Settings.{check_faults}

help_is_asked_for : check_faults (codes "--help" ∷ []) ≡ DisplayHelp ∷ []
unfolding clap_on_literals check_faults
help_is_asked_for = refl

version_is_asked_for : check_faults (codes "--version" ∷ []) ≡ DisplayVersion ∷ []
unfolding clap_on_literals check_faults
version_is_asked_for = refl

superblocks_are_too_many : check_faults (codes "--superblocks" ∷ codes "257" ∷ []) ≡ ValueValidation ∷ []
unfolding clap_on_literals check_faults
superblocks_are_too_many = refl

replies_are_missing : check_faults (codes "--order" ∷ codes "3" ∷ codes "--superblocks" ∷ codes "2" ∷ codes "--tenants" ∷ codes "2" ∷ codes "trace" ∷ [])
    ≡ MissingRequiredArgument ∷ []
unfolding clap_on_literals check_faults
replies_are_missing = refl

nothing_is_wrong : check_faults (codes "--order" ∷ codes "3" ∷ codes "--superblocks" ∷ codes "2" ∷ codes "--tenants" ∷ codes "2" ∷ codes "-" ∷ codes "replies" ∷ [])
    ≡ []
unfolding clap_on_literals check_faults
nothing_is_wrong = refl
