-- A line at the front of some bytes.
use Rattle.std.specs.Prelude.{◌≡◌, ℕ, Bool, false, List, [], Option, Some, None, Ok}
use Rattle.words_core.specs.declared.event.Command.{Command}
use Rattle.words_core.specs.declared.event.Event.{Event}
use Rattle.quick_core.specs.Lines.{ReadsAs}
use Rattle.kernel_core.specs.Content.{KernelContent}
use Rattle.replay_core.specs.declared.run.Run.{Run}
use Rattle.replay_core.specs.Doing.{HasDone}
use Rattle.replay_core.specs.Noting.{Noting}
use Rattle.replay_core.specs.Standing.{AnswersRead}

-- nothing was done (None), or the line of `len` bytes at the front was a command of a tenant, which was run and answered in full
abbrev pub HasAnsweredLine : {N : Type 0} → Noting N → List ℕ → KernelContent → KernelContent → Option (List ℕ) → Option (List ℕ)
    → Bool → Run N → Run N → Option ℕ → Type 0
HasAnsweredLine noting bytes before after old new failing run run' None =
    (after ≡ before) × (new ≡ old) × (failing ≡ false) × (run' ≡ run)
HasAnsweredLine noting bytes before after old new failing run run' (Some len) = (tenant : ℕ) × (command : Command)
    × ReadsAs bytes tenant command len
    × HasDone (AnswersRead noting []) (run, before) (Ok (Some (Event.Tenant tenant command))) old new (Ok tt) (run', after) × (failing ≡ false)
