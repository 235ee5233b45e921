-- A private run leaves the same machine as the run of the model's operations for its entries.
use Rattle.std.proofs.Common.{◌≡◌, ℕ, ◌&&◌, Bool, true, false, not, nat_le, if◌then◌else◌, [], ◌∷◌, refl, ap, ◌∙◌}
use Rattle.model_core.specs.Machine.{Machine}
use Rattle.model_core.specs.Operations.{Step, read_step}
use Rattle.model_core.specs.Reach.{in_reach}
use Rattle.words_core.specs.declared.event.Command.TheVariants as Command
use Rattle.world_core.specs.PrivateStep.{Entry, private_step, command_step, report_step}
use Rattle.world_core.specs.PrivateRun.{private_run}
use Rattle.world_core.specs.Reached.{EntriesAreOperations}

if_stays : {A : Type 0} (test : Bool) (x y : Step A) (m : Machine) → x.machine ≡ m → y.machine ≡ m → (if test then x else y).machine ≡ m
if_stays true x y m p q = p
if_stays false x y m p q = q

-- a read does not change the machine
pub read_stays : (place len : ℕ) (m : Machine) → (read_step place len m).machine ≡ m
unfolding read_step
read_stays place len m = if_stays (not (nat_le 1 len && nat_le len 64)) _ _ m refl (if_stays (not (in_reach m place len)) _ _ m refl refl)

pub entries_are_operations : EntriesAreOperations
unfolding private_step command_step report_step
entries_are_operations limit order [] m = refl
entries_are_operations limit order (Entry.Ask (Command.Alloc k) ∷ entries) m = entries_are_operations limit order entries _
entries_are_operations limit order (Entry.Ask (Command.Free first) ∷ entries) m = entries_are_operations limit order entries _
entries_are_operations limit order (Entry.Ask (Command.Write place bytes) ∷ entries) m = entries_are_operations limit order entries _
entries_are_operations limit order (Entry.Ask (Command.Cache size align pattern) ∷ entries) m = entries_are_operations limit order entries _
entries_are_operations limit order (Entry.Ask (Command.Destroy number) ∷ entries) m = entries_are_operations limit order entries _
entries_are_operations limit order (Entry.Ask (Command.Take number) ∷ entries) m = entries_are_operations limit order entries _
entries_are_operations limit order (Entry.Ask (Command.Give number place) ∷ entries) m = entries_are_operations limit order entries _
entries_are_operations limit order (Entry.Ask Command.Reap ∷ entries) m = entries_are_operations limit order entries _
entries_are_operations limit order (Entry.Ask Command.Report ∷ entries) m = entries_are_operations limit order entries m
entries_are_operations limit order (Entry.Ask (Command.Read place len) ∷ entries) m =
    ap (λ n. (private_run limit order entries n).machine) (read_stays place len m) ∙ entries_are_operations limit order entries m
entries_are_operations limit order (Entry.Grant ∷ entries) m = entries_are_operations limit order entries _
entries_are_operations limit order (Entry.TakeBack slot ∷ entries) m = entries_are_operations limit order entries _
entries_are_operations limit order (Entry.Reset ∷ entries) m = entries_are_operations limit order entries _
