-- The laws of objects hold for the machines that private runs leave.
use Rattle.std.proofs.Common.{◌≡◌, ℕ, ◌+◌, Result, Ok, Err, ap, sym, ◌∙◌, subst}
use Rattle.std.specs.Prelude.{flat_map}
use Rattle.model_core.specs.declared.refusals.TakeRefusal.{TakeRefusal}
use Rattle.model_core.specs.Machine.{empty_machine}
use Rattle.model_core.specs.CacheOperations.{take_step}
use Rattle.model_core.specs.Runs.{run}
use Rattle.model_core.specs.Laws.{IsObject, place_of}
use Rattle.model_core.proofs.ObjectsApart.{objects_apart, records_free}
use Rattle.model_core.proofs.ConstructedRuns.{constructed_first, constructed_when_taken}
use Rattle.words_core.specs.declared.reply.Body.TheVariants as Say
use Rattle.world_core.specs.PrivateStep.{take_body, command_step}
use Rattle.world_core.specs.Reached.{operations_in, reached_machine, ReachedApart, ReachedRecordsFree, ReachedConstructed, ReachedConstructedWhenTaken}
use Rattle.world_core.proofs.Operations.{entries_are_operations}
use Rattle.world_core.proofs.ReachedMachines.{reached_well_formed}

pub reached_apart : ReachedApart
reached_apart limit order entries asked = objects_apart limit order (reached_machine limit order entries) (reached_well_formed limit order entries asked)

pub reached_records_free : ReachedRecordsFree
reached_records_free limit order entries asked = records_free limit order (reached_machine limit order entries) (reached_well_formed limit order entries asked)

pub reached_constructed : ReachedConstructed
reached_constructed limit order entries object j asked is less none =
    let here : reached_machine limit order entries ≡ run limit order (flat_map operations_in entries) empty_machine = entries_are_operations limit order entries empty_machine in
    ap (λ m. m.bytes (place_of object + j)) here
    ∙ constructed_first limit order (flat_map operations_in entries) object j asked (subst (λ m. IsObject m object) here is) less none

-- if the reply to a `take` reports an object at some place, the machine's answer to the `take` was this place
taken_is : (place : ℕ) (answer : Result ℕ TakeRefusal) → take_body answer ≡ Say.Object place → answer ≡ Ok place
taken_is place (Ok p) e = let same : p ≡ place = cc in ap Ok same
taken_is place (Err refusal) e = absurd (cc)

pub reached_constructed_when_taken : ReachedConstructedWhenTaken
unfolding command_step
reached_constructed_when_taken limit order number entries object j asked answer is less once =
    let here : reached_machine limit order entries ≡ run limit order (flat_map operations_in entries) empty_machine = entries_are_operations limit order entries empty_machine in
    ap (λ m. (take_step order number m).machine.bytes (place_of object + j)) here
    ∙ constructed_when_taken limit order number (flat_map operations_in entries) object j asked
    (ap (λ m. (take_step order number m).answer) (sym here) ∙ taken_is (place_of object) (take_step order number (reached_machine limit order entries)).answer answer)
    (subst (λ m. IsObject (take_step order number m).machine object) here is) less once
