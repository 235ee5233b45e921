-- The end of a call follows from the ends of the calls that it made.
use Rattle.std.proofs.Common.{◌≡◌, ℕ, suc, Bool, false, List, ◌∷◌, Option, Some, Result, Ok, Err, inr, subst, sym}
use Rattle.std.specs.Prelude.{IsErrAnd}
use Rattle.words_core.specs.declared.event.Event.{Event}
use Rattle.words_core.specs.declared.event.LineFault.{LineFault}
use Rattle.words_core.specs.declared.reply.Reply.{Reply}
use Rattle.promise_core.specs.State.{Known}
use Rattle.reply_judge.specs.Adding.{IsAllowedAddition}
use Rattle.reply_judge.specs.KnownMachine.{SeenMachine, ShowsKnown}
use Rattle.trace_check.specs.declared.finding.Unchecked.{Unchecked}
use Rattle.trace_check.specs.declared.finding.Unchecked.TheVariants as Not
use Rattle.trace_check.specs.Checking.{AddsAt, ComesToAdd, IsEndedBy, IsStoppedBy}
use Rattle.trace_check.specs.Finding.{after_lines, lines_to, more_lines, reply_in, verdict_at}

pub stopped_so : (why : Unchecked) (u v : Bool) (S T : Type 0) → (S → T) → IsStoppedBy why u v S → IsStoppedBy why u v T
stopped_so Not.Trace u v S T f is = is
stopped_so Not.Replies u v S T f is = is
stopped_so Not.Memory u v S T f is = (is.0, is.1, f is.2)

pub ended_so : {A : Type 0} (r : Result A Unchecked) (u v : Bool) (S T : Type 0) → (S → T) → IsEndedBy r u v S → IsEndedBy r u v T
ended_so (Ok done) u v S T f is = is
ended_so (Err why) u v S T f is = stopped_so why u v S T f is

-- if a call was stopped, and its caller returns the same error, the caller is stopped in the same way
pub stopped_on : {A : Type 0} (why : Unchecked) (r : Result A Unchecked) (u v : Bool) (S : Type 0) → IsErrAnd r (λ e. e ≡ why)
    → IsStoppedBy why u v S → IsEndedBy r u v S
stopped_on why (Ok done) u v S same is = absurd same
stopped_on why (Err e) u v S same is = subst (λ x. IsStoppedBy x u v S) (sym same) is

-- what `IsEndedBy` says of a call without readers also holds with a reader of the replies that has not failed
pub ended_where : {A : Type 0} (r : Result A Unchecked) (v : Bool) (S T : Type 0) → v ≡ false → (S → T) → IsEndedBy r false false S → IsEndedBy r false v T
ended_where r v S T fine f is = subst (λ untold. IsEndedBy r false untold T) (sym fine) (ended_so r false false S T f is)

-- if a call that uses one reader was stopped, the other reader has not failed, and the caller returns the same error, the caller
-- is stopped in the same way
pub stopped_reading : {A : Type 0} (why : Unchecked) (r : Result A Unchecked) (u v : Bool) (S : Type 0) → IsErrAnd r (λ e. e ≡ why)
    → v ≡ false → IsStoppedBy why u false ⊥ → IsEndedBy r u v S
stopped_reading why r u v S same fine is = stopped_on why r u v S same
    (subst (λ untold. IsStoppedBy why u untold S) (sym fine) (stopped_so why u false ⊥ S (λ none. absurd none) is))

pub stopped_telling : {A : Type 0} (why : Unchecked) (r : Result A Unchecked) (u v : Bool) (S T : Type 0) → IsErrAnd r (λ e. e ≡ why)
    → u ≡ false → (S → T) → IsStoppedBy why false v S → IsEndedBy r u v T
stopped_telling why r u v S T same fine f is = stopped_on why r u v T same
    (subst (λ unread. IsStoppedBy why unread v T) (sym fine) (stopped_so why false v S T f is))

-- if a call returns `Memory`, and neither reader has failed, the call was stopped because memory ran out
pub ran_out : {A : Type 0} (r : Result A Unchecked) (u v : Bool) (S : Type 0) → IsErrAnd r (λ e. e ≡ Not.Memory) → u ≡ false → v ≡ false → S
    → IsEndedBy r u v S
ran_out r u v S same fine_u fine_v on = stopped_on Not.Memory r u v S same (fine_u, fine_v, on)

-- an allowed addition in a machine is also an allowed addition in the state that this machine shows
pub adds_at : (event : Event) (reply : Reply) (bytes : List ℕ) (m : SeenMachine) (w : Known) → reply_in (suc (more_lines event w)) bytes ≡ Some reply
    → ShowsKnown m w → IsAllowedAddition event reply m → AddsAt (Ok (Some event)) bytes w
adds_at event reply bytes m w found shown is =
    let after = is.allowed w shown in (reply, after.0, found, after.1, is.adds)

-- if the reply to a line is allowed, and memory may run out at a later line, it may run out at one of the lines from this one on
pub adds_later : (lines : ℕ) (reading : Result (Option Event) LineFault) (readings : List (Result (Option Event) LineFault)) (bytes : List ℕ)
    (w after : Known) → verdict_at reading bytes w ≡ Ok after → lines ≡ lines_to reading w → ComesToAdd readings (after_lines lines bytes) after
    → ComesToAdd (reading ∷ readings) bytes w
adds_later lines reading readings bytes w after is same more =
    inr (after, is, subst (λ n. ComesToAdd readings (after_lines n bytes) after) same more)
