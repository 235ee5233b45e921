-- Verdicts on the reply to one event, and the state after the reply.
use Rattle.std.specs.Prelude.{◌≡◌, ℕ, Bool, true, not, List, [], ◌∷◌, drop, Option, Some, None, Result, Ok, Err, is_some, if◌then◌else◌, ◌||◌}
use Rattle.std.specs.Option.{option_map_or}
use Rattle.model_core.specs.declared.owner.Owner.{Owner}
use Rattle.words_core.specs.declared.reply.Addressee.{Addressee}
use Rattle.words_core.specs.declared.answer.Answer.{Answer}
use Rattle.words_core.specs.declared.reply.Body.{Body}
use Rattle.words_core.specs.declared.event.Event.{Event}
use Rattle.words_core.specs.declared.reply.Refusal.{Refusal}
use Rattle.words_core.specs.declared.reply.Reply.{Reply}
use Rattle.model_core.specs.declared.limits.TheConstants.{MAX_CACHES}
use Rattle.promise_core.specs.declared.promise.Promise.{Promise}
use Rattle.words_core.specs.Requests.{body_of_answer}
use Rattle.promise_core.specs.Promises.{allowed, is_one, kept}
use Rattle.promise_core.specs.State.{State, Known, state_after, owners_after}
use Rattle.reply_judge.specs.declared.verdict.Failure.{Failure}
use Rattle.reply_judge.specs.Seen.{Seen, state_of}
use Rattle.reply_judge.specs.KnownMachine.{SeenMachine, KeepsSizes, known_of}
use Rattle.reply_judge.specs.Adding.{is_addition, IsAllowedAddition}

-- `Ok` if all promises are kept, or else the first promise that is not kept
abbrev pub broken : List (Promise × Bool) → Result (Unit {0}) Promise
broken [] = Ok tt
broken ((promise, kept) ∷ rest) = if kept then broken rest else Err promise

-- the verdict on a reply with this body and the right addressee
abbrev pub verdict_on : Event → Body → Known → State → Result (Unit {0}) Promise
verdict_on event body w s = broken ((Promise.Form, is_some (state_after w.order event body s))
    ∷ drop 1 (kept event (record { addressee = Addressee.Nobody; body = body }) w s))

-- the verdict on a refusal; `due` is the refusal that must come, if any; `full` says whether the refusal may be `NoFrames`, and
-- `busy` says whether it may be `SlotBusy`
abbrev pub on_refusal : Refusal → Option Refusal → Bool → Bool → Result (Unit {0}) Promise
on_refusal refusal due full busy = broken (
    (Promise.Refusals, option_map_or (is_one refusal) due (is_one refusal Refusal.NoFrames || is_one refusal Refusal.SlotBusy))
    ∷ (Promise.Room, not (is_one refusal Refusal.NoFrames) || full)
    ∷ (Promise.Busy, not (is_one refusal Refusal.SlotBusy) || busy) ∷ [])

-- the verdict in this result, without the result's value
abbrev pub only_verdict : {A : Type 0} → Result A Promise → Result (Unit {0}) Promise
only_verdict (Ok _) = Ok tt
only_verdict (Err promise) = Err promise

-- the verdict as a result whose error is a `Failure`; a broken promise becomes `Broken`
abbrev pub failing : Result (Unit {0}) Promise → Result (Unit {0}) Failure
failing (Ok _) = Ok tt
failing (Err promise) = Err (Failure.Broken promise)

-- what is known of a machine, but with `MAX_CACHES` as the limit of caches, and with the order of this tenant's slots
abbrev pub known_at : Seen → Known → Known
known_at x w = record w { limit = MAX_CACHES; order = x.left.order }

-- the verdict on a reply with this body to a command about the tenant
abbrev pub tenant_verdict : Event → Body → Known → Seen → Result (Unit {0}) Promise
tenant_verdict event body w x = verdict_on event body (known_at x w) (state_of x)

-- The reply keeps every promise. `new` is the tenant `old` after the reply, with slots of the same order.
pub record IsFollowed (event : Event) (body : Body) (w : Known) (old new : Seen) : Type 0 where
  pub kept : tenant_verdict event body w old ≡ Ok tt
  pub order : new.left.order ≡ old.left.order
  pub state : state_after old.left.order event body (state_of old) ≡ Some (state_of new)

-- If the result is `Ok`, the reply keeps every promise, and `new` is the tenant after the reply. If the result is a failure, the
-- tenant is unchanged. The failure is the first promise that the reply breaks. Or the reply keeps every promise, but there was
-- not enough memory to note what it adds.
abbrev pub IsVerdictFor : Event → Body → Known → Seen → Seen → Result (Unit {0}) Failure → Type 0
IsVerdictFor event body w old new (Ok _) = IsFollowed event body w old new
IsVerdictFor event body w old new (Err (Failure.Broken promise)) = (tenant_verdict event body w old ≡ Err promise) × (new ≡ old)
IsVerdictFor event body w old new (Err (Failure.Memory error)) =
    ((tenant_verdict event body w old ≡ Ok tt) × (is_addition body ≡ true)) × (new ≡ old)

-- the answer is a refusal, or it does not fit the event
abbrev pub IsUnfit : Event → Answer → Type 0
IsUnfit event answer = (order : ℕ) (s : State) → ((r : Refusal) → answer ≡ Answer.Refused r → ⊥)
    → state_after order event (body_of_answer answer) s ≡ None

-- if the result is `Ok`, `new` has the owners after the reply; if it is a failure, the owners are unchanged
abbrev pub AreOwnersAfter : Event → Body → List (Option Owner) → List (Option Owner) → Result (Unit {0}) Failure → Type 0
AreOwnersAfter event body old new (Ok _) = new ≡ owners_after event body old
AreOwnersAfter event body old new (Err failure) = new ≡ old

-- The result is the verdict on the reply. After `Ok`, `new` is the machine after the allowed reply, and has the same sizes. After
-- a failure, the machine is unchanged. If memory ran out, the reply is allowed and adds something to the state.
abbrev pub IsJudged : Event → Reply → SeenMachine → SeenMachine → Result (Unit {0}) Failure → Type 0
IsJudged event reply old new (Ok _) = (allowed event reply (known_of old) ≡ Ok (known_of new)) × KeepsSizes old new
IsJudged event reply old new (Err (Failure.Broken promise)) = (allowed event reply (known_of old) ≡ Err promise) × (new ≡ old)
IsJudged event reply old new (Err (Failure.Memory error)) = IsAllowedAddition event reply old × (new ≡ old)
