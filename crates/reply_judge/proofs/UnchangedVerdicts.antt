-- Verdicts on replies that leave the tenant unchanged.
use Rattle.std.proofs.Common.{◌≡◌, ℕ, true, false, [], Some, None, Option, Ok, Err, is_some, refl, ap, sym, subst, ◌∙◌}
use Rattle.std.specs.Prelude.{Bool, Result, List, ◌∷◌, ◌&&◌, ◌==◌, not, drop, length, is_none, nat_le, nat_lt, IfSome}
use Rattle.std.specs.List.{AllByRecursion, list_any}
use Rattle.std.specs.Result.{IsErrAnd}
use Rattle.std.specs.Option.{option_map_or}
use Rattle.model_core.specs.Layouts.{is_size, is_alignment}
use Rattle.model_core.specs.Machine.{order_in}
use Rattle.model_core.specs.declared.limits.TheConstants.{MAX_BYTES}
use Rattle.promise_core.specs.Bytes.{holder_of}
use Rattle.promise_core.specs.Holdings.{known_cache}
use Rattle.words_core.specs.declared.event.Event.{Event}
use Rattle.words_core.specs.declared.event.Event.TheVariants as On
use Rattle.words_core.specs.declared.event.AdminCommand.{AdminCommand}
use Rattle.words_core.specs.declared.event.AdminCommand.TheVariants as Do
use Rattle.words_core.specs.declared.event.Command.{Command}
use Rattle.words_core.specs.declared.reply.Addressee.TheVariants as To
use Rattle.words_core.specs.declared.reply.Body.{Body}
use Rattle.words_core.specs.declared.reply.Body.TheVariants as Say
use Rattle.words_core.specs.declared.reply.Refusal.{Refusal}
use Rattle.promise_core.specs.declared.promise.Promise.{Promise}
use Rattle.promise_core.specs.Promises.{due, first_due, is_one, room, busy, kept}
use Rattle.promise_core.specs.State.{State, Known, is_in_use, state_after}
use Rattle.reply_judge.specs.declared.verdict.Failure.{Failure}
use Rattle.reply_judge.specs.declared.verdict.Failure.TheVariants as Of
use Rattle.reply_judge.specs.Judged.{broken, on_refusal, verdict_on, known_at, tenant_verdict, failing, IsVerdictFor}
use Rattle.reply_judge.specs.Seen.{Seen, state_of}

-- if a reply leaves the tenant's state as it is, the reply's verdict is right with an unchanged tenant
pub settled : (event : Event) (body : Body) (w : Known) (x : Seen) (result : Result (Unit {0}) Failure) → result ≡ failing (tenant_verdict event body w x)
    → state_after x.left.order event body (state_of x) ≡ Some (state_of x) → IsVerdictFor event body w x x result
settled event body w x result is stays = subst (IsVerdictFor event body w x x) (sym is) (go (tenant_verdict event body w x) refl)
  where
    go : (v : Result (Unit {0}) Promise) → tenant_verdict event body w x ≡ v → IsVerdictFor event body w x x (failing v)
    go (Ok u) same = record { kept = same; order = refl; state = stays }
    go (Err promise) same = (same, refl)

-- a reply that does not fit the event breaks the promise `Form`
pub formless : (event : Event) (body : Body) (w : Known) (s : State) → state_after w.order event body s ≡ None → verdict_on event body w s ≡ Err Promise.Form
formless event body w s none =
    ap (λ o. broken ((Promise.Form, is_some o) ∷ drop 1 (kept event (record { addressee = To.Nobody; body = body }) w s))) none

pub misfit : (event : Event) (body : Body) (w : Known) (x : Seen) → state_after x.left.order event body (state_of x) ≡ None
    → IsVerdictFor event body w x x (Err (Of.Broken Promise.Form))
misfit event body w x none = (formless event body (known_at x w) (state_of x) none, refl)

-- if a call returned the failure f, and f is the right result, then the call's result is right
pub failed_by : (event : Event) (body : Body) (w : Known) (x y : Seen) (f : Failure) (result : Result (Unit {0}) Failure) → IsErrAnd result (λ e. e ≡ f)
    → IsVerdictFor event body w x y (Err f) → IsVerdictFor event body w x y result
failed_by event body w x y f (Ok u) fails judged = absurd fails
failed_by event body w x y f (Err e) is judged = subst (λ g. IsVerdictFor event body w x y (Err g)) (sym is) judged

pub broken_off : (event : Event) (body : Body) (w : Known) (x : Seen) (promise : Promise) (result : Result (Unit {0}) Failure)
    → IsErrAnd result (λ e. e ≡ Of.Broken promise) → Err promise ≡ tenant_verdict event body w x → IsVerdictFor event body w x x result
broken_off event body w x promise result is broken = failed_by event body w x x (Of.Broken promise) result is (sym broken, refl)

-- the verdict on a refusal follows from the due refusal, if any, and from whether `NoFrames` and `SlotBusy` may come
refusal_is : (event : Event) (r : Refusal) (w : Known) (s : State) → verdict_on event (Say.Refused r) w s
    ≡ on_refusal r (due event w s) (room event (Say.Refused Refusal.NoFrames) w s) (busy event (Say.Refused Refusal.SlotBusy) w s)
unfolding state_after
refusal_is (On.Tenant t (Command.Alloc k)) Refusal.NoFrames w s = refl
refusal_is (On.Tenant t (Command.Take number)) Refusal.NoFrames w s = refl
refusal_is (On.Admin (Do.TakeBack t u)) Refusal.SlotBusy w s = refl
refusal_is event Refusal.NoFrames w s = refl
refusal_is event Refusal.SlotBusy w s = refl
refusal_is event r w s = refl

pub refused : (event : Event) (r : Refusal) (w : Known) (x : Seen) (result : Result (Unit {0}) Failure) (asked : Option Refusal) (full taken : Bool)
    → result ≡ failing (on_refusal r asked full taken) → asked ≡ due event (known_at x w) (state_of x)
    → full ≡ room event (Say.Refused Refusal.NoFrames) (known_at x w) (state_of x)
    → taken ≡ busy event (Say.Refused Refusal.SlotBusy) (known_at x w) (state_of x) → IsVerdictFor event (Say.Refused r) w x x result
unfolding state_after
refused event r w x result asked full taken is is_due is_full is_taken = settled event (Say.Refused r) w x result
    (is ∙ ap failing ((λ i. on_refusal r (is_due i) (is_full i) (is_taken i)) ∙ sym (refusal_is event r (known_at x w) (state_of x)))) refl

-- no refusal of a reset or of a pool command is ever due, and neither `NoFrames` nor `SlotBusy` may come
pub admin_refused : (m : AdminCommand) (r : Refusal) (w : Known) (x : Seen) (result : Result (Unit {0}) Failure) → ((t : ℕ) → m ≡ Do.Grant t → ⊥)
    → ((t u : ℕ) → m ≡ Do.TakeBack t u → ⊥) → ((t u : ℕ) → m ≡ Do.Move t u → ⊥) → result ≡ failing (on_refusal r None false false)
    → IsVerdictFor (On.Admin m) (Say.Refused r) w x x result
unfolding due
admin_refused (Do.Grant t) r w x result grant back move is = absurd (grant t refl)
admin_refused (Do.TakeBack t u) r w x result grant back move is = absurd (back t u refl)
admin_refused (Do.Reset t) r w x result grant back move is = refused (On.Admin (Do.Reset t)) r w x result None false false is refl refl refl
admin_refused (Do.Move t u) r w x result grant back move is = absurd (move t u refl)
admin_refused Do.Pool r w x result grant back move is = refused (On.Admin Do.Pool) r w x result None false false is refl refl refl

-- the refusal is not `NoFrames`
abbrev pub IsPlain : Refusal → Type 0
IsPlain r = is_one Refusal.NoFrames r ≡ false

first_plain : (tests : List (Bool × Refusal)) → AllByRecursion (λ p. IsPlain p.1) tests → IfSome (first_due tests) IsPlain
first_plain [] plain = tt
first_plain ((true, r) ∷ tests) plain = plain.0
first_plain ((false, r) ∷ tests) plain = first_plain tests plain.1

pub plain_due : (t : ℕ) (m : Command) (w : Known) (s : State) → IfSome (due (On.Tenant t m) w s) IsPlain
unfolding due
plain_due t (Command.Alloc k) w s = first_plain ((nat_lt w.order k, Refusal.BadOrder) ∷ []) (refl, tt)
plain_due t (Command.Free f) w s = first_plain ((is_none (order_in s.has.pages f), Refusal.NotABlock) ∷ []) (refl, tt)
plain_due t (Command.Read place len) w s = first_plain ((not (nat_le 1 len && nat_le len MAX_BYTES), Refusal.BadLength)
    ∷ (is_none (holder_of s.has place len), Refusal.OutOfReach) ∷ []) (refl, (refl, tt))
plain_due t (Command.Write place bytes) w s = first_plain ((is_none (holder_of s.has place (length bytes.items)), Refusal.OutOfReach) ∷ []) (refl, tt)
plain_due t (Command.Cache size align pattern) w s = first_plain ((not (is_size size), Refusal.BadSize) ∷ (not (is_alignment align), Refusal.BadAlign)
    ∷ (nat_le w.limit (length s.has.caches), Refusal.NoCacheSlot) ∷ []) (refl, (refl, (refl, tt)))
plain_due t (Command.Destroy number) w s = let cache = known_cache s.has number in
    first_plain ((is_none cache, Refusal.NoCache) ∷ (is_in_use cache, Refusal.CacheInUse) ∷ []) (refl, (refl, tt))
plain_due t (Command.Take number) w s = first_plain ((is_none (known_cache s.has number), Refusal.NoCache) ∷ []) (refl, tt)
plain_due t (Command.Give number place) w s = let cache = known_cache s.has number in first_plain ((is_none cache, Refusal.NoCache)
    ∷ (not (option_map_or (λ c. list_any (λ p. p == place) c.live) cache false), Refusal.NotAnObject) ∷ []) (refl, (refl, tt))
plain_due t Command.Reap w s = tt
plain_due t Command.Report w s = tt

-- If a refusal is due, let it not be `NoFrames`. Then whether frames are left matters only if no refusal is due.
pub full_or_due : (r : Refusal) (asked : Option Refusal) (full room busy : Bool) → IfSome asked IsPlain → (asked ≡ None → full ≡ room)
    → on_refusal r asked full busy ≡ on_refusal r asked room busy
full_or_due r None full room busy plain same = ap (λ b. on_refusal r None b busy) (same refl)
full_or_due Refusal.NoFrames (Some d) full room busy plain same =
    let test : Bool → Bool → Result (Unit {0}) Promise = λ is b. broken ((Promise.Refusals, is) ∷ (Promise.Room, b) ∷ (Promise.Busy, true) ∷ []) in
    ap (λ is. test is full) plain ∙ sym (ap (λ is. test is room) plain)
full_or_due r (Some d) full room busy plain same = refl

-- if `NoSlot` is due, it does not matter whether the slot may be busy
pub late_busy : (r : Refusal) (busy : Bool) → on_refusal r (Some Refusal.NoSlot) false false ≡ on_refusal r (Some Refusal.NoSlot) false busy
late_busy Refusal.SlotBusy busy = refl
late_busy r busy = refl
