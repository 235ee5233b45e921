-- Answers and tables that do not fit the event.
use Rattle.std.proofs.Common.{◌≡◌, ℕ, true, false, Option, Some, None, refl}
use Rattle.words_core.specs.declared.event.Command.{Command}
use Rattle.words_core.specs.declared.event.Event.{Event}
use Rattle.words_core.specs.declared.report.Report.{Report}
use Rattle.promise_core.specs.Promises.{named, is_no_tenant}
use Rattle.arrayvec.specs.ArrayVec.{ArrayVec}
use Rattle.words_core.specs.Requests.{is_table}
use Rattle.words_core.specs.declared.answer.Answer.{Answer}
use Rattle.words_core.specs.declared.event.Event.TheVariants as On
use Rattle.words_core.specs.declared.event.AdminCommand.TheVariants as Do
use Rattle.words_core.specs.declared.reply.Body.{Body}
use Rattle.words_core.specs.declared.reply.Body.TheVariants as Say
use Rattle.model_core.specs.declared.owner.Owner.{Owner}
use Rattle.promise_core.specs.State.{State, state_after}
use Rattle.reply_judge.specs.Judged.{IsUnfit}

-- the answer has the kind that the event requires; no answer fits a report or a pool command, which require tables
abbrev pub IsKindOf : Event → Answer → Type 0
IsKindOf (On.Tenant t (Command.Alloc k)) a = (f : ℕ) × (a ≡ Answer.Frame f)
IsKindOf (On.Tenant t (Command.Free f)) a = (k : ℕ) × (a ≡ Answer.Freed k)
IsKindOf (On.Tenant t (Command.Read place len)) a = (bytes : _) × (a ≡ Answer.Bytes bytes)
IsKindOf (On.Tenant t (Command.Write place new)) a = (n : ℕ) × (a ≡ Answer.Written n)
IsKindOf (On.Tenant t (Command.Cache size align new)) a =
    (number : ℕ) × (chunk : ℕ) × (q : ℕ) × (n : ℕ) × (colours : ℕ) × (a ≡ Answer.Cache number chunk q n colours)
IsKindOf (On.Tenant t (Command.Destroy number)) a = (n : ℕ) × (a ≡ Answer.Destroyed n)
IsKindOf (On.Tenant t (Command.Take number)) a = (p : ℕ) × (a ≡ Answer.Object p)
IsKindOf (On.Tenant t (Command.Give number place)) a = a ≡ Answer.Given
IsKindOf (On.Tenant t Command.Reap) a = (n : ℕ) × (a ≡ Answer.Reaped n)
IsKindOf (On.Tenant t Command.Report) a = ⊥
IsKindOf (On.Admin (Do.Grant t)) a = (named : ℕ) × (u : ℕ) × (m : ℕ) × (a ≡ Answer.Granted named u m)
IsKindOf (On.Admin (Do.TakeBack t u)) a = (m : ℕ) × (a ≡ Answer.TakenBack m)
IsKindOf (On.Admin (Do.Reset t)) a = (named : ℕ) × (m : ℕ) × (a ≡ Answer.WasReset named m)
IsKindOf (On.Admin (Do.Move t u)) a = (named : ℕ) × (last_report : ℕ) × (m : ℕ) × (a ≡ Answer.Moved named last_report m)
IsKindOf (On.Admin Do.Pool) a = ⊥

pub unfit : (e : Event) (a : Answer) → (IsKindOf e a → ⊥) → IsUnfit e a
unfolding state_after
unfit e (Answer.Refused r) other order s not_refused = absurd (not_refused r refl)
unfit (On.Tenant t (Command.Alloc k)) (Answer.Frame f) other order s not_refused = absurd (other (f, refl))
unfit (On.Tenant t (Command.Free f)) (Answer.Freed k) other order s not_refused = absurd (other (k, refl))
unfit (On.Tenant t (Command.Read place len)) (Answer.Bytes bytes) other order s not_refused = absurd (other (bytes, refl))
unfit (On.Tenant t (Command.Write place new)) (Answer.Written n) other order s not_refused = absurd (other (n, refl))
unfit (On.Tenant t (Command.Cache size align new)) (Answer.Cache number chunk q n colours) other order s not_refused =
    absurd (other (number, chunk, q, n, colours, refl))
unfit (On.Tenant t (Command.Destroy number)) (Answer.Destroyed n) other order s not_refused = absurd (other (n, refl))
unfit (On.Tenant t (Command.Take number)) (Answer.Object p) other order s not_refused = absurd (other (p, refl))
unfit (On.Tenant t (Command.Give number place)) Answer.Given other order s not_refused = absurd (other refl)
unfit (On.Tenant t Command.Reap) (Answer.Reaped n) other order s not_refused = absurd (other (n, refl))
unfit (On.Admin (Do.Grant t)) (Answer.Granted named u m) other order s not_refused = absurd (other (named, u, m, refl))
unfit (On.Admin (Do.TakeBack t u)) (Answer.TakenBack m) other order s not_refused = absurd (other (m, refl))
unfit (On.Admin (Do.Reset t)) (Answer.WasReset named m) other order s not_refused = absurd (other (named, m, refl))
unfit (On.Admin (Do.Move t u)) (Answer.Moved named last_report m) other order s not_refused = absurd (other (named, last_report, m, refl))
unfit e a other order s not_refused = refl

-- there is no state after a table that does not fit the event

pub no_pool_table : (order : ℕ) (s : State) (b : Body) → is_table b ≡ true → ((os : ArrayVec (Option Owner)) → b ≡ Say.Owners os → ⊥)
    → state_after order (On.Admin Do.Pool) b s ≡ None
unfolding state_after
no_pool_table order s (Say.Owners os) table not_owners = absurd (not_owners os refl)
no_pool_table order s (Say.Report r) table not_owners = refl
no_pool_table order s b table not_owners = absurd (cc)

pub no_table : (t order : ℕ) (s : State) (e : Event) (b : Body) → named e ≡ Some t → is_table b ≡ true
    → ((u : ℕ) (m : Command) (r : Report) → e ≡ On.Tenant u m → b ≡ Say.Report r → ⊥) → state_after order e b s ≡ None
unfolding state_after
no_table t order s (On.Tenant u m) (Say.Report r) name table other = absurd (other u m r refl refl)
no_table t order s (On.Tenant u m) (Say.Owners os) name table other = refl
no_table t order s (On.Admin Do.Pool) b name table other = absurd (cc)
no_table t order s (On.Admin m) (Say.Owners os) name table other = refl
no_table t order s (On.Admin m) (Say.Report r) name table other = refl
no_table t order s e b name table other = absurd (cc)

pub no_report_asked : (t order : ℕ) (s : State) (m : Command) (r : Report) → (m ≡ Command.Report → ⊥) → state_after order (On.Tenant t m) (Say.Report r) s ≡ None
unfolding state_after
no_report_asked t order s Command.Report r not_asked = absurd (not_asked refl)
no_report_asked t order s m r not_asked = refl

-- a table is not the refusal `NoTenant`
pub no_row : (b : Body) → is_table b ≡ true → false ≡ is_no_tenant b
no_row (Say.Refused r) table = absurd (cc)
no_row b table = refl
