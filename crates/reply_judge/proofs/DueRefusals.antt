-- The refusal that is due in reply to an event follows from the stored state of the tenant that the event names.
use Rattle.std.proofs.Common.{◌≡◌, ℕ, Option, Some, None, slice_get, refl, ap, sym, subst, ◌∙◌}
use Rattle.std.specs.Prelude.{option_map}
use Rattle.std.specs.Option.{option_map_or}
use Rattle.std.proofs.lemmas.Option.{slice_get-map}
use Rattle.words_core.specs.declared.event.Event.{Event}
use Rattle.words_core.specs.declared.reply.Refusal.{Refusal}
use Rattle.promise_core.specs.Promises.{due, named}
use Rattle.promise_core.specs.State.{State, Known, opening_state}
use Rattle.reply_judge.specs.Due.{refusal_due}
use Rattle.reply_judge.specs.Judged.{known_at}
use Rattle.reply_judge.specs.KnownMachine.{SeenMachine, known_of}
use Rattle.reply_judge.specs.Seen.{Seen, state_of}
use Rattle.reply_judge.proofs.ReplyVerdicts.{unnamed}

-- the refusal that is due if an event names tenant t, and the state of this tenant is `o`
due_at : (event : Event) (w : Known) (t : ℕ) (o : Option State) → named event ≡ Some t → slice_get w.states t ≡ o
    → refusal_due w event ≡ option_map_or (due event w) o (Some Refusal.NoTenant)
unfolding refusal_due
due_at event w t o name is =
    ap (λ n. option_map_or (due event w) (option_map_or (slice_get w.states) n (Some opening_state)) (Some Refusal.NoTenant)) name
    ∙ ap (λ s. option_map_or (due event w) s (Some Refusal.NoTenant)) is

pub due_of_stranger : (event : Event) (x : SeenMachine) (t : ℕ) → named event ≡ Some t → slice_get x.tenants t ≡ None
    → refusal_due (known_of x) event ≡ Some Refusal.NoTenant
due_of_stranger event x t name none =
    due_at event (known_of x) t None name (slice_get-map state_of x.tenants t ∙ ap (option_map state_of) none)

pub due_of_tenant : (event : Event) (x : SeenMachine) (t : ℕ) (y : Seen) (told : Option Refusal) → named event ≡ Some t → slice_get x.tenants t ≡ Some y
    → y.left.order ≡ x.order → told ≡ due event (known_at y (known_of x)) (state_of y) → told ≡ refusal_due (known_of x) event
due_of_tenant event x t y told name here order is =
    is ∙ (λ i. due event (record (known_of x) { order = order i }) (state_of y))
    ∙ sym (due_at event (known_of x) t (Some (state_of y)) name (slice_get-map state_of x.tenants t ∙ ap (option_map state_of) here))

-- no refusal of an event that names no tenant is ever due
pub due_of_unnamed : (event : Event) (w : Known) → named event ≡ None → refusal_due w event ≡ None
unfolding refusal_due due
due_of_unnamed event w none = subst (λ e. refusal_due w e ≡ None) (sym (unnamed event none)) refl
