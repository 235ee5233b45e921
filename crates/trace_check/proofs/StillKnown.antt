-- A refusal and a broken promise change nothing that is known.
use Rattle.std.proofs.Common.{◌≡◌, ℕ, List, Option, Some, None, Result, Ok, Err, slice_get, slice_set, refl, sym, ap, subst, ◌∙◌, inl, inr}
use Rattle.std.specs.Prelude.{OnErr}
use Rattle.std.specs.Option.{option_map_or}
use Rattle.std.proofs.lemmas.List.{set-get_or}
use Rattle.std.proofs.lemmas.Option.{get_or_from_slice_get}
use Rattle.model_core.specs.declared.owner.Owner.{Owner}
use Rattle.words_core.specs.declared.event.AdminCommand.{AdminCommand}
use Rattle.words_core.specs.declared.event.Event.{Event}
use Rattle.words_core.specs.declared.reply.Addressee.{Addressee}
use Rattle.words_core.specs.declared.reply.Body.{Body}
use Rattle.words_core.specs.declared.reply.Refusal.{Refusal}
use Rattle.promise_core.specs.declared.promise.Promise.{Promise}
use Rattle.promise_core.specs.Promises.{allowed, known_after, named}
use Rattle.promise_core.specs.State.{Known, State, opening_state, owners_after, state_after}
use Rattle.promise_core.proofs.AllowedReplies.{allowed_is}
use Rattle.promise_core.proofs.Steps.{some_state}
use Rattle.reply_judge.specs.KnownMachine.{SeenMachine, ShowsKnown}

owners_stay : (event : Event) (refusal : Refusal) (owners : List (Option Owner)) → owners_after event (Body.Refused refusal) owners ≡ owners
unfolding owners_after
owners_stay (Event.Tenant t command) refusal owners = refl
owners_stay (Event.Admin (AdminCommand.Grant t)) refusal owners = refl
owners_stay (Event.Admin (AdminCommand.TakeBack t u)) refusal owners = refl
owners_stay (Event.Admin (AdminCommand.Reset t)) refusal owners = refl
owners_stay (Event.Admin (AdminCommand.Move t u)) refusal owners = refl
owners_stay (Event.Admin AdminCommand.Pool) refusal owners = refl

state_stays : (order : ℕ) (event : Event) (refusal : Refusal) (s after : State) → state_after order event (Body.Refused refusal) s ≡ Some after → after ≡ s
unfolding state_after
state_stays order event refusal s after e = sym (some_state e)

-- replacing the state of the named tenant by itself changes nothing
states_stay : (tenant : Option ℕ) (states : List State) (s : State) → option_map_or (slice_get states) tenant (Some opening_state) ≡ Some s
    → option_map_or (λ t. slice_set states t s) tenant states ≡ states
states_stay None states s is = refl
states_stay (Some t) states s is = ap (slice_set states t) (sym (get_or_from_slice_get states t s s is)) ∙ set-get_or states t s

-- after an allowed refusal, what is known is what was known before
pub refusal_keeps : (event : Event) (who : Addressee) (refusal : Refusal) (w after : Known)
    → allowed event (record { addressee = who; body = Body.Refused refusal }) w ≡ Ok after → after ≡ w
refusal_keeps event who refusal w after e = elim (allowed_is event (record { addressee = who; body = Body.Refused refusal }) w after e) [
  | inl missing ↦ missing.is
  | inr all ↦ all.is ∙ ap (λ s. known_after event (Body.Refused refusal) w s) (state_stays w.order event refusal all.state all.after all.next)
      ∙ (λ i. record w {
        owners = owners_stay event refusal w.owners i;
        states = states_stay (named event) w.states all.state all.here i;
      })
]

pub stays_shown : (old new : SeenMachine) (w : Known) → new ≡ old → ShowsKnown old w → ShowsKnown new w
stays_shown old new w same shown = subst (λ x. ShowsKnown x w) (sym same) shown

-- if a broken promise leaves the machine unchanged, the machine still shows what was known
pub broken_keeps : (verdict : Result (Unit {0}) Promise) (old new : SeenMachine) (w : Known) → ((promise : Promise) → verdict ≡ Err promise → new ≡ old)
    → ShowsKnown old w → OnErr verdict (ShowsKnown new w)
broken_keeps (Ok kept) old new w same shown = tt
broken_keeps (Err promise) old new w same shown = stays_shown old new w (same promise refl) shown
