-- If the named tenant exists, an allowed reply keeps each promise, and what is known afterwards is `known_after`. If it does not
-- exist, an allowed reply is `NoTenant` and changes nothing that is known.
use Rattle.std.proofs.Common.{◌≡◌, Bool, true, false, List, [], ◌∷◌, Option, Some, None, Result, Ok, unwrap_or, slice_get, refl, ap, ◌∙◌, ◌⊎◌, inl, inr}
use Rattle.std.proofs.lemmas.Bool.{and_parts}
use Rattle.std.specs.Option.{option_map_or}
use Rattle.std.specs.List.{AllByRecursion as Each}
use Rattle.words_core.specs.declared.event.Event.{Event}
use Rattle.words_core.specs.declared.reply.Reply.{Reply}
use Rattle.promise_core.specs.declared.promise.Promise.{Promise}
use Rattle.promise_core.specs.State.{State, Known, opening_state, state_after}
use Rattle.promise_core.specs.Promises.{form, refusals, room, busy, blocks, objects, new_layout, gives, owners, bytes, report, still, is_for, is_no_tenant, named, known_after, verdict, kept, judged, allowed}
use Rattle.model_core.proofs.Lists.{some_of}

-- the state of the tenant that an event names, or None if that tenant does not exist; the opening state if the event names none
abbrev pub state_for : Event → Known → Option State
state_for event w = option_map_or (slice_get w.states) (named event) (Some opening_state)

pub record IsAllowed (event : Event) (reply : Reply) (w v : Known) : Type 0 where
  pub state : State
  pub here : state_for event w ≡ Some state
  pub after : State
  pub next : state_after w.order event reply.body state ≡ Some after
  pub is : v ≡ known_after event reply.body w after
  pub form : form event reply w state ≡ true
  pub refusals : refusals event reply.body w state ≡ true
  pub room : room event reply.body w state ≡ true
  pub busy : busy event reply.body w state ≡ true
  pub blocks : blocks event reply.body w state ≡ true
  pub objects : objects event reply.body w state ≡ true
  pub layout : new_layout event reply.body w state ≡ true
  pub gives : gives event reply.body w state ≡ true
  pub owners : owners event reply.body w state ≡ true
  pub bytes : bytes event reply.body w state ≡ true
  pub report : report event reply.body w state ≡ true
  pub still : still event reply.body w state ≡ true

pub ok_same : {x y : Known} → ◌≡◌ {A = Result Known Promise} (Ok x) (Ok y) → y ≡ x
ok_same e = cc

all_kept : (ks : List (Promise × Bool)) (w v : Known) → verdict ks w ≡ Ok v → Each (λ k. k.1 ≡ true) ks × (v ≡ w)
all_kept [] w v e = (tt, ok_same e)
all_kept ((p, true) ∷ ks) w v e = let rest = all_kept ks w v e in ((refl, rest.0), rest.1)
all_kept ((p, false) ∷ ks) w v e = absurd (cc)

-- the event names a tenant that does not exist, the reply is `NoTenant`, and what is known stays as it was
pub record IsNoTenant (event : Event) (reply : Reply) (w v : Known) : Type 0 where
  pub missing : state_for event w ≡ None
  pub said : is_no_tenant reply.body ≡ true
  pub is : v ≡ w

pub allowed_is : (event : Event) (reply : Reply) (w v : Known) → allowed event reply w ≡ Ok v → IsNoTenant event reply w v ⊎ IsAllowed event reply w v
unfolding allowed
allowed_is event reply w v = go (state_for event w) refl
  where
    go : (found : Option State) → state_for event w ≡ found → judged event reply w found ≡ Ok v → IsNoTenant event reply w v ⊎ IsAllowed event reply w v
    go None here e =
        let all = all_kept ((Promise.Form, is_for event false reply.addressee) ∷ (Promise.Refusals, is_no_tenant reply.body) ∷ []) w v e in
        inl (record { missing = here; said = all.0.1.0; is = all.1 })
    go (Some s) here e =
        let all = all_kept (kept event reply w s) (known_after event reply.body w (unwrap_or (state_after w.order event reply.body s) s)) v e in
        let k = all.0 in
        let some : (a : State) × (state_after w.order event reply.body s ≡ Some a) = some_of (state_after w.order event reply.body s) ((and_parts _ _ k.0).1) in
        inr (record {
          state = s;
          here = here;
          after = some.0;
          next = some.1;
          is = all.1 ∙ ap (λ o. known_after event reply.body w (unwrap_or o s)) some.1;
          form = k.0;
          refusals = k.1.0;
          room = k.1.1.0;
          busy = k.1.1.1.0;
          blocks = k.1.1.1.1.0;
          objects = k.1.1.1.1.1.0;
          layout = k.1.1.1.1.1.1.0;
          gives = k.1.1.1.1.1.1.1.0;
          owners = k.1.1.1.1.1.1.1.1.0;
          bytes = k.1.1.1.1.1.1.1.1.1.0;
          report = k.1.1.1.1.1.1.1.1.1.1.0;
          still = k.1.1.1.1.1.1.1.1.1.1.1.0;
        })
