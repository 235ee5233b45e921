-- The verdict on a reply, and what is known after it, follow from the reply's addressee and from the verdict on its body.
use Rattle.std.proofs.Common.{◌≡◌, ℕ, zero, suc, ◌<◌, Bool, true, false, ◌&&◌, List, [], ◌∷◌, length, drop, map, Option, Some, None, Result, Ok, Err, is_some, unwrap_or, slice_get, slice_set, refl, ap, sym, subst, ◌∙◌, inl, inr, arith}
use Rattle.std.specs.Prelude.{if◌then◌else◌, option_map}
use Rattle.std.specs.Option.{option_map_or}
use Rattle.std.proofs.lemmas.Bool.{cases_eq}
use Rattle.std.proofs.lemmas.List.{length-set, map-set, set-get_or}
use Rattle.std.proofs.lemmas.Option.{get_or_from_slice_get, slice_get-map}
use Rattle.model_core.specs.declared.limits.TheConstants.{MAX_CACHES}
use Rattle.model_core.specs.declared.owner.Owner.{Owner}
use Rattle.words_core.specs.declared.event.Event.{Event}
use Rattle.words_core.specs.declared.event.Event.TheVariants as On
use Rattle.words_core.specs.declared.event.AdminCommand.TheVariants as Do
use Rattle.words_core.specs.declared.reply.Body.{Body}
use Rattle.words_core.specs.declared.reply.Reply.{Reply}
use Rattle.world_core.proofs.MachineLists.{slice_get-set_other}
use Rattle.promise_core.specs.declared.promise.Promise.{Promise}
use Rattle.promise_core.specs.State.{State, Known, opening_state, state_after, owners_after}
use Rattle.promise_core.specs.Promises.{is_for, is_no_tenant, named, known_after, verdict, kept, judged, allowed}
use Rattle.reply_judge.specs.declared.verdict.Failure.{Failure}
use Rattle.reply_judge.specs.declared.verdict.Failure.TheVariants as Of
use Rattle.reply_judge.specs.Judged.{broken, verdict_on, failing, tenant_verdict, IsVerdictFor, AreOwnersAfter, IsJudged}
use Rattle.reply_judge.specs.Seen.{Seen, state_of}
use Rattle.reply_judge.specs.KnownMachine.{SeenMachine, known_of, FitsLimits}
use Rattle.reply_judge.proofs.KnownAfterAdmin.{opened}
use Rattle.reply_judge.proofs.UnchangedVerdicts.{formless}

-- Lists

pub set_is : {X : Type 0} (xs : List X) (i : ℕ) (x y : X) → slice_get (slice_set xs i y) i ≡ Some x → y ≡ x
set_is [] i x y e = absurd (cc)
set_is (z ∷ zs) zero x y e = cc
set_is (z ∷ zs) (suc i) x y e = set_is zs i x y e

-- Verdicts

-- the verdict, with what is known after an allowed reply
abbrev turn : Result (Unit {0}) Promise → Known → Result Known Promise
turn (Ok u) after = Ok after
turn (Err promise) after = Err promise

verdict_is : (ps : List (Promise × Bool)) (after : Known) → verdict ps after ≡ turn (broken ps) after
verdict_is [] after = refl
verdict_is ((promise, kept) ∷ rest) after = go kept (verdict_is rest after)
  where
    go : (b : Bool) → verdict rest after ≡ turn (broken rest) after
        → (if b then verdict rest after else Err promise) ≡ turn (if b then broken rest else Err promise) after
    go true e = e
    go false e = refl

module _ (event : Event) (reply : Reply) (w : Known) where
  found : (t : ℕ) (o : Option State) → named event ≡ Some t → slice_get w.states t ≡ o → allowed event reply w ≡ judged event reply w o
  unfolding allowed
  found t o name is = ap (λ n. judged event reply w (option_map_or (slice_get w.states) n (Some opening_state))) name ∙ ap (judged event reply w) is

  -- a reply with the wrong addressee breaks the promise `Form`
  astray : (s : State) → is_for event true reply.addressee ≡ false → judged event reply w (Some s) ≡ Err Promise.Form
  astray s wrong =
      ap (λ b. verdict ((Promise.Form, b && is_some (state_after w.order event reply.body s)) ∷ drop 1 (kept event reply w s))
      (known_after event reply.body w (unwrap_or (state_after w.order event reply.body s) s))) wrong

  addressed : (s : State) → is_for event true reply.addressee ≡ true → judged event reply w (Some s)
      ≡ turn (verdict_on event reply.body w s) (known_after event reply.body w (unwrap_or (state_after w.order event reply.body s) s))
  addressed s right =
      let after : Known = known_after event reply.body w (unwrap_or (state_after w.order event reply.body s) s) in
      verdict_is (kept event reply w s) after
      ∙ ap (λ b. turn (broken ((Promise.Form, b && is_some (state_after w.order event reply.body s)) ∷ drop 1 (kept event reply w s))) after) right

-- if v is the verdict on a reply, and the reply changes nothing that is known, then v is right with an unchanged machine
unchanged : (event : Event) (reply : Reply) (x : SeenMachine) (v : Result (Unit {0}) Promise) → allowed event reply (known_of x) ≡ turn v (known_of x)
    → IsJudged event reply x x (failing v)
unchanged event reply x (Ok u) is = (is, record { order = refl; superblocks = refl; tenants = refl })
unchanged event reply x (Err promise) is = (is, refl)

-- A tenant that does not exist

pub stranger : (event : Event) (reply : Reply) (x : SeenMachine) (t : ℕ) (v : Result (Unit {0}) Promise) → named event ≡ Some t → slice_get x.tenants t ≡ None
    → v ≡ broken ((Promise.Form, is_for event false reply.addressee) ∷ (Promise.Refusals, is_no_tenant reply.body) ∷ []) → IsJudged event reply x x (failing v)
stranger event reply x t v name none is =
    unchanged event reply x v (found event reply (known_of x) t None name (slice_get-map state_of x.tenants t ∙ ap (option_map state_of) none)
    ∙ verdict_is ((Promise.Form, is_for event false reply.addressee) ∷ (Promise.Refusals, is_no_tenant reply.body) ∷ []) (known_of x) ∙ ap (λ v. turn v (known_of x)) (sym is))

-- A tenant that exists

some_at : {A : Type 0} (xs : List A) (t : ℕ) → t < length xs → (x : A) × (slice_get xs t ≡ Some x)
some_at [] t lt = absurd (omega arith)
some_at (x ∷ xs) zero lt = (x, refl)
some_at (x ∷ xs) (suc t) lt = some_at xs t (omega (arith, lt))

pub misled : (event : Event) (reply : Reply) (x : SeenMachine) (t : ℕ) → named event ≡ Some t → t < length x.tenants
    → is_for event true reply.addressee ≡ false → allowed event reply (known_of x) ≡ Err Promise.Form
misled event reply x t name within wrong =
    let y : (y : Seen) × (slice_get x.tenants t ≡ Some y) = some_at x.tenants t within in
    found event reply (known_of x) t (Some (state_of y.0)) name (slice_get-map state_of x.tenants t ∙ ap (option_map state_of) y.1) ∙ astray event reply (known_of x) (state_of y.0) wrong

-- a reply that does not fit the event breaks the promise `Form`
pub misjudged : (event : Event) (reply : Reply) (x : SeenMachine) (t : ℕ) → named event ≡ Some t → t < length x.tenants
    → is_for event true reply.addressee ≡ true → ((s : State) → state_after x.order event reply.body s ≡ None)
    → IsJudged event reply x x (Err (Of.Broken Promise.Form))
misjudged event reply x t name within right none =
    let y : (y : Seen) × (slice_get x.tenants t ≡ Some y) = some_at x.tenants t within in
    let s : State = state_of y.0 in
    let after : Known = known_after event reply.body (known_of x) (unwrap_or (state_after x.order event reply.body s) s) in (
      found event reply (known_of x) t (Some s) name (slice_get-map state_of x.tenants t ∙ ap (option_map state_of) y.1)
          ∙ (addressed event reply (known_of x) s right ∙ ap (λ v. turn v after) (formless event reply.body (known_of x) s (none s))),
      refl,
    )

-- the machine x with these owners, and with z as tenant t
abbrev pub with_tenant : SeenMachine → List (Option Owner) → ℕ → Seen → SeenMachine
with_tenant x owners t z = record { order = x.order; owners = owners; tenants = slice_set x.tenants t z }

pub still_fits : (x : SeenMachine) (owners : List (Option Owner)) (t : ℕ) (y z : Seen) → FitsLimits x → length owners ≡ length x.owners
    → slice_get x.tenants t ≡ Some y → z.left.order ≡ y.left.order → FitsLimits (with_tenant x owners t z)
still_fits x owners t y z fits many here same = record {
  small = fits.small;
  few = let few = fits.few in omega (arith, many, few);
  ordered = λ k v at. elim (cases_eq t k) [
    | inl is ↦
        let z_is : z ≡ v = set_is x.tenants k v z (subst (λ i. slice_get (slice_set x.tenants i z) k ≡ Some v) is at) in
        sym (ap (λ (s : Seen). s.left.order) z_is) ∙ (same ∙ fits.ordered t y here)
    | inr other ↦ fits.ordered k v (sym (slice_get-set_other x.tenants t k z other) ∙ at)
  ];
}

-- replacing a tenant and the owners by equal ones changes nothing
as_before : (x : SeenMachine) (t : ℕ) (y z : Seen) (owners : List (Option Owner)) → slice_get x.tenants t ≡ Some y → z ≡ y → owners ≡ x.owners
    → with_tenant x owners t z ≡ x
as_before x t y z owners here same is =
    let at : slice_set x.tenants t y ≡ x.tenants = ap (slice_set x.tenants t) (sym (get_or_from_slice_get x.tenants t y y here)) ∙ set-get_or x.tenants t y in
    λ i. record { order = x.order; owners = is i; tenants = (ap (slice_set x.tenants t) same ∙ at) i }

module _ (event : Event) (reply : Reply) (x : SeenMachine) (t : ℕ) (y z : Seen) (name : named event ≡ Some t)
    (right : is_for event true reply.addressee ≡ true) (here : slice_get x.tenants t ≡ Some y) (order : y.left.order ≡ x.order) where
  -- if the event names tenant t and the addressee is right, the verdict on the reply is the tenant's verdict
  on_tenant : (v : Result (Unit {0}) Promise) → tenant_verdict event reply.body (known_of x) y ≡ v
      → allowed event reply (known_of x)
      ≡ turn v (known_after event reply.body (known_of x) (unwrap_or (state_after x.order event reply.body (state_of y)) (state_of y)))
  on_tenant v is = found event reply (known_of x) t (Some (state_of y)) name (slice_get-map state_of x.tenants t ∙ ap (option_map state_of) here)
      ∙ (addressed event reply (known_of x) (state_of y) right
      ∙ ap (λ r. turn r (known_after event reply.body (known_of x) (unwrap_or (state_after x.order event reply.body (state_of y)) (state_of y))))
      ((λ i. verdict_on event reply.body (record (known_of x) { order = sym order i }) (state_of y)) ∙ is))

  is_after : state_after y.left.order event reply.body (state_of y) ≡ Some (state_of z)
      → known_after event reply.body (known_of x) (unwrap_or (state_after x.order event reply.body (state_of y)) (state_of y))
      ≡ known_of (with_tenant x (owners_after event reply.body x.owners) t z)
  is_after e = ap (λ k. known_after event reply.body (known_of x) (unwrap_or (state_after k event reply.body (state_of y)) (state_of y))) (sym order)
      ∙ (ap (λ o. known_after event reply.body (known_of x) (unwrap_or o (state_of y))) e
      ∙ (λ i. record {
        limit = MAX_CACHES;
        order = x.order;
        owners = owners_after event reply.body x.owners;
        states = (ap (λ o. option_map_or (λ u. slice_set (map state_of x.tenants) u (state_of z)) o (map state_of x.tenants)) name
            ∙ sym (map-set state_of x.tenants t z)) i;
      }))

  -- if the result is right for the tenant and for the owners, it is right for the machine in which both are replaced
  pub tenant_judged : (result : Result (Unit {0}) Failure) (owners : List (Option Owner)) → IsVerdictFor event reply.body (known_of x) y z result
      → length (owners_after event reply.body x.owners) ≡ length x.owners → AreOwnersAfter event reply.body x.owners owners result
      → IsJudged event reply x (with_tenant x owners t z) result
  tenant_judged (Ok u) owners f many is = (
    on_tenant (Ok tt) f.kept ∙ ap (λ k. Ok k) (is_after f.state ∙ ap (λ os. known_of (with_tenant x os t z)) (sym is)),
    record { order = refl; superblocks = ap length is ∙ many; tenants = length-set x.tenants t z },
  )
  tenant_judged (Err (Of.Broken promise)) owners (is_not, same) many is = (on_tenant (Err promise) is_not, as_before x t y z owners here same is)
  tenant_judged (Err (Of.Memory e)) owners ((kept, adds), same) many is = (
    record {
      adds = adds;
      allowed = λ w shown. (
        known_after event reply.body (known_of x) (unwrap_or (state_after x.order event reply.body (state_of y)) (state_of y)),
        subst (λ k. allowed event reply k
            ≡ Ok (known_after event reply.body (known_of x) (unwrap_or (state_after x.order event reply.body (state_of y)) (state_of y)))) (sym shown) (on_tenant (Ok tt) kept),
      );
    },
    as_before x t y z owners here same is,
  )

-- The order of a slot stays the same after any reply

pub order_kept : (event : Event) (body : Body) (w : Known) (y z : Seen) (result : Result (Unit {0}) Failure) → IsVerdictFor event body w y z result
    → z.left.order ≡ y.left.order
order_kept event body w y z (Ok u) f = f.order
order_kept event body w y z (Err (Of.Broken promise)) f = ap (λ (s : Seen). s.left.order) f.1
order_kept event body w y z (Err (Of.Memory e)) f = ap (λ (s : Seen). s.left.order) f.1

-- The pool

pub unnamed : (event : Event) → named event ≡ None → event ≡ On.Admin Do.Pool
unnamed (On.Tenant t command) none = absurd (cc)
unnamed (On.Admin (Do.Grant t)) none = absurd (cc)
unnamed (On.Admin (Do.TakeBack t u)) none = absurd (cc)
unnamed (On.Admin (Do.Reset t)) none = absurd (cc)
unnamed (On.Admin (Do.Move t u)) none = absurd (cc)
unnamed (On.Admin Do.Pool) none = refl

pub pool_astray : (reply : Reply) (x : SeenMachine) → is_for (On.Admin Do.Pool) true reply.addressee ≡ false
    → allowed (On.Admin Do.Pool) reply (known_of x) ≡ Err Promise.Form
unfolding allowed
pool_astray reply x wrong = astray (On.Admin Do.Pool) reply (known_of x) opening_state wrong

pub pool_judged : (reply : Reply) (x : SeenMachine) (v : Result (Unit {0}) Promise) → is_for (On.Admin Do.Pool) true reply.addressee ≡ true
    → v ≡ verdict_on (On.Admin Do.Pool) reply.body (known_of x) opening_state → IsJudged (On.Admin Do.Pool) reply x x (failing v)
unfolding allowed owners_after
pool_judged reply x v right is = unchanged (On.Admin Do.Pool) reply x v
    (addressed (On.Admin Do.Pool) reply (known_of x) opening_state right ∙ ap (λ r. turn r (known_of x)) (sym is))

-- if a result is right for every tenant after a pool command, it is right for the machine
pub pool_answered : (reply : Reply) (x : SeenMachine) (result : Result (Unit {0}) Failure) → is_for (On.Admin Do.Pool) true reply.addressee ≡ true
    → ((w : Known) (y : Seen) → IsVerdictFor (On.Admin Do.Pool) reply.body w y y result) → IsJudged (On.Admin Do.Pool) reply x x result
pool_answered reply x result right judged = go result (judged (known_of x) nobody)
  where
    nobody : Seen
    nobody = record { has = record { slots = []; pages = []; caches = [] }; left = record { order = x.order; slots = [] }; may_have_empty = []; last_report = None }

    verdict_is_at : (v : Result (Unit {0}) Promise) → tenant_verdict (On.Admin Do.Pool) reply.body (known_of x) nobody ≡ v
        → v ≡ verdict_on (On.Admin Do.Pool) reply.body (known_of x) opening_state
    verdict_is_at v is = sym is ∙ ap (verdict_on (On.Admin Do.Pool) reply.body (known_of x)) (opened nobody x.order refl refl (λ n. refl) refl)

    go : (result : Result (Unit {0}) Failure) → IsVerdictFor (On.Admin Do.Pool) reply.body (known_of x) nobody nobody result → IsJudged (On.Admin Do.Pool) reply x x result
    go (Ok u) f = pool_judged reply x (Ok tt) right (verdict_is_at (Ok tt) f.kept)
    go (Err (Of.Broken promise)) f = pool_judged reply x (Err promise) right (verdict_is_at (Err promise) f.0)
    go (Err (Of.Memory e)) f = (
      record {
        adds = f.0.1;
        allowed = λ w shown. (known_of x, subst (λ k. allowed (On.Admin Do.Pool) reply k ≡ Ok (known_of x)) (sym shown) (pool_judged reply x (Ok tt) right (verdict_is_at (Ok tt) f.0.0)).0);
      },
      refl,
    )
