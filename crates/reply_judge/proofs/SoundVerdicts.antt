-- If the verdict on a reply is `Ok`, each promise is kept, and the tenant's state keeps its invariant.
use Rattle.std.proofs.Common.{◌≡◌, ℕ, ◌<◌, ◌≤◌, Bool, true, false, List, [], ◌∷◌, drop, is_some, Some, Ok, Err, refl, ap, sym, subst, ◌∙◌, inl, inr}
use Rattle.std.specs.Prelude.{Result, OnOk, ◌==◌, if◌then◌else◌}
use Rattle.std.specs.List.{list_any}
use Rattle.std.proofs.lemmas.Bool.{and_parts, ltb-true}
use Rattle.std.specs.List.{AllByRecursion as Each}
use Rattle.model_core.specs.Elements.{IsIn}
use Rattle.model_core.proofs.Lists.{filter_in, map_in}
use Rattle.model_core.specs.declared.limits.TheConstants.{MAX_CACHES, MAX_ORDER}
use Rattle.words_core.specs.declared.event.Event.{Event}
use Rattle.words_core.specs.declared.event.Event.TheVariants as On
use Rattle.words_core.specs.declared.event.AdminCommand.TheVariants as Do
use Rattle.words_core.specs.declared.event.Command.TheVariants as Command
use Rattle.words_core.specs.declared.reply.Addressee.TheVariants as To
use Rattle.words_core.specs.declared.reply.Body.{Body}
use Rattle.words_core.specs.declared.reply.Body.TheVariants as Say
use Rattle.promise_core.specs.declared.promise.Promise.{Promise}
use Rattle.promise_core.specs.Bytes.{Cells}
use Rattle.promise_core.specs.Holdings.{KnownCache, Holdings, has_slot, with_live_places}
use Rattle.promise_core.specs.Lying.{IsLaid, AllGridded}
use Rattle.promise_core.specs.Promises.{kept, refusals, blocks, objects, new_layout, owners}
use Rattle.promise_core.specs.State.{State, Known, opening_state, state_after}
use Rattle.promise_core.proofs.Steps.{in_put, some_state}
use Rattle.promise_core.proofs.LiveApart.{step, grid_step}
use Rattle.shadow_memory.specs.Left.{left_slots, Becomes}
use Rattle.reply_judge.specs.Judged.{broken, known_at, tenant_verdict, IsFollowed}
use Rattle.reply_judge.specs.Seen.{Seen, state_of, AreNumbered, LieInSlots}

-- a verdict is `Ok` only if each promise is kept
all_kept : (ps : List (Promise × Bool)) → broken ps ≡ Ok tt → Each (λ p. p.1 ≡ true) ps
all_kept [] ok = tt
all_kept ((promise, kept) ∷ rest) ok = go kept refl ok (all_kept rest)
  where
    go : (b : Bool) → kept ≡ b → (if b then broken rest else Err promise) ≡ Ok tt
        → (broken rest ≡ Ok tt → Each (λ p. p.1 ≡ true) rest)
        → (kept ≡ true) × Each (λ p. p.1 ≡ true) rest
    go true is ok more = (is, more ok)
    go false is ok more = absurd (cc)

-- the reply keeps these promises
pub record AreKept (event : Event) (body : Body) (w : Known) (s : State) : Type 0 where
  pub refusals : refusals event body w s ≡ true
  pub blocks : blocks event body w s ≡ true
  pub objects : objects event body w s ≡ true
  pub layout : new_layout event body w s ≡ true
  pub owners : owners event body w s ≡ true

pub kept_all : (event : Event) (body : Body) (w : Known) (x : Seen) → tenant_verdict event body w x ≡ Ok tt → AreKept event body (known_at x w) (state_of x)
kept_all event body w x ok =
    let v = known_at x w in
    let k = all_kept ((Promise.Form, is_some (state_after v.order event body (state_of x)))
    ∷ drop 1 (kept event (record { addressee = To.Nobody; body = body }) v (state_of x))) ok in
    record {
      refusals = k.1.0;
      blocks = k.1.1.1.1.0;
      objects = k.1.1.1.1.1.0;
      layout = k.1.1.1.1.1.1.0;
      owners = k.1.1.1.1.1.1.1.1.0;
    }

-- The numbers of caches stay below the limit

live_number : (b : Bool) (c : KnownCache) (live : List ℕ) → (if b then record c { live = live } else c).number ≡ c.number
live_number true c live = refl
live_number false c live = refl

live_numbered : (h : Holdings) (number : ℕ) (change : List ℕ → List ℕ) → AreNumbered h → AreNumbered (with_live_places number change h)
live_numbered h number change low c i =
    let x : (y : KnownCache) × IsIn y h.caches × ((if y.number == number then record y { live = change y.live } else y) ≡ c) = map_in _ c h.caches i in
    subst (λ n. n < MAX_CACHES) (sym (live_number (x.0.number == number) x.0 (change x.0.live)) ∙ ap (λ y. y.number) x.2) (low x.0 x.1)

number_step : (w : Known) (event : Event) (body : Body) (s s' : State) → state_after w.order event body s ≡ Some s' → w.limit ≡ MAX_CACHES
    → new_layout event body w s ≡ true → AreNumbered s.has → AreNumbered s'.has
unfolding state_after opening_state
number_step w event (Say.Refused r) s s' e limit l g = subst (λ y. AreNumbered y.has) (some_state e) g
number_step w (On.Tenant i (Command.Alloc k)) (Say.Frame first) s s' e limit l g = subst (λ y. AreNumbered y.has) (some_state e) g
number_step w (On.Tenant i (Command.Free first)) (Say.Freed k) s s' e limit l g = subst (λ y. AreNumbered y.has) (some_state e) g
number_step w (On.Tenant i (Command.Read begin len)) (Say.Bytes last_report) s s' e limit l g = subst (λ y. AreNumbered y.has) (some_state e) g
number_step w (On.Tenant i (Command.Write begin new)) (Say.Written count) s s' e limit l g = subst (λ y. AreNumbered y.has) (some_state e) g
number_step w (On.Tenant i (Command.Cache size align pattern)) (Say.Cache number chunk q n colours) s s' e limit l g = subst (λ y. AreNumbered y.has) (some_state e)
    (λ d m. elim (in_put (λ x. x.number) new d s.has.caches m) [
      | inl same ↦ subst (λ y. y.number < MAX_CACHES) same (subst (λ n. number < n) limit (ltb-true number w.limit (and_parts _ _ (and_parts _ _ l).0).0))
      | inr old ↦ g d old
    ])
  where
    new : KnownCache
    new = record { number = number; size = size; align = align; pattern = pattern.items; chunk = chunk; order = q; count = n; live = [] }
number_step w (On.Tenant i (Command.Destroy number)) (Say.Destroyed frames) s s' e limit l g = subst (λ y. AreNumbered y.has) (some_state e)
    (λ d m. g d (filter_in _ d s.has.caches m).0)
number_step w (On.Tenant i (Command.Take number)) (Say.Object place) s s' e limit l g = subst (λ y. AreNumbered y.has) (some_state e)
    (live_numbered s.has number _ g)
number_step w (On.Tenant i (Command.Give number place)) Say.Given s s' e limit l g = subst (λ y. AreNumbered y.has) (some_state e)
    (live_numbered s.has number _ g)
number_step w (On.Tenant i Command.Reap) (Say.Reaped frames) s s' e limit l g = subst (λ y. AreNumbered y.has) (some_state e) g
number_step w (On.Tenant i Command.Report) (Say.Report r) s s' e limit l g = subst (λ y. AreNumbered y.has) (some_state e) g
number_step w (On.Admin (Do.Grant i)) (Say.Granted last_report u superblock) s s' e limit l g = subst (λ y. AreNumbered y.has) (some_state e) g
number_step w (On.Admin (Do.TakeBack i u)) (Say.TakenBack superblock) s s' e limit l g = subst (λ y. AreNumbered y.has) (some_state e) g
number_step w (On.Admin (Do.Reset i)) (Say.WasReset last_report superblocks) s s' e limit l g = subst (λ y. AreNumbered y.has) (some_state e) (λ c i. elim i [ ])
number_step w (On.Admin (Do.Move i u)) (Say.Moved last_report slot superblock) s s' e limit l g = subst (λ y. AreNumbered y.has) (some_state e) g
number_step w (On.Admin Do.Pool) (Say.Owners owners) s s' e limit l g = subst (λ y. AreNumbered y.has) (some_state e) g
number_step w event body s s' e limit l g = absurd (cc)

-- The invariant

-- The invariant still holds after a reply if three things are true: it held before the reply, the reply keeps each promise, and
-- after the reply shadow memory has exactly the held slots.
pub sound_after : (event : Event) (body : Body) (w : Known) (old new : Seen) → LieInSlots old.has old.left → IsFollowed event body w old new
    → ((u : ℕ) → list_any (λ v. v == u) (left_slots new.left) ≡ has_slot new.has u) → LieInSlots new.has new.left
sound_after event body w old new sound follows slots =
    let n = kept_all event body w old follows.kept in
    let v : Known = known_at old w in
    record {
      sized = subst (λ k. k ≤ MAX_ORDER) (sym follows.order) sound.sized;
      slots = slots;
      laid = subst (λ k. IsLaid k new.has) (sym follows.order)
          (step v event body (state_of old) (state_of new) follows.state n.refusals n.blocks n.objects n.layout sound.laid);
      gridded = subst (λ k. AllGridded k new.has) (sym follows.order)
          (grid_step v event body (state_of old) (state_of new) follows.state n.refusals n.objects n.layout sound.laid.numbers sound.gridded);
      numbered = number_step v event body (state_of old) (state_of new) follows.state refl n.layout sound.numbered;
    }

-- if the tenants x and y are equal and the verdict for y is `Ok`, the verdict for x is `Ok`
pub kept_in : (event : Event) (body : Body) (w : Known) (x y : Seen) → x ≡ y → Ok tt ≡ tenant_verdict event body w y → tenant_verdict event body w x ≡ Ok tt
kept_in event body w x y same kept = subst (λ z. tenant_verdict event body w z ≡ Ok tt) (sym same) (sym kept)

pub sound_in : (event : Event) (body : Body) (w : Known) (x y new : Seen) → x ≡ y → LieInSlots x.has x.left → Ok tt ≡ tenant_verdict event body w y
    → (tenant_verdict event body w x ≡ Ok tt → IsFollowed event body w x new)
    → ((u : ℕ) → list_any (λ v. v == u) (left_slots new.left) ≡ has_slot new.has u) → LieInSlots new.has new.left
sound_in event body w x y new same sound kept follows slots =
    sound_after event body w x new sound (follows (kept_in event body w x y same kept)) slots

pub followed : (event : Event) (body : Body) (w : Known) (x y new : Seen) → x ≡ y → Ok tt ≡ tenant_verdict event body w y
    → (tenant_verdict event body w x ≡ Ok tt → IsFollowed event body w x new) → IsFollowed event body w y new
followed event body w x y new same kept follows =
    subst (λ z. IsFollowed event body w z new) same (follows (kept_in event body w x y same kept))

-- if neither the held slots nor the slots of shadow memory change, shadow memory still has exactly the held slots
pub same_slots : (old new : Seen) (change : Cells → Cells) → LieInSlots old.has old.left → Becomes old.left (left_slots old.left) change new.left
    → new.has.slots ≡ old.has.slots → (u : ℕ) → list_any (λ v. v == u) (left_slots new.left) ≡ has_slot new.has u
same_slots old new change sound becomes same u =
    ap (list_any (λ v. v == u)) becomes.slots ∙ sound.slots u ∙ sym (ap (list_any (λ v. v == u)) same)

-- if a call cannot fail, what its contract says about success is true
pub if_kept : {E : Type 0} (r : Result (Unit {0}) E) (P : Type 0) → ((e : E) → r ≡ Err e → ⊥) → OnOk r P → P
if_kept (Ok u) P not h = h
if_kept (Err e) P not h = absurd (not e refl)
