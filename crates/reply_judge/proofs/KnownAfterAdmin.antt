-- After an allowed answer to a command of the administrator, the judge stores the state that the definitions give.
use Rattle.std.proofs.Common.{◌≡◌, ℕ, ◌+◌, ◌*◌, ◌^◌, ◌≤◌, Bool, true, false, not, List, [], ◌∷◌, map, length, replicate, slice_set, Option, Some, None, Ok, Err, refl, ap, sym, ◌∙◌, arith}
use Rattle.std.specs.Prelude.{Result, ◌==◌, ◌&&◌, ◌||◌, filter, if◌then◌else◌, nat_lt, slice_index_or}
use Rattle.std.specs.List.{list_any}
use Rattle.std.proofs.lemmas.Grind.{common_steps}
use Rattle.std.proofs.lemmas.List.{length-set, length-map}
use Rattle.std.proofs.lemmas.Bool.{and_parts, eqb-true, eq-eqb, ne_eqb, eqb-false, false≢true, leb-true, not-true}
use Rattle.model_core.specs.Machine.{slot_of, put_rising}
use Rattle.model_core.specs.Owners.{owned_by, is_of, is_owner}
use Rattle.model_core.specs.declared.limits.TheConstants.{FRAME_BYTES}
use Rattle.model_core.specs.declared.owner.Owner.{Owner}
use Rattle.words_core.specs.declared.event.Event.{Event}
use Rattle.words_core.specs.declared.event.Event.TheVariants as On
use Rattle.words_core.specs.declared.event.Command.{Command}
use Rattle.words_core.specs.declared.reply.Refusal.{Refusal}
use Rattle.words_core.specs.declared.event.AdminCommand.{AdminCommand}
use Rattle.words_core.specs.declared.event.AdminCommand.TheVariants as Do
use Rattle.words_core.specs.declared.reply.Body.{Body}
use Rattle.words_core.specs.declared.reply.Body.TheVariants as Say
use Rattle.promise_core.specs.Bytes.{Cells, without}
use Rattle.promise_core.specs.Holdings.{Holdings, has_slot}
use Rattle.promise_core.specs.State.{Known, opening_state, state_after, owners_after}
use Rattle.world_core.specs.World.{given_up}
use Rattle.shadow_memory.specs.Left.{Left, left_slots, left_at, Becomes}
use Rattle.reply_judge.specs.Seen.{Seen, state_of, LieInSlots}
use Rattle.reply_judge.specs.declared.verdict.Failure.{Failure}
use Rattle.reply_judge.specs.Judged.{tenant_verdict, IsFollowed, AreOwnersAfter}
use Rattle.reply_judge.proofs.SoundVerdicts.{kept_all}
use Rattle.reply_judge.proofs.KnownAfterCommand.{changed}

-- The opening state

pub opened : (x : Seen) (order : ℕ) → x.has ≡ record { slots = []; pages = []; caches = [] } → x.left ≡ record { order = order; slots = [] }
    → ((n : ℕ) → slice_index_or x.may_have_empty n false ≡ false) → x.last_report ≡ None → state_of x ≡ opening_state
unfolding opening_state
opened x order has left may_have_empty last_report i = record { has = has i; cells = left_at (left i); may_have_empty = λ n. may_have_empty n i; last_report = last_report i }

-- A grant

any_put : (p : ℕ → Bool) (x : ℕ) (ys : List ℕ) → list_any p (put_rising (λ v. v) x ys) ≡ (p x || list_any p ys)
any_put p x [] = refl
any_put p x (y ∷ ys) = go (nat_lt x y) (p x) (p y) (any_put p x ys) refl
  where
    go : (b px py : Bool) → list_any p (put_rising (λ v. v) x ys) ≡ (p x || list_any p ys) → p x ≡ px
        → list_any p (if b then x ∷ (y ∷ ys) else y ∷ put_rising (λ v. v) x ys) ≡ (p x || (p y || list_any p ys))
    go true px py rest e = refl
    go false px py rest e = ap (λ r. p y || r) rest ∙ swap (p y) (p x) (list_any p ys)
      where
        swap : (a b c : Bool) → (a || (b || c)) ≡ (b || (a || c))
        swap true true c = refl
        swap true false c = refl
        swap false true c = refl
        swap false false c = refl

pub slots_granted : (old new : Seen) (u : ℕ) (change : Cells → Cells) → LieInSlots old.has old.left → Becomes old.left (u ∷ left_slots old.left) change new.left
    → new.has.slots ≡ put_rising (λ v. v) u old.has.slots → (n : ℕ) → list_any (λ v. v == n) (left_slots new.left) ≡ has_slot new.has n
slots_granted old new u change sound becomes same n = ap (list_any (λ v. v == n)) becomes.slots ∙ (ap (λ r. u == n || r) (sound.slots n)
    ∙ (sym (any_put (λ v. v == n) u old.has.slots) ∙ sym (ap (list_any (λ v. v == n)) same)))

pub granted : (t last_report u m : ℕ) (w : Known) (old : Seen) (h : Holdings) (l : Left) → tenant_verdict (On.Admin (Do.Grant t)) (Say.Granted last_report u m) w old ≡ Ok tt
    → h ≡ record old.has { slots = put_rising (λ v. v) u old.has.slots }
    → Becomes old.left (u ∷ left_slots old.left) (λ cells. cells) l
    → IsFollowed (On.Admin (Do.Grant t)) (Say.Granted last_report u m) w old (changed old h l)
unfolding state_after
granted t last_report u m w old h l kept has left = record {
  kept = kept;
  order = left.order;
  state = λ i. Some (record { has = sym has i; cells = sym left.cells i; may_have_empty = λ n. slice_index_or old.may_have_empty n false; last_report = None });
}

-- the tenant does not hold slot u, and the places of slot u are below 2 ^ 32
pub record IsNewSlot (u : ℕ) (x : Seen) : Type 0 where
  pub new : has_slot x.has u ≡ false
  pub low : (u + 1) * 2 ^ x.left.order * FRAME_BYTES ≤ 2 ^ 32

pub new_slot : (t last_report u m : ℕ) (w : Known) (x : Seen) → tenant_verdict (On.Admin (Do.Grant t)) (Say.Granted last_report u m) w x ≡ Ok tt → IsNewSlot u x
new_slot t last_report u m w x kept =
    let n = kept_all (On.Admin (Do.Grant t)) (Say.Granted last_report u m) w x kept in
    let p = and_parts _ _ (and_parts _ _ n.owners).1 in
    record { new = not-true (has_slot x.has u) p.0; low = leb-true ((u + 1) * 2 ^ x.left.order * FRAME_BYTES) (2 ^ 32) p.1 }

drop_put : (u : ℕ) (xs : List ℕ) → list_any (λ v. v == u) xs ≡ false → filter (λ v. not (v == u)) (put_rising (λ v. v) u xs) ≡ xs
drop_put u [] e = ap (λ b. if not b then u ∷ [] else []) (eq-eqb u u refl)
drop_put u (x ∷ xs) e = go (nat_lt u x) (x == u) refl (drop_put u xs) e
  where
    stays : (ys : List ℕ) → list_any (λ v. v == u) ys ≡ false → filter (λ v. not (v == u)) ys ≡ ys
    stays [] none = refl
    stays (y ∷ ys) none = here (y == u) none (stays ys)
      where
        here : (b : Bool) → (b || list_any (λ v. v == u) ys) ≡ false → (list_any (λ v. v == u) ys ≡ false → filter (λ v. not (v == u)) ys ≡ ys)
            → (if not b then y ∷ filter (λ v. not (v == u)) ys else filter (λ v. not (v == u)) ys) ≡ y ∷ ys
        here true e rest = absurd (false≢true (sym e))
        here false e rest = ap (λ zs. y ∷ zs) (rest e)

    go : (b c : Bool) → (x == u) ≡ c → (list_any (λ v. v == u) xs ≡ false → filter (λ v. not (v == u)) (put_rising (λ v. v) u xs) ≡ xs)
        → ((x == u) || list_any (λ v. v == u) xs) ≡ false
        → filter (λ v. not (v == u)) (if b then u ∷ (x ∷ xs) else x ∷ put_rising (λ v. v) u xs) ≡ x ∷ xs
    go b true is rest e = absurd (false≢true (sym (ap (λ d. d || list_any (λ v. v == u) xs) (sym is) ∙ e)))
    go true false is rest e = ap (λ d. if not d then u ∷ filter (λ v. not (v == u)) (x ∷ xs) else filter (λ v. not (v == u)) (x ∷ xs)) (eq-eqb u u refl)
        ∙ stays (x ∷ xs) e
    go false false is rest e = ap (λ d. if not d then x ∷ filter (λ v. not (v == u)) (put_rising (λ v. v) u xs) else filter (λ v. not (v == u)) (put_rising (λ v. v) u xs)) is
        ∙ ap (λ zs. x ∷ zs) (rest (ap (λ d. d || list_any (λ v. v == u) xs) (sym is) ∙ e))

-- granting a slot that is not held, and taking it back at once, leaves the holdings unchanged
pub granted_back : (u : ℕ) (h g k : Holdings) → has_slot h u ≡ false → g ≡ record h { slots = put_rising (λ v. v) u h.slots }
    → k ≡ record g { slots = filter (λ v. not (v == u)) g.slots } → k ≡ h
granted_back u h g k new granted back = back ∙ (ap (λ (y : Holdings). record y { slots = filter (λ v. not (v == u)) y.slots }) granted
    ∙ ap (λ us. record h { slots = us }) (drop_put u h.slots new))

-- A take-back

any_dropped : (u n : ℕ) (xs : List ℕ) → list_any (λ v. v == n) (filter (λ v. not (v == u)) xs) ≡ (not (n == u) && list_any (λ v. v == n) xs)
any_dropped u n [] = and_false (not (n == u))
  where
    and_false : (b : Bool) → false ≡ (b && false)
    and_false true = refl
    and_false false = refl
any_dropped u n (x ∷ xs) = go (x == u) (x == n) refl refl (any_dropped u n xs)
  where
    go : (a b : Bool) → (x == u) ≡ a → (x == n) ≡ b
        → list_any (λ v. v == n) (filter (λ v. not (v == u)) xs) ≡ (not (n == u) && list_any (λ v. v == n) xs)
        → list_any (λ v. v == n) (if not a then x ∷ filter (λ v. not (v == u)) xs else filter (λ v. not (v == u)) xs) ≡ (not (n == u) && (b || list_any (λ v. v == n) xs))
    go true true is at rest =
        let same : (n == u) ≡ true = eq-eqb n u (sym (eqb-true x n at) ∙ eqb-true x u is) in
        rest ∙ (ap (λ c. not c && list_any (λ v. v == n) xs) same ∙ sym (ap (λ c. not c && true) same))
    go true false is at rest = rest
    go false true is at rest =
        let other : (n == u) ≡ false = ne_eqb n u (λ e. eqb-false x u is (eqb-true x n at ∙ e)) in
        ap (λ c. c || list_any (λ v. v == n) (filter (λ v. not (v == u)) xs)) at ∙ sym (ap (λ c. not c && true) other)
    go false false is at rest = ap (λ c. c || list_any (λ v. v == n) (filter (λ v. not (v == u)) xs)) at ∙ rest

pub slots_taken : (old new : Seen) (u : ℕ) (change : Cells → Cells) → LieInSlots old.has old.left
    → Becomes old.left (filter (λ v. not (v == u)) (left_slots old.left)) change new.left
    → new.has.slots ≡ filter (λ v. not (v == u)) old.has.slots → (n : ℕ) → list_any (λ v. v == n) (left_slots new.left) ≡ has_slot new.has n
slots_taken old new u change sound becomes same n = ap (list_any (λ v. v == n)) becomes.slots ∙ (any_dropped u n (left_slots old.left)
    ∙ (ap (λ r. not (n == u) && r) (sound.slots n) ∙ (sym (any_dropped u n old.has.slots) ∙ sym (ap (list_any (λ v. v == n)) same))))

pub taken_back : (t u m : ℕ) (w : Known) (old : Seen) (h : Holdings) (l : Left) → tenant_verdict (On.Admin (Do.TakeBack t u)) (Say.TakenBack m) w old ≡ Ok tt
    → h ≡ record old.has { slots = filter (λ v. not (v == u)) old.has.slots }
    → Becomes old.left (filter (λ v. not (v == u)) (left_slots old.left)) (without (λ place holder. slot_of old.left.order place == u)) l
    → IsFollowed (On.Admin (Do.TakeBack t u)) (Say.TakenBack m) w old (changed old h l)
unfolding state_after
taken_back t u m w old h l kept has left = record {
  kept = kept;
  order = left.order;
  state = λ i. Some (record { has = sym has i; cells = sym left.cells i; may_have_empty = λ n. slice_index_or old.may_have_empty n false; last_report = None });
}

-- A reset

pub emptied : (t last_report m : ℕ) (w : Known) (old new : Seen) → tenant_verdict (On.Admin (Do.Reset t)) (Say.WasReset last_report m) w old ≡ Ok tt
    → new.has ≡ record { slots = []; pages = []; caches = [] } → new.left ≡ record old.left { slots = [] }
    → ((n : ℕ) → slice_index_or new.may_have_empty n false ≡ false) → new.last_report ≡ None → IsFollowed (On.Admin (Do.Reset t)) (Say.WasReset last_report m) w old new
unfolding state_after
emptied t last_report m w old new kept has left may_have_empty none = record {
  kept = kept;
  order = ap (λ (l : Left). l.order) left;
  state = ap (λ s. Some s) (sym (opened new old.left.order has left may_have_empty none));
}

-- A move

pub moved : (t u last_report slot m : ℕ) (w : Known) (x : Seen) → tenant_verdict (On.Admin (Do.Move t u)) (Say.Moved last_report slot m) w x ≡ Ok tt
    → IsFollowed (On.Admin (Do.Move t u)) (Say.Moved last_report slot m) w x x
unfolding state_after
moved t u last_report slot m w x kept = record { kept = kept; order = refl; state = refl }

-- The owners that the judge stores after an answer are those of `owners_after`

pub owner_granted : (t last_report u m : ℕ) (w : Known) (x : Seen) (os : List (Option Owner))
    → tenant_verdict (On.Admin (Do.Grant t)) (Say.Granted last_report u m) w x ≡ Ok tt
    → slice_set os m (Some (owned_by last_report u)) ≡ owners_after (On.Admin (Do.Grant t)) (Say.Granted last_report u m) os
unfolding owners_after
owner_granted t last_report u m w x os kept =
    let n = kept_all (On.Admin (Do.Grant t)) (Say.Granted last_report u m) w x kept in
    ap (λ i. slice_set os m (Some (owned_by i u))) (eqb-true last_report t (and_parts _ _ (and_parts _ _ n.owners).0).0)

pub owner_moved : (t u last_report slot m : ℕ) (w : Known) (x : Seen) (os : List (Option Owner))
    → tenant_verdict (On.Admin (Do.Move t u)) (Say.Moved last_report slot m) w x ≡ Ok tt
    → slice_set (map (given_up (is_owner t u)) os) m (Some (owned_by last_report slot)) ≡ owners_after (On.Admin (Do.Move t u)) (Say.Moved last_report slot m) os
unfolding owners_after
owner_moved t u last_report slot m w x os kept =
    let n = kept_all (On.Admin (Do.Move t u)) (Say.Moved last_report slot m) w x kept in
    let both = and_parts _ _ (and_parts _ _ n.owners).0 in
    λ i. slice_set (map (given_up (is_owner t u)) os) m (Some (owned_by (eqb-true last_report t both.0 i) (eqb-true slot u both.1 i)))

pub owners_dropped : (t u m : ℕ) (os : List (Option Owner)) → map (given_up (is_owner t u)) os ≡ owners_after (On.Admin (Do.TakeBack t u)) (Say.TakenBack m) os
unfolding owners_after
owners_dropped t u m os = refl

pub owners_emptied : (t last_report m : ℕ) (os : List (Option Owner)) → map (given_up (is_of t)) os ≡ owners_after (On.Admin (Do.Reset t)) (Say.WasReset last_report m) os
unfolding owners_after
owners_emptied t last_report m os = refl

-- a refusal leaves the owners unchanged
pub owners_refused : (event : Event) (r : Refusal) (os : List (Option Owner)) (result : Result (Unit {0}) Failure) → AreOwnersAfter event (Say.Refused r) os os result
unfolding owners_after
owners_refused (On.Tenant t command) r os (Ok u) = refl
owners_refused (On.Admin (Do.Grant t)) r os (Ok u) = refl
owners_refused (On.Admin (Do.TakeBack t u)) r os (Ok v) = refl
owners_refused (On.Admin (Do.Reset t)) r os (Ok u) = refl
owners_refused (On.Admin (Do.Move t u)) r os (Ok v) = refl
owners_refused (On.Admin Do.Pool) r os (Ok u) = refl
owners_refused event r os (Err e) = refl

-- a tenant's command leaves the owners unchanged
pub owners_kept : (t : ℕ) (command : Command) (body : Body) (os : List (Option Owner)) → owners_after (On.Tenant t command) body os ≡ os
unfolding owners_after
owners_kept t command body os = refl

pub are_kept : (t : ℕ) (command : Command) (body : Body) (os : List (Option Owner)) (result : Result (Unit {0}) Failure) → AreOwnersAfter (On.Tenant t command) body os os result
are_kept t command body os (Ok u) = sym (owners_kept t command body os)
are_kept t command body os (Err e) = refl

-- The number of superblocks stays the same

pub as_many : (command : AdminCommand) (body : Body) (os : List (Option Owner)) → length (owners_after (On.Admin command) body os) ≡ length os
unfolding owners_after
as_many (Do.Grant t) (Say.Granted named u m) os = length-set os m (Some (owned_by t u))
as_many (Do.TakeBack t u) (Say.TakenBack m) os = length-map os (given_up (is_owner t u))
as_many (Do.Reset t) (Say.WasReset named m) os = length-map os (given_up (is_of t))
as_many (Do.Move t u) (Say.Moved named last_report m) os =
    length-set (map (given_up (is_owner t u)) os) m (Some (owned_by t u)) ∙ length-map os (given_up (is_owner t u))
as_many command body os = refl
