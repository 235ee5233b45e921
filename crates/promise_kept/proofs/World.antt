-- Each grant, take-back, reset, move and command keeps the promises, whether it is accepted or refused.
use Rattle.std.proofs.Common.{◌≡◌, ◌≢◌, ℕ, zero, suc, ◌+◌, ◌*◌, ◌^◌, ◌<◌, ◌≤◌, Bool, true, false, not, ◌&&◌, ◌||◌, eqb, List, [], ◌∷◌, map, length, Option, Some, None, Ok, is_none, position, slice_get, refl, sym, ap, ◌∙◌, subst, ⊎_elim, arith}
use Rattle.std.specs.Prelude.{slice_set, count_by, is_some, unwrap_or}
use Rattle.std.specs.List.{list_any, list_all, position_or_len}
use Rattle.std.specs.Option.{option_map_or}
use Rattle.std.proofs.Math.Nat.{mul-le-mul_right}
use Rattle.std.proofs.lemmas.Bool.{and_from, eq-eqb, ne_eqb, le-leb, cases_eq, false≢true, false_from_ne_true}
use Rattle.std.proofs.lemmas.List.{length-map, length-set}
use Rattle.std.proofs.lemmas.Option.{same_Some, slice_get_within}
use Rattle.model_core.specs.declared.owner.Owner.{Owner}
use Rattle.model_core.specs.Machine.{Machine, empty_machine, holds}
use Rattle.model_core.specs.Owners.{owned_by, is_of, is_owner}
use Rattle.model_core.specs.Operations.{next_slot, after_grant, is_busy, after_take_back}
use Rattle.model_core.specs.WellFormed.{IsWellFormed}
use Rattle.model_core.proofs.ConstructedObjects.{next_unheld}
use Rattle.model_core.proofs.PageSteps.{empty_kept, grant_kept, slot_gone_kept}
use Rattle.words_core.specs.declared.event.Event.{Event}
use Rattle.words_core.specs.declared.event.Event.TheVariants as On
use Rattle.words_core.specs.declared.event.AdminCommand.TheVariants as Do
use Rattle.words_core.specs.declared.event.Command.{Command}
use Rattle.words_core.specs.declared.reply.Addressee.TheVariants as To
use Rattle.words_core.specs.declared.reply.Body.{Body}
use Rattle.words_core.specs.declared.reply.Body.TheVariants as Say
use Rattle.words_core.specs.declared.reply.Refusal.{Refusal}
use Rattle.words_core.specs.declared.reply.Reply.{Reply}
use Rattle.world_core.specs.PrivateStep.{command_step}
use Rattle.world_core.specs.World.{World, given_up}
use Rattle.world_core.proofs.MachineLists.{slice_get-set_same, slice_get-set_other, slice_set-same, get_within}
use Rattle.promise_core.specs.declared.promise.Promise.{Promise}
use Rattle.promise_core.specs.Holdings as holdings
use Rattle.promise_core.specs.State.{State, Known, opening_state, state_after, owners_after}
use Rattle.promise_core.specs.Promises.{is_for, first_due, due, is_one, named, known_after, verdict, kept, is_no_tenant, judged, allowed}
use Rattle.promise_kept.specs.Meets.{holdings_of, Meets, IsPromiseKept}
use Rattle.promise_kept.specs.MeetsWorld.{MeetsWorld, IsKeptIn}
use Rattle.promise_kept.proofs.PlaceCells.{all_kept}
use Rattle.promise_kept.proofs.SuperblockOwners.{pool_empty, not_all_owned, given_others, given_own, granted_any, given_free, first_passes, one_owner, owner_of, slots_fewer}
use Rattle.promise_kept.proofs.SlotsMeet.{granted, taken_back, grant_meets, take_back_meets, busy_seen, busy_may, below_next, grant_holds, taken_unheld, others_held, nothing_meets}

-- Lists

pub beside : {A B : Type 0} (xs : List A) (ys : List B) (t : ℕ) (y : B) → length xs ≡ length ys → slice_get ys t ≡ Some y → (x : A) × (slice_get xs t ≡ Some x)
beside xs ys t y e is = get_within xs t (omega (arith, e, slice_get_within ys t y is))

pub none_beside : {A B : Type 0} (xs : List A) (ys : List B) (t : ℕ) → length xs ≡ length ys → slice_get ys t ≡ None → slice_get xs t ≡ None
none_beside [] ys t e is = refl
none_beside (x ∷ xs) [] t e is = absurd (omega (arith, e))
none_beside (x ∷ xs) (z ∷ ys) zero e is = absurd (cc)
none_beside (x ∷ xs) (z ∷ ys) (suc t) e is = none_beside xs ys t (omega (arith, e)) is

-- Allowed replies

pub verdict_kept : (ps : List (Promise × Bool)) (after : Known) → list_all (λ p. p.1) ps ≡ true → verdict ps after ≡ Ok after
verdict_kept [] after e = refl
verdict_kept ((promise, b) ∷ ps) after e = go b e (verdict_kept ps after)
  where
    go : (b : Bool) → (b && list_all (λ p. p.1) ps) ≡ true → (list_all (λ p. p.1) ps ≡ true → verdict ps after ≡ Ok after) → verdict ((promise, b) ∷ ps) after ≡ Ok after
    go true e rest = rest e
    go false e rest = absurd (false≢true e)

allowed_if : (event : Event) (reply : Reply) (k : Known) (t : ℕ) (s next : State) → named event ≡ Some t → slice_get k.states t ≡ Some s
    → list_all (λ p. p.1) (kept event reply k s) ≡ true → state_after k.order event reply.body s ≡ Some next
    → allowed event reply k ≡ Ok (record k { owners = owners_after event reply.body k.owners; states = slice_set k.states t next })
unfolding allowed
allowed_if event reply k t s next name is all after =
    ap (λ o. judged event reply k (option_map_or (slice_get k.states) o (Some opening_state))) name
    ∙ (ap (judged event reply k) is
    ∙ (verdict_kept (kept event reply k s) (known_after event reply.body k (unwrap_or (state_after k.order event reply.body s) s)) all
    ∙ (ap (λ o. Ok (known_after event reply.body k (unwrap_or o s))) after
    ∙ ap (λ o. Ok (record k { owners = owners_after event reply.body k.owners; states = option_map_or (λ u. slice_set k.states u next) o k.states })) name)))

pub allowed_stranger : (event : Event) (reply : Reply) (k : Known) (t : ℕ) → named event ≡ Some t → slice_get k.states t ≡ None
    → is_for event false reply.addressee ≡ true → is_no_tenant reply.body ≡ true → allowed event reply k ≡ Ok k
unfolding allowed
allowed_stranger event reply k t name is for says =
    ap (λ o. judged event reply k (option_map_or (slice_get k.states) o (Some opening_state))) name
    ∙ (ap (judged event reply k) is ∙ verdict_kept ((Promise.Form, is_for event false reply.addressee) ∷ (Promise.Refusals, is_no_tenant reply.body) ∷ []) k
    (and_from (is_for event false reply.addressee) (is_no_tenant reply.body && true) for (and_from (is_no_tenant reply.body) true says refl)))

-- no command of a tenant changes the tenant's slots

slots_after : (order t : ℕ) (command : Command) (body : Body) (s next : State) → state_after order (On.Tenant t command) body s ≡ Some next → s.has.slots ≡ next.has.slots
unfolding state_after
slots_after order t command (Say.Refused refusal) s next e = ap (λ (x : State). x.has.slots) (same_Some _ next e)
slots_after order t (Command.Alloc k) (Say.Frame f) s next e = ap (λ (x : State). x.has.slots) (same_Some _ next e)
slots_after order t (Command.Free f) (Say.Freed k) s next e = ap (λ (x : State). x.has.slots) (same_Some _ next e)
slots_after order t (Command.Read place len) (Say.Bytes bytes) s next e = ap (λ (x : State). x.has.slots) (same_Some _ next e)
slots_after order t (Command.Write place bytes) (Say.Written n) s next e = ap (λ (x : State). x.has.slots) (same_Some _ next e)
slots_after order t (Command.Cache size align pattern) (Say.Cache number chunk q n colours) s next e = ap (λ (x : State). x.has.slots) (same_Some _ next e)
slots_after order t (Command.Destroy number) (Say.Destroyed frames) s next e = ap (λ (x : State). x.has.slots) (same_Some _ next e)
slots_after order t (Command.Take number) (Say.Object place) s next e = ap (λ (x : State). x.has.slots) (same_Some _ next e)
slots_after order t (Command.Give number place) Say.Given s next e = ap (λ (x : State). x.has.slots) (same_Some _ next e)
slots_after order t Command.Reap (Say.Reaped frames) s next e = ap (λ (x : State). x.has.slots) (same_Some _ next e)
slots_after order t Command.Report (Say.Report r) s next e = ap (λ (x : State). x.has.slots) (same_Some _ next e)
slots_after order t command body s next e = absurd (cc)

slots_stay : (order : ℕ) (m after : Machine) (s next : State) → Meets order s m → Meets order next after → s.has.slots ≡ next.has.slots → after.slots ≡ m.slots
unfolding holdings_of
slots_stay order m after s next met later e = sym (ap (λ (x : holdings.Holdings). x.slots) later.has) ∙ (sym e ∙ ap (λ (x : holdings.Holdings). x.slots) met.has)

-- The world

module _ (limit order : ℕ) (w : World) (states : List State) where
  abbrev pub now : Known
  now = record { limit = limit; order = order; owners = w.owners; states = states }

  module _ (h : MeetsWorld limit order now w) where
    pub state_of : (t : ℕ) (m : Machine) → slice_get w.machines t ≡ Some m → (s : State) × (slice_get states t ≡ Some s)
    state_of t m is = beside states w.machines t m h.tenants is

    -- Suppose that only the machine of tenant t and the superblocks that tenant t owns change, and that state `next` is true of
    -- the new machine. Then what is known, with `next` as the state of tenant t, is true of the new world.
    step_meets : (t : ℕ) (next : State) (m after : Machine) (owners : List (Option Owner)) → slice_get w.machines t ≡ Some m → Meets order next after
        → IsWellFormed limit order after → length owners ≡ length w.owners → ((u : ℕ) → holds after u ≡ list_any (is_owner t u) owners)
        → ((v u : ℕ) → v ≢ t → list_any (is_owner v u) owners ≡ list_any (is_owner v u) w.owners)
        → MeetsWorld limit order (record { limit = limit; order = order; owners = owners; states = slice_set states t next }) (record { owners = owners; machines = slice_set w.machines t after })
    step_meets t next m after owners is met formed sized mine others = record {
      known = refl;
      tenants = length-set states t next ∙ (h.tenants ∙ sym (length-set w.machines t after));
      meets = λ v s n is_s is_n. ⊎_elim
          (λ same. subst (λ x. Meets order x n) (own_state v s same is_s) (subst (λ x. Meets order next x) (own v n same is_n) met))
          (λ differ. h.meets v s n (sym (slice_get-set_other states t v next (λ e. differ (sym e))) ∙ is_s) (before v n differ is_n))
          (cases_eq v t);
      formed = λ v n is_n. ⊎_elim
          (λ same. subst (IsWellFormed limit order) (own v n same is_n) formed)
          (λ differ. h.formed v n (before v n differ is_n))
          (cases_eq v t);
      held = λ v u n is_n. ⊎_elim
          (λ (same : v ≡ t). ap (λ x. holds x u) (sym (own v n same is_n)) ∙ (mine u ∙ ap (λ x. list_any (is_owner x u) owners) (sym same)))
          (λ differ. h.held v u n (before v n differ is_n) ∙ sym (others v u differ))
          (cases_eq v t);
      ram = subst (λ n. n * 2 ^ order * 4096 ≤ 2 ^ 32) (sym sized) h.ram;
    }
      where
        own : (v : ℕ) (n : Machine) → v ≡ t → slice_get (slice_set w.machines t after) v ≡ Some n → after ≡ n
        own v n same is_n = let both : Some after ≡ Some n = sym (slice_get-set_same w.machines t m after is) ∙ (ap (slice_get (slice_set w.machines t after)) (sym same) ∙ is_n) in cc

        own_state : (v : ℕ) (s : State) → v ≡ t → slice_get (slice_set states t next) v ≡ Some s → next ≡ s
        own_state v s same is_s =
            let x : (x : State) × (slice_get states t ≡ Some x) = beside states w.machines t m h.tenants is in
            let both : Some next ≡ Some s = sym (slice_get-set_same states t x.0 next x.1) ∙ (ap (slice_get (slice_set states t next)) (sym same) ∙ is_s) in cc

        before : (v : ℕ) (n : Machine) → v ≢ t → slice_get (slice_set w.machines t after) v ≡ Some n → slice_get w.machines v ≡ Some n
        before v n differ is_n = sym (slice_get-set_other w.machines t v after (λ e. differ (sym e))) ∙ is_n

    others_stay : (event : Event) (t : ℕ) (next : State) → named event ≡ Some t → (v : ℕ) → named event ≢ Some v → slice_get (slice_set states t next) v ≡ slice_get states v
    others_stay event t next name v other = slice_get-set_other states t v next (λ same. other (name ∙ ap (λ n. Some n) same))

    -- if a step changes neither the world nor what is known, and its reply keeps each promise, `IsKeptIn` is true of the step
    pub unchanged : (event : Event) (reply : Reply) (t : ℕ) (m : Machine) (s : State) → named event ≡ Some t → slice_get w.machines t ≡ Some m → slice_get states t ≡ Some s
        → list_all (λ p. p.1) (kept event reply now s) ≡ true → state_after order event reply.body s ≡ Some s → owners_after event reply.body w.owners ≡ w.owners
        → IsKeptIn limit order event now (record { reply = reply; world = w })
    unchanged event reply t m s name is is_s all stays owned = record {
      after = now;
      is_allowed = allowed_if event reply now t s s name is_s all stays
          ∙ (ap (λ os. Ok (record { limit = limit; order = order; owners = os; states = slice_set states t s })) owned
          ∙ ap (λ ss. Ok (record { limit = limit; order = order; owners = w.owners; states = ss })) (slice_set-same states t s is_s));
      meets = h;
      others = λ v other. refl;
    }

    -- if an event names a tenant that does not exist, `IsKeptIn` is true of a step that replies `NoTenant` and changes nothing
    pub stranger : (event : Event) (reply : Reply) (t : ℕ) → named event ≡ Some t → slice_get w.machines t ≡ None
        → is_for event false reply.addressee ≡ true → is_no_tenant reply.body ≡ true → IsKeptIn limit order event now (record { reply = reply; world = w })
    stranger event reply t name is for says = record {
      after = now;
      is_allowed = allowed_stranger event reply now t name (none_beside states w.machines t h.tenants is) for says;
      meets = h;
      others = λ v other. refl;
    }

    abbrev pub told : Body → Reply
    told body = record { addressee = To.Admin; body = body }

    -- Grants

    module _ (t : ℕ) (m : Machine) (is : slice_get w.machines t ≡ Some m) where
      abbrev s : State
      s = (state_of t m is).0

      met : Meets order s m
      met = h.meets t s m (state_of t m is).1 is

      formed : IsWellFormed limit order m
      formed = h.formed t m is

      pub grant_full : position is_none w.owners ≡ None → IsKeptIn limit order (On.Admin (Do.Grant t)) now (record { reply = told (Say.Refused Refusal.PoolEmpty); world = w })
      unfolding due state_after owners_after
      grant_full none = let full : list_all is_some w.owners ≡ true = pool_empty w.owners none in
          unchanged (On.Admin (Do.Grant t)) (told (Say.Refused Refusal.PoolEmpty)) t m s refl is (state_of t m is).1
          (all_kept (On.Admin (Do.Grant t)) (told (Say.Refused Refusal.PoolEmpty)) now s refl (rw full refl) refl refl refl refl refl refl refl refl refl refl) refl refl

      pub grant_done : (j : ℕ) → slice_get w.owners j ≡ Some None → IsKeptIn limit order (On.Admin (Do.Grant t)) now (record {
        reply = told (Say.Granted t (next_slot m) j);
        world = record { owners = slice_set w.owners j (Some (owned_by t (next_slot m))); machines = slice_set w.machines t (after_grant order m) };
      })
      unfolding due state_after owners_after holdings_of
      grant_done j free =
          let u : ℕ = next_slot m in
          let event : Event = On.Admin (Do.Grant t) in
          let reply : Reply = told (Say.Granted t (next_slot m) j) in
          let some : list_all is_some w.owners ≡ false = not_all_owned w.owners j free in
          let fewer : next_slot m < length w.owners = slots_fewer t (next_slot m) w.owners j free (λ v lt. sym (h.held t v m is) ∙ below_next m v lt) in
          let next : next_slot m + 1 ≤ length w.owners = omega (arith, fewer) in
          let le : (next_slot m + 1) * 2 ^ order ≤ length w.owners * 2 ^ order = mul-le-mul_right (2 ^ order) next in
          let below : (next_slot m + 1) * 2 ^ order * 4096 ≤ 2 ^ 32 = omega (arith, le, h.ram) in
          let unheld : not (holdings.has_slot s.has (next_slot m)) ≡ true = ap (λ (x : holdings.Holdings). not (holdings.has_slot x (next_slot m))) met.has ∙ not_held in
          record {
            after = record { limit = limit; order = order; owners = slice_set w.owners j (Some (owned_by t (next_slot m))); states = slice_set states t (granted (next_slot m) s) };
            is_allowed = allowed_if (On.Admin (Do.Grant t)) (told (Say.Granted t (next_slot m) j)) now t s (granted (next_slot m) s) refl (state_of t m is).1
                (all_kept (On.Admin (Do.Grant t)) (told (Say.Granted t (next_slot m) j)) now s refl (ap (λ b. is_none (first_due ((b, Refusal.PoolEmpty) ∷ []))) some) refl refl refl refl refl refl
                (and_from _ _ (and_from _ _ (eq-eqb t t refl) (ap (λ o. option_map_or is_none o false) free)) (and_from _ _ unheld (le-leb ((next_slot m + 1) * 2 ^ order * 4096) (2 ^ 32) below))) refl refl refl) refl;
            meets = step_meets t (granted (next_slot m) s) m (after_grant order m) (slice_set w.owners j (Some (owned_by t (next_slot m)))) is (grant_meets order m s formed met)
                (grant_kept order m formed) (length-set w.owners j (Some (owned_by t (next_slot m))))
                (λ v. grant_holds order m v ∙ (ap (λ b. eqb (next_slot m) v || b) (h.held t v m is)
                ∙ (ap (λ b. (b && eqb (next_slot m) v) || list_any (is_owner t v) w.owners) (sym (eq-eqb t t refl)) ∙ sym (granted_any (is_owner t v) w.owners j (Some (owned_by t (next_slot m))) free refl))))
                (λ x v differ. granted_any (is_owner x v) w.owners j (Some (owned_by t (next_slot m))) free refl
                ∙ ap (λ b. (b && eqb (next_slot m) v) || list_any (is_owner x v) w.owners) (ne_eqb t x (λ e. differ (sym e))));
            others = others_stay (On.Admin (Do.Grant t)) t (granted (next_slot m) s) refl;
          }
        where
          not_held : not (holdings.has_slot (holdings_of m) (next_slot m)) ≡ true
          not_held = ap not (next_unheld order m formed)

      -- Slots taken back

      unheld_slot : (u : ℕ) → holds m u ≡ false → not (holdings.has_slot s.has u) ≡ true
      unfolding holdings_of
      unheld_slot u e = ap (λ (x : holdings.Holdings). not (holdings.has_slot x u)) met.has ∙ ap not e

      held_slot : (u : ℕ) → holds m u ≡ true → not (holdings.has_slot s.has u) ≡ false
      unfolding holdings_of
      held_slot u e = ap (λ (x : holdings.Holdings). not (holdings.has_slot x u)) met.has ∙ ap not e

      pub no_slot : (u : ℕ) → holds m u ≡ false → IsKeptIn limit order (On.Admin (Do.TakeBack t u)) now (record { reply = told (Say.Refused Refusal.NoSlot); world = w })
      unfolding due state_after owners_after
      no_slot u e = let off : not (holdings.has_slot s.has u) ≡ true = unheld_slot u e in
          unchanged (On.Admin (Do.TakeBack t u)) (told (Say.Refused Refusal.NoSlot)) t m s refl is (state_of t m is).1
          (all_kept (On.Admin (Do.TakeBack t u)) (told (Say.Refused Refusal.NoSlot)) now s refl
          (ap (λ b. option_map_or (is_one Refusal.NoSlot) (first_due ((b, Refusal.NoSlot) ∷ (holdings.is_slot_busy order s.has u, Refusal.SlotBusy) ∷ [])) (is_one Refusal.NoSlot Refusal.NoFrames || is_one Refusal.NoSlot Refusal.SlotBusy)) off)
          refl refl refl refl refl refl refl refl refl refl) refl refl

      pub slot_busy : (u : ℕ) → holds m u ≡ true → is_busy order m u ≡ true → IsKeptIn limit order (On.Admin (Do.TakeBack t u)) now (record { reply = told (Say.Refused Refusal.SlotBusy); world = w })
      unfolding due state_after owners_after
      slot_busy u e busy = unchanged (On.Admin (Do.TakeBack t u)) (told (Say.Refused Refusal.SlotBusy)) t m s refl is (state_of t m is).1
          (all_kept (On.Admin (Do.TakeBack t u)) (told (Say.Refused Refusal.SlotBusy)) now s refl
          (ap (λ b. option_map_or (is_one Refusal.SlotBusy) (first_due ((b, Refusal.NoSlot) ∷ (holdings.is_slot_busy order s.has u, Refusal.SlotBusy) ∷ [])) true) (held_slot u e) ∙ either (holdings.is_slot_busy order s.has u))
          refl (ap (λ (x : holdings.Holdings). holdings.is_slot_busy order x u || list_any (λ c. s.may_have_empty c.number) x.caches) met.has ∙ busy_may order m s formed met u busy)
          refl refl refl refl refl refl refl refl) refl refl
        where
          either : (b : Bool) → option_map_or (is_one Refusal.SlotBusy) (first_due ((b, Refusal.SlotBusy) ∷ [])) true ≡ true
          either true = refl
          either false = refl

      -- after slot u is taken back, tenant t holds exactly the slots in which it owns a superblock, and the other tenants own the
      -- same superblocks as before
      fewer_mine : (u v : ℕ) → holds (after_take_back order u m) v ≡ list_any (is_owner t v) (map (given_up (is_owner t u)) w.owners)
      fewer_mine u v = ⊎_elim
          (λ (same : v ≡ u). taken_unheld order u m v same ∙ sym (given_own (is_owner t u) (is_owner t v) w.owners (λ o e. ap (λ x. is_owner t x o) (sym same) ∙ e) refl))
          (λ (differ : v ≢ u). others_held order u m v differ ∙ (h.held t v m is ∙ sym (given_others (is_owner t u) (is_owner t v) w.owners
          (λ o e. false_from_ne_true (is_owner t u o) (λ f. differ (one_owner t v t u o e f).1)) refl)))
          (cases_eq v u)

      fewer_others : (u x v : ℕ) → x ≢ t → list_any (is_owner x v) (map (given_up (is_owner t u)) w.owners) ≡ list_any (is_owner x v) w.owners
      fewer_others u x v differ = given_others (is_owner t u) (is_owner x v) w.owners (λ o e. false_from_ne_true (is_owner t u o) (λ f. differ (one_owner x v t u o e f).0)) refl

      pub back_done : (u : ℕ) → holds m u ≡ true → is_busy order m u ≡ false → IsKeptIn limit order (On.Admin (Do.TakeBack t u)) now (record {
        reply = told (Say.TakenBack (position_or_len (is_owner t u) w.owners));
        world = record { owners = map (given_up (is_owner t u)) w.owners; machines = slice_set w.machines t (after_take_back order u m) };
      })
      unfolding due state_after owners_after
      back_done u e free =
          let idle : holdings.is_slot_busy order s.has u ≡ false = ap (λ (x : holdings.Holdings). holdings.is_slot_busy order x u) met.has ∙ busy_seen order m s formed met u free in
          record {
            after = record { limit = limit; order = order; owners = map (given_up (is_owner t u)) w.owners; states = slice_set states t (taken_back order u s) };
            is_allowed = allowed_if (On.Admin (Do.TakeBack t u)) (told (Say.TakenBack (position_or_len (is_owner t u) w.owners))) now t s (taken_back order u s) refl (state_of t m is).1
                (all_kept (On.Admin (Do.TakeBack t u)) (told (Say.TakenBack (position_or_len (is_owner t u) w.owners))) now s refl
                (ap (λ b. is_none (first_due ((b, Refusal.NoSlot) ∷ (holdings.is_slot_busy order s.has u, Refusal.SlotBusy) ∷ []))) (held_slot u e)
                ∙ ap (λ b. is_none (first_due ((b, Refusal.SlotBusy) ∷ []))) idle)
                refl refl refl refl refl refl (first_passes (is_owner t u) w.owners (sym (h.held t u m is) ∙ e)) refl refl refl) refl;
            meets = step_meets t (taken_back order u s) m (after_take_back order u m) (map (given_up (is_owner t u)) w.owners) is (take_back_meets order m s formed met u)
                (slot_gone_kept order u m formed free) (length-map w.owners (given_up (is_owner t u))) (fewer_mine u) (fewer_others u);
            others = others_stay (On.Admin (Do.TakeBack t u)) t (taken_back order u s) refl;
          }

      -- Resets

      pub reset_done : IsKeptIn limit order (On.Admin (Do.Reset t)) now (record {
        reply = told (Say.WasReset t (count_by (is_of t) w.owners));
        world = record { owners = map (given_up (is_of t)) w.owners; machines = slice_set w.machines t empty_machine };
      })
      unfolding due state_after owners_after empty_machine
      reset_done = record {
        after = record { limit = limit; order = order; owners = map (given_up (is_of t)) w.owners; states = slice_set states t opening_state };
        is_allowed = allowed_if (On.Admin (Do.Reset t)) (told (Say.WasReset t (count_by (is_of t) w.owners))) now t s opening_state refl (state_of t m is).1
            (all_kept (On.Admin (Do.Reset t)) (told (Say.WasReset t (count_by (is_of t) w.owners))) now s refl refl refl refl refl refl refl refl
            (and_from (eqb t t) (eqb (count_by (is_of t) w.owners) (count_by (is_of t) w.owners)) (eq-eqb t t refl) (eq-eqb (count_by (is_of t) w.owners) (count_by (is_of t) w.owners) refl)) refl refl refl) refl;
        meets = step_meets t opening_state m empty_machine (map (given_up (is_of t)) w.owners) is (nothing_meets order) (empty_kept order) (length-map w.owners (given_up (is_of t)))
            (λ u. none_held u ∙ sym (given_own (is_of t) (is_owner t u) w.owners (λ o e. owner_of t u t o e ∙ eq-eqb t t refl) refl))
            (λ x u differ. given_others (is_of t) (is_owner x u) w.owners (λ o e. owner_of x u t o e ∙ ne_eqb x t differ) refl);
        others = others_stay (On.Admin (Do.Reset t)) t opening_state refl;
      }
        where
          none_held : (u : ℕ) → holds empty_machine u ≡ false
          none_held u = refl

      -- Moves

      pub move_no_slot : (u : ℕ) → holds m u ≡ false → IsKeptIn limit order (On.Admin (Do.Move t u)) now (record { reply = told (Say.Refused Refusal.NoSlot); world = w })
      unfolding due state_after owners_after
      move_no_slot u e = let off : not (holdings.has_slot s.has u) ≡ true = unheld_slot u e in
          unchanged (On.Admin (Do.Move t u)) (told (Say.Refused Refusal.NoSlot)) t m s refl is (state_of t m is).1
          (all_kept (On.Admin (Do.Move t u)) (told (Say.Refused Refusal.NoSlot)) now s refl
          (ap (λ b. option_map_or (is_one Refusal.NoSlot) (first_due ((b, Refusal.NoSlot) ∷ (list_all is_some w.owners, Refusal.PoolEmpty) ∷ [])) (is_one Refusal.NoSlot Refusal.NoFrames || is_one Refusal.NoSlot Refusal.SlotBusy)) off)
          refl refl refl refl refl refl refl refl refl refl) refl refl

      pub move_full : (u : ℕ) → holds m u ≡ true → position is_none w.owners ≡ None → IsKeptIn limit order (On.Admin (Do.Move t u)) now (record { reply = told (Say.Refused Refusal.PoolEmpty); world = w })
      unfolding due state_after owners_after
      move_full u e none = unchanged (On.Admin (Do.Move t u)) (told (Say.Refused Refusal.PoolEmpty)) t m s refl is (state_of t m is).1
          (all_kept (On.Admin (Do.Move t u)) (told (Say.Refused Refusal.PoolEmpty)) now s refl
          (ap (λ b. option_map_or (is_one Refusal.PoolEmpty) (first_due ((b, Refusal.NoSlot) ∷ (list_all is_some w.owners, Refusal.PoolEmpty) ∷ [])) (is_one Refusal.PoolEmpty Refusal.NoFrames || is_one Refusal.PoolEmpty Refusal.SlotBusy)) (held_slot u e)
          ∙ ap (λ b. option_map_or (is_one Refusal.PoolEmpty) (first_due ((b, Refusal.PoolEmpty) ∷ [])) (is_one Refusal.PoolEmpty Refusal.NoFrames || is_one Refusal.PoolEmpty Refusal.SlotBusy)) (pool_empty w.owners none))
          refl refl refl refl refl refl refl refl refl refl) refl refl

      abbrev moved : ℕ → ℕ → List (Option Owner)
      moved u j = slice_set (map (given_up (is_owner t u)) w.owners) j (Some (owned_by t u))

      moved_any : (u j : ℕ) → slice_get w.owners j ≡ Some None → (x v : ℕ) → list_any (is_owner x v) (moved u j) ≡ ((eqb t x && eqb u v) || list_any (is_owner x v) (map (given_up (is_owner t u)) w.owners))
      moved_any u j free x v = granted_any (is_owner x v) (map (given_up (is_owner t u)) w.owners) j (Some (owned_by t u)) (given_free (is_owner t u) w.owners j free) refl

      moved_mine : (u j : ℕ) → slice_get w.owners j ≡ Some None → holds m u ≡ true → (v : ℕ) → holds m v ≡ list_any (is_owner t v) (moved u j)
      moved_mine u j free e v = ⊎_elim
          (λ (same : v ≡ u). ap (holds m) same ∙ (e ∙ sym (moved_any u j free t v ∙ (ap (λ b. (b && eqb u v) || list_any (is_owner t v) (map (given_up (is_owner t u)) w.owners)) (eq-eqb t t refl)
          ∙ ap (λ b. b || list_any (is_owner t v) (map (given_up (is_owner t u)) w.owners)) (eq-eqb u v (sym same))))))
          (λ (differ : v ≢ u). h.held t v m is ∙ (sym (given_others (is_owner t u) (is_owner t v) w.owners (λ o f. false_from_ne_true (is_owner t u o) (λ g. differ (one_owner t v t u o f g).1)) refl)
          ∙ sym (moved_any u j free t v ∙ (ap (λ b. (b && eqb u v) || list_any (is_owner t v) (map (given_up (is_owner t u)) w.owners)) (eq-eqb t t refl)
          ∙ ap (λ b. b || list_any (is_owner t v) (map (given_up (is_owner t u)) w.owners)) (ne_eqb u v (λ f. differ (sym f)))))))
          (cases_eq v u)

      moved_others : (u j : ℕ) → slice_get w.owners j ≡ Some None → (x v : ℕ) → x ≢ t → list_any (is_owner x v) (moved u j) ≡ list_any (is_owner x v) w.owners
      moved_others u j free x v differ = moved_any u j free x v
          ∙ (ap (λ b. (b && eqb u v) || list_any (is_owner x v) (map (given_up (is_owner t u)) w.owners)) (ne_eqb t x (λ f. differ (sym f))) ∙ fewer_others u x v differ)

      pub move_done : (u j : ℕ) → holds m u ≡ true → slice_get w.owners j ≡ Some None
          → IsKeptIn limit order (On.Admin (Do.Move t u)) now (record { reply = told (Say.Moved t u j); world = record { owners = moved u j; machines = w.machines } })
      unfolding due state_after owners_after
      move_done u j e free = record {
        after = record { limit = limit; order = order; owners = moved u j; states = slice_set states t s };
        is_allowed = allowed_if (On.Admin (Do.Move t u)) (told (Say.Moved t u j)) now t s s refl (state_of t m is).1
            (all_kept (On.Admin (Do.Move t u)) (told (Say.Moved t u j)) now s refl
            (ap (λ b. is_none (first_due ((b, Refusal.NoSlot) ∷ (list_all is_some w.owners, Refusal.PoolEmpty) ∷ []))) (held_slot u e)
            ∙ ap (λ b. is_none (first_due ((b, Refusal.PoolEmpty) ∷ []))) (not_all_owned w.owners j free))
            refl refl refl refl refl refl
            (and_from _ _ (and_from (eqb t t) (eqb u u) (eq-eqb t t refl) (eq-eqb u u refl)) (ap (λ o. option_map_or is_none o false) free)) refl refl refl) refl;
        meets = subst (λ ms. MeetsWorld limit order (record { limit = limit; order = order; owners = moved u j; states = slice_set states t s }) (record { owners = moved u j; machines = ms }))
            (slice_set-same w.machines t m is)
            (step_meets t s m m (moved u j) is met formed (length-set (map (given_up (is_owner t u)) w.owners) j (Some (owned_by t u)) ∙ length-map w.owners (given_up (is_owner t u)))
            (moved_mine u j free e) (moved_others u j free));
        others = others_stay (On.Admin (Do.Move t u)) t s refl;
      }

      -- Commands

      pub command_done : (command : Command) → ((s : State) → Meets order s m → IsPromiseKept limit order command m s) → IsWellFormed limit order (command_step limit order command m).machine
          → IsKeptIn limit order (On.Tenant t command) now (record {
            reply = record { addressee = To.Tenant t; body = (command_step limit order command m).answer };
            world = record w { machines = slice_set w.machines t (command_step limit order command m).machine };
          })
      unfolding owners_after
      command_done command is_kept formed_after =
          let k : IsPromiseKept limit order command m s = is_kept s met in
          let next : (next : State) × (state_after order (On.Tenant t command) (command_step limit order command m).answer s ≡ Some next) × Meets order next (command_step limit order command m).machine = k.meets t in
          record {
            after = record { limit = limit; order = order; owners = w.owners; states = slice_set states t next.0 };
            is_allowed = allowed_if (On.Tenant t command) (record { addressee = To.Tenant t; body = (command_step limit order command m).answer }) now t s next.0 refl (state_of t m is).1
                (k.allowed t w.owners states) next.1;
            meets = step_meets t next.0 m (command_step limit order command m).machine w.owners is next.2 formed_after refl
                (λ u. ap (λ us. list_any (λ v. eqb v u) us) (slots_stay order m (command_step limit order command m).machine s next.0 met next.2 (slots_after order t command (command_step limit order command m).answer s next.0 next.1)) ∙ h.held t u m is)
                (λ x u differ. refl);
            others = others_stay (On.Tenant t command) t next.0 refl;
          }
