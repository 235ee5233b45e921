-- The world keeps the promises in every step, and so in every run from the opening world.
use Rattle.std.proofs.Common.{◌≡◌, ℕ, zero, suc, ◌*◌, ◌^◌, ◌≤◌, Bool, true, false, not, eqb, List, [], ◌∷◌, length, Option, Some, None, Result, Ok, is_none, position, slice_get, append-nil, refl, sym, ap, ◌∙◌, subst, arith}
use Rattle.std.specs.Prelude.{if◌then◌else◌, replicate, flat_map}
use Rattle.std.specs.List.{list_any, AllByRecursion as Each}
use Rattle.std.proofs.lemmas.Bool.{and_from, eq-eqb}
use Rattle.std.proofs.lemmas.List.{length-replicate}
use Rattle.std.proofs.lemmas.Option.{slice_get_past}
use Rattle.model_core.specs.declared.refusals.TakeBackRefusal.{TakeBackRefusal}
use Rattle.model_core.specs.Machine.{Machine, empty_machine, holds}
use Rattle.model_core.specs.Owners.{is_owner}
use Rattle.model_core.specs.Operations.{Step, refuse, is_busy, after_take_back, take_back_step}
use Rattle.model_core.specs.Runs.{ArePossible}
use Rattle.model_core.specs.WellFormed.{IsWellFormed}
use Rattle.model_core.proofs.Lists.{each_weaker}
use Rattle.model_core.proofs.PageSteps.{empty_kept}
use Rattle.model_core.proofs.WellFormedRuns as formed
use Rattle.words_core.specs.declared.event.Event.{Event}
use Rattle.words_core.specs.declared.event.Event.TheVariants as On
use Rattle.words_core.specs.declared.event.AdminCommand.TheVariants as Do
use Rattle.words_core.specs.declared.event.Command.{Command}
use Rattle.words_core.specs.declared.reply.Addressee.{Addressee}
use Rattle.words_core.specs.declared.reply.Addressee.TheVariants as To
use Rattle.words_core.specs.declared.reply.Body.TheVariants as Say
use Rattle.words_core.specs.declared.reply.Refusal.{Refusal}
use Rattle.words_core.specs.Cutting.{lines_of_trace}
use Rattle.words_core.specs.Grammar.{reading_of}
use Rattle.world_core.specs.PrivateStep.{Entry, private_step, command_step}
use Rattle.world_core.specs.World.{World, WorldStep, answer, grant_step, slot_step, reset_step, moved_to, move_step, tenant_step, world_step, history, world_after, opening_world}
use Rattle.world_core.specs.World as world
use Rattle.world_core.specs.Output.{events_of}
use Rattle.world_core.specs.Laws.{opening_history}
use Rattle.world_core.specs.Reached.{operations_in}
use Rattle.world_core.proofs.Operations.{entries_are_operations}
use Rattle.world_core.proofs.AskableCommands.{IsPossibleEvent, reading_possible, events_possible}
use Rattle.promise_core.specs.State.{State, Known, opening_state, opening, state_after, owners_after}
use Rattle.promise_core.specs.Promises.{is_for, due, named, kept, allowed, all_allowed}
use Rattle.promise_core.proofs.Steps.{replicated}
use Rattle.promise_kept.specs.Meets.{Meets, IsPromiseKept}
use Rattle.promise_kept.specs.MeetsWorld.{MeetsWorld, IsKeptIn, IsEventKept}
use Rattle.promise_kept.specs.WorldLaws.{CanBeRequested, KeepsPromises, TraceKeepsPromises, StrangerChangesNothing}
use Rattle.promise_kept.proofs.PlaceCells.{all_kept}
use Rattle.promise_kept.proofs.SuperblockOwners.{pool_first, same_owners}
use Rattle.promise_kept.proofs.SlotsMeet.{nothing_meets}
use Rattle.promise_kept.proofs.World.{none_beside, verdict_kept, allowed_stranger, now, told, stranger, grant_full, grant_done, no_slot, slot_busy, back_done, reset_done, move_no_slot, move_full, move_done, command_done}
use Rattle.promise_kept.proofs.Alloc.{alloc_is_kept}
use Rattle.promise_kept.proofs.Free.{free_is_kept}
use Rattle.promise_kept.proofs.Write.{write_is_kept}
use Rattle.promise_kept.proofs.Read.{read_is_kept}
use Rattle.promise_kept.proofs.Cache.{cache_is_kept}
use Rattle.promise_kept.proofs.Destroy as destroy
use Rattle.promise_kept.proofs.TakeCommand as taking
use Rattle.promise_kept.proofs.Give as give
use Rattle.promise_kept.proofs.Reap as reap
use Rattle.promise_kept.proofs.Report.{report_kept}

-- Commands

command_kept : (limit order : ℕ) (command : Command) (m : Machine) (s : State) → 3 ≤ order → IsWellFormed limit order m → Meets order s m → IsPromiseKept limit order command m s
command_kept limit order (Command.Alloc k) m s le w h = alloc_is_kept limit order k m s w h
command_kept limit order (Command.Free first) m s le w h = free_is_kept limit order first m s w h
command_kept limit order (Command.Read place len) m s le w h = read_is_kept limit order place len m s w h
command_kept limit order (Command.Write place new) m s le w h = write_is_kept limit order place new m s w h
command_kept limit order (Command.Cache size align pattern) m s le w h = cache_is_kept limit order size align pattern m s w h le
command_kept limit order (Command.Destroy number) m s le w h = destroy.destroy_kept limit order number m s w h
command_kept limit order (Command.Take number) m s le w h = taking.take_kept limit order number m s w h le
command_kept limit order (Command.Give number place) m s le w h = give.give_kept limit order number place m s w h
command_kept limit order Command.Reap m s le w h = reap.reap_kept limit order m s w h
command_kept limit order Command.Report m s le w h = report_kept limit order m s w h

command_formed : (limit order : ℕ) (command : Command) (m : Machine) → ArePossible (operations_in (Entry.Ask command)) → IsWellFormed limit order m → IsWellFormed limit order (command_step limit order command m).machine
unfolding private_step
command_formed limit order command m can w = subst (IsWellFormed limit order) (sym (entries_are_operations limit order (Entry.Ask command ∷ []) m))
    (formed.run_kept limit order (flat_map operations_in (Entry.Ask command ∷ [])) m (subst ArePossible (sym (append-nil (operations_in (Entry.Ask command)))) can) w)

-- the step of a take-back, given whether the slot is held and whether the slot is busy
abbrev back_step : ℕ → ℕ → Machine → Bool → Bool → Step (Result (Unit {0}) TakeBackRefusal)
back_step order u m held busy = if not held then refuse TakeBackRefusal.NoSlot m
    else (if busy then refuse TakeBackRefusal.SlotBusy m else record { answer = Ok tt; machine = after_take_back order u m })

-- Events

module _ (limit order : ℕ) (w : World) (states : List State) (h : MeetsWorld limit order (now limit order w states) w) where
  abbrev IsKeptNow : Event → WorldStep → Type 0
  IsKeptNow event step = IsKeptIn limit order event (now limit order w states) step

  grant_now : (t : ℕ) → IsKeptNow (On.Admin (Do.Grant t)) (world_step limit order (On.Admin (Do.Grant t)) w)
  unfolding world_step grant_step answer
  grant_now t = go (slice_get w.machines t) refl (position is_none w.owners) refl
    where
      go : (o : Option Machine) → slice_get w.machines t ≡ o → (p : Option ℕ) → position is_none w.owners ≡ p → IsKeptNow (On.Admin (Do.Grant t)) (grant_step order t w o p)
      go None is p free = stranger limit order w states h (On.Admin (Do.Grant t)) (told limit order w states h (Say.Refused Refusal.NoTenant)) t refl is refl refl
      go (Some m) is None free = grant_full limit order w states h t m is free
      go (Some m) is (Some j) free = grant_done limit order w states h t m is j (pool_first w.owners j free)

  back_now : (t u : ℕ) → IsKeptNow (On.Admin (Do.TakeBack t u)) (world_step limit order (On.Admin (Do.TakeBack t u)) w)
  unfolding world_step slot_step answer take_back_step
  back_now t u = go (slice_get w.machines t) refl
    where
      at : (m : Machine) → slice_get w.machines t ≡ Some m → (held : Bool) → holds m u ≡ held → (busy : Bool) → is_busy order m u ≡ busy
          → IsKeptNow (On.Admin (Do.TakeBack t u)) (world.take_back_answered t u w (back_step order u m held busy).machine (back_step order u m held busy).answer)
      at m is false e busy f = no_slot limit order w states h t m is u e
      at m is true e true f = slot_busy limit order w states h t m is u e f
      at m is true e false f = back_done limit order w states h t m is u e f

      go : (o : Option Machine) → slice_get w.machines t ≡ o → IsKeptNow (On.Admin (Do.TakeBack t u)) (slot_step order t u w o)
      go None is = stranger limit order w states h (On.Admin (Do.TakeBack t u)) (told limit order w states h (Say.Refused Refusal.NoTenant)) t refl is refl refl
      go (Some m) is = at m is (holds m u) refl (is_busy order m u) refl

  reset_now : (t : ℕ) → IsKeptNow (On.Admin (Do.Reset t)) (world_step limit order (On.Admin (Do.Reset t)) w)
  unfolding world_step reset_step answer
  reset_now t = go (slice_get w.machines t) refl
    where
      go : (o : Option Machine) → slice_get w.machines t ≡ o → IsKeptNow (On.Admin (Do.Reset t)) (reset_step t w o)
      go None is = stranger limit order w states h (On.Admin (Do.Reset t)) (told limit order w states h (Say.Refused Refusal.NoTenant)) t refl is refl refl
      go (Some m) is = reset_done limit order w states h t m is

  move_now : (t u : ℕ) → IsKeptNow (On.Admin (Do.Move t u)) (world_step limit order (On.Admin (Do.Move t u)) w)
  unfolding world_step move_step answer
  move_now t u = go (slice_get w.machines t) refl
    where
      at : (m : Machine) → slice_get w.machines t ≡ Some m → (held : Bool) → holds m u ≡ held → (p : Option ℕ) → position is_none w.owners ≡ p
          → IsKeptNow (On.Admin (Do.Move t u)) (if not held then answer To.Admin (Say.Refused Refusal.NoSlot) w else moved_to t u w p)
      at m is false e p free = move_no_slot limit order w states h t m is u e
      at m is true e None free = move_full limit order w states h t m is u e free
      at m is true e (Some j) free = move_done limit order w states h t m is u j e (pool_first w.owners j free)

      go : (o : Option Machine) → slice_get w.machines t ≡ o → IsKeptNow (On.Admin (Do.Move t u)) (move_step t u w o (position is_none w.owners))
      go None is = stranger limit order w states h (On.Admin (Do.Move t u)) (told limit order w states h (Say.Refused Refusal.NoTenant)) t refl is refl refl
      go (Some m) is = at m is (holds m u) refl (position is_none w.owners) refl

  pool_now : IsKeptNow (On.Admin Do.Pool) (world_step limit order (On.Admin Do.Pool) w)
  unfolding world_step answer allowed due state_after owners_after
  pool_now = record {
    after = now limit order w states;
    is_allowed = verdict_kept (kept (On.Admin Do.Pool) (told limit order w states h (Say.Owners (record { items = w.owners }))) (now limit order w states) opening_state) (now limit order w states)
        (all_kept (On.Admin Do.Pool) (told limit order w states h (Say.Owners (record { items = w.owners }))) (now limit order w states) opening_state refl refl refl refl refl refl refl refl
        (and_from (eqb (length w.owners) (length w.owners)) _ (eq-eqb (length w.owners) (length w.owners) refl) (same_owners w.owners)) refl refl refl);
    meets = h;
    others = λ t other. refl;
  }

  command_now : (t : ℕ) (command : Command) → 3 ≤ order → ArePossible (operations_in (Entry.Ask command)) → IsKeptNow (On.Tenant t command) (world_step limit order (On.Tenant t command) w)
  unfolding world_step tenant_step answer
  command_now t command le can = go (slice_get w.machines t) refl
    where
      go : (o : Option Machine) → slice_get w.machines t ≡ o → IsKeptNow (On.Tenant t command) (tenant_step limit order t command w o)
      go None is = stranger limit order w states h (On.Tenant t command) (record { addressee = To.Nobody; body = Say.Refused Refusal.NoTenant }) t refl is refl refl
      go (Some m) is = command_done limit order w states h t m is command (λ s met. command_kept limit order command m s le (h.formed t m is) met) (command_formed limit order command m can (h.formed t m is))

-- What is known and true of world w is `now` of w and some states. So `IsKeptIn` holds for it if `IsKeptIn` holds for `now` of w
-- and all states with which `now` is true of w.
known_now : (limit order : ℕ) (event : Event) (k : Known) (w : World) (step : WorldStep)
    → ((states : List State) → MeetsWorld limit order (now limit order w states) w → IsKeptIn limit order event (now limit order w states) step) → MeetsWorld limit order k w → IsKeptIn limit order event k step
known_now limit order event k w step f h = subst (λ x. IsKeptIn limit order event x step) (sym h.known) (f k.states (subst (λ x. MeetsWorld limit order x w) h.known h))

pub grant_event : (limit order t : ℕ) → IsEventKept limit order (On.Admin (Do.Grant t))
grant_event limit order t k w h = known_now limit order (On.Admin (Do.Grant t)) k w _ (λ states met. grant_now limit order w states met t) h

pub back_event : (limit order t u : ℕ) → IsEventKept limit order (On.Admin (Do.TakeBack t u))
back_event limit order t u k w h = known_now limit order (On.Admin (Do.TakeBack t u)) k w _ (λ states met. back_now limit order w states met t u) h

pub reset_event : (limit order t : ℕ) → IsEventKept limit order (On.Admin (Do.Reset t))
reset_event limit order t k w h = known_now limit order (On.Admin (Do.Reset t)) k w _ (λ states met. reset_now limit order w states met t) h

pub move_event : (limit order t u : ℕ) → IsEventKept limit order (On.Admin (Do.Move t u))
move_event limit order t u k w h = known_now limit order (On.Admin (Do.Move t u)) k w _ (λ states met. move_now limit order w states met t u) h

pub pool_event : (limit order : ℕ) → IsEventKept limit order (On.Admin Do.Pool)
pool_event limit order k w h = known_now limit order (On.Admin Do.Pool) k w _ (λ states met. pool_now limit order w states met) h

pub event_kept : (limit order : ℕ) (event : Event) → 3 ≤ order → CanBeRequested event → IsEventKept limit order event
event_kept limit order (On.Tenant t command) le can = λ k w h. known_now limit order (On.Tenant t command) k w _ (λ states met. command_now limit order w states met t command le can) h
event_kept limit order (On.Admin (Do.Grant t)) le can = grant_event limit order t
event_kept limit order (On.Admin (Do.TakeBack t u)) le can = back_event limit order t u
event_kept limit order (On.Admin (Do.Reset t)) le can = reset_event limit order t
event_kept limit order (On.Admin (Do.Move t u)) le can = move_event limit order t u
event_kept limit order (On.Admin Do.Pool) le can = pool_event limit order

-- A tenant that does not exist

stranger_is : (limit order t : ℕ) (event : Event) (addressee : Addressee) (k : Known) (w : World) → MeetsWorld limit order k w → named event ≡ Some t → slice_get w.machines t ≡ None
    → world_step limit order event w ≡ answer addressee (Say.Refused Refusal.NoTenant) w → is_for event false addressee ≡ true
    → (allowed event (world_step limit order event w).reply k ≡ Ok k) × ((world_step limit order event w).world ≡ w)
unfolding answer
stranger_is limit order t event addressee k w h name is e for = (
  ap (λ (s : WorldStep). allowed event s.reply k) e ∙ allowed_stranger event (record { addressee = addressee; body = Say.Refused Refusal.NoTenant }) k t name (none_beside k.states w.machines t h.tenants is) for refl,
  ap (λ (s : WorldStep). s.world) e,
)

none_named : (w : World) (n t : ℕ) → Some n ≡ Some t → length w.machines ≤ t → slice_get w.machines n ≡ None
none_named w n t name past = let same : n ≡ t = cc in slice_get_past w.machines n (omega (arith, same, past))

pub stranger_event : StrangerChangesNothing
unfolding world_step grant_step slot_step reset_step move_step tenant_step
stranger_event limit order t (On.Tenant n command) k w h name past = let none = none_named w n t name past in
    stranger_is limit order n (On.Tenant n command) To.Nobody k w h refl none (ap (tenant_step limit order n command w) none) refl
stranger_event limit order t (On.Admin (Do.Grant n)) k w h name past = let none = none_named w n t name past in
    stranger_is limit order n (On.Admin (Do.Grant n)) To.Admin k w h refl none (ap (λ o. grant_step order n w o (position is_none w.owners)) none) refl
stranger_event limit order t (On.Admin (Do.TakeBack n u)) k w h name past = let none = none_named w n t name past in
    stranger_is limit order n (On.Admin (Do.TakeBack n u)) To.Admin k w h refl none (ap (slot_step order n u w) none) refl
stranger_event limit order t (On.Admin (Do.Reset n)) k w h name past = let none = none_named w n t name past in
    stranger_is limit order n (On.Admin (Do.Reset n)) To.Admin k w h refl none (ap (reset_step n w) none) refl
stranger_event limit order t (On.Admin (Do.Move n u)) k w h name past = let none = none_named w n t name past in
    stranger_is limit order n (On.Admin (Do.Move n u)) To.Admin k w h refl none (ap (λ o. move_step n u w o (position is_none w.owners)) none) refl
stranger_event limit order t (On.Admin Do.Pool) k w h name past = absurd (cc)

-- Runs

pub opening_meets : (limit order superblocks tenants : ℕ) → superblocks * 2 ^ order * 4096 ≤ 2 ^ 32 → MeetsWorld limit order (opening limit order superblocks tenants) (opening_world superblocks tenants)
unfolding opening opening_world empty_machine
opening_meets limit order superblocks tenants ram = record {
  known = refl;
  tenants = length-replicate tenants opening_state ∙ sym (length-replicate tenants empty_machine);
  meets = λ t s m is_s is_m. subst (λ x. Meets order x m) (sym (replicated tenants t opening_state s is_s)) (subst (λ x. Meets order opening_state x) (sym (replicated tenants t empty_machine m is_m)) (nothing_meets order));
  formed = λ t m is. subst (IsWellFormed limit order) (sym (replicated tenants t empty_machine m is)) (empty_kept order);
  held = λ t u m is. ap (λ x. holds x u) (replicated tenants t empty_machine m is) ∙ sym (unowned t u superblocks);
  ram = subst (λ n. n * 2 ^ order * 4096 ≤ 2 ^ 32) (sym (length-replicate superblocks None)) ram;
}
  where
    unowned : (t u n : ℕ) → list_any (is_owner t u) (replicate n None) ≡ false
    unowned t u zero = refl
    unowned t u (suc n) = unowned t u n

run_kept : (limit order : ℕ) (events : List Event) → 3 ≤ order → Each CanBeRequested events → (k : Known) (w : World) → MeetsWorld limit order k w
    → (v : Known) × (all_allowed (history limit order w events) (Ok k) ≡ Ok v) × MeetsWorld limit order v (world_after limit order w events)
run_kept limit order [] le can k w h = (k, refl, h)
run_kept limit order (event ∷ events) le (first, can) k w h =
    let step : IsKeptIn limit order event k (world_step limit order event w) = event_kept limit order event le first k w h in
    let rest : (v : Known) × (all_allowed (history limit order (world_step limit order event w).world events) (Ok step.after) ≡ Ok v) × MeetsWorld limit order v (world_after limit order (world_step limit order event w).world events) =
    run_kept limit order events le can step.after (world_step limit order event w).world step.meets in
    (rest.0, ap (all_allowed (history limit order (world_step limit order event w).world events)) step.is_allowed ∙ rest.1, rest.2)

pub keeps_promises : KeepsPromises
unfolding opening_history
keeps_promises limit order superblocks tenants events le ram can =
    let r : (v : Known) × (all_allowed (history limit order (opening_world superblocks tenants) events) (Ok (opening limit order superblocks tenants)) ≡ Ok v) × MeetsWorld limit order v (world_after limit order (opening_world superblocks tenants) events) =
    run_kept limit order events le can (opening limit order superblocks tenants) (opening_world superblocks tenants) (opening_meets limit order superblocks tenants ram) in
    record { after = r.0; are_allowed = r.1; meets = r.2 }

-- Every event that is read from a line is possible

can_ask : (event : Event) → IsPossibleEvent event → CanBeRequested event
can_ask (On.Tenant t command) h = h
can_ask (On.Admin command) h = tt

pub read_asked : (line : List ℕ) (event : Event) → reading_of line ≡ Ok (Some event) → CanBeRequested event
read_asked line event e = can_ask event (reading_possible line event e)

pub lines_asked : (lines : List (List ℕ)) → Each CanBeRequested (events_of lines)
lines_asked lines = each_weaker IsPossibleEvent CanBeRequested can_ask (events_of lines) (events_possible lines)

pub trace_keeps_promises : TraceKeepsPromises
trace_keeps_promises limit order superblocks tenants trace le ram = keeps_promises limit order superblocks tenants (events_of (lines_of_trace trace)) le ram (lines_asked (lines_of_trace trace))
