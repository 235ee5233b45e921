-- A list of actions is determined by the world that the kernel shows and by what the actions attempt. Attempts that share no lock
-- commute. So two lists that attempt the same under each lock lead to the same world, with the same outcomes.
use Rattle.std.proofs.Common.{◌≡◌, ℕ, ◌≤◌, Bool, true, false, List, [], ◌∷◌, Option, Some, None, length, map, slice_get, refl, ap, sym, subst, ◌∙◌, inl, inr, arith}
use Rattle.std.specs.Prelude.{filter}
use Rattle.std.specs.Option.{unwrap_or}
use Rattle.std.proofs.lemmas.Option.{slice_get_within}
use Rattle.model_core.specs.Machine.{Machine, empty_machine}
use Rattle.words_core.specs.declared.event.Event.{Event}
use Rattle.words_core.specs.declared.event.Event.TheVariants as On
use Rattle.words_core.specs.declared.event.Command.TheVariants.{Write}
use Rattle.words_core.specs.declared.reply.Refusal.TheVariants.{NoTenant}
use Rattle.world_core.specs.Limits.{cache_limit}
use Rattle.world_core.specs.World.{World, world_step}
use Rattle.world_core.specs.Locks.{Lock, OfTenant, OfAdministrator, event_needs, ShareNoLock, HaveSameLocks}
use Rattle.world_core.proofs.AnyOrder.{after, all_seen, Swap, SameRun, same_run}
use Rattle.world_core.proofs.Commuting.{event_ignores, events_commute}
use Rattle.world_core.proofs.MachineLists.{get_within}
use Rattle.world_core.proofs.OwnListRuns.{is_same}
use Rattle.world_core.proofs.OverlappingCalls as overlapping
use Rattle.world_core.proofs.SideBySide.{event_needs_one}
use Rattle.kernel_core.specs.Content.{KernelContent}
use Rattle.kernel_core.specs.Shows.{Shows}
use Rattle.kernel_core.specs.Stores.{IsKernel}
use Rattle.kernel_core.specs.Lookups.{Lookup, Outcome, Refused, AnswersLookup, answer_to}
use Rattle.kernel_core.specs.Actions.{Action, Runs, StoresAt, LoadsAt, Finds, Acts, AllAct}
use Rattle.kernel_core.specs.ActionLocks.{Attempt, RunEvent, StoreBytes, LoadByte, LookUp, attempt_of, is_lock_of, attempt_needs, action_needs, AttemptTheSame, ShowSameWorld, SameWorldAfterActions, SameOutcomesInAnyOrder, ActionsBegunAsEnded}
use Rattle.kernel_core.proofs.Stores.{stores_are_writes, loads_are_own}

-- The world after an attempt, and the action that it becomes

abbrev write : ℕ → ℕ → List ℕ → Event
write t place bytes = On.Tenant t (Write place (record { items = bytes }))

abbrev pub step : ℕ → Attempt → World → World
step order (RunEvent event) w = (world_step cache_limit order event w).world
step order (StoreBytes t place bytes) w = (world_step cache_limit order (write t place bytes) w).world
step order (LoadByte t place) w = w
step order (LookUp t lookup) w = w

abbrev byte_in : ℕ → Option Machine → ℕ
byte_in place None = 0
byte_in place (Some m) = unwrap_or (m.bytes place) 0

abbrev found_in : ℕ → Lookup → Option Machine → Outcome
found_in order lookup None = Refused NoTenant
found_in order lookup (Some m) = answer_to order lookup m

abbrev pub seen : ℕ → Attempt → World → Action
seen order (RunEvent event) w = Runs event (world_step cache_limit order event w).reply
seen order (StoreBytes t place bytes) w = StoresAt t place bytes
seen order (LoadByte t place) w = LoadsAt t place (byte_in place (slice_get w.machines t))
seen order (LookUp t lookup) w = Finds t lookup (found_in order lookup (slice_get w.machines t))

-- a list has no element at an index that is not below its length
none_at : {A : Type 0} (xs : List A) (i : ℕ) (o : Option A) → slice_get xs i ≡ o → length xs ≤ i → o ≡ None
none_at xs i None here past = refl
none_at xs i (Some x) here past = absurd (omega (arith, slice_get_within xs i x here))

-- kernel k has superblocks of this order and shows world w
pub record Has (order : ℕ) (k : KernelContent) (w : World) : Type 0 where
  pub kernel : IsKernel k
  pub order_is : k.order ≡ order
  pub shows : Shows k w

-- the action is what its attempt becomes in world w, and the kernel afterwards shows the world after it
pub record IsSeen (order : ℕ) (action : Action) (w : World) (k' : KernelContent) : Type 0 where
  pub action_is : action ≡ seen order (attempt_of action) w
  pub has : Has order k' (step order (attempt_of action) w)

act_seen : (order : ℕ) (k k' : KernelContent) (action : Action) (w : World) → Has order k w → Acts k action k' → IsSeen order action w k'
act_seen order k k' (Runs event reply) w had (steps, kernel) =
    subst (λ n. IsSeen n (Runs event reply) w k') had.order_is (record {
      action_is = ap (Runs event) (steps.answer w had.shows);
      has = record { kernel = kernel; order_is = steps.sizes.order; shows = steps.shows w had.shows };
    })
act_seen order k k' (StoresAt t place bytes) w had stored =
    let (kernel, steps) = stores_are_writes k k' t place bytes had.kernel stored in
    subst (λ n. IsSeen n (StoresAt t place bytes) w k') had.order_is (record {
      action_is = refl;
      has = record { kernel = kernel; order_is = steps.sizes.order; shows = steps.shows w had.shows };
    })
act_seen order k k' (LoadsAt t place byte) w had (loads, same) =
    let (m, here) = get_within w.machines t (omega (arith, loads.tenant, had.shows.tenants)) in
    let is : m.bytes place ≡ Some byte = loads_are_own k w m t place byte had.kernel had.shows here loads in
    record {
      action_is = ap (LoadsAt t place) (sym (ap (byte_in place) here ∙ ap (λ o. unwrap_or o 0) is));
      has = subst (λ x. Has order x w) (sym same) had;
    }
act_seen order k k' (Finds t lookup outcome) w had (answers, same) = record {
  action_is = ap (Finds t lookup) (found answers);
  has = subst (λ x. Has order x w) (sym same) had;
}
  where
    found : AnswersLookup k t lookup outcome → outcome ≡ found_in order lookup (slice_get w.machines t)
    found (inl none) =
        none.1 ∙ sym (ap (found_in order lookup) (none_at w.machines t (slice_get w.machines t) refl (omega (arith, none.0, had.shows.tenants))))
    found (inr some) =
        let (m, here) = get_within w.machines t (omega (arith, some.0, had.shows.tenants)) in
        some.1 m (had.shows.machines t m here) ∙ ap (λ n. answer_to n lookup m) had.order_is ∙ sym (ap (found_in order lookup) here)

-- the same of a list of actions
pub record AreSeen (order : ℕ) (actions : List Action) (w : World) (k' : KernelContent) : Type 0 where
  pub actions_are : actions ≡ all_seen (step order) (seen order) (map attempt_of actions) w
  pub has : Has order k' (after (step order) (map attempt_of actions) w)

pub all_act_seen : (order : ℕ) (k k' : KernelContent) (actions : List Action) (w : World) → Has order k w → AllAct k actions k' → AreSeen order actions w k'
all_act_seen order k k' [] w had same = record { actions_are = refl; has = subst (λ x. Has order x w) (sym same) had }
all_act_seen order k k' (action ∷ actions) w had (next, act, rest) =
    let one = act_seen order k next action w had act in
    let all = all_act_seen order next k' actions (step order (attempt_of action) w) one.has rest in
    record {
      actions_are = ap (λ x. x ∷ actions) one.action_is ∙ ap (λ xs. seen order (attempt_of action) w ∷ xs) all.actions_are;
      has = all.has;
    }

-- Attempts that share no lock commute

-- an attempt that does not need the lock of tenant u keeps the machine of u
keeps_machine : (order u : ℕ) (a : Attempt) (w : World) → attempt_needs (OfTenant u) a ≡ false → slice_get (step order a w).machines u ≡ slice_get w.machines u
keeps_machine order u (RunEvent event) w unneeded = (event_ignores cache_limit order u empty_machine event w unneeded).kept
keeps_machine order u (StoreBytes t place bytes) w unneeded = (event_ignores cache_limit order u empty_machine (write t place bytes) w unneeded).kept
keeps_machine order u (LoadByte t place) w unneeded = refl
keeps_machine order u (LookUp t lookup) w unneeded = refl

-- if tenant u's lock is needed by a, it is not needed by an attempt that shares no lock with a
unneeded_by : (u : ℕ) (a b : Attempt) → attempt_needs (OfTenant u) a ≡ true → ShareNoLock attempt_needs a b → attempt_needs (OfTenant u) b ≡ false
unneeded_by u a b here share = go (attempt_needs (OfTenant u) b) refl
  where
    go : (needed : Bool) → attempt_needs (OfTenant u) b ≡ needed → attempt_needs (OfTenant u) b ≡ false
    go true there = absurd (share (OfTenant u) here there)
    go false there = there

load_swaps : (order t place : ℕ) (b : Attempt) (w : World) → ShareNoLock attempt_needs (LoadByte t place) b → Swap (step order) (seen order) (LoadByte t place) b w
load_swaps order t place b w share = record {
  state = refl;
  first = ap (λ o. LoadsAt t place (byte_in place o)) (keeps_machine order t b w (unneeded_by t (LoadByte t place) b (is_same t) share));
  second = refl;
}

lookup_swaps : (order t : ℕ) (lookup : Lookup) (b : Attempt) (w : World) → ShareNoLock attempt_needs (LookUp t lookup) b → Swap (step order) (seen order) (LookUp t lookup) b w
lookup_swaps order t lookup b w share = record {
  state = refl;
  first = ap (λ o. Finds t lookup (found_in order lookup o)) (keeps_machine order t b w (unneeded_by t (LookUp t lookup) b (is_same t) share));
  second = refl;
}

turned : (order : ℕ) (a b : Attempt) (w : World) → Swap (step order) (seen order) a b w → Swap (step order) (seen order) b a w
turned order a b w swap = record { state = sym swap.state; first = swap.second; second = swap.first }

-- a write needs the lock of its tenant, and no other
write_lock : (l : Lock) (t place : ℕ) (bytes : List ℕ) → event_needs l (write t place bytes) ≡ is_lock_of t l
write_lock (OfTenant u) t place bytes = refl
write_lock OfAdministrator t place bytes = refl

swap : (order : ℕ) (a b : Attempt) (w : World) → ShareNoLock attempt_needs a b → Swap (step order) (seen order) a b w
swap order (LoadByte t place) b w share = load_swaps order t place b w share
swap order (LookUp t lookup) b w share = lookup_swaps order t lookup b w share
swap order (RunEvent d) (LoadByte t place) w share =
    turned order (LoadByte t place) (RunEvent d) w (load_swaps order t place (RunEvent d) w (λ l here there. share l there here))
swap order (RunEvent d) (LookUp t lookup) w share =
    turned order (LookUp t lookup) (RunEvent d) w (lookup_swaps order t lookup (RunEvent d) w (λ l here there. share l there here))
swap order (StoreBytes u at bytes) (LoadByte t place) w share =
    turned order (LoadByte t place) (StoreBytes u at bytes) w (load_swaps order t place (StoreBytes u at bytes) w (λ l here there. share l there here))
swap order (StoreBytes u at bytes) (LookUp t lookup) w share =
    turned order (LookUp t lookup) (StoreBytes u at bytes) w (lookup_swaps order t lookup (StoreBytes u at bytes) w (λ l here there. share l there here))
swap order (RunEvent d) (RunEvent e) w share =
    let both = events_commute cache_limit order d e w share in
    record { state = both.world; first = ap (Runs d) both.first; second = ap (Runs e) both.second }
swap order (RunEvent d) (StoreBytes t place bytes) w share =
    let both = events_commute cache_limit order d (write t place bytes) w (λ l here there. share l here (sym (write_lock l t place bytes) ∙ there)) in
    record { state = both.world; first = ap (Runs d) both.first; second = refl }
swap order (StoreBytes t place bytes) (RunEvent e) w share =
    let both = events_commute cache_limit order (write t place bytes) e w (λ l here there. share l (sym (write_lock l t place bytes) ∙ here) there) in
    record { state = both.world; first = refl; second = ap (Runs e) both.second }
swap order (StoreBytes t place bytes) (StoreBytes u at others) w share =
    let both = events_commute cache_limit order (write t place bytes) (write u at others) w
    (λ l here there. share l (sym (write_lock l t place bytes) ∙ here) (sym (write_lock l u at others) ∙ there)) in
    record { state = both.world; first = refl; second = refl }

-- Lists of attempts

needs_one : (a : Attempt) → (l : Lock) × (attempt_needs l a ≡ true)
needs_one (RunEvent event) = event_needs_one event
needs_one (StoreBytes t place bytes) = (OfTenant t, is_same t)
needs_one (LoadByte t place) = (OfTenant t, is_same t)
needs_one (LookUp t lookup) = (OfTenant t, is_same t)

-- an action needs the locks of its attempt
same_need : (order : ℕ) (l : Lock) (a : Attempt) (w : World) → action_needs l (seen order a w) ≡ attempt_needs l a
same_need order l (RunEvent event) w = refl
same_need order l (StoreBytes t place bytes) w = refl
same_need order l (LoadByte t place) w = refl
same_need order l (LookUp t lookup) w = refl

runs_alike : (order : ℕ) (attempts attempts' : List Attempt) → HaveSameLocks attempt_needs attempts attempts' → (w : World)
    → SameRun action_needs (step order) (seen order) attempts attempts' w
runs_alike order = same_run attempt_needs action_needs (step order) (seen order) (same_need order) (swap order) needs_one

-- what is known of two lists of actions that attempt the same
pub record ActAlike (order : ℕ) (k' l' : KernelContent) (actions actions' : List Action) : Type 0 where
  pub world : World
  pub has : Has order k' world
  pub has' : Has order l' world
  pub outcomes : HaveSameLocks action_needs actions actions'

act_alike : (k k' l l' : KernelContent) (actions actions' : List Action) → ShowSameWorld k l → AllAct k actions k' → AllAct l actions' l'
    → AttemptTheSame actions actions' → ActAlike k.order k' l' actions actions'
act_alike k k' l l' actions actions' alike did did' same =
    let all = all_act_seen k.order k k' actions alike.world (record { kernel = alike.kernel; order_is = refl; shows = alike.shows }) did in
    let all' = all_act_seen k.order l l' actions' alike.world (record { kernel = alike.kernel'; order_is = alike.order; shows = alike.shows' }) did' in
    let runs = runs_alike k.order (map attempt_of actions) (map attempt_of actions') same alike.world in
    record {
      world = after (step k.order) (map attempt_of actions) alike.world;
      has = all.has;
      has' = subst (λ v. Has k.order l' v) (sym runs.state) all'.has;
      outcomes = λ lock. ap (filter (action_needs lock)) all.actions_are ∙ runs.seen_alike lock ∙ sym (ap (filter (action_needs lock)) all'.actions_are);
    }

pub same_world_after_actions : SameWorldAfterActions
same_world_after_actions k k' l l' actions actions' alike did did' same =
    let both = act_alike k k' l l' actions actions' alike did did' same in
    record {
      kernel = both.has.kernel;
      kernel' = both.has'.kernel;
      order = both.has'.order_is ∙ sym both.has.order_is;
      world = both.world;
      shows = both.has.shows;
      shows' = both.has'.shows;
    }

pub same_outcomes : SameOutcomesInAnyOrder
same_outcomes k k' l l' actions actions' alike did did' same = (act_alike k k' l l' actions actions' alike did did' same).outcomes

pub actions_begun_as_ended : ActionsBegunAsEnded
actions_begun_as_ended marks hold = overlapping.begun_as_ended attempt_needs marks hold
