-- Whatever the actions are, a tenant sees what its private machine gives for the tenant's own list.
use Rattle.std.proofs.Common.{◌≡◌, ℕ, ◌<◌, ◌==◌, Bool, true, false, List, [], ◌∷◌, ◌++◌, Some, map, slice_get, if◌then◌else◌, append_assoc, refl, sym, ap, ◌∙◌, subst, inl, inr, arith}
use Rattle.std.proofs.lemmas.Bool.{eqb-true}
use Rattle.std.proofs.lemmas.List.{map-append}
use Rattle.std.proofs.lemmas.Option.{slice_get_within}
use Rattle.model_core.specs.Machine.{Machine, empty_machine}
use Rattle.words_core.specs.declared.event.Event.{Event}
use Rattle.words_core.specs.declared.event.Event.TheVariants.{Tenant}
use Rattle.words_core.specs.declared.event.Command.TheVariants.{Write}
use Rattle.words_core.specs.declared.reply.Reply.{Reply}
use Rattle.world_core.specs.Limits.{cache_limit}
use Rattle.world_core.specs.PrivateStep.{Entry, Ask, command_step, private_step}
use Rattle.world_core.specs.PrivateRun.{private_run}
use Rattle.world_core.specs.World.{World, opening_world, world_step}
use Rattle.world_core.specs.OwnList.{own_entries}
use Rattle.world_core.proofs.OwnListRuns.{step_leaves, opening-machine}
use Rattle.kernel_core.specs.Content.{KernelContent}
use Rattle.kernel_core.specs.Shows.{ShowsMachine, Shows}
use Rattle.kernel_core.specs.Steps.{Steps}
use Rattle.kernel_core.specs.Stores.{IsKernel}
use Rattle.kernel_core.specs.Lookups.{Lookup, Outcome, AnswersLookup, answer_to}
use Rattle.kernel_core.specs.Actions.{Action, Runs, StoresAt, LoadsAt, Finds, Acts, AllAct, Sight, Told, Loaded, Found, sights_in, sights_of, Own, Enters, Stored, LoadedAt, Sought, own_in, own_actions, OwnSeen, own_step, own_seen, IsBooted, OwnSights, SameSights}
use Rattle.kernel_core.proofs.Stores.{stores_are_writes, loads_are_own}

-- The private machine over own lists

abbrev then_seen : List Sight → OwnSeen → OwnSeen
then_seen before after = record { sights = before ++ after.sights; machine = after.machine }

seen-append : (limit order : ℕ) (xs ys : List Own) (m : Machine)
    → own_seen limit order (xs ++ ys) m ≡ then_seen (own_seen limit order xs m).sights (own_seen limit order ys (own_seen limit order xs m).machine)
seen-append limit order [] ys m = refl
seen-append limit order (x ∷ xs) ys m =
    let first = own_step limit order x m in
    let rest = own_seen limit order ys (own_seen limit order xs first.machine).machine in
    ap (then_seen first.sights) (seen-append limit order xs ys first.machine)
    ∙ ap (λ sights. record { sights = sights; machine = rest.machine }) (sym (append_assoc first.sights (own_seen limit order xs first.machine).sights rest.sights))

-- if an own list has only entries (`Enters`), and no stores or loads, the tenant sees the replies of a private run of these
-- entries, and the machine afterwards is the machine after that run
entered : (limit order : ℕ) (entries : List Entry) (m : Machine)
    → own_seen limit order (map Enters entries) m
    ≡ record { sights = map Told (private_run limit order entries m).replies; machine = (private_run limit order entries m).machine }
entered limit order [] m = refl
entered limit order (entry ∷ entries) m =
    let first = private_step limit order entry m in
    let rest = private_run limit order entries first.machine in
    ap (then_seen (map Told first.replies)) (entered limit order entries first.machine)
    ∙ ap (λ sights. record { sights = sights; machine = rest.machine }) (sym (map-append Told first.replies rest.replies))

-- Actions

-- the kernel shows a world in which tenant t has this machine
pub record Has (k : KernelContent) (t : ℕ) (m : Machine) : Type 0 where
  pub kernel : IsKernel k
  pub world : World
  pub shows : Shows k world
  pub machine : slice_get world.machines t ≡ Some m

-- `seen` is what the private machine m gives for `owns`. Kernel k' has order n and shows the machine that `owns` makes of m.
pub record Follows (n t : ℕ) (owns : List Own) (m : Machine) (seen : List Sight) (k' : KernelContent) : Type 0 where
  pub sights : seen ≡ (own_seen cache_limit n owns m).sights
  pub order : k'.order ≡ n
  pub has : Has k' t (own_seen cache_limit n owns m).machine

run_follows : (k k' : KernelContent) (event : Event) (reply : Reply) (t : ℕ) (m : Machine) → Has k t m → Steps k event k' reply → IsKernel k'
    → Follows k.order t (own_in t (Runs event reply)) m (sights_in t (Runs event reply)) k'
run_follows k k' event reply t m had steps is =
    let step = world_step cache_limit k.order event had.world in
    let leaves = step_leaves cache_limit k.order t event had.world m had.machine in
    let seen = entered cache_limit k.order (own_entries t event step.reply.body) m in
    subst (λ (x : Reply). Follows k.order t (own_in t (Runs event x)) m (sights_in t (Runs event x)) k') (sym (steps.answer had.world had.shows)) (record {
      sights = ap (map Told) leaves.replies ∙ sym (ap (λ (x : OwnSeen). x.sights) seen);
      order = steps.sizes.order;
      has = record {
        kernel = is;
        world = step.world;
        shows = steps.shows had.world had.shows;
        machine = leaves.machine ∙ sym (ap (λ (x : OwnSeen). Some x.machine) seen);
      };
    })

-- The list with x as its only element if `own` is true, and the empty list otherwise. A store is in the own list of the tenant
-- that stores, and in no other tenant's own list.
abbrev if_own : {A : Type 0} → Bool → A → List A
if_own own x = if own then x ∷ [] else []

store_seen : (order place : ℕ) (bytes : List ℕ) (m : Machine) (own : Bool)
    → own_seen cache_limit order (if_own own (Stored place bytes)) m
    ≡ record { sights = []; machine = (private_run cache_limit order (if_own own (Ask (Write place (record { items = bytes })))) m).machine }
unfolding private_step command_step
store_seen order place bytes m true = refl
store_seen order place bytes m false = refl

store_follows : (k k' : KernelContent) (named place : ℕ) (bytes : List ℕ) (t : ℕ) (m : Machine) → Has k t m → Acts k (StoresAt named place bytes) k'
    → Follows k.order t (own_in t (StoresAt named place bytes)) m [] k'
store_follows k k' named place bytes t m had did =
    let (is, steps) = stores_are_writes k k' named place bytes had.kernel did in
    let event : Event = Tenant named (Write place (record { items = bytes })) in
    let seen = store_seen k.order place bytes m (named == t) in
    record {
      sights = sym (ap (λ (x : OwnSeen). x.sights) seen);
      order = steps.sizes.order;
      has = record {
        kernel = is;
        world = (world_step cache_limit k.order event had.world).world;
        shows = steps.shows had.world had.shows;
        machine = (step_leaves cache_limit k.order t event had.world m had.machine).machine ∙ sym (ap (λ (x : OwnSeen). Some x.machine) seen);
      };
    }

load_seen : (order place byte : ℕ) (m : Machine) (own : Bool) → (own ≡ true → m.bytes place ≡ Some byte)
    → own_seen cache_limit order (if_own own (LoadedAt place)) m ≡ record { sights = if_own own (Loaded (Some byte)); machine = m }
load_seen order place byte m true is = ap (λ o. record { sights = Loaded o ∷ []; machine = m }) (is refl)
load_seen order place byte m false is = refl

load_follows : (k k' : KernelContent) (named place byte : ℕ) (t : ℕ) (m : Machine) → Has k t m → Acts k (LoadsAt named place byte) k'
    → Follows k.order t (own_in t (LoadsAt named place byte)) m (sights_in t (LoadsAt named place byte)) k'
load_follows k k' named place byte t m had did =
    let own : (named == t) ≡ true → m.bytes place ≡ Some byte = λ is.
    let here = ap (λ u. slice_get had.world.machines u) (eqb-true named t is) ∙ had.machine in
    loads_are_own k had.world m named place byte had.kernel had.shows here did.0 in
    let seen = load_seen k.order place byte m (named == t) own in
    subst (λ (x : KernelContent). Follows k.order t (own_in t (LoadsAt named place byte)) m (sights_in t (LoadsAt named place byte)) x) (sym did.1) (record {
      sights = sym (ap (λ (x : OwnSeen). x.sights) seen);
      order = refl;
      has = subst (λ (x : OwnSeen). Has k t x.machine) (sym seen) had;
    })

find_seen : (order : ℕ) (lookup : Lookup) (outcome : Outcome) (m : Machine) (own : Bool) → (own ≡ true → outcome ≡ answer_to order lookup m)
    → own_seen cache_limit order (if_own own (Sought lookup)) m ≡ record { sights = if_own own (Found outcome); machine = m }
find_seen order lookup outcome m true is = ap (λ o. record { sights = Found o ∷ []; machine = m }) (sym (is refl))
find_seen order lookup outcome m false is = refl

-- what a lookup of a tenant that exists finds in the machine that the kernel shows for the tenant
answer_is : (k : KernelContent) (t : ℕ) (lookup : Lookup) (outcome : Outcome) (m : Machine) → AnswersLookup k t lookup outcome → t < k.tenants → ShowsMachine k t m
    → outcome ≡ answer_to k.order lookup m
answer_is k t lookup outcome m (inl none) here shown = let past = none.0 in absurd (omega arith)
answer_is k t lookup outcome m (inr answers) here shown = answers.1 m shown

find_follows : (k k' : KernelContent) (named : ℕ) (lookup : Lookup) (outcome : Outcome) (t : ℕ) (m : Machine) → Has k t m → Acts k (Finds named lookup outcome) k'
    → Follows k.order t (own_in t (Finds named lookup outcome)) m (sights_in t (Finds named lookup outcome)) k'
find_follows k k' named lookup outcome t m had did =
    let here : t < k.tenants = omega (arith, slice_get_within had.world.machines t m had.machine, had.shows.tenants) in
    let own : (named == t) ≡ true → outcome ≡ answer_to k.order lookup m = λ is.
    answer_is k t lookup outcome m (subst (λ u. AnswersLookup k u lookup outcome) (eqb-true named t is) did.0) here (had.shows.machines t m had.machine) in
    let seen = find_seen k.order lookup outcome m (named == t) own in
    subst (λ (x : KernelContent). Follows k.order t (own_in t (Finds named lookup outcome)) m (sights_in t (Finds named lookup outcome)) x) (sym did.1) (record {
      sights = sym (ap (λ (x : OwnSeen). x.sights) seen);
      order = refl;
      has = subst (λ (x : OwnSeen). Has k t x.machine) (sym seen) had;
    })

follows : (k k' : KernelContent) (action : Action) (t : ℕ) (m : Machine) → Has k t m → Acts k action k'
    → Follows k.order t (own_in t action) m (sights_in t action) k'
follows k k' (Runs event reply) t m had did = run_follows k k' event reply t m had did.0 did.1
follows k k' (StoresAt named place bytes) t m had did = store_follows k k' named place bytes t m had did
follows k k' (LoadsAt named place byte) t m had did = load_follows k k' named place byte t m had did
follows k k' (Finds named lookup outcome) t m had did = find_follows k k' named lookup outcome t m had did

-- if `Follows` holds for `owns`, and for `owns'` from the machine after `owns`, it holds for the two lists joined
both : (order t : ℕ) (owns owns' : List Own) (m : Machine) (sights sights' : List Sight) (k' l' : KernelContent) → Follows order t owns m sights k'
    → Follows order t owns' (own_seen cache_limit order owns m).machine sights' l' → Follows order t (owns ++ owns') m (sights ++ sights') l'
both order t owns owns' m sights sights' k' l' one more =
    let seen = seen-append cache_limit order owns owns' m in
    record {
      sights = ap (λ xs. xs ++ sights') one.sights ∙ ap (λ xs. (own_seen cache_limit order owns m).sights ++ xs) more.sights
          ∙ sym (ap (λ (x : OwnSeen). x.sights) seen);
      order = more.order;
      has = subst (λ (x : OwnSeen). Has l' t x.machine) (sym seen) more.has;
    }

pub all_follow : (k k' : KernelContent) (actions : List Action) (t : ℕ) (m : Machine) → Has k t m → AllAct k actions k'
    → Follows k.order t (own_actions t actions) m (sights_of t actions) k'
all_follow k k' [] t m had did = subst (λ (x : KernelContent). Follows k.order t [] m [] x) (sym did) (record { sights = refl; order = refl; has = had })
all_follow k k' (action ∷ actions) t m had did =
    let one = follows k did.0 action t m had did.1 in
    let next = (own_seen cache_limit k.order (own_in t action) m).machine in
    both k.order t (own_in t action) (own_actions t actions) m (sights_in t action) (sights_of t actions) did.0 k' one
    (subst (λ order. Follows order t (own_actions t actions) next (sights_of t actions) k') one.order (all_follow did.0 k' actions t next one.has did.2))

-- a booted kernel shows the empty machine for each tenant
pub booted_has : (k : KernelContent) (superblocks tenants t : ℕ) → IsBooted k superblocks tenants → t < tenants → Has k t empty_machine
booted_has k superblocks tenants t booted here =
    record { kernel = booted.kernel; world = opening_world superblocks tenants; shows = booted.shows; machine = opening-machine superblocks tenants t here }

pub own_sights : OwnSights
own_sights k k' superblocks tenants t actions booted here did =
    let all = all_follow k k' actions t empty_machine (booted_has k superblocks tenants t booted here) did in
    (all.sights, all.has.shows.machines t _ all.has.machine)

pub same_sights : SameSights
same_sights k k' l l' superblocks tenants superblocks' tenants' t actions actions' booted booted' order here here' did did' own =
    (own_sights k k' superblocks tenants t actions booted here did).0
    ∙ ap (λ owns. (own_seen cache_limit k.order owns empty_machine).sights) own
    ∙ ap (λ n. (own_seen cache_limit n (own_actions t actions') empty_machine).sights) (sym order)
    ∙ sym (own_sights l l' superblocks' tenants' t actions' booted' here' did').0
