-- For each law, an example that meets the premises of the law. The examples use a short run of events, and the machine of tenant
-- 0 after this run.
use Rattle.std.proofs.Common.{◌≡◌, List, [], ◌∷◌, Some, Ok, slice_get, refl, arith, map, length}
use Rattle.std.specs.Prelude.{codes}
use Rattle.std.specs.List.{AllByRecursion}
use Rattle.model_core.specs.Layouts.{layout_of}
use Rattle.model_core.specs.Machine.{Machine, empty_machine, taken_blocks, choice}
use Rattle.model_core.specs.Reach.{in_reach}
use Rattle.model_core.specs.Slabs.{fresh_byte, grown_cache, grown, slab_to_use, reaped, by_need}
use Rattle.model_core.specs.Operations.{alloc_step, write_step, next_slot, after_grant}
use Rattle.model_core.specs.CacheOperations.{next_number, create_step, cache_step, take_step, give_step}
use Rattle.model_core.specs.WellFormed.{IsWellFormed}
use Rattle.words_core.specs.declared.event.Event.{Event}
use Rattle.words_core.specs.declared.event.Event.TheVariants as On
use Rattle.words_core.specs.declared.event.AdminCommand.TheVariants as Do
use Rattle.words_core.specs.declared.event.Command.TheVariants as Command
use Rattle.words_core.specs.Cutting.{lines_of_trace}
use Rattle.world_core.specs.PrivateStep.{private_step, command_step, report_step, figures_of}
use Rattle.world_core.specs.PrivateRun.{private_run}
use Rattle.world_core.specs.World.{World, opening_world, world_step, world_after, grant_step, tenant_step, move_step, answer}
use Rattle.world_core.specs.OwnList.{own_list}
use Rattle.world_core.specs.Output.{events_of}
use Rattle.world_core.specs.Laws.{opening_history}
use Rattle.world_core.proofs.OwnListRuns.{own_run}
use Rattle.promise_core.specs.State.{State, opening}
use Rattle.promise_core.specs.Promises.{allowed}
use Rattle.promise_kept.specs.Meets.{Meets, IsPromiseKept}
use Rattle.promise_kept.specs.MeetsWorld.{IsKeptIn}
use Rattle.promise_kept.specs.Laws.{AllocIsKept, FreeIsKept, WriteIsKept, ReadIsKept, CacheIsKept, ReportIsKept}
use Rattle.promise_kept.specs.Laws.{TakeIsKept, GiveIsKept, DestroyIsKept, ReapIsKept}
use Rattle.promise_kept.specs.WorldLaws.{CanBeRequested, GrantIsKept, TakeBackIsKept, ResetIsKept, MoveIsKept, PoolIsKept, EventIsKept, StrangerChangesNothing, IsKeptRun, KeepsPromises, TraceKeepsPromises}
use Rattle.promise_kept.proofs.World.{beside}
use Rattle.promise_kept.proofs.WorldSteps.{keeps_promises, opening_meets}

-- There are four superblocks of 8 frames and two tenants. Both tenants get a slot, and the slot of tenant 1 is moved. Tenant 0
-- allocates a block, writes to it, makes a cache, takes two objects, gives one back and gets a report.

abbrev events : List Event
events = On.Admin (Do.Grant 0) ∷ On.Tenant 0 (Command.Alloc 1) ∷ On.Tenant 0 (Command.Write 4096 (record { items = 7 ∷ 8 ∷ [] }))
    ∷ On.Tenant 0 (Command.Cache 64 8 (record { items = 90 ∷ [] })) ∷ On.Tenant 0 (Command.Take 0) ∷ On.Tenant 0 (Command.Take 0)
    ∷ On.Tenant 0 (Command.Give 0 8192) ∷ On.Admin (Do.Grant 1) ∷ On.Admin (Do.Move 1 0) ∷ On.Tenant 0 Command.Report ∷ []

can_be_requested : AllByRecursion CanBeRequested events
can_be_requested = (tt, ((tt, tt), ((tt, tt), ((refl, tt), ((tt, tt), ((tt, tt), ((tt, tt), (tt, (tt, (tt, tt))))))))))

KeepsPromises-met : KeepsPromises → IsKeptRun 32 3 4 2 events
KeepsPromises-met law = law 32 3 4 2 events (omega arith) (omega arith) can_be_requested

TraceKeepsPromises-met : TraceKeepsPromises → IsKeptRun 32 3 2 2 (events_of (lines_of_trace (codes "admin grant 0\n0 cache 64 8 5a\n0 take 0\n0 read 0 4\n0 report\n")))
TraceKeepsPromises-met law = law 32 3 2 2 (codes "admin grant 0\n0 cache 64 8 5a\n0 take 0\n0 read 0 4\n0 report\n") (omega arith) (omega arith)

ran : IsKeptRun 32 3 4 2 events
ran = keeps_promises 32 3 4 2 events (omega arith) (omega arith) can_be_requested

abbrev then_world : World
then_world = world_after 32 3 (opening_world 4 2) events

GrantIsKept-met : GrantIsKept → IsKeptIn 32 3 (On.Admin (Do.Grant 1)) ran.after (world_step 32 3 (On.Admin (Do.Grant 1)) then_world)
GrantIsKept-met law = law 32 3 1 ran.after then_world ran.meets

TakeBackIsKept-met : TakeBackIsKept → IsKeptIn 32 3 (On.Admin (Do.TakeBack 1 0)) ran.after (world_step 32 3 (On.Admin (Do.TakeBack 1 0)) then_world)
TakeBackIsKept-met law = law 32 3 1 0 ran.after then_world ran.meets

ResetIsKept-met : ResetIsKept → IsKeptIn 32 3 (On.Admin (Do.Reset 0)) ran.after (world_step 32 3 (On.Admin (Do.Reset 0)) then_world)
ResetIsKept-met law = law 32 3 0 ran.after then_world ran.meets

MoveIsKept-met : MoveIsKept → IsKeptIn 32 3 (On.Admin (Do.Move 0 0)) ran.after (world_step 32 3 (On.Admin (Do.Move 0 0)) then_world)
MoveIsKept-met law = law 32 3 0 0 ran.after then_world ran.meets

PoolIsKept-met : PoolIsKept → IsKeptIn 32 3 (On.Admin Do.Pool) ran.after (world_step 32 3 (On.Admin Do.Pool) then_world)
PoolIsKept-met law = law 32 3 ran.after then_world ran.meets

EventIsKept-met : EventIsKept → IsKeptIn 32 3 (On.Tenant 0 (Command.Take 0)) ran.after (world_step 32 3 (On.Tenant 0 (Command.Take 0)) then_world)
EventIsKept-met law = law 32 3 (On.Tenant 0 (Command.Take 0)) (omega arith) (tt, tt) ran.after then_world ran.meets

StrangerChangesNothing-met : StrangerChangesNothing →
    (allowed (On.Tenant 2 Command.Reap) (world_step 32 3 (On.Tenant 2 Command.Reap) (opening_world 4 2)).reply (opening 32 3 4 2) ≡ Ok (opening 32 3 4 2))
    × ((world_step 32 3 (On.Tenant 2 Command.Reap) (opening_world 4 2)).world ≡ opening_world 4 2)
unfolding opening_world
StrangerChangesNothing-met law = law 32 3 2 (On.Tenant 2 Command.Reap) (opening 32 3 4 2) (opening_world 4 2) (opening_meets 32 3 4 2 (omega arith)) refl (omega arith)

-- The machine of tenant 0 after the run, and what is known of this machine

abbrev left : Machine
left = (private_run 32 3 (own_list 0 (opening_history 32 3 4 2 events)) empty_machine).machine

-- the machine has one page block, which begins at frame 0, and one cache, which has one slab
at_work : (map (λ b. b.first) left.blocks ≡ 0 ∷ []) × (map (λ c. length c.slabs) left.caches ≡ 1 ∷ [])
unfolding opening_history opening_world world_step grant_step tenant_step move_step answer command_step alloc_step write_step cache_step create_step next_number take_step give_step report_step figures_of grown_cache grown slab_to_use fresh_byte by_need reaped choice taken_blocks empty_machine next_slot after_grant layout_of private_step in_reach
at_work = (refl, refl)

is_left : slice_get then_world.machines 0 ≡ Some left
is_left = (own_run 32 3 4 2 0 events (omega arith)).machine

known_state : (s : State) × (slice_get ran.after.states 0 ≡ Some s)
known_state = beside ran.after.states then_world.machines 0 left ran.meets.tenants is_left

abbrev of_it : State
of_it = known_state.0

formed : IsWellFormed 32 3 left
formed = ran.meets.formed 0 left is_left

met : Meets 3 of_it left
met = ran.meets.meets 0 of_it left known_state.1 is_left

AllocIsKept-met : AllocIsKept → IsPromiseKept 32 3 (Command.Alloc 0) left of_it
AllocIsKept-met law = law 32 3 0 left of_it formed met

FreeIsKept-met : FreeIsKept → IsPromiseKept 32 3 (Command.Free 0) left of_it
FreeIsKept-met law = law 32 3 0 left of_it formed met

WriteIsKept-met : WriteIsKept → IsPromiseKept 32 3 (Command.Write 0 (record { items = 7 ∷ [] })) left of_it
WriteIsKept-met law = law 32 3 0 (record { items = 7 ∷ [] }) left of_it formed met

ReadIsKept-met : ReadIsKept → IsPromiseKept 32 3 (Command.Read 4096 2) left of_it
ReadIsKept-met law = law 32 3 4096 2 left of_it formed met

CacheIsKept-met : CacheIsKept → IsPromiseKept 32 3 (Command.Cache 64 8 (record { items = 0 ∷ [] })) left of_it
CacheIsKept-met law = law 32 3 64 8 (record { items = 0 ∷ [] }) left of_it formed met (omega arith)

ReportIsKept-met : ReportIsKept → IsPromiseKept 32 3 Command.Report left of_it
ReportIsKept-met law = law 32 3 left of_it formed met

TakeIsKept-met : TakeIsKept → IsPromiseKept 32 3 (Command.Take 0) left of_it
TakeIsKept-met law = law 32 3 0 left of_it formed met (omega arith)

GiveIsKept-met : GiveIsKept → IsPromiseKept 32 3 (Command.Give 0 8256) left of_it
GiveIsKept-met law = law 32 3 0 8256 left of_it formed met

DestroyIsKept-met : DestroyIsKept → IsPromiseKept 32 3 (Command.Destroy 0) left of_it
DestroyIsKept-met law = law 32 3 0 left of_it formed met

ReapIsKept-met : ReapIsKept → IsPromiseKept 32 3 Command.Reap left of_it
ReapIsKept-met law = law 32 3 left of_it formed met
