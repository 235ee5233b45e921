-- Instances of the laws of calls that run side by side. The calls of tenants 0 and 1 overlap, and a grant for tenant 1 overlaps a
-- `take` of tenant 0. Slots have 8 frames.
use Rattle.std.proofs.Common.{◌≡◌, ℕ, ◌≢◌, List, [], ◌∷◌, refl, sym, ◌∙◌, arith}
use Rattle.std.proofs.lemmas.Bool.{eqb-true}
use Rattle.words_core.specs.declared.event.AdminCommand.TheVariants as Do
use Rattle.words_core.specs.declared.event.Command.{Command}
use Rattle.words_core.specs.declared.event.Command.TheVariants as Ask
use Rattle.words_core.specs.declared.event.Event.{Event}
use Rattle.words_core.specs.declared.event.Event.TheVariants as On
use Rattle.words_core.specs.declared.reply.Addressee.TheVariants as To
use Rattle.words_core.specs.declared.reply.Body.TheVariants as Say
use Rattle.world_core.specs.World.{World, opening_world, world_step, world_after, history}
use Rattle.world_core.specs.Locks.{OfTenant, OfAdministrator, event_needs, ShareNoLock, HaveSameLocks, Mark, Begins, Ends, HoldLocks}
use Rattle.world_core.specs.SideBySide.{exchange_needs, EventsCommute, SameWorldInAnyOrder, SameRepliesInAnyOrder, BegunAsEnded}
use Rattle.world_core.proofs.ComputedTraces.{computed_world}
use Rattle.world_core.proofs.SideBySide.{begun_as_ended}

-- calls with two tenants share no lock
tenants_apart : (t u : ℕ) (a b : Command) → t ≢ u → ShareNoLock event_needs (On.Tenant t a) (On.Tenant u b)
tenants_apart t u a b other (OfTenant n) here there = other (eqb-true t n here ∙ sym (eqb-true u n there))
tenants_apart t u a b other OfAdministrator here there = cc

-- a grant and a command of another tenant share no lock
grant_apart : (t u : ℕ) (a : Command) → t ≢ u → ShareNoLock event_needs (On.Admin (Do.Grant t)) (On.Tenant u a)
grant_apart t u a other (OfTenant n) here there = other (eqb-true t n here ∙ sym (eqb-true u n there))
grant_apart t u a other OfAdministrator here there = cc

abbrev grant : ℕ → Event
grant t = On.Admin (Do.Grant t)

abbrev cache_0 : Event
cache_0 = On.Tenant 0 (Ask.Cache 64 8 (record { items = 0 ∷ [] }))

abbrev take_0 : Event
take_0 = On.Tenant 0 (Ask.Take 0)

abbrev alloc_1 : Event
alloc_1 = On.Tenant 1 (Ask.Alloc 0)

-- a world in which tenant 0 has a slot and a cache
abbrev made : World
made = world_after 32 3 (opening_world 3 2) (grant 0 ∷ cache_0 ∷ [])

-- after a grant to tenant 1, the `take` of tenant 0 gets the object that it would get before the grant
EventsCommute-met : EventsCommute → (world_step 32 3 take_0 (world_step 32 3 (grant 1) made).world).reply
    ≡ record { addressee = To.Tenant 0; body = Say.Object 0 }
unfolding computed_world
EventsCommute-met law = (law 32 3 (grant 1) take_0 made (grant_apart 1 0 _ (λ e. absurd (omega arith)))).second

-- making the cache overlaps a grant and a call of tenant 1; the `take` overlaps the same call of tenant 1, and then a grant to it
abbrev marks : List (Mark Event)
marks = Begins (grant 0) ∷ Ends (grant 0) ∷ Begins cache_0 ∷ Begins (grant 1) ∷ Ends (grant 1) ∷ Begins alloc_1 ∷ Ends cache_0
    ∷ Begins take_0 ∷ Ends alloc_1 ∷ Begins (grant 1) ∷ Ends (grant 1) ∷ Ends take_0 ∷ []

abbrev begun_order : List Event
begun_order = grant 0 ∷ cache_0 ∷ grant 1 ∷ alloc_1 ∷ take_0 ∷ grant 1 ∷ []

abbrev ended_order : List Event
ended_order = grant 0 ∷ grant 1 ∷ cache_0 ∷ alloc_1 ∷ grant 1 ∷ take_0 ∷ []

hold : HoldLocks event_needs [] marks
hold =
    let granted : ShareNoLock event_needs (grant 1) cache_0 = grant_apart 1 0 _ (λ e. absurd (omega arith)) in
    let granted_again : ShareNoLock event_needs (grant 1) take_0 = grant_apart 1 0 _ (λ e. absurd (omega arith)) in
    let cache_beside : ShareNoLock event_needs alloc_1 cache_0 = tenants_apart 1 0 _ _ (λ e. absurd (omega arith)) in
    let take_beside : ShareNoLock event_needs take_0 alloc_1 = tenants_apart 0 1 _ _ (λ e. absurd (omega arith)) in
    let from_take : HoldLocks event_needs (alloc_1 ∷ []) (Begins take_0 ∷ Ends alloc_1 ∷ Begins (grant 1) ∷ Ends (grant 1) ∷ Ends take_0 ∷ []) =
    ((take_beside, tt), (take_0 ∷ [], [], refl, ((granted_again, tt), ([], take_0 ∷ [], refl, ([], [], refl, refl))))) in
    (tt, ([], [], refl, (tt, ((granted, tt), ([], cache_0 ∷ [], refl, ((cache_beside, tt), (alloc_1 ∷ [], [], refl, from_take)))))))

BegunAsEnded-met : BegunAsEnded → HaveSameLocks event_needs begun_order ended_order
BegunAsEnded-met law = law marks hold

SameWorldInAnyOrder-met : SameWorldInAnyOrder → world_after 32 3 (opening_world 3 2) begun_order ≡ world_after 32 3 (opening_world 3 2) ended_order
SameWorldInAnyOrder-met law = law 32 3 begun_order ended_order (opening_world 3 2) (begun_as_ended marks hold)

SameRepliesInAnyOrder-met : SameRepliesInAnyOrder
    → HaveSameLocks exchange_needs (history 32 3 (opening_world 3 2) begun_order) (history 32 3 (opening_world 3 2) ended_order)
SameRepliesInAnyOrder-met law = law 32 3 begun_order ended_order (opening_world 3 2) (begun_as_ended marks hold)
