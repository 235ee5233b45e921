-- Two lists of events with the same locks leave the same world and get the same replies.
use Rattle.std.proofs.Common.{◌≡◌, ℕ, true, List, [], ◌∷◌, refl, ap, sym, ◌∙◌}
use Rattle.std.specs.Prelude.{filter}
use Rattle.words_core.specs.declared.event.Event.{Event}
use Rattle.words_core.specs.declared.event.Event.TheVariants as On
use Rattle.world_core.specs.World.{World, Exchange, world_step, world_after, history}
use Rattle.world_core.specs.Locks.{Lock, OfTenant, OfAdministrator, event_needs, ShareNoLock, HaveSameLocks}
use Rattle.world_core.specs.SideBySide.{exchange_needs, SameWorldInAnyOrder, SameRepliesInAnyOrder, BegunAsEnded}
use Rattle.world_core.proofs.OwnListRuns.{is_same}
use Rattle.world_core.proofs.AnyOrder.{after, all_seen, Swap, SameRun, same_run}
use Rattle.world_core.proofs.Commuting.{events_commute}
use Rattle.world_core.proofs.OverlappingCalls as overlapping

-- each event needs a lock
pub event_needs_one : (event : Event) → (l : Lock) × (event_needs l event ≡ true)
event_needs_one (On.Tenant t command) = (OfTenant t, is_same t)
event_needs_one (On.Admin command) = (OfAdministrator, refl)

module _ (limit order : ℕ) where
  abbrev step : Event → World → World
  step event w = (world_step limit order event w).world

  abbrev exchange : Event → World → Exchange
  exchange event w = record { event = event; reply = (world_step limit order event w).reply }

  pub world_after-steps : (events : List Event) (w : World) → world_after limit order w events ≡ after step events w
  world_after-steps [] w = refl
  world_after-steps (event ∷ events) w = world_after-steps events (step event w)

  history-exchanges : (events : List Event) (w : World) → history limit order w events ≡ all_seen step exchange events w
  history-exchanges [] w = refl
  history-exchanges (event ∷ events) w = ap (λ es. exchange event w ∷ es) (history-exchanges events (step event w))

  events_swap : (a b : Event) (w : World) → ShareNoLock event_needs a b → Swap step exchange a b w
  events_swap a b w apart =
      let both = events_commute limit order a b w apart in
      record {
        state = both.world;
        first = ap (λ reply. record { event = a; reply = reply }) both.first;
        second = ap (λ reply. record { event = b; reply = reply }) both.second;
      }

  runs_alike : (events events' : List Event) → HaveSameLocks event_needs events events' → (w : World)
      → SameRun exchange_needs step exchange events events' w
  runs_alike = same_run event_needs exchange_needs step exchange (λ l event w. refl) events_swap event_needs_one

pub same_world : SameWorldInAnyOrder
same_world limit order events events' w same =
    world_after-steps limit order events w ∙ (runs_alike limit order events events' same w).state ∙ sym (world_after-steps limit order events' w)

pub same_replies : SameRepliesInAnyOrder
same_replies limit order events events' w same l =
    ap (filter (exchange_needs l)) (history-exchanges limit order events w) ∙ (runs_alike limit order events events' same w).seen_alike l
    ∙ sym (ap (filter (exchange_needs l)) (history-exchanges limit order events' w))

pub begun_as_ended : BegunAsEnded
begun_as_ended marks hold = overlapping.begun_as_ended event_needs marks hold
