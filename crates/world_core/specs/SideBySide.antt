-- Laws of calls that run side by side. They speak of the definitions only, not of code.
use Rattle.std.specs.Prelude.{◌≡◌, ℕ, Bool, List, []}
use Rattle.words_core.specs.declared.event.Event.{Event}
use Rattle.world_core.specs.World.{World, Exchange, world_step, world_after, history}
use Rattle.world_core.specs.Locks.{Lock, event_needs, ShareNoLock, HaveSameLocks, Mark, HoldLocks, begun, ended}

-- two events leave the same world in either order, and each has the same reply whether it comes first or second
pub record Commute (limit order : ℕ) (a b : Event) (w : World) : Type 0 where
  pub world : (world_step limit order b (world_step limit order a w).world).world
      ≡ (world_step limit order a (world_step limit order b w).world).world
  pub first : (world_step limit order a (world_step limit order b w).world).reply ≡ (world_step limit order a w).reply
  pub second : (world_step limit order b (world_step limit order a w).world).reply ≡ (world_step limit order b w).reply

-- events that share no lock commute, in every world
abbrev pub EventsCommute : Type 0
EventsCommute = (limit order : ℕ) (a b : Event) (w : World) → ShareNoLock event_needs a b → Commute limit order a b w

-- two lists of events with the same locks leave the same world ..
abbrev pub SameWorldInAnyOrder : Type 0
SameWorldInAnyOrder = (limit order : ℕ) (events events' : List Event) (w : World) → HaveSameLocks event_needs events events' →
    world_after limit order w events ≡ world_after limit order w events'

-- an exchange needs the locks of its event
abbrev pub exchange_needs : Lock → Exchange → Bool
exchange_needs l exchange = event_needs l exchange.event

-- .. and under each lock the same events get the same replies, in the same order.
abbrev pub SameRepliesInAnyOrder : Type 0
SameRepliesInAnyOrder = (limit order : ℕ) (events events' : List Event) (w : World) → HaveSameLocks event_needs events events' →
    HaveSameLocks exchange_needs (history limit order w events) (history limit order w events')

-- If each call holds its locks from its beginning to its end, the order in which the calls begin and the order in which they end
-- are two lists with the same locks.
abbrev pub BegunAsEnded : Type 0
BegunAsEnded = (marks : List (Mark Event)) → HoldLocks event_needs [] marks → HaveSameLocks event_needs (begun marks) (ended marks)
