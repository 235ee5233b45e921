-- The refusal that the reply to an event has to be.
use Rattle.std.specs.Prelude.{Option, Some, slice_get}
use Rattle.std.specs.Option.{option_map_or}
use Rattle.words_core.specs.declared.event.Event.{Event}
use Rattle.words_core.specs.declared.reply.Refusal.{Refusal}
use Rattle.promise_core.specs.Promises.{due, named}
use Rattle.promise_core.specs.State.{Known, opening_state}

-- the refusal that the reply to the event has to be, if there is one; it is `NoTenant` if the event names a tenant that does not
-- exist
unfoldable pub refusal_due : Known → Event → Option Refusal
refusal_due w event =
    option_map_or (due event w) (option_map_or (slice_get w.states) (named event) (Some opening_state)) (Some Refusal.NoTenant)
