-- The replies for which memory can run out.
use Rattle.std.specs.Prelude.{◌≡◌, Bool, true, false, Ok}
use Rattle.words_core.specs.declared.reply.Body.{Body}
use Rattle.words_core.specs.declared.event.Event.{Event}
use Rattle.words_core.specs.declared.reply.Reply.{Reply}
use Rattle.promise_core.specs.State.{Known}
use Rattle.promise_core.specs.Promises.{allowed}
use Rattle.reply_judge.specs.KnownMachine.{SeenMachine, ShowsKnown}

-- a reply with this body adds something to the state: a slot, a page block, a cache or an object
abbrev pub is_addition : Body → Bool
is_addition (Body.Granted tenant slot superblock) = true
is_addition (Body.Frame frame) = true
is_addition (Body.Cache number chunk order objects colours) = true
is_addition (Body.Object place) = true
is_addition body = false

-- the reply adds something to the state, and what is known of the machine x allows it
pub record IsAllowedAddition (event : Event) (reply : Reply) (x : SeenMachine) : Type 0 where
  pub adds : is_addition reply.body ≡ true
  pub allowed : (w : Known) → ShowsKnown x w → (after : Known) × (allowed event reply w ≡ Ok after)
