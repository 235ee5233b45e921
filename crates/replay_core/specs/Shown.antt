-- The text of a shown reply is pushed into the drain, and its bytes are counted.
use Rattle.std.specs.Prelude.{◌≡◌, ℕ, ◌+◌, ◌≤◌, Bool, List, Option, Result}
use Rattle.streams.specs.declared.feed.Stopped.{Stopped}
use Rattle.replay_core.specs.declared.replies.Replies.{Replies}
use Rattle.replay_core.specs.Pushes.{most_reply_bytes, HasPushed}

-- this text, which is at most one reply, was pushed; `failing` is true if the drain failed
pub record HasShown (old new : Option (List ℕ)) (failing : Bool) (text : List ℕ) (replies replies' : Replies)
    (result : Result (Unit {0}) Stopped) : Type 0 where
  pub pushed : HasPushed old new failing text replies.written replies'.written result
  pub few : replies'.written ≤ replies.written + most_reply_bytes
  pub same : replies'.only ≡ replies.only
