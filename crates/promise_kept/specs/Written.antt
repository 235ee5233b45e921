-- What it means that a written text keeps the promises.
use Rattle.std.specs.Prelude.{◌≡◌, ℕ, List, [], ◌∷◌, ◌++◌, map, Option, Some, None, Result, Ok, Err}
use Rattle.words_core.specs.declared.reply.Addressee.{Addressee}
use Rattle.words_core.specs.declared.reply.Body.{Body}
use Rattle.words_core.specs.declared.event.Event.{Event}
use Rattle.words_core.specs.declared.event.LineFault.{LineFault}
use Rattle.world_core.specs.World.{Exchange}
use Rattle.world_core.specs.Output.{events_of, shown_text}
use Rattle.words_core.specs.Grammar.{reading_of}
use Rattle.promise_core.specs.State.{Known, opening}
use Rattle.promise_core.specs.Promises.{all_allowed}

-- The text for lines with these readings. The exchanges are the events of the lines with their replies. A line with an event
-- shows the reply to the event. A faulty line shows its fault, which is addressed to nobody. A blank line or a comment shows
-- nothing. If `only` is a tenant, only that tenant's replies are shown.
abbrev pub text_of_replies : Option ℕ → List (Result (Option Event) LineFault) → List Exchange → List ℕ
text_of_replies only [] exchanges = []
text_of_replies only (Ok None ∷ readings) exchanges = text_of_replies only readings exchanges
text_of_replies only (Err fault ∷ readings) exchanges =
    shown_text only (record { addressee = Addressee.Nobody; body = Body.Fault fault }) ++ text_of_replies only readings exchanges
text_of_replies only (Ok (Some event) ∷ readings) [] = []
text_of_replies only (Ok (Some event) ∷ readings) (e ∷ es) = shown_text only e.reply ++ text_of_replies only readings es

-- The text is `text_of_replies` of the lines, with some replies to their events. In a run from the opening state, each of these
-- replies is allowed, even if it is not shown. A tenant may have `limit` caches, and slots have 2 ^ order frames.
pub record IsAllowedText (only : Option ℕ) (limit order superblocks tenants : ℕ) (lines : List (List ℕ)) (text : List ℕ) : Type 0 where
  pub exchanges : List Exchange
  pub events : map (λ e. e.event) exchanges ≡ events_of lines
  pub replies : text ≡ text_of_replies only (map reading_of lines) exchanges
  pub after : Known
  pub are_allowed : all_allowed exchanges (Ok (opening limit order superblocks tenants)) ≡ Ok after
