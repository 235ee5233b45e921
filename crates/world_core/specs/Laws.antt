-- Laws of whole runs. They speak of the definitions only, not of code.
use Rattle.std.specs.Prelude.{◌≡◌, ℕ, ◌^◌, ◌<◌, ◌≤◌, List, ◌++◌, length, Option, Some, None, Contains, slice_get}
use Rattle.model_core.specs.Machine.{Machine, empty_machine}
use Rattle.words_core.specs.declared.reply.Body.{Body}
use Rattle.words_core.specs.declared.event.Event.{Event}
use Rattle.words_core.specs.declared.reply.Refusal.{Refusal}
use Rattle.world_core.specs.PrivateStep.{Entry}
use Rattle.world_core.specs.PrivateRun.{private_run}
use Rattle.world_core.specs.World.{World, Exchange, opening_world, history, world_after}
use Rattle.world_core.specs.OwnList.{own_list, replies_to}
use Rattle.words_core.specs.Cutting.{lines_of_trace}
use Rattle.world_core.specs.Output.{shown_lines, output_of, events_of, lines_for, texts_for, line_feed, with_line_feeds, ended_lines}

-- the private run of these entries from machine `before` gives the replies `told` and ends in machine `after`
pub record IsPrivateRun (limit order : ℕ) (entries : List Entry) (before : Machine) (told : List Body)
    (after : Option Machine) : Type 0 where
  pub replies : told ≡ (private_run limit order entries before).replies
  pub machine : after ≡ Some (private_run limit order entries before).machine

-- the events with their replies, in the run of these events from the opening world
unfoldable pub opening_history : ℕ → ℕ → ℕ → ℕ → List Event → List Exchange
opening_history limit order superblocks tenants events = history limit order (opening_world superblocks tenants) events

-- in every run, a tenant has the replies and the machine of the private run of its own list
abbrev pub OwnRun : Type 0
OwnRun = (limit order superblocks tenants t : ℕ) (events : List Event) → t < tenants →
    IsPrivateRun limit order (own_list t (opening_history limit order superblocks tenants events)) empty_machine
    (replies_to t (opening_history limit order superblocks tenants events))
    (slice_get (world_after limit order (opening_world superblocks tenants) events).machines t)

-- tenant t has the same own list in two runs, whose worlds may differ in size
pub record HaveSameOwnList (limit order superblocks tenants superblocks' tenants' t : ℕ)
    (events events' : List Event) : Type 0 where
  pub tenant : t < tenants
  pub tenant' : t < tenants'
  pub own : own_list t (opening_history limit order superblocks tenants events)
      ≡ own_list t (opening_history limit order superblocks' tenants' events')

-- a tenant that has the same own list in two runs gets the same replies in both, whatever all others do
abbrev pub SameReplies : Type 0
SameReplies = (limit order superblocks tenants superblocks' tenants' t : ℕ) (events events' : List Event) →
    HaveSameOwnList limit order superblocks tenants superblocks' tenants' t events events' →
    replies_to t (opening_history limit order superblocks tenants events)
    ≡ replies_to t (opening_history limit order superblocks' tenants' events')

-- a tenant that has the same own list in two runs gets replies with the same text in both, byte for byte
abbrev pub SameTexts : Type 0
SameTexts = (limit order superblocks tenants superblocks' tenants' t : ℕ) (events events' : List Event) →
    HaveSameOwnList limit order superblocks tenants superblocks' tenants' t events events' →
    texts_for t (replies_to t (opening_history limit order superblocks tenants events))
    ≡ texts_for t (replies_to t (opening_history limit order superblocks' tenants' events'))

-- if a private run refuses no cache with `NoCacheSlot`, it has the same replies and machine under any greater limit on caches
abbrev pub MoreCaches : Type 0
MoreCaches = (limit more order : ℕ) (entries : List Entry) (m : Machine) → limit ≤ more
    → (Contains (private_run limit order entries m).replies (Body.Refused Refusal.NoCacheSlot) → ⊥)
    → private_run more order entries m ≡ private_run limit order entries m

-- the replies of tenant t's private machine to t's own list in a trace, as text
unfoldable pub private_lines : ℕ → ℕ → ℕ → ℕ → ℕ → List ℕ → List (List ℕ)
private_lines limit order superblocks tenants t trace =
    let own = own_list t (opening_history limit order superblocks tenants (events_of (lines_of_trace trace))) in
    texts_for t (private_run limit order own empty_machine).replies

-- In the output of any trace, the lines of a tenant are the lines of its private machine. With at most 2 ^ 64 tenants, different
-- numbers are printed differently, so a line of one tenant never counts as a line of another.
abbrev pub OwnLines : Type 0
OwnLines = (limit order superblocks tenants t : ℕ) (trace : List ℕ) → tenants ≤ 2 ^ 64 → t < tenants →
    lines_for t (output_of limit order trace (opening_world superblocks tenants))
    ≡ private_lines limit order superblocks tenants t trace

-- if a tenant has the same own list in two traces, the tenant gets the same lines in both outputs
abbrev pub SameLines : Type 0
SameLines = (limit order superblocks tenants superblocks' tenants' t : ℕ) (trace trace' : List ℕ) →
    tenants ≤ 2 ^ 64 → tenants' ≤ 2 ^ 64 →
    HaveSameOwnList limit order superblocks tenants superblocks' tenants' t
    (events_of (lines_of_trace trace)) (events_of (lines_of_trace trace')) →
    lines_for t (output_of limit order trace (opening_world superblocks tenants))
    ≡ lines_for t (output_of limit order trace' (opening_world superblocks' tenants'))

-- if no tenant is named, the whole output of a trace is shown
abbrev pub AllShown : Type 0
AllShown = (limit order : ℕ) (trace : List ℕ) (w : World) →
    shown_lines None limit order (lines_of_trace trace) w ≡ output_of limit order trace w

-- If only tenant t is shown, then in any world the shown bytes are exactly the lines of t in the trace's whole output, each
-- followed by an LF.
abbrev pub OwnShown : Type 0
OwnShown = (limit order t : ℕ) (trace : List ℕ) (w : World) → length w.machines ≤ 2 ^ 64 → t < length w.machines →
    shown_lines (Some t) limit order (lines_of_trace trace) w ≡ with_line_feeds (lines_for t (output_of limit order trace w))

-- if only tenant t is shown, the shown bytes, cut at their LFs, are the lines of t in the whole output
abbrev pub OwnLinesShown : Type 0
OwnLinesShown = (limit order t : ℕ) (trace : List ℕ) (w : World) → length w.machines ≤ 2 ^ 64 → t < length w.machines →
    lines_of_trace (shown_lines (Some t) limit order (lines_of_trace trace) w) ≡ lines_for t (output_of limit order trace w)

-- a trace consists of its lines that end in LF, followed by a tail without LF
abbrev pub EndedAllButTail : Type 0
EndedAllButTail = (given : List ℕ) →
    (tail : List ℕ) × (given ≡ with_line_feeds (ended_lines given) ++ tail) × (Contains tail line_feed → ⊥)

-- if more bytes are added to a trace, the lines that ended in LF are still its first lines
abbrev pub EndedLinesStay : Type 0
EndedLinesStay = (given more : List ℕ) → (rest : List (List ℕ)) × (lines_of_trace (given ++ more) ≡ ended_lines given ++ rest)

-- if more bytes are added to a trace, the text shown for it still begins with the text shown for the lines that ended in LF
abbrev pub ShownStays : Type 0
ShownStays = (only : Option ℕ) (limit order : ℕ) (given more : List ℕ) (w : World) →
    (rest : List ℕ) × (shown_lines only limit order (lines_of_trace (given ++ more)) w
    ≡ shown_lines only limit order (ended_lines given) w ++ rest)
