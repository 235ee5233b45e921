-- The verdict on the reply to each line of a trace, how a check ends, what it shows, and when memory may run out. The reading of
-- a line is its event or its fault, or `Ok None` for a blank line or a comment.
use Rattle.std.specs.Prelude.{◌≡◌, ℕ, suc, ◌-◌, Bool, true, false, List, [], ◌∷◌, ◌++◌, length, Option, Some, None, Result, Ok, Err, OnErr, ◌⊎◌}
use Rattle.promise_core.specs.declared.promise.Promise.{Promise}
use Rattle.words_core.specs.declared.event.Event.{Event}
use Rattle.words_core.specs.declared.event.LineFault.{LineFault}
use Rattle.words_core.specs.declared.reply.Reply.{Reply}
use Rattle.promise_core.specs.Promises.{allowed}
use Rattle.promise_core.specs.State.{Known}
use Rattle.reply_judge.specs.Adding.{is_addition}
use Rattle.reply_judge.specs.KnownMachine.{SeenMachine, ShowsKnown, IsVerdict}
use Rattle.trace_check.specs.declared.finding.Breach.{Breach}
use Rattle.trace_check.specs.declared.finding.Finding.{Finding}
use Rattle.trace_check.specs.declared.finding.Unchecked.{Unchecked}
use Rattle.trace_check.specs.declared.gathered.Gathered.{Gathered}
use Rattle.trace_check.specs.declared.shown.Shown.{Shown}
use Rattle.trace_check.specs.declared.shown.TheConstants.{MAX_PART_BYTES, MAX_TEXT_BYTES}
use Rattle.trace_check.specs.Finding.{after_lines, finding_of, lines_at, lines_to, more_lines, reply_in, verdict_at}
use Rattle.trace_check.specs.Gathered.{Gathers}
use Rattle.trace_check.specs.Reading.{HasEnded, MayFollow, Source, readings_of}

-- the bytes `came` were gathered, and they are exactly `lines` whole lines
pub record HasGathered (lines : ℕ) (came : List ℕ) (text : Gathered MAX_TEXT_BYTES) : Type 0 where
  pub are : lines_at lines came ≡ Some (came, [])
  pub gathers : Gathers MAX_TEXT_BYTES came text

-- The verdict on the reply to a line with this reading, if `part` is what was read of the replies. The verdict does not depend on
-- the bytes after `part`. If the reply is allowed, its lines are `part`, the verdict is their number, and the machine shows what
-- is known after the reply. Otherwise the verdict is the first promise that the reply breaks, and the machine still shows what
-- was known before the reply.
abbrev pub IsLineVerdict : Result ℕ Promise → Result (Option Event) LineFault → List ℕ → Known → SeenMachine → Source → Type 0
IsLineVerdict (Ok lines) reading part w new replies = (lines ≡ lines_to reading w) × (lines_at lines part ≡ Some (part, []))
    × ((after : Known) × ShowsKnown new after × ((more : List ℕ) → verdict_at reading (part ++ more) w ≡ Ok after))
IsLineVerdict (Err promise) reading part w new replies =
    ((more : List ℕ) → MayFollow replies more → verdict_at reading (part ++ more) w ≡ Err promise) × ShowsKnown new w

-- The verdict on the text that was gathered as the reply to an event. It is None if this text is not a reply. If it is None or a
-- broken promise, the machine still shows what was known before.
abbrev pub IsTextVerdict : Option (Result (Unit {0}) Promise) → Event → Option Reply → Known → SeenMachine → Type 0
IsTextVerdict (Some verdict) event found w new = (reply : Reply) × (found ≡ Some reply)
    × IsVerdict verdict (allowed event reply w) new × OnErr verdict (ShowsKnown new w)
IsTextVerdict None event found w new = (found ≡ None) × ShowsKnown new w

-- the finding is `Kept` only if the trace and the replies have ended
abbrev pub IsKeptAtEnd : Finding → (trace replies : Source) → Type 0
IsKeptAtEnd (Finding.Kept lines) trace replies = HasEnded trace × HasEnded replies
IsKeptAtEnd (Finding.Broken breach) trace replies = Unit {0}

-- no line, or one line that has a reply
abbrev pub IsLineOrNone : List (Result (Option Event) LineFault) → Type 0
IsLineOrNone [] = Unit {0}
IsLineOrNone (Ok (Some event) ∷ []) = Unit {0}
IsLineOrNone (Err fault ∷ []) = Unit {0}
IsLineOrNone (Ok None ∷ []) = ⊥
IsLineOrNone (reading ∷ next ∷ readings) = ⊥

-- the replies at the front of these bytes, to lines with these readings, are allowed from the state `w` on, and `now` is what is
-- known after them
abbrev pub IsKnownAfter : List (Result (Option Event) LineFault) → List ℕ → (w now : Known) → Type 0
IsKnownAfter [] bytes w now = now ≡ w
IsKnownAfter (reading ∷ readings) bytes w now = (after : Known) × (verdict_at reading bytes w ≡ Ok after)
    × IsKnownAfter readings (after_lines (lines_to reading w) bytes) after now

-- What was read of the trace ends with the line of the breach, and what was read of the replies ends with its reply. The replies
-- before this reply are exactly the allowed replies to the lines before this line, and `now` is what is known after them. If the
-- reply is left over after the last line, `line` is empty.
pub record IsBreachAt (w now : Known) (breach : Breach) (trace_text reply_text line reply : List ℕ) : Type 0 where
  pub earlier : List ℕ
  pub answers : List ℕ
  pub trace_is : trace_text ≡ earlier ++ line
  pub reply_is : reply_text ≡ answers ++ reply
  pub kept : finding_of w earlier answers ≡ Finding.Kept (breach.line - length (readings_of line))
  pub whole : lines_at (breach.reply - 1) answers ≡ Some (answers, [])
  pub known : IsKnownAfter (readings_of earlier) answers w now
  pub one : IsLineOrNone (readings_of line)

-- `trace_text` was read as a line of the trace, and `reply_text` as its reply; both are shown as far as the buffers hold them
pub record HasRead (trace_text reply_text : List ℕ) (shown : Shown) : Type 0 where
  pub line : Gathers MAX_PART_BYTES trace_text shown.line
  pub reply : Gathers MAX_TEXT_BYTES reply_text shown.reply

-- if the finding is a breach, its line and its reply are shown, and the property `Also` holds of this breach, of this line, of
-- this reply, and of what is known after the earlier lines and their replies
abbrev pub ShowsFinding : Known → Finding → (trace_text reply_text : List ℕ) → Shown
    → (Also : Breach → List ℕ → List ℕ → Known → Type 0) → Type 0
ShowsFinding w (Finding.Kept lines) trace_text reply_text shown Also = Unit {0}
ShowsFinding w (Finding.Broken breach) trace_text reply_text shown Also = (line : List ℕ) × (reply : List ℕ) × (now : Known)
    × IsBreachAt w now breach trace_text reply_text line reply × HasRead line reply shown × Also breach line reply now

-- Why there is no finding: the reader of the trace failed (`unread` is true), the reader of the replies failed (`untold` is
-- true), or neither failed, but memory ran out, and `short` holds.
abbrev pub IsStoppedBy : Unchecked → (unread untold : Bool) → (short : Type 0) → Type 0
IsStoppedBy Unchecked.Trace unread untold short = (unread ≡ true) × (untold ≡ false)
IsStoppedBy Unchecked.Replies unread untold short = (unread ≡ false) × (untold ≡ true)
IsStoppedBy Unchecked.Memory unread untold short = (unread ≡ false) × (untold ≡ false) × short

-- how a call ended: it returned `Ok` and neither reader failed, or it returned an error whose cause is as `IsStoppedBy` says
abbrev pub IsEndedBy : {A : Type 0} → Result A Unchecked → (unread untold : Bool) → (short : Type 0) → Type 0
IsEndedBy (Ok done) unread untold short = (unread ≡ false) × (untold ≡ false)
IsEndedBy (Err why) unread untold short = IsStoppedBy why unread untold short

-- the reply to a line with this reading is allowed, and adds something to the state
abbrev pub AddsAt : Result (Option Event) LineFault → List ℕ → Known → Type 0
AddsAt (Ok (Some event)) bytes w = (reply : Reply) × (after : Known) × (reply_in (suc (more_lines event w)) bytes ≡ Some reply)
    × (allowed event reply w ≡ Ok after) × (is_addition reply.body ≡ true)
AddsAt (Ok None) bytes w = ⊥
AddsAt (Err fault) bytes w = ⊥

-- the reply to one of these lines adds something, and this reply and all earlier replies are allowed
abbrev pub ComesToAdd : List (Result (Option Event) LineFault) → List ℕ → Known → Type 0
ComesToAdd [] bytes w = ⊥
ComesToAdd (reading ∷ readings) bytes w = AddsAt reading bytes w
    ⊎ ((after : Known) × (verdict_at reading bytes w ≡ Ok after)
    × ComesToAdd readings (after_lines (lines_to reading w) bytes) after)
