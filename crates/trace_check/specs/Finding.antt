-- The finding for a trace and its replies, as a function of their texts. The reading of a line is its event or its fault, or
-- `Ok None` for a blank line or a comment.
use Rattle.std.specs.Prelude.{ℕ, zero, suc, ◌+◌, ◌==◌, Bool, false, if◌then◌else◌, List, [], ◌∷◌, ◌++◌, length, slice_get, nat_le, nat_lt, find, Option, Some, None, Result, Ok, Err, unwrap_or}
use Rattle.std.specs.Option.{option_map_or}
use Rattle.std.specs.Result.{result_err}
use Rattle.std.specs.Str.{bytes_eq}
use Rattle.words_core.specs.declared.reply.Addressee.{Addressee}
use Rattle.words_core.specs.declared.event.AdminCommand.{AdminCommand}
use Rattle.words_core.specs.declared.reply.Body.{Body}
use Rattle.words_core.specs.declared.event.Command.{Command}
use Rattle.words_core.specs.declared.event.Event.{Event}
use Rattle.words_core.specs.declared.event.LineFault.{LineFault}
use Rattle.words_core.specs.declared.reply.Refusal.{Refusal}
use Rattle.words_core.specs.declared.reply.Reply.{Reply}
use Rattle.model_core.specs.declared.limits.TheConstants.{MAX_ORDER}
use Rattle.model_core.specs.Blocks.{Block, block}
use Rattle.model_core.specs.Operations.{overlaps}
use Rattle.promise_core.specs.declared.promise.Promise.{Promise}
use Rattle.words_core.specs.Texts.{text_of}
use Rattle.promise_core.specs.State.{Known}
use Rattle.promise_core.specs.Promises.{allowed}
use Rattle.trace_check.specs.Tables.{reply_of_text}
use Rattle.trace_check.specs.declared.finding.Finding.{Finding}
use Rattle.trace_check.specs.declared.shown.TheConstants.{MAX_TEXT_BYTES}
use Rattle.trace_check.specs.Forms.{◌>>=◌}
use Rattle.trace_check.specs.Gathered.{whole_of}
use Rattle.trace_check.specs.Reading.{readings_of}

-- the first line, with its LF (byte 10), and the bytes that follow it
abbrev pub line_at : List ℕ → Option (List ℕ × List ℕ)
line_at [] = None
line_at (b ∷ bytes) = if b == 10 then Some (b ∷ [], bytes) else (line_at bytes >>= (λ found. Some (b ∷ found.0, found.1)))

-- the first `k` lines, each with its LF, and the bytes that follow them
abbrev pub lines_at : ℕ → List ℕ → Option (List ℕ × List ℕ)
lines_at zero bytes = Some ([], bytes)
lines_at (suc k) bytes = do
  front ← lines_at k bytes
  last ← line_at front.1
  Some (front.0 ++ last.0, last.1)

-- the bytes that follow the first `k` lines, or no bytes if there are fewer than `k` lines
abbrev pub after_lines : ℕ → List ℕ → List ℕ
after_lines k bytes = option_map_or (λ found. found.1) (lines_at k bytes) []

-- the reply with this text; a reply has at most 257 lines of at most 256 bytes each
abbrev pub text_read : List ℕ → Option Reply
text_read text = whole_of MAX_TEXT_BYTES text >>= reply_of_text

-- the reply that the first `k` lines form
abbrev pub reply_in : ℕ → List ℕ → Option Reply
reply_in k bytes = lines_at k bytes >>= (λ found. text_read found.0)

-- The number of lines after the first in a reply that is not a refusal: a table of owners has one for each superblock, and a
-- report has one for each order and one for each cache of the tenant.
abbrev pub more_lines : Event → Known → ℕ
more_lines (Event.Admin AdminCommand.Pool) w = length w.owners
more_lines (Event.Tenant t Command.Report) w =
    if nat_lt t (length w.states) then 1 + w.order + option_map_or (λ s. length s.has.caches) (slice_get w.states t) 0 else 0
more_lines event w = 0

-- the refusal, with its addressee, if the body is a refusal
abbrev pub refusal_told : Addressee → Body → Option (Addressee × Refusal)
refusal_told who (Body.Refused refusal) = Some (who, refusal)
refusal_told who body = None

-- the refusal, with its addressee, if a reply was read and is a refusal
abbrev pub refusal_read : Option Reply → Option (Addressee × Refusal)
refusal_read found = found >>= (λ reply. refusal_told reply.addressee reply.body)

-- the promise that is broken if the lines do not form a reply; a refusal in the first line may break a promise other than Form
abbrev pub broken_by : Event → Option (Addressee × Refusal) → Known → Promise
broken_by event None w = Promise.Form
broken_by event (Some refused) w =
    unwrap_or (result_err (allowed event (record { addressee = refused.0; body = Body.Refused refused.1 }) w)) Promise.Form

-- the reply to a faulty line
abbrev pub fault_reply : LineFault → Reply
fault_reply fault = record { addressee = Addressee.Nobody; body = Body.Fault fault }

-- the first line is the reply to this fault
abbrev pub reports_fault : LineFault → List ℕ → Bool
reports_fault fault bytes = option_map_or (λ found. bytes_eq found.0 (text_of (fault_reply fault))) (lines_at 1 bytes) false

-- What is known after a line with this reading and the reply at the front of these bytes, or else the first promise that the
-- reply breaks. If the lines do not form a reply, the first line alone is judged.
abbrev pub verdict_at : Result (Option Event) LineFault → List ℕ → Known → Result Known Promise
verdict_at (Ok None) bytes w = Ok w
verdict_at (Err fault) bytes w = if reports_fault fault bytes then Ok w else Err Promise.Form
verdict_at (Ok (Some event)) bytes w = option_map_or (λ reply. allowed event reply w)
    (reply_in (suc (more_lines event w)) bytes) (Err (broken_by event (refusal_read (reply_in 1 bytes)) w))

-- the number of lines of the reply to a line with this reading
abbrev pub lines_to : Result (Option Event) LineFault → Known → ℕ
lines_to (Ok None) w = 0
lines_to (Err fault) w = 1
lines_to (Ok (Some event)) w = suc (more_lines event w)

-- if the result is a broken promise, the finding is `Broken` with these line numbers of the two texts; otherwise `more` gives the
-- finding from the state after the reply
abbrev pub or_broken : Result Known Promise → ℕ → ℕ → (Known → Finding) → Finding
or_broken (Ok after) line reply more = more after
or_broken (Err promise) line reply more = Finding.Broken (record { line = line; reply = reply; promise = promise })

-- The finding for lines with these readings and the bytes of their replies, after `line` lines of the trace and `reply` lines of
-- the replies. It is `Kept` if the reply to each line is allowed, and nothing follows the last reply.
abbrev pub finding : ℕ → ℕ → List (Result (Option Event) LineFault) → List ℕ → Known → Finding
finding line reply [] [] w = Finding.Kept line
finding line reply [] (_ ∷ _) w = Finding.Broken (record { line = line; reply = reply + 1; promise = Promise.Form })
finding line reply (reading ∷ readings) bytes w = or_broken (verdict_at reading bytes w) (line + 1) (reply + 1)
    (λ after. finding (line + 1) (reply + lines_to reading w) readings (after_lines (lines_to reading w) bytes) after)

-- the finding for the texts of a trace and of its replies
abbrev pub finding_of : Known → List ℕ → List ℕ → Finding
finding_of w trace replies = finding 0 0 (readings_of trace) replies w

-- the tenant's first live page block that shares a frame with the page block that the reply allocates, if there is one
abbrev pub page_in_way : Known → Event → Body → Option Block
page_in_way w (Event.Tenant t (Command.Alloc k)) (Body.Frame f) = if nat_le k MAX_ORDER
    then option_map_or (λ s. find (overlaps (block f k)) s.has.pages) (slice_get w.states t) None else None
page_in_way w event body = None
