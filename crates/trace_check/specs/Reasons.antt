-- Why a reply breaks a promise, by what is known before the reply. For some promises, and for some replies, no reason is worked
-- out.
use Rattle.std.specs.Prelude.{◌≡◌, ◌==◌, ℕ, nat_le, if◌then◌else◌, List, length, Option, Some, None, Result, Ok, Err, MatchOption, filter, find, is_some, option_map, slice_get, true}
use Rattle.std.specs.Option.{option_map_or, option_or}
use Rattle.model_core.specs.Blocks.{Block, block}
use Rattle.model_core.specs.declared.limits.TheConstants.{MAX_ORDER}
use Rattle.model_core.specs.declared.owner.Owner.{Owner}
use Rattle.words_core.specs.declared.event.AdminCommand.{AdminCommand}
use Rattle.words_core.specs.declared.reply.Body.{Body}
use Rattle.words_core.specs.declared.event.Command.{Command}
use Rattle.words_core.specs.declared.event.Event.{Event}
use Rattle.words_core.specs.declared.event.LineFault.{LineFault}
use Rattle.words_core.specs.declared.reply.Reply.{Reply}
use Rattle.words_core.specs.declared.report.Report.{Report}
use Rattle.words_core.specs.Grammar.{reading_of}
use Rattle.promise_core.specs.declared.promise.Promise.{Promise}
use Rattle.promise_core.specs.State.{Known}
use Rattle.reply_judge.specs.Due.{refusal_due}
use Rattle.reply_judge.specs.Emptied.{frames_due, frames_told}
use Rattle.reply_judge.specs.Faults.{block_fault, object_fault}
use Rattle.reply_judge.specs.Idle.{idle_slot}
use Rattle.reply_judge.specs.Repeated.{figure_changed}
use Rattle.reply_judge.specs.Vacancy.{left_for_block, left_for_object}
use Rattle.reply_judge.specs.WrongBytes.{wrong_byte}
use Rattle.reply_judge.specs.WrongOwners.{wrong_owner}
use Rattle.reply_judge.specs.WrongReports.{figure_wrong}
use Rattle.reply_judge.specs.declared.vacancy.Vacancy.{Vacancy}
use Rattle.trace_check.specs.Forms.{◌>>=◌}
use Rattle.trace_check.specs.Gathered.{whole_of}
use Rattle.trace_check.specs.Kinds.{kind_of_admin, kind_of_command}
use Rattle.trace_check.specs.NewCache.{layout_wrong, number_wrong}
use Rattle.trace_check.specs.Owners.{grant_wrong, move_wrong, not_due, reset_wrong}
use Rattle.trace_check.specs.Reading.{without_line_feed}
use Rattle.trace_check.specs.Replies.{answer_of}
use Rattle.trace_check.specs.Tables.{table_of}
use Rattle.trace_check.specs.Taken.{IsInWay}
use Rattle.reply_judge.specs.declared.bound.Bound.{Bound}
use Rattle.trace_check.specs.declared.figure.Figure.{Figure}
use Rattle.trace_check.specs.declared.reason.Reason.{Reason}
use Rattle.trace_check.specs.declared.shown.TheConstants.{MAX_TEXT_BYTES}
use Rattle.trace_check.specs.declared.taken.TakenFrame.{TakenFrame}

-- the event of a line, if it has one
abbrev pub event_read : Result (Option Event) LineFault → Option Event
event_read (Ok event) = event
event_read (Err fault) = None

-- the reply, if this text was read as a reply of one line
abbrev pub answer_read : List ℕ → Option Reply
answer_read text = whole_of MAX_TEXT_BYTES text >>= answer_of

-- the report or the table of owners, if this text was read as one
abbrev pub table_read : List ℕ → Option Reply
table_read text = whole_of MAX_TEXT_BYTES text >>= table_of

-- what keeps the reply's page block from being allocated, if it shares no frame with a page block
abbrev pub unfit_block : Known → Event → Body → Option Reason
unfit_block w (Event.Tenant t (Command.Alloc k)) (Body.Frame f) = if nat_le k MAX_ORDER
    then option_map_or (λ s. option_map (λ fault. Reason.Unfit (block f k) fault) (block_fault w.order s.has (block f k))) (slice_get w.states t) None
    else None
unfit_block w event body = None

-- the reason why the reply's page block may not be allocated: the live page block in the way, or else what `unfit_block` says
pub record IsBlockReason (w : Known) (event : Event) (body : Body) (reason : Option Reason) : Type 0 where
  pub taken : Option TakenFrame
  pub in_way : IsInWay w event body taken
  pub is : reason ≡ option_map_or (λ found. Some (Reason.Taken found)) taken (unfit_block w event body)

-- the live page block that the event frees, if there is one
abbrev pub page_freed : Known → Event → Option Block
page_freed w (Event.Tenant t (Command.Free f)) =
    option_map_or (λ s. find (λ b. b.first == f) s.has.pages) (slice_get w.states t) None
page_freed w event = None

-- why a tenant may not get superblock m, which has this owner
abbrev pub not_gained : ℕ → Option (Option Owner) → Option Reason
not_gained m None = Some (Reason.Missing m)
not_gained m (Some None) = None
not_gained m (Some (Some owner)) = Some (Reason.Owned m owner)

-- why a tenant may not lose superblock m, which has this owner
abbrev pub not_lost : ℕ → Option (Option Owner) → Option Reason
not_lost m None = Some (Reason.Missing m)
not_lost m (Some None) = Some (Reason.Unowned m)
not_lost m (Some (Some owner)) = Some (Reason.Owned m owner)

-- the owner of the first superblock whose owner in the table is wrong
abbrev pub owner_wrong : Known → List (Option Owner) → Option Reason
owner_wrong w table = option_map_or (λ m. not_lost m (slice_get w.owners m)) (wrong_owner w.owners table) None

-- what is wrong with the table of owners: it has too few or too many rows, or else a superblock has another owner
abbrev pub pool_wrong : Known → List (Option Owner) → Option Reason
pool_wrong w table = option_or (not_due Figure.Superblocks (length w.owners) (length table)) (owner_wrong w table)

-- the owner of the superblock that the reply reports, if a tenant may not get it or lose it
abbrev pub owner_in_way : Known → Event → Body → Option Reason
owner_in_way w (Event.Admin (AdminCommand.Grant t)) (Body.Granted named u m) = not_gained m (slice_get w.owners m)
owner_in_way w (Event.Admin (AdminCommand.Move t u)) (Body.Moved named slot m) = not_gained m (slice_get w.owners m)
owner_in_way w (Event.Admin (AdminCommand.TakeBack t u)) (Body.TakenBack m) = not_lost m (slice_get w.owners m)
owner_in_way w event body = None

-- what is wrong with these bytes, which a read of tenant t returned: how many bytes the read requests, if they are not as many, or
-- else the first wrong byte
abbrev pub read_wrong : Known → (t place len : ℕ) → List ℕ → Option Reason
read_wrong w t place len bytes = if length bytes == len
    then option_map_or (λ s. option_map (λ wrong. Reason.Wrong wrong) (wrong_byte s.has s.cells place len bytes)) (slice_get w.states t) None
    else Some (Reason.Count len)

-- what is wrong with the bytes of the reply; the reply to a write has to report how many bytes the command has
abbrev pub bytes_wrong : Known → Event → Body → Option Reason
bytes_wrong w (Event.Tenant t (Command.Read place len)) (Body.Bytes read) = read_wrong w t place len read.items
bytes_wrong w (Event.Tenant t (Command.Write place new)) (Body.Written n) = Some (Reason.Count (length new.items))
bytes_wrong w event body = None

-- what keeps the reply's object from being taken
abbrev pub unfit_object : Known → Event → Body → Option Reason
unfit_object w (Event.Tenant t (Command.Take number)) (Body.Object place) =
    option_map_or (λ s. option_map (λ fault. Reason.Object place fault) (object_fault w.order s.has number place)) (slice_get w.states t) None
unfit_object w event body = None

-- what is left for the event, so that it may not be refused for lack of frames
abbrev pub left_for : Known → Event → Option Vacancy
left_for w (Event.Tenant t (Command.Alloc k)) =
    if nat_le k MAX_ORDER then option_map_or (λ s. left_for_block w.order s.has k) (slice_get w.states t) None else None
left_for w (Event.Tenant t (Command.Take number)) = option_map_or (λ s. left_for_object w.order s.has number) (slice_get w.states t) None
left_for w event = None

-- why slot u of tenant t cannot be busy
abbrev pub slot_idle : Known → (t u : ℕ) → Option Reason
slot_idle w t u = option_map_or (λ s. option_map (λ slot. Reason.Idle slot) (idle_slot w.order s u)) (slice_get w.states t) None

-- why the event may not be refused because a slot is busy
abbrev pub not_busy : Known → Event → Option Reason
not_busy w (Event.Admin (AdminCommand.TakeBack t u)) = slot_idle w t u
not_busy w event = Some Reason.NotTakeBack

-- what is wrong with the number or the layout of the reply's new cache
abbrev pub new_cache_wrong : Known → Event → Body → Option Reason
new_cache_wrong w (Event.Tenant t (Command.Cache size align pattern)) (Body.Cache number chunk q n colours) =
    option_or (number_wrong w t number) (layout_wrong w.order size align chunk q n colours)
new_cache_wrong w event body = None

-- what the number of frames from empty slabs of the cache `only` of tenant t, or of all its caches if `only` is None, has to be, if
-- it may not be `frames`
abbrev pub frames_wrong : Known → (t : ℕ) → (only : Option ℕ) → (frames : ℕ) → Option Reason
frames_wrong w t only frames = option_map_or (λ s. option_map (λ bound. Reason.Figure Figure.Frames bound)
    (frames_due w.order s (filter (λ c. option_map_or (λ number. c.number == number) only true) s.has.caches) frames)) (slice_get w.states t) None

-- what the number of frames in the reply to a destroy or a reap has to be
abbrev pub frames_given : Known → Event → Body → Option Reason
frames_given w (Event.Tenant t (Command.Destroy number)) (Body.Destroyed frames) = frames_wrong w t (Some number) frames
frames_given w (Event.Tenant t Command.Reap) (Body.Reaped frames) = frames_wrong w t None frames
frames_given w event body = None

-- how many frames the last report counts in empty slabs of the cache `only` of tenant t, or of all its caches if `only` is None
abbrev pub still_wrong : Known → (t : ℕ) → (only : Option ℕ) → Option Reason
still_wrong w t only = option_map_or (λ s. option_map (λ frames. Reason.Figure Figure.Frames (Bound.Exactly frames)) (frames_told s only))
    (slice_get w.states t) None

-- how many frames the reply to a destroy or a reap has to report after the last report
abbrev pub frames_still : Known → Event → Body → Option Reason
frames_still w (Event.Tenant t (Command.Destroy number)) (Body.Destroyed frames) = still_wrong w t (Some number)
frames_still w (Event.Tenant t Command.Reap) (Body.Reaped frames) = still_wrong w t None
frames_still w event body = None

-- which number of the reply to a grant, a move or a reset is wrong, if the superblock is not
abbrev pub change_wrong : Known → Event → Body → Option Reason
change_wrong w (Event.Admin (AdminCommand.Grant t)) (Body.Granted named u m) = grant_wrong w t named u
change_wrong w (Event.Admin (AdminCommand.Move t u)) (Body.Moved named slot m) = move_wrong t u named slot
change_wrong w (Event.Admin (AdminCommand.Reset t)) (Body.WasReset named superblocks) = reset_wrong w t named superblocks
change_wrong w event body = None

-- the reason why a reply of one line breaks this promise; for Gives it is the page block that is freed, if the event is a free, and
-- for Owners the owner of the superblock first
abbrev pub IsReasonOf : Promise → Known → Event → Body → Option Reason → Type 0
IsReasonOf Promise.Blocks w event body reason = IsBlockReason w event body reason
IsReasonOf Promise.Gives w event body reason =
    reason ≡ option_or (option_map (λ page. Reason.Freed page) (page_freed w event)) (frames_given w event body)
IsReasonOf Promise.Owners w event body reason = reason ≡ option_or (owner_in_way w event body) (change_wrong w event body)
IsReasonOf Promise.Bytes w event body reason = reason ≡ bytes_wrong w event body
IsReasonOf Promise.Objects w event body reason = reason ≡ unfit_object w event body
IsReasonOf Promise.Room w event body reason = reason ≡ option_map (λ vacancy. Reason.Left vacancy) (left_for w event)
IsReasonOf Promise.Busy w event body reason = reason ≡ not_busy w event
IsReasonOf Promise.Layout w event body reason = reason ≡ new_cache_wrong w event body
IsReasonOf Promise.Still w event body reason = reason ≡ frames_still w event body
IsReasonOf promise w event body reason = reason ≡ None

-- the first number of the report of tenant t that is wrong
abbrev pub report_wrong : Known → (t : ℕ) → Report → Option Reason
report_wrong w t report = option_map_or (λ s. option_map (λ wrong. Reason.Report wrong) (figure_wrong w.order s.may_have_empty s.has report)) (slice_get w.states t) None

-- the first number of the last report of tenant t that the report has to repeat, and does not
abbrev pub report_changed : Known → (t : ℕ) → Report → Option Reason
report_changed w t report = option_map_or (λ s. option_map (λ wrong. Reason.Report wrong) (figure_changed s report)) (slice_get w.states t) None

-- the reason why a report or a table of owners breaks this promise
abbrev pub table_wrong : Promise → Known → Event → Body → Option Reason
table_wrong Promise.Owners w (Event.Admin AdminCommand.Pool) (Body.Owners table) = pool_wrong w table.items
table_wrong Promise.Report w (Event.Tenant t Command.Report) (Body.Report report) = report_wrong w t report
table_wrong Promise.Still w (Event.Tenant t Command.Report) (Body.Report report) = report_changed w t report
table_wrong promise w event body = None

-- The reason why the reply breaks a promise other than Form and Refusals. `answer` is None if the reply is not a reply of one line,
-- and `table` is None if it is neither a report nor a table of owners.
abbrev pub IsReasonIn : Promise → Known → Event → (answer table : Option Reply) → Option Reason → Type 0
IsReasonIn promise w event answer table reason =
    MatchOption answer (reason ≡ option_map_or (λ told. table_wrong promise w event told.body) table None) (λ told. IsReasonOf promise w event told.body reason)

-- whom the reply to an event has to go to, and the kind of answer that the event has; a tenant that does not exist gets no answer
abbrev pub form_due : Known → Event → Reason
form_due w (Event.Tenant t command) = if is_some (slice_get w.states t) then Reason.ToTenant t (kind_of_command command) else Reason.ToNobody
form_due w (Event.Admin command) = Reason.ToAdmin (kind_of_admin command)

-- The reason why the reply breaks this promise: for Form the replies that are due, and for Refusals the refusal that was due.
abbrev pub IsReason : Promise → Known → Event → (answer table : Option Reply) → Option Reason → Type 0
IsReason Promise.Form w event answer table reason = reason ≡ Some (form_due w event)
IsReason Promise.Refusals w event answer table reason = reason ≡ Some (Reason.Due (refusal_due w event))
IsReason promise w event answer table reason = IsReasonIn promise w event answer table reason

-- If the line was read as an event, and `w` is what is known before the reply, the reason for the breach of this promise is
-- noted. Otherwise the note is unchanged.
abbrev pub IsNoted : Promise → (trace_text reply_text : List ℕ) → Known → (old new : Option Reason) → Type 0
IsNoted promise trace_text reply_text w old new = MatchOption (event_read (reading_of (without_line_feed trace_text))) (new ≡ old)
    (λ event. IsReason promise w event (answer_read reply_text) (table_read reply_text) new)
