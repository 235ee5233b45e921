-- Events and their replies as numbers.
use Rattle.std.specs.Prelude.{◌≡◌, ℕ, ◌+◌, ◌==◌, nat_lt, nat_le, Bool, not, ◌&&◌, ◌||◌, List, [], ◌++◌, length, drop, if◌then◌else◌, Option, Some, None, is_some, is_none, option_map}
use Rattle.arrayvec.specs.ArrayVec.{ArrayVec}
use Rattle.words_core.specs.declared.event.AdminCommand.{AdminCommand}
use Rattle.words_core.specs.declared.reply.Body.{Body}
use Rattle.words_core.specs.declared.event.Command.{Command}
use Rattle.words_core.specs.declared.event.Event.{Event}
use Rattle.words_core.specs.declared.reply.Reply.{Reply}
use Rattle.model_core.specs.declared.limits.TheConstants.{MAX_BYTES, MAX_PATTERN}
use Rattle.words_core.specs.Texts.{number_of_refusal}
use Rattle.kernel_core.specs.Content.{KernelContent}
use Rattle.kernel_core.specs.Steps.{Steps}
use Rattle.partmem_c.specs.declared.status.TheConstants.{DONE, NO_MACHINE, NOT_AN_EVENT, BUFFER_TOO_SMALL}
use Rattle.partmem_c.specs.declared.events.TheConstants as request
use Rattle.partmem_c.specs.declared.kinds.TheConstants as kind
use Rattle.partmem_c.specs.declared.events.RequestNumbers.{RequestNumbers}
use Rattle.partmem_c.specs.declared.telling.ReplyNumbers.{ReplyNumbers}

-- these bytes if there are 1 to `most` of them, otherwise None
abbrev pub some_bytes : ℕ → List ℕ → Option (ArrayVec ℕ)
some_bytes most bytes =
    if nat_le 1 (length bytes) && nat_le (length bytes) most then Some (record { items = bytes }) else None

-- the administrator's command with these numbers, or None if there is no such command
abbrev pub admin_command_of : RequestNumbers → Option AdminCommand
admin_command_of a =
    if a.kind == request.GRANT then Some (AdminCommand.Grant a.tenant)
    else (if a.kind == request.TAKE_BACK then Some (AdminCommand.TakeBack a.tenant a.first)
    else (if a.kind == request.RESET then Some (AdminCommand.Reset a.tenant)
    else (if a.kind == request.MOVE then Some (AdminCommand.Move a.tenant a.first)
    else (if a.kind == request.POOL then Some AdminCommand.Pool
    else None))))

-- the tenant's command with these numbers and bytes, or None if there is no such command
abbrev pub requested_command : RequestNumbers → List ℕ → Option Command
requested_command a bytes =
    if a.kind == request.ALLOC then Some (Command.Alloc a.first)
    else (if a.kind == request.FREE then Some (Command.Free a.first)
    else (if a.kind == request.READ then Some (Command.Read a.first a.second)
    else (if a.kind == request.WRITE then option_map (Command.Write a.first) (some_bytes MAX_BYTES bytes)
    else (if a.kind == request.CACHE then option_map (Command.Cache a.first a.second) (some_bytes MAX_PATTERN bytes)
    else (if a.kind == request.DESTROY then Some (Command.Destroy a.first)
    else (if a.kind == request.TAKE then Some (Command.Take a.first)
    else (if a.kind == request.GIVE then Some (Command.Give a.first a.second)
    else (if a.kind == request.REAP then Some Command.Reap
    else (if a.kind == request.REPORT then Some Command.Report
    else None)))))))))

-- whether this is a kind of tenant's command, other than a report, that neither uses nor returns bytes
abbrev pub is_plain : ℕ → Bool
is_plain kind =
    kind == request.ALLOC || (kind == request.FREE || (kind == request.TAKE || (kind == request.GIVE
    || (kind == request.DESTROY || kind == request.REAP))))

-- the event with these numbers and bytes, or None if they are not an event
abbrev pub requested_event : RequestNumbers → List ℕ → Option Event
requested_event a bytes =
    if nat_le a.kind request.POOL then option_map Event.Admin (admin_command_of a)
    else option_map (Event.Tenant a.tenant) (requested_command a bytes)

abbrev pub reply_numbers : ℕ → ℕ → ℕ → ℕ → ℕ → ℕ → ReplyNumbers
reply_numbers of a b c d e = record { kind = of; first = a; second = b; third = c; fourth = d; fifth = e }

-- 1 plus the order of the greatest free block, or 0 if no block is free
abbrev pub top_number : Option ℕ → ℕ
top_number None = 0
top_number (Some order) = order + 1

-- A reply as numbers. A report becomes its figures without its rows. The table of owners becomes the number of superblocks.
abbrev pub numbers_of_body : Body → ReplyNumbers
numbers_of_body (Body.Granted tenant slot superblock) = reply_numbers kind.GRANTED tenant slot superblock 0 0
numbers_of_body (Body.TakenBack superblock) = reply_numbers kind.TAKEN_BACK superblock 0 0 0 0
numbers_of_body (Body.WasReset tenant superblocks) = reply_numbers kind.WAS_RESET tenant superblocks 0 0 0
numbers_of_body (Body.Moved tenant slot superblock) = reply_numbers kind.MOVED tenant slot superblock 0 0
numbers_of_body (Body.Owners owners) = reply_numbers kind.OWNERS (length owners.items) 0 0 0 0
numbers_of_body (Body.Frame frame) = reply_numbers kind.FRAME frame 0 0 0 0
numbers_of_body (Body.Freed order) = reply_numbers kind.FREED order 0 0 0 0
numbers_of_body (Body.Bytes bytes) = reply_numbers kind.BYTES (length bytes.items) 0 0 0 0
numbers_of_body (Body.Written count) = reply_numbers kind.WRITTEN count 0 0 0 0
numbers_of_body (Body.Cache cache chunk order objects colours) = reply_numbers kind.MADE cache chunk order objects colours
numbers_of_body (Body.Destroyed frames) = reply_numbers kind.DESTROYED frames 0 0 0 0
numbers_of_body (Body.Object place) = reply_numbers kind.OBJECT place 0 0 0 0
numbers_of_body Body.Given = reply_numbers kind.GIVEN 0 0 0 0 0
numbers_of_body (Body.Reaped frames) = reply_numbers kind.REAPED frames 0 0 0 0
numbers_of_body (Body.Report report) =
    reply_numbers kind.FIGURES report.frames report.live report.free (top_number report.top) report.split
numbers_of_body (Body.Refused refusal) = reply_numbers kind.REFUSED (number_of_refusal refusal) 0 0 0 0
numbers_of_body (Body.Fault fault) = reply_numbers kind.NOTHING 0 0 0 0 0

-- the bytes in a reply; only the answer to a read has any
abbrev pub answered_bytes : Body → List ℕ
answered_bytes (Body.Bytes bytes) = bytes.items
answered_bytes (Body.Granted tenant slot superblock) = []
answered_bytes (Body.TakenBack superblock) = []
answered_bytes (Body.WasReset tenant superblocks) = []
answered_bytes (Body.Moved tenant slot superblock) = []
answered_bytes (Body.Owners owners) = []
answered_bytes (Body.Frame frame) = []
answered_bytes (Body.Freed order) = []
answered_bytes (Body.Written count) = []
answered_bytes (Body.Cache cache chunk order objects colours) = []
answered_bytes (Body.Destroyed frames) = []
answered_bytes (Body.Object place) = []
answered_bytes Body.Given = []
answered_bytes (Body.Reaped frames) = []
answered_bytes (Body.Report report) = []
answered_bytes (Body.Refused refusal) = []
answered_bytes (Body.Fault fault) = []

-- the status of a call that requires a machine and nothing else
abbrev pub machine_status : Option KernelContent → ℕ
machine_status held = if is_some held then DONE else NO_MACHINE

-- the status of a call that requires a machine and an event: the first error that applies, or else the status that is given
abbrev pub status_of_event : Option KernelContent → RequestNumbers → List ℕ → ℕ → ℕ
status_of_event held a bytes status =
    if is_some held then (if is_some (requested_event a bytes) then status else NOT_AN_EVENT) else NO_MACHINE

-- the status of a call that also requires a buffer of MAX_BYTES bytes: the first error that applies, or else DONE
abbrev pub event_status : Option KernelContent → RequestNumbers → List ℕ → List ℕ → ℕ
event_status held a bytes buffer =
    if not (is_some held) then NO_MACHINE
    else (if is_none (requested_event a bytes) then NOT_AN_EVENT
    else (if nat_lt (length buffer) MAX_BYTES then BUFFER_TOO_SMALL else DONE))

-- The kernel ran the event, and `numbers` are the numbers of its reply. The bytes of the reply are at the front of `buffer'`, and
-- the rest of the buffer is unchanged.
pub record AnswersEvent (old : KernelContent) (event : Event) (new : KernelContent) (numbers : ReplyNumbers)
    (buffer buffer' : List ℕ) : Type 0 where
  pub reply : Reply
  pub steps : Steps old event new reply
  pub are : numbers ≡ numbers_of_body reply.body
  pub over : buffer' ≡ answered_bytes reply.body ++ drop (length (answered_bytes reply.body)) buffer

-- the numbers `a` and the bytes are an event, and the held kernel ran it with the results that `AnswersEvent` states
pub record RunsEvent (old new : Option KernelContent) (a : RequestNumbers) (bytes : List ℕ) (numbers : ReplyNumbers)
    (buffer buffer' : List ℕ) : Type 0 where
  pub before : KernelContent
  pub after : KernelContent
  pub event : Event
  pub was : old ≡ Some before
  pub is : new ≡ Some after
  pub says : requested_event a bytes ≡ Some event
  pub answers : AnswersEvent before event after numbers buffer buffer'

-- With any bytes, the numbers `a` are an event. The held kernel ran this event, and any buffer is unchanged.
abbrev pub RunsApart : Option KernelContent → Option KernelContent → RequestNumbers → ReplyNumbers → Type 0
RunsApart old new a numbers = (bytes buffer : List ℕ) → RunsEvent old new a bytes numbers buffer buffer

-- the held kernel and the numbers of the reply are unchanged
abbrev pub IsNothingDone : Option KernelContent → Option KernelContent → ReplyNumbers → ReplyNumbers → Type 0
IsNothingDone old new numbers numbers' = (new ≡ old) × (numbers' ≡ numbers)

-- the held kernel, the numbers of the reply and the buffer are unchanged
abbrev pub ChangesNothing : Option KernelContent → Option KernelContent → ReplyNumbers → ReplyNumbers → List ℕ → List ℕ → Type 0
ChangesNothing old new numbers numbers' buffer buffer' = (new ≡ old) × (numbers' ≡ numbers) × (buffer' ≡ buffer)
