-- The command that a `Request` stands for, the reply that an `Answer` or a `Table` stands for, and tests of these three types.
-- Values of these types borrow their bytes or rows.
use Rattle.std.specs.Prelude.{◌≡◌, ℕ, ◌≤◌, Bool, true, false, if◌then◌else◌, length}
use Rattle.model_core.specs.declared.limits.TheConstants.{MAX_BYTES, WIDE_SUPERBLOCKS}
use Rattle.model_core.specs.Layouts.{is_pattern}
use Rattle.words_core.specs.declared.answer.TheConstants.{MAX_ANSWER_BYTES, SHORT_ANSWER_BYTES}
use Rattle.words_core.specs.declared.reply.Addressee.{Addressee}
use Rattle.words_core.specs.declared.answer.Answer.{Answer}
use Rattle.words_core.specs.declared.reply.Body.{Body}
use Rattle.words_core.specs.declared.event.Command.{Command}
use Rattle.words_core.specs.declared.reply.Reply.{Reply}
use Rattle.words_core.specs.declared.event.Request.{Request}
use Rattle.words_core.specs.declared.text.Table.{Table}

abbrev pub command_of : Request → Command
command_of (Request.Alloc order) = Command.Alloc order
command_of (Request.Free frame) = Command.Free frame
command_of (Request.Read place len) = Command.Read place len
command_of (Request.Write place bytes) = Command.Write place (record { items = bytes.now })
command_of (Request.Cache size align pattern) = Command.Cache size align (record { items = pattern.now })
command_of (Request.Destroy cache) = Command.Destroy cache
command_of (Request.Take cache) = Command.Take cache
command_of (Request.Give cache place) = Command.Give cache place
command_of Request.Reap = Command.Reap

abbrev pub body_of_answer : Answer → Body
body_of_answer (Answer.Frame frame) = Body.Frame frame
body_of_answer (Answer.Freed order) = Body.Freed order
body_of_answer (Answer.Bytes bytes) = Body.Bytes (record { items = bytes.now })
body_of_answer (Answer.Written count) = Body.Written count
body_of_answer (Answer.Cache cache chunk order objects colours) = Body.Cache cache chunk order objects colours
body_of_answer (Answer.Destroyed frames) = Body.Destroyed frames
body_of_answer (Answer.Object place) = Body.Object place
body_of_answer Answer.Given = Body.Given
body_of_answer (Answer.Reaped frames) = Body.Reaped frames
body_of_answer (Answer.Refused refusal) = Body.Refused refusal
body_of_answer (Answer.Granted tenant slot superblock) = Body.Granted tenant slot superblock
body_of_answer (Answer.TakenBack superblock) = Body.TakenBack superblock
body_of_answer (Answer.WasReset tenant superblocks) = Body.WasReset tenant superblocks
body_of_answer (Answer.Moved tenant slot superblock) = Body.Moved tenant slot superblock
body_of_answer (Answer.Fault fault) = Body.Fault fault

-- the body has several lines, so no `Answer` stands for it
abbrev pub is_table : Body → Bool
is_table (Body.Owners owners) = true
is_table (Body.Report report) = true
is_table (Body.Granted tenant slot superblock) = false
is_table (Body.TakenBack superblock) = false
is_table (Body.WasReset tenant superblocks) = false
is_table (Body.Moved tenant slot superblock) = false
is_table (Body.Frame frame) = false
is_table (Body.Freed order) = false
is_table (Body.Bytes bytes) = false
is_table (Body.Written count) = false
is_table (Body.Cache cache chunk order objects colours) = false
is_table (Body.Destroyed frames) = false
is_table (Body.Object place) = false
is_table Body.Given = false
is_table (Body.Reaped frames) = false
is_table (Body.Refused refusal) = false
is_table (Body.Fault fault) = false

-- the reply to this addressee with this answer
abbrev pub reply_to : Addressee → Answer → Reply
reply_to addressee answer = record { addressee = addressee; body = body_of_answer answer }

-- the reply to a tenant with this answer
abbrev pub reply_of_answer : ℕ → Answer → Reply
reply_of_answer tenant answer = record { addressee = Addressee.Tenant tenant; body = body_of_answer answer }

-- the reply that this table stands for
abbrev pub reply_of_table : Table → Reply
reply_of_table (Table.Owners owners) = record { addressee = Addressee.Admin; body = Body.Owners (record { items = owners.now }) }
reply_of_table (Table.Report tenant report) = record { addressee = Addressee.Tenant tenant; body = Body.Report report.now }

-- a table of owners has no more rows than a machine may have superblocks
abbrev pub HasFewRows : Table → Type 0
HasFewRows (Table.Owners owners) = length owners.now ≤ WIDE_SUPERBLOCKS
HasFewRows (Table.Report tenant report) = Unit {0}

-- if the answer has bytes that were read, it has at most 64 of them
abbrev pub HasFewBytes : Answer → Type 0
HasFewBytes (Answer.Bytes bytes) = length bytes.now ≤ MAX_BYTES
HasFewBytes (Answer.Frame frame) = Unit {0}
HasFewBytes (Answer.Freed order) = Unit {0}
HasFewBytes (Answer.Written count) = Unit {0}
HasFewBytes (Answer.Cache cache chunk order objects colours) = Unit {0}
HasFewBytes (Answer.Destroyed frames) = Unit {0}
HasFewBytes (Answer.Object place) = Unit {0}
HasFewBytes Answer.Given = Unit {0}
HasFewBytes (Answer.Reaped frames) = Unit {0}
HasFewBytes (Answer.Refused refusal) = Unit {0}
HasFewBytes (Answer.Granted tenant slot superblock) = Unit {0}
HasFewBytes (Answer.TakenBack superblock) = Unit {0}
HasFewBytes (Answer.WasReset tenant superblocks) = Unit {0}
HasFewBytes (Answer.Moved tenant slot superblock) = Unit {0}
HasFewBytes (Answer.Fault fault) = Unit {0}

-- if the command makes a cache, the pattern has 1 to 16 bytes
abbrev pub AsksPattern : Command → Type 0
AsksPattern (Command.Cache size align pattern) = is_pattern pattern.items ≡ true
AsksPattern (Command.Alloc order) = Unit {0}
AsksPattern (Command.Free frame) = Unit {0}
AsksPattern (Command.Read place len) = Unit {0}
AsksPattern (Command.Write place bytes) = Unit {0}
AsksPattern (Command.Destroy cache) = Unit {0}
AsksPattern (Command.Take cache) = Unit {0}
AsksPattern (Command.Give cache place) = Unit {0}
AsksPattern Command.Reap = Unit {0}
AsksPattern Command.Report = Unit {0}

-- if the request is a write, it writes at most 64 bytes; if the request makes a cache, the pattern has 1 to 16 bytes
abbrev pub IsAskable : Request → Type 0
IsAskable (Request.Write place bytes) = length bytes.now ≤ MAX_BYTES
IsAskable (Request.Cache size align pattern) = is_pattern pattern.now ≡ true
IsAskable (Request.Alloc order) = Unit {0}
IsAskable (Request.Free frame) = Unit {0}
IsAskable (Request.Read place len) = Unit {0}
IsAskable (Request.Destroy cache) = Unit {0}
IsAskable (Request.Take cache) = Unit {0}
IsAskable (Request.Give cache place) = Unit {0}
IsAskable Request.Reap = Unit {0}

-- the request is a read
abbrev pub asks_bytes : Request → Bool
asks_bytes (Request.Read place len) = true
asks_bytes (Request.Alloc order) = false
asks_bytes (Request.Free frame) = false
asks_bytes (Request.Write place bytes) = false
asks_bytes (Request.Cache size align pattern) = false
asks_bytes (Request.Destroy cache) = false
asks_bytes (Request.Take cache) = false
asks_bytes (Request.Give cache place) = false
asks_bytes Request.Reap = false

-- the answer has bytes that were read
abbrev pub has_bytes : Answer → Bool
has_bytes (Answer.Bytes bytes) = true
has_bytes (Answer.Frame frame) = false
has_bytes (Answer.Freed order) = false
has_bytes (Answer.Written count) = false
has_bytes (Answer.Cache cache chunk order objects colours) = false
has_bytes (Answer.Destroyed frames) = false
has_bytes (Answer.Object place) = false
has_bytes Answer.Given = false
has_bytes (Answer.Reaped frames) = false
has_bytes (Answer.Refused refusal) = false
has_bytes (Answer.Granted tenant slot superblock) = false
has_bytes (Answer.TakenBack superblock) = false
has_bytes (Answer.WasReset tenant superblocks) = false
has_bytes (Answer.Moved tenant slot superblock) = false
has_bytes (Answer.Fault fault) = false

-- the text may need the large buffer: the answer has bytes that were read, or is about a new cache or about superblocks
abbrev pub is_long : Answer → Bool
is_long (Answer.Bytes bytes) = true
is_long (Answer.Cache cache chunk order objects colours) = true
is_long (Answer.Granted tenant slot superblock) = true
is_long (Answer.TakenBack superblock) = true
is_long (Answer.WasReset tenant superblocks) = true
is_long (Answer.Moved tenant slot superblock) = true
is_long (Answer.Frame frame) = false
is_long (Answer.Freed order) = false
is_long (Answer.Written count) = false
is_long (Answer.Destroyed frames) = false
is_long (Answer.Object place) = false
is_long Answer.Given = false
is_long (Answer.Reaped frames) = false
is_long (Answer.Refused refusal) = false
is_long (Answer.Fault fault) = false

-- the size in bytes of a buffer for the text of the answer
abbrev pub buffer_of : Answer → ℕ
buffer_of answer = if is_long answer then MAX_ANSWER_BYTES else SHORT_ANSWER_BYTES
