-- The words for why a promise is broken.
use Rattle.std.specs.Prelude.{ℕ, ◌+◌, ◌-◌, ◌/◌, ◌%◌, nat_lt, if◌then◌else◌, List, [], ◌∷◌, ◌++◌, Option, Some, None, codes, decimal}
use Rattle.model_core.specs.Blocks.{Block}
use Rattle.model_core.specs.declared.owner.Owner.{Owner}
use Rattle.promise_core.specs.declared.promise.Promise.{Promise}
use Rattle.reply_judge.specs.declared.bound.Bound.{Bound}
use Rattle.reply_judge.specs.declared.faults.BlockFault.{BlockFault}
use Rattle.reply_judge.specs.declared.faults.ObjectFault.{ObjectFault}
use Rattle.reply_judge.specs.declared.figures.ReportFigure.{ReportFigure}
use Rattle.reply_judge.specs.declared.figures.WrongFigure.{WrongFigure}
use Rattle.reply_judge.specs.declared.vacancy.Vacancy.{Vacancy}
use Rattle.reply_judge.specs.declared.wrong_bytes.WrongByte.{WrongByte}
use Rattle.trace_check.specs.declared.figure.Figure.{Figure}
use Rattle.trace_check.specs.declared.kinds.AnswerKind.{AnswerKind}
use Rattle.trace_check.specs.declared.reason.Reason.{Reason}
use Rattle.trace_check.specs.declared.taken.TakenFrame.{TakenFrame}
use Rattle.words_core.specs.Texts.{name_of_refusal, number_of_refusal}
use Rattle.words_core.specs.declared.reply.Refusal.{Refusal}

-- the words for what a promise requires
abbrev pub words_of_promise : Promise → List ℕ
words_of_promise Promise.Form = codes "a reply has the right addressee, and is a refusal or an answer to that command"
words_of_promise Promise.Refusals = codes "the first refusal whose condition holds is the reply, and no other refusal comes"
words_of_promise Promise.Room = codes "nothing is refused for lack of frames while it can be allocated"
words_of_promise Promise.Busy = codes "a slot is busy only if a frame of it is taken, or if an empty slab may be in it"
words_of_promise Promise.Blocks = codes "a block is aligned, lies in a held slot and overlaps nothing that is taken"
words_of_promise Promise.Objects = codes "an object is aligned, lies in a slab of its cache and overlaps no live object"
words_of_promise Promise.Layout = codes "a new cache has an unused number, and its objects fit into its slabs"
words_of_promise Promise.Gives = codes "a free reports its block's order, and a reap or destroy at most the frames of empty slabs"
words_of_promise Promise.Owners = codes "a superblock has one owner, and each change of owners is reported correctly"
words_of_promise Promise.Bytes = codes "a byte that is read is the one left there, or a fresh one if none was left or that one is in doubt"
words_of_promise Promise.Report = codes "a report has the tenant's own figures"
words_of_promise Promise.Still = codes "the figures of a report stay valid until a command changes something"

-- the words that name the first frame that two page blocks share, and the live one of these two blocks
abbrev pub taken_text : TakenFrame → List ℕ
taken_text taken = codes "frame " ++ (decimal taken.frame ++ (codes " lies in the block of order " ++ (decimal taken.page.order
    ++ (codes " at frame " ++ decimal taken.page.first))))

-- the words for the refusal that was due
abbrev pub due_text : Option Refusal → List ℕ
due_text None = codes "no refusal is due"
due_text (Some refusal) = codes "refused " ++ (decimal (number_of_refusal refusal) ++ (codes " " ++ (name_of_refusal refusal
    ++ codes " is due")))

-- the words for the page block that is freed
abbrev pub freed_text : Block → List ℕ
freed_text page = codes "the block at frame " ++ (decimal page.first ++ (codes " has order " ++ decimal page.order))

-- the words for what keeps the reply's page block from being allocated
abbrev pub unfit_text : Block → BlockFault → List ℕ
unfit_text b BlockFault.Misaligned = codes "no block of order " ++ (decimal b.order ++ (codes " begins at frame " ++ decimal b.first))
unfit_text b (BlockFault.Outside slot) =
    codes "frame " ++ (decimal b.first ++ (codes " lies in slot " ++ (decimal slot ++ codes ", which is not held")))
unfit_text b (BlockFault.Slab cache place) = codes "the block at frame " ++ (decimal b.first
    ++ (codes " overlaps the slab of the object at " ++ (decimal place ++ (codes " of cache " ++ decimal cache))))

-- the words for the owner of a superblock
abbrev pub owned_text : ℕ → Owner → List ℕ
owned_text superblock owner = codes "superblock " ++ (decimal superblock ++ (codes " is slot " ++ (decimal owner.slot
    ++ (codes " of tenant " ++ decimal owner.tenant))))

-- the words for a superblock without an owner
abbrev pub unowned_text : ℕ → List ℕ
unowned_text superblock = codes "superblock " ++ (decimal superblock ++ codes " has no owner")

-- the words for a superblock that does not exist
abbrev pub missing_text : ℕ → List ℕ
missing_text superblock = codes "there is no superblock " ++ decimal superblock

-- the digit of a number below 16 in hex: `0` is 48, and `a` is 97
abbrev pub hex_digit : ℕ → ℕ
hex_digit number = if nat_lt number 10 then 48 + number else 97 + (number - 10)

-- a byte in hex, as a reply has it
abbrev pub hex_text : ℕ → List ℕ
hex_text byte = hex_digit (byte / 16) ∷ hex_digit (byte % 16) ∷ []

-- the bytes that are due at a place
abbrev pub due_bytes_text : ℕ → Option ℕ → List ℕ
due_bytes_text due None = hex_text due
due_bytes_text due (Some fresh) = hex_text due ++ (codes " or " ++ hex_text fresh)

-- the words for a wrong byte
abbrev pub wrong_text : WrongByte → List ℕ
wrong_text wrong = codes "the byte at " ++ (decimal wrong.place ++ (codes " has to be " ++ (due_bytes_text wrong.due wrong.or_fresh
    ++ (codes ", not " ++ hex_text wrong.byte))))

-- the words for the number of bytes that the reply has to have or to report
abbrev pub count_text : ℕ → List ℕ
count_text count = codes "the number of bytes has to be " ++ decimal count

-- the words for a page block that the slab of an object would overlap
abbrev pub slab_over_text : Block → List ℕ
slab_over_text page = codes "the slab overlaps the block of order " ++ (decimal page.order ++ (codes " at frame " ++ decimal page.first))

-- the words for what keeps the object at the place from being taken
abbrev pub object_text : ℕ → ObjectFault → List ℕ
object_text place ObjectFault.Misaligned = codes "place " ++ (decimal place ++ codes " is not a multiple of the alignment")
object_text place (ObjectFault.Page page) = slab_over_text page
object_text place (ObjectFault.Unfit slab fault) = unfit_text slab fault
object_text place (ObjectFault.Over other) = codes "the object overlaps the one at " ++ decimal other
object_text place ObjectFault.Full = codes "all objects of the slab are live"
object_text place ObjectFault.OffGrid = codes "no object of the slab can begin at place " ++ decimal place

-- the words for what is left for a request
abbrev pub left_text : Vacancy → List ℕ
left_text (Vacancy.Block b) = codes "the block of order " ++ (decimal b.order ++ (codes " at frame " ++ (decimal b.first ++ codes " is vacant")))
left_text (Vacancy.Slab place) = codes "the slab of the object at " ++ (decimal place ++ codes " is not full")

-- the words for a slot that cannot be busy
abbrev pub idle_text : ℕ → List ℕ
idle_text slot = codes "no frame of slot " ++ (decimal slot ++ codes " is taken, and no slab can be empty")

-- the name of a number in a reply
abbrev pub name_of_figure : Figure → List ℕ
name_of_figure Figure.Cache = codes "number of the cache"
name_of_figure Figure.Chunk = codes "chunk"
name_of_figure Figure.Order = codes "order"
name_of_figure Figure.Objects = codes "number of objects"
name_of_figure Figure.Colours = codes "number of colours"
name_of_figure Figure.Frames = codes "number of frames"
name_of_figure Figure.Tenant = codes "tenant"
name_of_figure Figure.Slot = codes "slot"
name_of_figure Figure.Superblocks = codes "number of superblocks"

-- the words for a bound within which a number has to be
abbrev pub bound_text : Bound → List ℕ
bound_text (Bound.Exactly n) = codes " has to be " ++ decimal n
bound_text (Bound.AtLeast n) = codes " has to be at least " ++ decimal n
bound_text (Bound.AtMost n) = codes " has to be at most " ++ decimal n
bound_text (Bound.MultipleOf n) = codes " has to be a multiple of " ++ decimal n
bound_text Bound.Absent = codes " has to be none"

-- the words for a number that has to be within a bound
abbrev pub figure_text : Figure → Bound → List ℕ
figure_text figure bound = codes "the " ++ (name_of_figure figure ++ bound_text bound)

-- the name of a number in a report
abbrev pub name_in_report : ReportFigure → List ℕ
name_in_report ReportFigure.OrderRows = codes "number of rows of orders"
name_in_report ReportFigure.CacheRows = codes "number of rows of caches"
name_in_report ReportFigure.Frames = codes "number of frames"
name_in_report ReportFigure.Live = codes "number of live frames"
name_in_report ReportFigure.Free = codes "number of free frames"
name_in_report ReportFigure.FreeInRows = codes "number of frames in the free blocks"
name_in_report ReportFigure.Top = codes "top"
name_in_report ReportFigure.Split = codes "split"
name_in_report (ReportFigure.FreeBlocks k) = codes "number of free blocks of order " ++ decimal k
name_in_report (ReportFigure.TakenBlocks k) = codes "number of taken blocks of order " ++ decimal k
name_in_report (ReportFigure.CacheOf i) = codes "number of the cache in cache row " ++ decimal i
name_in_report (ReportFigure.FullSlabs number) = codes "number of full slabs of cache " ++ decimal number
name_in_report (ReportFigure.PartialSlabs number) = codes "number of partial slabs of cache " ++ decimal number
name_in_report (ReportFigure.EmptySlabs number) = codes "number of empty slabs of cache " ++ decimal number
name_in_report (ReportFigure.LiveObjects number) = codes "number of live objects of cache " ++ decimal number

-- the words for a wrong number in a report
abbrev pub report_text : WrongFigure → List ℕ
report_text wrong = codes "the " ++ (name_in_report wrong.figure ++ bound_text wrong.bound)

-- the words for a cache that the tenant has already
abbrev pub existing_text : ℕ → List ℕ
existing_text number = codes "there is a cache " ++ (decimal number ++ codes " already")

-- the words for a slot that the tenant holds already
abbrev pub held_text : ℕ → List ℕ
held_text slot = codes "slot " ++ (decimal slot ++ codes " is held already")

-- the form of an answer of this kind, as the help of partmem has it
abbrev pub form_of_kind : AnswerKind → List ℕ
form_of_kind AnswerKind.Frame = codes "frame F"
form_of_kind AnswerKind.Freed = codes "freed K"
form_of_kind AnswerKind.Bytes = codes "bytes HEX"
form_of_kind AnswerKind.Written = codes "written L"
form_of_kind AnswerKind.Cache = codes "cache C chunk c order q objects n colours x"
form_of_kind AnswerKind.Destroyed = codes "destroyed F"
form_of_kind AnswerKind.Object = codes "object P"
form_of_kind AnswerKind.Given = codes "given"
form_of_kind AnswerKind.Reaped = codes "reaped F"
form_of_kind AnswerKind.Report = codes "frames .."
form_of_kind AnswerKind.Granted = codes "granted T slot U superblock M"
form_of_kind AnswerKind.TakenBack = codes "taken superblock M"
form_of_kind AnswerKind.WasReset = codes "reset T superblocks R"
form_of_kind AnswerKind.Moved = codes "moved T slot U superblock M"
form_of_kind AnswerKind.Owners = codes "pool free F of N .."

-- the words for a reply that has to go to the tenant
abbrev pub tenant_text : ℕ → AnswerKind → List ℕ
tenant_text tenant kind = codes "the reply has to be " ++ (decimal tenant ++ (codes "> " ++ (form_of_kind kind ++ (codes " or " ++ (decimal tenant
    ++ codes "> refused NUMBER NAME")))))

-- the words for a reply that has to go to the administrator
abbrev pub admin_text : AnswerKind → List ℕ
admin_text kind = codes "the reply has to be admin> " ++ (form_of_kind kind ++ codes " or admin> refused NUMBER NAME")

-- the words for why a promise is broken, or for what the promise requires if no reason was worked out
abbrev pub reason_text : Promise → Option Reason → List ℕ
reason_text promise None = words_of_promise promise
reason_text promise (Some (Reason.ToTenant tenant kind)) = tenant_text tenant kind
reason_text promise (Some (Reason.ToAdmin kind)) = admin_text kind
reason_text promise (Some Reason.ToNobody) = codes "the reply has to be !> refused 12 NoTenant"
reason_text promise (Some (Reason.Due due)) = due_text due
reason_text promise (Some (Reason.Freed page)) = freed_text page
reason_text promise (Some (Reason.Taken taken)) = taken_text taken
reason_text promise (Some (Reason.Unfit block fault)) = unfit_text block fault
reason_text promise (Some (Reason.Owned superblock owner)) = owned_text superblock owner
reason_text promise (Some (Reason.Unowned superblock)) = unowned_text superblock
reason_text promise (Some (Reason.Missing superblock)) = missing_text superblock
reason_text promise (Some (Reason.Wrong wrong)) = wrong_text wrong
reason_text promise (Some (Reason.Count count)) = count_text count
reason_text promise (Some (Reason.Object place fault)) = object_text place fault
reason_text promise (Some (Reason.Left vacancy)) = left_text vacancy
reason_text promise (Some (Reason.Idle slot)) = idle_text slot
reason_text promise (Some (Reason.Figure figure bound)) = figure_text figure bound
reason_text promise (Some (Reason.Report wrong)) = report_text wrong
reason_text promise (Some (Reason.Held slot)) = held_text slot
reason_text promise (Some (Reason.Existing number)) = existing_text number
reason_text promise (Some Reason.NotTakeBack) = codes "only a takeback may be refused 15 SlotBusy"
