-- The part of a run that concerns one tenant: the entries for its machine, and the replies addressed to it.
use Rattle.std.specs.Prelude.{ℕ, ◌==◌, List, [], ◌∷◌, ◌++◌, Bool, true, false, if◌then◌else◌}
use Rattle.words_core.specs.declared.reply.Addressee.{Addressee}
use Rattle.words_core.specs.declared.event.AdminCommand.{AdminCommand}
use Rattle.words_core.specs.declared.reply.Body.{Body}
use Rattle.words_core.specs.declared.event.Event.{Event}
use Rattle.world_core.specs.PrivateStep.{Entry, Ask, Grant, TakeBack, Reset}
use Rattle.world_core.specs.World.{Exchange}

abbrev pub is_refused : Body → Bool
is_refused (Body.Refused refusal) = true
is_refused (Body.Granted tenant slot superblock) = false
is_refused (Body.TakenBack superblock) = false
is_refused (Body.WasReset tenant superblocks) = false
is_refused (Body.Moved tenant slot superblock) = false
is_refused (Body.Owners owners) = false
is_refused (Body.Frame frame) = false
is_refused (Body.Freed order) = false
is_refused (Body.Bytes bytes) = false
is_refused (Body.Written count) = false
is_refused (Body.Cache cache chunk order objects colours) = false
is_refused (Body.Destroyed frames) = false
is_refused (Body.Object place) = false
is_refused Body.Given = false
is_refused (Body.Reaped frames) = false
is_refused (Body.Report report) = false
is_refused (Body.Fault fault) = false

-- the list of this one entry if the event names tenant t, otherwise the empty list
abbrev pub if_named : ℕ → ℕ → Entry → List Entry
if_named t named entry = if named == t then entry ∷ [] else []

-- the list of this one entry if the event names tenant t and its reply is no refusal, otherwise the empty list
abbrev pub if_granted : ℕ → ℕ → Body → Entry → List Entry
if_granted t named body entry = if is_refused body then [] else if_named t named entry

-- The entries that an event with this reply adds to the own list of tenant t. A move adds none: it changes only which superblock
-- a slot has, and machines do not know superblocks.
abbrev pub own_entries : ℕ → Event → Body → List Entry
own_entries t (Event.Tenant named command) body = if_named t named (Ask command)
own_entries t (Event.Admin (AdminCommand.Grant named)) body = if_granted t named body Grant
own_entries t (Event.Admin (AdminCommand.TakeBack named slot)) body = if_granted t named body (TakeBack slot)
own_entries t (Event.Admin (AdminCommand.Reset named)) body = if_named t named Reset
own_entries t (Event.Admin (AdminCommand.Move named slot)) body = []
own_entries t (Event.Admin AdminCommand.Pool) body = []

-- the own list of tenant t: its commands, the grants and take-backs for it that were not refused, and its resets, in order
abbrev pub own_list : ℕ → List Exchange → List Entry
own_list t [] = []
own_list t (e ∷ es) = own_entries t e.event e.reply.body ++ own_list t es

abbrev pub if_for : ℕ → Addressee → Body → List Body
if_for t Addressee.Admin body = []
if_for t Addressee.Nobody body = []
if_for t (Addressee.Tenant named) body = if named == t then body ∷ [] else []

-- the replies addressed to tenant t
abbrev pub replies_to : ℕ → List Exchange → List Body
replies_to t [] = []
replies_to t (e ∷ es) = if_for t e.reply.addressee e.reply.body ++ replies_to t es
