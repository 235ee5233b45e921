-- The text of a reply.
use Rattle.std.specs.Prelude.{ℕ, ◌+◌, length, count_by, is_none, Option, Some, None, List, [], ◌∷◌, ◌++◌, codes, decimal, map}
use Rattle.std.specs.List.{concat}
use Rattle.hex.specs.Hex.{encode_lower}
use Rattle.model_core.specs.declared.owner.Owner.{Owner}
use Rattle.words_core.specs.ReportTexts.{report_texts}
use Rattle.words_core.specs.declared.reply.Addressee.{Addressee}
use Rattle.words_core.specs.declared.reply.Body.{Body}
use Rattle.words_core.specs.declared.event.LineFault.{LineFault}
use Rattle.words_core.specs.declared.reply.Refusal.{Refusal}
use Rattle.words_core.specs.declared.reply.Reply.{Reply}

abbrev pub number_of_refusal : Refusal → ℕ
number_of_refusal Refusal.NoFrames = 1
number_of_refusal Refusal.BadOrder = 2
number_of_refusal Refusal.NotABlock = 3
number_of_refusal Refusal.OutOfReach = 4
number_of_refusal Refusal.BadLength = 5
number_of_refusal Refusal.BadSize = 6
number_of_refusal Refusal.BadAlign = 7
number_of_refusal Refusal.NoCacheSlot = 8
number_of_refusal Refusal.NoCache = 9
number_of_refusal Refusal.CacheInUse = 10
number_of_refusal Refusal.NotAnObject = 11
number_of_refusal Refusal.NoTenant = 12
number_of_refusal Refusal.PoolEmpty = 13
number_of_refusal Refusal.NoSlot = 14
number_of_refusal Refusal.SlotBusy = 15

abbrev pub name_of_refusal : Refusal → List ℕ
name_of_refusal Refusal.NoFrames = codes "NoFrames"
name_of_refusal Refusal.BadOrder = codes "BadOrder"
name_of_refusal Refusal.NotABlock = codes "NotABlock"
name_of_refusal Refusal.OutOfReach = codes "OutOfReach"
name_of_refusal Refusal.BadLength = codes "BadLength"
name_of_refusal Refusal.BadSize = codes "BadSize"
name_of_refusal Refusal.BadAlign = codes "BadAlign"
name_of_refusal Refusal.NoCacheSlot = codes "NoCacheSlot"
name_of_refusal Refusal.NoCache = codes "NoCache"
name_of_refusal Refusal.CacheInUse = codes "CacheInUse"
name_of_refusal Refusal.NotAnObject = codes "NotAnObject"
name_of_refusal Refusal.NoTenant = codes "NoTenant"
name_of_refusal Refusal.PoolEmpty = codes "PoolEmpty"
name_of_refusal Refusal.NoSlot = codes "NoSlot"
name_of_refusal Refusal.SlotBusy = codes "SlotBusy"

abbrev pub name_of_fault : LineFault → List ℕ
name_of_fault LineFault.Long = codes "Long"
name_of_fault LineFault.Unknown = codes "Unknown"
name_of_fault LineFault.Words = codes "Words"
name_of_fault LineFault.Number = codes "Number"
name_of_fault LineFault.Hex = codes "Hex"

-- the beginning of each line of a reply to this addressee
abbrev pub addressee_text : Addressee → List ℕ
addressee_text Addressee.Admin = codes "admin> "
addressee_text Addressee.Nobody = codes "!> "
addressee_text (Addressee.Tenant tenant) = decimal tenant ++ codes "> "

-- the line of a superblock: its owner and the owner's slot, or `free`
abbrev pub owner_text : List ℕ → ℕ → Option Owner → List ℕ
owner_text front superblock None = front ++ codes "superblock " ++ decimal superblock ++ codes " free"
owner_text front superblock (Some owner) =
    front ++ codes "superblock " ++ decimal superblock ++ codes " tenant " ++ decimal owner.tenant ++ codes " slot "
    ++ decimal owner.slot

-- a line for each superblock, from number `superblock` on
abbrev pub owner_texts : List ℕ → ℕ → List (Option Owner) → List (List ℕ)
owner_texts front superblock [] = []
owner_texts front superblock (owner ∷ owners) = owner_text front superblock owner ∷ owner_texts front (superblock + 1) owners

-- a line with the numbers of free superblocks and of all superblocks, and then a line for each superblock
abbrev pub pool_texts : List ℕ → List (Option Owner) → List (List ℕ)
pool_texts front owners =
    (front ++ codes "pool free " ++ decimal (count_by is_none owners) ++ codes " of " ++ decimal (length owners))
    ∷ owner_texts front 0 owners

-- the lines of the body, each after `front`
abbrev pub body_texts : List ℕ → Body → List (List ℕ)
body_texts front (Body.Granted tenant slot superblock) =
    (front ++ codes "granted " ++ decimal tenant ++ codes " slot " ++ decimal slot ++ codes " superblock " ++ decimal superblock)
    ∷ []
body_texts front (Body.TakenBack superblock) = (front ++ codes "taken superblock " ++ decimal superblock) ∷ []
body_texts front (Body.WasReset tenant superblocks) =
    (front ++ codes "reset " ++ decimal tenant ++ codes " superblocks " ++ decimal superblocks) ∷ []
body_texts front (Body.Moved tenant slot superblock) =
    (front ++ codes "moved " ++ decimal tenant ++ codes " slot " ++ decimal slot ++ codes " superblock " ++ decimal superblock)
    ∷ []
body_texts front (Body.Owners owners) = pool_texts front owners.items
body_texts front (Body.Frame frame) = (front ++ codes "frame " ++ decimal frame) ∷ []
body_texts front (Body.Freed order) = (front ++ codes "freed " ++ decimal order) ∷ []
body_texts front (Body.Bytes bytes) = (front ++ codes "bytes " ++ encode_lower bytes.items) ∷ []
body_texts front (Body.Written count) = (front ++ codes "written " ++ decimal count) ∷ []
body_texts front (Body.Cache cache chunk order objects colours) =
    (front ++ codes "cache " ++ decimal cache ++ codes " chunk " ++ decimal chunk ++ codes " order " ++ decimal order
    ++ codes " objects " ++ decimal objects ++ codes " colours " ++ decimal colours) ∷ []
body_texts front (Body.Destroyed frames) = (front ++ codes "destroyed " ++ decimal frames) ∷ []
body_texts front (Body.Object place) = (front ++ codes "object " ++ decimal place) ∷ []
body_texts front Body.Given = (front ++ codes "given") ∷ []
body_texts front (Body.Reaped frames) = (front ++ codes "reaped " ++ decimal frames) ∷ []
body_texts front (Body.Report report) = report_texts front report
body_texts front (Body.Refused refusal) =
    (front ++ codes "refused " ++ decimal (number_of_refusal refusal) ++ codes " " ++ name_of_refusal refusal) ∷ []
body_texts front (Body.Fault fault) = (front ++ codes "fault " ++ name_of_fault fault) ∷ []

-- the lines of a reply, each with the line feed at its end
abbrev pub lines_of : Reply → List (List ℕ)
lines_of reply = map (λ text. text ++ 10 ∷ []) (body_texts (addressee_text reply.addressee) reply.body)

-- the whole text of a reply
abbrev pub text_of : Reply → List ℕ
text_of reply = concat (lines_of reply)
