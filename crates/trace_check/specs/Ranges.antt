-- The ranges of the numbers in a reply, and the limits on the lengths of its lists.
use Rattle.std.specs.Prelude.{◌^◌, ◌<◌, ◌≤◌, length, Option, IfSome}
use Rattle.std.specs.List.{AllByRecursion}
use Rattle.model_core.specs.declared.owner.Owner.{Owner}
use Rattle.model_core.specs.declared.report.OrderRow.{OrderRow}
use Rattle.model_core.specs.declared.report.CacheRow.{CacheRow}
use Rattle.words_core.specs.declared.reply.Addressee.{Addressee}
use Rattle.words_core.specs.declared.reply.Body.{Body}
use Rattle.words_core.specs.declared.reply.Reply.{Reply}
use Rattle.words_core.specs.declared.report.Report.{Report}
use Rattle.model_core.specs.declared.limits.TheConstants.{MAX_BYTES}
use Rattle.words_core.specs.declared.reply.TheConstants.{OWNERS}
use Rattle.words_core.specs.declared.report.TheConstants.{ORDERS, CACHES}

abbrev pub AddresseeFits : Addressee → Type 0
AddresseeFits (Addressee.Tenant tenant) = tenant < 2 ^ 8
AddresseeFits Addressee.Admin = Unit {0}
AddresseeFits Addressee.Nobody = Unit {0}

abbrev pub OwnerFits : Option Owner → Type 0
OwnerFits reported = IfSome reported (λ owner. (owner.tenant < 2 ^ 8) × (owner.slot < 2 ^ 16))

abbrev pub OrderFits : OrderRow → Type 0
OrderFits row = (row.free < 2 ^ 32) × (row.taken < 2 ^ 32)

abbrev pub CacheFits : CacheRow → Type 0
CacheFits row = (row.cache < 2 ^ 8) × (row.full < 2 ^ 32) × (row.partial < 2 ^ 32) × (row.empty < 2 ^ 32) × (row.live < 2 ^ 32)

pub record ReportFits (report : Report) : Type 0 where
  pub frames : report.frames < 2 ^ 32
  pub live : report.live < 2 ^ 32
  pub free : report.free < 2 ^ 32
  pub top : IfSome report.top (λ order. order < 2 ^ 8)
  pub split : report.split < 2 ^ 32
  pub orders : AllByRecursion OrderFits report.orders.items
  pub few_orders : length report.orders.items ≤ ORDERS
  pub caches : AllByRecursion CacheFits report.caches.items
  pub few_caches : length report.caches.items ≤ CACHES

abbrev pub BodyFits : Body → Type 0
BodyFits (Body.Granted tenant slot superblock) = (tenant < 2 ^ 8) × (slot < 2 ^ 16) × (superblock < 2 ^ 16)
BodyFits (Body.TakenBack superblock) = superblock < 2 ^ 16
BodyFits (Body.WasReset tenant superblocks) = (tenant < 2 ^ 8) × (superblocks < 2 ^ 16)
BodyFits (Body.Moved tenant slot superblock) = (tenant < 2 ^ 8) × (slot < 2 ^ 16) × (superblock < 2 ^ 16)
BodyFits (Body.Owners owners) = AllByRecursion OwnerFits owners.items × (length owners.items ≤ OWNERS)
BodyFits (Body.Frame frame) = frame < 2 ^ 32
BodyFits (Body.Freed order) = order < 2 ^ 8
BodyFits (Body.Bytes bytes) = AllByRecursion (λ b. b < 2 ^ 8) bytes.items × (length bytes.items ≤ MAX_BYTES)
BodyFits (Body.Written count) = count < 2 ^ 32
BodyFits (Body.Cache cache chunk order objects colours) =
    (cache < 2 ^ 8) × (chunk < 2 ^ 32) × (order < 2 ^ 8) × (objects < 2 ^ 32) × (colours < 2 ^ 32)
BodyFits (Body.Destroyed frames) = frames < 2 ^ 32
BodyFits (Body.Object place) = place < 2 ^ 32
BodyFits (Body.Reaped frames) = frames < 2 ^ 32
BodyFits (Body.Report report) = ReportFits report
BodyFits Body.Given = Unit {0}
BodyFits (Body.Refused refusal) = Unit {0}
BodyFits (Body.Fault fault) = Unit {0}

-- each number and each list of the reply fits its type
abbrev pub Fits : Reply → Type 0
Fits reply = AddresseeFits reply.addressee × BodyFits reply.body
