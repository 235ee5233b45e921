-- Whether a buffer is large enough for the reply to a line.
use Rattle.std.proofs.Common.{◌≡◌, ◌≢◌, ℕ, suc, ◌+◌, ◌*◌, ◌<◌, ◌≤◌, true, false, ◌||◌, ◌&&◌, nat_lt, List, [], ◌∷◌, ◌++◌, map, Option, Some, Result, Ok, length, length-append, refl, sym, ap, ◌∙◌, arith}
use Rattle.std.proofs.lemmas.Bool.{le-ltb, lt-ltb}
use Rattle.std.proofs.lemmas.List.{length-map}
use Rattle.model_core.specs.declared.owner.Owner.{Owner}
use Rattle.model_core.specs.declared.report.OrderRow.{OrderRow}
use Rattle.model_core.specs.declared.report.CacheRow.{CacheRow}
use Rattle.words_core.specs.declared.reply.Addressee.TheVariants as To
use Rattle.words_core.specs.declared.reply.Body.TheVariants as Say
use Rattle.words_core.specs.ReportTexts.{order_texts, cache_text, report_texts}
use Rattle.words_core.specs.Texts.{addressee_text, lines_of}
use Rattle.words_core.specs.declared.report.Report.{Report}
use Rattle.words_core.proofs.TextLemmas.{length-lines_of}
use Rattle.words_core.specs.declared.event.Command.{Command}
use Rattle.words_core.specs.declared.event.Event.{Event}
use Rattle.words_core.specs.declared.event.Event.TheVariants.{Tenant, Admin}
use Rattle.words_core.specs.declared.event.AdminCommand.{AdminCommand}
use Rattle.words_core.specs.declared.event.AdminCommand.TheVariants.{Pool}
use Rattle.words_core.specs.declared.event.LineFault.{LineFault}
use Rattle.words_core.specs.declared.text.TheConstants.{MAX_REPLY_BYTES}
use Rattle.kernel_core.specs.Content.{KernelContent}
use Rattle.partmem_c.specs.declared.lines.TheConstants.{LINE_BUFFER_BYTES}
use Rattle.partmem_c.specs.Lines.{asks_owners, is_too_small, IsWide}

-- the buffer is large enough for a line that does not request the table of owners
pub fits : (k : KernelContent) (reading : Result (Option Event) LineFault) (buffer : List ℕ) → IsWide buffer → asks_owners reading ≡ false
    → is_too_small k reading buffer ≡ false
fits k reading buffer wide asks =
    ap (λ b. b || (asks_owners reading && nat_lt (length buffer) (MAX_REPLY_BYTES * (1 + k.superblocks)))) (le-ltb (length buffer) LINE_BUFFER_BYTES wide)
    ∙ ap (λ b. b && nat_lt (length buffer) (MAX_REPLY_BYTES * (1 + k.superblocks))) asks

-- the buffer is large enough for a line with the command of a tenant
pub tenant_fits : (k : KernelContent) (reading : Result (Option Event) LineFault) (buffer : List ℕ) (t : ℕ) (command : Command) → IsWide buffer
    → reading ≡ Ok (Some (Tenant t command)) → is_too_small k reading buffer ≡ false
tenant_fits k reading buffer t command wide is = fits k reading buffer wide (ap asks_owners is)

-- the buffer is large enough for a line with any other command of the administrator
pub other_fits : (k : KernelContent) (command : AdminCommand) (buffer : List ℕ) → IsWide buffer → command ≢ Pool
    → is_too_small k (Ok (Some (Admin command))) buffer ≡ false
other_fits k Pool buffer wide other = absurd (other refl)
other_fits k command buffer wide other = fits k (Ok (Some (Admin command))) buffer wide refl

-- the buffer is large enough for a table of this many superblocks, or it is not
pub table_fits : (k : KernelContent) (buffer : List ℕ) → IsWide buffer → MAX_REPLY_BYTES * (1 + k.superblocks) ≤ length buffer
    → is_too_small k (Ok (Some (Admin Pool))) buffer ≡ false
table_fits k buffer wide enough =
    ap (λ b. b || nat_lt (length buffer) (MAX_REPLY_BYTES * (1 + k.superblocks))) (le-ltb (length buffer) LINE_BUFFER_BYTES wide)
    ∙ le-ltb (length buffer) (MAX_REPLY_BYTES * (1 + k.superblocks)) enough

pub table_is_too_long : (k : KernelContent) (buffer : List ℕ) → IsWide buffer → length buffer < MAX_REPLY_BYTES * (1 + k.superblocks)
    → is_too_small k (Ok (Some (Admin Pool))) buffer ≡ true
table_is_too_long k buffer wide less =
    ap (λ b. b || nat_lt (length buffer) (MAX_REPLY_BYTES * (1 + k.superblocks))) (le-ltb (length buffer) LINE_BUFFER_BYTES wide)
    ∙ lt-ltb (length buffer) (MAX_REPLY_BYTES * (1 + k.superblocks)) less

-- the table of owners has a line for its counts and one for each superblock
pub owners_counted : (k : KernelContent) (owners : List (Option Owner)) (rows : ℕ) → length owners ≡ k.superblocks
    → rows ≡ length (lines_of (record { addressee = To.Admin; body = Say.Owners (record { items = owners }) })) → rows ≡ 1 + k.superblocks
owners_counted k owners rows counted are =
    are ∙ sym (length-lines_of (record { addressee = To.Admin; body = Say.Owners (record { items = owners }) }) (record { items = owners }) refl)
    ∙ ap (λ n. 1 + n) counted

-- a line for each order, from order `first` on
length_orders : (front : List ℕ) (first : ℕ) (rows : List OrderRow) → length (order_texts front first rows) ≡ length rows
length_orders front first [] = refl
length_orders front first (row ∷ rows) = ap suc (length_orders front (first + 1) rows)

-- a report has one line for the frames, one for each order, and one for each cache
pub report_counted : (t : ℕ) (report : Report)
    → length (lines_of (record { addressee = To.Tenant t; body = Say.Report report })) ≡ 1 + length report.orders.items + length report.caches.items
report_counted t report =
    let front = addressee_text (To.Tenant t) in
    let orders = order_texts front 0 report.orders.items in
    let caches = map (λ (row : CacheRow). cache_text front row) report.caches.items in
    omega (
      arith,
      length-map (report_texts front report) (λ text. text ++ 10 ∷ []),
      length-append orders caches,
      length_orders front 0 report.orders.items,
      length-map report.caches.items (λ (row : CacheRow). cache_text front row),
    )
