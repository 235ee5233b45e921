-- The lines of a tenant in the output of a trace are the texts of the replies addressed to it.
use Rattle.model_core.specs.declared.owner.Owner.{Owner}
use Rattle.std.proofs.Common.{◌≡◌, ℕ, ◌+◌, count_by, ◌<◌, ◌≤◌, ◌^◌, ◌≢◌, ◌==◌, nat_eq, Bool, true, false, not, List, [], ◌∷◌, ◌++◌, Option, Some, None, Result, Ok, Err, is_none, position, length, slice_get, map, filter, codes, decimal, refl, ap, sym, subst, ◌∙◌, inl, inr, arith, append_assoc}
use Rattle.std.specs.Prelude.{if◌then◌else◌}
use Rattle.std.specs.List.{starts_with}
use Rattle.std.proofs.lemmas.List.{append-nil, length-set, length-replicate, map-append}
use Rattle.std.proofs.lemmas.List.Elements.{filter-append}
use Rattle.std.proofs.lemmas.Grind.{flat_map-append}
use Rattle.std.proofs.lemmas.Option.{slice_get_within}
use Rattle.std.proofs.lemmas.Fmt.{decimal_injective}
use Rattle.std.proofs.lemmas.Bool.{cases_eq, false_from_ne_true}
use Rattle.model_core.specs.Machine.{Machine, empty_machine, holds}
use Rattle.model_core.specs.Operations.{take_back_step}
use Rattle.model_core.specs.declared.refusals.TakeBackRefusal.{TakeBackRefusal}
use Rattle.hex.specs.Hex.{encode_lower}
use Rattle.words_core.specs.declared.event.Event.{Event}
use Rattle.words_core.specs.declared.event.Event.TheVariants as On
use Rattle.words_core.specs.declared.event.AdminCommand.TheVariants as Do
use Rattle.words_core.specs.declared.event.Command.{Command}
use Rattle.words_core.specs.declared.event.LineFault.{LineFault}
use Rattle.words_core.specs.declared.reply.Addressee.{Addressee}
use Rattle.words_core.specs.declared.reply.Addressee.TheVariants.{Admin, Nobody, Tenant}
use Rattle.words_core.specs.declared.reply.Body.{Body}
use Rattle.words_core.specs.declared.reply.Body.TheVariants.{Granted, TakenBack, WasReset, Moved, Owners, Frame, Freed, Bytes, Written, Cache, Destroyed, Object, Given, Reaped, Report, Refused, Fault}
use Rattle.words_core.specs.declared.reply.Refusal.TheVariants.{NoSlot}
use Rattle.words_core.specs.declared.reply.Reply.{Reply}
use Rattle.words_core.specs.Cutting.{lines_of_trace}
use Rattle.words_core.specs.Grammar.{reading_of}
use Rattle.model_core.specs.declared.report.OrderRow.{OrderRow}
use Rattle.model_core.specs.declared.report.CacheRow.{CacheRow}
use Rattle.words_core.specs.declared.report.Report as figures
use Rattle.words_core.specs.ReportTexts.{top_text, frames_text, order_text, order_texts, cache_text, report_texts}
use Rattle.words_core.specs.Texts.{addressee_text, body_texts, owner_text, owner_texts, number_of_refusal, name_of_refusal, name_of_fault, text_of}
use Rattle.world_core.specs.World.{World, WorldStep, answer, grant_step, tenant_step, take_back_answered, slot_step, reset_step, moved_to, move_step, world_step, world_after, history, opening_world}
use Rattle.world_core.specs.OwnList.{if_for, replies_to}
use Rattle.world_core.specs.Output.{shown_reading, shown_lines, output_of, event_in, events_of, lines_for, texts_for}
use Rattle.world_core.specs.Laws.{OwnLines, SameLines, private_lines, opening_history}
use Rattle.world_core.specs.PrivateRun.{private_run}
use Rattle.world_core.proofs.ReplyLines.{AreTexts, body_text, addressee_is_text, cut_rows, decimal_digits, starts_same, starts_apart, starts_number}
use Rattle.world_core.proofs.OwnListRuns as runs

behind_2 : (front a b : List ℕ) → (front ++ a) ++ b ≡ front ++ (([] ++ a) ++ b)
behind_2 front a b = append_assoc front a b

behind_3 : (front a b c : List ℕ) → ((front ++ a) ++ b) ++ c ≡ front ++ ((([] ++ a) ++ b) ++ c)
behind_3 front a b c = simp append_assoc

behind_4 : (front a b c d : List ℕ) → (((front ++ a) ++ b) ++ c) ++ d ≡ front ++ (((([] ++ a) ++ b) ++ c) ++ d)
behind_4 front a b c d = simp append_assoc

behind_6 : (front a b c d e f : List ℕ) → (((((front ++ a) ++ b) ++ c) ++ d) ++ e) ++ f ≡ front ++ (((((([] ++ a) ++ b) ++ c) ++ d) ++ e) ++ f)
behind_6 front a b c d e f = simp append_assoc

behind_10 : (front a b c d e f g h i j : List ℕ) → (((((((((front ++ a) ++ b) ++ c) ++ d) ++ e) ++ f) ++ g) ++ h) ++ i) ++ j
    ≡ front ++ (((((((((([] ++ a) ++ b) ++ c) ++ d) ++ e) ++ f) ++ g) ++ h) ++ i) ++ j)
behind_10 front a b c d e f g h i j = simp append_assoc

owner_fronted : (front : List ℕ) (superblock : ℕ) (owner : Option Owner) → owner_text front superblock owner ≡ front ++ owner_text [] superblock owner
owner_fronted front superblock None = behind_3 front (codes "superblock ") (decimal superblock) (codes " free")
owner_fronted front superblock (Some owner) =
    behind_6 front (codes "superblock ") (decimal superblock) (codes " tenant ") (decimal owner.tenant) (codes " slot ") (decimal owner.slot)

both_rows : {row row' : List ℕ} {rows rows' : List (List ℕ)} → row ≡ row' → rows ≡ rows' → row ∷ rows ≡ row' ∷ rows'
both_rows same same_rows = cc

owners_fronted : (front : List ℕ) (superblock : ℕ) (owners : List (Option Owner))
    → owner_texts front superblock owners ≡ map (λ row. front ++ row) (owner_texts [] superblock owners)
owners_fronted front superblock [] = refl
owners_fronted front superblock (owner ∷ owners) =
    both_rows (owner_fronted front superblock owner) (owners_fronted front (superblock + 1) owners)

order_fronted : (front : List ℕ) (order : ℕ) (row : OrderRow) → order_text front order row ≡ front ++ order_text [] order row
order_fronted front order row = behind_6 front (codes "order ") (decimal order) (codes " free ") (decimal row.free) (codes " taken ") (decimal row.taken)

orders_fronted : (front : List ℕ) (order : ℕ) (rows : List OrderRow) → order_texts front order rows ≡ map (λ row. front ++ row) (order_texts [] order rows)
orders_fronted front order [] = refl
orders_fronted front order (row ∷ rows) = both_rows (order_fronted front order row) (orders_fronted front (order + 1) rows)

cache_fronted : (front : List ℕ) (row : CacheRow) → cache_text front row ≡ front ++ cache_text [] row
cache_fronted front row =
    behind_10 front (codes "cache ") (decimal row.cache) (codes " full ") (decimal row.full) (codes " partial ") (decimal row.partial)
    (codes " empty ") (decimal row.empty) (codes " live ") (decimal row.live)

caches_fronted : (front : List ℕ) (rows : List CacheRow)
    → map (λ row. cache_text front row) rows ≡ map (λ row. front ++ row) (map (λ row. cache_text [] row) rows)
caches_fronted front [] = refl
caches_fronted front (row ∷ rows) = both_rows (cache_fronted front row) (caches_fronted front rows)

frames_fronted : (front : List ℕ) (report : figures.Report) → frames_text front report ≡ front ++ frames_text [] report
frames_fronted front report =
    behind_10 front (codes "frames ") (decimal report.frames) (codes " live ") (decimal report.live) (codes " free ") (decimal report.free)
    (codes " top ") (top_text report.top) (codes " split ") (decimal report.split)

report_fronted : (front : List ℕ) (report : figures.Report) → report_texts front report ≡ map (λ row. front ++ row) (report_texts [] report)
report_fronted front report =
    both_rows (frames_fronted front report)
    (ap (λ rows. rows ++ map (λ row. cache_text front row) report.caches.items) (orders_fronted front 0 report.orders.items)
    ∙ (ap (λ rows. map (λ row. front ++ row) (order_texts [] 0 report.orders.items) ++ rows) (caches_fronted front report.caches.items)
    ∙ sym (map-append (λ row. front ++ row) (order_texts [] 0 report.orders.items) (map (λ row. cache_text [] row) report.caches.items))))

alone : List ℕ → List (List ℕ)
alone row = row ∷ []

-- A front is the text of the addressee, with which each line of a reply begins. Each line of a body with a front is the front,
-- followed by the line that the body has with the empty front.
fronted : (front : List ℕ) (body : Body) → body_texts front body ≡ map (λ row. front ++ row) (body_texts [] body)
unfolding alone
fronted front (Granted tenant slot superblock) =
    ap alone (behind_6 front (codes "granted ") (decimal tenant) (codes " slot ") (decimal slot) (codes " superblock ") (decimal superblock))
fronted front (TakenBack superblock) = ap alone (behind_2 front (codes "taken superblock ") (decimal superblock))
fronted front (WasReset tenant superblocks) =
    ap alone (behind_4 front (codes "reset ") (decimal tenant) (codes " superblocks ") (decimal superblocks))
fronted front (Moved tenant slot superblock) =
    ap alone (behind_6 front (codes "moved ") (decimal tenant) (codes " slot ") (decimal slot) (codes " superblock ") (decimal superblock))
fronted front (Owners owners) =
    both_rows (behind_4 front (codes "pool free ") (decimal (count_by is_none owners.items)) (codes " of ") (decimal (length owners.items)))
    (owners_fronted front 0 owners.items)
fronted front (Freed order) = ap alone (behind_2 front (codes "freed ") (decimal order))
fronted front (Written count) = ap alone (behind_2 front (codes "written ") (decimal count))
fronted front (Frame frame) = ap alone (behind_2 front (codes "frame ") (decimal frame))
fronted front (Bytes bytes) = ap alone (behind_2 front (codes "bytes ") (encode_lower bytes.items))
fronted front (Cache number chunk order objects colours) =
    ap alone (behind_10 front (codes "cache ") (decimal number) (codes " chunk ") (decimal chunk) (codes " order ") (decimal order)
    (codes " objects ") (decimal objects) (codes " colours ") (decimal colours))
fronted front (Destroyed frames) = ap alone (behind_2 front (codes "destroyed ") (decimal frames))
fronted front (Object place) = ap alone (behind_2 front (codes "object ") (decimal place))
fronted front Given = refl
fronted front (Reaped frames) = ap alone (behind_2 front (codes "reaped ") (decimal frames))
fronted front (Report report) = report_fronted front report
fronted front (Refused refusal) =
    ap alone (behind_4 front (codes "refused ") (decimal (number_of_refusal refusal)) (codes " ") (name_of_refusal refusal))
fronted front (Fault fault) = ap alone (behind_2 front (codes "fault ") (name_of_fault fault))

-- If a test gives the same result for every row with this front, a filter keeps either all rows with this front or none.

kept_all : (p : List ℕ → Bool) (front : List ℕ) (rows : List (List ℕ)) → ((row : List ℕ) → p (front ++ row) ≡ true)
    → filter p (map (λ row. front ++ row) rows) ≡ map (λ row. front ++ row) rows
kept_all p front [] h = refl
kept_all p front (row ∷ rows) h = rw (h row) (ap (λ more. (front ++ row) ∷ more) (kept_all p front rows h))

kept_none : (p : List ℕ → Bool) (front : List ℕ) (rows : List (List ℕ)) → ((row : List ℕ) → p (front ++ row) ≡ false)
    → filter p (map (λ row. front ++ row) rows) ≡ []
kept_none p front [] h = refl
kept_none p front (row ∷ rows) h = rw (h row) (kept_none p front rows h)

-- the row begins with the number of tenant t and `> `
abbrev pub tells : ℕ → List ℕ → Bool
tells t row = starts_with nat_eq row (decimal t ++ codes "> ")

-- if the addressee is a tenant, its number is below 2 ^ 64, so `decimal` writes it in full
abbrev pub IsSmall : Addressee → Type 0
IsSmall Admin = Unit {0}
IsSmall Nobody = Unit {0}
IsSmall (Tenant named) = named < 2 ^ 64

row_of_other : (t named : ℕ) (row : List ℕ) → t < 2 ^ 64 → named < 2 ^ 64 → named ≢ t → tells t ((decimal named ++ codes "> ") ++ row) ≡ false
row_of_other t named row small small' other =
    ap (tells t) (append_assoc (decimal named) (codes "> ") row)
    ∙ false_from_ne_true (tells t (decimal named ++ (codes "> " ++ row))) (λ found.
    other (sym (decimal_injective t named small small'
    (starts_number (decimal named) (decimal t) (32 ∷ []) (32 ∷ row) (decimal_digits named) (decimal_digits t) found))))

rows_same : (t : ℕ) (body : Body) → filter (tells t) (body_texts (addressee_text (Tenant t)) body) ≡ texts_for t (if_for t (Tenant t) body)
rows_same t body =
    rw (runs.is_same t)
    (ap (filter (tells t)) (fronted (addressee_text (Tenant t)) body)
    ∙ kept_all (tells t) (addressee_text (Tenant t)) _ (λ row. starts_same (addressee_text (Tenant t)) row)
    ∙ sym (fronted (addressee_text (Tenant t)) body)
    ∙ sym (append-nil (body_texts (addressee_text (Tenant t)) body)))

-- filtering the rows of a reply by `tells t` keeps all rows if the reply is addressed to tenant t, and none otherwise
rows_for : (t : ℕ) (addressee : Addressee) (body : Body) → t < 2 ^ 64 → IsSmall addressee
    → filter (tells t) (body_texts (addressee_text addressee) body) ≡ texts_for t (if_for t addressee body)
rows_for t Admin body small small' =
    ap (filter (tells t)) (fronted (codes "admin> ") body)
    ∙ kept_none (tells t) (codes "admin> ") _ (λ row. starts_apart 97 (codes "dmin> " ++ row) (decimal t) (32 ∷ []) refl refl (decimal_digits t))
rows_for t Nobody body small small' =
    ap (filter (tells t)) (fronted (codes "!> ") body)
    ∙ kept_none (tells t) (codes "!> ") _ (λ row. starts_apart 33 (codes "> " ++ row) (decimal t) (32 ∷ []) refl refl (decimal_digits t))
rows_for t (Tenant named) body small small' =
    elim (cases_eq named t) [
      | inl same ↦ subst (λ n. filter (tells t) (body_texts (addressee_text (Tenant n)) body) ≡ texts_for t (if_for t (Tenant n) body)) (sym same) (rows_same t body)
      | inr other ↦
          let unlike : (named == t) ≡ false = runs.is_other named t other in
          rw unlike
          (ap (filter (tells t)) (fronted (addressee_text (Tenant named)) body)
          ∙ kept_none (tells t) (addressee_text (Tenant named)) _ (λ row. row_of_other t named row small small' other))
    ]

-- no row of a reply has an LF
texts_of_reply : (reply : Reply) → AreTexts (body_texts (addressee_text reply.addressee) reply.body)
texts_of_reply reply = body_text _ reply.body (addressee_is_text reply.addressee)

-- Suppose that a reply's text is followed by `rest`. Tenant t's lines in the whole are then the lines of the reply, if it is
-- addressed to t, followed by t's lines in `rest`.
reply_lines : (t : ℕ) (reply : Reply) (rest : List ℕ) → t < 2 ^ 64 → IsSmall reply.addressee
    → lines_for t (text_of reply ++ rest) ≡ texts_for t (if_for t reply.addressee reply.body) ++ lines_for t rest
reply_lines t reply rest small small' =
    ap (filter (tells t)) (cut_rows (body_texts (addressee_text reply.addressee) reply.body) rest (texts_of_reply reply))
    ∙ filter-append (tells t) (body_texts (addressee_text reply.addressee) reply.body) (lines_of_trace rest)
    ∙ ap (λ rows. rows ++ lines_for t rest) (rows_for t reply.addressee reply.body small small')

-- A step of the world keeps the number of tenants. If there are at most 2 ^ 64 tenants, `IsSmall` is true of the addressee of
-- the step's reply.

pub record StaysNumbered (w : World) (s : WorldStep) : Type 0 where
  pub tenants : length s.world.machines ≡ length w.machines
  pub addressee : length w.machines ≤ 2 ^ 64 → IsSmall s.reply.addressee

tenant_stays : (limit order named : ℕ) (command : Command) (w : World) (o : Option Machine) → slice_get w.machines named ≡ o
    → StaysNumbered w (tenant_step limit order named command w o)
unfolding tenant_step answer
tenant_stays limit order named command w None is = record { tenants = refl; addressee = λ many. tt }
tenant_stays limit order named command w (Some m) is = record {
  tenants = length-set w.machines named _;
  addressee = λ many. let within : named < length w.machines = slice_get_within w.machines named m is in omega arith;
}

grant_stays : (order named : ℕ) (w : World) (o : Option Machine) (free : Option ℕ) → StaysNumbered w (grant_step order named w o free)
unfolding grant_step answer
grant_stays order named w None free = record { tenants = refl; addressee = λ many. tt }
grant_stays order named w (Some m) None = record { tenants = refl; addressee = λ many. tt }
grant_stays order named w (Some m) (Some superblock) = record { tenants = length-set w.machines named _; addressee = λ many. tt }

taken_back_stays : (named slot : ℕ) (w : World) (after : Machine) (answered : Result (Unit {0}) TakeBackRefusal) → StaysNumbered w (take_back_answered named slot w after answered)
unfolding answer
taken_back_stays named slot w after (Ok done) = record { tenants = length-set w.machines named _; addressee = λ many. tt }
taken_back_stays named slot w after (Err refusal) = record { tenants = refl; addressee = λ many. tt }

slot_stays : (order named slot : ℕ) (w : World) (o : Option Machine) → StaysNumbered w (slot_step order named slot w o)
unfolding slot_step answer
slot_stays order named slot w None = record { tenants = refl; addressee = λ many. tt }
slot_stays order named slot w (Some m) = taken_back_stays named slot w _ (take_back_step order slot m).answer

reset_stays : (named : ℕ) (w : World) (o : Option Machine) → StaysNumbered w (reset_step named w o)
unfolding reset_step answer
reset_stays named w None = record { tenants = refl; addressee = λ many. tt }
reset_stays named w (Some m) = record { tenants = length-set w.machines named _; addressee = λ many. tt }

moved_stays : (named slot : ℕ) (w : World) (free : Option ℕ) → StaysNumbered w (moved_to named slot w free)
unfolding answer
moved_stays named slot w None = record { tenants = refl; addressee = λ many. tt }
moved_stays named slot w (Some superblock) = record { tenants = refl; addressee = λ many. tt }

move_stays : (named slot : ℕ) (w : World) (o : Option Machine) (free : Option ℕ) → StaysNumbered w (move_step named slot w o free)
unfolding move_step answer
move_stays named slot w None free = record { tenants = refl; addressee = λ many. tt }
move_stays named slot w (Some m) free = go (holds m slot)
  where
    go : (held : Bool) → StaysNumbered w (if not held then answer Admin (Refused NoSlot) w else moved_to named slot w free)
    go true = moved_stays named slot w free
    go false = record { tenants = refl; addressee = λ many. tt }

step_stays : (limit order : ℕ) (event : Event) (w : World) → StaysNumbered w (world_step limit order event w)
unfolding world_step answer
step_stays limit order (On.Tenant named command) w = tenant_stays limit order named command w (slice_get w.machines named) refl
step_stays limit order (On.Admin (Do.Grant named)) w = grant_stays order named w (slice_get w.machines named) (position is_none w.owners)
step_stays limit order (On.Admin (Do.TakeBack named slot)) w = slot_stays order named slot w (slice_get w.machines named)
step_stays limit order (On.Admin (Do.Reset named)) w = reset_stays named w (slice_get w.machines named)
step_stays limit order (On.Admin (Do.Move named slot)) w = move_stays named slot w (slice_get w.machines named) (position is_none w.owners)
step_stays limit order (On.Admin Do.Pool) w = record { tenants = refl; addressee = λ many. tt }

-- if these lines of a trace run in any world of at most 2 ^ 64 tenants, tenant t's lines of output are the texts of its replies
abbrev pub Tell : ℕ → ℕ → ℕ → List (List ℕ) → Type 0
Tell limit order t lines = (w : World) → length w.machines ≤ 2 ^ 64
    → lines_for t (shown_lines None limit order lines w) ≡ texts_for t (replies_to t (history limit order w (events_of lines)))

-- if `Tell` is true of some lines, and one more line runs before them, tenant t's lines of output are still the texts of its
-- replies
reading_tells : (limit order t : ℕ) (reading : Result (Option Event) LineFault) (lines : List (List ℕ)) (w : World) → t < 2 ^ 64
    → length w.machines ≤ 2 ^ 64 → Tell limit order t lines
    → lines_for t (shown_reading None limit order reading w ++ shown_lines None limit order lines (world_after limit order w (event_in reading)))
    ≡ texts_for t (replies_to t (history limit order w (event_in reading ++ events_of lines)))
reading_tells limit order t (Ok None) lines w small many more = more w many
reading_tells limit order t (Ok (Some event)) lines w small many more =
    let stays = step_stays limit order event w in
    let s : WorldStep = world_step limit order event w in
    reply_lines t s.reply _ small (stays.addressee many)
    ∙ ap (λ rows. texts_for t (if_for t s.reply.addressee s.reply.body) ++ rows) (more s.world (omega (arith, stays.tenants)))
    ∙ sym (flat_map-append (body_texts (addressee_text (Tenant t))) (if_for t s.reply.addressee s.reply.body) _)
reading_tells limit order t (Err fault) lines w small many more =
    reply_lines t (record { addressee = Nobody; body = Fault fault }) _ small tt ∙ more w many

pub lines_tell : (limit order t : ℕ) (lines : List (List ℕ)) → t < 2 ^ 64 → Tell limit order t lines
lines_tell limit order t [] small w many = refl
lines_tell limit order t (line ∷ lines) small w many =
    reading_tells limit order t (reading_of line) lines w small many (lines_tell limit order t lines small)

pub own_lines : OwnLines
unfolding output_of private_lines opening_history opening_world
own_lines limit order superblocks tenants t trace many here =
    lines_tell limit order t (lines_of_trace trace) (omega arith) (opening_world superblocks tenants)
    (omega (arith, length-replicate tenants empty_machine))
    ∙ ap (texts_for t) (runs.own_run limit order superblocks tenants t (events_of (lines_of_trace trace)) here).replies

pub same_lines : SameLines
unfolding private_lines
same_lines limit order superblocks tenants superblocks' tenants' t trace trace' many many' same =
    own_lines limit order superblocks tenants t trace many same.tenant
    ∙ ap (λ own. texts_for t (private_run limit order own empty_machine).replies) same.own
    ∙ sym (own_lines limit order superblocks' tenants' t trace' many' same.tenant')
