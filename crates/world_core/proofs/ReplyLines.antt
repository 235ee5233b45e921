-- No line of a reply has an LF inside, so cutting the reply's text at its LFs returns the lines. A line that begins with
-- the number of one tenant and `>` does not begin with the number of another tenant and `>`.
use Rattle.model_core.specs.declared.owner.Owner.{Owner}
use Rattle.std.proofs.Common.{◌≡◌, ℕ, zero, suc, ◌+◌, Option, Some, None, is_none, count_by, length, slice_index, ◌<◌, ◌≤◌, ◌≢◌, ◌==◌, ◌/◌, ◌%◌, ◌&&◌, not, nat_eq, nat_le, Bool, true, false, if◌then◌else◌, List, [], ◌∷◌, ◌++◌, map, codes, decimal, refl, ap, sym, subst, ◌∙◌, arith, append_assoc}
use Rattle.std.specs.List.{list_all, concat, starts_with, onto_first}
use Rattle.std.specs.Fmt.{digits, digits_onto, digit_glyph}
use Rattle.std.proofs.lemmas.List.Folds.{list_all-append}
use Rattle.std.proofs.lemmas.Bool.{eq-eqb, eqb-true, lt-ltb, le-leb, leb-true, and_from, and_parts, not-true}
use Rattle.std.proofs.lemmas.Bool.Decides.{nat_tests}
use Rattle.hex.specs.Hex.{encode_with, lower_digits, encode_lower}
use Rattle.words_core.specs.declared.event.LineFault.TheVariants.{Long, Unknown, Words, Number, Hex}
use Rattle.words_core.specs.declared.reply.Addressee.{Addressee}
use Rattle.words_core.specs.declared.reply.Addressee.TheVariants.{Admin, Nobody, Tenant}
use Rattle.words_core.specs.declared.reply.Body.{Body}
use Rattle.words_core.specs.declared.reply.Body.TheVariants.{Granted, TakenBack, WasReset, Moved, Owners, Frame, Freed, Bytes, Written, Cache, Destroyed, Object, Given, Reaped, Report, Refused, Fault}
use Rattle.words_core.specs.declared.reply.Refusal.{Refusal}
use Rattle.words_core.specs.declared.event.LineFault.{LineFault}
use Rattle.words_core.specs.declared.reply.Refusal.TheVariants.{NoFrames, BadOrder, NotABlock, OutOfReach, BadLength, BadSize, BadAlign, NoCacheSlot, NoCache, CacheInUse, NotAnObject, NoTenant, PoolEmpty, NoSlot, SlotBusy}
use Rattle.words_core.specs.Cutting.{lines_of_trace}
use Rattle.model_core.specs.declared.report.OrderRow.{OrderRow}
use Rattle.model_core.specs.declared.report.CacheRow.{CacheRow}
use Rattle.words_core.specs.declared.report.Report as figures
use Rattle.words_core.specs.ReportTexts.{top_text, frames_text, order_text, order_texts, cache_text, report_texts}
use Rattle.words_core.specs.Texts.{addressee_text, body_texts, owner_text, owner_texts, number_of_refusal, name_of_refusal, name_of_fault}

-- the byte is not an LF
abbrev pub is_text : ℕ → Bool
is_text b = not (b == 10)

abbrev pub is_digit : ℕ → Bool
is_digit b = nat_le 48 b && nat_le b 57

-- the row has no LF
pub record IsText (row : List ℕ) : Type 0 where
  pub all : list_all is_text row ≡ true

-- no row has an LF
abbrev pub AreTexts : List (List ℕ) → Type 0
AreTexts [] = Unit {0}
AreTexts (row ∷ rows) = IsText row × AreTexts rows

-- decimals

glyph_digit : (d : ℕ) → d < 10 → is_digit (digit_glyph false d) ≡ true
glyph_digit d h = rw (lt-ltb d 10 h) (and_from _ _ (le-leb 48 (48 + d) (omega arith)) (le-leb (48 + d) 57 (omega arith)))

digits_onto_are : (k n : ℕ) (acc : List ℕ) → list_all is_digit acc ≡ true → list_all is_digit (digits_onto k 10 false n acc) ≡ true
digits_onto_are zero n acc h = h
digits_onto_are (suc k) n acc h =
    let one : list_all is_digit (digit_glyph false (n % 10) ∷ acc) ≡ true = and_from _ _ (glyph_digit (n % 10) (omega arith)) h in
    elim (n / 10 == 0) as (λ b. list_all is_digit (if b then digit_glyph false (n % 10) ∷ acc else digits_onto k 10 false (n / 10) (digit_glyph false (n % 10) ∷ acc)) ≡ true) [
      | true ↦ one
      | false ↦ digits_onto_are k (n / 10) (digit_glyph false (n % 10) ∷ acc) one
    ]

pub decimal_digits : (n : ℕ) → list_all is_digit (decimal n) ≡ true
unfolding digits
decimal_digits n = digits_onto_are 64 n [] refl

digit_text : (d : ℕ) → is_digit d ≡ true → is_text d ≡ true
digit_text d h =
    let low : 48 ≤ d = leb-true 48 d (and_parts (nat_le 48 d) _ h).0 in
    let other : (d == 10) ≡ false = grind (arith, nat_tests) in
    rw other refl

digits_texts : (ds : List ℕ) → list_all is_digit ds ≡ true → list_all is_text ds ≡ true
digits_texts [] h = refl
digits_texts (d ∷ ds) h =
    and_from _ _ (digit_text d (and_parts (is_digit d) _ h).0) (digits_texts ds (and_parts (is_digit d) _ h).1)

decimal_text : (n : ℕ) → list_all is_text (decimal n) ≡ true
decimal_text n = digits_texts (decimal n) (decimal_digits n)

-- bytes in hex

at_text : (xs : List ℕ) (i : ℕ) → list_all is_text xs ≡ true → is_text (slice_index xs i) ≡ true
at_text [] i h = refl
at_text (x ∷ xs) zero h = (and_parts (is_text x) _ h).0
at_text (x ∷ xs) (suc i) h = at_text xs i (and_parts (is_text x) _ h).1

nibble_text : (i : ℕ) → is_text (slice_index lower_digits i) ≡ true
nibble_text i = at_text lower_digits i refl

hex_text : (bytes : List ℕ) → list_all is_text (encode_lower bytes) ≡ true
unfolding encode_with
hex_text [] = refl
hex_text (b ∷ bytes) = and_from _ _ (nibble_text (b / 16)) (and_from _ _ (nibble_text (b % 16)) (hex_text bytes))

-- if a text without LF is followed by an LF and a rest, cutting into lines returns the text and then the lines of the rest
cut_one : (text rest : List ℕ) → list_all is_text text ≡ true → lines_of_trace ((text ++ 10 ∷ []) ++ rest) ≡ text ∷ lines_of_trace rest
cut_one [] rest h = refl
cut_one (b ∷ text) rest h =
    let other : (b == 10) ≡ false = not-true (b == 10) (and_parts (is_text b) _ h).0 in
    rw other (ap (onto_first b) (cut_one text rest (and_parts (is_text b) _ h).1))

pub cut_rows : (rows : List (List ℕ)) (rest : List ℕ) → AreTexts rows
    → lines_of_trace (concat (map (λ text. text ++ 10 ∷ []) rows) ++ rest) ≡ rows ++ lines_of_trace rest
cut_rows [] rest h = refl
cut_rows (row ∷ rows) rest h =
    ap lines_of_trace (append_assoc (row ++ 10 ∷ []) _ rest)
    ∙ cut_one row _ h.0.all
    ∙ ap (λ lines. row ∷ lines) (cut_rows rows rest h.1)

refusal_text : (refusal : Refusal) → list_all is_text (name_of_refusal refusal) ≡ true
refusal_text NoFrames = refl
refusal_text BadOrder = refl
refusal_text NotABlock = refl
refusal_text OutOfReach = refl
refusal_text BadLength = refl
refusal_text BadSize = refl
refusal_text BadAlign = refl
refusal_text NoCacheSlot = refl
refusal_text NoCache = refl
refusal_text CacheInUse = refl
refusal_text NotAnObject = refl
refusal_text NoTenant = refl
refusal_text PoolEmpty = refl
refusal_text NoSlot = refl
refusal_text SlotBusy = refl

fault_text : (fault : LineFault) → list_all is_text (name_of_fault fault) ≡ true
fault_text Long = refl
fault_text Unknown = refl
fault_text Words = refl
fault_text Number = refl
fault_text Hex = refl

-- if neither a text nor a piece after it has an LF, the two together have none
with_piece : {front : List ℕ} → IsText front → (more : List ℕ) → list_all is_text more ≡ true → IsText (front ++ more)
with_piece {front} text more h = record { all = list_all-append is_text front more ∙ and_from _ _ text.all h }

with_number : {front : List ℕ} → IsText front → (n : ℕ) → IsText (front ++ decimal n)
with_number text n = with_piece text (decimal n) (decimal_text n)

owner_is_text : (front : List ℕ) (superblock : ℕ) (owner : Option Owner) → IsText front → IsText (owner_text front superblock owner)
owner_is_text front superblock None h = with_piece (with_number (with_piece h (codes "superblock ") refl) superblock) (codes " free") refl
owner_is_text front superblock (Some owner) h =
    let of_tenant = with_number (with_piece (with_number (with_piece h (codes "superblock ") refl) superblock) (codes " tenant ") refl) owner.tenant in
    with_number (with_piece of_tenant (codes " slot ") refl) owner.slot

owners_are_texts : (front : List ℕ) (superblock : ℕ) (owners : List (Option Owner)) → IsText front → AreTexts (owner_texts front superblock owners)
owners_are_texts front superblock [] h = tt
owners_are_texts front superblock (owner ∷ owners) h = (owner_is_text front superblock owner h, owners_are_texts front (superblock + 1) owners h)

pub texts-append : (xs ys : List (List ℕ)) → AreTexts xs → AreTexts ys → AreTexts (xs ++ ys)
texts-append [] ys h k = k
texts-append (x ∷ xs) ys h k = (h.0, texts-append xs ys h.1 k)

-- The rows of a report

top_is_text : (top : Option ℕ) → list_all is_text (top_text top) ≡ true
top_is_text None = refl
top_is_text (Some order) = decimal_text order

frames_are_text : (front : List ℕ) (report : figures.Report) → IsText front → IsText (frames_text front report)
frames_are_text front report h =
    let of_frames = with_number (with_piece h (codes "frames ") refl) report.frames in
    let of_live = with_number (with_piece of_frames (codes " live ") refl) report.live in
    let of_free = with_number (with_piece of_live (codes " free ") refl) report.free in
    let of_top = with_piece (with_piece of_free (codes " top ") refl) (top_text report.top) (top_is_text report.top) in
    with_number (with_piece of_top (codes " split ") refl) report.split

order_is_text : (front : List ℕ) (order : ℕ) (row : OrderRow) → IsText front → IsText (order_text front order row)
order_is_text front order row h =
    let of_order = with_number (with_piece h (codes "order ") refl) order in
    let of_free = with_number (with_piece of_order (codes " free ") refl) row.free in
    with_number (with_piece of_free (codes " taken ") refl) row.taken

orders_are_texts : (front : List ℕ) (order : ℕ) (rows : List OrderRow) → IsText front → AreTexts (order_texts front order rows)
orders_are_texts front order [] h = tt
orders_are_texts front order (row ∷ rows) h = (order_is_text front order row h, orders_are_texts front (order + 1) rows h)

cache_is_text : (front : List ℕ) (row : CacheRow) → IsText front → IsText (cache_text front row)
cache_is_text front row h =
    let of_cache = with_number (with_piece h (codes "cache ") refl) row.cache in
    let of_full = with_number (with_piece of_cache (codes " full ") refl) row.full in
    let of_partial = with_number (with_piece of_full (codes " partial ") refl) row.partial in
    let of_empty = with_number (with_piece of_partial (codes " empty ") refl) row.empty in
    with_number (with_piece of_empty (codes " live ") refl) row.live

caches_are_texts : (front : List ℕ) (rows : List CacheRow) → IsText front → AreTexts (map (λ row. cache_text front row) rows)
caches_are_texts front [] h = tt
caches_are_texts front (row ∷ rows) h = (cache_is_text front row h, caches_are_texts front rows h)

report_is_text : (front : List ℕ) (report : figures.Report) → IsText front → AreTexts (report_texts front report)
report_is_text front report h =
    (frames_are_text front report h, texts-append _ _ (orders_are_texts front 0 report.orders.items h) (caches_are_texts front report.caches.items h))

layout_is_text : (front : List ℕ) (number chunk order objects colours : ℕ) → IsText front → AreTexts (body_texts front (Cache number chunk order objects colours))
layout_is_text front number chunk order objects colours h =
    let of_cache = with_number (with_piece h (codes "cache ") refl) number in
    let of_chunk = with_number (with_piece of_cache (codes " chunk ") refl) chunk in
    let of_order = with_number (with_piece of_chunk (codes " order ") refl) order in
    let of_objects = with_number (with_piece of_order (codes " objects ") refl) objects in
    (with_number (with_piece of_objects (codes " colours ") refl) colours, tt)

-- The rows of a reply

pub body_text : (front : List ℕ) (body : Body) → IsText front → AreTexts (body_texts front body)
body_text front (Granted tenant slot superblock) h =
    let of_tenant = with_number (with_piece h (codes "granted ") refl) tenant in
    let of_slot = with_number (with_piece of_tenant (codes " slot ") refl) slot in
    (with_number (with_piece of_slot (codes " superblock ") refl) superblock, tt)
body_text front (TakenBack superblock) h = (with_number (with_piece h (codes "taken superblock ") refl) superblock, tt)
body_text front (WasReset tenant superblocks) h =
    let of_tenant = with_number (with_piece h (codes "reset ") refl) tenant in
    (with_number (with_piece of_tenant (codes " superblocks ") refl) superblocks, tt)
body_text front (Moved tenant slot superblock) h =
    let of_tenant = with_number (with_piece h (codes "moved ") refl) tenant in
    let of_slot = with_number (with_piece of_tenant (codes " slot ") refl) slot in
    (with_number (with_piece of_slot (codes " superblock ") refl) superblock, tt)
body_text front (Owners owners) h =
    let of_free = with_number (with_piece h (codes "pool free ") refl) (count_by is_none owners.items) in
    (with_number (with_piece of_free (codes " of ") refl) (length owners.items), owners_are_texts front 0 owners.items h)
body_text front (Freed order) h = (with_number (with_piece h (codes "freed ") refl) order, tt)
body_text front (Written count) h = (with_number (with_piece h (codes "written ") refl) count, tt)
body_text front (Frame frame) h = (with_number (with_piece h (codes "frame ") refl) frame, tt)
body_text front (Bytes bytes) h = (with_piece (with_piece h (codes "bytes ") refl) (encode_lower bytes.items) (hex_text bytes.items), tt)
body_text front (Cache number chunk order objects colours) h = layout_is_text front number chunk order objects colours h
body_text front (Destroyed frames) h = (with_number (with_piece h (codes "destroyed ") refl) frames, tt)
body_text front (Object place) h = (with_number (with_piece h (codes "object ") refl) place, tt)
body_text front Given h = (with_piece h (codes "given") refl, tt)
body_text front (Reaped frames) h = (with_number (with_piece h (codes "reaped ") refl) frames, tt)
body_text front (Report report) h = report_is_text front report h
body_text front (Refused refusal) h =
    let of_number = with_number (with_piece h (codes "refused ") refl) (number_of_refusal refusal) in
    (with_piece (with_piece of_number (codes " ") refl) (name_of_refusal refusal) (refusal_text refusal), tt)
body_text front (Fault fault) h = (with_piece (with_piece h (codes "fault ") refl) (name_of_fault fault) (fault_text fault), tt)

pub addressee_is_text : (addressee : Addressee) → IsText (addressee_text addressee)
addressee_is_text Admin = record { all = refl }
addressee_is_text Nobody = record { all = refl }
addressee_is_text (Tenant tenant) = with_piece (record { all = decimal_text tenant }) (codes "> ") refl

-- the addressee of a row

differ : (a b : ℕ) → a ≢ b → nat_eq a b ≡ false
differ a b h = grind (arith, nat_tests)

pub starts_same : (front rest : List ℕ) → starts_with nat_eq (front ++ rest) front ≡ true
starts_same [] rest = refl
starts_same (b ∷ front) rest = and_from _ _ (eq-eqb b b refl) (starts_same front rest)

-- a row whose first byte is neither a digit nor `>` does not begin with digits and `>`
pub starts_apart : (b : ℕ) (rest ds tail : List ℕ) → is_digit b ≡ false → (62 == b) ≡ false → list_all is_digit ds ≡ true
    → starts_with nat_eq (b ∷ rest) (ds ++ 62 ∷ tail) ≡ false
starts_apart b rest [] tail unlike apart h = rw apart refl
starts_apart b rest (d ∷ ds) tail unlike apart h =
    let other : nat_eq d b ≡ false = differ d b (λ e. cc (unlike, subst (λ x. is_digit x ≡ true) e (and_parts (is_digit d) _ h).0)) in
    rw other refl

-- `>` is not a digit
no_mark : (d : ℕ) → is_digit d ≡ true → d ≡ 62 → ⊥
no_mark d h e = let wrong : false ≡ true = subst (λ x. is_digit x ≡ true) e h in cc

-- if a row begins with digits and `>`, it begins with no other digits and `>`
pub starts_number : (ds es tail rest : List ℕ) → list_all is_digit ds ≡ true → list_all is_digit es ≡ true
    → starts_with nat_eq (ds ++ 62 ∷ rest) (es ++ 62 ∷ tail) ≡ true → es ≡ ds
starts_number [] [] tail rest h g found = refl
starts_number [] (e ∷ es) tail rest h g found = absurd (no_mark e (and_parts (is_digit e) _ g).0 (eqb-true e 62 (and_parts (nat_eq e 62) _ found).0))
starts_number (d ∷ ds) [] tail rest h g found = absurd (no_mark d (and_parts (is_digit d) _ h).0 (sym (eqb-true 62 d (and_parts (nat_eq 62 d) _ found).0)))
starts_number (d ∷ ds) (e ∷ es) tail rest h g found =
    let same = eqb-true e d (and_parts (nat_eq e d) _ found).0 in
    let more = starts_number ds es tail rest (and_parts (is_digit d) _ h).1 (and_parts (is_digit e) _ g).1 (and_parts (nat_eq e d) _ found).1 in
    cc
