-- If bytes begin with the text of a reply, their first lines are the lines of this reply. The text has at most `MAX_TEXT_BYTES`
-- bytes.
use Rattle.std.proofs.Common.{◌≡◌, ℕ, zero, suc, ◌+◌, ◌*◌, ◌/◌, ◌%◌, ◌≤◌, Bool, true, false, cond, not, List, [], ◌∷◌, ◌++◌, length, get_or, drop, Option, Some, None, refl, sym, ap, ◌∙◌, arith, append_assoc, append-nil, length-append}
use Rattle.std.specs.Prelude.{codes, decimal, ◌==◌, nat_le, if◌then◌else◌, count_by, is_none}
use Rattle.std.specs.List.{list_all}
use Rattle.std.specs.Fmt.{digits, digits_onto, digit_glyph}
use Rattle.std.proofs.lemmas.Bool.{leb-true, and_parts}
use Rattle.std.proofs.lemmas.Fmt.{length-decimal-le}
use Rattle.hex.specs.Hex.{encode_with, encode_lower}
use Rattle.model_core.specs.declared.owner.Owner.{Owner}
use Rattle.model_core.specs.declared.report.OrderRow.{OrderRow}
use Rattle.model_core.specs.declared.report.CacheRow.{CacheRow}
use Rattle.streams.specs.Lines.{IsOneLine}
use Rattle.words_core.specs.declared.event.LineFault.{LineFault}
use Rattle.words_core.specs.declared.event.LineFault.TheVariants.{Long}
use Rattle.words_core.specs.declared.report.Report as figures
use Rattle.words_core.specs.declared.reply.Addressee.{Addressee}
use Rattle.words_core.specs.declared.reply.Addressee.TheVariants.{Admin, Nobody, Tenant}
use Rattle.words_core.specs.declared.reply.Body.{Body}
use Rattle.words_core.specs.declared.reply.Body.TheVariants.{Granted, TakenBack, WasReset, Moved, Owners, Frame, Freed, Bytes, Written, Cache, Destroyed, Object, Given, Reaped, Report, Refused, Fault}
use Rattle.words_core.specs.declared.reply.Refusal.{Refusal}
use Rattle.words_core.specs.declared.reply.Refusal.TheVariants.{NoFrames}
use Rattle.words_core.specs.declared.reply.Reply.{Reply}
use Rattle.words_core.specs.Texts.{number_of_refusal, name_of_refusal, name_of_fault, addressee_text, body_texts, text_of}
use Rattle.world_core.proofs.ReplyLines.{AreTexts, addressee_is_text, body_text}
use Rattle.trace_check.specs.Finding.{lines_at}
use Rattle.trace_check.specs.Ranges.{AddresseeFits, BodyFits, ReportFits, Fits}
use Rattle.trace_check.specs.declared.shown.TheConstants.{MAX_TEXT_BYTES}
use Rattle.trace_check.proofs.FormLoop.{marks, first_mark}
use Rattle.trace_check.proofs.FormLemmas.{form_text}
use Rattle.trace_check.proofs.BodyLemmas.{spelled, IsAnswer}
use Rattle.trace_check.proofs.AnswerLemmas.{answer_text}
use Rattle.trace_check.proofs.RowLemmas.{shown, order_line, cache_line, owner_said, owner_line}
use Rattle.trace_check.proofs.TableLemmas.{with_end, top_line, head_line, report_lines, report_text, pool_lines, pool_text}
use Rattle.trace_check.proofs.ReadingLemmas.{line_again}

-- ---- lines

no_feed : (b : Bool) → not b ≡ true → b ≡ false
no_feed true h = absurd cc
no_feed false h = refl

one_line : (row : List ℕ) → list_all (λ b. not (b == 10)) row ≡ true → IsOneLine row
one_line [] h = tt
one_line (b ∷ row) h = let parts = and_parts (not (b == 10)) (list_all (λ b. not (b == 10)) row) h in (no_feed (b == 10) parts.0, one_line row parts.1)

-- if these rows follow the first `k` lines of the bytes, they are the next lines
rows_first : (rows : List (List ℕ)) (k n : ℕ) (bytes front rest : List ℕ) → k + length rows ≡ n → lines_at k bytes ≡ Some (front, with_end rows ++ rest)
    → AreTexts rows → lines_at n bytes ≡ Some (front ++ with_end rows, rest)
rows_first [] k n bytes front rest sum lines are =
    let e : n ≡ k = omega (arith, sum) in ap (λ m. lines_at m bytes) e ∙ lines ∙ ap (λ t. Some (t, rest)) (sym (append-nil front))
rows_first (row ∷ rows) k n bytes front rest sum lines are =
    let line = row ++ 10 ∷ [] in
    let cut = line_again row (with_end rows ++ rest) (one_line row are.0.all) in
    let more : lines_at (suc k) bytes ≡ Some (front ++ line, with_end rows ++ rest) = rw (lines, append_assoc line (with_end rows) rest, cut) refl in
    rows_first rows (suc k) n bytes (front ++ line) rest (omega (arith, sum)) more are.1 ∙ ap (λ t. Some (t, rest)) (append_assoc front line (with_end rows))

-- the number of lines of a reply
abbrev pub lines_in : Reply → ℕ
lines_in reply = length (body_texts (addressee_text reply.addressee) reply.body)

pub text_first : (reply : Reply) (rest : List ℕ) → lines_at (lines_in reply) (text_of reply ++ rest) ≡ Some (text_of reply, rest)
text_first reply rest =
    let front = addressee_text reply.addressee in
    let rows = body_texts front reply.body in
    rows_first rows 0 (length rows) (text_of reply ++ rest) [] rest (omega arith) refl (body_text front reply.body (addressee_is_text reply.addressee))

-- ---- bytes

few_digits : (k n : ℕ) (after : List ℕ) → length (digits_onto k 10 false n after) ≤ k + length after
few_digits zero n after = omega arith
few_digits (suc k) n after =
    let more = few_digits k (n / 10) (digit_glyph false (n % 10) ∷ after) in
    elim (n / 10 == 0) as (λ b. length (if b then digit_glyph false (n % 10) ∷ after else digits_onto k 10 false (n / 10) (digit_glyph false (n % 10) ∷ after)) ≤ suc k + length after) [
      | true ↦ omega arith
      | false ↦ omega (arith, more)
    ]

few_decimals : (n : ℕ) → length (decimal n) ≤ 64
unfolding digits
few_decimals n = few_digits 64 n []

-- an upper bound on the length of the form's text, whatever its numbers are
abbrev most_of : List ℕ → ℕ
most_of form = length form + 63 * marks form

form_fits : (form ns : List ℕ) → length (form_text form ns) ≤ most_of form
form_fits [] ns = omega arith
form_fits (mark ∷ form) ns = step (mark == 35) refl (form_fits form (drop 1 ns)) (form_fits form ns) where
  step : (test : Bool) → (mark == 35) ≡ test → length (form_text form (drop 1 ns)) ≤ most_of form → length (form_text form ns) ≤ most_of form
      → length (cond test (decimal (get_or ns 0 0) ++ form_text form (drop 1 ns)) (mark ∷ form_text form ns)) ≤ most_of (mark ∷ form)
  step true is number letter =
      omega (arith, number, few_decimals (get_or ns 0 0), length-append (decimal (get_or ns 0 0)) (form_text form (drop 1 ns)), first_mark (mark ∷ form) form mark true refl is)
  step false is number letter = omega (arith, letter, first_mark (mark ∷ form) form mark false refl is)

line_fits : (form ns : List ℕ) (most : ℕ) → nat_le (most_of form) most ≡ true → length (form_text form ns) ≤ most
line_fits form ns most fits = omega (arith, form_fits form ns, leb-true (most_of form) most fits)

short_name : (refusal : Refusal) → nat_le (length (name_of_refusal refusal)) 20 ≡ true
short_name NoFrames = refl
short_name _ = refl

short_fault : (fault : LineFault) → nat_le (length (name_of_fault fault)) 20 ≡ true
short_fault Long = refl
short_fault _ = refl

two_digits : (bytes : List ℕ) → length (encode_lower bytes) ≡ 2 * length bytes
unfolding encode_with
two_digits [] = refl
two_digits (b ∷ bytes) = omega (arith, two_digits bytes)

said_fits : (said : Body) → IsAnswer said → length (spelled said) ≤ 400
said_fits (Frame n) few = line_fits (codes "frame #\n") (n ∷ []) 400 refl
said_fits (Freed n) few = line_fits (codes "freed #\n") (n ∷ []) 400 refl
said_fits (Bytes bytes) few =
    let short : length bytes.items ≤ 64 = few in omega (arith, short, two_digits bytes.items, length-append (encode_lower bytes.items) (10 ∷ []))
said_fits (Written n) few = line_fits (codes "written #\n") (n ∷ []) 400 refl
said_fits (Cache a b c d e) few = line_fits (codes "cache # chunk # order # objects # colours #\n") (a ∷ b ∷ c ∷ d ∷ e ∷ []) 400 refl
said_fits (Destroyed n) few = line_fits (codes "destroyed #\n") (n ∷ []) 400 refl
said_fits (Object n) few = line_fits (codes "object #\n") (n ∷ []) 400 refl
said_fits Given few = line_fits (codes "given\n") [] 400 refl
said_fits (Reaped n) few = line_fits (codes "reaped #\n") (n ∷ []) 400 refl
said_fits (Refused refusal) few =
    let label = form_text (codes "refused # ") (number_of_refusal refusal ∷ []) in
    omega (arith, line_fits (codes "refused # ") (number_of_refusal refusal ∷ []) 100 refl, leb-true (length (name_of_refusal refusal)) 20 (short_name refusal), length-append label (name_of_refusal refusal ++ 10 ∷ []), length-append (name_of_refusal refusal) (10 ∷ []))
said_fits (Granted a b c) few = line_fits (codes "granted # slot # superblock #\n") (a ∷ b ∷ c ∷ []) 400 refl
said_fits (TakenBack n) few = line_fits (codes "taken superblock #\n") (n ∷ []) 400 refl
said_fits (WasReset a b) few = line_fits (codes "reset # superblocks #\n") (a ∷ b ∷ []) 400 refl
said_fits (Moved a b c) few = line_fits (codes "moved # slot # superblock #\n") (a ∷ b ∷ c ∷ []) 400 refl
said_fits (Fault fault) few =
    omega (arith, leb-true (length (name_of_fault fault)) 20 (short_fault fault), length-append (name_of_fault fault) (10 ∷ []))
said_fits (Owners owners) few = absurd few
said_fits (Report report) few = absurd few

front_fits : (who : Addressee) → AddresseeFits who → length (addressee_text who) ≤ 7
front_fits Admin fits = leb-true 7 7 refl
front_fits Nobody fits = leb-true 3 7 refl
front_fits (Tenant tenant) fits =
    omega (arith, length-append (decimal tenant) (codes "> "), length-decimal-le 3 tenant (omega arith) (omega (arith, fits)) (omega (arith, fits)))

rows_fit : {A : Type 0} (show : ℕ → A → List ℕ) (front : List ℕ) (most : ℕ) → ((index : ℕ) (row : A) → length front + length (show index row) ≤ most)
    → (index : ℕ) (rows : List A) → length (shown show front index rows) ≤ length rows * most
rows_fit show front most each index [] = omega arith
rows_fit show front most each index (row ∷ rows) =
    omega (
      arith,
      each index row,
      rows_fit show front most each (index + 1) rows,
      length-append front (show index row),
      length-append (front ++ show index row) (shown show front (index + 1) rows),
    )

top_fits : (top : Option ℕ) (split : ℕ) → length (top_line top split) ≤ 200
unfolding top_line
top_fits None split = line_fits (codes "none split #\n") (split ∷ []) 200 refl
top_fits (Some top) split = line_fits (codes "# split #\n") (top ∷ split ∷ []) 200 refl

owner_fits : (owner : Option Owner) → length (owner_said owner) ≤ 142
owner_fits None = line_fits (codes "free\n") [] 142 refl
owner_fits (Some owner) = line_fits (codes "tenant # slot #\n") (owner.tenant ∷ owner.slot ∷ []) 142 refl

report_fits : (front : List ℕ) (report : figures.Report) → length front ≤ 7 → ReportFits report → length (with_end (body_texts front (Report report))) ≤ MAX_TEXT_BYTES
report_fits front report short fits =
    let orders = shown order_line front 0 report.orders.items in
    let caches = shown cache_line front 0 report.caches.items in
    let label = form_text (codes "frames # live # free # top ") (report.frames ∷ report.live ∷ report.free ∷ []) in
    let order_fits : (order : ℕ) (row : OrderRow) → length front + length (order_line order row) ≤ 400 = λ order row.
    omega (arith, short, line_fits (codes "order # free # taken #\n") (order ∷ row.free ∷ row.taken ∷ []) 300 refl) in
    let cache_fits : (index : ℕ) (row : CacheRow) → length front + length (cache_line index row) ≤ 400 = λ index row.
    omega (arith, short, line_fits (codes "cache # full # partial # empty # live #\n") (row.cache ∷ row.full ∷ row.partial ∷ row.empty ∷ row.live ∷ []) 370 refl) in
    omega (
      arith,
      ap length (report_text front report),
      length-append front (report_lines front report),
      length-append (head_line report) (orders ++ caches),
      length-append label (top_line report.top report.split),
      length-append orders caches,
      short,
      line_fits (codes "frames # live # free # top ") (report.frames ∷ report.live ∷ report.free ∷ []) 300 refl,
      top_fits report.top report.split,
      rows_fit order_line front 400 order_fits 0 report.orders.items,
      rows_fit cache_line front 400 cache_fits 0 report.caches.items,
      fits.few_orders,
      fits.few_caches,
    )

pool_fits : (front : List ℕ) (owners : List (Option Owner)) → length front ≤ 7 → length owners ≤ 256 → length (front ++ pool_lines front owners) ≤ MAX_TEXT_BYTES
pool_fits front owners short few =
    let counts = form_text (codes "pool free # of #\n") (count_by is_none owners ∷ length owners ∷ []) in
    let row_fits : (superblock : ℕ) (owner : Option Owner) → length front + length (owner_line superblock owner) ≤ 230 = λ superblock owner.
    omega (arith, short, length-append (form_text (codes "superblock # ") (superblock ∷ [])) (owner_said owner), line_fits (codes "superblock # ") (superblock ∷ []) 76 refl, owner_fits owner) in
    omega (
      arith,
      length-append front (pool_lines front owners),
      length-append counts (shown owner_line front 0 owners),
      short,
      few,
      line_fits (codes "pool free # of #\n") (count_by is_none owners ∷ length owners ∷ []) 200 refl,
      rows_fit owner_line front 230 row_fits 0 owners,
    )

answer_fits : (who : Addressee) (said : Body) → AddresseeFits who → IsAnswer said → length (text_of (record { addressee = who; body = said })) ≤ MAX_TEXT_BYTES
answer_fits who said who_fits answers =
    omega (arith, ap length (answer_text (record { addressee = who; body = said }) answers), length-append (addressee_text who) (spelled said), front_fits who who_fits, said_fits said answers)

body_fits : (who : Addressee) (body : Body) → AddresseeFits who → BodyFits body → length (text_of (record { addressee = who; body = body })) ≤ MAX_TEXT_BYTES
body_fits who (Owners owners) who_fits fits =
    let front = addressee_text who in
    omega (arith, ap length (pool_text front owners.items), pool_fits front owners.items (front_fits who who_fits) fits.1)
body_fits who (Report report) who_fits fits = report_fits (addressee_text who) report (front_fits who who_fits) fits
body_fits who (Bytes bytes) who_fits fits = answer_fits who (Bytes bytes) who_fits fits.1
body_fits who said who_fits fits = answer_fits who said who_fits tt

pub text_fits : (reply : Reply) → Fits reply → length (text_of reply) ≤ MAX_TEXT_BYTES
text_fits reply fits = body_fits reply.addressee reply.body fits.0 fits.1
