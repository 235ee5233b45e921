-- The line that is printed for a finding. It shows a plain text as it is, and any other text in quotes.
use Rattle.std.specs.Prelude.{ℕ, ◌-◌, ◌==◌, ◌||◌, ◌&&◌, Bool, not, nat_le, nat_lt, if◌then◌else◌, List, [], ◌∷◌, ◌++◌, Option, Some, None, codes, decimal, flat_map, length, slice_index, take}
use Rattle.std.specs.Char.Escape.{escape_ascii}
use Rattle.std.specs.Io.KnownBytes.{Appends}
use Rattle.std.specs.List.{concat, list_all}
use Rattle.std.specs.Str.{bytes_eq}
use Rattle.std.specs.Str.Lines.{strip_carriage_return}
use Rattle.promise_core.specs.Names.{name_of_promise}
use Rattle.trace_check.specs.Checking.{HasRead}
use Rattle.trace_check.specs.Reading.{without_line_feed}
use Rattle.trace_check.specs.declared.finding.Breach.{Breach}
use Rattle.trace_check.specs.declared.finding.Finding.{Finding}
use Rattle.trace_check.specs.declared.shown.Shown.{Shown}
use Rattle.trace_check.specs.declared.shown.TheConstants.{MAX_PART_BYTES, MAX_TEXT_BYTES}
use Rattle.trace_check.specs.declared.reason.Reason.{Reason}
use Rattle.partcheck.specs.Reasons.{reason_text}

-- the word `one` if the count is 1, and otherwise the word `several`
abbrev pub counted_word : (one several : List ℕ) → ℕ → List ℕ
counted_word one several count = if count == 1 then one else several

-- the line if all replies are allowed
unfoldable pub kept_text : (lines tenants : ℕ) → List ℕ
kept_text lines tenants = concat (codes "kept: " ∷ decimal lines ∷ codes " " ∷ counted_word (codes "line") (codes "lines") lines
    ∷ codes ", " ∷ decimal tenants ∷ codes " " ∷ counted_word (codes "tenant") (codes "tenants") tenants ∷ codes "\n" ∷ [])

-- a byte of commands and replies: a digit, a letter, a blank (32), `!` (33), `>` (62) or a line feed (10)
abbrev pub is_reply_byte : ℕ → Bool
is_reply_byte byte = (nat_le 48 byte && nat_le byte 57) || (nat_le 65 byte && nat_le byte 90) || (nat_le 97 byte && nat_le byte 122)
    || byte == 32 || byte == 33 || byte == 62 || byte == 10

-- the text is not empty, and has no blank at either end
abbrev pub has_filled_ends : List ℕ → Bool
has_filled_ends text = nat_lt 0 (length text) && not (slice_index text 0 == 32) && not (slice_index text (length text - 1) == 32)

-- the text is not empty, has only bytes of commands and replies, and has no blank at either end
abbrev pub is_plain_text : List ℕ → Bool
is_plain_text text = has_filled_ends text && list_all is_reply_byte text

-- what is shown for a byte of a plain text: ` / ` for a line feed, and otherwise the byte
abbrev pub plain_byte : ℕ → List ℕ
plain_byte byte = if byte == 10 then codes " / " else byte ∷ []

-- the text is plain, and differs from `none`, the words that are shown if there is no text
abbrev pub is_shown_plain : (none text : List ℕ) → Bool
is_shown_plain none text = is_plain_text text && not (bytes_eq text none)

-- What is shown for `begin`, the beginning of a text. It is escaped and in quotes if the text is not plain, or if the text equals
-- `none`.
unfoldable pub begin_text : (none text begin : List ℕ) → List ℕ
begin_text none text begin = if is_shown_plain none text then flat_map plain_byte begin
    else codes "'" ++ (flat_map escape_ascii begin ++ codes "'")

-- the mark at the end of a shown text: `…` if the text is cut, and nothing otherwise
abbrev pub cut_mark : Bool → List ℕ
cut_mark is_cut = if is_cut then 226 ∷ 128 ∷ 166 ∷ [] else []

-- the first `most` bytes of a text, with a mark if the text is cut
unfoldable pub excerpt_of : (none : List ℕ) → (most : ℕ) → (text : List ℕ) → List ℕ
excerpt_of none most text = begin_text none text (take most text) ++ cut_mark (nat_lt most (length text))

-- the first `most` bytes of the text, with a mark if the text is cut, or `none` if there is no text
abbrev pub excerpt_text : (none : List ℕ) → (most : ℕ) → Option (List ℕ) → List ℕ
excerpt_text none most None = none
excerpt_text none most (Some text) = excerpt_of none most text

-- a line of a trace, without the LF at its end and without the CR in front of this LF
abbrev pub trace_line : List ℕ → List ℕ
trace_line line = if slice_index line (length line - 1) == 10 then strip_carriage_return (take (length line - 1) line) else line

-- the bytes that were read, with `cut` applied, or None if no byte was read
abbrev pub if_read : (List ℕ → List ℕ) → List ℕ → Option (List ℕ)
if_read cut [] = None
if_read cut (byte ∷ bytes) = Some (cut (byte ∷ bytes))

-- the line if a reply is not allowed; it shows at most 255 bytes of the line of the trace, and at most 200 bytes of the reply
unfoldable pub breach_text : Breach → (trace_text reply_text : List ℕ) → Option Reason → List ℕ
breach_text breach trace_text reply_text reason = concat (
    codes "line " ∷ decimal breach.line ∷ codes ", reply " ∷ decimal breach.reply ∷ codes ": "
    ∷ excerpt_text (codes "no more lines") 255 (if_read trace_line (take MAX_PART_BYTES trace_text)) ∷ codes ", answered "
    ∷ excerpt_text (codes "nothing") 200 (if_read without_line_feed (take MAX_TEXT_BYTES reply_text)) ∷ codes ": "
    ∷ name_of_promise breach.promise ∷ codes ": "
    ∷ reason_text breach.promise reason ∷ codes "\n" ∷ [])

-- the line of a finding was written; for a breach it shows the line of the trace and the reply that `shown` has
abbrev pub AppendsFinding : Finding → Shown → (tenants : ℕ) → (old new : Option (List ℕ)) → Type 0
AppendsFinding (Finding.Kept lines) shown tenants old new = Appends old new (kept_text lines tenants)
AppendsFinding (Finding.Broken breach) shown tenants old new =
    (trace_text reply_text : List ℕ) → HasRead trace_text reply_text shown → Appends old new (breach_text breach trace_text reply_text shown.reason)
