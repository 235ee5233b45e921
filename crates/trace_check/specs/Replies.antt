-- Reading a reply from left to right: the first form that matches the front of the text decides what the text is.
use Rattle.std.specs.Prelude.{ℕ, ◌*◌, ◌^◌, ◌==◌, ◌&&◌, List, [], ◌∷◌, codes, length, take, drop, take_while, not, find, slice_index, nat_lt, nat_le, Bool, true, if◌then◌else◌, Option, Some, None, Result, Ok, Err}
use Rattle.std.specs.Str.{bytes_eq}
use Rattle.hex.specs.Hex.{decode_of, encode_lower}
use Rattle.hex.specs.declared.error.FromHexError.{FromHexError}
use Rattle.words_core.specs.declared.reply.Addressee.{Addressee}
use Rattle.words_core.specs.declared.reply.Body.{Body}
use Rattle.words_core.specs.declared.event.LineFault.{LineFault}
use Rattle.words_core.specs.declared.reply.Refusal.{Refusal}
use Rattle.words_core.specs.declared.reply.Reply.{Reply}
use Rattle.model_core.specs.declared.limits.TheConstants.{MAX_BYTES}
use Rattle.words_core.specs.Texts.{number_of_refusal, name_of_refusal, name_of_fault}
use Rattle.words_core.specs.declared.reply.TheConstants.{REFUSALS}
use Rattle.trace_check.specs.Forms.{◌>>=◌, form_at}

-- if the text begins with a match of the form, and the numbers in it fit: the value that is made from these numbers, and the text
-- that follows the match
abbrev pub made_at : {A : Type 0} → List ℕ → (List ℕ → Bool) → (List ℕ → A) → List ℕ → Option (A × List ℕ)
made_at form fits make text =
    form_at form text >>= (λ found. if fits found.0 then Some (make found.0, found.1) else None)

-- the first value, or the second if the first is `None`
infixr 10 ◌or_else◌
abbrev pub ◌or_else◌ : {A : Type 0} → Option A → Option A → Option A
Some x or_else other = Some x
None or_else other = other

-- ---- replies to a tenant

unfoldable pub frame_at : List ℕ → Option (Body × List ℕ)
frame_at text = made_at (codes "frame #\n") (λ ns. true) (λ ns. Body.Frame (slice_index ns 0)) text

unfoldable pub freed_at : List ℕ → Option (Body × List ℕ)
freed_at text = made_at (codes "freed #\n") (λ ns. nat_lt (slice_index ns 0) (2 ^ 8)) (λ ns. Body.Freed (slice_index ns 0)) text

unfoldable pub written_at : List ℕ → Option (Body × List ℕ)
written_at text = made_at (codes "written #\n") (λ ns. true) (λ ns. Body.Written (slice_index ns 0)) text

unfoldable pub cache_at : List ℕ → Option (Body × List ℕ)
cache_at text = made_at (codes "cache # chunk # order # objects # colours #\n")
    (λ ns. nat_lt (slice_index ns 0) (2 ^ 8) && nat_lt (slice_index ns 2) (2 ^ 8))
    (λ ns. Body.Cache (slice_index ns 0) (slice_index ns 1) (slice_index ns 2) (slice_index ns 3) (slice_index ns 4)) text

unfoldable pub destroyed_at : List ℕ → Option (Body × List ℕ)
destroyed_at text = made_at (codes "destroyed #\n") (λ ns. true) (λ ns. Body.Destroyed (slice_index ns 0)) text

unfoldable pub object_at : List ℕ → Option (Body × List ℕ)
object_at text = made_at (codes "object #\n") (λ ns. true) (λ ns. Body.Object (slice_index ns 0)) text

unfoldable pub given_at : List ℕ → Option (Body × List ℕ)
given_at text = made_at (codes "given\n") (λ ns. true) (λ ns. Body.Given) text

unfoldable pub reaped_at : List ℕ → Option (Body × List ℕ)
reaped_at text = made_at (codes "reaped #\n") (λ ns. true) (λ ns. Body.Reaped (slice_index ns 0)) text

-- the refusal with this number
abbrev pub refusal_of : ℕ → Option Refusal
refusal_of number = find (λ refusal. number_of_refusal refusal == number) REFUSALS

unfoldable pub refused_at : List ℕ → Option (Body × List ℕ)
refused_at text = do
  found ← form_at (codes "refused # ") text
  refusal ← refusal_of (slice_index found.0 0)
  named ← form_at (name_of_refusal refusal) found.1
  ended ← form_at (codes "\n") named.1
  Some (Body.Refused refusal, ended.1)

-- the bytes that were decoded from a word, if they give this word again when they are encoded in lower-case hex
abbrev pub bytes_again : List ℕ → Result (List ℕ) FromHexError → Option (List ℕ)
bytes_again word (Ok bytes) = if bytes_eq (encode_lower bytes) word then Some bytes else None
bytes_again word (Err e) = None

unfoldable pub bytes_of : List ℕ → Option (List ℕ)
bytes_of word = if nat_le (length word) (2 * MAX_BYTES) then bytes_again word (decode_of word) else None

unfoldable pub bytes_at : List ℕ → Option (Body × List ℕ)
bytes_at text = do
  found ← form_at (codes "bytes ") text
  let size = length (take_while (λ b. not (b == 10)) found.1)
  bytes ← bytes_of (take size found.1)
  ended ← form_at (codes "\n") (drop size found.1)
  Some (Body.Bytes (record { items = bytes }), ended.1)

-- ---- replies to the administrator, and to a faulty line

-- the numbers are in the ranges of a tenant, a slot and a superblock
abbrev pub fit_place : List ℕ → Bool
fit_place ns =
    nat_lt (slice_index ns 0) (2 ^ 8) && (nat_lt (slice_index ns 1) (2 ^ 16) && nat_lt (slice_index ns 2) (2 ^ 16))

-- the first number fits a tenant (8 bits), and the second fits a slot or a number of superblocks (16 bits)
abbrev pub fit_tenant : List ℕ → Bool
fit_tenant ns = nat_lt (slice_index ns 0) (2 ^ 8) && nat_lt (slice_index ns 1) (2 ^ 16)

unfoldable pub granted_at : List ℕ → Option (Body × List ℕ)
granted_at text = made_at (codes "granted # slot # superblock #\n") fit_place
    (λ ns. Body.Granted (slice_index ns 0) (slice_index ns 1) (slice_index ns 2)) text

unfoldable pub taken_at : List ℕ → Option (Body × List ℕ)
taken_at text =
    made_at (codes "taken superblock #\n") (λ ns. nat_lt (slice_index ns 0) (2 ^ 16)) (λ ns. Body.TakenBack (slice_index ns 0)) text

unfoldable pub reset_at : List ℕ → Option (Body × List ℕ)
reset_at text =
    made_at (codes "reset # superblocks #\n") fit_tenant (λ ns. Body.WasReset (slice_index ns 0) (slice_index ns 1)) text

unfoldable pub moved_at : List ℕ → Option (Body × List ℕ)
moved_at text = made_at (codes "moved # slot # superblock #\n") fit_place
    (λ ns. Body.Moved (slice_index ns 0) (slice_index ns 1) (slice_index ns 2)) text

-- this fault at the front of the text
unfoldable pub fault_at : LineFault → List ℕ → Option (Body × List ℕ)
fault_at fault text = do
  found ← form_at (codes "fault ") text
  named ← form_at (name_of_fault fault) found.1
  ended ← form_at (codes "\n") named.1
  Some (Body.Fault fault, ended.1)

-- any fault at the front of the text
unfoldable pub some_fault_at : List ℕ → Option (Body × List ℕ)
some_fault_at text =
    fault_at LineFault.Long text or_else fault_at LineFault.Unknown text or_else fault_at LineFault.Words text
    or_else fault_at LineFault.Number text or_else fault_at LineFault.Hex text

unfoldable pub notice_at : List ℕ → Option (Body × List ℕ)
notice_at text = granted_at text or_else taken_at text or_else reset_at text or_else moved_at text or_else some_fault_at text

-- the body of a less frequent reply at the front of the text, and the text that follows it
unfoldable pub rare_at : List ℕ → Option (Body × List ℕ)
rare_at text = refused_at text or_else cache_at text or_else destroyed_at text or_else reaped_at text or_else notice_at text

unfoldable pub any_answer_at : List ℕ → Option (Body × List ℕ)
any_answer_at text =
    bytes_at text or_else written_at text or_else frame_at text or_else freed_at text or_else object_at text or_else given_at text
    or_else rare_at text

-- ---- the addressee

unfoldable pub tenant_at : List ℕ → Option (Addressee × List ℕ)
tenant_at text = made_at (codes "#> ") (λ ns. nat_lt (slice_index ns 0) (2 ^ 8)) (λ ns. Addressee.Tenant (slice_index ns 0)) text

unfoldable pub admin_at : List ℕ → Option (Addressee × List ℕ)
admin_at text = made_at (codes "admin> ") (λ ns. true) (λ ns. Addressee.Admin) text

unfoldable pub nobody_at : List ℕ → Option (Addressee × List ℕ)
nobody_at text = made_at (codes "!> ") (λ ns. true) (λ ns. Addressee.Nobody) text

-- the addressee at the front of the text, and the text that follows it
unfoldable pub addressee_at : List ℕ → Option (Addressee × List ℕ)
addressee_at text = tenant_at text or_else admin_at text or_else nobody_at text

-- ---- the whole text of a reply of one line

-- the value that was found, if no text follows it
abbrev pub whole : {A : Type 0} → A × List ℕ → Option A
whole (found, []) = Some found
whole (found, _ ∷ _) = None

unfoldable pub answer_of : List ℕ → Option Reply
answer_of text = do
  front ← addressee_at text
  answer ← any_answer_at front.1
  alone ← whole answer
  Some (record { addressee = front.0; body = alone })
