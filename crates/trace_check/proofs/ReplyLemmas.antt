-- The text of a reply is read as this reply, and a reply that is read from a text has this text.
use Rattle.std.proofs.Common.{◌≡◌, ℕ, Bool, true, false, cond, List, ◌++◌, Option, Some, None, refl, sym, ◌∙◌, ap}
use Rattle.std.specs.Prelude.{MatchOption}
use Rattle.std.proofs.lemmas.Option.{same_Some}
use Rattle.words_core.specs.Texts.{addressee_text, text_of}
use Rattle.words_core.specs.Requests.{is_table, reply_to}
use Rattle.words_core.specs.declared.answer.Answer.{Answer}
use Rattle.words_core.specs.declared.reply.Addressee.{Addressee}
use Rattle.words_core.specs.declared.reply.Reply.{Reply}
use Rattle.words_core.specs.declared.reply.Body.{Body}
use Rattle.words_core.specs.declared.reply.Body.TheVariants.{Owners, Report, Bytes}
use Rattle.trace_check.specs.Ranges.{AddresseeFits, BodyFits, Fits}
use Rattle.trace_check.specs.Forms.{◌>>=◌, Gives, mark_at, form_at}
use Rattle.trace_check.specs.Replies.{◌or_else◌, any_answer_at, written_at, bytes_at, frame_at, freed_at, object_at, given_at, refused_at, cache_at, destroyed_at, reaped_at, granted_at, taken_at, reset_at, moved_at, fault_at, some_fault_at, notice_at, rare_at, answer_of}
use Rattle.trace_check.specs.Tables.{table_of, reply_of_text}
use Rattle.trace_check.proofs.KindLemmas.{either}
use Rattle.trace_check.proofs.AnswerLemmas.{said_of, alone_of, addressee_again, answer_takes, answer_again}
use Rattle.trace_check.proofs.TableLemmas.{report_lines, report_text, pool_lines, pool_text, table_takes, report_read_again, pool_read_again}

-- if a reply is read from a text, it has this text
pub reply_takes : (text : List ℕ) (reply : Reply) → reply_of_text text ≡ Some reply → text_of reply ≡ text
unfolding reply_of_text
reply_takes text reply e = either (answer_of text) (table_of text) reply e (λ e. (answer_takes text reply e).0) (λ e. (table_takes text reply e).0)

-- ---- answers

no_answer : (text : List ℕ) (who : Addressee) (lines : List ℕ) → AddresseeFits who → text ≡ addressee_text who ++ lines
    → any_answer_at lines ≡ None → answer_of text ≡ None
unfolding answer_of
no_answer text who lines fits is none =
    ap answer_of is ∙ ap (λ front. front >>= said_of) (addressee_again who lines fits) ∙ ap (λ found. found >>= alone_of who) none

again : (text : List ℕ) (who : Addressee) (body : Body) → AddresseeFits who → BodyFits body
    → text_of (record { addressee = who; body = body }) ≡ text
    → answer_of text ≡ cond (is_table body) None (Some (record { addressee = who; body = body }))
unfolding any_answer_at rare_at notice_at written_at bytes_at frame_at freed_at object_at given_at refused_at cache_at destroyed_at reaped_at granted_at taken_at reset_at moved_at some_fault_at fault_at form_at mark_at
again text who (Owners owners) who_fits fits is =
    no_answer text who (pool_lines (addressee_text who) owners.items) who_fits (sym is ∙ pool_text (addressee_text who) owners.items) refl
again text who (Report report) who_fits fits is =
    no_answer text who (report_lines (addressee_text who) report) who_fits (sym is ∙ report_text (addressee_text who) report) refl
again text who (Bytes bytes) who_fits fits is =
    answer_again text (record { addressee = who; body = Bytes bytes }) fits.1 (who_fits, fits) is
again text who body who_fits fits is = answer_again text (record { addressee = who; body = body }) tt (who_fits, fits) is

only : (is : Bool) (text : List ℕ) (due : Reply) (found : Option (Addressee × Answer)) → Gives (λ found. reply_to found.0 found.1) found (answer_of text)
    → answer_of text ≡ cond is None (Some due) → MatchOption found (is ≡ true) (λ found. reply_to found.0 found.1 ≡ due)
only true text due None none e = refl
only false text due None none e = let no : None ≡ Some due = sym none ∙ e in absurd cc
only true text due (Some found) is e = let no : None ≡ Some (reply_to found.0 found.1) = sym e ∙ is in absurd cc
only false text due (Some found) is e = same_Some (reply_to found.0 found.1) due (sym is ∙ e)

-- `answer_of` reads the text of a reply as this reply, and finds nothing only if the reply is a table
pub answer_only : (text : List ℕ) (due : Reply) (found : Option (Addressee × Answer)) → Gives (λ found. reply_to found.0 found.1) found (answer_of text)
    → Fits due → text_of due ≡ text → MatchOption found (is_table due.body ≡ true) (λ found. reply_to found.0 found.1 ≡ due)
answer_only text due found is fits same =
    only (is_table due.body) text due found is (again text due.addressee due.body fits.0 fits.1 same)

-- ---- tables

table_again : (text : List ℕ) (who : Addressee) (body : Body) → AddresseeFits who → BodyFits body → is_table body ≡ true
    → text_of (record { addressee = who; body = body }) ≡ text → table_of text ≡ Some (record { addressee = who; body = body })
table_again text who (Owners owners) who_fits fits table is = pool_read_again text who owners who_fits fits.0 fits.1 is
table_again text who (Report report) who_fits fits table is = report_read_again text who report who_fits fits is
table_again text who _ who_fits fits table is = absurd cc

-- the text of a table is read as this table
pub table_only : (text : List ℕ) (due : Reply) → Fits due → is_table due.body ≡ true → text_of due ≡ text → table_of text ≡ Some due
table_only text due fits table is = table_again text due.addressee due.body fits.0 fits.1 table is

-- the text of any reply is read as this reply
pub reply_again : (text : List ℕ) (due : Reply) → Fits due → text_of due ≡ text → reply_of_text text ≡ Some due
unfolding reply_of_text
reply_again text due fits same =
    elim (is_table due.body) as (λ is. is_table due.body ≡ is → answer_of text ≡ cond is None (Some due) → (answer_of text or_else table_of text) ≡ Some due) [
      | true ↦ λ table none. ap (λ found. found or_else table_of text) none ∙ table_only text due fits table same
      | false ↦ λ _ found. ap (λ found. found or_else table_of text) found
    ] refl (again text due.addressee due.body fits.0 fits.1 same)
