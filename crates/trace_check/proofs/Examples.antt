-- Worked examples, by computation: slots of 8 frames, two superblocks, two tenants.
use Rattle.std.proofs.Common.{◌≡◌, ℕ, List, refl, codes}
use Rattle.words_core.specs.Grammar.{reading_of, reading_of_words, event_of}
use Rattle.words_core.specs.Words.{words_of}
use Rattle.promise_core.specs.declared.promise.Promise.{Promise}
use Rattle.promise_core.specs.Holdings.{known_blocks, can_stand, vacant_blocks, can_be_taken}
use Rattle.promise_core.specs.Bytes.{holder_of}
use Rattle.promise_core.specs.State.{opening_state, opening, state_after, owners_after}
use Rattle.promise_core.specs.Promises.{due, allowed}
use Rattle.trace_check.specs.Forms.{number_at, mark_at, form_at}
use Rattle.trace_check.specs.Replies.{frame_at, freed_at, written_at, cache_at, destroyed_at, object_at, given_at, reaped_at, refused_at, bytes_of, bytes_at, any_answer_at, tenant_at, admin_at, nobody_at, addressee_at, answer_of, granted_at, taken_at, reset_at, moved_at, fault_at, some_fault_at, notice_at, rare_at}
use Rattle.trace_check.specs.Tables.{after_front, rows_from, order_at, cache_row_at, top_at, no_top_at, some_top_at, report_at, unowned_at, owned_at, owner_at, pool_at, table_of, reply_of_text}
use Rattle.trace_check.specs.declared.finding.Finding.{Finding}
use Rattle.trace_check.specs.declared.finding.Finding.TheVariants.{Kept, Broken}
use Rattle.trace_check.specs.Finding.{finding_of}

abbrev found : List ℕ → List ℕ → Finding
found trace replies = finding_of (opening 32 3 2 2) trace replies

abbrev broken_at : ℕ → ℕ → Promise → Finding
broken_at line reply promise = Broken (record { line = line; reply = reply; promise = promise })

abbrev trace : List ℕ
trace = codes "admin grant 0\n# a block\n0 alloc 1\n0 free 0\n"

pub texts_are_found : record {
  -- a superblock that partmem would not choose
  all_kept : found trace (codes "admin> granted 0 slot 0 superblock 1\n0> frame 0\n0> freed 1\n") ≡ Kept 4;
  -- a block that is not aligned
  not_aligned : found trace (codes "admin> granted 0 slot 0 superblock 1\n0> frame 1\n0> freed 1\n") ≡ broken_at 3 2 Promise.Blocks;
  -- too few lines, a line without its LF, and too many lines
  cut_short : found trace (codes "admin> granted 0 slot 0 superblock 1\n0> frame 0\n") ≡ broken_at 4 3 Promise.Form;
  not_ended : found trace (codes "admin> granted 0 slot 0 superblock 1\n0> frame 0\n0> freed 1") ≡ broken_at 4 3 Promise.Form;
  too_many : found trace (codes "admin> granted 0 slot 0 superblock 1\n0> frame 0\n0> freed 1\n0> given\n") ≡ broken_at 4 4 Promise.Form;
  -- arbitrary text, and a reply to another tenant
  any_text : found trace (codes "hello\n") ≡ broken_at 1 1 Promise.Form;
  somebody_else : found trace (codes "admin> granted 0 slot 0 superblock 1\n1> frame 0\n0> freed 1\n") ≡ broken_at 3 2 Promise.Form;
  -- a table of owners has a first line, and then a line for each superblock
  table : found (codes "admin pool\n") (codes "admin> pool free 2 of 2\nadmin> superblock 0 free\nadmin> superblock 1 free\n") ≡ Kept 1;
  -- a refusal has one line, even if a report is requested
  refused_report : found (codes "0 report\n") (codes "0> refused 1 NoFrames\n") ≡ broken_at 1 1 Promise.Room;
  -- the reply to a faulty line must name the fault of this line
  other_fault : found (codes "frob\n") (codes "!> fault Words\n") ≡ broken_at 1 1 Promise.Form;
}
unfolding reading_of reading_of_words event_of words_of known_blocks can_stand vacant_blocks can_be_taken holder_of opening_state opening state_after owners_after due allowed number_at mark_at form_at frame_at freed_at written_at cache_at destroyed_at object_at given_at reaped_at refused_at bytes_of bytes_at any_answer_at tenant_at admin_at nobody_at addressee_at answer_of granted_at taken_at reset_at moved_at fault_at some_fault_at notice_at rare_at after_front rows_from order_at cache_row_at top_at no_top_at some_top_at report_at unowned_at owned_at owner_at pool_at table_of reply_of_text
texts_are_found = record {
  all_kept = refl;
  not_aligned = refl;
  cut_short = refl;
  not_ended = refl;
  too_many = refl;
  any_text = refl;
  somebody_else = refl;
  table = refl;
  refused_report = refl;
  other_fault = refl;
}
