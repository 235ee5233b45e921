-- An instance of each law of calls of `partmem_line`. Tenant 0 gets a superblock, allocates a frame, writes a byte there and
-- reads it. On one machine tenant 0 is alone. On a second machine tenant 1 comes first, and writes a byte in a frame of its own.
use Rattle.std.proofs.Common.{◌≡◌, ℕ, Bool, true, false, not, ◌==◌, List, [], ◌∷◌, Some, None, codes, refl, arith}
use Rattle.std.specs.List.{list_all}
use Rattle.std.specs.Fmt.{digits}
use Rattle.std.proofs.lemmas.Bool.{and_parts}
use Rattle.hex.proofs.OnLiterals.{hex_on_literals}
use Rattle.hex.specs.Hex.{encode_with}
use Rattle.words_core.specs.declared.event.Event.TheVariants as On
use Rattle.words_core.specs.declared.event.AdminCommand.TheVariants as Do
use Rattle.words_core.specs.declared.event.Command.TheVariants as Command
use Rattle.words_core.specs.declared.reply.Body.TheVariants as Say
use Rattle.words_core.specs.Words.{words_of}
use Rattle.words_core.specs.Grammar.{event_of, reading_of_words, reading_of}
use Rattle.world_core.specs.Limits.{cache_limit}
use Rattle.world_core.specs.PrivateStep.{command_step}
use Rattle.world_core.specs.World.{opening_world, answer, grant_step, tenant_step, world_step, world_after}
use Rattle.world_core.specs.Output.{events_of, lines_for}
use Rattle.world_core.specs.Laws.{HaveSameOwnList, opening_history, private_lines}
use Rattle.space_core.specs.Content as spaces
use Rattle.space_core.specs.Changes.{with_grant}
use Rattle.machine_changes.specs.Pages.{stored}
use Rattle.kernel_core.specs.Content.{KernelContent, content_of}
use Rattle.kernel_core.specs.Shows.{Shows}
use Rattle.kernel_core.specs.Steps.{Steps}
use Rattle.kernel_core.specs.Stores.{IsKernel, Stores, Loads}
use Rattle.kernel_core.specs.Actions.{Acts, Runs}
use Rattle.kernel_core.proofs.Granting.{granted_reply}
use Rattle.kernel_core.proofs.Stores.{stores_are_writes}
use Rattle.kernel_core.proofs.MadeKernels.{to_tenant, grant_acts, alloc_acts, read_acts, in_frame, holders, holders_laws, chosen, no_slabs, opened, is_opened}
use Rattle.kernel_core.proofs.WitnessesActions.{first_slot, space_1, alone_1, alone_2, alone_granted, alone_taken, space_of_1, beside_1, beside_2, granted_1, taken_1}
use Rattle.streams.specs.Lines.{IsOneLine}
use Rattle.partmem_c.specs.Lines.{AnswersLine}
use Rattle.partmem_c.specs.Laws.{Call, lines_of_calls, texts_of, Ran, StandsAfterCalls, OwnLinesOfCalls, SameLinesOfCalls}
use Rattle.partmem_c.proofs.Witnesses.{by_0, by_1, small, small_shown, small_ran, great, great_shown, great_ran, same_order, equal_lists}

not_true : (b : Bool) → not b ≡ true → b ≡ false
not_true true h = absurd (cc)
not_true false h = refl

one_line : (line : List ℕ) → list_all (λ b. not (b == 10)) line ≡ true → IsOneLine line
one_line [] none = tt
one_line (b ∷ line) none =
    let parts = and_parts (not (b == 10)) (list_all (λ c. not (c == 10)) line) none in (not_true (b == 10) parts.0, one_line line parts.1)

abbrev grant_0 : Call
grant_0 = record { line = codes "admin grant 0"; text = codes "admin> granted 0 slot 0 superblock 0\n" }

abbrev alloc_0 : Call
alloc_0 = record { line = codes "0 alloc 0"; text = codes "0> frame 0\n" }

abbrev write_0 : Call
write_0 = record { line = codes "0 write 5 07"; text = codes "0> written 1\n" }

abbrev read_0 : Call
read_0 = record { line = codes "0 read 5 1"; text = codes "0> bytes 07\n" }

-- Tenant 0 alone

abbrev alone : List Call
alone = grant_0 ∷ alloc_0 ∷ write_0 ∷ read_0 ∷ []

abbrev alone_3 : KernelContent
alone_3 = record alone_2 { space = stored 0 5 (7 ∷ []) space_1 }

stored_alone : Stores alone_2 0 5 (7 ∷ []) alone_3
stored_alone = record { tenant = omega arith; reach = in_frame space_1 alone_2.buddy no_slabs 0 5 1 refl refl (omega arith) (omega arith); is = refl }

written_alone : IsKernel alone_3 × Steps alone_2 (On.Tenant 0 (Command.Write 5 (record { items = 7 ∷ [] }))) alone_3 (to_tenant 0 (Say.Written 1))
written_alone = stores_are_writes alone_2 alone_3 0 5 (7 ∷ []) alone_taken.1 stored_alone

loaded_alone : Loads alone_3 0 5 7
loaded_alone = record {
  tenant = omega arith;
  reach = in_frame alone_3.space alone_3.buddy no_slabs 0 5 1 refl refl (omega arith) (omega arith);
  is = alone_granted.1.together.space.own_bytes.window 0 5 1 (7 ∷ []) refl refl 5;
}

-- One lemma for each of the four lines. If the line's event leads from kernel k to kernel k' with the reply that the lemma names,
-- the text of the call answers the line.
granting : (k k' : KernelContent) → Steps k (On.Admin (Do.Grant 0)) k' (granted_reply 0 0 0) → AnswersLine k (reading_of grant_0.line) k' grant_0.text
unfolding reading_of words_of reading_of_words event_of digits
granting k k' steps = (granted_reply 0 0 0, steps, refl)

allocating : (k k' : KernelContent) → Steps k (On.Tenant 0 (Command.Alloc 0)) k' (to_tenant 0 (Say.Frame 0)) → AnswersLine k (reading_of alloc_0.line) k' alloc_0.text
unfolding reading_of words_of reading_of_words event_of digits
allocating k k' steps = (to_tenant 0 (Say.Frame 0), steps, refl)

writing : (k k' : KernelContent) → Steps k (On.Tenant 0 (Command.Write 5 (record { items = 7 ∷ [] }))) k' (to_tenant 0 (Say.Written 1))
    → AnswersLine k (reading_of write_0.line) k' write_0.text
unfolding reading_of words_of reading_of_words event_of hex_on_literals digits
writing k k' steps = (to_tenant 0 (Say.Written 1), steps, refl)

reading : (k k' : KernelContent) → Steps k (On.Tenant 0 (Command.Read 5 1)) k' (to_tenant 0 (Say.Bytes (record { items = 7 ∷ [] })))
    → AnswersLine k (reading_of read_0.line) k' read_0.text
unfolding reading_of words_of reading_of_words event_of encode_with digits
reading k k' steps = (to_tenant 0 (Say.Bytes (record { items = 7 ∷ [] })), steps, refl)

alone_ran : Ran opened alone alone_3
alone_ran = (
  alone_1,
  one_line grant_0.line refl,
  granting opened alone_1 alone_granted.0,
  (
    alone_2,
    one_line alloc_0.line refl,
    allocating alone_1 alone_2 alone_taken.0,
    (
      alone_3,
      one_line write_0.line refl,
      writing alone_2 alone_3 written_alone.1,
      (alone_3, one_line read_0.line refl, reading alone_3 alone_3 (read_acts alone_3 0 5 7 written_alone.0 loaded_alone).0, refl),
    ),
  ),
)

-- Tenant 0 beside tenant 1

abbrev grant_1 : Call
grant_1 = record { line = codes "admin grant 1"; text = codes "admin> granted 1 slot 0 superblock 0\n" }

abbrev alloc_1 : Call
alloc_1 = record { line = codes "1 alloc 0"; text = codes "1> frame 0\n" }

abbrev write_1 : Call
write_1 = record { line = codes "1 write 5 09"; text = codes "1> written 1\n" }

-- tenant 0 gets superblock 1, since tenant 1 has superblock 0
abbrev grant_other : Call
grant_other = record { line = codes "admin grant 0"; text = codes "admin> granted 0 slot 0 superblock 1\n" }

abbrev beside : List Call
beside = grant_1 ∷ alloc_1 ∷ write_1 ∷ grant_other ∷ alloc_0 ∷ write_0 ∷ read_0 ∷ []

abbrev written_by_1 : KernelContent
written_by_1 = record beside_2 { space = stored 1 5 (9 ∷ []) space_of_1 }

abbrev space_of_both : spaces.Content
space_of_both = with_grant written_by_1.space 0 0 1

abbrev granted_to_both : KernelContent
granted_to_both = content_of space_of_both (holders (Some 1) None (Some 0) (Some 0)) no_slabs

abbrev taken_by_both : KernelContent
taken_by_both = content_of space_of_both (holders (Some 1) (Some 0) (Some 0) (Some 0)) no_slabs

abbrev written_by_both : KernelContent
written_by_both = record taken_by_both { space = stored 0 5 (7 ∷ []) space_of_both }

stored_1 : Stores beside_2 1 5 (9 ∷ []) written_by_1
stored_1 = record { tenant = omega arith; reach = in_frame space_of_1 beside_2.buddy no_slabs 1 5 1 refl refl (omega arith) (omega arith); is = refl }

written_1 : IsKernel written_by_1 × Steps beside_2 (On.Tenant 1 (Command.Write 5 (record { items = 9 ∷ [] }))) written_by_1 (to_tenant 1 (Say.Written 1))
written_1 = stores_are_writes beside_2 written_by_1 1 5 (9 ∷ []) taken_1.1 stored_1

granted_0 : Acts written_by_1 (Runs (On.Admin (Do.Grant 0)) (granted_reply 0 0 1)) granted_to_both
granted_0 =
    grant_acts written_by_1.space (holders None None (Some 0) (Some 0)) no_slabs 0 0 1
    (first_slot written_by_1.space (holders None None (Some 0) (Some 0)) 0 1 written_1.0.together (omega arith) refl refl (omega arith))
    (holders_laws (Some 1) None (Some 0) (Some 0) (λ k is. absurd (cc)) (λ k is. (cc, refl)) (λ m is is'. cc))

taken_0 : Acts granted_to_both (Runs (On.Tenant 0 (Command.Alloc 0)) (to_tenant 0 (Say.Frame 0))) taken_by_both
taken_0 =
    alloc_acts space_of_both (holders (Some 1) None (Some 0) (Some 0)) no_slabs 0 0 0 3 granted_0.1.together (omega arith) (omega arith) (chosen 1)
    (holders_laws (Some 1) (Some 0) (Some 0) (Some 0) (λ k is. (cc, refl)) (λ k is. (cc, refl)) (λ m is is'. cc))

stored_0 : Stores taken_by_both 0 5 (7 ∷ []) written_by_both
stored_0 = record { tenant = omega arith; reach = in_frame space_of_both taken_by_both.buddy no_slabs 0 5 1 refl refl (omega arith) (omega arith); is = refl }

written_0 : IsKernel written_by_both × Steps taken_by_both (On.Tenant 0 (Command.Write 5 (record { items = 7 ∷ [] }))) written_by_both (to_tenant 0 (Say.Written 1))
written_0 = stores_are_writes taken_by_both written_by_both 0 5 (7 ∷ []) taken_0.1 stored_0

loaded_0 : Loads written_by_both 0 5 7
loaded_0 = record {
  tenant = omega arith;
  reach = in_frame written_by_both.space written_by_both.buddy no_slabs 0 5 1 refl refl (omega arith) (omega arith);
  is = taken_0.1.together.space.own_bytes.window 0 5 1 (7 ∷ []) refl refl 5;
}

answers_grant_1 : AnswersLine opened (reading_of grant_1.line) beside_1 grant_1.text
unfolding reading_of words_of reading_of_words event_of digits
answers_grant_1 = (granted_reply 1 0 0, granted_1.0, refl)

answers_alloc_1 : AnswersLine beside_1 (reading_of alloc_1.line) beside_2 alloc_1.text
unfolding reading_of words_of reading_of_words event_of digits
answers_alloc_1 = (to_tenant 1 (Say.Frame 0), taken_1.0, refl)

answers_write_1 : AnswersLine beside_2 (reading_of write_1.line) written_by_1 write_1.text
unfolding reading_of words_of reading_of_words event_of hex_on_literals digits
answers_write_1 = (to_tenant 1 (Say.Written 1), written_1.1, refl)

answers_grant_other : AnswersLine written_by_1 (reading_of grant_other.line) granted_to_both grant_other.text
unfolding reading_of words_of reading_of_words event_of digits
answers_grant_other = (granted_reply 0 0 1, granted_0.0, refl)

beside_ran : Ran opened beside written_by_both
beside_ran = (
  beside_1,
  one_line grant_1.line refl,
  answers_grant_1,
  (
    beside_2,
    one_line alloc_1.line refl,
    answers_alloc_1,
    (
      written_by_1,
      one_line write_1.line refl,
      answers_write_1,
      (
        granted_to_both,
        one_line grant_other.line refl,
        answers_grant_other,
        (
          taken_by_both,
          one_line alloc_0.line refl,
          allocating granted_to_both taken_by_both taken_0.0,
          (
            written_by_both,
            one_line write_0.line refl,
            writing taken_by_both written_by_both written_0.1,
            (
              written_by_both,
              one_line read_0.line refl,
              reading written_by_both written_by_both (read_acts written_by_both 0 5 7 written_0.0 loaded_0).0,
              refl,
            ),
          ),
        ),
      ),
    ),
  ),
)

-- The instances of the laws

StandsAfterCalls-met : StandsAfterCalls → Shows written_by_both (world_after cache_limit 3 (opening_world 2 2) (events_of (lines_of_calls beside)))
StandsAfterCalls-met law = law opened written_by_both beside beside_ran (opening_world 2 2) is_opened.shows

OwnLinesOfCalls-met : OwnLinesOfCalls → codes "0> frame 0" ∷ codes "0> written 1" ∷ codes "0> bytes 07" ∷ []
    ≡ private_lines cache_limit 3 2 2 0
    (codes "admin grant 1\n1 alloc 0\n1 write 5 09\nadmin grant 0\n0 alloc 0\n0 write 5 07\n0 read 5 1\n")
unfolding digits
OwnLinesOfCalls-met law = law opened written_by_both 2 2 0 beside is_opened.shows (omega arith) beside_ran

-- tenant 0's own lists on the two machines are equal
same_lists : HaveSameOwnList cache_limit 3 2 2 2 2 0 (events_of (lines_of_calls alone)) (events_of (lines_of_calls beside))
unfolding reading_of words_of reading_of_words event_of hex_on_literals opening_history opening_world world_step grant_step tenant_step answer command_step
same_lists = record { tenant = omega arith; tenant' = omega arith; own = refl }

-- Tenant 0 gets the same lines alone and beside tenant 1. It also gets the same lines on machines of different sizes, where its
-- request is refused.
SameLinesOfCalls-met : SameLinesOfCalls → (lines_for 0 (texts_of alone) ≡ lines_for 0 (texts_of beside))
    × (lines_for 0 (texts_of (by_0 ∷ [])) ≡ lines_for 0 (texts_of (by_1 ∷ by_0 ∷ [])))
SameLinesOfCalls-met law = (
  law opened alone_3 opened written_by_both 2 2 2 2 0 alone beside is_opened.shows is_opened.shows refl same_lists alone_ran beside_ran,
  law small small great great 2 3 3 4 0 (by_0 ∷ []) (by_1 ∷ by_0 ∷ []) small_shown great_shown same_order equal_lists small_ran great_ran,
)
