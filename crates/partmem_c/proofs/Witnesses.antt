-- Calls on two machines, one with 2 superblocks and one with 3, where no superblock has an owner. And an instance of the law
-- `MayChangeThreads`.
use Rattle.std.proofs.Common.{◌≡◌, [], ◌∷◌, Some, true, codes, refl, subst, arith}
use base.Shift.{Keyless}
use denote.RawPtr.{block_ptr}
use Rattle.std.specs.Fmt.{digits}
use Rattle.model_core.specs.Machine.{empty_machine, taken_blocks, choice}
use Rattle.model_core.specs.Slabs.{reaped, by_need}
use Rattle.model_core.specs.Operations.{alloc_step}
use Rattle.words_core.specs.declared.event.Command.TheVariants.{Alloc}
use Rattle.words_core.specs.declared.event.Event.{Event}
use Rattle.words_core.specs.declared.event.Event.TheVariants.{Tenant}
use Rattle.words_core.specs.declared.reply.Addressee.{Addressee}
use Rattle.words_core.specs.declared.reply.Addressee.TheVariants as To
use Rattle.words_core.specs.declared.reply.Body.{Body}
use Rattle.words_core.specs.declared.reply.Body.TheVariants.{Refused}
use Rattle.words_core.specs.declared.reply.Refusal.TheVariants.{NoFrames}
use Rattle.words_core.specs.Words.{words_of}
use Rattle.words_core.specs.Grammar.{event_of, reading_of_words, reading_of}
use Rattle.world_core.specs.Limits.{cache_limit}
use Rattle.world_core.specs.PrivateStep.{command_step}
use Rattle.world_core.specs.World.{World, opening_world, answer, tenant_step, world_step}
use Rattle.world_core.specs.Output.{events_of}
use Rattle.world_core.specs.Laws.{HaveSameOwnList, opening_history}
use Rattle.kernel_core.specs.Content.{KernelContent, opening_content}
use Rattle.kernel_core.specs.Shows.{Shows}
use Rattle.kernel_core.specs.Steps.{Steps}
use Rattle.kernel_core.proofs.KernelToWorld.{steps_answered, one_world}
use Rattle.kernel_core.proofs.Witnesses.{opening_shown}
use Rattle.streams.specs.Lines.{IsOneLine}
use Rattle.partmem_c.specs.Lines.{AnswersLine}
use Rattle.partmem_c.specs.Laws.{Call, lines_of_calls, Ran, MayChangeThreads}
use Rattle.partmem_c.specs.contracts.machine_storage.MachineStorage.{the_row}

-- if a kernel shows a world, and an event does not change this world, the event is a step from the kernel to itself
stays : (k : KernelContent) (w : World) (event : Event) (to : Addressee) (body : Body) → Shows k w → world_step cache_limit k.order event w ≡ answer to body w
    → Steps k event k (record { addressee = to; body = body })
stays k w event to body shown same =
    steps_answered k event to body (λ v there. subst (λ x. world_step cache_limit k.order event x ≡ answer to body x) (one_world k w v shown there) same)

-- calls in which tenant 0 or tenant 1 requests a frame, but has no superblock
abbrev pub by_0 : Call
by_0 = record { line = codes "0 alloc 0"; text = codes "0> refused 1 NoFrames\n" }

abbrev pub by_1 : Call
by_1 = record { line = codes "1 alloc 0"; text = codes "1> refused 1 NoFrames\n" }

one_line_0 : IsOneLine by_0.line
one_line_0 = (refl, (refl, (refl, (refl, (refl, (refl, (refl, (refl, (refl, tt)))))))))

one_line_1 : IsOneLine by_1.line
one_line_1 = (refl, (refl, (refl, (refl, (refl, (refl, (refl, (refl, (refl, tt)))))))))

-- The machine with 2 superblocks and 3 tenants.

abbrev pub small : KernelContent
small = opening_content 3 2 3

pub small_shown : Shows small (opening_world 2 3)
small_shown = opening_shown 2 3 (omega arith) (omega arith)

small_answers : AnswersLine small (reading_of by_0.line) small by_0.text
unfolding reading_of words_of reading_of_words event_of opening_content opening_world world_step tenant_step answer command_step alloc_step by_need reaped choice taken_blocks empty_machine digits
small_answers = (record { addressee = To.Tenant 0; body = Refused NoFrames }, stays small (opening_world 2 3) (Tenant 0 (Alloc 0)) (To.Tenant 0) (Refused NoFrames) small_shown refl, refl)

pub small_ran : Ran small (by_0 ∷ []) small
small_ran = (small, one_line_0, small_answers, refl)

-- The machine with 3 superblocks and 4 tenants.

abbrev pub great : KernelContent
great = opening_content 3 3 4

pub great_shown : Shows great (opening_world 3 4)
great_shown = opening_shown 3 4 (omega arith) (omega arith)

great_answers_0 : AnswersLine great (reading_of by_0.line) great by_0.text
unfolding reading_of words_of reading_of_words event_of opening_content opening_world world_step tenant_step answer command_step alloc_step by_need reaped choice taken_blocks empty_machine digits
great_answers_0 = (record { addressee = To.Tenant 0; body = Refused NoFrames }, stays great (opening_world 3 4) (Tenant 0 (Alloc 0)) (To.Tenant 0) (Refused NoFrames) great_shown refl, refl)

great_answers_1 : AnswersLine great (reading_of by_1.line) great by_1.text
unfolding reading_of words_of reading_of_words event_of opening_content opening_world world_step tenant_step answer command_step alloc_step by_need reaped choice taken_blocks empty_machine digits
great_answers_1 = (record { addressee = To.Tenant 1; body = Refused NoFrames }, stays great (opening_world 3 4) (Tenant 1 (Alloc 0)) (To.Tenant 1) (Refused NoFrames) great_shown refl, refl)

pub great_ran : Ran great (by_1 ∷ by_0 ∷ []) great
great_ran = (great, one_line_1, great_answers_1, (great, one_line_0, great_answers_0, refl))

-- tenant 0's own lists on the two machines are equal
pub equal_lists : HaveSameOwnList cache_limit small.order 2 3 3 4 0 (events_of (lines_of_calls (by_0 ∷ []))) (events_of (lines_of_calls (by_1 ∷ by_0 ∷ [])))
unfolding reading_of words_of reading_of_words event_of opening_content opening_history opening_world world_step tenant_step answer command_step
equal_lists = record { tenant = omega arith; tenant' = omega arith; own = refl }

pub same_order : great.order ≡ small.order
unfolding opening_content
same_order = refl

-- the storage of a booted machine, whose kernel is `small`
abbrev booted : the_row.Denot
booted = record { is_booted = true; cell = record { at = block_ptr 1 0; held = Some small }; agrees = refl }

MayChangeThreads-met : MayChangeThreads → Keyless (the_row.own_val booted [])
MayChangeThreads-met law = law.owned booted []
