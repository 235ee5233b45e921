-- An instance of the law `OffsetsAreRefused`: a free at place 4097. And an instance of the law `OwnSightsOfCalls` with two
-- tenants. Each tenant gets a superblock by a line, allocates a frame in it, and stores 100 bytes there. Tenant 1 allocates by an
-- event that is passed as numbers, tenant 0 by a direct call. Then a blank line is run. Tenant 1 stores once more, at its own
-- place 104. Tenant 0's last byte is at tenant 0's place 104. Tenant 0 loads this byte, and reads it by a line and by a direct
-- call.
-- Last, tenant 0 looks up the live object or page block that has this byte, and the block around it. A lend behind this block is
-- refused.
use Rattle.std.proofs.Common.{◌≡◌, ℕ, ◌^◌, false, List, [], ◌∷◌, Some, Ok, Err, codes, refl, sym, ap, inr, arith}
use Rattle.std.specs.Prelude.{replicate}
use Rattle.std.specs.Fmt.{digits}
use Rattle.model_core.specs.Machine.{Machine, empty_machine}
use Rattle.model_core.specs.Reach.{in_reach}
use Rattle.machine_changes.proofs.Lookups.{some_same}
use Rattle.words_core.specs.declared.event.Event.TheVariants as On
use Rattle.words_core.specs.declared.event.Command.TheVariants.{Alloc, Free, Read}
use Rattle.words_core.specs.declared.reply.Body.TheVariants as Say
use Rattle.words_core.specs.declared.reply.Refusal.TheVariants.{NotABlock, OutOfReach}
use Rattle.words_core.specs.Words.{words_of}
use Rattle.words_core.specs.Grammar.{event_of, reading_of_words, reading_of}
use Rattle.world_core.specs.Limits.{cache_limit}
use Rattle.world_core.specs.World.{opening_world, world_step}
use Rattle.hex.specs.Hex.{encode_with}
use Rattle.kernel_core.specs.declared.frames.FrameKind.{FrameKind}
use Rattle.kernel_core.specs.Shows.{ShowsMachine}
use Rattle.kernel_core.specs.Lending.{HasBlock}
use Rattle.kernel_core.specs.Lookups.{PageBlock}
use Rattle.kernel_core.proofs.BlockAnswers.{taken_found}
use Rattle.kernel_core.proofs.ByteHolders.{free_beyond}
use Rattle.kernel_core.proofs.LendSpans.{has_block}
use Rattle.kernel_core.proofs.LookupAnswers.{holder_answers, no_range_answers}
use Rattle.kernel_core.proofs.PageCalls.{IsRequested}
use Rattle.kernel_core.specs.Actions.{Action, AllAct, StoresAt, LoadsAt, sights_of, own_actions, own_seen}
use Rattle.kernel_core.proofs.Granting.{granted_reply}
use Rattle.kernel_core.proofs.MadeKernels.{to_tenant, read_acts, no_slabs, holder_frame, opened, is_opened}
use Rattle.kernel_core.proofs.WitnessesActions.{bytes, frame_0, beside_1, beside_2, beside_3, beside_4, beside_5, beside_6, beside_7, granted_1, taken_1, stored_1, granted_0, taken_0, stored_0, kernel_6, stored_again, kernel_7, loaded_0}
use Rattle.partmem_c.specs.declared.events.TheConstants.{ALLOC}
use Rattle.partmem_c.specs.declared.kinds.TheConstants.{FRAME}
use Rattle.partmem_c.specs.declared.status.TheConstants.{DONE}
use Rattle.partmem_c.specs.declared.holders.TheConstants.{OF_NO_CACHE}
use Rattle.partmem_c.specs.declared.lookups.TheConstants.{PAGE_BLOCK}
use Rattle.partmem_c.specs.Events.{reply_numbers}
use Rattle.partmem_c.specs.Calls.{frame_at_place, OffsetsAreRefused}
use Rattle.partmem_c.specs.Actions.{Done, Line, Event, Call, FindObject, FindBlock, Lend, Direct, Did, AllDid, AreOf, OwnSightsOfCalls}

OffsetsAreRefused-met : OffsetsAreRefused → (world_step cache_limit opened.order (On.Tenant 0 (Free (frame_at_place 4097))) (opening_world 2 2)).reply
    ≡ to_tenant 0 (Say.Refused NotABlock)
OffsetsAreRefused-met law = law opened (opening_world 2 2) 0 4097 is_opened.kernel is_opened.shows (omega arith) (omega arith)

abbrev granting_1 : Done
granting_1 = Line (codes "admin grant 1") (codes "admin> granted 1 slot 0 superblock 0\n")

abbrev taking_1 : Done
taking_1 = Event (record { kind = ALLOC; tenant = 1; first = 0; second = 0 }) [] (reply_numbers FRAME 0 0 0 0 0) (replicate 64 0) (replicate 64 0)

abbrev granting_0 : Done
granting_0 = Line (codes "admin grant 0") (codes "admin> granted 0 slot 0 superblock 1\n")

abbrev taking_0 : Done
taking_0 = Call (On.Tenant 0 (Alloc 0)) (to_tenant 0 (Say.Frame 0)) DONE

abbrev reading : Done
reading = Line (codes "0 read 104 1") (codes "0> bytes 07\n")

abbrev calling : Done
calling = Call (On.Tenant 0 (Read 104 1)) (to_tenant 0 (Say.Bytes (record { items = 7 ∷ [] }))) DONE

abbrev finding : Done
finding = FindObject 0 104 (Ok (record { cache = OF_NO_CACHE; place = 0; bytes = 4096 }))

abbrev finding_block : Done
finding_block = FindBlock 0 104 (Ok (record { usage = PAGE_BLOCK; place = 0; bytes = 4096 }))

abbrev lending : Done
lending = Lend 0 4096 1 (Err OutOfReach)

abbrev lookups : List Done
lookups = finding ∷ finding_block ∷ lending ∷ []

abbrev all : List Done
all = granting_1 ∷ taking_1 ∷ Direct (StoresAt 1 5 (replicate 100 9)) ∷ granting_0 ∷ taking_0 ∷ Direct (StoresAt 0 5 bytes) ∷ Line [] []
    ∷ Direct (StoresAt 1 104 (9 ∷ [])) ∷ Direct (LoadsAt 0 104 7) ∷ reading ∷ calling ∷ lookups

granted_to_1 : Did opened granting_1 beside_1
unfolding reading_of words_of reading_of_words event_of digits
granted_to_1 = ((granted_reply 1 0 0, granted_1.0, refl), granted_1.1)

taken_by_1 : Did beside_1 taking_1 beside_2
taken_by_1 = (
  On.Tenant 1 (Alloc 0),
  refl,
  record { reply = to_tenant 1 (Say.Frame 0); steps = taken_1.0; are = refl; over = refl },
  taken_1.1,
)

granted_to_0 : Did beside_3 granting_0 beside_4
unfolding reading_of words_of reading_of_words event_of digits
granted_to_0 = ((granted_reply 0 0 1, granted_0.0, refl), granted_0.1)

taken_by_0 : Did beside_4 taking_0 beside_5
taken_by_0 = (taken_0, refl)

blank : Did beside_6 (Line [] []) beside_6
unfolding reading_of words_of reading_of_words
blank = ((refl, refl), kernel_6)

read : Did beside_7 reading beside_7
unfolding reading_of words_of reading_of_words event_of digits encode_with
read =
    let did = read_acts beside_7 0 104 7 kernel_7 loaded_0 in
    ((to_tenant 0 (Say.Bytes (record { items = 7 ∷ [] })), did.0, refl), did.1)

called : Did beside_7 calling beside_7
called = (read_acts beside_7 0 104 7 kernel_7 loaded_0, refl)

asked : IsRequested beside_7.space beside_7.buddy no_slabs 0
asked = record { together = kernel_7.together; tenant = omega arith }

-- each machine that is shown for tenant 0 has a page block at frame 0
page : (m : Machine) → ShowsMachine beside_7 0 m → HasBlock m 104 0 4096
page = has_block beside_7.space beside_7.buddy no_slabs 0 104 asked 0 0 refl (omega arith, omega arith) refl

found : Did beside_7 finding beside_7
found = ((frame_0, refl, holder_answers beside_7 0 0 (refl, omega arith) kernel_7 104 (Some frame_0) page), refl)

found_around : Did beside_7 finding_block beside_7
found_around = (
  (
    omega arith,
    record {
      usage = PageBlock;
      uses = refl;
      is = inr (
        omega arith,
        λ m shown.
            let has = page m shown in
            sym (taken_found beside_7 0 (omega arith) kernel_7 m shown 104 0 0 refl (omega arith, omega arith) FrameKind.Page (has.first, has.order, has.live, has.around)),
      );
    },
  ),
  refl,
)

-- frame 1 is not taken, so place 4096 is not in reach
beyond : (m : Machine) → ShowsMachine beside_7 0 m → in_reach m 4096 1 ≡ false
beyond = free_beyond beside_7.space beside_7.buddy no_slabs 0 4096 asked (λ taken.
    let is = holder_frame (Some 1) (Some 0) taken.0 taken.1 taken.2 in
    let size : 2 ^ taken.1 ≡ 1 = ap (λ n. 2 ^ n) (sym (some_same is.1)) in
    absurd (omega (arith, taken.3.1, is.0, size)))

lent : Did beside_7 lending beside_7
lent = (
  (inr (omega arith, (refl, beyond)), no_range_answers beside_7 0 0 (refl, omega arith) kernel_7 4096 1 beyond),
  refl,
)

after_lookups : AllDid beside_7 lookups beside_7
after_lookups = (beside_7, found, (beside_7, found_around, (beside_7, lent, refl)))

after_stores : AllDid beside_6 (Line [] [] ∷ Direct (StoresAt 1 104 (9 ∷ [])) ∷ Direct (LoadsAt 0 104 7) ∷ reading ∷ calling ∷ lookups) beside_7
after_stores = (beside_6, blank, (beside_7, stored_again, (beside_7, (loaded_0, refl), (beside_7, read, (beside_7, called, after_lookups)))))

done : AllDid opened all beside_7
done = (
  beside_1,
  granted_to_1,
  (beside_2, taken_by_1, (beside_3, stored_1, (beside_4, granted_to_0, (beside_5, taken_by_0, (beside_6, stored_0, after_stores))))),
)

-- all that was done is a list of actions, in which tenant t sees what its private machine returns for t's own list
abbrev SeesItsOwn : ℕ → Type 0
SeesItsOwn t = (actions : List Action) × AreOf all actions × AllAct opened actions beside_7
    × (sights_of t actions ≡ (own_seen cache_limit 3 (own_actions t actions) empty_machine).sights)

OwnSightsOfCalls-met : OwnSightsOfCalls → SeesItsOwn 0 × SeesItsOwn 1
OwnSightsOfCalls-met law = (law opened beside_7 2 2 0 all is_opened (omega arith) done, law opened beside_7 2 2 1 all is_opened (omega arith) done)
