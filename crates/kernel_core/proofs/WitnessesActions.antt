-- Instances of the laws of worlds, of stores, of live holders and of actions. The last are for two lists of actions. In the list `alone`, only tenant 0 acts.
-- It gets a superblock, allocates a frame, stores 100 bytes there (the command `write` has at most 64), and loads and reads the
-- last of these bytes. Then it looks up the holder of this byte, and the holder of the first byte behind the frame. In the list `beside`, tenant 0 does the same. Before that, tenant 1 gets a superblock, allocates a frame
-- and stores its own bytes. Tenant 1 stores once more before tenant 0 loads.
use Rattle.std.proofs.Common.{◌≡◌, ℕ, ◌^◌, List, [], ◌∷◌, Some, None, refl, sym, ap, ◌∙◌, false, arith, length, ◌<◌, position, is_none}
use Rattle.std.specs.Prelude.{replicate}
use Rattle.model_core.specs.Blocks.{IsTaken}
use Rattle.model_core.specs.Machine.{Machine, empty_machine}
use Rattle.model_core.specs.WellFormed.{IsWellFormed}
use Rattle.words_core.specs.declared.event.Event.TheVariants as On
use Rattle.words_core.specs.declared.event.AdminCommand.TheVariants as Do
use Rattle.words_core.specs.declared.event.Command.TheVariants as Command
use Rattle.words_core.specs.declared.reply.Addressee.TheVariants as To
use Rattle.words_core.specs.declared.reply.Body.TheVariants.{Frame, Bytes, Written}
use Rattle.words_core.specs.declared.reply.Refusal.TheVariants.{OutOfReach}
use Rattle.world_core.specs.Limits.{cache_limit}
use Rattle.world_core.specs.PrivateStep.{Ask, Grant}
use Rattle.world_core.specs.World.{World, opening_world, world_step}
use Rattle.space_core.specs.Content as spaces
use Rattle.space_core.specs.Changes.{with_grant}
use Rattle.buddy_core.specs.Content as buddies
use Rattle.machine_changes.specs.Shows.{machine_frame_of, has_slab}
use Rattle.machine_changes.specs.Pages.{stored}
use Rattle.machine_changes.specs.Slots.{HoldTogether}
use Rattle.machine_changes.proofs.Lookups.{some_same}
use Rattle.kernel_core.specs.declared.holders.Holder.{Holder}
use Rattle.kernel_core.specs.Content.{KernelContent, content_of}
use Rattle.kernel_core.specs.Shows.{Shows, OneWorld}
use Rattle.kernel_core.specs.Steps.{Steps}
use Rattle.kernel_core.specs.Stores.{IsKernel, Stores, Loads, StoresAreWrites, LoadsAreOwn}
use Rattle.kernel_core.specs.Holders.{ShownWellFormed}
use Rattle.kernel_core.specs.Lookups.{HolderOf, FoundHolder, Refused, AnswersLookup}
use Rattle.kernel_core.specs.Actions.{Action, Runs, StoresAt, LoadsAt, Finds, Acts, AllAct, Sight, Told, Loaded, Found, sights_of, Own, Enters, Stored, LoadedAt, Sought, own_seen, OwnSights, SameSights}
use Rattle.kernel_core.proofs.Actions.{Has, booted_has, all_follow}
use Rattle.kernel_core.proofs.ByteHolders.{free_beyond}
use Rattle.kernel_core.proofs.LendSpans.{has_block}
use Rattle.kernel_core.proofs.LookupAnswers.{holder_answers}
use Rattle.kernel_core.proofs.PageCalls.{IsRequested}
use Rattle.kernel_core.proofs.Granting.{IsGrantable, granted_reply}
use Rattle.kernel_core.proofs.MadeKernels.{to_tenant, grant_acts, alloc_acts, read_acts, in_frame, holder, holders, holder_frame, holders_laws, chosen, opened_space, no_slabs, opened, is_opened}
use Rattle.kernel_core.proofs.Stores.{stores_are_writes}

abbrev pub bytes : List ℕ
bytes = replicate 100 7

-- if a tenant does not hold slot 0, the first superblock without an owner can be granted to the tenant in slot 0
pub first_slot : (r : spaces.Content) (b : buddies.Content) (t m : ℕ) → HoldTogether r b no_slabs → t < length b.tenants → position is_none r.owners ≡ Some m
    → spaces.superblock_at r.slots t 0 ≡ None → m < length r.owners → IsGrantable r b no_slabs t 0 m
first_slot r b t m together tenant free vacant below = record {
  together = together;
  tenant = tenant;
  free = free;
  least = record { vacant = vacant; below = λ v less. absurd (omega arith) };
  slot_below = omega arith;
  below = below;
}

-- Alone

abbrev pub space_1 : spaces.Content
space_1 = with_grant opened_space 0 0 0

abbrev pub alone_1 : KernelContent
alone_1 = content_of space_1 (holders (Some 0) None None None) no_slabs

abbrev pub alone_2 : KernelContent
alone_2 = content_of space_1 (holders (Some 0) (Some 0) None None) no_slabs

abbrev pub alone_3 : KernelContent
alone_3 = record alone_2 { space = stored 0 5 bytes space_1 }

pub alone_granted : Acts opened (Runs (On.Admin (Do.Grant 0)) (granted_reply 0 0 0)) alone_1
alone_granted =
    grant_acts opened_space (holders None None None None) no_slabs 0 0 0
    (first_slot opened_space (holders None None None None) 0 0 is_opened.kernel.together (omega arith) refl refl (omega arith))
    (holders_laws (Some 0) None None None (λ k is. absurd (cc)) (λ k is. absurd (cc)) (λ m is is'. cc))

pub alone_taken : Acts alone_1 (Runs (On.Tenant 0 (Command.Alloc 0)) (to_tenant 0 (Frame 0))) alone_2
alone_taken =
    alloc_acts space_1 (holders (Some 0) None None None) no_slabs 0 0 0 3 alone_granted.1.together (omega arith) (omega arith) (chosen 0)
    (holders_laws (Some 0) (Some 0) None None (λ k is. (cc, refl)) (λ k is. absurd (cc)) (λ m is is'. cc))

pub alone_stored : Stores alone_2 0 5 bytes alone_3
alone_stored = record { tenant = omega arith; reach = in_frame space_1 alone_2.buddy no_slabs 0 5 100 refl refl (omega arith) (omega arith); is = refl }

pub alone_kernel : IsKernel alone_3
alone_kernel = (stores_are_writes alone_2 alone_3 0 5 bytes alone_taken.1 alone_stored).0

pub alone_loaded : Loads alone_3 0 104 7
alone_loaded = record {
  tenant = omega arith;
  reach = in_frame alone_3.space alone_3.buddy no_slabs 0 104 1 refl refl (omega arith) (omega arith);
  is = alone_granted.1.together.space.own_bytes.window 0 5 100 bytes refl refl 104;
}

-- the page block at frame 0
abbrev pub frame_0 : Holder
frame_0 = record { cache = None; place = 0; bytes = 4096 }

abbrev lookups : List Action
lookups = Finds 0 (HolderOf 104) (FoundHolder frame_0) ∷ Finds 0 (HolderOf 4096) (Refused OutOfReach) ∷ []

-- if the only taken block of tenant 0 is the frame 0, and there are no slabs, these are the outcomes of the lookups
module _ (r : spaces.Content) (b : buddies.Content) (is : IsKernel (content_of r b no_slabs)) (tenant : 0 < length b.tenants)
    (taken : buddies.taken_of (buddies.holding_of 0 b) 0 ≡ Some 0) (page : has_slab no_slabs (machine_frame_of 3 r.slots 0 0) ≡ false)
    (only : IsTaken (buddies.taken_of (buddies.holding_of 0 b)) 1 → ⊥) where
  asked : IsRequested r b no_slabs 0
  asked = record { together = is.together; tenant = tenant }

  pub holder_found : AnswersLookup (content_of r b no_slabs) 0 (HolderOf 104) (FoundHolder frame_0)
  holder_found =
      holder_answers (content_of r b no_slabs) 0 0 (refl, tenant) is 104 (Some frame_0)
      (has_block r b no_slabs 0 104 asked 0 0 taken (omega arith, omega arith) page)

  pub none_found : AnswersLookup (content_of r b no_slabs) 0 (HolderOf 4096) (Refused OutOfReach)
  none_found = holder_answers (content_of r b no_slabs) 0 0 (refl, tenant) is 4096 None (free_beyond r b no_slabs 0 4096 asked only)

-- in the buddy system of a tenant whose only taken block is frame 0, frame 1 is not taken
frame_1_untaken : (m : ℕ) → IsTaken (buddies.taken_of (holder (Some m) (Some 0))) 1 → ⊥
frame_1_untaken m (f, j, e, here) =
    let is = holder_frame (Some m) (Some 0) f j e in
    let size : 2 ^ j ≡ 1 = ap (λ n. 2 ^ n) (sym (some_same is.1)) in
    absurd (omega (arith, here.1, is.0, size))

abbrev alone : List Action
alone = Runs (On.Admin (Do.Grant 0)) (granted_reply 0 0 0) ∷ Runs (On.Tenant 0 (Command.Alloc 0)) (to_tenant 0 (Frame 0)) ∷ StoresAt 0 5 bytes
    ∷ LoadsAt 0 104 7 ∷ Runs (On.Tenant 0 (Command.Read 104 1)) (to_tenant 0 (Bytes (record { items = 7 ∷ [] }))) ∷ lookups

alone_lookups : AllAct alone_3 lookups alone_3
alone_lookups = (
  alone_3,
  (holder_found alone_3.space alone_3.buddy alone_kernel (omega arith) refl refl (frame_1_untaken 0), refl),
  (alone_3, (none_found alone_3.space alone_3.buddy alone_kernel (omega arith) refl refl (frame_1_untaken 0), refl), refl),
)

alone_acts : AllAct opened alone alone_3
alone_acts =
    (alone_1, alone_granted, (alone_2, alone_taken, (alone_3, alone_stored, (alone_3, (alone_loaded, refl), (alone_3, read_acts alone_3 0 104 7 alone_kernel alone_loaded, alone_lookups)))))

-- Beside tenant 1

abbrev pub space_of_1 : spaces.Content
space_of_1 = with_grant opened_space 1 0 0

abbrev pub beside_1 : KernelContent
beside_1 = content_of space_of_1 (holders None None (Some 0) None) no_slabs

abbrev pub beside_2 : KernelContent
beside_2 = content_of space_of_1 (holders None None (Some 0) (Some 0)) no_slabs

abbrev pub beside_3 : KernelContent
beside_3 = record beside_2 { space = stored 1 5 (replicate 100 9) space_of_1 }

abbrev pub space_of_both : spaces.Content
space_of_both = with_grant beside_3.space 0 0 1

abbrev pub beside_4 : KernelContent
beside_4 = content_of space_of_both (holders (Some 1) None (Some 0) (Some 0)) no_slabs

abbrev pub beside_5 : KernelContent
beside_5 = content_of space_of_both (holders (Some 1) (Some 0) (Some 0) (Some 0)) no_slabs

abbrev pub beside_6 : KernelContent
beside_6 = record beside_5 { space = stored 0 5 bytes space_of_both }

-- tenant 1 has stored a byte at its own place 104; tenant 0 loads from its own place 104 later
abbrev pub beside_7 : KernelContent
beside_7 = record beside_6 { space = stored 1 104 (9 ∷ []) beside_6.space }

pub granted_1 : Acts opened (Runs (On.Admin (Do.Grant 1)) (granted_reply 1 0 0)) beside_1
granted_1 =
    grant_acts opened_space (holders None None None None) no_slabs 1 0 0
    (first_slot opened_space (holders None None None None) 1 0 is_opened.kernel.together (omega arith) refl refl (omega arith))
    (holders_laws None None (Some 0) None (λ k is. absurd (cc)) (λ k is. absurd (cc)) (λ m is is'. cc))

pub taken_1 : Acts beside_1 (Runs (On.Tenant 1 (Command.Alloc 0)) (to_tenant 1 (Frame 0))) beside_2
taken_1 =
    alloc_acts space_of_1 (holders None None (Some 0) None) no_slabs 1 0 0 3 granted_1.1.together (omega arith) (omega arith) (chosen 0)
    (holders_laws None None (Some 0) (Some 0) (λ k is. absurd (cc)) (λ k is. (cc, refl)) (λ m is is'. cc))

pub stored_1 : Stores beside_2 1 5 (replicate 100 9) beside_3
stored_1 = record { tenant = omega arith; reach = in_frame space_of_1 beside_2.buddy no_slabs 1 5 100 refl refl (omega arith) (omega arith); is = refl }

kernel_3 : IsKernel beside_3
kernel_3 = (stores_are_writes beside_2 beside_3 1 5 (replicate 100 9) taken_1.1 stored_1).0

pub granted_0 : Acts beside_3 (Runs (On.Admin (Do.Grant 0)) (granted_reply 0 0 1)) beside_4
granted_0 =
    grant_acts beside_3.space (holders None None (Some 0) (Some 0)) no_slabs 0 0 1
    (first_slot beside_3.space (holders None None (Some 0) (Some 0)) 0 1 kernel_3.together (omega arith) refl refl (omega arith))
    (holders_laws (Some 1) None (Some 0) (Some 0) (λ k is. absurd (cc)) (λ k is. (cc, refl)) (λ m is is'. cc))

pub taken_0 : Acts beside_4 (Runs (On.Tenant 0 (Command.Alloc 0)) (to_tenant 0 (Frame 0))) beside_5
taken_0 =
    alloc_acts space_of_both (holders (Some 1) None (Some 0) (Some 0)) no_slabs 0 0 0 3 granted_0.1.together (omega arith) (omega arith) (chosen 1)
    (holders_laws (Some 1) (Some 0) (Some 0) (Some 0) (λ k is. (cc, refl)) (λ k is. (cc, refl)) (λ m is is'. cc))

pub stored_0 : Stores beside_5 0 5 bytes beside_6
stored_0 = record { tenant = omega arith; reach = in_frame space_of_both beside_5.buddy no_slabs 0 5 100 refl refl (omega arith) (omega arith); is = refl }

pub kernel_6 : IsKernel beside_6
kernel_6 = (stores_are_writes beside_5 beside_6 0 5 bytes taken_0.1 stored_0).0

pub stored_again : Stores beside_6 1 104 (9 ∷ []) beside_7
stored_again = record {
  tenant = omega arith;
  reach = in_frame beside_6.space beside_6.buddy no_slabs 1 104 1 refl refl (omega arith) (omega arith);
  is = refl;
}

pub kernel_7 : IsKernel beside_7
kernel_7 = (stores_are_writes beside_6 beside_7 1 104 (9 ∷ []) kernel_6 stored_again).0

pub loaded_0 : Loads beside_7 0 104 7
loaded_0 = record {
  tenant = omega arith;
  reach = in_frame beside_7.space beside_7.buddy no_slabs 0 104 1 refl refl (omega arith) (omega arith);
  is = (kernel_6.together.space.others.window 1 104 1 (9 ∷ []) 0 (λ same. absurd (omega arith))).bytes 104
      ∙ taken_0.1.together.space.own_bytes.window 0 5 100 bytes refl refl 104;
}

abbrev beside : List Action
beside = Runs (On.Admin (Do.Grant 1)) (granted_reply 1 0 0) ∷ Runs (On.Tenant 1 (Command.Alloc 0)) (to_tenant 1 (Frame 0)) ∷ StoresAt 1 5 (replicate 100 9)
    ∷ Runs (On.Admin (Do.Grant 0)) (granted_reply 0 0 1) ∷ Runs (On.Tenant 0 (Command.Alloc 0)) (to_tenant 0 (Frame 0)) ∷ StoresAt 0 5 bytes
    ∷ StoresAt 1 104 (9 ∷ []) ∷ LoadsAt 0 104 7
    ∷ Runs (On.Tenant 0 (Command.Read 104 1)) (to_tenant 0 (Bytes (record { items = 7 ∷ [] }))) ∷ lookups

beside_lookups : AllAct beside_7 lookups beside_7
beside_lookups = (
  beside_7,
  (holder_found beside_7.space beside_7.buddy kernel_7 (omega arith) refl refl (frame_1_untaken 1), refl),
  (beside_7, (none_found beside_7.space beside_7.buddy kernel_7 (omega arith) refl refl (frame_1_untaken 1), refl), refl),
)

beside_acts : AllAct opened beside beside_7
beside_acts = (
  beside_1,
  granted_1,
  (
    beside_2,
    taken_1,
    (
      beside_3,
      stored_1,
      (
        beside_4,
        granted_0,
        (
          beside_5,
          taken_0,
          (
            beside_6,
            stored_0,
            (
              beside_7,
              stored_again,
              (beside_7, (loaded_0, refl), (beside_7, read_acts beside_7 0 104 7 kernel_7 loaded_0, beside_lookups)),
            ),
          ),
        ),
      ),
    ),
  ),
)

-- The laws

-- before the first grant, the kernel shows only the opening world; after it, the kernel shows only the world after this grant
OneWorld-met : OneWorld → ((w : World) → Shows opened w → w ≡ opening_world 2 2)
    × ((w : World) → Shows alone_1 w → w ≡ (world_step cache_limit 3 (On.Admin (Do.Grant 0)) (opening_world 2 2)).world)
OneWorld-met law = (
  λ w shown. law opened w (opening_world 2 2) shown is_opened.shows,
  λ w shown. law alone_1 w (world_step cache_limit 3 (On.Admin (Do.Grant 0)) (opening_world 2 2)).world shown
      (alone_granted.0.shows (opening_world 2 2) is_opened.shows),
)

StoresAreWrites-met : StoresAreWrites →
    Steps alone_2 (On.Tenant 0 (Command.Write 5 (record { items = bytes }))) alone_3 (record { addressee = To.Tenant 0; body = Written 100 })
StoresAreWrites-met law = (law alone_2 alone_3 0 5 bytes alone_taken.1 alone_stored).1

-- the private machine after tenant 0 has stored the 100 bytes
abbrev pub written : Machine
written = (own_seen cache_limit 3 (Enters Grant ∷ Enters (Ask (Command.Alloc 0)) ∷ Stored 5 bytes ∷ []) empty_machine).machine

alone_has : Has alone_3 0 written
alone_has =
    let first : List Action =
    Runs (On.Admin (Do.Grant 0)) (granted_reply 0 0 0) ∷ Runs (On.Tenant 0 (Command.Alloc 0)) (to_tenant 0 (Frame 0)) ∷ StoresAt 0 5 bytes ∷ [] in
    (all_follow opened alone_3 first 0 empty_machine (booted_has opened 2 2 0 is_opened (omega arith))
    (alone_1, alone_granted, (alone_2, alone_taken, (alone_3, alone_stored, refl)))).has

ShownWellFormed-met : ShownWellFormed → IsWellFormed 32 3 written
ShownWellFormed-met law = law alone_3 0 written alone_kernel (omega arith) (alone_has.shows.machines 0 written alone_has.machine)

LoadsAreOwn-met : LoadsAreOwn → written.bytes 104 ≡ Some 7
LoadsAreOwn-met law = law alone_3 alone_has.world written 0 104 7 alone_has.kernel alone_has.shows alone_has.machine alone_loaded

-- with each of the two lists of actions, tenant 0 sees the sights `seen`, and its own list is `own_list`
abbrev pub seen : List Sight
seen = Told (Frame 0) ∷ Loaded (Some 7) ∷ Told (Bytes (record { items = 7 ∷ [] })) ∷ Found (FoundHolder frame_0) ∷ Found (Refused OutOfReach) ∷ []

abbrev own_list : List Own
own_list = Enters Grant ∷ Enters (Ask (Command.Alloc 0)) ∷ Stored 5 bytes ∷ LoadedAt 104 ∷ Enters (Ask (Command.Read 104 1))
    ∷ Sought (HolderOf 104) ∷ Sought (HolderOf 4096) ∷ []

OwnSights-met : OwnSights → seen ≡ (own_seen cache_limit 3 own_list empty_machine).sights
OwnSights-met law = (law opened beside_7 2 2 0 beside is_opened (omega arith) beside_acts).0

SameSights-met : SameSights → sights_of 0 alone ≡ sights_of 0 beside
SameSights-met law = law opened alone_3 opened beside_7 2 2 2 2 0 alone beside is_opened is_opened refl (omega arith) (omega arith) alone_acts beside_acts refl
