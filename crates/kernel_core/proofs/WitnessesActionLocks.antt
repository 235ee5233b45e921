-- Instances of the laws of actions that run side by side. A store of tenant 1 comes before or after a grant for tenant 0, and before
-- or after a load of tenant 0. The kernels are those of `WitnessesActions`.
use Rattle.std.proofs.Common.{◌≡◌, ℕ, ◌==◌, true, List, [], ◌∷◌, None, Some, refl, arith}
use Rattle.std.proofs.lemmas.Bool.{eqb-true}
use Rattle.std.specs.Prelude.{replicate}
use Rattle.words_core.specs.declared.event.AdminCommand.TheVariants as Do
use Rattle.words_core.specs.declared.event.Command.TheVariants as Command
use Rattle.words_core.specs.declared.event.Event.TheVariants as On
use Rattle.words_core.specs.declared.reply.Body.TheVariants.{Frame}
use Rattle.world_core.specs.World.{opening_world}
use Rattle.world_core.specs.Locks.{OfTenant, OfAdministrator, ShareNoLock, HaveSameLocks, Begins, Ends}
use Rattle.machine_changes.specs.Pages.{stored}
use Rattle.space_core.specs.Content as spaces
use Rattle.space_core.specs.Changes.{with_grant}
use Rattle.kernel_core.specs.Content.{KernelContent, content_of}
use Rattle.kernel_core.specs.Stores.{Stores, Loads}
use Rattle.kernel_core.specs.Actions.{Action, Runs, StoresAt, LoadsAt, Acts, AllAct, sights_of}
use Rattle.kernel_core.specs.ActionLocks.{Attempt, RunEvent, StoreBytes, LoadByte, attempt_needs, action_needs, ShowSameWorld, SameWorldAfterActions, SameOutcomesInAnyOrder, SameSightsInAnyOrder, ActionsBegunAsEnded}
use Rattle.kernel_core.proofs.Granting.{granted_reply}
use Rattle.kernel_core.proofs.MadeKernels.{to_tenant, grant_acts, in_frame, holders, holders_laws, no_slabs, opened, is_opened}
use Rattle.kernel_core.proofs.ActionsAnyOrder.{all_act_seen, actions_begun_as_ended}
use Rattle.kernel_core.proofs.WitnessesActions.{bytes, first_slot, space_of_1, beside_1, beside_2, beside_3, beside_4, beside_5, beside_6, beside_7, granted_1, taken_1, stored_1, granted_0, taken_0, stored_0, stored_again, loaded_0}

-- two attempts that share no lock, in either order
pub two_orders : (a b : Attempt) → ShareNoLock attempt_needs b a → HaveSameLocks attempt_needs (a ∷ b ∷ []) (b ∷ a ∷ [])
two_orders a b share =
    actions_begun_as_ended (Begins a ∷ Begins b ∷ Ends b ∷ Ends a ∷ []) (tt, ((share, tt), ([], a ∷ [], refl, ([], [], refl, refl))))

abbrev pub grants_0 : Attempt
grants_0 = RunEvent (On.Admin (Do.Grant 0))

abbrev pub nines : List ℕ
nines = replicate 100 9

-- one number is not both 0 and 1
not_both : (n : ℕ) → (0 == n) ≡ true → (1 == n) ≡ true → ⊥
not_both n here there = let is : 0 ≡ n = eqb-true 0 n here in let is' : 1 ≡ n = eqb-true 1 n there in absurd (omega arith)

pub grant_beside : ShareNoLock attempt_needs grants_0 (StoreBytes 1 5 nines)
grant_beside (OfTenant n) here there = not_both n here there
grant_beside OfAdministrator here there = cc

load_beside : ShareNoLock attempt_needs (LoadByte 0 104) (StoreBytes 1 104 (9 ∷ []))
load_beside (OfTenant n) here there = not_both n here there
load_beside OfAdministrator here there = cc

-- A grant for tenant 0 beside a store of tenant 1

abbrev pub space_early : spaces.Content
space_early = with_grant space_of_1 0 0 1

abbrev pub early_1 : KernelContent
early_1 = content_of space_early (holders (Some 1) None (Some 0) (Some 0)) no_slabs

abbrev pub early_2 : KernelContent
early_2 = record early_1 { space = stored 1 5 nines space_early }

pub granted_early : Acts beside_2 (Runs (On.Admin (Do.Grant 0)) (granted_reply 0 0 1)) early_1
granted_early =
    grant_acts space_of_1 (holders None None (Some 0) (Some 0)) no_slabs 0 0 1
    (first_slot space_of_1 (holders None None (Some 0) (Some 0)) 0 1 taken_1.1.together (omega arith) refl refl (omega arith))
    (holders_laws (Some 1) None (Some 0) (Some 0) (λ k is. absurd (cc)) (λ k is. (cc, refl)) (λ m is is'. cc))

pub stored_late : Stores early_1 1 5 nines early_2
stored_late = record { tenant = omega arith; reach = in_frame space_early early_1.buddy no_slabs 1 5 100 refl refl (omega arith) (omega arith); is = refl }

-- a kernel that a list of actions leads to shows the same world as itself
module _ (k : KernelContent) (actions : List Action) (acts : AllAct opened actions k) where
  pub same_as_itself : ShowSameWorld k k
  same_as_itself =
      let seen = all_act_seen 3 opened k actions (opening_world 2 2) (record { kernel = is_opened.kernel; order_is = refl; shows = is_opened.shows }) acts in
      record { kernel = seen.has.kernel; kernel' = seen.has.kernel; order = refl; world = _; shows = seen.has.shows; shows' = seen.has.shows }

-- tenant 1 gets a superblock and allocates a frame
abbrev pub begin_1 : List Action
begin_1 = Runs (On.Admin (Do.Grant 1)) (granted_reply 1 0 0) ∷ Runs (On.Tenant 1 (Command.Alloc 0)) (to_tenant 1 (Frame 0)) ∷ []

pub begun_1 : AllAct opened begin_1 beside_2
begun_1 = (beside_1, granted_1, (beside_2, taken_1, refl))

SameWorldAfterActions-met : SameWorldAfterActions → ShowSameWorld beside_4 early_2
SameWorldAfterActions-met law =
    law beside_2 beside_4 beside_2 early_2 (StoresAt 1 5 nines ∷ Runs (On.Admin (Do.Grant 0)) (granted_reply 0 0 1) ∷ [])
    (Runs (On.Admin (Do.Grant 0)) (granted_reply 0 0 1) ∷ StoresAt 1 5 nines ∷ []) (same_as_itself beside_2 begin_1 begun_1)
    (beside_3, stored_1, (beside_4, granted_0, refl)) (early_1, granted_early, (early_2, stored_late, refl))
    (two_orders (StoreBytes 1 5 nines) grants_0 grant_beside)

-- A load of tenant 0 beside a store of tenant 1

abbrev begin_both : List Action
begin_both = Runs (On.Admin (Do.Grant 1)) (granted_reply 1 0 0) ∷ Runs (On.Tenant 1 (Command.Alloc 0)) (to_tenant 1 (Frame 0)) ∷ StoresAt 1 5 nines
    ∷ Runs (On.Admin (Do.Grant 0)) (granted_reply 0 0 1) ∷ Runs (On.Tenant 0 (Command.Alloc 0)) (to_tenant 0 (Frame 0)) ∷ StoresAt 0 5 bytes ∷ []

begun_both : AllAct opened begin_both beside_6
begun_both = (beside_1, granted_1, (beside_2, taken_1, (beside_3, stored_1, (beside_4, granted_0, (beside_5, taken_0, (beside_6, stored_0, refl))))))

loaded_before : Loads beside_6 0 104 7
loaded_before = record {
  tenant = omega arith;
  reach = in_frame beside_6.space beside_6.buddy no_slabs 0 104 1 refl refl (omega arith) (omega arith);
  is = taken_0.1.together.space.own_bytes.window 0 5 100 bytes refl refl 104;
}

abbrev store_first : List Action
store_first = StoresAt 1 104 (9 ∷ []) ∷ LoadsAt 0 104 7 ∷ []

abbrev load_first : List Action
load_first = LoadsAt 0 104 7 ∷ StoresAt 1 104 (9 ∷ []) ∷ []

store_acts : AllAct beside_6 store_first beside_7
store_acts = (beside_7, stored_again, (beside_7, (loaded_0, refl), refl))

load_acts : AllAct beside_6 load_first beside_7
load_acts = (beside_6, (loaded_before, refl), (beside_7, stored_again, refl))

SameOutcomesInAnyOrder-met : SameOutcomesInAnyOrder → HaveSameLocks action_needs store_first load_first
SameOutcomesInAnyOrder-met law =
    law beside_6 beside_7 beside_6 beside_7 store_first load_first (same_as_itself beside_6 begin_both begun_both) store_acts load_acts
    (two_orders (StoreBytes 1 104 (9 ∷ [])) (LoadByte 0 104) load_beside)

SameSightsInAnyOrder-met : SameSightsInAnyOrder → sights_of 0 store_first ≡ sights_of 0 load_first
SameSightsInAnyOrder-met law =
    law beside_6 beside_7 beside_6 beside_7 store_first load_first 0 (same_as_itself beside_6 begin_both begun_both) (omega arith) store_acts load_acts
    (two_orders (StoreBytes 1 104 (9 ∷ [])) (LoadByte 0 104) load_beside)

-- The store overlaps the grant
ActionsBegunAsEnded-met : ActionsBegunAsEnded → HaveSameLocks attempt_needs (StoreBytes 1 5 nines ∷ grants_0 ∷ []) (grants_0 ∷ StoreBytes 1 5 nines ∷ [])
ActionsBegunAsEnded-met law =
    law (Begins (StoreBytes 1 5 nines) ∷ Begins grants_0 ∷ Ends grants_0 ∷ Ends (StoreBytes 1 5 nines) ∷ [])
    (tt, ((grant_beside, tt), ([], StoreBytes 1 5 nines ∷ [], refl, ([], [], refl, refl))))
