-- Two lists that attempt the same under each lock have the same own list for each tenant, so each tenant sees the same.
use Rattle.std.proofs.Common.{◌≡◌, ℕ, ◌==◌, Bool, true, false, List, [], ◌∷◌, ◌++◌, map, refl, ap, sym, ◌∙◌, arith}
use Rattle.std.specs.Prelude.{filter, if◌then◌else◌}
use Rattle.words_core.specs.declared.event.AdminCommand.TheVariants as Do
use Rattle.words_core.specs.declared.event.Event.{Event}
use Rattle.words_core.specs.declared.event.Event.TheVariants as On
use Rattle.words_core.specs.declared.reply.Body.{Body}
use Rattle.world_core.specs.Limits.{cache_limit}
use Rattle.world_core.specs.PrivateStep.{Entry}
use Rattle.world_core.specs.OwnList.{is_refused, if_named, if_granted, own_entries}
use Rattle.world_core.specs.Locks.{OfTenant, is_named}
use Rattle.world_core.proofs.MachineLists.{get_within}
use Rattle.world_core.proofs.SameLocks.{filter-pass, filter-skip}
use Rattle.kernel_core.specs.Actions.{Action, Runs, StoresAt, LoadsAt, Finds, Enters, own_in, own_actions, own_seen}
use Rattle.kernel_core.specs.ActionLocks.{action_needs, SameSightsInAnyOrder}
use Rattle.kernel_core.proofs.Actions.{all_follow}
use Rattle.kernel_core.proofs.ActionsAnyOrder.{same_outcomes}

-- an event adds no entry to the own list of a tenant that it does not name
granted_to_others : (t named : ℕ) (body : Body) (entry : Entry) → (named == t) ≡ false → if_granted t named body entry ≡ []
granted_to_others t named body entry other = go (is_refused body)
  where
    go : (refused : Bool) → (if refused then [] else if_named t named entry) ≡ []
    go true = refl
    go false = rw other refl

entries_of_others : (t : ℕ) (event : Event) (body : Body) → is_named t event ≡ false → own_entries t event body ≡ []
entries_of_others t (On.Tenant named command) body other = rw other refl
entries_of_others t (On.Admin (Do.Grant named)) body other = granted_to_others t named body _ other
entries_of_others t (On.Admin (Do.TakeBack named slot)) body other = granted_to_others t named body _ other
entries_of_others t (On.Admin (Do.Reset named)) body other = rw other refl
entries_of_others t (On.Admin (Do.Move named slot)) body other = refl
entries_of_others t (On.Admin Do.Pool) body other = refl

-- an action that does not need the lock of tenant t adds nothing to the own list of t
nothing_own : (t : ℕ) (action : Action) → action_needs (OfTenant t) action ≡ false → own_in t action ≡ []
nothing_own t (Runs event reply) other = ap (map Enters) (entries_of_others t event reply.body other)
nothing_own t (StoresAt named place bytes) other = rw other refl
nothing_own t (LoadsAt named place byte) other = rw other refl
nothing_own t (Finds named lookup outcome) other = rw other refl

-- the own list of a tenant is that of the actions that need the tenant's lock
own_of_locked : (t : ℕ) (actions : List Action) → own_actions t actions ≡ own_actions t (filter (action_needs (OfTenant t)) actions)
own_of_locked t [] = refl
own_of_locked t (action ∷ actions) = go (action_needs (OfTenant t) action) refl (own_of_locked t actions)
  where
    locked : List Action → List Action
    locked = filter (action_needs (OfTenant t))

    go : (needed : Bool) → action_needs (OfTenant t) action ≡ needed → own_actions t actions ≡ own_actions t (locked actions)
        → own_actions t (action ∷ actions) ≡ own_actions t (locked (action ∷ actions))
    go true here rest =
        ap (λ owns. own_in t action ++ owns) rest ∙ sym (ap (own_actions t) (filter-pass (action_needs (OfTenant t)) action actions here))
    go false here rest =
        ap (λ owns. owns ++ own_actions t actions) (nothing_own t action here) ∙ rest
        ∙ sym (ap (own_actions t) (filter-skip (action_needs (OfTenant t)) action actions here))

pub same_sights_in_any_order : SameSightsInAnyOrder
same_sights_in_any_order k k' l l' actions actions' t alike tenant did did' same =
    let (m, here) = get_within alike.world.machines t (omega (arith, alike.shows.tenants)) in
    let own : own_actions t actions ≡ own_actions t actions' =
    own_of_locked t actions ∙ ap (own_actions t) (same_outcomes k k' l l' actions actions' alike did did' same (OfTenant t)) ∙ sym (own_of_locked t actions') in
    (all_follow k k' actions t m (record { kernel = alike.kernel; world = alike.world; shows = alike.shows; machine = here }) did).sights
    ∙ ap (λ owns. (own_seen cache_limit k.order owns m).sights) own
    ∙ ap (λ n. (own_seen cache_limit n (own_actions t actions') m).sights) (sym alike.order)
    ∙ sym (all_follow l l' actions' t m (record { kernel = alike.kernel'; world = alike.world; shows = alike.shows'; machine = here }) did').sights
