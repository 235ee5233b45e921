-- A move replaces the superblock of a slot by the first superblock without an owner.
use Rattle.std.proofs.Common.{◌≡◌, ℕ, ◌<◌, true, false, Some, None, is_none, length, position, slice_set, refl, ap, arith, ◌≤◌, Option, is_some, IsSome, List, map, slice_get, sym, ◌∙◌, subst}
use Rattle.std.proofs.lemmas.List.{length-set}
use Rattle.std.proofs.lemmas.Option.{slice_get_past}
use Rattle.model_core.specs.Owners.{owned_by, is_owner}
use Rattle.space_core.specs.Content as spaces
use Rattle.space_core.specs.Changes.{with_move}
use Rattle.space_core.proofs.VacantSlots.{unowned-from_position}
use Rattle.buddy_core.specs.Content as buddies
use Rattle.slab_tables.specs.Content as tables
use Rattle.slab_tables.specs.Changes.{IsMoved}
use Rattle.machine_changes.specs.Slots.{HoldTogether, ChangesFor}
use Rattle.machine_changes.proofs.SlotMoved.{moved_shows}
use Rattle.kernel_core.specs.Content.{MarksFollow, content_of, mark_after, KernelContent, PartsAgree, superblock_at}
use Rattle.kernel_core.specs.Does.{Moves, no_step}
use Rattle.kernel_core.proofs.CallEffects.{marks_kept, marks_replaced, has_row, same_sizes}
use Rattle.kernel_core.proofs.Granting.{buddy_after}
use Rattle.model_core.specs.declared.owner.Owner.{Owner}
use Rattle.model_core.specs.Machine.{Machine, holds}
use Rattle.words_core.specs.declared.event.Event.TheVariants as On
use Rattle.words_core.specs.declared.event.AdminCommand.TheVariants as Do
use Rattle.words_core.specs.declared.reply.Reply.{Reply}
use Rattle.words_core.specs.declared.reply.Addressee.TheVariants as To
use Rattle.words_core.specs.declared.reply.Body.TheVariants.{Moved, Refused}
use Rattle.words_core.specs.declared.reply.Refusal.TheVariants.{NoTenant, NoSlot, PoolEmpty}
use Rattle.world_core.specs.Limits.{cache_limit}
use Rattle.world_core.specs.World.{World, WorldStep, answer, given_up, moved_to, move_step, world_step}
use Rattle.world_core.proofs.MachineLists.{slice_set-same, get_within}
use Rattle.kernel_core.specs.Shows.{Shows}
use Rattle.kernel_core.specs.Steps.{Steps}
use Rattle.kernel_core.proofs.KernelToWorld.{steps_done, steps_answered, unnamed}
use Rattle.kernel_core.proofs.Owners.{is_under, given_up_one}

-- superblock `from` is in slot u of tenant t, `to` is the first superblock without an owner, and s' has the slabs of `from` on
-- `to`
pub record IsMovable (r : spaces.Content) (b : buddies.Content) (s s' : tables.Content) (t u from to : ℕ) : Type 0 where
  pub together : HoldTogether r b s
  pub tenant : t < length b.tenants
  pub here : spaces.superblock_at r.slots t u ≡ Some from
  pub below : from < length r.owners
  pub free : position is_none r.owners ≡ Some to
  pub to_below : to < length r.owners
  pub slabs : IsMoved s s' from to

pub changes : (r : spaces.Content) (b : buddies.Content) (s s' : tables.Content) (t u from to : ℕ) → IsMovable r b s s' t u from to
    → ChangesFor t r (with_move r t u from to) b (buddy_after t u to b) s s' (λ m. m)
changes r b s s' t u from to g =
    (moved_shows r b s s' t u from to g.together (has_row r b s t g.together.agree g.tenant) g.here g.to_below (unowned-from_position r.owners to g.free) g.slabs).1

pub moves : (r : spaces.Content) (b : buddies.Content) (s s' : tables.Content) (t u from to : ℕ) → IsMovable r b s s' t u from to
    → Moves (content_of r b s) t u to (content_of (with_move r t u from to) (buddy_after t u to b) s')
moves r b s s' t u from to g =
    let does = changes r b s s' t u from to g in
    record {
      from = from;
      under = g.here;
      does = record {
        sizes = same_sizes r (with_move r t u from to) b s s' t (buddies.with_slot u to (buddies.holding_of t b));
        shows = does.shows;
        answer = λ m shown. refl;
        others = does.others;
        owners = refl;
        marks = marks_replaced r left to (Some (owned_by t u)) false left_follows
            (omega (arith, g.to_below, length-set r.owners from None))
            (omega (arith, g.to_below, g.together.space.facts.flagged, length-set r.marks from true))
            (ap (λ o. mark_after o (Some (owned_by t u)) (spaces.mark_at r.marks to)) (unowned-from_position r.owners to g.free));
        spare = g.together.space.spare.move t u from to g.to_below;
      };
    }
  where
    -- the memory after superblock `from` has lost its owner and is marked
    left : spaces.Content
    left = record r { owners = slice_set r.owners from None; marks = slice_set r.marks from true }

    left_follows : MarksFollow r left
    left_follows = marks_replaced r r from None true (marks_kept r r refl refl) g.below (omega (arith, g.below, g.together.space.facts.flagged))
        (ap (λ o. mark_after o None (spaces.mark_at r.marks from)) ((g.together.space.facts.agree t u from).0 g.here))

-- What a move does to the world

-- the reply to a move
abbrev pub moved_reply : ℕ → ℕ → ℕ → Reply
moved_reply t u m = record { addressee = To.Admin; body = Moved t u m }

-- the reply to a move, and the world after it
abbrev moved_world : ℕ → ℕ → ℕ → List (Option Owner) → List Machine → WorldStep
moved_world t u to owners machines = record { reply = moved_reply t u to; world = record { owners = slice_set owners to (Some (owned_by t u)); machines = machines } }

-- a move of a held slot u changes only the owners of the world: `from` has no owner afterwards, and `to` is owned by slot u of t
moved_is : (k : KernelContent) (w : World) (t u from to : ℕ) (x : Machine) → Shows k w → slice_get w.machines t ≡ Some x
    → superblock_at k t u ≡ Some from → position is_none k.space.owners ≡ Some to → holds x u ≡ true
    → world_step cache_limit k.order (On.Admin (Do.Move t u)) w
    ≡ moved_world t u to (slice_set k.space.owners from None) (slice_set w.machines t x)
unfolding world_step move_step
moved_is k w t u from to x shown here under free held =
    ap (λ o. move_step t u w o (position is_none w.owners)) here
    ∙ ap (λ o. move_step t u w (Some x) o) (ap (λ owners. position is_none owners) shown.owners ∙ free)
    ∙ step held
    ∙ ap (λ os. moved_world t u to (map (given_up (is_owner t u)) os) w.machines) shown.owners
    ∙ ap (λ os. moved_world t u to os w.machines) (sym (given_up_one k.space t u from (is_under k.space t u from shown.agree.space under)))
    ∙ ap (λ ms. moved_world t u to (slice_set k.space.owners from None) ms) (sym (slice_set-same w.machines t x here))
  where
    step : holds x u ≡ true → move_step t u w (Some x) (Some to) ≡ moved_to t u w (Some to)
    step is = rw is refl

pub steps_moved : (k k' : KernelContent) (t n u to : ℕ) → t ≡ n → t < k.tenants → PartsAgree k' → position is_none k.space.owners ≡ Some to → Moves k t u to k'
    → Steps k (On.Admin (Do.Move n u)) k' (moved_reply t u to)
steps_moved k k' t n u to same known agree free moves = subst (λ v. Steps k (On.Admin (Do.Move v u)) k' (moved_reply t u to)) same
    (steps_done k k' (On.Admin (Do.Move t u)) (moved_reply t u to) t no_step _ tt known agree moves.does
    (λ w x shown shows here. moved_is k w t u moves.from to x shown here moves.under free (shows.slots u ∙ ap is_some moves.under))
    (λ v named. unnamed t v named) refl)

pub move_without_tenant : (k : KernelContent) (t u : ℕ) → k.tenants ≤ t → Steps k (On.Admin (Do.Move t u)) k (record { addressee = To.Admin; body = Refused NoTenant })
unfolding world_step move_step
move_without_tenant k t u unknown =
    steps_answered k (On.Admin (Do.Move t u)) To.Admin (Refused NoTenant)
    (λ w shown. ap (λ o. move_step t u w o (position is_none w.owners)) (slice_get_past w.machines t (omega (arith, shown.tenants))))

pub move_without_slot : (k : KernelContent) (t n u : ℕ) → t ≡ n → t < k.tenants → superblock_at k t u ≡ None
    → Steps k (On.Admin (Do.Move n u)) k (record { addressee = To.Admin; body = Refused NoSlot })
unfolding world_step move_step
move_without_slot k t n u same known none = subst (λ v. Steps k (On.Admin (Do.Move v u)) k (record { addressee = To.Admin; body = Refused NoSlot })) same
    (steps_answered k (On.Admin (Do.Move t u)) To.Admin (Refused NoSlot)
    (λ w shown.
    let (x, here) = get_within w.machines t (omega (arith, shown.tenants)) in
    ap (λ o. move_step t u w o (position is_none w.owners)) here
    ∙ lacking w x (position is_none w.owners) ((shown.machines t x here).slots u ∙ ap is_some none)))
  where
    lacking : (w : World) (x : Machine) (free : Option ℕ) → holds x u ≡ false → move_step t u w (Some x) free ≡ answer To.Admin (Refused NoSlot) w
    lacking w x free lacks = rw lacks refl

-- if every superblock has an owner, a move of a held slot is refused
pub move_without_superblock : (k : KernelContent) (t n u : ℕ) → t ≡ n → t < k.tenants → IsSome (superblock_at k t u) → position is_none k.space.owners ≡ None
    → Steps k (On.Admin (Do.Move n u)) k (record { addressee = To.Admin; body = Refused PoolEmpty })
unfolding world_step move_step
move_without_superblock k t n u same known held none = subst (λ v. Steps k (On.Admin (Do.Move v u)) k (record { addressee = To.Admin; body = Refused PoolEmpty })) same
    (steps_answered k (On.Admin (Do.Move t u)) To.Admin (Refused PoolEmpty)
    (λ w shown.
    let (x, here) = get_within w.machines t (omega (arith, shown.tenants)) in
    ap (λ o. move_step t u w o (position is_none w.owners)) here
    ∙ ap (λ o. move_step t u w (Some x) o) (ap (λ owners. position is_none owners) shown.owners ∙ none)
    ∙ full w x ((shown.machines t x here).slots u ∙ held)))
  where
    full : (w : World) (x : Machine) → holds x u ≡ true → move_step t u w (Some x) None ≡ answer To.Admin (Refused PoolEmpty) w
    full w x holding = rw holding refl
