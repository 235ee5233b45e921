-- A grant gives a tenant the first superblock without an owner.
use Rattle.std.proofs.Common.{◌≡◌, ℕ, ◌<◌, false, Some, None, is_none, position, length, slice_set, refl, sym, ap, subst, arith, ◌≤◌, slice_get, ◌∙◌}
use Rattle.std.proofs.lemmas.Option.{slice_get_past}
use Rattle.model_core.specs.Operations.{after_grant, next_slot}
use Rattle.model_core.specs.Owners.{owned_by}
use Rattle.space_core.specs.Content as spaces
use Rattle.space_core.specs.Changes.{IsLeastSlot, with_grant}
use Rattle.space_core.proofs.VacantSlots.{unowned-from_position}
use Rattle.buddy_core.specs.Content as buddies
use Rattle.slab_tables.specs.Content as tables
use Rattle.machine_changes.specs.Slots.{HoldTogether, IsSpare, ChangesFor}
use Rattle.machine_changes.proofs.SlotGranted.{granted_shows}
use Rattle.machine_changes.proofs.NextSlot.{next_meets}
use Rattle.machine_changes.proofs.NoSlabOnUnowned.{unowned_is_spare}
use Rattle.kernel_core.specs.Content.{content_of, mark_after, KernelContent, PartsAgree}
use Rattle.kernel_core.specs.Shows.{ShowsMachine, Shows}
use Rattle.kernel_core.specs.Does.{Does, slot_grant_step}
use Rattle.kernel_core.proofs.CallEffects.{marks_kept, marks_replaced, has_row, same_sizes}
use Rattle.model_core.specs.Machine.{Machine}
use Rattle.words_core.specs.declared.event.Event.TheVariants as On
use Rattle.words_core.specs.declared.event.AdminCommand.TheVariants as Do
use Rattle.words_core.specs.declared.reply.Reply.{Reply}
use Rattle.words_core.specs.declared.reply.Addressee.TheVariants as To
use Rattle.words_core.specs.declared.reply.Body.TheVariants.{Granted, Refused}
use Rattle.words_core.specs.declared.reply.Refusal.TheVariants.{NoTenant, PoolEmpty}
use Rattle.world_core.specs.Limits.{cache_limit}
use Rattle.world_core.specs.World.{World, WorldStep, grant_step, world_step}
use Rattle.world_core.proofs.MachineLists.{get_within}
use Rattle.kernel_core.specs.Does as calls
use Rattle.kernel_core.specs.Steps.{Steps}
use Rattle.kernel_core.proofs.KernelToWorld.{steps_done, steps_answered, unnamed}

-- the first superblock without an owner is in no slot, and no slab begins on it
pub free_is_spare : (r : spaces.Content) (b : buddies.Content) (s : tables.Content) (m : ℕ) → HoldTogether r b s → position is_none r.owners ≡ Some m → IsSpare b s m
free_is_spare r b s m holds free = unowned_is_spare r b s m holds (unowned-from_position r.owners m free)

-- the parts keep their laws, tenant t exists, m is the first superblock without an owner, and u is the lowest slot that t does
-- not hold
pub record IsGrantable (r : spaces.Content) (b : buddies.Content) (s : tables.Content) (t u m : ℕ) : Type 0 where
  pub together : HoldTogether r b s
  pub tenant : t < length b.tenants
  pub free : position is_none r.owners ≡ Some m
  pub least : IsLeastSlot r.slots t u
  pub slot_below : u < length r.owners
  pub below : m < length r.owners

-- the buddy systems after tenant t gets superblock m in slot u
abbrev pub buddy_after : ℕ → ℕ → ℕ → buddies.Content → buddies.Content
buddy_after t u m b = buddies.with_holding t (buddies.with_slot u m (buddies.holding_of t b)) b

pub changes : (r : spaces.Content) (b : buddies.Content) (s : tables.Content) (t u m : ℕ) → IsGrantable r b s t u m
    → ChangesFor t r (with_grant r t u m) b (buddy_after t u m b) s s (after_grant s.top)
changes r b s t u m g =
    granted_shows r b s t u m g.together (has_row r b s t g.together.agree g.tenant) g.least g.slot_below g.below (unowned-from_position r.owners m g.free)

-- a grant puts the first superblock without an owner in the lowest slot that the tenant does not hold
pub does_granted : (r : spaces.Content) (b : buddies.Content) (s : tables.Content) (t u m : ℕ) → IsGrantable r b s t u m
    → Does (content_of r b s) t (slot_grant_step b.top) (slice_set r.owners m (Some (owned_by t u))) (content_of (with_grant r t u m) (buddy_after t u m b) s) u
does_granted r b s t u m g =
    let does = changes r b s t u m g in
    record {
      sizes = same_sizes r (with_grant r t u m) b s s t (buddies.with_slot u m (buddies.holding_of t b));
      shows = λ x shown. subst (λ n. ShowsMachine (content_of (with_grant r t u m) (buddy_after t u m b) s) t (after_grant n x)) (sym g.together.agree.order) (does.shows x shown);
      answer = λ x shown. sym (next_meets r b s t u x shown g.least);
      others = does.others;
      owners = refl;
      marks = marks_replaced r r m (Some (owned_by t u)) false (marks_kept r r refl refl) g.below
          (omega (arith, g.below, g.together.space.facts.flagged))
          (ap (λ o. mark_after o (Some (owned_by t u)) (spaces.mark_at r.marks m)) (unowned-from_position r.owners m g.free));
      spare = g.together.space.spare.grant t u m g.below;
    }

-- What a grant does to the world

-- the reply to a grant
abbrev pub granted_reply : ℕ → ℕ → ℕ → Reply
granted_reply t u m = record { addressee = To.Admin; body = Granted t u m }

-- the reply to a grant, and the world after it
abbrev granted_world : KernelContent → World → ℕ → ℕ → Machine → ℕ → WorldStep
granted_world k w t m x u = record {
  reply = granted_reply t u m;
  world = record { owners = slice_set k.space.owners m (Some (owned_by t u)); machines = slice_set w.machines t (after_grant k.order x) };
}

-- if a kernel shows a world in which tenant t has machine x, and m is the first superblock without an owner, a grant gives
-- `granted_world`
grant_is : (k : KernelContent) (w : World) (t m : ℕ) (x : Machine) → Shows k w → slice_get w.machines t ≡ Some x → position is_none k.space.owners ≡ Some m
    → world_step cache_limit k.order (On.Admin (Do.Grant t)) w ≡ granted_world k w t m x (next_slot x)
unfolding world_step grant_step
grant_is k w t m x shown here free =
    ap (λ o. grant_step k.order t w o (position is_none w.owners)) here
    ∙ ap (λ o. grant_step k.order t w (Some x) o) (ap (λ owners. position is_none owners) shown.owners ∙ free)
    ∙ ap (λ os. record {
      reply = granted_reply t (next_slot x) m;
      world = record {
        owners = slice_set os m (Some (owned_by t (next_slot x)));
        machines = slice_set w.machines t (after_grant k.order x);
      };
    }) shown.owners

-- a call that gives tenant t the first superblock without an owner, in slot u, is a step of the event `grant` in the world
pub steps_granted : (k k' : KernelContent) (t n u m : ℕ) → t ≡ n → t < k.tenants → PartsAgree k' → position is_none k.space.owners ≡ Some m
    → Does k t (calls.slot_grant_step k.order) (slice_set k.space.owners m (Some (owned_by t u))) k' u
    → Steps k (On.Admin (Do.Grant n)) k' (granted_reply t u m)
steps_granted k k' t n u m same known agree free does = subst (λ v. Steps k (On.Admin (Do.Grant v)) k' (granted_reply t u m)) same
    (steps_done k k' (On.Admin (Do.Grant t)) (granted_reply t u m) t (calls.slot_grant_step k.order) (slice_set k.space.owners m (Some (owned_by t u))) u known agree does
    (λ w x shown shows here. grant_is k w t m x shown here free ∙ ap (granted_world k w t m x) (sym (does.answer x shows)))
    (λ v named. unnamed t v named) refl)

-- a grant to a tenant that does not exist is refused
pub grant_without_tenant : (k : KernelContent) (t : ℕ) → k.tenants ≤ t → Steps k (On.Admin (Do.Grant t)) k (record { addressee = To.Admin; body = Refused NoTenant })
unfolding grant_step world_step
grant_without_tenant k t unknown =
    steps_answered k (On.Admin (Do.Grant t)) To.Admin (Refused NoTenant)
    (λ w shown. ap (λ o. grant_step k.order t w o (position is_none w.owners)) (slice_get_past w.machines t (omega (arith, shown.tenants))))

-- if every superblock has an owner, a grant to an existing tenant is refused
pub grant_without_superblock : (k : KernelContent) (t n : ℕ) → t ≡ n → t < k.tenants → position is_none k.space.owners ≡ None
    → Steps k (On.Admin (Do.Grant n)) k (record { addressee = To.Admin; body = Refused PoolEmpty })
unfolding grant_step world_step
grant_without_superblock k t n same known none = subst (λ v. Steps k (On.Admin (Do.Grant v)) k (record { addressee = To.Admin; body = Refused PoolEmpty })) same
    (steps_answered k (On.Admin (Do.Grant t)) To.Admin (Refused PoolEmpty)
    (λ w shown.
    let (x, here) = get_within w.machines t (omega (arith, shown.tenants)) in
    ap (λ o. grant_step k.order t w o (position is_none w.owners)) here
    ∙ ap (λ o. grant_step k.order t w (Some x) o) (ap (λ owners. position is_none owners) shown.owners ∙ none)))
