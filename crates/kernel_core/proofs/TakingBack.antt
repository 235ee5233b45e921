-- A take-back takes the superblock of a slot away from a tenant. It is refused if a frame of the slot is taken.
use Rattle.std.proofs.Common.{◌≡◌, ℕ, ◌<◌, true, false, Some, None, is_some, Result, Ok, Err, length, slice_set, refl, sym, ap, ◌∙◌, subst, arith, ◌≤◌, Option, List, map, slice_get}
use Rattle.std.proofs.lemmas.Bool.{false_from_ne_true}
use Rattle.std.proofs.lemmas.Option.{slice_get_past}
use Rattle.model_core.specs.Blocks.{slot_block, HasTaken}
use Rattle.model_core.specs.Machine.{Machine, holds}
use Rattle.model_core.specs.Operations.{Step, is_busy, after_take_back, take_back_step}
use Rattle.model_core.specs.declared.refusals.TakeBackRefusal.{TakeBackRefusal}
use Rattle.space_core.specs.Content as spaces
use Rattle.space_core.specs.Changes.{with_take_back}
use Rattle.buddy_core.specs.Content as buddies
use Rattle.slab_tables.specs.Content as tables
use Rattle.machine_changes.specs.Slots.{HoldTogether, ChangesFor}
use Rattle.machine_changes.proofs.SlotTaken.{taken_back_shows}
use Rattle.machine_changes.proofs.SlotBusy.{busy_meets}
use Rattle.kernel_core.specs.Content.{KernelContent, content_of, mark_after, superblock_at, PartsAgree}
use Rattle.kernel_core.specs.Shows.{ShowsMachine, Shows}
use Rattle.kernel_core.specs.Does.{Does}
use Rattle.kernel_core.proofs.CallEffects.{marks_kept, marks_replaced, does_nothing, has_row, same_sizes}
use Rattle.model_core.specs.declared.owner.Owner.{Owner}
use Rattle.std.specs.List.{position_or_len}
use Rattle.model_core.specs.Owners.{is_owner}
use Rattle.words_core.specs.declared.event.Event.TheVariants as On
use Rattle.words_core.specs.declared.event.AdminCommand.TheVariants as Do
use Rattle.words_core.specs.declared.reply.Reply.{Reply}
use Rattle.words_core.specs.declared.reply.Addressee.TheVariants as To
use Rattle.words_core.specs.declared.reply.Body.TheVariants.{TakenBack, Refused}
use Rattle.words_core.specs.declared.reply.Refusal.TheVariants.{NoTenant}
use Rattle.words_core.specs.Refusals.{take_back_refusal}
use Rattle.world_core.specs.Limits.{cache_limit}
use Rattle.world_core.specs.World.{World, WorldStep, given_up, take_back_answered, slot_step, world_step}
use Rattle.world_core.proofs.MachineLists.{get_within}
use Rattle.kernel_core.specs.Steps.{Steps}
use Rattle.kernel_core.proofs.KernelToWorld.{steps_done, steps_answered, unnamed}
use Rattle.kernel_core.proofs.Owners.{is_under, found_under, given_up_one}

-- some frame of slot u of tenant t is taken
abbrev IsBusy : buddies.Content → ℕ → ℕ → Type 0
IsBusy b t u = HasTaken (buddies.taken_of (buddies.holding_of t b)) (slot_block b.top u)

-- superblock m is in slot u of tenant t, and no frame of the slot is taken
pub record IsIdle (r : spaces.Content) (b : buddies.Content) (s : tables.Content) (t u m : ℕ) : Type 0 where
  pub together : HoldTogether r b s
  pub tenant : t < length b.tenants
  pub here : spaces.superblock_at r.slots t u ≡ Some m
  pub below : m < length r.owners
  pub idle : IsBusy b t u → ⊥

-- the buddy systems after slot u is taken back from tenant t
abbrev pub buddy_after : ℕ → ℕ → buddies.Content → buddies.Content
buddy_after t u b = buddies.with_holding t (buddies.without_slot u (buddies.holding_of t b)) b

pub changes : (r : spaces.Content) (b : buddies.Content) (s : tables.Content) (t u m : ℕ) → IsIdle r b s t u m
    → ChangesFor t r (with_take_back r t u m) b (buddy_after t u b) s s (after_take_back s.top u)
changes r b s t u m g = taken_back_shows r b s t u m g.together (has_row r b s t g.together.agree g.tenant) g.here g.idle

-- What a take-back does to the machine

no_slot_is : (order u : ℕ) (x : Machine) → holds x u ≡ false → take_back_step order u x ≡ record { answer = Err TakeBackRefusal.NoSlot; machine = x }
unfolding take_back_step
no_slot_is order u x lacks = rw lacks refl

busy_is : (order u : ℕ) (x : Machine) → holds x u ≡ true → is_busy order x u ≡ true → take_back_step order u x ≡ record { answer = Err TakeBackRefusal.SlotBusy; machine = x }
unfolding take_back_step
busy_is order u x held busy = rw held (rw busy refl)

done_is : (order u : ℕ) (x : Machine) → holds x u ≡ true → is_busy order x u ≡ false → take_back_step order u x ≡ record { answer = Ok tt; machine = after_take_back order u x }
unfolding take_back_step
done_is order u x held idle = rw held (rw idle refl)

-- if the slot is not held, a take-back is refused
pub take_without_slot : (k : KernelContent) (t u : ℕ) → superblock_at k t u ≡ None → Does k t (take_back_step k.order u) k.space.owners k (Err TakeBackRefusal.NoSlot)
take_without_slot k t u none =
    does_nothing k t (take_back_step k.order u) (Err TakeBackRefusal.NoSlot) (λ x shown. no_slot_is k.order u x (shown.slots u ∙ ap is_some none))

-- if a frame of the slot is taken, a take-back is refused
pub take_busy : (r : spaces.Content) (b : buddies.Content) (s : tables.Content) (t u m : ℕ) → HoldTogether r b s → t < length b.tenants
    → spaces.superblock_at r.slots t u ≡ Some m → IsBusy b t u
    → Does (content_of r b s) t (take_back_step b.top u) r.owners (content_of r b s) (Err TakeBackRefusal.SlotBusy)
take_busy r b s t u m together known held busy =
    does_nothing (content_of r b s) t (take_back_step b.top u) (Err TakeBackRefusal.SlotBusy)
    (λ x shown. busy_is b.top u x (shown.slots u ∙ ap is_some held)
    (ap (λ n. is_busy n x u) together.agree.order ∙ (busy_meets r b s t u x together (has_row r b s t together.agree known) shown).0 busy))

idle_is : (r : spaces.Content) (b : buddies.Content) (s : tables.Content) (t u m : ℕ) (x : Machine) → IsIdle r b s t u m → ShowsMachine (content_of r b s) t x
    → take_back_step b.top u x ≡ record { answer = Ok tt; machine = after_take_back b.top u x }
idle_is r b s t u m x g shown =
    let not_busy : is_busy s.top x u ≡ false = false_from_ne_true (is_busy s.top x u) (λ busy.
    g.idle ((busy_meets r b s t u x g.together (has_row r b s t g.together.agree g.tenant) shown).1 busy)) in
    done_is b.top u x (shown.slots u ∙ ap is_some g.here) (ap (λ n. is_busy n x u) g.together.agree.order ∙ not_busy)

pub does_taken : (r : spaces.Content) (b : buddies.Content) (s : tables.Content) (t u m : ℕ) → IsIdle r b s t u m
    → Does (content_of r b s) t (take_back_step b.top u) (slice_set r.owners m None) (content_of (with_take_back r t u m) (buddy_after t u b) s) (Ok tt)
does_taken r b s t u m g =
    let does = changes r b s t u m g in
    let new : KernelContent = content_of (with_take_back r t u m) (buddy_after t u b) s in
    record {
      sizes = same_sizes r (with_take_back r t u m) b s s t (buddies.without_slot u (buddies.holding_of t b));
      shows = λ x shown. subst (λ (y : Step (Result (Unit {0}) TakeBackRefusal)). ShowsMachine new t y.machine) (sym (idle_is r b s t u m x g shown))
          (subst (λ n. ShowsMachine new t (after_take_back n u x)) (sym g.together.agree.order) (does.shows x shown));
      answer = λ x shown. sym (ap (λ (y : Step (Result (Unit {0}) TakeBackRefusal)). y.answer) (idle_is r b s t u m x g shown));
      others = does.others;
      owners = refl;
      marks = marks_replaced r r m None true (marks_kept r r refl refl) g.below (omega (arith, g.below, g.together.space.facts.flagged))
          (ap (λ o. mark_after o None (spaces.mark_at r.marks m)) ((g.together.space.facts.agree t u m).0 g.here));
      spare = g.together.space.spare.take_back t u m;
    }

-- What a take-back does to the world

slot_is : (k : KernelContent) (w : World) (t u : ℕ) (x : Machine) (told : Result (Unit {0}) TakeBackRefusal) → slice_get w.machines t ≡ Some x
    → told ≡ (take_back_step k.order u x).answer
    → world_step cache_limit k.order (On.Admin (Do.TakeBack t u)) w ≡ take_back_answered t u w (take_back_step k.order u x).machine told
unfolding world_step slot_step
slot_is k w t u x told here is = ap (λ o. slot_step k.order t u w o) here ∙ ap (λ r. take_back_answered t u w (take_back_step k.order u x).machine r) (sym is)

pub take_without_tenant : (k : KernelContent) (t u : ℕ) → k.tenants ≤ t → Steps k (On.Admin (Do.TakeBack t u)) k (record { addressee = To.Admin; body = Refused NoTenant })
unfolding world_step slot_step
take_without_tenant k t u unknown =
    steps_answered k (On.Admin (Do.TakeBack t u)) To.Admin (Refused NoTenant)
    (λ w shown. ap (λ o. slot_step k.order t u w o) (slice_get_past w.machines t (omega (arith, shown.tenants))))

-- if a take-back that changes nothing returns a refusal, the event gets the same refusal in the world
pub take_refused : (k : KernelContent) (t n u : ℕ) (refusal : TakeBackRefusal) → t ≡ n → t < k.tenants → Does k t (take_back_step k.order u) k.space.owners k (Err refusal)
    → Steps k (On.Admin (Do.TakeBack n u)) k (record { addressee = To.Admin; body = Refused (take_back_refusal refusal) })
take_refused k t n u refusal same known does =
    subst (λ v. Steps k (On.Admin (Do.TakeBack v u)) k (record { addressee = To.Admin; body = Refused (take_back_refusal refusal) })) same
    (steps_answered k (On.Admin (Do.TakeBack t u)) To.Admin (Refused (take_back_refusal refusal))
    (λ w shown.
    let (x, here) = get_within w.machines t (omega (arith, shown.tenants)) in
    slot_is k w t u x (Err refusal) here (does.answer x (shown.machines t x here))))

-- the reply to a take-back
abbrev pub taken_reply : ℕ → Reply
taken_reply m = record { addressee = To.Admin; body = TakenBack m }

taken_is : (k : KernelContent) (w : World) (t u m : ℕ) (x : Machine) → superblock_at k t u ≡ Some m → Ok tt ≡ (take_back_step k.order u x).answer
    → Shows k w → slice_get w.machines t ≡ Some x
    → world_step cache_limit k.order (On.Admin (Do.TakeBack t u)) w
    ≡ record { reply = taken_reply m; world = record { owners = slice_set k.space.owners m None; machines = slice_set w.machines t (take_back_step k.order u x).machine } }
taken_is k w t u m x under is shown here =
    let owned = is_under k.space t u m shown.agree.space under in
    slot_is k w t u x (Ok tt) here is
    ∙ ap (λ os. taken_world os (position_or_len (is_owner t u) os)) shown.owners
    ∙ ap (λ n. taken_world k.space.owners n) (found_under k.space t u m owned)
    ∙ ap (λ os. record { reply = taken_reply m; world = record { owners = os; machines = slice_set w.machines t (take_back_step k.order u x).machine } }) (sym (given_up_one k.space t u m owned))
  where
    taken_world : List (Option Owner) → ℕ → WorldStep
    taken_world os n = record { reply = taken_reply n; world = record { owners = map (given_up (is_owner t u)) os; machines = slice_set w.machines t (take_back_step k.order u x).machine } }

pub steps_taken : (k k' : KernelContent) (t n u m : ℕ) → t ≡ n → t < k.tenants → PartsAgree k' → superblock_at k t u ≡ Some m
    → Does k t (take_back_step k.order u) (slice_set k.space.owners m None) k' (Ok tt)
    → Steps k (On.Admin (Do.TakeBack n u)) k' (taken_reply m)
steps_taken k k' t n u m same known agree under does = subst (λ v. Steps k (On.Admin (Do.TakeBack v u)) k' (taken_reply m)) same
    (steps_done k k' (On.Admin (Do.TakeBack t u)) (taken_reply m) t (take_back_step k.order u) (slice_set k.space.owners m None) (Ok tt) known agree does
    (λ w x shown shows here. taken_is k w t u m x under (does.answer x shows) shown here)
    (λ v named. unnamed t v named) refl)
