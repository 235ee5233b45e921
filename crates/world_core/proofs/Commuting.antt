-- An event that does not need the lock of a tenant neither reads nor changes the tenant's machine. So events that share no
-- lock commute.
use Rattle.std.proofs.Common.{◌≡◌, ℕ, ◌≢◌, Bool, true, false, not, is_none, position, List, Option, Some, None, Result, Ok, Err, slice_get, slice_set, refl, ap, sym, subst, ◌∙◌}
use Rattle.std.specs.Prelude.{if◌then◌else◌}
use Rattle.model_core.specs.Machine.{Machine, empty_machine, holds}
use Rattle.model_core.specs.declared.owner.Owner.{Owner}
use Rattle.model_core.specs.Operations.{take_back_step}
use Rattle.model_core.specs.declared.refusals.TakeBackRefusal.{TakeBackRefusal}
use Rattle.words_core.specs.declared.event.Command.{Command}
use Rattle.words_core.specs.declared.event.AdminCommand.TheVariants as Do
use Rattle.words_core.specs.declared.event.Event.{Event}
use Rattle.words_core.specs.declared.event.Event.TheVariants as On
use Rattle.words_core.specs.declared.reply.Addressee.{Addressee}
use Rattle.words_core.specs.declared.reply.Addressee.TheVariants as To
use Rattle.words_core.specs.declared.reply.Body.{Body}
use Rattle.words_core.specs.declared.reply.Body.TheVariants.{Refused}
use Rattle.words_core.specs.declared.reply.Refusal.TheVariants.{NoSlot}
use Rattle.words_core.specs.declared.reply.Reply.{Reply}
use Rattle.world_core.specs.PrivateStep.{command_step}
use Rattle.world_core.specs.World.{World, WorldStep, answer, tenant_step, grant_step, take_back_answered, slot_step, reset_step, moved_to, move_step, world_step}
use Rattle.world_core.specs.Locks.{OfTenant, OfAdministrator, event_needs, ShareNoLock}
use Rattle.world_core.specs.SideBySide.{Commute, EventsCommute}
use Rattle.world_core.proofs.MachineLists.{slice_get-set_other, slice_set-set_other}
use Rattle.world_core.proofs.OwnListRuns.{is_same}

-- the world in which tenant u has machine n
abbrev pub with_machine : ℕ → Machine → World → World
with_machine u n w = record w { machines = slice_set w.machines u n }

-- Step s is made in world w, and step s' where tenant u has machine n instead. Both give the same reply, keep the machine of u, and
-- otherwise leave the same world.
pub record IgnoresMachine (u : ℕ) (n : Machine) (w : World) (s s' : WorldStep) : Type 0 where
  pub kept : slice_get s.world.machines u ≡ slice_get w.machines u
  pub world : s'.world ≡ with_machine u n s.world
  pub reply : s'.reply ≡ s.reply

-- the step with this reply that replaces the owners, and the machine of tenant t
abbrev sets : Reply → List (Option Owner) → ℕ → Machine → World → WorldStep
sets reply owners t m w = record { reply = reply; world = record { owners = owners; machines = slice_set w.machines t m } }

sets_ignores : (reply : Reply) (owners : List (Option Owner)) (t u : ℕ) (m n : Machine) (w : World) → t ≢ u
    → IgnoresMachine u n w (sets reply owners t m w) (sets reply owners t m (with_machine u n w))
sets_ignores reply owners t u m n w other = record {
  kept = slice_get-set_other w.machines t u m other;
  world = ap (λ ms. record { owners = owners; machines = ms }) (slice_set-set_other w.machines u t n m (λ e. other (sym e)));
  reply = refl;
}

answer_ignores : (addressee : Addressee) (body : Body) (u : ℕ) (n : Machine) (w : World)
    → IgnoresMachine u n w (answer addressee body w) (answer addressee body (with_machine u n w))
unfolding answer
answer_ignores addressee body u n w = record { kept = refl; world = refl; reply = refl }

tenant_ignores : (limit order t u : ℕ) (n : Machine) (command : Command) (w : World) (o : Option Machine) → t ≢ u
    → IgnoresMachine u n w (tenant_step limit order t command w o) (tenant_step limit order t command (with_machine u n w) o)
unfolding tenant_step
tenant_ignores limit order t u n command w None other = answer_ignores _ _ u n w
tenant_ignores limit order t u n command w (Some m) other = sets_ignores _ w.owners t u _ n w other

grant_ignores : (order t u : ℕ) (n : Machine) (w : World) (o : Option Machine) (free : Option ℕ) → t ≢ u
    → IgnoresMachine u n w (grant_step order t w o free) (grant_step order t (with_machine u n w) o free)
unfolding grant_step
grant_ignores order t u n w None free other = answer_ignores _ _ u n w
grant_ignores order t u n w (Some m) None other = answer_ignores _ _ u n w
grant_ignores order t u n w (Some m) (Some superblock) other = sets_ignores _ _ t u _ n w other

taken_back_ignores : (t slot u : ℕ) (n after : Machine) (w : World) (told : Result (Unit {0}) TakeBackRefusal) → t ≢ u
    → IgnoresMachine u n w (take_back_answered t slot w after told) (take_back_answered t slot (with_machine u n w) after told)
taken_back_ignores t slot u n after w (Ok done) other = sets_ignores _ _ t u after n w other
taken_back_ignores t slot u n after w (Err refusal) other = answer_ignores _ _ u n w

take_back_ignores : (order t slot u : ℕ) (n : Machine) (w : World) (o : Option Machine) → t ≢ u
    → IgnoresMachine u n w (slot_step order t slot w o) (slot_step order t slot (with_machine u n w) o)
unfolding slot_step
take_back_ignores order t slot u n w None other = answer_ignores _ _ u n w
take_back_ignores order t slot u n w (Some m) other = taken_back_ignores t slot u n _ w (take_back_step order slot m).answer other

reset_ignores : (t u : ℕ) (n : Machine) (w : World) (o : Option Machine) → t ≢ u
    → IgnoresMachine u n w (reset_step t w o) (reset_step t (with_machine u n w) o)
unfolding reset_step
reset_ignores t u n w None other = answer_ignores _ _ u n w
reset_ignores t u n w (Some m) other = sets_ignores _ _ t u empty_machine n w other

moved_ignores : (t slot u : ℕ) (n : Machine) (w : World) (free : Option ℕ)
    → IgnoresMachine u n w (moved_to t slot w free) (moved_to t slot (with_machine u n w) free)
moved_ignores t slot u n w None = answer_ignores _ _ u n w
moved_ignores t slot u n w (Some superblock) = record { kept = refl; world = refl; reply = refl }

move_ignores : (t slot u : ℕ) (n : Machine) (w : World) (o : Option Machine) (free : Option ℕ)
    → IgnoresMachine u n w (move_step t slot w o free) (move_step t slot (with_machine u n w) o free)
unfolding move_step
move_ignores t slot u n w None free = answer_ignores _ _ u n w
move_ignores t slot u n w (Some m) free = go (not (holds m slot))
  where
    go : (lacks : Bool) → IgnoresMachine u n w (if lacks then answer To.Admin (Refused NoSlot) w else moved_to t slot w free)
        (if lacks then answer To.Admin (Refused NoSlot) (with_machine u n w) else moved_to t slot (with_machine u n w) free)
    go true = answer_ignores _ _ u n w
    go false = moved_ignores t slot u n w free

-- a step that reads the machine of tenant t, and no other, reads the same machine if u has machine n
same_machine : (t u : ℕ) (n : Machine) (w : World) (step : World → Option Machine → WorldStep) → t ≢ u
    → IgnoresMachine u n w (step w (slice_get w.machines t)) (step (with_machine u n w) (slice_get w.machines t))
    → IgnoresMachine u n w (step w (slice_get w.machines t)) (step (with_machine u n w) (slice_get (with_machine u n w).machines t))
same_machine t u n w step other same =
    subst (λ o. IgnoresMachine u n w (step w (slice_get w.machines t)) (step (with_machine u n w) o))
    (sym (slice_get-set_other w.machines u t n (λ e. other (sym e)))) same

-- a tenant whose lock an event needs is not a tenant whose lock it does not need
other_tenant : (a : Event) (t u : ℕ) → event_needs (OfTenant u) a ≡ false → event_needs (OfTenant t) a ≡ true → t ≢ u
other_tenant a t u unneeded needed e = let both : false ≡ true = sym unneeded ∙ ap (λ v. event_needs (OfTenant v) a) (sym e) ∙ needed in cc

-- an event that does not need the lock of tenant u ignores the machine of u
pub event_ignores : (limit order u : ℕ) (n : Machine) (a : Event) (w : World) → event_needs (OfTenant u) a ≡ false
    → IgnoresMachine u n w (world_step limit order a w) (world_step limit order a (with_machine u n w))
unfolding world_step
event_ignores limit order u n (On.Tenant t command) w unneeded =
    let other = other_tenant (On.Tenant t command) t u unneeded (is_same t) in
    same_machine t u n w (tenant_step limit order t command) other (tenant_ignores limit order t u n command w (slice_get w.machines t) other)
event_ignores limit order u n (On.Admin (Do.Grant t)) w unneeded =
    let other = other_tenant (On.Admin (Do.Grant t)) t u unneeded (is_same t) in
    same_machine t u n w (λ v o. grant_step order t v o (position is_none v.owners)) other
    (grant_ignores order t u n w (slice_get w.machines t) (position is_none w.owners) other)
event_ignores limit order u n (On.Admin (Do.TakeBack t slot)) w unneeded =
    let other = other_tenant (On.Admin (Do.TakeBack t slot)) t u unneeded (is_same t) in
    same_machine t u n w (slot_step order t slot) other (take_back_ignores order t slot u n w (slice_get w.machines t) other)
event_ignores limit order u n (On.Admin (Do.Reset t)) w unneeded =
    let other = other_tenant (On.Admin (Do.Reset t)) t u unneeded (is_same t) in
    same_machine t u n w (reset_step t) other (reset_ignores t u n w (slice_get w.machines t) other)
event_ignores limit order u n (On.Admin (Do.Move t slot)) w unneeded =
    let other = other_tenant (On.Admin (Do.Move t slot)) t u unneeded (is_same t) in
    same_machine t u n w (λ v o. move_step t slot v o (position is_none v.owners)) other
    (move_ignores t slot u n w (slice_get w.machines t) (position is_none w.owners))
event_ignores limit order u n (On.Admin Do.Pool) w unneeded = answer_ignores _ _ u n w

-- such an event commutes with each command of u
with_command : (limit order u : ℕ) (a : Event) (c : Command) (w : World) (o : Option Machine) → slice_get w.machines u ≡ o
    → event_needs (OfTenant u) a ≡ false → Commute limit order a (On.Tenant u c) w
unfolding world_step tenant_step answer
with_command limit order u a c w None here unneeded =
    let after : slice_get (world_step limit order a w).world.machines u ≡ None = (event_ignores limit order u empty_machine a w unneeded).kept ∙ here in
    record {
      world = ap (λ o. (tenant_step limit order u c (world_step limit order a w).world o).world) after
          ∙ sym (ap (λ o. (world_step limit order a (tenant_step limit order u c w o).world).world) here);
      first = ap (λ o. (world_step limit order a (tenant_step limit order u c w o).world).reply) here;
      second = ap (λ o. (tenant_step limit order u c (world_step limit order a w).world o).reply) after
          ∙ sym (ap (λ o. (tenant_step limit order u c w o).reply) here);
    }
with_command limit order u a c w (Some m) here unneeded =
    let same = event_ignores limit order u (command_step limit order c m).machine a w unneeded in
    let after : slice_get (world_step limit order a w).world.machines u ≡ Some m = same.kept ∙ here in
    record {
      world = ap (λ o. (tenant_step limit order u c (world_step limit order a w).world o).world) after ∙ sym same.world
          ∙ sym (ap (λ o. (world_step limit order a (tenant_step limit order u c w o).world).world) here);
      first = ap (λ o. (world_step limit order a (tenant_step limit order u c w o).world).reply) here ∙ same.reply;
      second = ap (λ o. (tenant_step limit order u c (world_step limit order a w).world o).reply) after
          ∙ sym (ap (λ o. (tenant_step limit order u c w o).reply) here);
    }

-- an event that shares no lock with a command of u does not need the lock of u
unneeded_by : (a : Event) (u : ℕ) (c : Command) → ShareNoLock event_needs a (On.Tenant u c) → event_needs (OfTenant u) a ≡ false
unneeded_by a u c apart = go (event_needs (OfTenant u) a) refl
  where
    go : (b : Bool) → event_needs (OfTenant u) a ≡ b → event_needs (OfTenant u) a ≡ false
    go true needed = absurd (apart (OfTenant u) needed (is_same u))
    go false unneeded = unneeded

turned : (limit order : ℕ) (a b : Event) (w : World) → Commute limit order a b w → Commute limit order b a w
turned limit order a b w c = record { world = sym c.world; first = c.second; second = c.first }

pub events_commute : EventsCommute
events_commute limit order a (On.Tenant u c) w apart =
    with_command limit order u a c w (slice_get w.machines u) refl (unneeded_by a u c apart)
events_commute limit order (On.Tenant u c) (On.Admin b) w apart =
    turned limit order (On.Admin b) (On.Tenant u c) w
    (with_command limit order u (On.Admin b) c w (slice_get w.machines u) refl (unneeded_by (On.Admin b) u c (λ l here there. apart l there here)))
events_commute limit order (On.Admin a) (On.Admin b) w apart = absurd (apart OfAdministrator refl refl)
