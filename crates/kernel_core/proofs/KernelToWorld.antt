-- What an event does to the world that a kernel shows follows from what it does to the kernel. The kernel shows only one world.
use Rattle.model_core.specs.declared.owner.Owner.{Owner}
use Rattle.std.proofs.Common.{◌≡◌, ◌≢◌, ℕ, ◌<◌, ◌≤◌, ◌==◌, false, Option, Some, List, length, slice_get, slice_set, refl, sym, ap, ◌∙◌, subst, ⊎_elim, arith, get_or}
use Rattle.std.proofs.lemmas.Bool.{cases_eq, eq-eqb, both_ways}
use Rattle.std.proofs.lemmas.List.{length-set, same_lists}
use Rattle.std.proofs.lemmas.Option.{slice_get_past, slice_get-get_or}
use Rattle.model_core.specs.Machine.{Machine}
use Rattle.model_core.specs.Operations.{Step}
use Rattle.machine_changes.proofs.Lookups.{some_same}
use Rattle.machine_changes.proofs.UntouchedTenant.{kept_shows_same}
use Rattle.words_core.specs.declared.event.Event.TheVariants as On
use Rattle.words_core.specs.declared.event.Command.{Command}
use Rattle.words_core.specs.declared.reply.Addressee.TheVariants as To
use Rattle.words_core.specs.declared.reply.Body.{Body}
use Rattle.words_core.specs.declared.event.Event.{Event}
use Rattle.words_core.specs.declared.reply.Addressee.{Addressee}
use Rattle.words_core.specs.declared.reply.Reply.{Reply}
use Rattle.words_core.specs.declared.reply.Refusal.TheVariants.{NoTenant}
use Rattle.words_core.specs.declared.reply.Body.TheVariants.{Refused}
use Rattle.world_core.specs.Limits.{cache_limit}
use Rattle.world_core.specs.PrivateStep.{command_step}
use Rattle.world_core.specs.World.{World, WorldStep, answer, tenant_step, world_step}
use Rattle.world_core.specs.OwnList.{is_refused}
use Rattle.world_core.proofs.MachineLists.{slice_get-set_same, slice_get-set_other, get_within}
use Rattle.kernel_core.specs.Content.{KernelContent, PartsAgree, Keeps}
use Rattle.kernel_core.specs.Shows.{ShowsMachine, Shows, OneWorld}
use Rattle.kernel_core.specs.Does.{Does}
use Rattle.kernel_core.proofs.CallEffects.{keeps_all, marks_kept}
use Rattle.world_core.specs.Locks.{is_named}
use Rattle.kernel_core.specs.Steps.{Steps, StepsMachine}
use Rattle.machine_changes.proofs.OneMachineShown.{one_machine}

-- if a step keeps everything that tenant t has in the parts, the parts show the same machine for t after the step
pub keeps_shows : (k k' : KernelContent) (t : ℕ) (m : Machine) → Keeps k k' t → ShowsMachine k t m → ShowsMachine k' t m
keeps_shows k k' t m keeps shown = kept_shows_same k.space k'.space k.buddy k'.buddy k.slabs k'.slabs t keeps m shown

-- if nothing changes except the table of owners and tenant t's machine, the kernel shows the world with the new owners and
-- the new machine
pub shows_changed : (k k' : KernelContent) (w : World) (t : ℕ) (m m' : Machine) (owners : List (Option Owner)) → Shows k w → PartsAgree k' → k'.tenants ≡ k.tenants → owners ≡ k'.space.owners
    → slice_get w.machines t ≡ Some m → ShowsMachine k' t m' → ((u : ℕ) → u ≢ t → Keeps k k' u) → Shows k' (record { owners = owners; machines = slice_set w.machines t m' })
shows_changed k k' w t m m' owners shown agree same_tenants same_owners here shown' keeps = record {
  agree = agree;
  owners = same_owners;
  tenants = length-set w.machines t m' ∙ shown.tenants ∙ sym same_tenants;
  machines = λ u n there. ⊎_elim
      (λ same.
      let now = sym (slice_get-set_same w.machines t m m' here) ∙ ap (λ v. slice_get (slice_set w.machines t m') v) (sym same) ∙ there in
      subst (λ v. ShowsMachine k' v n) (sym same) (subst (λ x. ShowsMachine k' t x) (some_same now) shown'))
      (λ other.
      let before = sym (slice_get-set_other w.machines t u m' (λ e. other (sym e))) ∙ there in
      keeps_shows k k' u n (keeps u other) (shown.machines u n before))
      (cases_eq u t);
}

-- Suppose that an event changes nothing and returns the same reply in each world that the kernel shows. Then a call that only
-- returns this reply is a step of the event.
pub steps_answered : (k : KernelContent) (event : Event) (to : Addressee) (body : Body)
    → ((w : World) → Shows k w → world_step cache_limit k.order event w ≡ answer to body w)
    → Steps k event k (record { addressee = to; body = body })
unfolding answer
steps_answered k event to body same = record {
  sizes = record { order = refl; superblocks = refl; tenants = refl };
  shows = λ w shown. subst (λ (s : WorldStep). Shows k s.world) (sym (same w shown)) shown;
  answer = λ w shown. sym (ap (λ (s : WorldStep). s.reply) (same w shown));
  refused = λ _. refl;
  others = λ t _. keeps_all k t;
  marks = marks_kept k.space k.space refl refl;
  spare = λ _ _. refl;
}

-- Suppose that an event names tenant t, and changes only the table of owners and t's machine in the world. If a call does this
-- step in the kernel and its reply is not a refusal, the call is a step of the event.
pub steps_done : {A : Type 0} (k k' : KernelContent) (event : Event) (reply : Reply) (t : ℕ) (step : Machine → Step A) (owned : List (Option Owner)) (told : A)
    → t < k.tenants → PartsAgree k' → Does k t step owned k' told
    → ((w : World) (m : Machine) → Shows k w → ShowsMachine k t m → slice_get w.machines t ≡ Some m
    → world_step cache_limit k.order event w
    ≡ record { reply = reply; world = record { owners = owned; machines = slice_set w.machines t (step m).machine } })
    → ((u : ℕ) → is_named u event ≡ false → u ≢ t) → is_refused reply.body ≡ false → Steps k event k' reply
steps_done k k' event reply t step owned told known agree does same only done = record {
  sizes = does.sizes;
  shows = λ w shown.
      let (m, here) = get_within w.machines t (omega (arith, shown.tenants)) in
      subst (λ (s : WorldStep). Shows k' s.world) (sym (same w m shown (shown.machines t m here) here))
      (shows_changed k k' w t m (step m).machine owned shown agree does.sizes.tenants (sym does.owners) here
      (does.shows m (shown.machines t m here)) does.others);
  answer = λ w shown.
      let (m, here) = get_within w.machines t (omega (arith, shown.tenants)) in
      sym (ap (λ (s : WorldStep). s.reply) (same w m shown (shown.machines t m here) here));
  refused = λ refused. absurd (both_ways (is_refused reply.body) done refused);
  others = λ u unnamed. does.others u (only u unnamed);
  marks = does.marks;
  spare = does.spare;
}

-- if the test `t == u` fails, t and u are different tenants
pub unnamed : (t u : ℕ) → (t == u) ≡ false → u ≢ t
unnamed t u named same = both_ways (t == u) named (eq-eqb t u (sym same))

-- a command of a tenant that does not exist is refused
pub unknown_tenant : (k : KernelContent) (t : ℕ) (command : Command) → k.tenants ≤ t
    → Steps k (On.Tenant t command) k (record { addressee = To.Nobody; body = Refused NoTenant })
unfolding world_step tenant_step
unknown_tenant k t command past =
    steps_answered k (On.Tenant t command) To.Nobody (Refused NoTenant)
    (λ w shown. ap (λ o. tenant_step cache_limit k.order t command w o) (slice_get_past w.machines t (omega (arith, shown.tenants))))

-- if a call does a command's step on the machine of tenant t, the call is a step of the event that has this command
pub steps_asked : (k k' : KernelContent) (t u : ℕ) (command : Command) (body : Body) → t ≡ u → t < k.tenants → ((w : World) → Shows k w → PartsAgree k')
    → StepsMachine k t command k' body → Steps k (On.Tenant u command) k' (record { addressee = To.Tenant t; body = body })
unfolding world_step tenant_step
steps_asked k k' t u command body same known agree steps = subst (λ v. Steps k (On.Tenant v command) k' (record { addressee = To.Tenant t; body = body })) same (record {
  sizes = steps.does.sizes;
  shows = λ w shown.
      let (m, here) = get_within w.machines t (omega (arith, shown.tenants)) in
      subst (λ o. Shows k' (tenant_step cache_limit k.order t command w o).world) (sym here)
      (shows_changed k k' w t m (command_step cache_limit k.order command m).machine w.owners shown (agree w shown) steps.does.sizes.tenants
      (shown.owners ∙ sym steps.does.owners) here (steps.does.shows m (shown.machines t m here)) steps.does.others);
  answer = λ w shown.
      let (m, here) = get_within w.machines t (omega (arith, shown.tenants)) in
      subst (λ o. record { addressee = To.Tenant t; body = body } ≡ (tenant_step cache_limit k.order t command w o).reply) (sym here)
      (ap (λ b. record { addressee = To.Tenant t; body = b }) (steps.does.answer m (shown.machines t m here)));
  refused = steps.refused;
  others = λ v named. steps.does.others v (unnamed t v named);
  marks = steps.does.marks;
  spare = steps.does.spare;
})

pub one_world : OneWorld
one_world k w v shown shown' =
    let owners = shown.owners ∙ sym shown'.owners in
    let many : length w.machines ≡ length v.machines = shown.tenants ∙ sym shown'.tenants in
    let machines = same_lists w.machines v.machines many
    (λ t d below. one_machine k.space k.buddy k.slabs t (get_or w.machines t d) (get_or v.machines t d)
    (shown.machines t _ (slice_get-get_or w.machines t d below)) (shown'.machines t _ (slice_get-get_or v.machines t d (omega (arith, many, below))))) in
    λ i. record { owners = owners i; machines = machines i }
