-- In any run of the world, a tenant's replies and machine are those of the private run of its own list.
use Rattle.std.proofs.Common.{◌≡◌, ℕ, ◌<◌, ◌==◌, ◌≢◌, Bool, true, false, not, List, [], ◌∷◌, ◌++◌, Option, Some, None, Result, Ok, Err, is_none, position, slice_get, refl, ap, sym, subst, ◌∙◌, inl, inr, arith, append_assoc}
use Rattle.std.proofs.lemmas.Bool.{cases_eq, eq-eqb}
use Rattle.std.specs.Prelude.{if◌then◌else◌}
use Rattle.model_core.specs.Machine.{Machine, empty_machine, holds}
use Rattle.model_core.specs.Operations.{take_back_step}
use Rattle.model_core.specs.declared.refusals.TakeBackRefusal.{TakeBackRefusal}
use Rattle.words_core.specs.declared.event.Event.{Event}
use Rattle.words_core.specs.declared.event.Event.TheVariants as On
use Rattle.words_core.specs.declared.event.AdminCommand.TheVariants as Do
use Rattle.words_core.specs.declared.event.Command.{Command}
use Rattle.words_core.specs.declared.reply.Addressee.TheVariants as To
use Rattle.words_core.specs.declared.reply.Body.TheVariants.{Refused}
use Rattle.words_core.specs.declared.reply.Refusal.TheVariants.{NoSlot}
use Rattle.world_core.specs.PrivateStep.{Entry, private_step}
use Rattle.world_core.specs.PrivateRun.{private_run}
use Rattle.world_core.specs.World.{World, WorldStep, answer, grant_step, tenant_step, take_back_answered, slot_step, reset_step, moved_to, move_step, world_step, history, world_after, opening_world}
use Rattle.world_core.specs.OwnList.{own_entries, own_list, if_for, replies_to}
use Rattle.world_core.specs.Laws.{IsPrivateRun, OwnRun, SameReplies, SameTexts, opening_history}
use Rattle.world_core.specs.Output.{texts_for}
use Rattle.world_core.proofs.MachineLists.{slice_get-set_same, slice_get-set_other, slice_get-replicate}

-- step s of the world gives tenant t the replies and the machine of the private run of these entries from machine m
abbrev pub Leaves : ℕ → ℕ → ℕ → List Entry → Machine → WorldStep → Type 0
Leaves limit order t entries m s =
    IsPrivateRun limit order entries m (if_for t s.reply.addressee s.reply.body) (slice_get s.world.machines t)

-- `Leaves` is true for the entries that the event, with the reply of step s, adds to the own list of tenant t
abbrev pub StepLeaves : ℕ → ℕ → ℕ → Event → Machine → WorldStep → Type 0
StepLeaves limit order t event m s = Leaves limit order t (own_entries t event s.reply.body) m s

pub is_same : (t : ℕ) → (t == t) ≡ true
is_same t = eq-eqb t t refl

pub is_other : (a b : ℕ) → a ≢ b → (a == b) ≡ false
is_other a b other = grind (arith)

tenant_same : (limit order t : ℕ) (command : Command) (w : World) (m : Machine) → slice_get w.machines t ≡ Some m
    → StepLeaves limit order t (On.Tenant t command) m (tenant_step limit order t command w (Some m))
unfolding tenant_step private_step
tenant_same limit order t command w m here =
    rw (is_same t) record { replies = refl; machine = slice_get-set_same w.machines t m _ here }

tenant_other : (limit order t named : ℕ) (command : Command) (w : World) (m : Machine) (o : Option Machine) → slice_get w.machines t ≡ Some m → named ≢ t
    → StepLeaves limit order t (On.Tenant named command) m (tenant_step limit order named command w o)
unfolding tenant_step answer
tenant_other limit order t named command w m None here other =
    rw (is_other named t other) record { replies = refl; machine = here }
tenant_other limit order t named command w m (Some n) here other =
    rw (is_other named t other) record { replies = refl; machine = slice_get-set_other w.machines named t _ other ∙ here }

grant_same : (limit order t : ℕ) (w : World) (m : Machine) (free : Option ℕ) → slice_get w.machines t ≡ Some m
    → StepLeaves limit order t (On.Admin (Do.Grant t)) m (grant_step order t w (Some m) free)
unfolding grant_step answer private_step
grant_same limit order t w m None here = record { replies = refl; machine = here }
grant_same limit order t w m (Some superblock) here =
    rw (is_same t) record { replies = refl; machine = slice_get-set_same w.machines t m _ here }

grant_other : (limit order t named : ℕ) (w : World) (m : Machine) (o : Option Machine) (free : Option ℕ) → slice_get w.machines t ≡ Some m → named ≢ t
    → StepLeaves limit order t (On.Admin (Do.Grant named)) m (grant_step order named w o free)
unfolding grant_step answer
grant_other limit order t named w m None free here other = record { replies = refl; machine = here }
grant_other limit order t named w m (Some n) None here other = record { replies = refl; machine = here }
grant_other limit order t named w m (Some n) (Some superblock) here other =
    rw (is_other named t other) record { replies = refl; machine = slice_get-set_other w.machines named t _ other ∙ here }

taken_back_same : (limit order t slot : ℕ) (w : World) (m : Machine) (answered : Result (Unit {0}) TakeBackRefusal) → slice_get w.machines t ≡ Some m
    → StepLeaves limit order t (On.Admin (Do.TakeBack t slot)) m (take_back_answered t slot w (take_back_step order slot m).machine answered)
unfolding answer private_step
taken_back_same limit order t slot w m (Ok done) here =
    rw (is_same t) record { replies = refl; machine = slice_get-set_same w.machines t m _ here }
taken_back_same limit order t slot w m (Err refusal) here = record { replies = refl; machine = here }

taken_back_other : (limit order t named slot : ℕ) (w : World) (m after : Machine) (answered : Result (Unit {0}) TakeBackRefusal) → slice_get w.machines t ≡ Some m → named ≢ t
    → StepLeaves limit order t (On.Admin (Do.TakeBack named slot)) m (take_back_answered named slot w after answered)
unfolding answer
taken_back_other limit order t named slot w m after (Ok done) here other =
    rw (is_other named t other) record { replies = refl; machine = slice_get-set_other w.machines named t _ other ∙ here }
taken_back_other limit order t named slot w m after (Err refusal) here other = record { replies = refl; machine = here }

slot_other : (limit order t named slot : ℕ) (w : World) (m : Machine) (o : Option Machine) → slice_get w.machines t ≡ Some m → named ≢ t
    → StepLeaves limit order t (On.Admin (Do.TakeBack named slot)) m (slot_step order named slot w o)
unfolding slot_step answer
slot_other limit order t named slot w m None here other = record { replies = refl; machine = here }
slot_other limit order t named slot w m (Some n) here other = taken_back_other limit order t named slot w m _ (take_back_step order slot n).answer here other

reset_same : (limit order t : ℕ) (w : World) (m : Machine) → slice_get w.machines t ≡ Some m
    → StepLeaves limit order t (On.Admin (Do.Reset t)) m (reset_step t w (Some m))
unfolding reset_step private_step
reset_same limit order t w m here =
    rw (is_same t) record { replies = refl; machine = slice_get-set_same w.machines t m _ here }

reset_other : (limit order t named : ℕ) (w : World) (m : Machine) (o : Option Machine) → slice_get w.machines t ≡ Some m → named ≢ t
    → StepLeaves limit order t (On.Admin (Do.Reset named)) m (reset_step named w o)
unfolding reset_step answer
reset_other limit order t named w m None here other = rw (is_other named t other) record { replies = refl; machine = here }
reset_other limit order t named w m (Some n) here other =
    rw (is_other named t other) record { replies = refl; machine = slice_get-set_other w.machines named t _ other ∙ here }

-- a move gives no reply to tenant t and does not change its machine
moved_keeps : (limit order t named slot : ℕ) (w : World) (m : Machine) (free : Option ℕ) → slice_get w.machines t ≡ Some m
    → StepLeaves limit order t (On.Admin (Do.Move named slot)) m (moved_to named slot w free)
unfolding answer
moved_keeps limit order t named slot w m None here = record { replies = refl; machine = here }
moved_keeps limit order t named slot w m (Some superblock) here = record { replies = refl; machine = here }

move_keeps : (limit order t named slot : ℕ) (w : World) (m : Machine) (o : Option Machine) (free : Option ℕ) → slice_get w.machines t ≡ Some m
    → StepLeaves limit order t (On.Admin (Do.Move named slot)) m (move_step named slot w o free)
unfolding move_step answer
move_keeps limit order t named slot w m None free here = record { replies = refl; machine = here }
move_keeps limit order t named slot w m (Some n) free here = go (holds n slot)
  where
    go : (held : Bool) → StepLeaves limit order t (On.Admin (Do.Move named slot)) m
        (if not held then answer To.Admin (Refused NoSlot) w else moved_to named slot w free)
    go true = moved_keeps limit order t named slot w m free here
    go false = record { replies = refl; machine = here }

-- if tenant t has machine m, `StepLeaves` is true of the world's step for any event
pub step_leaves : (limit order t : ℕ) (event : Event) (w : World) (m : Machine) → slice_get w.machines t ≡ Some m
    → StepLeaves limit order t event m (world_step limit order event w)
unfolding world_step slot_step answer
step_leaves limit order t (On.Tenant named command) w m here =
    elim (cases_eq named t) [
      | inl same ↦ subst (λ n. StepLeaves limit order t (On.Tenant n command) m (world_step limit order (On.Tenant n command) w)) (sym same)
          (subst (λ o. StepLeaves limit order t (On.Tenant t command) m (tenant_step limit order t command w o)) (sym here)
          (tenant_same limit order t command w m here))
      | inr other ↦ tenant_other limit order t named command w m (slice_get w.machines named) here other
    ]
step_leaves limit order t (On.Admin (Do.Grant named)) w m here =
    elim (cases_eq named t) [
      | inl same ↦ subst (λ n. StepLeaves limit order t (On.Admin (Do.Grant n)) m (world_step limit order (On.Admin (Do.Grant n)) w)) (sym same)
          (subst (λ o. StepLeaves limit order t (On.Admin (Do.Grant t)) m (grant_step order t w o (position is_none w.owners))) (sym here)
          (grant_same limit order t w m (position is_none w.owners) here))
      | inr other ↦ grant_other limit order t named w m (slice_get w.machines named) (position is_none w.owners) here other
    ]
step_leaves limit order t (On.Admin (Do.TakeBack named slot)) w m here =
    elim (cases_eq named t) [
      | inl same ↦ subst (λ n. StepLeaves limit order t (On.Admin (Do.TakeBack n slot)) m (world_step limit order (On.Admin (Do.TakeBack n slot)) w)) (sym same)
          (subst (λ o. StepLeaves limit order t (On.Admin (Do.TakeBack t slot)) m (slot_step order t slot w o)) (sym here)
          (taken_back_same limit order t slot w m (take_back_step order slot m).answer here))
      | inr other ↦ slot_other limit order t named slot w m (slice_get w.machines named) here other
    ]
step_leaves limit order t (On.Admin (Do.Reset named)) w m here =
    elim (cases_eq named t) [
      | inl same ↦ subst (λ n. StepLeaves limit order t (On.Admin (Do.Reset n)) m (world_step limit order (On.Admin (Do.Reset n)) w)) (sym same)
          (subst (λ o. StepLeaves limit order t (On.Admin (Do.Reset t)) m (reset_step t w o)) (sym here)
          (reset_same limit order t w m here))
      | inr other ↦ reset_other limit order t named w m (slice_get w.machines named) here other
    ]
step_leaves limit order t (On.Admin (Do.Move named slot)) w m here =
    move_keeps limit order t named slot w m (slice_get w.machines named) (position is_none w.owners) here
step_leaves limit order t (On.Admin Do.Pool) w m here = record { replies = refl; machine = here }

-- the private run of `xs ++ ys` leaves the machine that the run of ys leaves after the run of xs
machine-append : (limit order : ℕ) (xs ys : List Entry) (m : Machine)
    → (private_run limit order (xs ++ ys) m).machine ≡ (private_run limit order ys (private_run limit order xs m).machine).machine
machine-append limit order [] ys m = refl
machine-append limit order (x ∷ xs) ys m = machine-append limit order xs ys (private_step limit order x m).machine

replies-append : (limit order : ℕ) (xs ys : List Entry) (m : Machine)
    → (private_run limit order (xs ++ ys) m).replies ≡ (private_run limit order xs m).replies ++ (private_run limit order ys (private_run limit order xs m).machine).replies
replies-append limit order [] ys m = refl
replies-append limit order (x ∷ xs) ys m =
    ap (λ rs. (private_step limit order x m).replies ++ rs) (replies-append limit order xs ys (private_step limit order x m).machine)
    ∙ sym (append_assoc (private_step limit order x m).replies _ _)

join : {A : Type 0} {xs ys xs' ys' : List A} → xs ≡ xs' → ys ≡ ys' → xs ++ ys ≡ xs' ++ ys'
join p q = cc

-- if tenant t has machine m, its replies in any run and its machine afterwards are those of its own list's private run from m
pub run_leaves : (limit order t : ℕ) (events : List Event) (w : World) (m : Machine) → slice_get w.machines t ≡ Some m
    → IsPrivateRun limit order (own_list t (history limit order w events)) m (replies_to t (history limit order w events))
    (slice_get (world_after limit order w events).machines t)
run_leaves limit order t [] w m here = record { replies = refl; machine = here }
run_leaves limit order t (event ∷ events) w m here =
    let step = step_leaves limit order t event w m here in
    let own : List Entry = own_entries t event (world_step limit order event w).reply.body in
    let rest = run_leaves limit order t events (world_step limit order event w).world (private_run limit order own m).machine step.machine in
    record {
      replies = join step.replies rest.replies ∙ sym (replies-append limit order own _ m);
      machine = rest.machine ∙ ap Some (sym (machine-append limit order own _ m));
    }

pub opening-machine : (superblocks tenants t : ℕ) → t < tenants → slice_get (opening_world superblocks tenants).machines t ≡ Some empty_machine
unfolding opening_world
opening-machine superblocks tenants t here = slice_get-replicate tenants t empty_machine here

pub own_run : OwnRun
unfolding opening_history
own_run limit order superblocks tenants t events here =
    run_leaves limit order t events (opening_world superblocks tenants) empty_machine (opening-machine superblocks tenants t here)

pub same_replies : SameReplies
unfolding opening_history
same_replies limit order superblocks tenants superblocks' tenants' t events events' same =
    (own_run limit order superblocks tenants t events same.tenant).replies
    ∙ ap (λ own. (private_run limit order own empty_machine).replies) same.own
    ∙ sym (own_run limit order superblocks' tenants' t events' same.tenant').replies

pub same_texts : SameTexts
same_texts limit order superblocks tenants superblocks' tenants' t events events' same =
    ap (texts_for t) (same_replies limit order superblocks tenants superblocks' tenants' t events events' same)
