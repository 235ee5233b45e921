use Rattle.std.proofs.Common.{◌≡◌, ℕ, ◌+◌, ◌*◌, ◌^◌, Bool, false, not, ◌&&◌, List, [], ◌∷◌, Option, slice_get, refl, ap, sym, subst, ◌∙◌}
use Rattle.std.specs.Prelude.{Result, ◌==◌, filter, is_none, nat_le}
use Rattle.std.specs.Option.{option_map_or}
use Rattle.model_core.specs.declared.limits.TheConstants.{FRAME_BYTES}
use Rattle.model_core.specs.declared.owner.Owner.{Owner}
use Rattle.words_core.specs.declared.event.Event.TheVariants as On
use Rattle.words_core.specs.declared.event.AdminCommand.TheVariants as Do
use Rattle.words_core.specs.declared.reply.Body.TheVariants as Say
use Rattle.words_core.specs.declared.reply.Refusal.{Refusal}
use Rattle.promise_core.specs.declared.promise.Promise.{Promise}
use Rattle.promise_core.specs.Holdings.{Holdings, has_slot}
use Rattle.promise_core.specs.Promises.{due}
use Rattle.promise_core.specs.State.{State, Known, state_after}
use Rattle.reply_judge.specs.Judged.{broken, known_at, tenant_verdict}
use Rattle.reply_judge.specs.Seen.{Seen, state_of, LieInSlots}
use Rattle.reply_judge.proofs.SoundVerdicts.{sound_in, followed, kept_in, if_kept}
use Rattle.reply_judge.proofs.KnownAfterCommand.{nothing, changed}
use Rattle.reply_judge.proofs.KnownAfterAdmin.{granted, new_slot, IsNewSlot, slots_granted, granted_back, owner_granted}
use Rattle.reply_judge.proofs.UnchangedVerdicts.{broken_off, failed_by}
use Rattle.reply_judge.proofs.tenant.Tenant.add_superblock.Goals as goal

-- the verdict on an answer to a grant follows from the refusal that is due and from the tests of the superblock and of the slot
granting : (t named u m : ℕ) (w : Known) (x : Seen) (os : List (Option Owner)) (asked : Option Refusal) (right : Bool) (v : Result (Unit {0}) Promise)
    → ((s : ℕ) (k : Known) (y : State) → asked ≡ due (On.Admin (Do.Grant s)) (record k { owners = os }) y)
    → right ≡ ((named == t && option_map_or is_none (slice_get os m) false)
    && (not (has_slot x.has u) && nat_le ((u + 1) * 2 ^ x.left.order * FRAME_BYTES) (2 ^ 32)))
    → v ≡ broken ((Promise.Refusals, is_none asked) ∷ (Promise.Owners, right) ∷ [])
    → v ≡ tenant_verdict (On.Admin (Do.Grant t)) (Say.Granted named u m) (record w { owners = os }) x
unfolding state_after
granting t named u m w x os asked right v is_due is_right is = is ∙ (λ i. broken (
    (Promise.Refusals, is_none (is_due t (known_at x (record w { owners = os })) (state_of x) i)) ∷ (Promise.Owners, is_right i) ∷ []))

pub returns-in_err-on_answer-clause-judged : goal.returns-in_err-on_answer-clause-judged
returns-in_err-on_answer-clause-judged c w = broken_off (On.Admin (Do.Grant c.args.t)) (Say.Granted c.args.tenant c.args.slot c.args.superblock) (record w { owners = c.args.owners.now }) c.args.self.now c.in_err-on_answer.field-0.0 c.from_residual.result c.from_residual.ensures.1
    (granting c.args.t c.args.tenant c.args.slot c.args.superblock w c.args.self.now c.args.owners.now _ _ _ c.due_of_grant.ensures (c.both-is_right.ensures ∙ (λ j. c.is_granted_to-is_granted.ensures j && c.is_new_slot.ensures j)) c.in_err-on_answer.ensures)

pub returns-in_err-grant-clause-judged : goal.returns-in_err-grant-clause-judged
returns-in_err-grant-clause-judged c w =
    let x : Seen = record { has = c.self.inside.held; left = c.self.inside.left; may_have_empty = c.self.inside.may_have_empty; last_report = c.self.inside.last_report } in
    failed_by (On.Admin (Do.Grant c.args.t)) (Say.Granted c.args.tenant c.args.slot c.args.superblock) (record w { owners = c.args.owners.now }) c.args.self.now _ _
    c.from_residual-in_err-grant.result c.from_residual-in_err-grant.ensures.1 (
      (sym (granting c.args.t c.args.tenant c.args.slot c.args.superblock w c.args.self.now c.args.owners.now _ _ _ c.due_of_grant.ensures (c.both-is_right.ensures ∙ (λ j. c.is_granted_to-is_granted.ensures j && c.is_new_slot.ensures j)) c.in_ok-on_answer.ensures), refl),
      ap (λ (h : Holdings). record x { has = h }) c.in_err-grant.ensures.kept ∙ c.self.view_is,
    )

pub grant-requires-2-clause-new : goal.grant-requires-2-clause-new
grant-requires-2-clause-new c =
    let x : Seen = record { has = c.self.inside.held; left = c.self.inside.left; may_have_empty = c.self.inside.may_have_empty; last_report = c.self.inside.last_report } in
    let new : IsNewSlot c.args.slot x = new_slot c.args.t c.args.tenant c.args.slot c.args.superblock (record nothing { owners = c.args.owners.now }) x
    (kept_in (On.Admin (Do.Grant c.args.t)) (Say.Granted c.args.tenant c.args.slot c.args.superblock) (record nothing { owners = c.args.owners.now }) x c.args.self.now c.self.view_is (granting c.args.t c.args.tenant c.args.slot c.args.superblock nothing c.args.self.now c.args.owners.now _ _ _ c.due_of_grant.ensures (c.both-is_right.ensures ∙ (λ j. c.is_granted_to-is_granted.ensures j && c.is_new_slot.ensures j)) c.in_ok-on_answer.ensures)) in
    c.self.invariant.slots c.args.slot ∙ new.new

pub grant-requires-2-clause-low : goal.grant-requires-2-clause-low
grant-requires-2-clause-low c =
    let x : Seen = record { has = c.self.inside.held; left = c.self.inside.left; may_have_empty = c.self.inside.may_have_empty; last_report = c.self.inside.last_report } in
    let new : IsNewSlot c.args.slot x = new_slot c.args.t c.args.tenant c.args.slot c.args.superblock (record nothing { owners = c.args.owners.now }) x
    (kept_in (On.Admin (Do.Grant c.args.t)) (Say.Granted c.args.tenant c.args.slot c.args.superblock) (record nothing { owners = c.args.owners.now }) x c.args.self.now c.self.view_is (granting c.args.t c.args.tenant c.args.slot c.args.superblock nothing c.args.self.now c.args.owners.now _ _ _ c.due_of_grant.ensures (c.both-is_right.ensures ∙ (λ j. c.is_granted_to-is_granted.ensures j && c.is_new_slot.ensures j)) c.in_ok-on_answer.ensures)) in
    new.low

pub invariant_of-self-in-Err : goal.invariant_of-self-in-Err
invariant_of-self-in-Err c =
    let x : Seen = record { has = c.self.inside.held; left = c.self.inside.left; may_have_empty = c.self.inside.may_have_empty; last_report = c.self.inside.last_report } in
    let new : IsNewSlot c.args.slot x = new_slot c.args.t c.args.tenant c.args.slot c.args.superblock (record nothing { owners = c.args.owners.now }) x
    (kept_in (On.Admin (Do.Grant c.args.t)) (Say.Granted c.args.tenant c.args.slot c.args.superblock) (record nothing { owners = c.args.owners.now }) x c.args.self.now c.self.view_is (granting c.args.t c.args.tenant c.args.slot c.args.superblock nothing c.args.self.now c.args.owners.now _ _ _ c.due_of_grant.ensures (c.both-is_right.ensures ∙ (λ j. c.is_granted_to-is_granted.ensures j && c.is_new_slot.ensures j)) c.in_ok-on_answer.ensures)) in
    let held = granted_back c.args.slot x.has c.grant.new.self c.take_back.new.self new.new c.in_ok-grant.ensures.granted
    (c.take_back.ensures ∙ ap (λ u. record c.grant.new.self { slots = filter (λ v. not (v == u)) c.grant.new.self.slots }) c.from.ensures) in
    subst (λ h. LieInSlots h c.grant-2.new.self) (sym held) (subst (LieInSlots x.has) (sym c.in-Err.ensures.kept) c.self.invariant)

pub returns-in-Err-clause-judged : goal.returns-in-Err-clause-judged
returns-in-Err-clause-judged c w =
    let x : Seen = record { has = c.self.inside.held; left = c.self.inside.left; may_have_empty = c.self.inside.may_have_empty; last_report = c.self.inside.last_report } in
    let new : IsNewSlot c.args.slot x = new_slot c.args.t c.args.tenant c.args.slot c.args.superblock (record nothing { owners = c.args.owners.now }) x
    (kept_in (On.Admin (Do.Grant c.args.t)) (Say.Granted c.args.tenant c.args.slot c.args.superblock) (record nothing { owners = c.args.owners.now }) x c.args.self.now c.self.view_is (granting c.args.t c.args.tenant c.args.slot c.args.superblock nothing c.args.self.now c.args.owners.now _ _ _ c.due_of_grant.ensures (c.both-is_right.ensures ∙ (λ j. c.is_granted_to-is_granted.ensures j && c.is_new_slot.ensures j)) c.in_ok-on_answer.ensures)) in
    let held = granted_back c.args.slot x.has c.grant.new.self c.take_back.new.self new.new c.in_ok-grant.ensures.granted
    (c.take_back.ensures ∙ ap (λ u. record c.grant.new.self { slots = filter (λ v. not (v == u)) c.grant.new.self.slots }) c.from.ensures) in
    ((sym (granting c.args.t c.args.tenant c.args.slot c.args.superblock w c.args.self.now c.args.owners.now _ _ _ c.due_of_grant.ensures (c.both-is_right.ensures ∙ (λ j. c.is_granted_to-is_granted.ensures j && c.is_new_slot.ensures j)) c.in_ok-on_answer.ensures), refl), ap (λ h. record x { has = h; left = c.grant-2.new.self }) held ∙ (ap (λ l. record x { left = l }) c.in-Err.ensures.kept ∙ c.self.view_is))

pub invariant_of-self-2 : goal.invariant_of-self-2
invariant_of-self-2 c =
    let x : Seen = record { has = c.self.inside.held; left = c.self.inside.left; may_have_empty = c.self.inside.may_have_empty; last_report = c.self.inside.last_report } in
    let left = if_kept c.grant-2.result _ c.in_default.not-Err c.grant-2.ensures.granted in
    let new : Seen = changed x c.grant.new.self c.grant-2.new.self in
    sound_in (On.Admin (Do.Grant c.args.t)) (Say.Granted c.args.tenant c.args.slot c.args.superblock) (record nothing { owners = c.args.owners.now }) x c.args.self.now new c.self.view_is c.self.invariant (granting c.args.t c.args.tenant c.args.slot c.args.superblock nothing c.args.self.now c.args.owners.now _ _ _ c.due_of_grant.ensures (c.both-is_right.ensures ∙ (λ j. c.is_granted_to-is_granted.ensures j && c.is_new_slot.ensures j)) c.in_ok-on_answer.ensures)
    (λ kept. granted c.args.t c.args.tenant c.args.slot c.args.superblock (record nothing { owners = c.args.owners.now }) x c.grant.new.self c.grant-2.new.self kept c.in_ok-grant.ensures.granted left) (slots_granted x new c.args.slot _ c.self.invariant left (ap (λ h. h.slots) c.in_ok-grant.ensures.granted))

pub returns-clause-judged : goal.returns-clause-judged
returns-clause-judged c w =
    let x : Seen = record { has = c.self.inside.held; left = c.self.inside.left; may_have_empty = c.self.inside.may_have_empty; last_report = c.self.inside.last_report } in
    let left = if_kept c.grant-2.result _ c.in_default.not-Err c.grant-2.ensures.granted in
    let new : Seen = changed x c.grant.new.self c.grant-2.new.self in
    followed (On.Admin (Do.Grant c.args.t)) (Say.Granted c.args.tenant c.args.slot c.args.superblock) (record w { owners = c.args.owners.now }) x c.args.self.now new c.self.view_is (granting c.args.t c.args.tenant c.args.slot c.args.superblock w c.args.self.now c.args.owners.now _ _ _ c.due_of_grant.ensures (c.both-is_right.ensures ∙ (λ j. c.is_granted_to-is_granted.ensures j && c.is_new_slot.ensures j)) c.in_ok-on_answer.ensures) (λ kept. granted c.args.t c.args.tenant c.args.slot c.args.superblock (record w { owners = c.args.owners.now }) x c.grant.new.self c.grant-2.new.self kept c.in_ok-grant.ensures.granted left)

pub returns-clause-owners : goal.returns-clause-owners
returns-clause-owners c = c.set_owner.ensures ∙ owner_granted c.args.t c.args.tenant c.args.slot c.args.superblock (record nothing { owners = c.args.owners.now }) c.args.self.now c.args.owners.now
    (sym (granting c.args.t c.args.tenant c.args.slot c.args.superblock nothing c.args.self.now c.args.owners.now _ _ _ c.due_of_grant.ensures (c.both-is_right.ensures ∙ (λ j. c.is_granted_to-is_granted.ensures j && c.is_new_slot.ensures j)) c.in_ok-on_answer.ensures))
