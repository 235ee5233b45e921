use Rattle.std.proofs.Common.{◌≡◌, ℕ, false, [], ◌∷◌, length, Some, None, refl, ap, sym, subst, ◌∙◌, rules, arith, slice_get}
use Rattle.std.specs.Vec.{with_items}
use Rattle.std.proofs.lemmas.List.{with_items_is, places}
use Rattle.std.proofs.lemmas.Option.{slice_get_past, slice_get_read}
use Rattle.words_core.specs.Requests.{body_of_answer, reply_to}
use Rattle.words_core.specs.declared.event.Event.TheVariants as On
use Rattle.promise_core.specs.declared.promise.Promise.{Promise}
use Rattle.promise_core.specs.Promises.{is_for, named}
use Rattle.promise_core.specs.State.{owners_after}
use Rattle.reply_judge.specs.Judged.{broken, AreOwnersAfter, IsJudged, IsVerdictFor}
use Rattle.reply_judge.specs.Seen.{Seen}
use Rattle.reply_judge.specs.KnownMachine.{SeenMachine, known_of}
use Rattle.reply_judge.proofs.ReplyVerdicts.{stranger, misled, with_tenant, still_fits, tenant_judged, order_kept}
use Rattle.reply_judge.proofs.KnownAfterAdmin.{owners_kept, are_kept, as_many}
use Rattle.reply_judge.proofs.known_machine.KnownMachine.judge_answer.Goals as goal

pub returns-then-t-len : goal.returns-then-t-len
returns-then-t-len c =
    let name : named c.args.event.now ≡ Some c.in-Some.t = sym c.tenant_named.ensures ∙ c.in-Some.is in
    let none : slice_get c.args.self.now.tenants c.in-Some.t ≡ None =
    ap (λ (m : SeenMachine). slice_get m.tenants c.in-Some.t) (sym c.self.view_is) ∙ slice_get_past c.self.inside.tenants.items c.in-Some.t (omega (arith, c.len.ensures, c.if-t-len.true)) in
    rw c.followed.ensures (stranger c.args.event.now (reply_to c.args.addressee c.args.answer.now) c.args.self.now c.in-Some.t c.judge_stranger.result name none
    (c.judge_stranger.ensures ∙ (λ i. broken ((Promise.Form, is_for c.args.event.now false c.args.addressee) ∷ (Promise.Refusals, c.says_no_tenant.ensures i) ∷ []))))

pub returns-then-not-is_for : goal.returns-then-not-is_for
returns-then-not-is_for c = (misled c.args.event.now (reply_to c.args.addressee c.args.answer.now) c.args.self.now c.in-Some.t (sym c.tenant_named.ensures ∙ c.in-Some.is) (omega (arith, c.len.ensures, c.if-t-len.false, ap (λ (m : SeenMachine). length m.tenants) c.self.view_is)) (sym c.is_for.ensures ∙ c.if-not-is_for.true), refl)

pub invariant_of-self : goal.invariant_of-self
invariant_of-self c =
    let x : SeenMachine = record { order = c.self.inside.order; owners = c.self.inside.owners.items; tenants = c.self.inside.tenants.items } in
    let t : ℕ = c.in-Some.t in
    let y : Seen = c.index_mut.result.now in
    let here : slice_get x.tenants t ≡ Some y = slice_get_read x.tenants (length x.tenants) t y refl (omega (arith, c.len.ensures, c.if-t-len.false)) c.index_mut.ensures.value in
    let z : Seen = c.judge.new.self in
    let judged : IsVerdictFor c.args.event.now (body_of_answer c.args.answer.now) (known_of x) y z c.judge.result = rw c.in-Tenant.is (c.judge.ensures _ (known_of x)) in
    still_fits x x.owners t y z c.self.invariant refl here (order_kept c.args.event.now (body_of_answer c.args.answer.now) (known_of x) y z c.judge.result judged)

pub returns-in-Tenant : goal.returns-in-Tenant
returns-in-Tenant c =
    let x : SeenMachine = record { order = c.self.inside.order; owners = c.self.inside.owners.items; tenants = c.self.inside.tenants.items } in
    let t : ℕ = c.in-Some.t in
    let y : Seen = c.index_mut.result.now in
    let here : slice_get x.tenants t ≡ Some y = slice_get_read x.tenants (length x.tenants) t y refl (omega (arith, c.len.ensures, c.if-t-len.false)) c.index_mut.ensures.value in
    let z : Seen = c.judge.new.self in
    let judged : IsVerdictFor c.args.event.now (body_of_answer c.args.answer.now) (known_of x) y z c.judge.result = rw c.in-Tenant.is (c.judge.ensures _ (known_of x)) in
    let reply = reply_to c.args.addressee c.args.answer.now in
    let as_many : length (owners_after c.args.event.now (body_of_answer c.args.answer.now) x.owners) ≡ length x.owners = rw c.in-Tenant.is (ap length (owners_kept _ _ _ _)) in
    let are : AreOwnersAfter c.args.event.now (body_of_answer c.args.answer.now) x.owners x.owners c.judge.result = rw c.in-Tenant.is (are_kept _ _ _ _ _) in
    subst (λ m. IsJudged c.args.event.now reply m (with_tenant x x.owners t z) c.judge.result) c.self.view_is
    (tenant_judged c.args.event.now reply x t y z (sym c.tenant_named.ensures ∙ c.in-Some.is) (sym c.is_for.ensures ∙ c.if-not-is_for.false) here
    (c.self.invariant.ordered t y here) c.judge.result x.owners judged as_many are)

pub invariant_of-self-in-Admin : goal.invariant_of-self-in-Admin
invariant_of-self-in-Admin c =
    let x : SeenMachine = record { order = c.self.inside.order; owners = c.self.inside.owners.items; tenants = c.self.inside.tenants.items } in
    let t : ℕ = c.in-Some.t in
    let y : Seen = c.index_mut-in-Admin.result.now in
    let here : slice_get x.tenants t ≡ Some y = slice_get_read x.tenants (length x.tenants) t y refl (omega (arith, c.len.ensures, c.if-t-len.false)) c.index_mut-in-Admin.ensures.value in
    let z : Seen = c.judge_admin.new.self in
    let items = with_items_is c.self.inside.owners c.judge_admin.new.owners (search (rules, places)) in
    let os = c.judge_admin.new.owners in
    let judged : IsVerdictFor c.args.event.now (body_of_answer c.args.answer.now) (known_of x) y z c.judge_admin.result = rw c.in-Admin.is (subst (λ was. IsVerdictFor (On.Admin c.in-Admin.command) (body_of_answer c.args.answer.now) (record (known_of x) { owners = was }) y z c.judge_admin.result)
    c.deref_mut.ensures.value (c.judge_admin.ensures.judged (known_of x))) in
    still_fits x (with_items c.self.inside.owners os).items t y z c.self.invariant (search (rules, places)) here
    (order_kept c.args.event.now (body_of_answer c.args.answer.now) (known_of x) y z c.judge_admin.result judged)

pub returns-in-Admin : goal.returns-in-Admin
returns-in-Admin c =
    let x : SeenMachine = record { order = c.self.inside.order; owners = c.self.inside.owners.items; tenants = c.self.inside.tenants.items } in
    let t : ℕ = c.in-Some.t in
    let y : Seen = c.index_mut-in-Admin.result.now in
    let here : slice_get x.tenants t ≡ Some y = slice_get_read x.tenants (length x.tenants) t y refl (omega (arith, c.len.ensures, c.if-t-len.false)) c.index_mut-in-Admin.ensures.value in
    let z : Seen = c.judge_admin.new.self in
    let items = with_items_is c.self.inside.owners c.judge_admin.new.owners (search (rules, places)) in
    let os = c.judge_admin.new.owners in
    let judged : IsVerdictFor c.args.event.now (body_of_answer c.args.answer.now) (known_of x) y z c.judge_admin.result = rw c.in-Admin.is (subst (λ was. IsVerdictFor (On.Admin c.in-Admin.command) (body_of_answer c.args.answer.now) (record (known_of x) { owners = was }) y z c.judge_admin.result)
    c.deref_mut.ensures.value (c.judge_admin.ensures.judged (known_of x))) in
    let reply = reply_to c.args.addressee c.args.answer.now in
    let count : length (owners_after c.args.event.now (body_of_answer c.args.answer.now) x.owners) ≡ length x.owners = rw c.in-Admin.is (as_many _ _ _) in
    let are : AreOwnersAfter c.args.event.now (body_of_answer c.args.answer.now) x.owners os c.judge_admin.result =
    rw c.in-Admin.is (subst (λ was. AreOwnersAfter (On.Admin c.in-Admin.command) (body_of_answer c.args.answer.now) was os c.judge_admin.result) c.deref_mut.ensures.value c.judge_admin.ensures.owners) in
    subst (λ m. IsJudged c.args.event.now reply m (with_tenant x (with_items c.self.inside.owners os).items t z) c.judge_admin.result) c.self.view_is
    (subst (λ now. IsJudged c.args.event.now reply x (with_tenant x now t z) c.judge_admin.result) (sym items)
    (tenant_judged c.args.event.now reply x t y z (sym c.tenant_named.ensures ∙ c.in-Some.is) (sym c.is_for.ensures ∙ c.if-not-is_for.false) here
    (c.self.invariant.ordered t y here) c.judge_admin.result os judged count are))
