use Rattle.std.proofs.Common.{◌≡◌, ℕ, false, [], ◌∷◌, length, Some, None, refl, ap, sym, subst, ◌∙◌, arith, slice_get}
use Rattle.std.proofs.lemmas.Option.{slice_get_past, slice_get_read}
use Rattle.promise_core.specs.declared.promise.Promise.{Promise}
use Rattle.promise_core.specs.Promises.{is_for, named}
use Rattle.promise_core.specs.State.{owners_after}
use Rattle.reply_judge.specs.Judged.{broken, failing, AreOwnersAfter, IsJudged, IsVerdictFor}
use Rattle.reply_judge.specs.Seen.{Seen}
use Rattle.reply_judge.specs.KnownMachine.{SeenMachine, known_of}
use Rattle.reply_judge.proofs.ReplyVerdicts.{stranger, misled, misjudged, with_tenant, still_fits, tenant_judged, order_kept}
use Rattle.reply_judge.proofs.MisfitAnswers.{no_row, no_table}
use Rattle.reply_judge.proofs.KnownAfterAdmin.{owners_kept, are_kept}
use Rattle.reply_judge.proofs.known_machine.KnownMachine.judge_rows.Goals as goal

pub returns-then-t-len : goal.returns-then-t-len
returns-then-t-len c =
    let name : named c.args.event.now ≡ Some c.in-Some.t = sym c.tenant_named.ensures ∙ c.in-Some.is in
    let none : slice_get c.args.self.now.tenants c.in-Some.t ≡ None =
    ap (λ (m : SeenMachine). slice_get m.tenants c.in-Some.t) (sym c.self.view_is) ∙ slice_get_past c.self.inside.tenants.items c.in-Some.t (omega (arith, c.len.ensures, c.if-t-len.true)) in
    stranger c.args.event.now c.args.reply.now c.args.self.now c.in-Some.t c.judge_stranger.result name none
    (c.judge_stranger.ensures ∙ (λ i. broken ((Promise.Form, is_for c.args.event.now false c.args.reply.now.addressee) ∷ (Promise.Refusals, no_row c.args.reply.now.body c.requires i) ∷ [])))

pub returns-then-not-is_for : goal.returns-then-not-is_for
returns-then-not-is_for c = (misled c.args.event.now c.args.reply.now c.args.self.now c.in-Some.t (sym c.tenant_named.ensures ∙ c.in-Some.is) (omega (arith, c.len.ensures, c.if-t-len.false, ap (λ (m : SeenMachine). length m.tenants) c.self.view_is)) (sym c.is_for.ensures ∙ c.if-not-is_for.true), refl)

pub invariant_of-self : goal.invariant_of-self
invariant_of-self c =
    let x : SeenMachine = record { order = c.self.inside.order; owners = c.self.inside.owners.items; tenants = c.self.inside.tenants.items } in
    let t : ℕ = c.in-Some.t in
    let y : Seen = c.index_mut.result.now in
    let here : slice_get x.tenants t ≡ Some y = slice_get_read x.tenants (length x.tenants) t y refl (omega (arith, c.len.ensures, c.if-t-len.false)) c.index_mut.ensures.value in
    let z : Seen = c.judge_rows.new.self in
    let verdict = failing c.judge_rows.result in
    let judged : IsVerdictFor c.args.event.now c.args.reply.now.body (known_of x) y z verdict = rw (c.in-Tenant.is, c.in-Report.is) (c.judge_rows.ensures _ (known_of x)) in
    still_fits x x.owners t y z c.self.invariant refl here (order_kept c.args.event.now c.args.reply.now.body (known_of x) y z verdict judged)

pub returns-in-Report : goal.returns-in-Report
returns-in-Report c =
    let x : SeenMachine = record { order = c.self.inside.order; owners = c.self.inside.owners.items; tenants = c.self.inside.tenants.items } in
    let t : ℕ = c.in-Some.t in
    let y : Seen = c.index_mut.result.now in
    let here : slice_get x.tenants t ≡ Some y = slice_get_read x.tenants (length x.tenants) t y refl (omega (arith, c.len.ensures, c.if-t-len.false)) c.index_mut.ensures.value in
    let z : Seen = c.judge_rows.new.self in
    let verdict = failing c.judge_rows.result in
    let judged : IsVerdictFor c.args.event.now c.args.reply.now.body (known_of x) y z verdict = rw (c.in-Tenant.is, c.in-Report.is) (c.judge_rows.ensures _ (known_of x)) in
    let as_many : length (owners_after c.args.event.now c.args.reply.now.body x.owners) ≡ length x.owners = rw c.in-Tenant.is (ap length (owners_kept _ _ _ _)) in
    let are : AreOwnersAfter c.args.event.now c.args.reply.now.body x.owners x.owners verdict = rw c.in-Tenant.is (are_kept _ _ _ _ _) in
    subst (λ m. IsJudged c.args.event.now c.args.reply.now m (with_tenant x x.owners t z) verdict) c.self.view_is
    (tenant_judged c.args.event.now c.args.reply.now x t y z (sym c.tenant_named.ensures ∙ c.in-Some.is) (sym c.is_for.ensures ∙ c.if-not-is_for.false) here
    (c.self.invariant.ordered t y here) verdict x.owners judged as_many are)

pub returns-in_default-body : goal.returns-in_default-body
returns-in_default-body c =
    misjudged c.args.event.now c.args.reply.now c.args.self.now c.in-Some.t (sym c.tenant_named.ensures ∙ c.in-Some.is)
    (omega (arith, c.len.ensures, c.if-t-len.false, ap (λ (m : SeenMachine). length m.tenants) c.self.view_is)) (sym c.is_for.ensures ∙ c.if-not-is_for.false)
    (λ s. no_table c.in-Some.t c.args.self.now.order s c.args.event.now c.args.reply.now.body (sym c.tenant_named.ensures ∙ c.in-Some.is) c.requires (λ u m r is_event is_body. c.in_default-body.not-Report r is_body))

pub returns-in-Admin : goal.returns-in-Admin
returns-in-Admin c =
    misjudged c.args.event.now c.args.reply.now c.args.self.now c.in-Some.t (sym c.tenant_named.ensures ∙ c.in-Some.is)
    (omega (arith, c.len.ensures, c.if-t-len.false, ap (λ (m : SeenMachine). length m.tenants) c.self.view_is)) (sym c.is_for.ensures ∙ c.if-not-is_for.false)
    (λ s. no_table c.in-Some.t c.args.self.now.order s c.args.event.now c.args.reply.now.body (sym c.tenant_named.ensures ∙ c.in-Some.is) c.requires (λ u m r is_event is_body. let e = sym is_event ∙ c.in-Admin.is in absurd (cc)))
