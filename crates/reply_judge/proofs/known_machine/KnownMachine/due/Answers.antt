use Rattle.std.proofs.Common.{◌≡◌, ℕ, length, Some, None, refl, ap, sym, subst, ◌∙◌, arith, slice_get}
use Rattle.std.proofs.lemmas.Option.{slice_get_past, slice_get_read}
use Rattle.words_core.specs.declared.event.Event.TheVariants as On
use Rattle.promise_core.specs.Promises.{due, named}
use Rattle.known_holdings.proofs.CachesByNumber.{none_of}
use Rattle.reply_judge.specs.Due.{refusal_due}
use Rattle.reply_judge.specs.Judged.{known_at}
use Rattle.reply_judge.specs.KnownMachine.{SeenMachine, known_of}
use Rattle.reply_judge.specs.Seen.{Seen, state_of}
use Rattle.reply_judge.proofs.DueRefusals.{due_of_stranger, due_of_tenant, due_of_unnamed}
use Rattle.reply_judge.proofs.known_machine.KnownMachine.due.Goals as goal

pub returns-in_default : goal.returns-in_default
returns-in_default c w shown =
    sym (due_of_unnamed c.args.event.now w (sym c.tenant_named.ensures ∙ none_of c.tenant_named.result c.in_default.not-Some))

pub returns-then-t-len : goal.returns-then-t-len
returns-then-t-len c w shown =
    let name : named c.args.event.now ≡ Some c.in-Some.t = sym c.tenant_named.ensures ∙ c.in-Some.is in
    let none : slice_get c.args.self.now.tenants c.in-Some.t ≡ None =
    ap (λ (m : SeenMachine). slice_get m.tenants c.in-Some.t) (sym c.self.view_is) ∙ slice_get_past c.self.inside.tenants.items c.in-Some.t (omega (arith, c.len.ensures, c.if-t-len.true)) in
    rw shown (sym (due_of_stranger c.args.event.now c.args.self.now c.in-Some.t name none))

pub returns-in-Tenant : goal.returns-in-Tenant
returns-in-Tenant c w shown =
    let x : SeenMachine = record { order = c.self.inside.order; owners = c.self.inside.owners.items; tenants = c.self.inside.tenants.items } in
    let t : ℕ = c.in-Some.t in
    let y : Seen = c.index.result.now in
    let name : named c.args.event.now ≡ Some t = sym c.tenant_named.ensures ∙ c.in-Some.is in
    let here : slice_get x.tenants t ≡ Some y = slice_get_read x.tenants (length x.tenants) t y refl (omega (arith, c.len.ensures, c.if-t-len.false)) c.index.ensures in
    let told : c.due.result ≡ due c.args.event.now (known_at y (known_of x)) (state_of y) = rw c.in-Tenant.is (c.due.ensures _ (known_of x)) in
    rw shown (subst (λ m. c.due.result ≡ refusal_due (known_of m) c.args.event.now) c.self.view_is
    (due_of_tenant c.args.event.now x t y c.due.result name here (c.self.invariant.ordered t y here) told))

pub returns-in-Admin : goal.returns-in-Admin
returns-in-Admin c w shown =
    let x : SeenMachine = record { order = c.self.inside.order; owners = c.self.inside.owners.items; tenants = c.self.inside.tenants.items } in
    let t : ℕ = c.in-Some.t in
    let y : Seen = c.index-in-Admin.result.now in
    let name : named c.args.event.now ≡ Some t = sym c.tenant_named.ensures ∙ c.in-Some.is in
    let here : slice_get x.tenants t ≡ Some y = slice_get_read x.tenants (length x.tenants) t y refl (omega (arith, c.len.ensures, c.if-t-len.false)) c.index-in-Admin.ensures in
    let told : c.due_of_admin.result ≡ due c.args.event.now (known_at y (known_of x)) (state_of y) = rw c.in-Admin.is
    (subst (λ was. c.due_of_admin.result ≡ due (On.Admin c.in-Admin.command) (known_at y (record (known_of x) { owners = was })) (state_of y))
    c.deref.ensures.value (c.due_of_admin.ensures (known_of x))) in
    rw shown (subst (λ m. c.due_of_admin.result ≡ refusal_due (known_of m) c.args.event.now) c.self.view_is
    (due_of_tenant c.args.event.now x t y c.due_of_admin.result name here (c.self.invariant.ordered t y here) told))
