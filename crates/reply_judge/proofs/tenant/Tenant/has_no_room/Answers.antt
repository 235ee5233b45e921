use Rattle.std.proofs.Common.{◌≡◌, true, [], ◌∷◌, Some, None, ap, sym, subst, ◌∙◌, arith}
use Rattle.std.specs.Prelude.{nat_lt}
use Rattle.std.proofs.lemmas.Bool.{lt-ltb}
use Rattle.words_core.specs.declared.event.Event.TheVariants as On
use Rattle.words_core.specs.declared.reply.Refusal.{Refusal}
use Rattle.promise_core.specs.Promises.{due, first_due}
use Rattle.reply_judge.specs.Seen.{Seen, state_of}
use Rattle.reply_judge.specs.Judged.{known_at}
use Rattle.reply_judge.proofs.tenant.Tenant.has_no_room.Goals as goal

pub returns-in_default : goal.returns-in_default
unfolding due
returns-in_default c t w none =
    let x = c.args.self.now in
    let above : nat_lt x.left.order c.in-Alloc.k ≡ true =
    lt-ltb _ _ (omega (arith, c.if-k-from.false, c.from.ensures, c.order-order.ensures.value, ap (λ (y : Seen). y.left.order) c.self.view_is)) in
    let e : Some Refusal.BadOrder ≡ None = (λ i. first_due ((sym above i, Refusal.BadOrder) ∷ []))
    ∙ subst (λ m. due (On.Tenant t m) (known_at x w) (state_of x) ≡ None) c.in-Alloc.is none in
    absurd (cc)
