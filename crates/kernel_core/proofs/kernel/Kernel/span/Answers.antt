use Rattle.std.proofs.Common.{◌≡◌, false, inr, refl}
use Rattle.model_core.specs.Machine.{Machine}
use Rattle.model_core.specs.Reach.{in_reach}
use Rattle.words_core.specs.declared.reply.Refusal.{Refusal}
use Rattle.words_core.specs.declared.reply.Refusal.TheVariants.{OutOfReach}
use Rattle.kernel_core.specs.Shows.{ShowsMachine}
use Rattle.kernel_core.proofs.LendBytes.{lend_beyond}
use Rattle.kernel_core.proofs.LendSpans.{refused_for}
use Rattle.kernel_core.proofs.LookupAnswers.{range_answers, no_range_answers}
use Rattle.kernel_core.proofs.kernel.Kernel.span.Goals as goal

pub returns-in_default-reached-clause-refused : goal.returns-in_default-reached-clause-refused
returns-in_default-reached-clause-refused c =
    let x = c.args in
    let asked = c.in_default-reached.ensures in
    inr (refused_for x.self.now c.in-Some.t x.tenant
    (λ u. (◌≡◌ {A = Refusal} OutOfReach OutOfReach) × ((m : Machine) → ShowsMachine x.self.now u m → in_reach m x.place x.len ≡ false))
    c.in-Some.ensures.0 c.in-Some.ensures.1
    (refl, lend_beyond x.self.now c.in-Some.t x.place x.len (record { together = asked.together; tenant = asked.known }) asked.reach))

pub returns-in_default-reached-clause-answers : goal.returns-in_default-reached-clause-answers
returns-in_default-reached-clause-answers c =
    let asked = c.in_default-reached.ensures in
    no_range_answers c.args.self.now c.in-Some.t c.args.tenant c.in-Some.ensures (record { agree = c.laws.ensures.agree; together = c.laws.ensures.together })
    c.args.place c.args.len
    (lend_beyond c.args.self.now c.in-Some.t c.args.place c.args.len (record { together = asked.together; tenant = asked.known }) asked.reach)

pub returns-clause-answers : goal.returns-clause-answers
returns-clause-answers c =
    range_answers c.args.self.now c.in-Some.t c.args.tenant c.in-Some.ensures (record { agree = c.laws.ensures.agree; together = c.laws.ensures.together })
    c.args.place c.args.len c.in-Some-reached.ensures.reach.0
