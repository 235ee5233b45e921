use Rattle.kernel_core.proofs.ByteHolders.{known_for, holder_for, beyond_for}
use Rattle.kernel_core.proofs.LookupAnswers.{holder_answers}
use Rattle.kernel_core.proofs.kernel.Kernel.holder.Goals as goal

pub returns-clause-tenant : goal.returns-clause-tenant
returns-clause-tenant c =
    rw c.ok_or.ensures.value (known_for c.args.self.now c.in-Some.t c.args.tenant c.args.place c.in-Some.ensures.0 c.in-Some.ensures.1 c.holder_of.result)

pub returns-clause-holder : goal.returns-clause-holder
returns-clause-holder c =
    rw c.ok_or.ensures.value
    (holder_for c.args.self.now c.in-Some.t c.args.tenant c.args.place c.in-Some.ensures.0 c.in-Some.ensures.1 c.holder_of.result c.holder_of.ensures)

pub returns-clause-refused : goal.returns-clause-refused
returns-clause-refused c =
    rw c.ok_or.ensures.value
    (beyond_for c.args.self.now c.in-Some.t c.args.tenant c.args.place c.in-Some.ensures.0 c.in-Some.ensures.1 c.holder_of.result c.holder_of.ensures)

pub returns-clause-answers : goal.returns-clause-answers
returns-clause-answers c =
    rw c.ok_or.ensures.value
    (holder_answers c.args.self.now c.in-Some.t c.args.tenant c.in-Some.ensures (record { agree = c.laws.ensures.agree; together = c.laws.ensures.together })
    c.args.place c.holder_of.result c.holder_of.ensures)
