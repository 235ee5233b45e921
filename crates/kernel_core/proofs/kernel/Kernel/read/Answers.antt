use Rattle.std.proofs.Common.{sym, ap, ◌∙◌, arith}
use Rattle.space_core.specs.Windows.{window_of}
use Rattle.kernel_core.specs.Content.{KernelContent}
use Rattle.kernel_core.proofs.PageCalls.{read_bad, read_beyond, read_done}
use Rattle.kernel_core.proofs.kernel.Kernel.read.Goals as goal

pub returns-then-len-lt1-clause-steps : goal.returns-then-len-lt1-clause-steps
returns-then-len-lt1-clause-steps c = read_bad _ c.args.t c.args.place c.args.len (λ low high. omega arith)

pub returns-in_default-clause-steps : goal.returns-in_default-clause-steps
returns-in_default-clause-steps c =
    read_beyond _ c.args.t c.args.place c.args.len (record { together = c.in_default.ensures.together; tenant = c.in_default.ensures.known }) (omega arith) (omega arith)
    c.in_default.ensures.reach

pub returns-clause-steps : goal.returns-clause-steps
returns-clause-steps c =
    read_done _ c.args.t c.args.place c.args.len c.lent.result.now (record { together = c.in-Some.ensures.together; tenant = c.in-Some.ensures.known })
    (omega arith) (omega arith) c.in-Some.ensures.reach.0
    (ap (λ (k : KernelContent). window_of k.space c.args.t c.args.place c.args.len) (sym c.self.view_is) ∙ c.lent.ensures.value)
