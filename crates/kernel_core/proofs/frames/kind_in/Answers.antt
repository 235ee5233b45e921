use Rattle.std.proofs.Common.{ℕ, sym, subst}
use Rattle.machine_changes.specs.Laws.{is_kind}
use Rattle.kernel_core.specs.Frames.{IsInSlab}
use Rattle.kernel_core.proofs.frames.kind_in.Goals as goal

pub returns-in-Full : goal.returns-in-Full
returns-in-Full c order m frame h = subst (λ (n : ℕ). IsInSlab m frame (is_kind n)) (sym c.in-Full.ensures) h

pub returns-in-Partial : goal.returns-in-Partial
returns-in-Partial c order m frame h = subst (λ (n : ℕ). IsInSlab m frame (is_kind n)) (sym c.in-Partial.ensures) h

pub returns-in-Empty : goal.returns-in-Empty
returns-in-Empty c order m frame h = subst (λ (n : ℕ). IsInSlab m frame (is_kind n)) (sym c.in-Empty.ensures) h
