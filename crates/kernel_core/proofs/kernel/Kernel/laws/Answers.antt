use Rattle.std.proofs.Common.{subst}
use Rattle.machine_changes.specs.Slots.{HoldTogether}
use Rattle.kernel_core.specs.Content.{KernelContent, PartsAgree, content_of}
use Rattle.kernel_core.specs.Records.{RecordsStand}
use Rattle.kernel_core.proofs.CallEffects.{parts_agree}
use Rattle.kernel_core.proofs.ControlRecords.{records_stand}
use Rattle.kernel_core.proofs.kernel.Kernel.laws.Goals as goal

holds : (c : goal.After-laws-3) → HoldTogether c.self.inside.space c.self.inside.buddy c.self.inside.slabs
holds c = record { space = c.laws.ensures; buddy = c.laws-2.ensures; slabs = c.laws-3.ensures; agree = c.self.invariant }

pub returns-clause-agree : goal.returns-clause-agree
returns-clause-agree c = subst PartsAgree c.self.view_is (parts_agree c.self.inside.space c.self.inside.buddy c.self.inside.slabs (holds c))

pub returns-clause-records : goal.returns-clause-records
returns-clause-records c =
    let inside : KernelContent = content_of c.self.inside.space c.self.inside.buddy c.self.inside.slabs in
    subst RecordsStand c.self.view_is (records_stand inside (parts_agree inside.space inside.buddy inside.slabs (holds c)))

pub returns-clause-together : goal.returns-clause-together
returns-clause-together c = subst (λ (k : KernelContent). HoldTogether k.space k.buddy k.slabs) c.self.view_is (holds c)
