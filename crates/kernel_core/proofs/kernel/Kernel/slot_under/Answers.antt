use Rattle.std.proofs.Common.{sym, ◌∙◌, arith}
use Rattle.machine_changes.proofs.Lookups.{some_none}
use Rattle.kernel_core.proofs.CallEffects.{no_row, superblock_there}
use Rattle.kernel_core.proofs.kernel.Kernel.slot_under.Goals as goal

pub returns-in_default : goal.returns-in_default
returns-in_default c =
    let k = c.args.self.now in
    let parts = c.laws.ensures.agree in
    λ u. (
      λ same. absurd (some_none (sym same)),
      λ under. absurd (some_none (sym under ∙ no_row k.space k.buddy k.slabs c.args.tenant u parts.agree (omega (arith, parts.holdings, c.in_default.ensures)))),
    )

pub returns-then-superblock-superblocks : goal.returns-then-superblock-superblocks
returns-then-superblock-superblocks c =
    let k = c.args.self.now in
    let parts = c.laws.ensures.agree in
    λ u. (
      λ same. absurd (some_none (sym same)),
      λ under. let there = superblock_there k.space parts.space c.in-Some.t u c.args.superblock (rw (← c.in-Some.ensures.0) at under) in absurd (omega (arith, there, parts.agree.superblocks, parts.sheets, c.superblocks.ensures)),
    )

pub returns : goal.returns
returns c = rw (← c.self.view_is, ← c.in-Some.ensures.0) c.slot_under.ensures
