use Rattle.std.proofs.Common.{◌≡◌, ◌<◌, Some, None, length, sym, ap, ◌∙◌, arith}
use Rattle.space_core.specs.Content.{superblock_at, slots_of}
use Rattle.kernel_core.proofs.Resetting.{giving_none, giving_takes, giving_passes, giving_ends}
use Rattle.kernel_core.proofs.administrator.give_up.Goals as goal

pub loop-slot-init : goal.loop-slot-init
loop-slot-init c = giving_none c.args.space.now c.args.t c.laws.ensures.facts

pub loop-slot-preserved : goal.loop-slot-preserved
loop-slot-preserved c =
    let row : c.loop-slot.slot < length (slots_of c.args.space.now.slots c.args.t) = omega (arith, c.laws.ensures.facts.rows c.args.t c.requires.tenant) in
    let here : superblock_at c.loop-slot.space.slots c.args.t c.loop-slot.slot ≡ Some c.in-Ok.field-0
    = ap (superblock_at c.loop-slot.space.slots c.args.t) (sym c.from.ensures) ∙ c.in-Ok.ensures.superblock in
    rw (c.in-Ok.ensures.ok, c.from.ensures)
    (giving_takes c.args.space.now c.loop-slot.space c.args.t c.loop-slot.slot c.loop-slot.count c.loop-slot.invariant c.laws.ensures.facts c.laws-in-loop-slot.ensures.facts row c.laws-in-loop-slot.ensures.others c.in-Ok.field-0 here)

pub loop-slot-preserved-in_default : goal.loop-slot-preserved-in_default
loop-slot-preserved-in_default c =
    let row : c.loop-slot.slot < length (slots_of c.args.space.now.slots c.args.t) = omega (arith, c.laws.ensures.facts.rows c.args.t c.requires.tenant) in
    let none : superblock_at c.loop-slot.space.slots c.args.t c.loop-slot.slot ≡ None
    = ap (superblock_at c.loop-slot.space.slots c.args.t) (sym c.from.ensures) ∙ c.in_default.ensures.superblock in
    rw c.in_default.ensures.err
    (giving_passes c.args.space.now c.loop-slot.space c.args.t c.loop-slot.slot c.loop-slot.count c.loop-slot.invariant c.laws.ensures.facts c.laws-in-loop-slot.ensures.facts row none)

pub returns : goal.returns
returns c =
    giving_ends c.args.space.now c.loop-slot.space c.args.t c.loop-slot.slot c.loop-slot.count c.laws.ensures.facts c.laws-2.ensures.facts c.loop-slot.invariant c.requires.tenant
    (λ u le. c.requires.rest u (omega arith))
