use Rattle.std.proofs.Common.{ap, sym, subst}
use Rattle.words_core.specs.declared.event.Event.TheVariants as On
use Rattle.words_core.specs.declared.event.Command.TheVariants as Command
use Rattle.words_core.specs.declared.reply.Body.TheVariants as Say
use Rattle.std.specs.Prelude.{Option}
use Rattle.words_core.specs.declared.report.Report.{Report}
use Rattle.reply_judge.specs.Judged.{IsFollowed}
use Rattle.reply_judge.specs.Seen.{Seen}
use Rattle.reply_judge.proofs.SoundVerdicts.{sound_in, followed, same_slots}
use Rattle.reply_judge.proofs.KnownAfterCommand.{nothing, changed, allocated}
use Rattle.reply_judge.proofs.tenant.Tenant.add_block.Goals as goal

pub invariant_of-self-2 : goal.invariant_of-self-2
invariant_of-self-2 c =
    let x : Seen = record { has = c.self.inside.held; left = c.self.inside.left; may_have_empty = c.self.inside.may_have_empty; last_report = c.self.inside.last_report } in
    let new : Seen = changed x c.alloc.new.self c.alloc-2.new.self in
    sound_in (On.Tenant 0 (Command.Alloc c.args.k)) (Say.Frame c.args.frame) nothing x c.args.self.now new c.self.view_is c.self.invariant (c.in_ok-block.ensures.judged 0 nothing)
    (λ kept. allocated 0 c.args.k c.args.frame nothing c.in_ok-block.block x c.alloc.new.self c.alloc-2.new.self c.in_ok-block.ensures.is kept c.in_ok-alloc.ensures.taken c.alloc-2.ensures)
    (same_slots x new _ c.self.invariant c.alloc-2.ensures (ap (λ h. h.slots) c.in_ok-alloc.ensures.taken))

pub returns : goal.returns
returns c t w =
    let x : Seen = record { has = c.self.inside.held; left = c.self.inside.left; may_have_empty = c.self.inside.may_have_empty; last_report = c.self.inside.last_report } in
    let new : Seen = changed x c.alloc.new.self c.alloc-2.new.self in
    subst (λ (last_report : Option Report). IsFollowed (On.Tenant t (Command.Alloc c.args.k)) (Say.Frame c.args.frame) w c.args.self.now (record new { last_report = last_report })) (sym c.forget.ensures)
    (followed (On.Tenant t (Command.Alloc c.args.k)) (Say.Frame c.args.frame) w x c.args.self.now new c.self.view_is (c.in_ok-block.ensures.judged t w)
    (λ kept. allocated t c.args.k c.args.frame w c.in_ok-block.block x c.alloc.new.self c.alloc-2.new.self c.in_ok-block.ensures.is kept c.in_ok-alloc.ensures.taken c.alloc-2.ensures))
