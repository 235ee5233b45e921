use Rattle.std.proofs.Common.{None, ap, sym, ◌∙◌, subst}
use Rattle.words_core.specs.declared.event.Event.TheVariants as On
use Rattle.words_core.specs.declared.event.Command.TheVariants as Command
use Rattle.words_core.specs.declared.reply.Body.TheVariants as Say
use Rattle.promise_core.specs.Holdings.{known_cache}
use Rattle.std.specs.Prelude.{Option}
use Rattle.words_core.specs.declared.report.Report.{Report}
use Rattle.reply_judge.specs.Judged.{IsFollowed}
use Rattle.reply_judge.specs.Seen.{Seen}
use Rattle.reply_judge.proofs.SoundVerdicts.{sound_in, followed, same_slots}
use Rattle.reply_judge.proofs.KnownAfterCommand.{nothing, taken, number_low}
use Rattle.reply_judge.proofs.tenant.Tenant.add_object.Goals as goal

pub invariant_of-self-2 : goal.invariant_of-self-2
invariant_of-self-2 c =
    let x : Seen = record { has = c.self.inside.held; left = c.self.inside.left; may_have_empty = c.self.inside.may_have_empty; last_report = c.self.inside.last_report } in
    let new : Seen = record { has = c.take.new.self; left = c.take-2.new.self; may_have_empty = c.set_mark.new.marks; last_report = None } in
    sound_in (On.Tenant 0 (Command.Take c.args.number)) (Say.Object c.args.place) nothing x c.args.self.now new c.self.view_is c.self.invariant (c.in_ok-cache.ensures.judged 0 nothing)
    (λ kept. taken 0 c.args.number c.args.place nothing c.in_ok-cache.cache.now x c.take.new.self c.take-2.new.self c.set_mark.new.marks (ap (λ (y : Seen). known_cache y.has c.args.number) c.self.view_is ∙ c.in_ok-cache.ensures.is) kept c.in_ok-take.ensures.taken
    (c.take-2.ensures c.in_ok-cache.cache.now (sym c.number-own_number.ensures) (sym c.size-size.ensures.value) (sym c.slab_around-slab.ensures)) c.set_mark.ensures)
    (same_slots x new _ c.self.invariant (c.take-2.ensures c.in_ok-cache.cache.now (sym c.number-own_number.ensures) (sym c.size-size.ensures.value) (sym c.slab_around-slab.ensures)) (ap (λ h. h.slots) c.in_ok-take.ensures.taken))

pub returns : goal.returns
returns c t w =
    let x : Seen = record { has = c.self.inside.held; left = c.self.inside.left; may_have_empty = c.self.inside.may_have_empty; last_report = c.self.inside.last_report } in
    let new : Seen = record { has = c.take.new.self; left = c.take-2.new.self; may_have_empty = c.set_mark.new.marks; last_report = None } in
    subst (λ (last_report : Option Report). IsFollowed (On.Tenant t (Command.Take c.args.number)) (Say.Object c.args.place) w c.args.self.now (record new { last_report = last_report })) (sym c.forget.ensures)
    (followed (On.Tenant t (Command.Take c.args.number)) (Say.Object c.args.place) w x c.args.self.now new c.self.view_is (c.in_ok-cache.ensures.judged t w)
    (λ kept. taken t c.args.number c.args.place w c.in_ok-cache.cache.now x c.take.new.self c.take-2.new.self c.set_mark.new.marks (ap (λ (y : Seen). known_cache y.has c.args.number) c.self.view_is ∙ c.in_ok-cache.ensures.is) kept c.in_ok-take.ensures.taken
    (c.take-2.ensures c.in_ok-cache.cache.now (sym c.number-own_number.ensures) (sym c.size-size.ensures.value) (sym c.slab_around-slab.ensures)) c.set_mark.ensures))

pub set_mark-requires : goal.set_mark-requires
set_mark-requires c = number_low c.self.inside.held c.args.number c.in_ok-cache.cache.now c.self.invariant.numbered
    (ap (λ (y : Seen). known_cache y.has c.args.number) c.self.view_is ∙ c.in_ok-cache.ensures.is)
