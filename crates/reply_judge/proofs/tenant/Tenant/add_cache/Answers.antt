use Rattle.std.proofs.Common.{◌≤◌, ap, sym, subst, ◌∙◌}
use Rattle.model_core.specs.declared.limits.TheConstants.{MAX_ORDER}
use Rattle.words_core.specs.declared.event.Event.TheVariants as On
use Rattle.words_core.specs.declared.event.Command.TheVariants as Command
use Rattle.words_core.specs.declared.reply.Body.TheVariants as Say
use Rattle.promise_core.specs.Holdings.{known_cache, has_slot}
use Rattle.reply_judge.specs.Seen.{Seen}
use Rattle.reply_judge.proofs.SoundVerdicts.{sound_in, followed}
use Rattle.reply_judge.proofs.NewCacheLayout.{cut_where_allowed, new_where_allowed}
use Rattle.reply_judge.proofs.KnownAfterCommand.{nothing, changed, made}
use Rattle.reply_judge.proofs.tenant.Tenant.add_cache.Goals as goal

pub invariant_of-self-2 : goal.invariant_of-self-2
invariant_of-self-2 c =
    let x : Seen = record { has = c.self.inside.held; left = c.self.inside.left; may_have_empty = c.self.inside.may_have_empty; last_report = c.self.inside.last_report } in
    let new : Seen = changed x c.make_cache.new.self x.left in
    sound_in (On.Tenant 0 (Command.Cache c.args.layout.size c.args.layout.align c.args.pattern.now)) (Say.Cache c.args.number c.args.layout.chunk c.args.layout.order c.args.layout.count c.args.layout.colours) nothing x c.args.self.now new c.self.view_is c.self.invariant (c.in_ok-judge_layout.ensures 0 c.args.pattern.now nothing)
    (λ kept. made 0 c.args.layout.size c.args.layout.align c.args.pattern.now c.args.number c.args.layout.chunk c.args.layout.order c.args.layout.count c.args.layout.colours nothing c.new.result x c.make_cache.new.self c.new.ensures kept c.in_ok-make_cache.ensures.made)
    (λ u. c.self.invariant.slots u ∙ sym (ap (λ h. has_slot h u) c.in_ok-make_cache.ensures.made))

pub returns : goal.returns
returns c t w =
    let x : Seen = record { has = c.self.inside.held; left = c.self.inside.left; may_have_empty = c.self.inside.may_have_empty; last_report = c.self.inside.last_report } in
    let new : Seen = changed x c.make_cache.new.self x.left in
    followed (On.Tenant t (Command.Cache c.args.layout.size c.args.layout.align c.args.pattern.now)) (Say.Cache c.args.number c.args.layout.chunk c.args.layout.order c.args.layout.count c.args.layout.colours) w x c.args.self.now new c.self.view_is (c.in_ok-judge_layout.ensures t c.args.pattern.now w)
    (λ kept. made t c.args.layout.size c.args.layout.align c.args.pattern.now c.args.number c.args.layout.chunk c.args.layout.order c.args.layout.count c.args.layout.colours w c.new.result x c.make_cache.new.self c.new.ensures kept c.in_ok-make_cache.ensures.made)

pub new-requires : goal.new-requires
new-requires c = cut_where_allowed c.args.layout.size c.args.layout.align 0 c.args.number c.args.layout.chunk c.args.layout.order c.args.layout.count c.args.layout.colours c.args.pattern.now nothing c.args.self.now
    (subst (λ (y : Seen). y.left.order ≤ MAX_ORDER) c.self.view_is c.self.invariant.sized) (sym (c.in_ok-judge_layout.ensures 0 c.args.pattern.now nothing))

pub make_cache-requires : goal.make_cache-requires
make_cache-requires c = ap (λ y. known_cache c.self.inside.held y.number) c.new.ensures ∙ (ap (λ (y : Seen). known_cache y.has c.args.number) c.self.view_is
    ∙ new_where_allowed c.args.layout.size c.args.layout.align 0 c.args.number c.args.layout.chunk c.args.layout.order c.args.layout.count c.args.layout.colours c.args.pattern.now nothing c.args.self.now
    (sym (c.in_ok-judge_layout.ensures 0 c.args.pattern.now nothing)))
