use Rattle.std.proofs.Common.{◌+◌, ◌*◌, ◌^◌, ◌&&◌, [], ◌∷◌, ap, ◌∙◌, ◌-◌, ◌%◌}
use Rattle.std.specs.Prelude.{◌==◌, is_none, nat_le}
use Rattle.words_core.specs.declared.event.Event.TheVariants as On
use Rattle.words_core.specs.declared.event.Command.TheVariants as Command
use Rattle.words_core.specs.declared.reply.Body.TheVariants as Say
use Rattle.promise_core.specs.declared.promise.Promise.{Promise}
use Rattle.promise_core.specs.State.{state_after}
use Rattle.reply_judge.specs.Judged.{broken, known_at}
use Rattle.reply_judge.specs.Seen.{Seen, state_of}
use Rattle.promise_core.specs.Promises.{new_layout}
use Rattle.reply_judge.proofs.tenant.Tenant.judge_layout.Goals as goal

pub returns-in-Some : goal.returns-in-Some
unfolding state_after
returns-in-Some c t p w = let l = c.args.layout.now in
    ap (λ d. broken ((Promise.Refusals, is_none d) ∷ (
      Promise.Layout,
      new_layout (On.Tenant t (Command.Cache l.size l.align p)) (Say.Cache c.args.number l.chunk l.order l.count l.colours) (known_at c.args.self.now w) (state_of c.args.self.now),
    ) ∷ [])) (c.in-Some.ensures.value t p w)

pub returns-in-None : goal.returns-in-None
unfolding state_after
returns-in-None c t p w = let l = c.args.layout.now in
    let fits = c.fits.ensures ∙ ap (λ k. (nat_le l.size l.chunk && (l.chunk % l.align == 0 && nat_le l.order k)) && ((nat_le 1 l.count && nat_le 1 l.colours)
    && nat_le (l.align * (l.colours - 1) + l.count * l.chunk) (4096 * 2 ^ l.order))) (c.order.ensures.value ∙ ap (λ (y : Seen). y.left.order) c.self.view_is) in
    c.on_answer.ensures ∙ (λ i. broken ((Promise.Refusals, is_none (c.in-None.ensures.value t p w i))
    ∷ (Promise.Layout, (c.both-is_right.ensures ∙ (λ j. c.is_new_cache.ensures j && fits j)) i) ∷ []))
