use Rattle.std.proofs.Common.{◌≡◌, Option, Some, MatchOption, refl, subst, ap}
use Rattle.words_core.specs.Requests.{reply_to}
use Rattle.words_core.specs.declared.answer.Answer.{Answer}
use Rattle.words_core.specs.declared.event.AdminCommand.TheVariants.{Pool}
use Rattle.words_core.specs.declared.event.Event.TheVariants as On
use Rattle.words_core.specs.declared.reply.Addressee.TheVariants as To
use Rattle.kernel_core.specs.Steps.{Steps}
use Rattle.partmem_c.proofs.calls.run_admin_command.Goals as goal

pub returns : goal.returns
returns c =
    let old = c.in-Some.kernel.now in let new = c.administer.new.self in
    let steps = subst (λ (o : Option Answer). MatchOption o ((c.args.command ≡ Pool) × (new ≡ old))
    (λ answer. Steps old (On.Admin c.args.command) new (reply_to To.Admin answer))) c.unwrap.ensures c.administer.ensures.steps in record {
      reply = Some (reply_to To.Admin c.unwrap.result);
      replies = record {
        before = old;
        after = new;
        was = c.in-Some.ensures.value;
        is = refl;
        steps = steps;
      };
      returns = ap (λ n. Some n) c.numbers_of_answer-numbers.ensures;
    }
