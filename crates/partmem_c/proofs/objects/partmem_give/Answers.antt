use Rattle.std.proofs.Common.{◌≡◌, ℕ, Some, Result, Ok, Err, IfOk, IfErr, refl}
use Rattle.words_core.specs.Texts.{number_of_refusal}
use Rattle.words_core.specs.declared.reply.Body.TheVariants.{Given}
use Rattle.words_core.specs.declared.reply.Refusal.{Refusal}
use Rattle.words_core.specs.declared.reply.Reply.{Reply}
use Rattle.kernel_core.specs.Content.{KernelContent}
use Rattle.kernel_core.specs.Lending.{reply_for}
use Rattle.kernel_core.specs.Steps.{body_of}
use Rattle.partmem_c.specs.declared.status.TheConstants.{DONE}
use Rattle.partmem_c.specs.Calls.{numbers_in_reply, call_status}
use Rattle.partmem_c.proofs.objects.partmem_give.Goals as goal

abbrev give_reply : KernelContent → ℕ → Result (Unit {0}) Refusal → Reply
give_reply k t outcome = reply_for k t (body_of (λ done. Given) outcome)

given_returned : (k : KernelContent) (t : ℕ) (outcome : Result (Unit {0}) Refusal) (status : ℕ) → IfOk outcome (λ given. status ≡ DONE)
    → IfErr outcome (λ refusal. status ≡ number_of_refusal refusal) → status ≡ call_status (numbers_in_reply (Some (give_reply k t outcome)))
given_returned k t (Ok given) status done refused = done
given_returned k t (Err refusal) status done refused = refused

pub returns : goal.returns
returns c =
    let old = c.in-Some.kernel.now in let new = c.give_object-outcome.new.self in let t = c.args.tenant in
    let outcome = c.give_object-outcome.result in let reply = give_reply old t outcome in record {
      reply = Some reply;
      replies = record {
        before = old;
        after = new;
        was = c.in-Some.ensures.value;
        is = refl;
        steps = c.give_object-outcome.ensures;
      };
      returns = given_returned old t outcome c.status_of.result c.status_of.ensures.done c.status_of.ensures.refused;
    }
