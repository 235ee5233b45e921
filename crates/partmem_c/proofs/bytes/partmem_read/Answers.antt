use Rattle.std.proofs.Common.{◌≢◌, ℕ, Some, None, length, drop, refl, subst, sym, ap, ◌∙◌, rules}
use Rattle.words_core.specs.declared.event.Event.TheVariants.{Tenant}
use Rattle.words_core.specs.declared.event.Command.TheVariants.{Read}
use Rattle.kernel_core.specs.Steps.{Steps}
use Rattle.partmem_c.specs.declared.status.TheConstants.{DONE}
use Rattle.partmem_c.specs.Events.{answered_bytes}
use Rattle.partmem_c.specs.Calls.{read_length, call_status}
use Rattle.partmem_c.proofs.ReadLemmas.{nothing_read, read_not_past, refused_reads_nothing}
use Rattle.partmem_c.proofs.bytes.partmem_read.Goals as goal

pub returns-in_default-clause-read : goal.returns-in_default-clause-read
returns-in_default-clause-read c = record {
  reply = None;
  replies = search rules;
  returns = (search rules, sym (nothing_read c.args.to.now));
}

pub returns-clause-read : goal.returns-clause-read
returns-clause-read c =
    let said = c.read-numbers.ensures in let old = c.in-Some.kernel.now in let new = c.read-numbers.new.kernel in let t = c.args.tenant in let place = c.args.place in
    let len = read_length (length c.args.to.now) in record {
      reply = Some said.reply;
      replies = record {
        before = old;
        after = new;
        was = c.in-Some.ensures.value;
        is = refl;
        steps = subst (λ (n : ℕ). Steps old (Tenant t (Read place n)) new said.reply) c.length_of-len.ensures said.steps;
      };
      returns = (c.call_status-2.ensures ∙ ap (λ n. call_status (Some n)) said.are, said.over);
    }

pub returns-clause-few : goal.returns-clause-few
returns-clause-few c =
    let said = c.read-numbers.ensures in
    ap (λ bytes. drop 64 bytes) said.over ∙ read_not_past 64 (answered_bytes said.reply.body) c.args.to.now said.few

pub returns-clause-not_done : goal.returns-clause-not_done
returns-clause-not_done c = λ failed.
    let said = c.read-numbers.ensures in
    said.over ∙ refused_reads_nothing said.reply.body c.args.to.now
    (subst (λ (n : ℕ). n ≢ DONE) (c.call_status-2.ensures ∙ ap (λ n. call_status (Some n)) said.are) failed)
