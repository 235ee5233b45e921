use Rattle.std.proofs.Common.{sym, rules}
use Rattle.words_core.specs.declared.reply.Addressee.TheVariants.{Nobody}
use Rattle.words_core.specs.declared.reply.Body.TheVariants.{Refused}
use Rattle.words_core.specs.declared.reply.Refusal.TheVariants.{NoTenant}
use Rattle.partmem_c.proofs.ReadLemmas.{nothing_read}
use Rattle.partmem_c.proofs.bytes.read.Goals as goal

pub returns-in-None : goal.returns-in-None
returns-in-None c = record {
  reply = record { addressee = Nobody; body = Refused NoTenant };
  steps = search rules;
  are = search rules;
  few = search rules;
  over = sym (nothing_read c.args.to.now);
}
