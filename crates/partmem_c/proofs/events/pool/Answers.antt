use Rattle.std.proofs.Common.{refl}
use Rattle.words_core.specs.declared.reply.Addressee.TheVariants.{Admin}
use Rattle.words_core.specs.declared.reply.Body.TheVariants.{Owners}
use Rattle.partmem_c.proofs.events.pool.Goals as goal

pub returns : goal.returns
returns c = λ buffer. record {
  reply = record { addressee = Admin; body = Owners (record { items = c.owners.result.now }) };
  steps = c.owners.ensures.steps;
  are = c.numbers_of_owners.ensures;
  over = refl;
}
