use Rattle.std.proofs.Common.{List, ℕ, ap, ◌∙◌}
use Rattle.std.proofs.Math.ListN.{set}
use Rattle.space_core.proofs.TableLemmas.{lists_of, lists_of-set}
use Rattle.space_core.proofs.banks.clear_bank.Goals as goal

pub returns-clause-bytes : goal.returns-clause-bytes
returns-clause-bytes c =
    let banks = c.args.banks.now.items in
    lists_of-set banks c.args.m c.clear.new.self ∙ ap (λ (bytes : List ℕ). set (lists_of banks) c.args.m bytes) c.clear.ensures.items
