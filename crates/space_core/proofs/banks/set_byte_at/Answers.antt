use Rattle.std.proofs.Common.{List, ℕ, ap, sym, ◌∙◌, arith}
use Rattle.std.proofs.Math.ListN.{set}
use Rattle.space_core.proofs.TableLemmas.{lists_of, get_or-lists_of, lists_of-set}
use Rattle.space_core.proofs.banks.set_byte_at.Goals as goal

pub returns-clause-bytes : goal.returns-clause-bytes
returns-clause-bytes c =
    let banks = c.args.banks.now.items in
    let here = get_or-lists_of banks c.args.m c.index_mut.result.now (omega (arith, c.args.banks.now.ok.0, c.requires.bank)) c.index_mut.ensures.value in
    lists_of-set banks c.args.m _ ∙ ap (λ (bytes : List ℕ). set (lists_of banks) c.args.m (set bytes c.args.i c.args.byte)) (sym here)
