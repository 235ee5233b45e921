use Rattle.std.proofs.Common.{◌≡◌, List, [], ℕ, ap, sym, ◌∙◌, arith}
use Rattle.std.proofs.Math.ListN.{set}
use Rattle.std.proofs.lemmas.Bool.Decides.{nat_tests}
use Rattle.std.proofs.lemmas.List.{nil_from_length}
use Rattle.space_core.specs.Storage.{or_zeros}
use Rattle.space_core.proofs.TableLemmas.{lists_of, get_or-lists_of, lists_of-set}
use Rattle.space_core.proofs.banks.write_out.Goals as goal

pub returns-then-is_empty-clause-banks : goal.returns-then-is_empty-clause-banks
returns-then-is_empty-clause-banks c =
    let banks = c.args.banks.now.items in
    let read = c.index.result.now in
    let none : read.items ≡ [] = nil_from_length read.items (sym read.ok.0 ∙ grind (arith, nat_tests)) in
    let here = get_or-lists_of banks c.args.m read (omega (arith, c.args.banks.now.ok.0, c.requires.bank)) c.index.ensures ∙ none in
    lists_of-set banks c.args.m c.zero_fill.new.bytes
    ∙ ap (λ (bytes : List ℕ). set (lists_of banks) c.args.m bytes) (c.zero_fill.ensures.items ∙ ap (or_zeros c.args.unit) (sym here))
