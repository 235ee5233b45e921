use Rattle.std.proofs.Common.{◌≡◌, ◌≢◌, ◌<◌, [], length, get_or, ap, refl, sym, subst, ◌∙◌, arith}
use Rattle.std.proofs.lemmas.Bool.Decides.{nat_tests}
use Rattle.std.proofs.lemmas.List.{nil_from_length}
use Rattle.space_core.specs.Storage.{or_zeros}
use Rattle.space_core.specs.contracts.Space.{the_view}
use Rattle.space_core.proofs.TableLemmas.{lists_of, get_or-lists_of, length-lists_of}
use Rattle.space_core.proofs.StoredBytes.{full-from_length, length-shown, bank-shown, shown-read, length-shown_read}
use Rattle.space_core.proofs.Space.bytes.Goals as goal

pub returns-then-is_empty-clause-value : goal.returns-then-is_empty-clause-value
returns-then-is_empty-clause-value c =
    let within = rw (← c.self.view_is) at c.requires in
    let s = the_view c.self.inside in
    let facts = c.self.invariant.0 in
    let banks = c.self.inside.banks.items in
    let read = c.index.result.now in
    let there : c.args.m < length (lists_of banks) = omega (arith, facts.paired, length-shown s.unit (lists_of banks)) in
    let short : c.args.m < length banks = omega (arith, length-lists_of banks) in
    let none : read.items ≡ [] = nil_from_length read.items (ap length (sym c.as_slice-stored.ensures.value) ∙ grind (arith, nat_tests)) in
    rw (← c.self.view_is) (
    c.as_slice.ensures.value ∙ (c.self.invariant.1.blank ∙ sym (bank-shown s.unit (lists_of banks) c.args.m there ∙ ap (or_zeros s.unit) (get_or-lists_of banks c.args.m read short c.index.ensures ∙ none)))
    )

pub returns-else-is_empty : goal.returns-else-is_empty
returns-else-is_empty c =
    let within = rw (← c.self.view_is) at c.requires in
    let s = the_view c.self.inside in
    let facts = c.self.invariant.0 in
    let banks = c.self.inside.banks.items in
    let read = c.index.result.now in
    let short : c.args.m < length banks = omega (arith, facts.paired, length-shown s.unit (lists_of banks), length-lists_of banks) in
    let some : 0 < length c.as_slice-stored.result.now = grind (arith, nat_tests) in
    let full : get_or (lists_of banks) c.args.m [] ≢ [] = subst (λ xs. xs ≢ []) (sym (get_or-lists_of banks c.args.m read short c.index.ensures)) (full-from_length read.items (omega (arith, ap length c.as_slice-stored.ensures.value))) in
    let here = shown-read s.unit banks c.args.m read short c.index.ensures full in
    rw (← c.self.view_is) (record {
      value = c.as_slice-stored.ensures.value ∙ sym here;
      len = ap length c.as_slice-stored.ensures.value ∙ length-shown_read facts banks refl c.args.m read within here;
    })
