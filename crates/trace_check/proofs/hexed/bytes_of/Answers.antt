use Rattle.std.proofs.Common.{◌≡◌, ℕ, ◌++◌, List, [], Some, None, length, take, ap, sym, subst, ◌∙◌, arith, append-nil, length-append, take-append-drop}
use Rattle.std.proofs.lemmas.List.{length-set, nil_from_length, take_more_set}
use Rattle.std.proofs.lemmas.Bool.{eqb-true}
use Rattle.hex.specs.Hex.{encode_lower, IsBytes}
use Rattle.trace_check.proofs.HexLemmas.{none_yet, byte_more, bytes_more, word_is, no_word}
use Rattle.trace_check.proofs.hexed.bytes_of.Goals as goal

pub pairs-init : goal.pairs-init
pairs-init c = record {
  text = none_yet c.args.word.now;
  size = omega arith;
  bytes = λ i. omega arith;
  full = c.told-buffer;
}

pub returns-in_err-buffer-clause-value : goal.returns-in_err-buffer-clause-value
returns-in_err-buffer-clause-value c =
    let parts = c.in-Some.ensures.cases in
    let cut : c.in-Some.pair.now ++ c.in-Some.behind.now ≡ c.pairs.rest.now = (λ t. parts.0 t ++ parts.1 t) ∙ take-append-drop 2 c.pairs.rest.now in
    let two : length c.in-Some.pair.now ≡ 2 = omega (arith, parts.2, ap (λ (t : List ℕ). length t) cut, length-append c.in-Some.pair.now c.in-Some.behind.now) in
    rw c.from_residual.ensures
    (no_word c.args.word.now (take c.pairs.count c.pairs.buffer) c.in-Some.pair.now c.in-Some.behind.now two
    (ap (λ t. encode_lower (take c.pairs.count c.pairs.buffer) ++ t) cut ∙ c.pairs.invariant.text)
    (λ byte below is. let no : None ≡ Some byte = c.in_err-buffer.ensures.only byte below is in cc))

pub pairs-preserved : goal.pairs-preserved
pairs-preserved c =
    let parts = c.in-Some.ensures.cases in
    let cut : c.in-Some.pair.now ++ c.in-Some.behind.now ≡ c.pairs.rest.now = (λ t. parts.0 t ++ parts.1 t) ∙ take-append-drop 2 c.pairs.rest.now in
    let more = take_more_set c.pairs.buffer c.pairs.count c.in_ok-buffer.field-0 (omega (arith, c.pairs.invariant.full, c.pairs.invariant.size, parts.2, c.if-word.false)) in
    record {
      text = ap (λ t. encode_lower t ++ c.in-Some.behind.now) more
          ∙ byte_more (take c.pairs.count c.pairs.buffer) c.pairs.rest.now c.in-Some.pair.now c.in-Some.behind.now c.args.word.now c.in_ok-buffer.field-0
          c.pairs.invariant.text cut c.in_ok-buffer.ensures.found;
      size = omega (arith, c.pairs.invariant.size, parts.2);
      bytes = subst IsBytes (sym more) (bytes_more (take c.pairs.count c.pairs.buffer) c.in_ok-buffer.field-0 c.pairs.invariant.bytes (omega arith));
      full = length-set c.pairs.buffer c.pairs.count c.in_ok-buffer.field-0 ∙ c.pairs.invariant.full;
    }

pub returns-then-is_empty-clause-value : goal.returns-then-is_empty-clause-value
returns-then-is_empty-clause-value c =
    let bytes = take c.pairs.count c.pairs.buffer in
    let none : c.pairs.rest.now ≡ [] = nil_from_length c.pairs.rest.now (eqb-true (length c.pairs.rest.now) 0 (sym c.is_empty.ensures ∙ c.if-is_empty.true)) in
    word_is c.args.word.now bytes c.if-word.false c.pairs.invariant.bytes
    (sym (append-nil (encode_lower bytes)) ∙ ap (λ t. encode_lower bytes ++ t) (sym none) ∙ c.pairs.invariant.text)
