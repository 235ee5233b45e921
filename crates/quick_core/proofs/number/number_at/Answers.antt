use Rattle.std.proofs.Common.{◌≡◌, ◌≤◌, ◌∙◌, ◌+◌, ◌*◌, true, ap, arith, get_or}
use Rattle.std.specs.Char.{is_ascii_digit}
use Rattle.quick_core.proofs.NumberLemmas.{small, value_more, digits_more, below_more}
use Rattle.quick_core.proofs.number.number_at.Goals as goal

pub overflow_mul-value : goal.overflow_mul-value
overflow_mul-value c = omega (arith, small c.loop-count.value c.loop-count.count c.loop-count.invariant.below (omega arith))

pub overflow_add-value : goal.overflow_add-value
overflow_add-value c =
    omega (arith, small c.loop-count.value c.loop-count.count c.loop-count.invariant.below (omega arith))

pub loop-count-preserved : goal.loop-count-preserved
loop-count-preserved c =
    let low : c.digit_of-digit.result ≤ 9 = omega arith in
    let digit : is_ascii_digit (get_or c.args.bytes.now (c.args.from + c.loop-count.count) 0) ≡ true = c.digit_of-digit.ensures.digit low in
    record {
      value = ap (λ n. c.loop-count.value * 10 + n) (c.digit_of-digit.ensures.value low)
          ∙ value_more c.args.bytes.now c.args.from c.loop-count.count c.loop-count.value (omega arith) c.loop-count.invariant.value;
      digits = digits_more c.args.bytes.now c.args.from c.loop-count.count (omega arith) c.loop-count.invariant.digits digit;
      below = below_more c.loop-count.value c.loop-count.count c.digit_of-digit.result c.loop-count.invariant.below (omega arith);
    }
