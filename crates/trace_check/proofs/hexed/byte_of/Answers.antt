use Rattle.std.proofs.Common.{◌≡◌, ◌/◌, ◌%◌, Some, None, ap, arith}
use Rattle.std.proofs.lemmas.Option.{same_Some}
use Rattle.trace_check.proofs.HexLemmas.{pair_is, pair_parts}
use Rattle.trace_check.proofs.hexed.byte_of.Goals as goal

pub returns-in_err-digit_of-clause-only : goal.returns-in_err-digit_of-clause-only
returns-in_err-digit_of-clause-only c byte below is =
    let no : None ≡ Some (byte / 16) = c.in_err-digit_of.ensures.only (byte / 16) (omega (arith, below)) (pair_parts byte c.args.pair.now is).0 in absurd cc

pub returns-in_err-digit_of-2-clause-only : goal.returns-in_err-digit_of-2-clause-only
returns-in_err-digit_of-2-clause-only c byte below is =
    let no : None ≡ Some (byte % 16) = c.in_err-digit_of-2.ensures.only (byte % 16) (omega arith) (pair_parts byte c.args.pair.now is).1 in absurd cc

pub returns-clause-found : goal.returns-clause-found
returns-clause-found c =
    let high = c.in_ok-digit_of.ensures.found in
    let low = c.in_ok-digit_of-2.ensures.found in
    pair_is c.in_ok-digit_of.field-0 c.in_ok-digit_of-2.field-0 c.args.pair.now c.told-pair high.0 low.0 high.1 low.1

pub returns-clause-only : goal.returns-clause-only
returns-clause-only c byte below is =
    let parts = pair_parts byte c.args.pair.now is in
    let high : c.in_ok-digit_of.field-0 ≡ byte / 16 = same_Some _ _ (c.in_ok-digit_of.ensures.only (byte / 16) (omega (arith, below)) parts.0) in
    let low : c.in_ok-digit_of-2.field-0 ≡ byte % 16 = same_Some _ _ (c.in_ok-digit_of-2.ensures.only (byte % 16) (omega arith) parts.1) in
    ap (λ n. Some n) (omega (arith, high, low))
