use Rattle.std.proofs.Common.{◌+◌, ◌<◌, get_or, refl, arith}
use Rattle.quick_core.proofs.DecodeLemmas.{tabled_pair, high_few, low_few, decodes_pair}
use Rattle.quick_core.proofs.decode.pair_at.Goals as goal

pub overflow_add-result-2 : goal.overflow_add-result-2
overflow_add-result-2 c =
    let a = get_or c.args.bytes.now c.args.at 0 in
    let b = get_or c.args.bytes.now (c.args.at + 1) 0 in
    let a_byte : a < 256 = omega (arith, c.type_inv.bytes c.args.at) in
    let b_byte : b < 256 = omega (arith, c.type_inv.bytes (c.args.at + 1)) in
    omega (arith, high_few a a_byte, low_few b b_byte)

pub returns-clause-decoded : goal.returns-clause-decoded
returns-clause-decoded c small =
    let a = get_or c.args.bytes.now c.args.at 0 in
    let b = get_or c.args.bytes.now (c.args.at + 1) 0 in
    let a_byte : a < 256 = omega (arith, c.type_inv.bytes c.args.at) in
    let b_byte : b < 256 = omega (arith, c.type_inv.bytes (c.args.at + 1)) in
    decodes_pair c.args.bytes.now c.args.at _ (omega arith) (tabled_pair a b _ a_byte b_byte refl small).1

pub returns-clause-byte : goal.returns-clause-byte
returns-clause-byte c small =
    let a = get_or c.args.bytes.now c.args.at 0 in
    let b = get_or c.args.bytes.now (c.args.at + 1) 0 in
    let a_byte : a < 256 = omega (arith, c.type_inv.bytes c.args.at) in
    let b_byte : b < 256 = omega (arith, c.type_inv.bytes (c.args.at + 1)) in
    (tabled_pair a b _ a_byte b_byte refl small).0

pub returns-clause-few : goal.returns-clause-few
returns-clause-few c =
    let a = get_or c.args.bytes.now c.args.at 0 in
    let b = get_or c.args.bytes.now (c.args.at + 1) 0 in
    let a_byte : a < 256 = omega (arith, c.type_inv.bytes c.args.at) in
    let b_byte : b < 256 = omega (arith, c.type_inv.bytes (c.args.at + 1)) in
    omega (arith, high_few a a_byte, low_few b b_byte)
