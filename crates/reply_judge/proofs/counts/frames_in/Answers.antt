use Rattle.std.proofs.Common.{◌*◌, ◌%◌, ◌^◌, ◌≡◌, ◌≤◌, arith}
use Rattle.std.proofs.Math.Nat.{mul-le-mul_left}
use Rattle.std.proofs.Math.Pow.{pow_mono}
use Rattle.std.proofs.lemmas.Nat.{one_shl}
use Rattle.reply_judge.proofs.counts.frames_in.Goals as goal

pub returns-clause-most : goal.returns-clause-most
returns-clause-most c =
    let size : 2 ^ c.args.order ≤ 2 ^ 10 = pow_mono {i = c.args.order} {j = 10} (omega arith) in
    let shifted : (1 * 2 ^ c.args.order) % 2 ^ 64 ≡ 2 ^ c.args.order = one_shl c.args.order 64 (omega arith) in
    let product : c.from.result * 2 ^ c.args.order ≤ c.from.result * 2 ^ 10 = mul-le-mul_left c.from.result size in
    rw shifted (omega (arith, product, c.from.ensures))
