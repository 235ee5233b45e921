use Rattle.std.proofs.Common.{◌*◌, ◌^◌, ◌≤◌, arith}
use Rattle.std.proofs.Math.Nat.{mul-le-mul}
use Rattle.std.proofs.Math.Pow.{pow_mono}
use Rattle.frame_picture.proofs.stacks.frames_of_blocks.Goals as goal

pub returns-clause-few : goal.returns-clause-few
returns-clause-few c =
    let low : c.args.order ≤ 10 = omega (arith, c.requires) in
    let powers : 2 ^ c.args.order ≤ 2 ^ 10 = pow_mono low in
    let few : c.from.result ≤ 2 ^ 32 = omega (arith, c.from.ensures) in
    let most : c.from.result * 2 ^ c.args.order ≤ 2 ^ 32 * 2 ^ 10 = mul-le-mul few powers in
    omega (arith, most)
