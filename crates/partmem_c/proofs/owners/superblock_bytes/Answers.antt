use Rattle.std.proofs.Common.{◌≡◌, ℕ, ◌*◌, ◌^◌, min, ap, ◌∙◌, arith}
use Rattle.partmem_c.proofs.owners.superblock_bytes.Goals as goal

pub returns : goal.returns
returns c =
    let few = c.parts_agree.ensures.order in
    let least : min c.order.result 10 ≡ c.args.kernel.now.order = omega (arith, c.order.ensures, few) in
    c.block_bytes.ensures ∙ ap (λ (n : ℕ). 4096 * 2 ^ n) least
