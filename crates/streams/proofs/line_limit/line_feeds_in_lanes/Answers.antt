use Rattle.std.proofs.Common.{◌==◌, ◌∙◌, count_by, take, length, w8, ap, arith}
use Rattle.std.proofs.lemmas.List.{take_all}
use Rattle.std.proofs.lemmas.Simd.{bitmask_splat, ones-mask_l}
use Rattle.std.specs.Int.RustNames.{count_ones}
use Rattle.streams.proofs.line_limit.line_feeds_in_lanes.Goals as goal

pub returns : goal.returns
returns c =
    let whole = take_all 16 c.args.bytes.now (omega arith) in
    ap count_ones (bitmask_splat w8 (λ a b. a == b) (take 16 c.args.bytes.now) 16 10 (ap length whole ∙ c.requires) (omega arith))
    ∙ ones-mask_l (λ b. b == 10) (take 16 c.args.bytes.now) ∙ ap (count_by (λ b. b == 10)) whole
