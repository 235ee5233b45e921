use Rattle.std.proofs.Common.{◌+◌, [], ◌∷◌, refl, arith}
use Rattle.quick_core.specs.Pairs.{Decodes}
use Rattle.quick_core.proofs.DecodeLemmas.{decodes_more}
use Rattle.quick_core.proofs.decode.four_pairs_at.Goals as goal

pub returns : goal.returns
returns c =
    let text = c.args.bytes.now in
    let at = c.args.at in
    let a = c.pair_at-first.result in
    let b = c.pair_at-second.result in
    let d = c.pair_at-third.result in
    let e = c.pair_at-fourth.result in
    let two : Decodes text at (at + 4) (a ∷ b ∷ []) =
    decodes_more text at (at + 2) (at + 2 + 2) (at + 4) (a ∷ []) (b ∷ []) (a ∷ b ∷ []) (omega arith) (omega arith) (omega arith)
    (c.pair_at-first.ensures.decoded (omega arith)) (c.pair_at-second.ensures.decoded (omega arith)) refl in
    let three : Decodes text at (at + 6) (a ∷ b ∷ d ∷ []) =
    decodes_more text at (at + 4) (at + 4 + 2) (at + 6) (a ∷ b ∷ []) (d ∷ []) (a ∷ b ∷ d ∷ []) (omega arith) (omega arith) (omega arith)
    two (c.pair_at-third.ensures.decoded (omega arith)) refl in
    decodes_more text at (at + 6) (at + 6 + 2) (at + 8) (a ∷ b ∷ d ∷ []) (e ∷ []) (a ∷ b ∷ d ∷ e ∷ []) (omega arith) (omega arith) (omega arith)
    three (c.pair_at-fourth.ensures.decoded (omega arith)) refl
