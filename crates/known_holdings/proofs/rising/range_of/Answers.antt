use Rattle.std.proofs.Common.{◌≡◌, ℕ, ◌+◌, ◌-◌, ◌++◌, length, take, drop, sym, ap, ◌∙◌, arith, length-drop}
use Rattle.std.specs.List.{prefix_len}
use Rattle.std.proofs.lemmas.List.{take_all, drop-drop}
use Rattle.known_holdings.proofs.RisingKeys.{others_kept, is_below}
use Rattle.known_holdings.proofs.rising.range_of.Goals as goal

pub returns-clause-others : goal.returns-clause-others
returns-clause-others g c = let v = c.count_below_near.ensures.value in
    let xs = c.args.items.now in
    let key = g.T.Keyed.key in
    let b : ℕ = c.count_below-begin.result in
    let n : ℕ = c.count_below_near.result in
    let begin : b ≡ prefix_len (is_below key c.args.key) xs = c.count_below-begin.ensures.value ∙ ap (λ k. prefix_len (is_below key k) xs) c.from-key.ensures in
    let count : n ≡ prefix_len (is_below key (c.args.key + 1)) (drop b xs) = c.count_below_near.ensures.value
    ∙ ap (λ k. prefix_len (is_below key (k + 1)) (take (length xs - b) (drop b xs))) c.from-key.ensures
    ∙ ap (prefix_len (is_below key (c.args.key + 1))) (take_all (length xs - b) (drop b xs) (omega (arith, length-drop b xs))) in
    others_kept key c.args.key xs c.requires
    ∙ ap (λ m. take m xs ++ drop (prefix_len (is_below key (c.args.key + 1)) (drop m xs)) (drop m xs)) (sym begin)
    ∙ ap (λ m. take b xs ++ drop m (drop b xs)) (sym count)
    ∙ ap (λ ys. take b xs ++ ys) (drop-drop n b xs)
