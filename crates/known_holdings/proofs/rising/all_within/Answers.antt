use Rattle.std.proofs.Common.{◌-◌, length, take, drop, sym, ap, ◌∙◌, arith, length-drop}
use Rattle.std.specs.List.{prefix_len}
use Rattle.std.proofs.lemmas.List.{take_all}
use Rattle.known_holdings.proofs.RisingKeys.{all_within, is_below}
use Rattle.known_holdings.proofs.rising.all_within.Goals as goal

pub returns : goal.returns
returns g c =
    let xs = c.args.items.now in
    let key = g.T.Keyed.key in
    let from = take_all (length xs - c.count_below.result) (drop c.count_below.result xs) (omega (arith, length-drop c.count_below.result xs)) in
    ap (λ n. take n (take (length xs - c.count_below.result) (drop c.count_below.result xs))) c.count_below_near.ensures.value
    ∙ ap (λ ys. take (prefix_len (is_below key c.args.end) ys) ys) (from ∙ ap (λ n. drop n xs) c.count_below.ensures.value)
    ∙ sym (all_within key c.args.low c.args.end xs c.requires)
