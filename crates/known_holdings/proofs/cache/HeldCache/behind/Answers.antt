use Rattle.std.proofs.Common.{◌-◌, length, drop, ap, ◌∙◌, arith, length-drop}
use Rattle.std.specs.Prelude.{nat_lt}
use Rattle.std.specs.List.{prefix_len}
use Rattle.std.proofs.lemmas.List.{take_all}
use Rattle.known_holdings.proofs.cache.HeldCache.behind.Goals as goal

pub returns : goal.returns
returns c =
    let xs = c.args.places.now in
    let n = c.count_below_near.result in
    take_all (length xs - n) (drop n xs) (omega (arith, length-drop n xs))
    ∙ ap (λ m. drop m xs) (c.count_below_near.ensures.value ∙ ap (λ b. prefix_len (λ p. nat_lt p b) xs) c.end_byte.ensures.value)
