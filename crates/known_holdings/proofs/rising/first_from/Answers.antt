use Rattle.std.proofs.Common.{◌≡◌, ℕ, Bor, List, length, get_or, Option, Some, None, true, ltb, take, drop, ap, sym, ◌∙◌}
use Rattle.std.specs.Prelude.{find, IfSome}
use Rattle.std.specs.Option.{is_some, option_copied}
use Rattle.std.proofs.lemmas.Bool.{ltb-true, ltb-false}
use Rattle.std.proofs.lemmas.List.{at_drop_more, at_drop_all}
use Rattle.known_holdings.proofs.RisingKeys.{found_from}
use Rattle.known_holdings.proofs.rising.first_from.Goals as goal

got : {X : Type 0} (xs : List X) (n : ℕ) (o : Option (Bor X)) → is_some o ≡ ltb n (length xs) → IfSome o (λ x. x.now ≡ get_or xs n x.now)
    → option_copied o ≡ find (λ x. true) (take 1 (drop n xs))
got xs n None there is = sym (at_drop_all (λ ys. find (λ x. true) (take 1 ys)) xs n (ltb-false _ _ (sym there)))
got xs n (Some x) there is = sym (at_drop_more (λ ys. find (λ x. true) (take 1 ys)) xs n x.now (ltb-true _ _ (sym there)) ∙ ap Some (sym is))

pub returns : goal.returns
returns g c =
    let xs = c.args.items.now in
    got xs c.count_below.result c.get.result c.get.ensures.lookup.0 c.get.ensures.lookup.1
    ∙ ap (λ n. find (λ x. true) (take 1 (drop n xs))) c.count_below.ensures.value ∙ sym (found_from g.T.Keyed.key c.args.low xs)
