use Rattle.std.proofs.Common.{◌+◌, ap, ◌∙◌}
use Rattle.std.specs.Prelude.{find}
use Rattle.known_holdings.proofs.RisingKeys.{one_key, is_within}
use Rattle.known_holdings.proofs.rising.with_key.Goals as goal

pub returns : goal.returns
returns g c = c.first_within.ensures
    ∙ ap (λ n. find (is_within g.T.Keyed.key n (n + 1)) c.args.items.now) c.from-key.ensures
    ∙ (λ i. find (λ x. one_key g.T.Keyed.key c.args.key x i) c.args.items.now)
