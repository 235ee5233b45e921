use Rattle.std.proofs.Common.{Some, None, cond, sym, ap, ◌∙◌, arith}
use Rattle.std.specs.Option.{option_copied, option_map_or}
use Rattle.std.proofs.lemmas.Bool.{lt-ltb, le-ltb}
use Rattle.known_holdings.proofs.RisingKeys.{within_from, is_below}
use Rattle.known_holdings.proofs.rising.first_within.Goals as goal
use Rattle.known_holdings.proofs.rising.first_within.Goals.{in_default-via-in-Some+else-from-end, in_default-via-in_default}

pub returns-in-Some : goal.returns-in-Some
returns-in-Some g c =
    let key = g.T.Keyed.key in
    let x = c.in-Some.item.now in
    sym (within_from key c.args.low c.args.end c.args.items.now c.requires
    ∙ ap (λ o. option_map_or (λ y. cond (is_below key c.args.end y) (Some y) None) o None) (sym c.first_from.ensures ∙ ap option_copied c.in-Some.is)
    ∙ ap (λ t. cond t (Some x) None) (lt-ltb _ _ (omega (arith, c.if-from-end.true, c.from.ensures, c.key.ensures))))

pub returns-in_default : goal.returns-in_default
returns-in_default g c =
    let key = g.T.Keyed.key in
    let found = within_from key c.args.low c.args.end c.args.items.now c.requires in
    elim c.in_default.branch [
      | in_default-via-in-Some+else-from-end w ↦ (let x = w.in-Some.item.now in
          sym (found ∙ ap (λ o. option_map_or (λ y. cond (is_below key c.args.end y) (Some y) None) o None) (sym c.first_from.ensures ∙ ap option_copied w.in-Some.is)
          ∙ ap (λ t. cond t (Some x) None) (le-ltb _ _ (omega (arith, w.if-from-end.false, w.from.ensures, w.key.ensures)))))
      | in_default-via-in_default w ↦
          sym (found ∙ ap (λ o. option_map_or (λ y. cond (is_below key c.args.end y) (Some y) None) o None) (sym c.first_from.ensures ∙ ap option_copied w.in_default.is))
    ]
