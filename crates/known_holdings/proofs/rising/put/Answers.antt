use Rattle.std.proofs.Common.{◌+◌, sym, ap, ◌∙◌, subst}
use Rattle.std.specs.List.{insert, prefix_len}
use Rattle.std.specs.List.Sorted.{IsNonDecreasingBy}
use Rattle.known_holdings.proofs.RisingKeys.{put_behind, put_rises, is_below}
use Rattle.known_holdings.proofs.rising.put.Goals as goal

pub returns-clause-put : goal.returns-clause-put
returns-clause-put g c =
    let items = c.args.items.now.items in
    let at = c.count_below-at.ensures.value ∙ (λ i. prefix_len (is_below g.T.Keyed.key ((c.from.ensures ∙ c.key.ensures) i + 1)) (c.deref.ensures.value i)) in
    c.in_ok-insert.ensures.items ∙ ap (λ n. insert items n c.args.item) at ∙ sym (put_behind g.T.Keyed.key c.args.item items)

pub returns-clause-rise : goal.returns-clause-rise
returns-clause-rise g c = subst (IsNonDecreasingBy g.T.Keyed.key) (sym (returns-clause-put g c))
    (put_rises g.T.Keyed.key c.args.item c.args.items.now.items c.requires)

pub returns-in_err-insert-clause-rise : goal.returns-in_err-insert-clause-rise
returns-in_err-insert-clause-rise g c = subst (IsNonDecreasingBy g.T.Keyed.key) (sym c.in_err-insert.ensures.items) c.requires
