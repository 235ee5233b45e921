use Rattle.std.proofs.Common.{◌≡◌, ◌==◌, ℕ, ◌<◌, List, filter, length, get_or, sym, ap, ◌∙◌, subst}
use Rattle.std.proofs.lemmas.Bool.{eqb-true}
use Rattle.std.proofs.lemmas.List.Elements.{filter_passes}
use Rattle.promise_core.specs.Holdings.{slab_around, live_beside}
use Rattle.reply_judge.proofs.rows.beside_next.Goals as goal

pub returns-in-Some : goal.returns-in-Some
returns-in-Some c =
    let cache = c.args.cache.now in
    let q : ℕ = c.requires.0 in
    let p : ℕ = c.in-Some.first.now in
    let some : 0 < length (live_beside cache q) = subst (λ (xs : List ℕ). 0 < length xs) c.requires.1 c.in-Some.ensures.item.3.0 in
    let own : (slab_around cache p).first ≡ (slab_around cache q).first = eqb-true _ _
    (ap (λ (r : ℕ). (slab_around cache r).first == (slab_around cache q).first) (c.in-Some.ensures.item.1 ∙ ap (λ (xs : List ℕ). get_or xs 0 p) c.requires.1)
    ∙ filter_passes (λ (r : ℕ). (slab_around cache r).first == (slab_around cache q).first) cache.live 0 p some) in
    let next : (slab_around cache p).first ≡ (slab_around cache c.args.place).first = eqb-true _ _ (sym c.are_beside.ensures ∙ c.if-are_beside.true) in
    c.requires.1 ∙ ap (λ (n : ℕ). filter (λ r. (slab_around cache r).first == n) cache.live) (sym own ∙ next)
