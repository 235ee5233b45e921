use Rattle.std.proofs.Common.{◌≡◌, ◌+◌, ◌-◌, ap, ◌∙◌, arith}
use Rattle.std.specs.Prelude.{find}
use Rattle.promise_core.specs.Holdings.{KnownCache}
use Rattle.known_holdings.proofs.RisingKeys.{is_within}
use Rattle.known_holdings.proofs.SlabPlaces.{has_range}
use Rattle.known_holdings.proofs.cache.HeldCache.object_with.Goals as goal

pub returns : goal.returns
returns c =
    let told = c.args.self.now in
    let a = c.saturating_sub-low.result in
    let size : c.self.inside.size ≡ told.size = ap (λ (t : KnownCache). t.size) c.self.view_is in
    let is_a : a ≡ c.args.place + c.args.len - told.size =
    omega (arith, c.saturating_sub-low.ensures, c.from.ensures, c.from-2.ensures, c.from-3.ensures, size) in
    c.copied.ensures ∙ c.first_within.ensures
    ∙ ap (λ n. find (is_within (λ p. p) a (n + 1)) c.deref.result.now) c.from-4.ensures
    ∙ ap (find (is_within (λ p. p) a (c.args.place + 1))) (c.deref.ensures.value ∙ ap (λ (t : KnownCache). t.live) c.self.view_is)
    ∙ (λ i. find (λ p. has_range c.args.place c.args.len told.size a p is_a i) told.live)
