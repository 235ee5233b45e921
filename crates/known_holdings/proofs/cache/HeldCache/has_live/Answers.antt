use Rattle.std.proofs.Common.{◌≡◌, ◌==◌, ℕ, Bor, Option, Some, None, refl, ap, ◌∙◌}
use Rattle.std.specs.Prelude.{find}
use Rattle.std.specs.Option.{is_some, option_copied}
use Rattle.promise_core.specs.Holdings.{KnownCache}
use Rattle.known_holdings.proofs.RisingKeys.{any_found}
use Rattle.known_holdings.proofs.cache.HeldCache.has_live.Goals as goal

copied : (o : Option (Bor ℕ)) → is_some o ≡ is_some (option_copied o)
copied None = refl
copied (Some p) = refl

pub returns : goal.returns
returns c = c.is_some.ensures ∙ copied c.with_key.result
    ∙ ap is_some (c.with_key.ensures ∙ ap (find (λ p. p == c.args.place)) (c.deref.ensures.value ∙ ap (λ (t : KnownCache). t.live) c.self.view_is))
    ∙ any_found (λ p. p == c.args.place) c.args.self.now.live
