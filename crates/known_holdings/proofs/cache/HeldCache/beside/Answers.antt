use Rattle.std.proofs.Common.{◌≡◌, ◌+◌, ◌*◌, ◌^◌, filter, ap, ◌∙◌}
use Rattle.model_core.specs.Blocks.{Block}
use Rattle.promise_core.specs.Holdings.{KnownCache, slab_around}
use Rattle.known_holdings.proofs.RisingKeys.{is_within}
use Rattle.known_holdings.proofs.SlabPlaces.{in_slab}
use Rattle.known_holdings.proofs.cache.HeldCache.beside.Goals as goal

pub returns : goal.returns
returns c =
    let told = c.args.self.now in
    let a = c.first_byte.result in
    let b = c.end_byte.result in
    let is_a : a ≡ 4096 * (slab_around told c.args.place).first = c.first_byte.ensures.value ∙ ap (λ (x : Block). 4096 * x.first) c.slab_around-slab.ensures in
    let is_b : b ≡ 4096 * ((slab_around told c.args.place).first + 2 ^ told.order) = c.end_byte.ensures.value
    ∙ ap (λ (x : Block). 4096 * (x.first + 2 ^ x.order)) c.slab_around-slab.ensures in
    c.all_within.ensures
    ∙ ap (filter (is_within (λ p. p) a b)) (c.deref.ensures.value ∙ ap (λ (t : KnownCache). t.live) c.self.view_is)
    ∙ (λ i. filter (λ p. in_slab told c.args.place a b p is_a is_b i) told.live)
