use Rattle.std.proofs.Common.{◌*◌, false, sym, ap, ◌∙◌, subst}
use Rattle.std.specs.Prelude.{nat_le, find}
use Rattle.std.specs.Option.{option_copied, option_map_or}
use Rattle.std.specs.List.Sorted.{IsNonDecreasing}
use Rattle.model_core.specs.Blocks.{Block, around}
use Rattle.model_core.specs.Operations.{overlaps}
use Rattle.promise_core.specs.Holdings.{KnownCache, slab_around}
use Rattle.known_holdings.proofs.SlabPlaces.{over_first}
use Rattle.known_holdings.proofs.cache.HeldCache.has_slab_over.Goals as goal

pub returns-in-Some : goal.returns-in-Some
returns-in-Some c =
    let told = c.args.self.now in
    let a = c.first_byte-begin.result in
    let live = ap (λ (t : KnownCache). t.live) c.self.view_is in
    let is_a = c.first_byte-begin.ensures.value ∙ ap (λ (b : Block). 4096 * b.first) (c.around.ensures ∙ (λ i. around (c.first.ensures i) (c.self.view_is i).order)) in
    let found = c.first_from.ensures ∙ ap (find (λ p. nat_le a p)) (c.deref.ensures.value ∙ live) in
    c.overlaps.ensures ∙ ap (overlaps c.args.block.now) c.slab_around.ensures
    ∙ ap (λ o. option_map_or (λ p. overlaps c.args.block.now (slab_around told p)) o false) (ap option_copied (sym c.in-Some.is) ∙ found)
    ∙ sym (over_first told c.args.block.now a (subst IsNonDecreasing live c.self.invariant.1) is_a)

pub returns-in-None : goal.returns-in-None
returns-in-None c =
    let told = c.args.self.now in
    let a = c.first_byte-begin.result in
    let live = ap (λ (t : KnownCache). t.live) c.self.view_is in
    let is_a = c.first_byte-begin.ensures.value ∙ ap (λ (b : Block). 4096 * b.first) (c.around.ensures ∙ (λ i. around (c.first.ensures i) (c.self.view_is i).order)) in
    let found = c.first_from.ensures ∙ ap (find (λ p. nat_le a p)) (c.deref.ensures.value ∙ live) in
    ap (λ o. option_map_or (λ p. overlaps c.args.block.now (slab_around told p)) o false) (ap option_copied (sym c.in-None.is) ∙ found)
    ∙ sym (over_first told c.args.block.now a (subst IsNonDecreasing live c.self.invariant.1) is_a)
