use Rattle.std.proofs.Common.{◌≡◌, ℕ, ◌+◌, ◌^◌, false, not, List, get_or, replicate, zero, suc, refl, sym, ap, ◌∙◌, arith}
use Rattle.std.specs.Prelude.{◌||◌}
use Rattle.std.specs.List.{list_any}
use Rattle.std.proofs.Math.Bool.{not-not}
use Rattle.model_core.specs.Blocks.{block}
use Rattle.model_core.specs.Operations.{overlaps}
use Rattle.promise_core.specs.Holdings.{Holdings, KnownCache, slab_around}
use Rattle.known_holdings.proofs.ComputedTests.{same_at, vacant_is}
use Rattle.known_holdings.proofs.PageBlocks.{overlap_near}
use Rattle.known_holdings.proofs.held.Held.taken_in.Goals as goal

pub returns-clause-taken : goal.returns-clause-taken
returns-clause-taken c = λ f less.
    let told = c.args.self.now in
    let x : ℕ = c.args.slot.now.first + f in
    let near : list_any (overlaps (block x 0)) told.pages ≡ list_any (overlaps (block x 0)) c.pages_near-pages.result.now =
    c.pages_near-pages.ensures (overlaps (block x 0)) (λ b e.
    let over = overlap_near (block x 0) b x (x + 2 ^ 0) refl refl e in
    (omega (arith, over.0, c.from.ensures, c.first.ensures), omega (arith, over.1, c.end.ensures.value, less))) in
    let caches : c.deref.result.now ≡ told.caches = c.deref.ensures.value ∙ ap (λ (h : Holdings). h.caches) c.self.view_is in
    let slabs = λ (cs : List KnownCache). list_any (λ y. list_any (λ p. overlaps (block x 0) (slab_around y p)) y.live) cs in
    c.mark_caches.ensures f less
    ∙ ap (λ v. v || slabs c.deref.result.now) (c.mark_blocks.ensures f less ∙ ap (λ v. v || list_any (overlaps (block x 0)) c.pages_near-pages.result.now) (same_at 256 f false) ∙ sym near)
    ∙ ap (λ (cs : List KnownCache). list_any (overlaps (block x 0)) told.pages || slabs cs) caches
    ∙ sym (ap not (vacant_is told (block x 0)) ∙ not-not _)
