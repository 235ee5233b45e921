use Rattle.std.proofs.Common.{◌≡◌, true, sym, ◌∙◌, subst}
use Rattle.std.specs.Prelude.{◌↔◌}
use Rattle.std.proofs.lemmas.Bool.{false≢true}
use Rattle.machine_changes.specs.Fitting.{WouldFit}
use Rattle.slab_core.specs.Fitting.{WouldFitInSlabs}
use Rattle.slab_core.proofs.FitsAfterReaping.{fits_by_free, fits_by_slabs, fits_answers}
use Rattle.slab_core.proofs.Slabs.would_fit.Goals as goal
use Rattle.slab_core.proofs.Slabs.would_fit.Goals.{Then-has_free, After-would_fit_in_slabs}

-- if a free block is large enough, the result `true` is right
free : (c : Then-has_free) → (c.has_free.result ≡ true) ↔ WouldFit c.args.space.now c.args.buddy.now c.args.self.now c.args.t c.args.k
free c =
    fits_by_free c.laws_with.ensures.parts.slabs c.requires.agree c.laws_with.ensures.steady c.requires.order c.has_free.result c.if-has_free.true c.has_free.ensures

pub returns-then-has_free-clause-fits : goal.returns-then-has_free-clause-fits
returns-then-has_free-clause-fits c = free c

pub returns-then-has_free-clause-answer : goal.returns-then-has_free-clause-answer
returns-then-has_free-clause-answer c = fits_answers c.laws_with.ensures.parts c.laws_with.ensures.steady c.requires.order (free c)

-- if no free block is large enough, the result of `would_fit_in_slabs` is right
fits : (c : After-would_fit_in_slabs) → (c.would_fit_in_slabs.result ≡ true) ↔ WouldFit c.args.space.now c.args.buddy.now c.args.self.now c.args.t c.args.k
fits c =
    let x = c.args in
    fits_by_slabs c.laws_with.ensures.parts.slabs c.requires.agree c.laws_with.ensures.steady c.requires.order (λ h. false≢true (sym c.if-has_free.false ∙ c.has_free.ensures.1 h)) c.would_fit_in_slabs.result
    (subst (λ s. (c.would_fit_in_slabs.result ≡ true) ↔ WouldFitInSlabs x.space.now x.buddy.now s x.t x.k) c.self.view_is c.would_fit_in_slabs.ensures.fits)

pub returns-else-has_free-clause-fits : goal.returns-else-has_free-clause-fits
returns-else-has_free-clause-fits c = fits (goal.at.returns-else-has_free-clause-fits c).After-would_fit_in_slabs

pub returns-else-has_free-clause-answer : goal.returns-else-has_free-clause-answer
returns-else-has_free-clause-answer c =
    fits_answers c.laws_with.ensures.parts c.laws_with.ensures.steady c.requires.order (fits (goal.at.returns-else-has_free-clause-answer c).After-would_fit_in_slabs)
