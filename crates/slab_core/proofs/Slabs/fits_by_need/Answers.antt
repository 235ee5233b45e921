use Rattle.std.proofs.Common.{◌≡◌, ◌<◌, ℕ, true, length, ap, ◌∙◌, subst, arith}
use Rattle.std.proofs.lemmas.List.Elements.{All-set}
use Rattle.std.specs.Global.{Vec}
use Rattle.std.specs.Vec.{vec_len, with_items}
use Rattle.std.specs.Prelude.{◌↔◌}
use Rattle.machine_changes.specs.Fitting.{WouldFit}
use Rattle.slab_tables.specs.Content.{Content}
use Rattle.slab_core.specs.Fitting.{WouldFitInSlabs}
use Rattle.slab_core.proofs.FitsAfterReaping.{fits_by_slabs, fits_answers}
use Rattle.slab_core.proofs.Slabs.fits_by_need.Goals as goal
use Rattle.slab_core.proofs.Slabs.fits_by_need.Goals.{After-from, After-index_mut, After-would_fit_in_slabs}

fits : (c : After-would_fit_in_slabs) → (c.would_fit_in_slabs.result ≡ true) ↔ WouldFit c.args.space.now c.args.buddy.now c.args.self.now c.args.t c.args.k
fits c =
    let x = c.args in
    fits_by_slabs c.laws_with.ensures.parts.slabs c.requires.agree c.laws_with.ensures.steady c.requires.order c.requires.none c.would_fit_in_slabs.result
    (subst (λ s. (c.would_fit_in_slabs.result ≡ true) ↔ WouldFitInSlabs x.space.now x.buddy.now s x.t x.k) c.self.view_is c.would_fit_in_slabs.ensures.fits)

pub returns-clause-fits : goal.returns-clause-fits
returns-clause-fits c = fits (goal.at.returns-clause-fits c).After-would_fit_in_slabs

pub returns-clause-answer : goal.returns-clause-answer
returns-clause-answer c =
    fits_answers c.laws_with.ensures.parts c.laws_with.ensures.steady c.requires.order (fits (goal.at.returns-clause-answer c).After-would_fit_in_slabs)

-- the tenant has a set in `refused`
listed : (c : After-from) → c.from.result < vec_len c.self.inside.refused
listed c =
    let agree = c.requires.agree in
    omega (arith, c.from.ensures, c.self.invariant.1, ap (λ (s : Content). length s.caches) c.self.view_is, agree.tenants, agree.rows, c.requires.tenant)

-- the tenant's set has as many words as every set
words_of : (c : After-index_mut) → vec_len c.index_mut.result.now ≡ c.self.inside.words
words_of c =
    let sets = c.self.inside.refused in
    let set = c.index_mut.result.now in
    let less = listed (goal.at.After-index_mut c).After-from in
    ap (λ (v : Vec ℕ). vec_len v) c.index_mut.ensures.value ∙ c.self.invariant.2 c.from.result set (omega (arith, less, sets.ok.0))

pub index_mut-requires : goal.index_mut-requires
index_mut-requires c = listed (goal.at.index_mut-requires c).After-from

pub would_fit_in_slabs-requires-clause-words : goal.would_fit_in_slabs-requires-clause-words
would_fit_in_slabs-requires-clause-words c =
    let words = words_of (goal.at.would_fit_in_slabs-requires-clause-words c).After-index_mut in
    omega (arith, words, c.self.invariant.0, c.index_mut.result.now.ok.0, ap length c.as_mut_slice.ensures.value)

pub invariant_of-self : goal.invariant_of-self
invariant_of-self c = (
  c.self.invariant.0,
  c.self.invariant.1,
  All-set (λ (v : Vec ℕ). vec_len v ≡ c.self.inside.words) c.self.inside.refused.items c.from.result (with_items c.index_mut.result.now c.would_fit_in_slabs.new.refused)
      (words_of (goal.at.invariant_of-self c).After-index_mut) c.self.invariant.2,
)
