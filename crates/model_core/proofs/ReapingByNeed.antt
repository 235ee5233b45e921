-- Reaping on demand: a request is served by the machine itself, or by the machine after all its empty slabs are freed.
use Rattle.std.proofs.Common.{◌≡◌, ℕ, Bool, true, false, Option, Some, None, refl, sym, ap, ◌∙◌}
use Rattle.std.specs.Prelude.{if◌then◌else◌}
use Rattle.std.proofs.lemmas.Bool.{le-ltb}
use Rattle.model_core.specs.Machine.{Machine, choice}
use Rattle.model_core.specs.Slabs.{reaped, by_need, choice_by_need}
use Rattle.model_core.specs.Operations.{alloc_step}
use Rattle.model_core.specs.CacheOperations.{take_step}
use Rattle.model_core.specs.Laws.{AllocReaps, TakeReaps}

-- what is true both of machine m and of m after a reap is true of the machine that serves the request
pub by_need_keeps : (P : Machine → Type 0) (order k : ℕ) (m : Machine) → P m → P (reaped m) → P (by_need order k m)
unfolding by_need
by_need_keeps P order k m p q = go _
  where
    go : (b : Bool) → P (if b then m else reaped m)
    go true = p
    go false = q

pub by_need_found : (order k first : ℕ) (m : Machine) → choice order m k ≡ Some first → by_need order k m ≡ m
unfolding by_need
by_need_found order k first m is = simp is

pub by_need_reaps : (order k first : ℕ) (m : Machine) → choice order m k ≡ None → choice order (reaped m) k ≡ Some first → by_need order k m ≡ reaped m
unfolding by_need
by_need_reaps order k first m none is = simp (none, is)

pub by_need_stays : (order k : ℕ) (m : Machine) → choice order m k ≡ None → choice order (reaped m) k ≡ None → by_need order k m ≡ m
unfolding by_need
by_need_stays order k m none still = simp (none, still)

-- if a request finds no block, even after a reap, no slab is freed, and `by_need` returns m itself
pub by_need_none : (order k : ℕ) (m : Machine) → choice_by_need order k m ≡ None → by_need order k m ≡ m
by_need_none order k m none = go (choice order m k) refl (choice order (reaped m) k) refl
  where
    go : (o : Option ℕ) → choice order m k ≡ o → (p : Option ℕ) → choice order (reaped m) k ≡ p → by_need order k m ≡ m
    go (Some first) is p _ = by_need_found order k first m is
    go None is None still = by_need_stays order k m is still
    go None is (Some first) found = let reaps : by_need order k m ≡ reaped m = by_need_reaps order k first m is found in
        let both : None ≡ Some first = sym none ∙ (ap (λ n. choice order n k) reaps ∙ found) in absurd (cc)

-- Allocs and takes

pub alloc_reaps : AllocReaps
unfolding alloc_step
alloc_reaps order k m le = record {
  found = λ first is. rw (le-ltb order k le) (rw (by_need_found order k first m is) (rw is refl));
  reaps = λ first none is. rw (le-ltb order k le) (rw (by_need_reaps order k first m none is) (rw is refl));
  stays = λ none still. rw (le-ltb order k le) (rw (by_need_stays order k m none still) (rw none refl));
}

pub take_reaps : TakeReaps
unfolding take_step
take_reaps order number m c is unused = record {
  found = λ first found. rw is (rw unused (rw (by_need_found order _ first m found) (rw found refl)));
  reaps = λ first none found. rw is (rw unused (rw (by_need_reaps order _ first m none found) (rw found refl)));
  stays = λ none still. rw is (rw unused (rw (by_need_stays order _ m none still) (rw none refl)));
}
