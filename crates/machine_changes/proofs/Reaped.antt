-- If exactly the slabs without live objects are freed, the parts show the reaped machine.
use Rattle.std.proofs.Common.{◌≡◌, ℕ, Bool, not, cond, List, [], ◌∷◌, ◌++◌, map, Some, refl, ap, ◌∙◌, subst, inl, inr}
use Rattle.std.specs.Prelude.{filter, flat_map}
use Rattle.model_core.specs.Machine.{Slab, Cache, Machine, slab_block}
use Rattle.model_core.specs.Slabs.{cache_of, is_empty, zeroed, without_empty, empty_blocks, reaped}
use Rattle.model_core.specs.Elements.{IsIn}
use Rattle.machine_changes.specs.Shows.{ShowsMachine}
use Rattle.machine_changes.specs.Changes.{kept_slabs, gone_blocks, returned}
use Rattle.machine_changes.specs.Laws.{ReapedShows}
use Rattle.machine_changes.proofs.Lookups.{in_found}
use Rattle.machine_changes.proofs.SlabsReturned.{returned_shows}

-- two tests that agree on each element of a list keep the same elements, and two functions that agree on each element map the
-- list alike

pub filter_same : {X : Type 0} (p q : X → Bool) (xs : List X) → ((x : X) → IsIn x xs → p x ≡ q x) → filter p xs ≡ filter q xs
filter_same p q [] same = refl
filter_same p q (x ∷ xs) same =
    ap (λ b. cond b (x ∷ filter p xs) (filter p xs)) (same x (inl refl))
    ∙ ap (λ ys. cond (q x) (x ∷ ys) ys) (filter_same p q xs (λ y i. same y (inr i)))

pub map_same : {X Y : Type 0} (g h : X → Y) (xs : List X) → ((x : X) → IsIn x xs → g x ≡ h x) → map g xs ≡ map h xs
map_same g h [] same = refl
map_same g h (x ∷ xs) same = ap (λ y. y ∷ map g xs) (same x (inl refl)) ∙ ap (λ ys. h x ∷ ys) (map_same g h xs (λ y i. same y (inr i)))

pub flat_map_same : {X Y : Type 0} (g h : X → List Y) (xs : List X) → ((x : X) → IsIn x xs → g x ≡ h x) → flat_map g xs ≡ flat_map h xs
flat_map_same g h [] same = refl
flat_map_same g h (x ∷ xs) same =
    ap (λ y. y ++ flat_map g xs) (same x (inl refl)) ∙ ap (λ ys. h x ++ ys) (flat_map_same g h xs (λ y i. same y (inr i)))

module _ (m : Machine) (gone : ℕ → Bool) (same : (c : Cache) (y : Slab) → IsIn c m.caches → IsIn y c.slabs → gone y.first ≡ is_empty y) where
  same_cache : (c : Cache) → IsIn c m.caches → kept_slabs gone c ≡ without_empty c
  same_cache c i =
      ap (λ slabs. record c { slabs = slabs })
      (filter_same (λ y. not (gone y.first)) (λ y. not (is_empty y)) c.slabs (λ y j. ap not (same c y i j)))

  same_blocks : (c : Cache) → IsIn c m.caches → gone_blocks gone c ≡ empty_blocks c
  same_blocks c i = ap (map (slab_block c)) (filter_same (λ y. gone y.first) is_empty c.slabs (λ y j. same c y i j))

  pub returned_is : returned gone m ≡ reaped m
  unfolding reaped
  returned_is =
      ap (λ caches. record m { caches = caches; bytes = zeroed (flat_map (gone_blocks gone) m.caches) m.bytes })
      (map_same (kept_slabs gone) without_empty m.caches same_cache)
      ∙ ap (λ blocks. record m { caches = map without_empty m.caches; bytes = zeroed blocks m.bytes })
      (flat_map_same (gone_blocks gone) empty_blocks m.caches same_blocks)

pub reaped_shows : ReapedShows
reaped_shows r r' b b' s s' t gone m k st h same =
    let in_machine : (c : Cache) (y : Slab) → IsIn c m.caches → IsIn y c.slabs → gone y.first ≡ is_empty y =
    λ c y i j.
    let ex : cache_of m c.number ≡ Some c = in_found (λ z. z.number) 0 c m.caches h.caches_rise i in
    same c.number y.first c y ex (in_found (λ z. z.first) 0 y c.slabs (h.slabs_rise c.number c ex) j) in
    subst (ShowsMachine r' b' s' t) (returned_is m gone in_machine) (returned_shows r r' b b' s s' t gone m k st h)
