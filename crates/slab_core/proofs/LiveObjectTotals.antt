-- The number of live objects of a cache, counted over its lists and over its slabs.
use Rattle.std.proofs.Common.{◌≡◌, ℕ, suc, ◌+◌, ◌*◌, ◌/◌, ◌≤◌, Bool, true, false, not, cond, eqb, ltb, List, [], ◌∷◌, map, Option, Some, None, length, refl, sym, ap, ◌∙◌, inl, inr, arith}
use Rattle.std.specs.Prelude.{filter, ◌&&◌, flat_map}
use Rattle.std.proofs.lemmas.Bool.{cases_eq, eq-eqb, ne_eqb, eqb-true}
use Rattle.std.proofs.lemmas.List.{length-append}
use Rattle.klist_core.specs.Lists.{put_by_key, with_node, list_from}
use Rattle.model_core.specs.Machine.{Slab, Cache}
use Rattle.model_core.specs.Slabs.{is_full, is_partial, is_empty, live_from, live_in}
use Rattle.model_core.specs.Elements.{IsIn}
use Rattle.slab_tables.specs.declared.cache.Kept.{Kept}
use Rattle.slab_tables.specs.Content.{kept_at, live_total}
use Rattle.machine_changes.specs.Records.{count_true}
use Rattle.machine_changes.proofs.ObjectFlags.{any_counts}

-- the sum of `live` over the machine frames of the slabs of a list
abbrev pub sum_of : (ℕ → ℕ) → List (ℕ × ℕ) → ℕ
sum_of live [] = 0
sum_of live (p ∷ ps) = live p.1 + sum_of live ps

-- the number of live objects in all slabs of the list
abbrev pub sum_live : List Slab → ℕ
sum_live [] = 0
sum_live (y ∷ ys) = count_true y.live + sum_live ys

sum_put : (live : ℕ → ℕ) (p : ℕ × ℕ) (qs : List (ℕ × ℕ)) → sum_of live (put_by_key p qs) ≡ live p.1 + sum_of live qs
sum_put live p [] = refl
sum_put live p (q ∷ qs) = go (ltb p.0 q.0) (sum_put live p qs)
  where
    go : (v : Bool) → sum_of live (put_by_key p qs) ≡ live p.1 + sum_of live qs
        → sum_of live (cond v (p ∷ (q ∷ qs)) (q ∷ put_by_key p qs)) ≡ live p.1 + (live q.1 + sum_of live qs)
    go true e = refl
    go false e = omega arith

sum_with : (live : ℕ → ℕ) (h i head key : ℕ) (qs : List (ℕ × ℕ)) → sum_of live (with_node h i (Some (head, key)) qs) ≡ cond (eqb head h) (live i) 0 + sum_of live qs
sum_with live h i head key qs = go (eqb head h)
  where
    go : (v : Bool) → sum_of live (cond v (put_by_key (key, i) qs) qs) ≡ cond v (live i) 0 + sum_of live qs
    go true = sum_put live (key, i) qs
    go false = omega arith

is_cond : (v w : Bool) (n : ℕ) → v ≡ w → cond v n 0 ≡ cond w n 0
is_cond v w n e = ap (λ b. cond b n 0) e

-- a list belongs to the cache with index n exactly if it is one of the lists 3 * n, 3 * n + 1 and 3 * n + 2
one_of : (head n x : ℕ) → cond (eqb (head / 3) n) x 0 ≡ cond (eqb head (3 * n)) x 0 + (cond (eqb head (3 * n + 1)) x 0 + cond (eqb head (3 * n + 2)) x 0)
one_of head n x = elim (cases_eq head (3 * n)) [
  | inl a ↦ omega (
    arith,
    is_cond _ true x (eq-eqb (head / 3) n (omega arith)),
    is_cond _ true x (eq-eqb head (3 * n) a),
    is_cond _ false x (ne_eqb head (3 * n + 1) (λ e. omega arith)),
    is_cond _ false x (ne_eqb head (3 * n + 2) (λ e. omega arith)),
  )
  | inr na ↦ elim (cases_eq head (3 * n + 1)) [
    | inl a ↦ omega (
      arith,
      is_cond _ true x (eq-eqb (head / 3) n (omega arith)),
      is_cond _ false x (ne_eqb head (3 * n) na),
      is_cond _ true x (eq-eqb head (3 * n + 1) a),
      is_cond _ false x (ne_eqb head (3 * n + 2) (λ e. omega arith)),
    )
    | inr nb ↦ elim (cases_eq head (3 * n + 2)) [
      | inl a ↦ omega (
        arith,
        is_cond _ true x (eq-eqb (head / 3) n (omega arith)),
        is_cond _ false x (ne_eqb head (3 * n) na),
        is_cond _ false x (ne_eqb head (3 * n + 1) nb),
        is_cond _ true x (eq-eqb head (3 * n + 2) a),
      )
      | inr nc ↦ omega (
        arith,
        is_cond _ false x (ne_eqb (head / 3) n (λ e. omega arith)),
        is_cond _ false x (ne_eqb head (3 * n) na),
        is_cond _ false x (ne_eqb head (3 * n + 1) nb),
        is_cond _ false x (ne_eqb head (3 * n + 2) nc),
      )
    ]
  ]
]

-- the total of the cache with index n is the sum over its three lists
pub total_of_lists : (live : ℕ → ℕ) (n i : ℕ) (ps : List (Option (ℕ × ℕ))) (ks : List Kept) → length ps ≤ length ks → ((j : ℕ) → (kept_at ks j).live ≡ live (i + j))
    → live_total n ps ks ≡ sum_of live (list_from (3 * n) i ps) + (sum_of live (list_from (3 * n + 1) i ps) + sum_of live (list_from (3 * n + 2) i ps))
total_of_lists live n i [] ks few same = refl
total_of_lists live n i (p ∷ ps) [] few same = absurd (omega arith)
total_of_lists live n i (None ∷ ps) (k ∷ ks) few same =
    omega (arith, total_of_lists live n (i + 1) ps ks (omega arith) (λ j. same (suc j) ∙ ap live (omega arith)))
total_of_lists live n i (Some (head, key) ∷ ps) (k ∷ ks) few same =
    let rest = total_of_lists live n (i + 1) ps ks (omega arith) (λ j. same (suc j) ∙ ap live (omega arith)) in
    let here : k.live ≡ live i = same 0 ∙ ap live (omega arith) in
    let mine : cond (eqb (head / 3) n) k.live 0 ≡ cond (eqb (head / 3) n) (live i) 0 = ap (λ x. cond (eqb (head / 3) n) x 0) here in
    omega (
      arith,
      rest,
      mine,
      one_of head n (live i),
      sum_with live (3 * n) i head key (list_from (3 * n) (i + 1) ps),
      sum_with live (3 * n + 1) i head key (list_from (3 * n + 1) (i + 1) ps),
      sum_with live (3 * n + 2) i head key (list_from (3 * n + 2) (i + 1) ps),
    )

-- if the keys of a list are the first frames of the slabs `ys`, and `live` returns each slab's number of live objects, the sum
-- over the list is the number of live objects in `ys`
pub sum_of_slabs : (live : ℕ → ℕ) (qs : List (ℕ × ℕ)) (ys : List Slab) → map (λ q. q.0) qs ≡ map (λ y. y.first) ys
    → ((q : ℕ × ℕ) (y : Slab) → IsIn q qs → IsIn y ys → q.0 ≡ y.first → live q.1 ≡ count_true y.live) → sum_of live qs ≡ sum_live ys
sum_of_slabs live [] [] e same = refl
sum_of_slabs live [] (y ∷ ys) e same = absurd (let f : ◌≡◌ {A = List ℕ} [] (y.first ∷ map (λ z. z.first) ys) = e in cc)
sum_of_slabs live (q ∷ qs) [] e same = absurd (let f : ◌≡◌ {A = List ℕ} (q.0 ∷ map (λ z. z.0) qs) [] = e in cc)
sum_of_slabs live (q ∷ qs) (y ∷ ys) e same =
    let f : ◌≡◌ {A = List ℕ} (q.0 ∷ map (λ z. z.0) qs) (y.first ∷ map (λ z. z.first) ys) = e in
    let here : q.0 ≡ y.first = cc in
    let rest : map (λ z. z.0) qs ≡ map (λ z. z.first) ys = cc in
    omega (arith, same q y (inl refl) (inl refl) here, sum_of_slabs live qs ys rest (λ p z i j. same p z (inr i) (inr j)))

-- the sum over all slabs is the sum over the full, the partial and the empty ones
pub sum_by_kind : (ys : List Slab) → sum_live (filter is_full ys) + (sum_live (filter is_partial ys) + sum_live (filter is_empty ys)) ≡ sum_live ys
sum_by_kind [] = refl
sum_by_kind (y ∷ ys) = go (is_full y) (is_empty y) (λ e. eqb-true (count_true y.live) 0 (sym (any_counts y.live) ∙ e)) (sum_by_kind ys)
  where
    go : (f e : Bool) → (e ≡ true → count_true y.live ≡ 0)
        → sum_live (filter is_full ys) + (sum_live (filter is_partial ys) + sum_live (filter is_empty ys)) ≡ sum_live ys
        → sum_live (cond f (y ∷ filter is_full ys) (filter is_full ys)) + (sum_live (cond (not f && not e) (y ∷ filter is_partial ys) (filter is_partial ys)) + sum_live (cond e (y ∷ filter is_empty ys) (filter is_empty ys)))
        ≡ count_true y.live + sum_live ys
    go true true none rest = omega (arith, none refl)
    go true false none rest = omega arith
    go false true none rest = omega arith
    go false false none rest = omega arith

live_counted : (c : Cache) (y : Slab) (i : ℕ) (live : List Bool) → length (live_from c y i live) ≡ count_true live
live_counted c y i [] = refl
live_counted c y i (true ∷ bs) = omega (arith, live_counted c y (i + 1) bs)
live_counted c y i (false ∷ bs) = omega (arith, live_counted c y (i + 1) bs)

-- the length of the list of live objects in the slabs `ys` is the sum of the slabs' numbers of live objects
pub objects_counted : (c : Cache) (ys : List Slab) → length (flat_map (live_in c) ys) ≡ sum_live ys
objects_counted c [] = refl
objects_counted c (y ∷ ys) = length-append (live_in c y) (flat_map (live_in c) ys) ∙ omega (arith, live_counted c y 0 y.live, objects_counted c ys)
