-- The total of a cache is the number of its live objects. It is the sum of the parts of all machine frames.
use Rattle.std.proofs.Common.{◌≡◌, ℕ, zero, suc, ◌+◌, ◌*◌, ◌/◌, ◌<◌, ◌≤◌, false, cond, eqb, List, [], ◌∷◌, Option, Some, None, length, set, refl, ap, ◌∙◌, subst, arith}
use Rattle.std.proofs.lemmas.Bool.{cond_both}
use Rattle.std.proofs.lemmas.List.{set-get_or}
use Rattle.klist_core.specs.Places.{place_at}
use Rattle.slab_tables.specs.declared.cache.Kept.{Kept}
use Rattle.slab_tables.specs.Content.{blank, kept_at, is_of_index, live_total}

-- a machine frame's part of the total of the cache with index n: its slab's live objects if the slab is in this cache, or else 0
abbrev pub part : ℕ → Option (ℕ × ℕ) → Kept → ℕ
part n p k = cond (is_of_index n p) k.live 0

-- if the place and the state at machine frame i are replaced, the total and this machine frame's part change by the same amount
pub total_set : (n i : ℕ) (p : Option (ℕ × ℕ)) (k : Kept) (ps : List (Option (ℕ × ℕ))) (ks : List Kept) → i < length ps → i < length ks
    → live_total n (set ps i p) (set ks i k) + part n (place_at ps i) (kept_at ks i) ≡ live_total n ps ks + part n p k
total_set n i p k [] ks lt there = absurd (omega arith)
total_set n i p k (q ∷ ps) [] lt there = absurd (omega arith)
total_set n zero p k (q ∷ ps) (l ∷ ks) lt there = omega arith
total_set n (suc i) p k (q ∷ ps) (l ∷ ks) lt there = let h = total_set n i p k ps ks (omega arith) (omega arith) in omega (arith, h)

-- if only the place at machine frame i is replaced, the total and this machine frame's part change by the same amount
pub total_placed : (n i : ℕ) (p : Option (ℕ × ℕ)) (ps : List (Option (ℕ × ℕ))) (ks : List Kept) → i < length ps → i < length ks
    → live_total n (set ps i p) ks + part n (place_at ps i) (kept_at ks i) ≡ live_total n ps ks + part n p (kept_at ks i)
total_placed n i p ps ks lt there =
    let same : set ks i (kept_at ks i) ≡ ks = set-get_or ks i blank in
    subst (λ (xs : List Kept). live_total n (set ps i p) xs + part n (place_at ps i) (kept_at ks i) ≡ live_total n ps ks + part n p (kept_at ks i)) same
    (total_set n i p (kept_at ks i) ps ks lt there)

-- a machine frame's part of the total is at most the total
pub part_within : (n i : ℕ) (ps : List (Option (ℕ × ℕ))) (ks : List Kept) → i < length ps → i < length ks
    → part n (place_at ps i) (kept_at ks i) ≤ live_total n ps ks
part_within n i ps ks lt there = let h = total_placed n i None ps ks lt there in omega (arith, h)

-- the total stays the same if the slabs of the cache still begin at the same machine frames
pub total_along : (n : ℕ) (ps qs : List (Option (ℕ × ℕ))) (ks : List Kept) → length qs ≡ length ps
    → ((i : ℕ) → is_of_index n (place_at qs i) ≡ is_of_index n (place_at ps i)) → live_total n qs ks ≡ live_total n ps ks
total_along n [] [] ks same along = refl
total_along n [] (q ∷ qs) ks same along = absurd (omega arith)
total_along n (p ∷ ps) [] ks same along = absurd (omega arith)
total_along n (p ∷ ps) (q ∷ qs) [] same along = refl
total_along n (p ∷ ps) (q ∷ qs) (k ∷ ks) same along =
    let here : is_of_index n q ≡ is_of_index n p = along 0 in
    let rest = total_along n ps qs ks (omega arith) (λ i. along (suc i)) in
    ap (λ b. cond b k.live 0 + live_total n qs ks) here ∙ ap (λ x. cond (is_of_index n p) k.live 0 + x) rest

-- the total is 0 if the cache has no slab
pub total_none : (n : ℕ) (ps : List (Option (ℕ × ℕ))) (ks : List Kept) → ((i : ℕ) → is_of_index n (place_at ps i) ≡ false) → live_total n ps ks ≡ 0
total_none n [] ks none = refl
total_none n (p ∷ ps) [] none = refl
total_none n (p ∷ ps) (k ∷ ks) none =
    let here : is_of_index n p ≡ false = none 0 in
    ap (λ b. cond b k.live 0 + live_total n ps ks) here ∙ (omega (arith, total_none n ps ks (λ i. none (suc i))))

-- if no slab has more than 256 live objects, the total is at most 256 times the number of machine frames
pub total_few : (n : ℕ) (ps : List (Option (ℕ × ℕ))) (ks : List Kept)
    → ((i head key : ℕ) → place_at ps i ≡ Some (head, key) → (kept_at ks i).live ≤ 256) → live_total n ps ks ≤ 256 * length ps
total_few n [] ks few = omega arith
total_few n (p ∷ ps) [] few = omega arith
total_few n (None ∷ ps) (k ∷ ks) few = omega (arith, total_few n ps ks (λ i. few (suc i)))
total_few n (Some (head, key) ∷ ps) (k ∷ ks) few =
    let here : k.live ≤ 256 = few 0 head key refl in
    let at_most : cond (eqb (head / 3) n) k.live 0 ≤ 256 = cond_both (eqb (head / 3) n) k.live 0 (λ x. x ≤ 256) (λ e. here) (λ e. omega arith) in
    omega (arith, total_few n ps ks (λ i. few (suc i)))
