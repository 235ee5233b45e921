-- The number of frames in the empty slabs of one cache, and of all caches with numbers below a limit.
use Rattle.std.proofs.Common.{◌≡◌, ℕ, ◌+◌, ◌*◌, ◌%◌, ◌^◌, ◌<◌, ◌≤◌, cond, ltb, List, [], ◌∷◌, ◌++◌, map, length, Some, None, refl, sym, ap, ◌∙◌, inl, inr, ⊎_elim, arith}
use Rattle.std.specs.Prelude.{filter, flat_map}
use Rattle.std.proofs.lemmas.Bool.{cases_eq, cases_lt, lt-ltb, le-ltb}
use Rattle.std.proofs.lemmas.List.{length-map}
use Rattle.std.proofs.Math.Nat.{pow-le-pow_right, mul-le-mul_left}
use Rattle.model_core.specs.declared.limits.TheConstants.{WIDE_FRAMES}
use Rattle.model_core.specs.Machine.{Slab, Cache, Machine, layout, slab_block}
use Rattle.model_core.specs.Slabs.{cache_of, is_empty, empty_blocks}
use Rattle.model_core.specs.CacheOperations.{frames_of}
use Rattle.model_core.specs.WellFormed.{RisesFrom}
use Rattle.model_core.specs.Elements.{IsIn}
use Rattle.model_core.specs.Blocks.{Block}
use Rattle.machine_changes.proofs.Lookups.{some_none, at, at_here, at_past, in_found}
use Rattle.klist_core.specs.Places.{ArePlaces}
use Rattle.klist_core.specs.Lists.{keys_of}
use Rattle.space_core.specs.Content as spaces
use Rattle.buddy_core.specs.Content as buddies
use Rattle.slab_tables.specs.declared.cache.Cache as own
use Rattle.slab_tables.specs.Content.{Content, IsSlabs, cache_at, head_of, layout_numbers}
use Rattle.machine_changes.specs.Shows.{ShowsMachine, Agree}
use Rattle.machine_changes.specs.Steady.{IsSteady}
use Rattle.machine_changes.proofs.SlabFacts.{cache_shown, cache_kept}
use Rattle.machine_changes.proofs.KindLists.{kinds_hold}
use Rattle.slab_core.specs.Calls.{empty_frames_in}

pub frames_append : (f : Cache → List Block) (x : Cache) (xs : List Cache)
    → frames_of (flat_map f (x ∷ xs)) ≡ frames_of (f x) + frames_of (flat_map f xs)
frames_append f x xs = go (f x)
  where
    go : (bs : List Block) → frames_of (bs ++ flat_map f xs) ≡ frames_of bs + frames_of (flat_map f xs)
    go [] = omega arith
    go (b ∷ bs) = let more = go bs in omega arith

-- the slabs `ys` of cache c together have `length ys` times as many frames as one slab
pub frames_each : (c : Cache) (ys : List Slab) → frames_of (map (slab_block c) ys) ≡ length ys * 2 ^ (layout c).order
frames_each c [] = omega arith
frames_each c (y ∷ ys) = let more = frames_each c ys in omega arith

-- the caches of the list with numbers below c
abbrev pub below : ℕ → List Cache → List Cache
below c xs = filter (λ x. ltb x.number c) xs

below_none : (c k : ℕ) (xs : List Cache) → RisesFrom k (map (λ x. x.number) xs) → c ≤ k → below c xs ≡ []
below_none c k [] rises less = refl
below_none c k (x ∷ xs) (low, rises) less =
    ap (λ v. cond v (x ∷ below c xs) (below c xs)) (le-ltb x.number c (omega arith)) ∙ below_none c (x.number + 1) xs rises (omega arith)

none_at : (c k : ℕ) (xs : List Cache) → RisesFrom k (map (λ x. x.number) xs) → c < k → at (λ x. x.number) c xs ≡ None
none_at c k [] rises less = refl
none_at c k (x ∷ xs) (low, rises) less =
    at_past (λ y. y.number) c x xs (λ e. absurd (omega arith)) ∙ none_at c (x.number + 1) xs rises (omega arith)

abbrev sum_of : List Cache → ℕ
sum_of xs = frames_of (flat_map empty_blocks xs)

-- counting cache c as well adds the frames in its empty slabs to the count for the caches with numbers below c, or adds 0 if the
-- list has no cache c
pub frames_next : (c k : ℕ) (xs : List Cache) → RisesFrom k (map (λ x. x.number) xs)
    → frames_of (flat_map empty_blocks (below (c + 1) xs)) ≡ frames_of (flat_map empty_blocks (below c xs)) + empty_frames_in (at (λ x. x.number) c xs)
frames_next c k [] rises = refl
frames_next c k (x ∷ xs) (low, rises) = ⊎_elim (early (frames_next c (x.number + 1) xs rises)) (λ high. ⊎_elim here (late high) (cases_eq x.number c)) (cases_lt x.number c)
  where
    keep : (d : ℕ) → x.number < d → sum_of (below d (x ∷ xs)) ≡ frames_of (empty_blocks x) + sum_of (below d xs)
    keep d less = ap (λ v. sum_of (cond v (x ∷ below d xs) (below d xs))) (lt-ltb x.number d less) ∙ frames_append empty_blocks x (below d xs)

    drop : (d : ℕ) → d ≤ x.number → sum_of (below d (x ∷ xs)) ≡ 0
    drop d less = ap sum_of (ap (λ v. cond v (x ∷ below d xs) (below d xs)) (le-ltb x.number d less) ∙ below_none d (x.number + 1) xs rises (omega arith))

    early : (sum_of (below (c + 1) xs) ≡ sum_of (below c xs) + empty_frames_in (at (λ x. x.number) c xs)) → x.number < c
        → sum_of (below (c + 1) (x ∷ xs)) ≡ sum_of (below c (x ∷ xs)) + empty_frames_in (at (λ x. x.number) c (x ∷ xs))
    early more less =
        let one = keep (c + 1) (omega arith) in
        let two = keep c less in
        let found = ap empty_frames_in (at_past (λ y. y.number) c x xs (λ e. absurd (omega arith))) in
        omega arith

    here : x.number ≡ c → sum_of (below (c + 1) (x ∷ xs)) ≡ sum_of (below c (x ∷ xs)) + empty_frames_in (at (λ x. x.number) c (x ∷ xs))
    here e =
        let one = keep (c + 1) (omega arith) in
        let two = drop c (omega arith) in
        let rest = ap sum_of (below_none (c + 1) (x.number + 1) xs rises (omega arith)) in
        let found = ap empty_frames_in (at_here (λ y. y.number) c x xs e) in
        omega arith

    late : c ≤ x.number → (x.number ≡ c → ⊥) → sum_of (below (c + 1) (x ∷ xs)) ≡ sum_of (below c (x ∷ xs)) + empty_frames_in (at (λ x. x.number) c (x ∷ xs))
    late high differ =
        let one = drop (c + 1) (omega arith) in
        let two = drop c high in
        let found = ap empty_frames_in (at_past (λ y. y.number) c x xs differ ∙ none_at c (x.number + 1) xs rises (omega arith)) in
        omega arith

none_first : (xs : List Cache) → below 0 xs ≡ []
none_first [] = refl
none_first (x ∷ xs) = ap (λ v. cond v (x ∷ below 0 xs) (below 0 xs)) (le-ltb x.number 0 (omega arith)) ∙ none_first xs

pub frames_first : (xs : List Cache) → frames_of (flat_map empty_blocks (below 0 xs)) ≡ 0
frames_first xs = ap (λ ys. frames_of (flat_map empty_blocks ys)) (none_first xs)

-- if each cache of the list has a number below c, the caches below c are the whole list
pub below_all : (c : ℕ) (xs : List Cache) → ((x : Cache) → IsIn x xs → x.number < c) → below c xs ≡ xs
below_all c [] all = refl
below_all c (x ∷ xs) all =
    ap (λ v. cond v (x ∷ below c xs) (below c xs)) (lt-ltb x.number c (all x (inl refl)))
    ∙ ap (λ ys. x ∷ ys) (below_all c xs (λ y i. all y (inr i)))

-- the number of frames in up to WIDE_FRAMES slabs of order at most 3 fits in 32 bits
pub frames_few : (count order : ℕ) → count ≤ WIDE_FRAMES → order ≤ 3 → (count * 2 ^ order % 4294967296 ≡ count * 2 ^ order) × (count * 2 ^ order ≤ 8388608)
frames_few count order few small =
    let power : 2 ^ order ≤ 2 ^ 3 = pow-le-pow_right (omega arith) small in
    let rows : count * 2 ^ order ≤ count * 8 = mul-le-mul_left count power in
    (omega arith, omega arith)

-- the number of frames in a cache's empty slabs is the length of their list, times the number of frames in one slab
pub frames_counted : (s : Content) (t c count : ℕ) (cache : own.Cache) → IsSlabs s → ArePlaces s.lists → cache_at s t c ≡ Some cache
    → count ≡ length (keys_of s.lists.places (head_of t c 2)) → (r : spaces.Content) (b : buddies.Content) (m : Machine)
    → Agree r b s → IsSteady r b s t → ShowsMachine r b s t m → empty_frames_in (cache_of m c) ≡ count * 2 ^ (layout_numbers cache).order
frames_counted s t c count cache w table cached counted r b m a st h =
    let there = cache_shown r b s t m h c cache cached in
    let x : Cache = there.shown in
    let keys = kinds_hold s w table r b t c 2 m x a st h there.cached (omega arith) in
    let long : count ≡ length (filter is_empty x.slabs) = counted ∙ ap length keys ∙ length-map (filter is_empty x.slabs) (λ y. y.first) in
    ap empty_frames_in there.cached ∙ frames_each x (filter is_empty x.slabs)
    ∙ ap (λ n. n * 2 ^ (layout x).order) (sym long) ∙ ap (λ l. count * 2 ^ l.order) there.layout

-- if the tables have no cache of tenant t with number `end` or above, every cache of its machine has a number below `end`
pub numbers_below : (r : spaces.Content) (b : buddies.Content) (s : Content) (t end : ℕ) (m : Machine) → ((c : ℕ) → end ≤ c → cache_at s t c ≡ None)
    → ShowsMachine r b s t m → (x : Cache) → IsIn x m.caches → x.number < end
numbers_below r b s t end m none h x i =
    let there = cache_kept r b s t m h x.number x (in_found (λ y. y.number) 0 x m.caches h.caches_rise i) in
    ⊎_elim (λ low. low) (λ high. absurd (some_none (sym there.cached ∙ none x.number high))) (cases_lt x.number end)
