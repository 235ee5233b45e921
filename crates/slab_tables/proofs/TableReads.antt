-- Lookups in the tables by tenant and cache number, and by machine frame.
use Rattle.std.proofs.Common.{◌≡◌, ℕ, ◌/◌, ◌%◌, ◌<◌, ◌≤◌, Bool, true, false, cond, eqb, Option, Some, None, length, sym, ap, ◌∙◌, subst, inl, inr, arith}
use Rattle.std.specs.Prelude.{IsSome}
use Rattle.std.proofs.lemmas.Bool.{cases_lt, lt-ltb, le-ltb, ne_eqb, false≢true}
use Rattle.klist_core.specs.Places.{place_at}
use Rattle.model_core.specs.declared.limits.TheConstants.{MAX_CACHES}
use Rattle.slab_tables.specs.declared.cache.Cache.{Cache}
use Rattle.slab_tables.specs.declared.tables.Tables.TheInside.{Inside}
use Rattle.slab_tables.specs.Content.{Content, IsSlabs, IsListed, IsTenant, IsPlacedIn, kept_at, cache_in, cache_at, index_of_cache, head_of, kind_of, layout_numbers}

-- what callers see of the tables
abbrev pub shown : Inside → Content
shown a = record { top = a.order; lists = a.lists; kept = a.kept.items; caches = a.caches.items; live = a.live.items }

-- if one lookup returns both c and d, they are equal
pub same_cache : {c d : Cache} {o : Option Cache} → o ≡ Some c → o ≡ Some d → c ≡ d
same_cache {c} {d} {o} a b = cc

pub same_place : {g k h k' : ℕ} {o : Option (ℕ × ℕ)} → o ≡ Some (g, k) → o ≡ Some (h, k') → (g ≡ h) × (k ≡ k')
same_place {g} {k} {h} {k'} {o} a b = let e : ◌≡◌ {A = ℕ × ℕ} (g, k) (h, k') = cc in (ap (λ (p : ℕ × ℕ). p.0) e, ap (λ (p : ℕ × ℕ). p.1) e)

-- an existing cache has a number below `MAX_CACHES`, and is in the table at its index
pub record IsCached (s : Content) (t c : ℕ) (cache : Cache) : Type 0 where
  pub below : c < MAX_CACHES
  pub cached : cache_in s.caches (index_of_cache t c) ≡ Some cache

pub cached : (s : Content) (t c : ℕ) (cache : Cache) → cache_at s t c ≡ Some cache → IsCached s t c cache
cached s t c cache e = elim (cases_lt c MAX_CACHES) [
  | inl lt ↦ record { below = lt; cached = sym (ap (λ b. cond b (cache_in s.caches (index_of_cache t c)) None) (lt-ltb c MAX_CACHES lt)) ∙ e }
  | inr ge ↦ let none : cache_at s t c ≡ None = ap (λ b. cond b (cache_in s.caches (index_of_cache t c)) None) (le-ltb c MAX_CACHES ge) in absurd (let f : ◌≡◌ {A = Option Cache} None (Some cache) = sym none ∙ e in cc)
]

-- dividing the number of a list by 3 gives the index of its cache, and the remainder is the kind of its slabs
pub head_parts : (t c kind : ℕ) → kind < 3 → (head_of t c kind / 3 ≡ index_of_cache t c) × (head_of t c kind % 3 ≡ kind)
head_parts t c kind lt = (omega arith, omega arith)

-- a slab in one of the three lists of cache c of tenant t is a slab of that cache
pub placed_at : (s : Content) (t c head key machine_frame : ℕ) → place_at s.lists.places machine_frame ≡ Some (head, key) → head / 3 ≡ index_of_cache t c → IsPlacedIn s t c key machine_frame
placed_at s t c head key machine_frame e is =
    let parts : head ≡ head_of t c (head % 3) = omega arith in
    record { kind = head % 3; few = omega arith; placed = e ∙ ap (λ (x : ℕ). Some (x, key)) parts }

-- each cache number of a tenant has an index within the table of caches
pub cache_within : (s : Content) (t c : ℕ) → IsTenant s t → c < MAX_CACHES → index_of_cache t c < length s.caches
cache_within s t c tenant lt = omega (arith, tenant)

pub some_below : (s : Content) (t c : ℕ) → IsSome (cache_at s t c) → c < MAX_CACHES
some_below s t c some = elim (cases_lt c MAX_CACHES) [
  | inl lt ↦ lt
  | inr ge ↦ absurd (false≢true (subst IsSome (ap (λ b. cond b (cache_in s.caches (index_of_cache t c)) None) (le-ltb c MAX_CACHES ge)) some))
]

-- the stored state of a slab of the cache fits the cache and the slab's list
pub listed : (s : Content) → IsSlabs s → (t c first machine_frame : ℕ) (cache : Cache) → cache_at s t c ≡ Some cache → (kind : ℕ) → kind < 3
    → place_at s.lists.places machine_frame ≡ Some (head_of t c kind, first) → IsListed (kept_at s.kept machine_frame) cache (head_of t c kind)
listed s w t c first machine_frame cache e kind lt placed =
    let k = w.standing machine_frame (head_of t c kind) first placed in
    let same : k.0 ≡ cache = same_cache (sym (ap (cache_in s.caches) (head_parts t c kind lt).0) ∙ k.1) (cached s t c cache e).cached in
    subst (λ x. IsListed (kept_at s.kept machine_frame) x (head_of t c kind)) same k.2

-- a slab is in the list of its kind
pub placed_by_kind : (s : Content) → IsSlabs s → (t c first machine_frame : ℕ) (cache : Cache) → cache_at s t c ≡ Some cache → IsPlacedIn s t c first machine_frame
    → place_at s.lists.places machine_frame ≡ Some (head_of t c (kind_of (layout_numbers cache).count (kept_at s.kept machine_frame).live), first)
placed_by_kind s w t c first machine_frame cache e slab =
    let stands = listed s w t c first machine_frame cache e slab.kind slab.few slab.placed in
    slab.placed ∙ ap (λ (k : ℕ). Some (head_of t c k, first)) (sym (head_parts t c slab.kind slab.few).1 ∙ stands.kind)

-- no slab has more than 256 live objects
pub few_live : (s : Content) → IsSlabs s → (i head key : ℕ) → place_at s.lists.places i ≡ Some (head, key) → (kept_at s.kept i).live ≤ 256
few_live s w i head key e =
    let k = w.standing i head key e in
    let fit = ((w.fits (head / 3) k.0 k.1).layout.fits 0).few in
    omega (arith, k.2.few)

-- the number of a kind is below 3, and a slab without live objects is empty
pub kind_below : (count live : ℕ) → kind_of count live < 3
kind_below count live = kind (eqb live count) (eqb live 0)
  where
    kind : (a b : Bool) → cond a 0 (cond b 2 1) < 3
    kind true b = omega arith
    kind false true = omega arith
    kind false false = omega arith

pub kind_fresh : (count : ℕ) → 0 < count → kind_of count 0 ≡ 2
kind_fresh count lt = ap (λ b. cond b 0 2) (ne_eqb 0 count (λ e. omega arith))
