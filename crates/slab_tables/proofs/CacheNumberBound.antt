-- `AreBelow` says that each tenant's bound is greater than the numbers of all its caches. It stays true when caches change.
use Rattle.std.proofs.Common.{◌≡◌, ℕ, ◌*◌, ◌/◌, ◌%◌, ◌<◌, ◌≤◌, List, Option, Some, None, length, get_or, set, replicate, sym, ap, ◌∙◌, inl, inr, arith}
use Rattle.std.proofs.lemmas.Bool.{cases_eq}
use Rattle.std.proofs.lemmas.List.{length-set, length-replicate, get_or-set_same, get_or-set_other}
use Rattle.model_core.specs.declared.limits.TheConstants.{MAX_CACHES}
use Rattle.model_core.proofs.Lists.{everywhere}
use Rattle.slab_tables.specs.declared.cache.Cache.{Cache}
use Rattle.slab_tables.specs.Content.{AreBelow, cache_in, index_of_cache}

-- `AreBelow` holds after entry i of the caches is replaced by o, if o is `None` or the entry's cache number is below the bound of
-- its tenant
pub below_cache : (cs : List (Option Cache)) (bs : List ℕ) (i : ℕ) (o : Option Cache) → i < length cs → (get_or bs (i / MAX_CACHES) 0 ≤ i % MAX_CACHES → o ≡ None)
    → AreBelow cs bs → AreBelow (set cs i o) bs
below_cache cs bs i o lt none a = record {
  tenants = length-set cs i o ∙ a.tenants;
  few = a.few;
  none = λ n le. elim (cases_eq n i) [
    | inl is ↦ ap (cache_in (set cs i o)) is ∙ get_or-set_same cs i o None lt ∙ none (let at = ap (λ j. get_or bs (j / MAX_CACHES) 0) is in omega arith)
    | inr ne ↦ get_or-set_other cs i n o None ne ∙ a.none n le
  ];
}

-- the number of an existing cache is below its tenant's bound, so `below_cache` allows any new entry o for this cache
pub below_standing : (cs : List (Option Cache)) (bs : List ℕ) (i : ℕ) (c : Cache) → cache_in cs i ≡ Some c → AreBelow cs bs
    → (o : Option Cache) → get_or bs (i / MAX_CACHES) 0 ≤ i % MAX_CACHES → o ≡ None
below_standing cs bs i c is a o le = absurd (let f : ◌≡◌ {A = Option Cache} None (Some c) = sym (a.none i le) ∙ is in cc)

-- If b is at most `MAX_CACHES`, and tenant t has no cache with number b or above, `AreBelow` holds after the bound of t is
-- replaced by b.
pub below_number : (cs : List (Option Cache)) (bs : List ℕ) (t b : ℕ) → t < length bs → b ≤ MAX_CACHES
    → ((c : ℕ) → b ≤ c → c < MAX_CACHES → cache_in cs (index_of_cache t c) ≡ None) → AreBelow cs bs → AreBelow cs (set bs t b)
below_number cs bs t b lt few none a = record {
  tenants = a.tenants ∙ ap (λ n. MAX_CACHES * n) (sym (length-set bs t b));
  few = λ u. elim (cases_eq u t) [
    | inl is ↦ let here = ap (λ j. get_or (set bs t b) j 0) is ∙ get_or-set_same bs t b 0 lt in omega arith
    | inr ne ↦ let there = get_or-set_other bs t u b 0 ne in omega (arith, a.few u)
  ];
  none = λ n le. elim (cases_eq (n / MAX_CACHES) t) [
    | inl is ↦
        let here = ap (λ j. get_or (set bs t b) j 0) is ∙ get_or-set_same bs t b 0 lt in
        let at : n ≡ index_of_cache t (n % MAX_CACHES) = omega arith in
        ap (cache_in cs) at ∙ none (n % MAX_CACHES) (omega arith) (omega arith)
    | inr ne ↦ let there = get_or-set_other bs t (n / MAX_CACHES) b 0 ne in a.none n (omega arith)
  ];
}

-- a cache's index divided by `MAX_CACHES` is the number of its tenant
own_number : (t c : ℕ) → c < MAX_CACHES → index_of_cache t c / MAX_CACHES ≡ t
own_number t c less = omega arith

-- `AreBelow` holds after the entry of a cache is replaced, if the cache's number is below its tenant's bound
pub below_used : (cs : List (Option Cache)) (bs : List ℕ) (t c : ℕ) (o : Option Cache) → t < length bs → c < get_or bs t 0 → c < MAX_CACHES
    → AreBelow cs bs → AreBelow (set cs (index_of_cache t c) o) bs
below_used cs bs t c o lt below less a =
    below_cache cs bs (index_of_cache t c) o (omega (arith, lt, less, a.tenants))
    (λ le. let here = ap (λ j. get_or bs j 0) (own_number t c less) in absurd (omega (arith, le, here, below, less))) a

-- If b is above c and at most `MAX_CACHES`, `AreBelow` holds after the entry of cache c is replaced and its tenant's bound is
-- raised to b.
pub below_more : (cs : List (Option Cache)) (bs : List ℕ) (t c b : ℕ) (o : Option Cache) → t < length bs → c < b → get_or bs t 0 ≤ b → b ≤ MAX_CACHES
    → AreBelow cs bs → AreBelow (set cs (index_of_cache t c) o) (set bs t b)
below_more cs bs t c b o lt over from few a =
    below_used cs (set bs t b) t c o (omega (arith, lt, length-set bs t b)) (omega (arith, over, get_or-set_same bs t b 0 lt)) (omega (arith, over, few))
    (below_number cs bs t b lt few (λ d le less. a.none (index_of_cache t d) (let at = ap (λ j. get_or bs j 0) (own_number t d less) in omega (arith, at, from, le))) a)

-- `AreBelow` holds for tables without caches, if each tenant's bound is 0
pub below_opening : (tenants : ℕ) → AreBelow (replicate (MAX_CACHES * tenants) None) (replicate tenants 0)
below_opening tenants = record {
  tenants = length-replicate (MAX_CACHES * tenants) uncached ∙ ap (λ n. MAX_CACHES * n) (sym (length-replicate tenants zero_of));
  few = λ t. let e = everywhere zero_of tenants t in omega arith;
  none = λ n le. everywhere uncached (MAX_CACHES * tenants) n;
}
  where
    uncached : Option Cache
    uncached = None

    zero_of : ℕ
    zero_of = 0
