-- Removing a cache with all its slabs keeps the invariant of the tables. Removing all caches of a tenant resets the tenant.
use Rattle.std.proofs.Common.{◌≡◌, ℕ, ◌+◌, ◌*◌, ◌/◌, ◌%◌, ◌<◌, ◌≤◌, ◌⊎◌, Bool, true, false, cond, eqb, ltb, ◌&&◌, ◌||◌, Option, Some, None, length, get_or, set, refl, sym, ap, ◌∙◌, inl, inr, arith}
use Rattle.std.proofs.lemmas.Bool.{cases_eq, cases_lt, eqb-true, eqb-false, eq-eqb, ne_eqb, lt-ltb, le-ltb}
use Rattle.std.proofs.lemmas.List.{length-set, get_or-set_same, get_or-set_other}
use Rattle.klist_core.specs.Places.{Placed, place_at, is_in}
use Rattle.model_core.specs.declared.limits.TheConstants.{MAX_CACHES}
use Rattle.slab_tables.specs.declared.cache.Cache.{Cache}
use Rattle.slab_tables.specs.Content.{Content, IsSlabs, cache_in, cache_at, index_of_cache, is_of_index, live_total}
use Rattle.slab_tables.specs.Changes.{IsEmptied, IsCleared, IsReset, unless_gone}
use Rattle.slab_tables.proofs.LiveTotals.{total_along, total_none}

abbrev pub this : ℕ → ℕ → Bool
this i n = eqb n i

-- emptying the three lists of a cache removes all its slabs and no others

abbrev without : ℕ → Option (ℕ × ℕ) → Option (ℕ × ℕ)
without h o = cond (is_in h o) None o

hit : (h g k : ℕ) → g ≡ h → without h (Some (g, k)) ≡ None
hit h g k e = ap (λ b. cond b None (Some (g, k))) (eq-eqb g h e)

miss : (h g k : ℕ) → (g ≡ h → ⊥) → without h (Some (g, k)) ≡ Some (g, k)
miss h g k ne = ap (λ b. cond b None (Some (g, k))) (ne_eqb g h ne)

emptied_thrice : (i : ℕ) (o : Option (ℕ × ℕ)) → without (3 * i + 2) (without (3 * i + 1) (without (3 * i) o)) ≡ unless_gone (this i) o
emptied_thrice i None = refl
emptied_thrice i (Some (g, k)) = elim (cases_eq (g / 3) i) [
  | inl is ↦ gone is ∙ sym (ap (λ b. cond b None (Some (g, k))) (eq-eqb (g / 3) i is))
  | inr ne ↦
      ap (λ o. without (3 * i + 2) (without (3 * i + 1) o)) (miss (3 * i) g k (λ e. ne (omega arith)))
      ∙ (ap (without (3 * i + 2)) (miss (3 * i + 1) g k (λ e. ne (omega arith)))
      ∙ (miss (3 * i + 2) g k (λ e. ne (omega arith)) ∙ sym (ap (λ b. cond b None (Some (g, k))) (ne_eqb (g / 3) i ne))))
]
  where
    gone : g / 3 ≡ i → without (3 * i + 2) (without (3 * i + 1) (without (3 * i) (Some (g, k)))) ≡ None
    gone is = elim (cases_eq g (3 * i)) [
      | inl a ↦ ap (λ o. without (3 * i + 2) (without (3 * i + 1) o)) (hit (3 * i) g k a)
      | inr a ↦ ap (λ o. without (3 * i + 2) (without (3 * i + 1) o)) (miss (3 * i) g k a) ∙ elim (cases_eq g (3 * i + 1)) [
        | inl b ↦ ap (without (3 * i + 2)) (hit (3 * i + 1) g k b)
        | inr b ↦ ap (without (3 * i + 2)) (miss (3 * i + 1) g k b) ∙ hit (3 * i + 2) g k (omega arith)
      ]
    ]

pub emptied_all : (s a b z : Placed) (i : ℕ) → IsEmptied s a (3 * i) → IsEmptied a b (3 * i + 1) → IsEmptied b z (3 * i + 2)
    → (n : ℕ) → place_at z.places n ≡ unless_gone (this i) (place_at s.places n)
emptied_all s a b z i x y w n =
    w.places n ∙ (ap (without (3 * i + 2)) (y.places n) ∙ (ap (λ o. without (3 * i + 2) (without (3 * i + 1) o)) (x.places n) ∙ emptied_thrice i (place_at s.places n)))

-- the place is `Some (head, key)`, and the cache that has list `head` is not removed
pub record IsLeft (gone : ℕ → Bool) (o : Option (ℕ × ℕ)) (head key : ℕ) : Type 0 where
  pub here : o ≡ Some (head, key)
  pub stays : gone (head / 3) ≡ false

pub left : (gone : ℕ → Bool) (o : Option (ℕ × ℕ)) (head key : ℕ) → unless_gone gone o ≡ Some (head, key) → IsLeft gone o head key
left gone None head key e = absurd (let f : ◌≡◌ {A = Option (ℕ × ℕ)} None (Some (head, key)) = e in cc)
left gone (Some (g, k)) head key e = go (gone (g / 3)) refl e
  where
    go : (b : Bool) → gone (g / 3) ≡ b → cond {A = Option (ℕ × ℕ)} b None (Some (g, k)) ≡ Some (head, key) → IsLeft gone (Some (g, k)) head key
    go true q f = absurd (let f' : ◌≡◌ {A = Option (ℕ × ℕ)} None (Some (head, key)) = f in cc)
    go false q f =
        let p : ◌≡◌ {A = ℕ × ℕ} (g, k) (head, key) = cc in
        record { here = f; stays = sym (ap (λ (x : ℕ × ℕ). gone (x.0 / 3)) p) ∙ q }

index_gone : (i : ℕ) (o : Option (ℕ × ℕ)) → is_of_index i (unless_gone (this i) o) ≡ false
index_gone i None = refl
index_gone i (Some (g, k)) = go (eqb (g / 3) i) refl
  where
    go : (b : Bool) → eqb (g / 3) i ≡ b → is_of_index i (cond b None (Some (g, k))) ≡ false
    go true q = refl
    go false q = q

index_stays : (i n : ℕ) (o : Option (ℕ × ℕ)) → (n ≡ i → ⊥) → is_of_index n (unless_gone (this i) o) ≡ is_of_index n o
index_stays i n None ne = refl
index_stays i n (Some (g, k)) ne = go (eqb (g / 3) i) refl
  where
    go : (b : Bool) → eqb (g / 3) i ≡ b → is_of_index n (cond b None (Some (g, k))) ≡ is_of_index n (Some (g, k))
    go true q = sym (ne_eqb (g / 3) n (λ e. ne (sym e ∙ eqb-true (g / 3) i q)))
    go false q = refl

-- the tables with these lists and without the cache at index i, whose count of live objects is set to 0
abbrev pub cleared : Content → ℕ → Placed → Content
cleared s i lists = record { top = s.top; lists = lists; kept = s.kept; caches = set s.caches i None; live = set s.live i 0 }

pub slabs_cleared : (s : Content) (i : ℕ) (lists : Placed) → IsSlabs s → i < length s.caches → lists.heads ≡ s.lists.heads → length lists.places ≡ length s.lists.places
    → ((n : ℕ) → place_at lists.places n ≡ unless_gone (this i) (place_at s.lists.places n)) → IsSlabs (cleared s i lists)
slabs_cleared s i lists w lt heads machine_frames places = record {
  order = w.order;
  paired = w.paired ∙ sym machine_frames;
  small = omega (arith, w.small, machine_frames);
  superblocks = omega (arith, w.superblocks, machine_frames);
  few = omega (arith, w.few, length-set s.caches i None);
  heads = omega (arith, heads, w.heads, length-set s.caches i None);
  totals = length-set s.live i 0 ∙ (w.totals ∙ sym (length-set s.caches i None));
  fits = λ n c e. elim (cases_eq n i) [
    | inl is ↦ absurd (let f : ◌≡◌ {A = Option Cache} None (Some c) = sym (ap (cache_in (set s.caches i None)) is ∙ get_or-set_same s.caches i None None lt) ∙ e in cc)
    | inr ne ↦ w.fits n c (sym (get_or-set_other s.caches i n None None ne) ∙ e)
  ];
  standing = λ machine_frame head key e.
      let l = left (this i) (place_at s.lists.places machine_frame) head key (sym (places machine_frame) ∙ e) in
      let x = w.standing machine_frame head key l.here in
      (x.0, get_or-set_other s.caches i (head / 3) None None (eqb-false (head / 3) i l.stays) ∙ x.1, x.2);
  counted = λ n below. counted n (omega (arith, length-set s.caches i None));
}
  where
    counted : (n : ℕ) → n < length s.caches → get_or (set s.live i 0) n 0 ≡ live_total n lists.places s.kept
    counted n below = elim (cases_eq n i) [
      | inl is ↦
          ap (λ x. get_or (set s.live i 0) x 0) is ∙ (get_or-set_same s.live i 0 0 (omega (arith, w.totals))
          ∙ sym (total_none n lists.places s.kept (λ k. ap (is_of_index n) (places k) ∙ (ap (λ x. is_of_index x (unless_gone (this i) (place_at s.lists.places k))) is ∙ index_gone i (place_at s.lists.places k)))))
      | inr ne ↦
          get_or-set_other s.live i n 0 0 ne ∙ (w.counted n below
          ∙ sym (total_along n s.lists.places lists.places s.kept machine_frames (λ k. ap (is_of_index n) (places k) ∙ index_stays i n (place_at s.lists.places k) ne)))
    ]

-- The caches of tenant t with numbers below c are removed one after the other.

abbrev pub those_below : ℕ → ℕ → ℕ → Bool
those_below t c n = eqb (n / MAX_CACHES) t && ltb (n % MAX_CACHES) c

abbrev pub IsEither : (ℕ → Bool) → (ℕ → Bool) → (ℕ → Bool) → Type 0
IsEither f g h = (n : ℕ) → h n ≡ (f n || g n)

unless_either : (f g h : ℕ → Bool) (o : Option (ℕ × ℕ)) → IsEither f g h → unless_gone g (unless_gone f o) ≡ unless_gone h o
unless_either f g h None e = refl
unless_either f g h (Some (x, k)) e = go (f (x / 3)) refl ∙ sym (ap (λ b. cond b None (Some (x, k))) (e (x / 3)))
  where
    go : (b : Bool) → f (x / 3) ≡ b → unless_gone g (cond b None (Some (x, k))) ≡ cond (b || g (x / 3)) None (Some (x, k))
    go true q = refl
    go false q = refl

pub cleared_more : (s s' s'' : Content) (f g h : ℕ → Bool) → IsCleared s s' f → IsCleared s' s'' g → IsEither f g h → IsCleared s s'' h
cleared_more s s' s'' f g h a b e = record {
  top = b.top ∙ a.top;
  heads = b.heads ∙ a.heads;
  machine_frames = b.machine_frames ∙ a.machine_frames;
  places = λ n. b.places n ∙ (ap (unless_gone g) (a.places n) ∙ unless_either f g h (place_at s.lists.places n) e);
  kept = b.kept ∙ a.kept;
  tenants = b.tenants ∙ a.tenants;
  caches = λ n. b.caches n ∙ (ap (λ (o : Option Cache). cond (g n) None o) (a.caches n) ∙ (both (f n) (g n) n ∙ sym (ap (λ x. cond x None (cache_in s.caches n)) (e n))));
}
  where
    both : (x y : Bool) (n : ℕ) → cond y None (cond x None (cache_in s.caches n)) ≡ cond (x || y) None (cache_in s.caches n)
    both true true n = refl
    both true false n = refl
    both false true n = refl
    both false false n = refl

pub cleared_none : (s : Content) (t : ℕ) → IsCleared s s (those_below t 0)
cleared_none s t = record {
  top = refl;
  heads = refl;
  machine_frames = refl;
  places = λ n. sym (unless_none (place_at s.lists.places n));
  kept = refl;
  tenants = refl;
  caches = λ n. sym (ap (λ b. cond b None (cache_in s.caches n)) (none n));
}
  where
    none : (n : ℕ) → those_below t 0 n ≡ false
    none n = go (eqb (n / MAX_CACHES) t)
      where
        go : (b : Bool) → (b && ltb (n % MAX_CACHES) 0) ≡ false
        go true = le-ltb (n % MAX_CACHES) 0 (omega arith)
        go false = refl

    unless_none : (o : Option (ℕ × ℕ)) → unless_gone (those_below t 0) o ≡ o
    unless_none None = refl
    unless_none (Some (g, k)) = ap (λ b. cond b None (Some (g, k))) (none (g / 3))

pub one_more : (t c : ℕ) → c < MAX_CACHES → IsEither (those_below t c) (this (index_of_cache t c)) (those_below t (c + 1))
one_more t c lt n = elim (cases_eq (n / MAX_CACHES) t) [
  | inl is ↦ inside is
  | inr ne ↦ ap (λ b. b && ltb (n % MAX_CACHES) (c + 1)) (ne_eqb (n / MAX_CACHES) t ne)
      ∙ sym (ap (λ b. (b && ltb (n % MAX_CACHES) c) || this (index_of_cache t c) n) (ne_eqb (n / MAX_CACHES) t ne)
      ∙ ne_eqb n (index_of_cache t c) (λ e. ne (omega arith)))
]
  where
    inside : n / MAX_CACHES ≡ t → those_below t (c + 1) n ≡ (those_below t c n || this (index_of_cache t c) n)
    inside is = ap (λ b. b && ltb (n % MAX_CACHES) (c + 1)) (eq-eqb (n / MAX_CACHES) t is)
        ∙ (by_number
        ∙ sym (ap (λ b. (b && ltb (n % MAX_CACHES) c) || this (index_of_cache t c) n) (eq-eqb (n / MAX_CACHES) t is)))
      where
        by_number : ltb (n % MAX_CACHES) (c + 1) ≡ (ltb (n % MAX_CACHES) c || eqb n (index_of_cache t c))
        by_number = elim (cases_lt (n % MAX_CACHES) c) [
          | inl below ↦ lt-ltb (n % MAX_CACHES) (c + 1) (omega arith) ∙ sym (ap (λ b. b || eqb n (index_of_cache t c)) (lt-ltb (n % MAX_CACHES) c below))
          | inr from ↦ elim (cases_eq n (index_of_cache t c)) [
            | inl same ↦ lt-ltb (n % MAX_CACHES) (c + 1) (omega arith)
                ∙ sym (ap (λ b. b || eqb n (index_of_cache t c)) (le-ltb (n % MAX_CACHES) c from) ∙ eq-eqb n (index_of_cache t c) same)
            | inr other ↦ le-ltb (n % MAX_CACHES) (c + 1) (omega arith)
                ∙ sym (ap (λ b. b || eqb n (index_of_cache t c)) (le-ltb (n % MAX_CACHES) c from) ∙ ne_eqb n (index_of_cache t c) other)
          ]
        ]

-- if tenant t has no cache with number c or above, removing all its caches with numbers below c resets the tenant
pub cleared_all : (s s' : Content) (t c : ℕ) → IsSlabs s → ((d : ℕ) → c ≤ d → cache_at s t d ≡ None) → IsCleared s s' (those_below t c) → IsReset s s' t
cleared_all s s' t c w none a = record {
  top = a.top;
  heads = a.heads;
  machine_frames = a.machine_frames;
  places = λ n. a.places n ∙ place_same n (place_at s.lists.places n) refl;
  kept = a.kept;
  tenants = a.tenants;
  caches = λ n. a.caches n ∙ cache_same n;
}
  where
    -- the tenant has no cache with number c or above
    vacant : (n : ℕ) → n / MAX_CACHES ≡ t → c ≤ n % MAX_CACHES → cache_in s.caches n ≡ None
    vacant n own from =
        let at : n ≡ index_of_cache t (n % MAX_CACHES) = omega arith in
        ap (cache_in s.caches) at ∙ (sym (ap (λ b. cond b (cache_in s.caches (index_of_cache t (n % MAX_CACHES))) None) (lt-ltb (n % MAX_CACHES) MAX_CACHES (omega arith)))
        ∙ none (n % MAX_CACHES) from)

    same : (n : ℕ) → (n / MAX_CACHES ≡ t → c ≤ n % MAX_CACHES → ⊥) → those_below t c n ≡ eqb (n / MAX_CACHES) t
    same n high = go (cases_eq (n / MAX_CACHES) t)
      where
        go : (n / MAX_CACHES ≡ t) ⊎ (n / MAX_CACHES ≡ t → ⊥) → those_below t c n ≡ eqb (n / MAX_CACHES) t
        go (inl is) = elim (cases_lt (n % MAX_CACHES) c) [
          | inl lt ↦ ap (λ b. eqb (n / MAX_CACHES) t && b) (lt-ltb (n % MAX_CACHES) c lt) ∙ (ap (λ b. b && true) (eq-eqb (n / MAX_CACHES) t is) ∙ sym (eq-eqb (n / MAX_CACHES) t is))
          | inr ge ↦ absurd (high is ge)
        ]
        go (inr ne) = ap (λ b. b && ltb (n % MAX_CACHES) c) (ne_eqb (n / MAX_CACHES) t ne) ∙ sym (ne_eqb (n / MAX_CACHES) t ne)

    some_differs : {x : Cache} {o : Option Cache} → o ≡ None → o ≡ Some x → ⊥
    some_differs {x} {o} e f = absurd (let g : ◌≡◌ {A = Option Cache} None (Some x) = sym e ∙ f in cc)

    place_same : (n : ℕ) (o : Option (ℕ × ℕ)) → place_at s.lists.places n ≡ o → unless_gone (those_below t c) o ≡ unless_gone (λ i. eqb (i / MAX_CACHES) t) o
    place_same n None e = refl
    place_same n (Some (g, k)) e =
        let x = w.standing n g k e in
        ap (λ b. cond b None (Some (g, k))) (same (g / 3) (λ own from. some_differs (vacant (g / 3) own from) x.1))

    cache_same : (n : ℕ) → cond (those_below t c n) None (cache_in s.caches n) ≡ cond (eqb (n / MAX_CACHES) t) None (cache_in s.caches n)
    cache_same n = by_value (cache_in s.caches n) refl
      where
        by_value : (o : Option Cache) → cache_in s.caches n ≡ o → cond (those_below t c n) None o ≡ cond (eqb (n / MAX_CACHES) t) None o
        by_value None e = both (those_below t c n) (eqb (n / MAX_CACHES) t)
          where
            both : (a b : Bool) → cond {A = Option Cache} a None None ≡ cond b None None
            both true true = refl
            both true false = refl
            both false true = refl
            both false false = refl
        by_value (Some x) e = ap (λ b. cond b None (Some x)) (same n (λ own from. some_differs (vacant n own from) e))
