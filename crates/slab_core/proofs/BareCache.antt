-- If the entry of a cache without slabs changes, the parts still agree and show the machine with its new list of caches.
use Rattle.std.proofs.Common.{◌≡◌, ◌≢◌, ℕ, ◌/◌, ◌<◌, ◌≤◌, false, cond, eqb, ltb, List, [], map, length, Some, None, refl, sym, ap, ◌∙◌, subst, ⊎_elim, arith}
use Rattle.std.specs.Prelude.{Option, option_map, find, ◌&&◌}
use Rattle.std.proofs.lemmas.Bool.{cases_eq, cases_lt, false≢true, lt-ltb, le-ltb, ne_eqb}
use Rattle.std.proofs.lemmas.List.{length-set, get_or-set_same, get_or-set_other}
use Rattle.model_core.specs.Machine.{Machine, Cache}
use Rattle.model_core.specs.Slabs.{cache_of}
use Rattle.model_core.specs.WellFormed.{RisesFrom}
use Rattle.model_core.specs.declared.limits.TheConstants.{MAX_CACHES}
use Rattle.klist_core.specs.Places.{place_at}
use Rattle.space_core.specs.Content as spaces
use Rattle.buddy_core.specs.Content as buddies
use Rattle.slab_tables.specs.declared.cache.Cache as own
use Rattle.slab_tables.specs.Content.{Content, kept_at, cache_in, cache_at, index_of_cache}
use Rattle.slab_tables.specs.Changes.{with_cache}
use Rattle.machine_changes.specs.Shows.{machine_frame_of, live_of, is_of_cache, slab_placed, slab_under, slab_at, bare, without_slabs, IsSlab, ShowsMachine, Agree}
use Rattle.machine_changes.specs.Keeps.{Keeps}
use Rattle.machine_changes.proofs.PageHoldings.{same_space}
use Rattle.machine_changes.proofs.Lookups.{at}

-- no slab is in a list of the cache with index i
abbrev pub IsBare : Content → ℕ → Type 0
IsBare s i = (n head key : ℕ) → place_at s.lists.places n ≡ Some (head, key) → head / 3 ≢ i

not_of : (s : Content) (i f n : ℕ) → IsBare s i → is_of_cache i f (place_at s.lists.places n) ≡ false
not_of s i f n none = go (place_at s.lists.places n) refl
  where
    go : (p : Option (ℕ × ℕ)) → place_at s.lists.places n ≡ p → is_of_cache i f p ≡ false
    go None e = refl
    go (Some p) e = ap (λ v. v && eqb p.1 f) (ne_eqb (p.0 / 3) i (none n p.0 p.1 e))

module _ (s : Content) (t c : ℕ) (o : Option own.Cache) (small : c < MAX_CACHES) (within : index_of_cache t c < length s.caches) where
  pub cache_here : cache_at (with_cache s t c o) t c ≡ o
  cache_here =
      ap (λ v. cond v (cache_in (with_cache s t c o).caches (index_of_cache t c)) None) (lt-ltb c MAX_CACHES small)
      ∙ get_or-set_same s.caches (index_of_cache t c) o None within

  pub in_other : (i : ℕ) → i ≢ index_of_cache t c → cache_in (with_cache s t c o).caches i ≡ cache_in s.caches i
  in_other i differ = get_or-set_other s.caches (index_of_cache t c) i o None differ

  at_other : (u d : ℕ) → (d < MAX_CACHES → index_of_cache u d ≢ index_of_cache t c) → cache_at (with_cache s t c o) u d ≡ cache_at s u d
  at_other u d differ = ⊎_elim below above (cases_lt d MAX_CACHES)
    where
      below : d < MAX_CACHES → cache_at (with_cache s t c o) u d ≡ cache_at s u d
      below less = ap (λ x. cond (ltb d MAX_CACHES) x None) (in_other (index_of_cache u d) (differ less))

      above : MAX_CACHES ≤ d → cache_at (with_cache s t c o) u d ≡ cache_at s u d
      above more =
          ap (λ v. cond v (cache_in (with_cache s t c o).caches (index_of_cache u d)) None) (le-ltb d MAX_CACHES more)
          ∙ sym (ap (λ v. cond v (cache_in s.caches (index_of_cache u d)) None) (le-ltb d MAX_CACHES more))

  pub cache_there : (d : ℕ) → d ≢ c → cache_at (with_cache s t c o) t d ≡ cache_at s t d
  cache_there d differ = at_other t d (λ less e. differ (omega arith))

  pub cache_others : (r : spaces.Content) (b : buddies.Content) (u : ℕ) → u ≢ t → Keeps r r b b s (with_cache s t c o) u
  cache_others r b u differ = record {
    space = same_space u r;
    buddy = refl;
    slabs = record {
      top = refl;
      caches = λ d. at_other u d (λ less e. differ (omega arith));
      lists = λ f n e. refl;
      kept = λ f n e. refl;
    };
  }

  module _ (none : IsBare s (index_of_cache t c)) where
    pub cache_agrees : (r : spaces.Content) (b : buddies.Content) → Agree r b s → Agree r b (with_cache s t c o)
    cache_agrees r b a = record {
      order = a.order;
      unit = a.unit;
      superblocks = a.superblocks;
      machine_frames = a.machine_frames;
      rows = a.rows;
      tenants = length-set s.caches (index_of_cache t c) o ∙ a.tenants;
      slots = a.slots;
      slabs = λ n head key cache placed cached.
          let g = a.slabs n head key cache placed (sym (in_other (head / 3) (none n head key placed)) ∙ cached) in
          record { under = g.under; taken = g.taken; counted = g.counted; rest = g.rest };
    }

    module _ (r : spaces.Content) (b : buddies.Content) (m : Machine) (h : ShowsMachine r b s t m) (cs : List Cache)
        (rise : RisesFrom 0 (map (λ x. x.number) cs))
        (here : option_map without_slabs (at (λ x. x.number) c cs) ≡ option_map (bare c) o)
        (empty : (x : Cache) → at (λ y. y.number) c cs ≡ Some x → x.slabs ≡ [])
        (there : (d : ℕ) → d ≢ c → at (λ y. y.number) d cs ≡ cache_of m d) where
      slab_not : (f n : ℕ) (cache : own.Cache) (s' : Content) → s'.lists ≡ s.lists → IsSlab r s' t c f n cache → ⊥
      slab_not f n cache s' same q =
          false≢true (sym (not_of s (index_of_cache t c) f n none)
          ∙ ap (λ l. is_of_cache (index_of_cache t c) f (place_at l.places n)) (sym same) ∙ q.listed)

      was : (d f n : ℕ) (cache : own.Cache) → IsSlab r (with_cache s t c o) t d f n cache → IsSlab r s t d f n cache
      was d f n cache q =
          let differ : d ≢ c = λ e. slab_not f n cache (with_cache s t c o) refl (subst (λ x. IsSlab r (with_cache s t c o) t x f n cache) e q) in
          record { cached = sym (cache_there d differ) ∙ q.cached; under = q.under; listed = q.listed }

      stays : (d f n : ℕ) (cache : own.Cache) → IsSlab r s t d f n cache → IsSlab r (with_cache s t c o) t d f n cache
      stays d f n cache q =
          let differ : d ≢ c = λ e. slab_not f n cache s refl (subst (λ x. IsSlab r s t x f n cache) e q) in
          record { cached = cache_there d differ ∙ q.cached; under = q.under; listed = q.listed }

      none_under : (cache : own.Cache) (f : ℕ) (machine_frame : Option ℕ) → slab_under r (with_cache s t c o) t (index_of_cache t c) cache f machine_frame ≡ None
      none_under cache f None = refl
      none_under cache f (Some n) =
          ap (slab_placed (live_of r t cache (kept_at s.kept n) f) (kept_at s.kept n).colour f) (not_of s (index_of_cache t c) f n none)

      pub cache_shows : ShowsMachine r b (with_cache s t c o) t (record m { caches = cs })
      cache_shows = record {
        slots_rise = h.slots_rise;
        slots = h.slots;
        blocks_rise = h.blocks_rise;
        blocks = h.blocks;
        caches_rise = rise;
        caches = λ d. ⊎_elim (λ e. subst (λ x. option_map without_slabs (at (λ y. y.number) x cs) ≡ option_map (bare x) (cache_at (with_cache s t c o) t x)) (sym e)
            (here ∙ ap (option_map (bare c)) (sym cache_here)))
            (λ differ. ap (option_map without_slabs) (there d differ) ∙ h.caches d ∙ ap (option_map (bare d)) (sym (cache_there d differ)))
            (cases_eq d c);
        slabs_rise = λ d x e. ⊎_elim
            (λ same. subst (λ ys. RisesFrom 0 (map (λ y. y.first) ys)) (sym (empty x (ap (λ z. at (λ y. y.number) z cs) (sym same) ∙ e))) tt)
            (λ differ. h.slabs_rise d x (sym (there d differ) ∙ e)) (cases_eq d c);
        slabs = λ d f x cache e cached. ⊎_elim
            (λ same. ap (λ ys. find (λ y. eqb y.first f) ys) (empty x (ap (λ z. at (λ y. y.number) z cs) (sym same) ∙ e))
            ∙ sym (ap (λ z. slab_at r (with_cache s t c o) t z cache f) same ∙ none_under cache f (machine_frame_of s.top r.slots t f)))
            (λ differ. h.slabs d f x cache (sym (there d differ) ∙ e) (sym (cache_there d differ) ∙ cached)) (cases_eq d c);
        mapped = λ place out. h.mapped place (λ d f n cache q. out d f n cache (stays d f n cache q));
        in_slab = λ place d f n cache q inside. h.in_slab place d f n cache (was d f n cache q) inside;
        bytes = h.bytes;
      }
