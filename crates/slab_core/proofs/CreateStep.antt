-- If the tables make a cache, the machine that the parts show makes the same cache.
use Rattle.std.proofs.Common.{◌≡◌, ◌≢◌, ℕ, ◌<◌, ◌≤◌, Bool, cond, List, [], Some, None, IsSome, refl, sym, ap, ◌∙◌, subst, arith}
use Rattle.std.specs.Prelude.{Option, option_map, nat_le, MatchOption, IfSome, IfNone, if◌then◌else◌}
use Rattle.std.proofs.lemmas.Bool.{eq-eqb, ne_eqb, lt-ltb, le-leb, lt-leb}
use Rattle.model_core.specs.Machine.{Machine, Cache, put_rising}
use Rattle.model_core.specs.Slabs.{cache_of}
use Rattle.model_core.specs.CacheOperations.{created, next_number, create_step}
use Rattle.model_core.specs.Operations.{Step}
use Rattle.model_core.specs.declared.limits.TheConstants.{MAX_CACHES}
use Rattle.model_core.proofs.Lists.{each_from, put_rises}
use Rattle.layout_core.specs.Cut.{Cut}
use Rattle.space_core.specs.Content as spaces
use Rattle.buddy_core.specs.Content as buddies
use Rattle.slab_tables.specs.declared.cache.Cache as own
use Rattle.slab_tables.specs.Content.{Content, IsSlabs, IsTenant, cache_in, cache_at, index_of_cache}
use Rattle.slab_tables.specs.Changes.{with_cache, new_cache, IsLeastNumber, IsAllUsed}
use Rattle.slab_tables.proofs.TableReads.{cache_within}
use Rattle.machine_changes.specs.Shows.{bare, without_slabs, ShowsMachine, Agree}
use Rattle.machine_changes.proofs.Lookups.{some_none, some_same, at, in_found, found_put}
use Rattle.machine_changes.proofs.SlabFacts.{none_mapped}
use Rattle.slab_core.proofs.BareCache.{IsBare, cache_agrees, cache_shows}
use Rattle.slab_core.proofs.LeastFreeNumber.{least_above, least_is}

-- if tenant t has no cache c, no slab is in a list of cache c
pub bare_without : (s : Content) (t c : ℕ) → IsSlabs s → c < MAX_CACHES → cache_at s t c ≡ None → IsBare s (index_of_cache t c)
bare_without s t c w small vacant n head key placed e =
    let there = w.standing n head key placed in
    some_none (sym there.1 ∙ ap (cache_in s.caches) e
    ∙ sym (ap (λ v. cond v (cache_in s.caches (index_of_cache t c)) None) (lt-ltb c MAX_CACHES small)) ∙ vacant)

some_stays : (x : Option Cache) (d : ℕ) (o : Option own.Cache) → option_map without_slabs x ≡ option_map (bare d) o → IsSome o → IsSome x
some_stays (Some x) d o e some = refl
some_stays None d (Some o) e some = absurd (some_none (sym e))
some_stays None d None e some = some

next_is : (limit size align : ℕ) (pattern : List ℕ) (m : Machine) (c : ℕ) → next_number m ≡ c → c < limit
    → create_step limit size align pattern m ≡ record { answer = Some c; machine = created c size align pattern m }
unfolding create_step
next_is limit size align pattern m c next less =
    let all : ℕ → Step (Option ℕ) = λ n. if nat_le limit n then record { answer = None; machine = m }
    else record { answer = Some n; machine = created n size align pattern m } in
    ap all next
    ∙ ap (λ (v : Bool). if v then record { answer = None; machine = m } else record { answer = Some c; machine = created c size align pattern m })
    (lt-leb limit c less)

next_none : (limit size align : ℕ) (pattern : List ℕ) (m : Machine) → limit ≤ next_number m
    → create_step limit size align pattern m ≡ record { answer = None; machine = m }
unfolding create_step
next_none limit size align pattern m high =
    ap (λ (v : Bool). if v then record { answer = None; machine = m }
    else record { answer = Some (next_number m); machine = created (next_number m) size align pattern m }) (le-leb limit (next_number m) high)

module _ (s : Content) (t : ℕ) (layout : Cut) (pattern : List ℕ) (w : IsSlabs s) (tenant : IsTenant s t)
    (r : spaces.Content) (b : buddies.Content) (m : Machine) (h : ShowsMachine r b s t m) where
  there_too : (d : ℕ) → IsSome (cache_at s t d) → IsSome (cache_of m d)
  there_too d some = some_stays (cache_of m d) d (cache_at s t d) (h.caches d) some

  number_is : (c : ℕ) → IsLeastNumber s t c → next_number m ≡ c
  unfolding next_number
  number_is c k =
      least_is (λ x. x.number) 0 c m.caches h.caches_rise (omega arith)
      (none_mapped (cache_of m c) (h.caches c ∙ ap (option_map (bare c)) k.vacant)) (λ d _ less. there_too d (k.least d less))

  number_beyond : IsAllUsed s t → MAX_CACHES ≤ next_number m
  unfolding next_number
  number_beyond full = least_above (λ x. x.number) 0 MAX_CACHES m.caches h.caches_rise (λ d _ less. there_too d (full d less))

  made_shows : (c : ℕ) → IsLeastNumber s t c
      → ShowsMachine r b (with_cache s t c (Some (new_cache layout pattern))) t (created c layout.size layout.align pattern m)
  made_shows c k =
      let new : Cache = record { number = c; size = layout.size; align = layout.align; pattern = pattern; made = 0; slabs = [] } in
      let absent : at (λ (x : Cache). x.number) c m.caches ≡ None = none_mapped (cache_of m c) (h.caches c ∙ ap (option_map (bare c)) k.vacant) in
      let found : at (λ (x : Cache). x.number) c (put_rising (λ x. x.number) new m.caches) ≡ Some new =
      found_put (λ x. x.number) new c m.caches absent ∙ ap (λ v. cond v (Some new) (cache_of m c)) (eq-eqb c c refl) in
      cache_shows s t c (Some (new_cache layout pattern)) k.below (cache_within s t c tenant k.below)
      (bare_without s t c w k.below k.vacant) r b m h (put_rising (λ x. x.number) new m.caches)
      (put_rises (λ x. x.number) 0 new m.caches h.caches_rise (omega arith)
      (each_from (λ x. x.number ≢ c) m.caches (λ x i e.
      some_none (sym (in_found (λ y. y.number) 0 x m.caches h.caches_rise i) ∙ ap (cache_of m) e ∙ absent))))
      (ap (option_map without_slabs) found)
      (λ x e. ap (λ y. y.slabs) (some_same (sym e ∙ found)))
      (λ d differ. found_put (λ x. x.number) new d m.caches absent ∙ ap (λ v. cond v (Some new) (cache_of m d)) (ne_eqb c d (λ e. differ (sym e))))

  pub record IsCreated (s' : Content) (result : Option ℕ) : Type 0 where
    pub answer : result ≡ (create_step MAX_CACHES layout.size layout.align pattern m).answer
    pub shows : ShowsMachine r b s' t (create_step MAX_CACHES layout.size layout.align pattern m).machine

  pub created_as : (s' : Content) (result : Option ℕ) → MatchOption result (IsAllUsed s t) (IsLeastNumber s t)
      → IfSome result (λ c. s' ≡ with_cache s t c (Some (new_cache layout pattern))) → IfNone result (s' ≡ s) → IsCreated s' result
  created_as s' None full made same =
      let step = next_none MAX_CACHES layout.size layout.align pattern m (number_beyond full) in
      record {
        answer = sym (ap (λ x. x.answer) step);
        shows = subst (λ x. ShowsMachine r b x t (create_step MAX_CACHES layout.size layout.align pattern m).machine) (sym same)
            (subst (λ x. ShowsMachine r b s t x.machine) (sym step) h);
      }
  created_as s' (Some c) k made same =
      let step = next_is MAX_CACHES layout.size layout.align pattern m c (number_is c k) k.below in
      record {
        answer = sym (ap (λ x. x.answer) step);
        shows = subst (λ x. ShowsMachine r b x t (create_step MAX_CACHES layout.size layout.align pattern m).machine) (sym made)
            (subst (λ x. ShowsMachine r b (with_cache s t c (Some (new_cache layout pattern))) t x.machine) (sym step) (made_shows c k));
      }

pub created_agrees : (s s' : Content) (t : ℕ) (layout : Cut) (pattern : List ℕ) → IsSlabs s → IsTenant s t
    → (result : Option ℕ) → MatchOption result (IsAllUsed s t) (IsLeastNumber s t)
    → IfSome result (λ c. s' ≡ with_cache s t c (Some (new_cache layout pattern))) → IfNone result (s' ≡ s)
    → (r : spaces.Content) (b : buddies.Content) → Agree r b s → Agree r b s'
created_agrees s s' t layout pattern w tenant None full made same r b a = subst (λ x. Agree r b x) (sym same) a
created_agrees s s' t layout pattern w tenant (Some c) k made same r b a =
    subst (λ x. Agree r b x) (sym made)
    (cache_agrees s t c (Some (new_cache layout pattern)) k.below (cache_within s t c tenant k.below) (bare_without s t c w k.below k.vacant) r b a)
