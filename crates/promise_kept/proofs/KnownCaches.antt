-- The known caches are the machine's caches, and the known live objects are the machine's live objects.
use Rattle.std.proofs.Common.{◌≡◌, ℕ, Bool, true, false, ◌&&◌, cond, eqb, List, [], ◌∷◌, map, Some, refl, sym, ap, ◌∙◌, subst, ◌⊎◌, inl, inr}
use Rattle.std.specs.Prelude.{option_map, find}
use Rattle.std.specs.List.{list_any}
use Rattle.std.proofs.lemmas.Bool.{and_parts, and_from, eqb-true, eq-eqb, cases_eq, ne_eqb}
use Rattle.model_core.specs.Machine.{Cache, Machine}
use Rattle.model_core.specs.Slabs.{live_objects, with_cache}
use Rattle.model_core.specs.Elements.{IsIn}
use Rattle.model_core.specs.WellFormed.{RisesFrom, IsWellFormed}
use Rattle.model_core.proofs.Lists.{some_any, any_in, in_map, map_in, in_found}
use Rattle.model_core.proofs.ObjectsApart.{one_key}
use Rattle.promise_core.specs.Holdings.{KnownCache, Holdings, known_cache}
use Rattle.promise_core.specs.Bytes.{Holder}
use Rattle.promise_core.specs.State.{State}
use Rattle.promise_kept.specs.Meets.{cache_as_known, holdings_of, is_object_live}
use Rattle.promise_kept.proofs.LiveObjects.{IsLivePlace, live_place, place_listed}
use Rattle.promise_kept.proofs.ObjectFlag.{replaced_other, replaced_one}

-- state s, with its holdings replaced by the holdings that are seen of machine m
abbrev pub seen : Machine → State → State
seen m s = record s { has = holdings_of m }

pub seen_is : (m : Machine) (s : State) → s.has ≡ holdings_of m → seen m s ≡ s
seen_is m s e = sym (ap (λ (h : Holdings). record s { has = h }) e)

-- looking up a number among the known caches gives the machine's cache with this number, as it is known, or None if there is none
pub cache_seen : (number : ℕ) (cs : List Cache) → find (λ c. eqb c.number number) (map cache_as_known cs) ≡ option_map cache_as_known (find (λ c. eqb c.number number) cs)
cache_seen number [] = refl
cache_seen number (c ∷ cs) = go (eqb c.number number) (cache_seen number cs)
  where
    go : (b : Bool) → find (λ c. eqb c.number number) (map cache_as_known cs) ≡ option_map cache_as_known (find (λ c. eqb c.number number) cs)
        → cond b (Some (cache_as_known c)) (find (λ c. eqb c.number number) (map cache_as_known cs)) ≡ option_map cache_as_known (cond b (Some c) (find (λ c. eqb c.number number) cs))
    go true e = refl
    go false e = e

pub cache_known : {limit : ℕ} (order : ℕ) (m : Machine) (c : Cache) → IsWellFormed limit order m → IsIn c m.caches → known_cache (holdings_of m) c.number ≡ Some (cache_as_known c)
unfolding holdings_of
cache_known order m c w i = cache_seen c.number m.caches ∙ ap (option_map cache_as_known) (in_found (λ x. x.number) 0 c m.caches w.caches_rise i)

-- Live objects, by the number of their cache and their first place

pub record IsLiveIn (number first : ℕ) (cs : List Cache) : Type 0 where
  pub cache : Cache
  pub cache_in : IsIn cache cs
  pub number_is : cache.number ≡ number
  pub place : IsLivePlace cache first

abbrev is_told : ℕ → ℕ → KnownCache → Bool
is_told number first c = eqb c.number number && list_any (λ p. eqb p first) c.live

place_any : (first : ℕ) (c : Cache) → list_any (λ p. eqb p first) (map (λ o. o.place) (live_objects c)) ≡ true → IsLivePlace c first
place_any first c e =
    let r : (u : ℕ) × IsIn u (map (λ o. o.place) (live_objects c)) × (eqb u first ≡ true) = some_any (λ p. eqb p first) (map (λ o. o.place) (live_objects c)) e in
    live_place c first (subst (λ u. IsIn u (map (λ o. o.place) (live_objects c))) (eqb-true r.0 first r.2) r.1)

any_place : (first : ℕ) (c : Cache) → IsLivePlace c first → list_any (λ p. eqb p first) (map (λ o. o.place) (live_objects c)) ≡ true
any_place first c l = any_in (λ p. eqb p first) first (map (λ o. o.place) (live_objects c)) (place_listed c first l) (eq-eqb first first refl)

pub live_told : (m : Machine) (number first place : ℕ) → is_object_live (holdings_of m) (Holder.Object number first) place ≡ true → IsLiveIn number first m.caches
unfolding holdings_of
live_told m number first place e =
    let r : (t : KnownCache) × IsIn t (map cache_as_known m.caches) × (is_told number first t ≡ true) = some_any (is_told number first) (map cache_as_known m.caches) e in
    let c : (c : Cache) × IsIn c m.caches × (cache_as_known c ≡ r.0) = map_in cache_as_known r.0 m.caches r.1 in
    let p : (eqb c.0.number number ≡ true) × (list_any (λ p. eqb p first) (map (λ o. o.place) (live_objects c.0)) ≡ true) =
    and_parts (eqb c.0.number number) (list_any (λ p. eqb p first) (map (λ o. o.place) (live_objects c.0))) (ap (is_told number first) c.2 ∙ r.2) in
    record { cache = c.0; cache_in = c.1; number_is = eqb-true c.0.number number p.0; place = place_any first c.0 p.1 }

pub told_live : (m : Machine) (number first place : ℕ) → IsLiveIn number first m.caches → is_object_live (holdings_of m) (Holder.Object number first) place ≡ true
unfolding holdings_of
told_live m number first place l = any_in (is_told number first) (cache_as_known l.cache) (map cache_as_known m.caches) (in_map cache_as_known l.cache m.caches l.cache_in)
    (and_from (eqb l.cache.number number) (list_any (λ p. eqb p first) (map (λ o. o.place) (live_objects l.cache))) (eq-eqb l.cache.number number l.number_is) (any_place first l.cache l.place))

-- Cache c is replaced by cache d, which has the same number. An object that was live is still live if it is an object of another
-- cache, or if a live object of d begins at its first place.
pub live_replaced : (c d : Cache) (m : Machine) → RisesFrom 0 (map (λ x. x.number) m.caches) → IsIn c m.caches → c.number ≡ d.number → (number first : ℕ) → IsLiveIn number first m.caches
    → (number ≡ c.number → IsLivePlace c first → IsLivePlace d first) → IsLiveIn number first (with_cache d m).caches
live_replaced c d m rises in_c same number first k still = go (cases_eq k.cache.number c.number)
  where
    go : (k.cache.number ≡ c.number) ⊎ (k.cache.number ≡ c.number → ⊥) → IsLiveIn number first (with_cache d m).caches
    go (inl e) =
        let is : k.cache ≡ c = one_key (λ x. x.number) 0 m.caches k.cache c rises k.cache_in in_c e in
        record {
          cache = d;
          cache_in = replaced_one (λ x. x.number) d c m.caches in_c same;
          number_is = sym same ∙ (sym e ∙ k.number_is);
          place = still (sym k.number_is ∙ e) (subst (λ x. IsLivePlace x first) is k.place);
        }
    go (inr ne) = record {
      cache = k.cache;
      cache_in = replaced_other (λ x. x.number) d k.cache m.caches k.cache_in (ne_eqb k.cache.number d.number (λ e. ne (e ∙ sym same)));
      number_is = k.number_is;
      place = k.place;
    }
