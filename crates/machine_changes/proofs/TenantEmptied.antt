-- If everything that a tenant has is removed, the parts show the empty machine for the tenant.
use Rattle.std.proofs.Common.{◌≡◌, ◌≢◌, ℕ, ◌*◌, ◌/◌, ◌^◌, ◌<◌, ◌≤◌, Bool, true, false, cond, eqb, ltb, length, Some, None, refl, sym, ap, ◌∙◌, ⊎_elim, arith}
use Rattle.std.specs.Prelude.{Option}
use Rattle.std.proofs.lemmas.Bool.{false≢true, eq-eqb, ne_eqb, cases_lt, le-ltb, lt-ltb}
use Rattle.model_core.specs.Machine.{empty_machine}
use Rattle.model_core.specs.declared.limits.TheConstants.{MAX_CACHES}
use Rattle.klist_core.specs.Places.{place_at}
use Rattle.space_core.specs.Content as spaces
use Rattle.buddy_core.specs.Content as buddies
use Rattle.buddy_core.proofs.Holdings.{own_holding, other_holding}
use Rattle.slab_tables.specs.Content.{Content, kept_at, cache_in, cache_at, index_of_cache}
use Rattle.slab_tables.specs.Changes.{IsReset, unless_gone}
use Rattle.machine_changes.specs.Shows.{machine_frame_of, ShowsMachine}
use Rattle.machine_changes.specs.Keeps.{Keeps}
use Rattle.machine_changes.proofs.Lookups.{some_none, some_same}
use Rattle.machine_changes.proofs.SteadyParts.{one_owner}
use Rattle.machine_changes.specs.Slots.{HoldTogether, HasGivenUp, EmptiedShows}
use Rattle.machine_changes.proofs.SlotPartsAgree.{IsLocal, agree_of}
use Rattle.machine_changes.proofs.NoSlabOnUnowned.{tenant_of, slab_there}
use Rattle.machine_changes.proofs.EmptyTenant.{empty_shows, none_in}

-- if only table entries of tenant t changed, any other tenant v has the same cache c as before
pub same_cache : (s' s : Content) (t v c : ℕ) → ((i : ℕ) → (i / MAX_CACHES ≡ t → ⊥) → cache_in s'.caches i ≡ cache_in s.caches i) → v ≢ t → cache_at s' v c ≡ cache_at s v c
same_cache s' s t v c stays differ = ⊎_elim below above (cases_lt c MAX_CACHES)
  where
    below : c < MAX_CACHES → cache_at s' v c ≡ cache_at s v c
    below less = ap (λ o. cond (ltb c MAX_CACHES) o None)
        (stays (index_of_cache v c) (λ e. differ (let is : index_of_cache v c / MAX_CACHES ≡ v = omega arith in sym is ∙ e)))

    above : MAX_CACHES ≤ c → cache_at s' v c ≡ cache_at s v c
    above more =
        ap (λ w. cond w (cache_in s'.caches (index_of_cache v c)) None) (le-ltb c MAX_CACHES more)
        ∙ sym (ap (λ w. cond w (cache_in s.caches (index_of_cache v c)) None) (le-ltb c MAX_CACHES more))

-- if `unless_gone` returns a list entry p, it was given p, and the index of p's cache does not satisfy `gone`
pub unless_some : (gone : ℕ → Bool) (place : Option (ℕ × ℕ)) (p : ℕ × ℕ) → unless_gone gone place ≡ Some p → (place ≡ Some p) × (gone (p.0 / 3) ≡ false)
unless_some gone None p e = absurd (some_none (sym e))
unless_some gone (Some q) p e = go (gone (q.0 / 3)) refl e
  where
    go : (v : Bool) → gone (q.0 / 3) ≡ v → cond v None (Some q) ≡ Some p → (Some q ≡ Some p) × (gone (p.0 / 3) ≡ false)
    go true is e = absurd (some_none (sym e))
    go false is e = (e, ap (λ (x : ℕ × ℕ). gone (x.0 / 3)) (sym (some_same e)) ∙ is)

module _ (r r' : spaces.Content) (b : buddies.Content) (s s' : Content) (t : ℕ) (h : HoldTogether r b s) (tenant : t < length r.slots)
    (g : HasGivenUp t r r') (k : IsReset s s' t) where
  abbrev held : buddies.Holding
  held = buddies.nothing_held b.top b.superblocks

  abbrev b' : buddies.Content
  b' = buddies.with_holding t held b

  -- true if i is the index of a cache of tenant t
  abbrev gone : ℕ → Bool
  gone i = eqb (i / MAX_CACHES) t

  -- Other tenants

  cache_stays : (i : ℕ) → (i / MAX_CACHES ≡ t → ⊥) → cache_in s'.caches i ≡ cache_in s.caches i
  cache_stays i differ = k.caches i ∙ ap (λ v. cond v None (cache_in s.caches i)) (ne_eqb (i / MAX_CACHES) t differ)

  cache_other : (v c : ℕ) → v ≢ t → cache_at s' v c ≡ cache_at s v c
  cache_other v c differ = same_cache s' s t v c cache_stays differ

  place_stays : (v f n : ℕ) → v ≢ t → machine_frame_of s.top r.slots v f ≡ Some n → place_at s'.lists.places n ≡ place_at s.lists.places n
  place_stays v f n differ under = k.places n ∙ go (place_at s.lists.places n) refl
    where
      go : (place : Option (ℕ × ℕ)) → place_at s.lists.places n ≡ place → unless_gone gone place ≡ place
      go None is = refl
      go (Some p) is =
          let there = slab_there r b s h n p.0 p.1 is in
          let owner = one_owner r s.top v f (p.0 / 3 / MAX_CACHES) p.1 n h.space.apart under there.agreed.under in
          ap (λ w. cond w None (Some p)) (ne_eqb (p.0 / 3 / MAX_CACHES) t (λ e. differ (sym owner.tenant ∙ e)))

  pub others_kept : (v : ℕ) → v ≢ t → Keeps r r' b b' s s' v
  others_kept v differ = record {
    space = g.others v differ;
    buddy = other_holding t v held b differ;
    slabs = record {
      top = k.top;
      caches = λ c. cache_other v c differ;
      lists = λ f n e. place_stays v f n differ e;
      kept = λ f n e. ap (λ kept. kept_at kept n) k.kept;
    };
  }

  -- Tenant t

  was_there : (n head key : ℕ) → place_at s'.lists.places n ≡ Some (head, key) → (place_at s.lists.places n ≡ Some (head, key)) × (gone (head / 3) ≡ false)
  was_there n head key placed = unless_some gone (place_at s.lists.places n) (head, key) (sym (k.places n) ∙ placed)

  pub local : IsLocal r r' b held s s' t
  local = record {
    unit = g.unit;
    superblocks = g.superblocks;
    rows = g.rows;
    top = k.top;
    machine_frames = k.machine_frames;
    tables = k.tenants;
    others = others_kept;
    slots = λ u. none_in b.superblocks u ∙ sym (g.slots u);
    cached = cache_stays;
    placed = λ n head key placed differ. (was_there n head key placed).0;
    mine = λ n head key cache placed cached is.
        absurd (false≢true (sym (was_there n head key placed).1 ∙ eq-eqb (head / 3 / MAX_CACHES) t is));
  }

  no_cache : (c : ℕ) → cache_at s' t c ≡ None
  no_cache c = ⊎_elim below (λ more. ap (λ w. cond w (cache_in s'.caches (index_of_cache t c)) None) (le-ltb c MAX_CACHES more)) (cases_lt c MAX_CACHES)
    where
      none : c < MAX_CACHES → cache_in s'.caches (index_of_cache t c) ≡ None
      none less =
          let is : index_of_cache t c / MAX_CACHES ≡ t = omega arith in
          k.caches (index_of_cache t c) ∙ ap (λ v. cond v None (cache_in s.caches (index_of_cache t c))) (eq-eqb (index_of_cache t c / MAX_CACHES) t is)

      below : c < MAX_CACHES → cache_at s' t c ≡ None
      below less = ap (λ w. cond w (cache_in s'.caches (index_of_cache t c)) None) (lt-ltb c MAX_CACHES less) ∙ none less

  pub emptied : ShowsMachine r' b' s' t empty_machine
  emptied = empty_shows r' b' s' t g.slots
      (λ f. ap (λ x. buddies.taken_of x f) (own_holding t held b (tenant_of r b s h t tenant)) ∙ none_in (b.superblocks * 2 ^ b.top) f)
      no_cache

pub emptied_shows : EmptiedShows
emptied_shows r r' b s s' t h tenant g k = record {
  agree = agree_of r r' b (buddies.nothing_held b.top b.superblocks) s s' t (local r r' b s s' t h tenant g k) h.slabs h.agree (tenant_of r b s h t tenant);
  others = others_kept r r' b s s' t h tenant g k;
  shows = λ m shown. emptied r r' b s s' t h tenant g k;
}
