-- What `take_step` does in each case: no cache, a slab to use, a new slab, or no frames for a new slab.
use Rattle.std.proofs.Common.{◌≡◌, ℕ, List, ◌∷◌, Some, None, refl, sym, ap, ◌∙◌, subst, inl}
use Rattle.std.specs.Prelude.{Option, find}
use Rattle.model_core.specs.Machine.{Slab, Cache, Machine, put_rising, layout}
use Rattle.model_core.specs.Slabs.{is_partial, is_empty, cache_of, slab_of, new_slab, grown_cache, grown, slab_to_use, by_need, choice_by_need}
use Rattle.model_core.specs.Operations.{refuse}
use Rattle.model_core.specs.CacheOperations.{hand_out, take_new, take_from, take_of, take_step}
use Rattle.model_core.specs.declared.refusals.TakeRefusal.TheVariants.{NoCache, NoFrames}
use Rattle.model_core.proofs.ReapingByNeed.{by_need_none}
use Rattle.model_core.specs.Elements.{IsIn}
use Rattle.model_core.proofs.Lists.{put_in, in_right}
use Rattle.space_core.specs.Content as spaces
use Rattle.buddy_core.specs.Content as buddies
use Rattle.slab_tables.specs.declared.cache.Cache as own
use Rattle.slab_tables.specs.Content.{Content, IsSlabs, cache_at, layout_numbers}
use Rattle.machine_changes.specs.Shows.{ShowsMachine, Agree}
use Rattle.machine_changes.specs.Steady.{IsSteady}
use Rattle.machine_changes.specs.Objects.{IsToUse, IsAllFull, Standing}
use Rattle.machine_changes.proofs.Lookups.{found_key, found_new, in_found}
use Rattle.machine_changes.proofs.SlabFacts.{cache_shown}
use Rattle.machine_changes.proofs.SlabForTake.{take_uses, take_makes}
use Rattle.slab_core.proofs.GrowByNeed.{stands}
use Rattle.slab_core.proofs.GiveWithoutCache.{no_cache}

-- The results of `take_step`

step_none : (top c : ℕ) (m : Machine) → cache_of m c ≡ None → take_step top c m ≡ refuse NoCache m
unfolding take_step
step_none top c m e = ap (take_of top m) e

step_from : (top c : ℕ) (m : Machine) (x : Cache) (o : Option Slab) → cache_of m c ≡ Some x → slab_to_use (find is_partial x.slabs) (find is_empty x.slabs) ≡ o
    → take_step top c m ≡ take_from top x m o
unfolding take_step
step_from top c m x o e is = ap (take_of top m) e ∙ ap (take_from top x m) is

step_new : (top k : ℕ) (m : Machine) (x : Cache) (o : Option ℕ) → (layout x).order ≡ k → choice_by_need top k m ≡ o
    → take_from top x m None ≡ take_new x (by_need top k m) o
step_new top k m x o order is =
    ap (λ j. take_new x (by_need top j m) (choice_by_need top j m)) order ∙ ap (take_new x (by_need top k m)) is

-- The grown machine has the new slab

in_put : {X : Type 0} (key : X → ℕ) (x : X) (xs : List X) → IsIn x (put_rising key x xs)
in_put key x xs =
    let p = put_in key x xs in
    subst (IsIn x) (sym p.is) (in_right x p.before (x ∷ p.later) (inl refl))

module _ (m : Machine) (c f : ℕ) (x : Cache) (ex : cache_of m c ≡ Some x) where
  grown_there : cache_of (grown f x m) c ≡ Some (grown_cache f x)
  unfolding grown grown_cache
  grown_there =
      let number : x.number ≡ c = found_key (λ z. z.number) c m.caches x ex in
      subst (λ i. cache_of (grown f x m) i ≡ Some (grown_cache f x)) number
      (found_new (λ z. z.number) (grown_cache f x) x m.caches (subst (λ i. cache_of m i ≡ Some x) (sym number) ex))

  slab_there : (r : spaces.Content) (b : buddies.Content) (s : Content) (t : ℕ) → ShowsMachine r b s t (grown f x m)
      → slab_of (grown_cache f x) f ≡ Some (new_slab x f)
  unfolding grown_cache
  slab_there r b s t h =
      in_found (λ y. y.first) 0 (new_slab x f) (grown_cache f x).slabs (h.slabs_rise c (grown_cache f x) grown_there)
      (in_put (λ y. y.first) (new_slab x f) x.slabs)

-- in the machine, a take from cache c uses the slab at frame `first`
pub record IsUsed (top c : ℕ) (m : Machine) (first : ℕ) : Type 0 where
  pub shown : Cache
  pub slab : Slab
  pub found : cache_of m c ≡ Some shown
  pub standing : slab_of shown first ≡ Some slab
  pub step : take_step top c m ≡ hand_out shown slab m

-- A take from cache c makes a slab at frame f on demand, and uses it. `after` is the machine that has this slab and from which
-- the object is not taken yet. The parts r, b and s show `after`.
pub record IsMade (top c : ℕ) (m : Machine) (r : spaces.Content) (b : buddies.Content) (s : Content) (t f : ℕ) : Type 0 where
  pub after : Machine
  pub shown : Cache
  pub slab : Slab
  pub shows : ShowsMachine r b s t after
  pub found : cache_of after c ≡ Some shown
  pub standing : slab_of shown f ≡ Some slab
  pub step : take_step top c m ≡ hand_out shown slab after

module _ {r : spaces.Content} {b : buddies.Content} {s : Content} {t : ℕ} (c : ℕ) {m : Machine} (h : ShowsMachine r b s t m) where
  pub no_cache_step : cache_at s t c ≡ None → take_step s.top c m ≡ refuse NoCache m
  no_cache_step vacant = step_none s.top c m (no_cache r b s t c m h vacant)

  module _ (w : IsSlabs s) (a : Agree r b s) (st : IsSteady r b s t) {cache : own.Cache} (cached : cache_at s t c ≡ Some cache) where
    pub used : (o : Standing) → IsToUse r s t c cache o → IsUsed s.top c m o.first
    used o is =
        let there = cache_shown r b s t m h c cache cached in
        let uses = take_uses r b s t c cache o m there.shown w a st h there.cached is in
        record {
          shown = there.shown;
          slab = uses.0;
          found = there.cached;
          standing = uses.2;
          step = step_from s.top c m there.shown (Some uses.0) there.cached uses.1;
        }

    -- all slabs of cache c are full
    module _ (full : IsAllFull s t c) where
      none_step : (o : Option ℕ) → choice_by_need s.top (layout_numbers cache).order m ≡ o → (x : Cache) → cache_of m c ≡ Some x → (layout x).order ≡ (layout_numbers cache).order
          → take_step s.top c m ≡ take_new x (by_need s.top (layout_numbers cache).order m) o
      none_step o is x ex order =
          step_from s.top c m x None ex (take_makes r b s t c m x w a st h ex full) ∙ step_new s.top (layout_numbers cache).order m x o order is

      pub no_frames_step : choice_by_need s.top (layout_numbers cache).order m ≡ None → take_step s.top c m ≡ refuse NoFrames m
      no_frames_step none =
          let there = cache_shown r b s t m h c cache cached in
          none_step None none there.shown there.cached (ap (λ l. l.order) there.layout)
          ∙ ap (refuse NoFrames) (by_need_none s.top (layout_numbers cache).order m none)

      pub made : {r' : spaces.Content} {b' : buddies.Content} {s' : Content} (f : ℕ) → choice_by_need s.top (layout_numbers cache).order m ≡ Some f
          → ((x : Cache) → cache_of m c ≡ Some x → ShowsMachine r' b' s' t (grown f x (by_need s.top (layout_numbers cache).order m)))
          → IsMade s.top c m r' b' s' t f
      made {r' = r'} {b' = b'} {s' = s'} f is shows =
          let there = cache_shown r b s t m h c cache cached in
          let x : Cache = there.shown in
          let n : Machine = by_need s.top (layout_numbers cache).order m in
          let stays = stands r b s t c (layout_numbers cache).order w a st full m x h there.cached in
          let shown = shows x there.cached in
          record {
            after = grown f x n;
            shown = grown_cache f x;
            slab = new_slab x f;
            shows = shown;
            found = grown_there n c f x stays;
            standing = slab_there n c f x stays r' b' s' t shown;
            step = none_step (Some f) is x there.cached (ap (λ l. l.order) there.layout);
          }
