-- If a tenant has no slots, taken blocks or caches, the parts show the empty machine for it. Before the first event this holds
-- for every tenant.
use Rattle.std.proofs.Common.{◌≡◌, ℕ, ◌*◌, ◌^◌, ◌≤◌, Bool, true, false, cond, ltb, length, None, refl, sym, ap, ◌∙◌, ⊎_elim, arith}
use Rattle.std.specs.Prelude.{Option, is_some, option_map, replicate, slice_index_or, []}
use Rattle.std.proofs.lemmas.Bool.{cases_lt}
use Rattle.std.proofs.lemmas.List.{get_or-replicate, get_or_past, length-replicate}
use Rattle.model_core.specs.Machine.{empty_machine}
use Rattle.model_core.specs.declared.limits.TheConstants.{MAX_CACHES}
use Rattle.space_core.specs.Content as spaces
use Rattle.buddy_core.specs.Content as buddies
use Rattle.slab_tables.specs.Content.{Content, cache_in, cache_at, index_of_cache, empty_tables}
use Rattle.machine_changes.specs.Shows.{machine_frame_of, has_slab, bare, ShowsMachine, Agree}
use Rattle.machine_changes.proofs.Lookups.{some_none}
use Rattle.machine_changes.specs.Slots.{OpeningShows}

abbrev nothing : (A : Type 0) → Option A
nothing A = None

pub empty_shows : (r : spaces.Content) (b : buddies.Content) (s : Content) (t : ℕ)
    → ((u : ℕ) → spaces.superblock_at r.slots t u ≡ None) → ((f : ℕ) → buddies.taken_of (buddies.holding_of t b) f ≡ None)
    → ((c : ℕ) → cache_at s t c ≡ None) → ShowsMachine r b s t empty_machine
unfolding empty_machine
empty_shows r b s t slots taken caches = record {
  slots_rise = tt;
  slots = λ u. sym (ap is_some (slots u));
  blocks_rise = tt;
  blocks = λ f. sym (ap (cond (has_slab s (machine_frame_of s.top r.slots t f)) None) (taken f) ∙ either (has_slab s (machine_frame_of s.top r.slots t f)));
  caches_rise = tt;
  caches = λ c. sym (ap (option_map (bare c)) (caches c));
  slabs_rise = λ c x e. absurd (some_none (sym e));
  slabs = λ c f x cache e cached. absurd (some_none (sym e));
  mapped = λ place out. refl;
  in_slab = λ place c f n cache q inside. absurd (some_none (sym q.cached ∙ caches c));
  bytes = λ place byte e. absurd (some_none (sym e));
}
  where
    either : (v : Bool) → cond v None None ≡ nothing ℕ
    either true = refl
    either false = refl

-- every lookup in a list of `None` returns `None`
pub none_in : {A : Type 0} (n i : ℕ) → slice_index_or (replicate n (nothing A)) i (nothing A) ≡ None
none_in {A} n i = ⊎_elim
    (λ below. get_or-replicate n i (nothing A) (nothing A) below)
    (λ past. get_or_past (replicate n (nothing A)) i (nothing A) (let long = length-replicate n (nothing A) in omega arith))
    (cases_lt i n)

module _ (order superblocks tenants : ℕ) where
  abbrev r : spaces.Content
  r = spaces.empty_space (4096 * 2 ^ order) superblocks tenants

  abbrev b : buddies.Content
  b = buddies.empty_buddy order superblocks tenants

  abbrev s : Content
  s = empty_tables order superblocks tenants

  no_slot : (t u : ℕ) → spaces.superblock_at r.slots t u ≡ None
  no_slot t u = ⊎_elim
      (λ below. ap (λ row. slice_index_or row u None) (get_or-replicate tenants t (replicate superblocks (nothing ℕ)) [] below) ∙ none_in superblocks u)
      (λ past. ap (λ row. slice_index_or row u None) (get_or_past (replicate tenants (replicate superblocks (nothing ℕ))) t [] (long past)))
      (cases_lt t tenants)
    where
      long : tenants ≤ t → length (replicate tenants (replicate superblocks (nothing ℕ))) ≤ t
      long past = let same = length-replicate tenants (replicate superblocks (nothing ℕ)) in omega arith

  no_holding : (t : ℕ) → ((u : ℕ) → buddies.superblock_at (buddies.holding_of t b) u ≡ None) × ((f : ℕ) → buddies.taken_of (buddies.holding_of t b) f ≡ None)
  no_holding t = ⊎_elim
      (λ below. let is = get_or-replicate tenants t (buddies.nothing_held order superblocks) buddies.no_tenant below in (
        λ u. ap (λ h. buddies.superblock_at h u) is ∙ none_in superblocks u,
        λ f. ap (λ h. buddies.taken_of h f) is ∙ none_in (superblocks * 2 ^ order) f,
      ))
      (λ past. let is = get_or_past (replicate tenants (buddies.nothing_held order superblocks)) t buddies.no_tenant (long past) in (
        λ u. ap (λ h. buddies.superblock_at h u) is,
        λ f. ap (λ h. buddies.taken_of h f) is,
      ))
      (cases_lt t tenants)
    where
      long : tenants ≤ t → length (replicate tenants (buddies.nothing_held order superblocks)) ≤ t
      long past = let same = length-replicate tenants (buddies.nothing_held order superblocks) in omega arith

  no_cache : (t c : ℕ) → cache_at s t c ≡ None
  no_cache t c = go (ltb c MAX_CACHES)
    where
      go : (v : Bool) → cond v (cache_in s.caches (index_of_cache t c)) None ≡ None
      go true = none_in (MAX_CACHES * tenants) (index_of_cache t c)
      go false = refl

  agrees : Agree r b s
  agrees = record {
    order = refl;
    unit = refl;
    superblocks = length-replicate superblocks _;
    machine_frames = length-replicate (superblocks * 2 ^ order) _;
    rows = length-replicate tenants _ ∙ sym (length-replicate tenants _);
    tenants = length-replicate (MAX_CACHES * tenants) _ ∙ ap (λ n. MAX_CACHES * n) (sym (length-replicate tenants _));
    slots = λ t u. (no_holding t).0 u ∙ sym (no_slot t u);
    slabs = λ machine_frame head key cache placed cached. absurd (some_none (sym placed ∙ none_in (superblocks * 2 ^ order) machine_frame));
  }

  pub opened : (t : ℕ) → ShowsMachine r b s t empty_machine
  opened t = empty_shows r b s t (no_slot t) (no_holding t).1 (no_cache t)

pub opening_shows : OpeningShows
opening_shows order superblocks tenants = record { agree = agrees order superblocks tenants; shows = opened order superblocks tenants }
