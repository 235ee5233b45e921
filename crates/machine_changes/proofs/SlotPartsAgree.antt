-- After a change for one tenant, memory, buddy systems and tables still agree if they agree on the tenant's slots and slabs.
use Rattle.std.proofs.Common.{◌≡◌, ◌≢◌, ℕ, ◌+◌, ◌*◌, ◌/◌, ◌%◌, ◌^◌, ◌<◌, ◌≤◌, cond, length, Some, refl, sym, ap, ◌∙◌, subst, ⊎_elim, arith}
use Rattle.std.proofs.lemmas.Bool.{cases_eq}
use Rattle.std.proofs.lemmas.List.{length-set}
use Rattle.model_core.specs.Layouts.{is_small}
use Rattle.model_core.specs.declared.limits.TheConstants.{MAX_CACHES}
use Rattle.klist_core.specs.Places.{place_at}
use Rattle.space_core.specs.Content as spaces
use Rattle.space_core.specs.Laws.{IsSameFor}
use Rattle.buddy_core.specs.Content as buddies
use Rattle.buddy_core.proofs.Holdings.{own_holding, other_holding}
use Rattle.slab_tables.specs.declared.cache.Cache as own
use Rattle.slab_tables.specs.declared.cache.Kept.{Kept}
use Rattle.slab_tables.specs.Content.{Content, IsSlabs, kept_at, cache_in, layout_numbers}
use Rattle.machine_changes.specs.Records.{is_set, count_true}
use Rattle.machine_changes.specs.Shows.{machine_frame_of, record_byte, byte_or_zero, is_live, live_of, IsAgreed, Agree}
use Rattle.machine_changes.specs.Keeps.{Keeps}
use Rattle.machine_changes.proofs.SlabFacts.{same_below}
use Rattle.machine_changes.proofs.UntouchedTenant.{machine_frame_same}

-- if the control record in frame f is unchanged, object i is live in r' exactly if it is live in r
one_same : (r r' : spaces.Content) (t : ℕ) (cache : own.Cache) (kept : Kept) (f i : ℕ)
    → ((j : ℕ) → j < 32 → record_byte r' t f j ≡ record_byte r t f j) → i < 256 → is_live r' t cache kept f i ≡ is_live r t cache kept f i
one_same r r' t cache kept f i same less =
    ap (λ x. cond (is_small (layout_numbers cache).chunk) (is_set x (i % 8)) (is_set kept.outside i)) (same (i / 8) (omega arith))

-- if a slab has the same block, stored state and control record at its new machine frame, the parts still agree on it
pub agreed_still : (r r' : spaces.Content) (b b' : buddies.Content) (s s' : Content) (machine_frame machine_frame' head key : ℕ) (cache : own.Cache)
    → (layout_numbers cache).count ≤ 256 → IsAgreed r b s machine_frame head key cache
    → machine_frame_of s'.top r'.slots (head / 3 / MAX_CACHES) key ≡ Some machine_frame'
    → buddies.taken_of (buddies.holding_of (head / 3 / MAX_CACHES) b') key ≡ buddies.taken_of (buddies.holding_of (head / 3 / MAX_CACHES) b) key
    → kept_at s'.kept machine_frame' ≡ kept_at s.kept machine_frame
    → ((j : ℕ) → j < 32 → record_byte r' (head / 3 / MAX_CACHES) key j ≡ record_byte r (head / 3 / MAX_CACHES) key j)
    → IsAgreed r' b' s' machine_frame' head key cache
agreed_still r r' b b' s s' machine_frame machine_frame' head key cache few g under taken kept same =
    let t : ℕ = head / 3 / MAX_CACHES in
    record {
      under = under;
      taken = taken ∙ g.taken;
      counted = ap (λ k. k.live) kept ∙ g.counted
          ∙ sym (ap (λ k. count_true (live_of r' t cache k key)) kept
          ∙ ap count_true (same_below 0 (layout_numbers cache).count (is_live r' t cache (kept_at s.kept machine_frame) key) (is_live r t cache (kept_at s.kept machine_frame) key)
          (λ i low high. one_same r r' t cache (kept_at s.kept machine_frame) key i same (omega arith))));
      rest = λ i low high. ap (λ k. is_live r' t cache k key i) kept ∙ one_same r r' t cache (kept_at s.kept machine_frame) key i same high ∙ g.rest i low high;
    }

-- The change affects only tenant t: all other tenants keep everything. After the change, h is the holding of t, and t has the
-- same slots in h as in r'. The parts then agree on the slabs of t.
pub record IsLocal (r r' : spaces.Content) (b : buddies.Content) (h : buddies.Holding) (s s' : Content) (t : ℕ) : Type 0 where
  pub unit : r'.unit ≡ r.unit
  pub superblocks : length r'.owners ≡ length r.owners
  pub rows : length r'.slots ≡ length r.slots
  pub top : s'.top ≡ s.top
  pub machine_frames : length s'.lists.places ≡ length s.lists.places
  pub tables : length s'.caches ≡ length s.caches
  pub others : (u : ℕ) → u ≢ t → Keeps r r' b (buddies.with_holding t h b) s s' u
  pub slots : (u : ℕ) → buddies.superblock_at h u ≡ spaces.superblock_at r'.slots t u
  pub cached : (i : ℕ) → (i / MAX_CACHES ≡ t → ⊥) → cache_in s'.caches i ≡ cache_in s.caches i
  pub placed : (n head key : ℕ) → place_at s'.lists.places n ≡ Some (head, key) → (head / 3 / MAX_CACHES ≡ t → ⊥)
      → place_at s.lists.places n ≡ Some (head, key)
  pub mine : (n head key : ℕ) (cache : own.Cache) → place_at s'.lists.places n ≡ Some (head, key) → cache_in s'.caches (head / 3) ≡ Some cache
      → head / 3 / MAX_CACHES ≡ t → IsAgreed r' (buddies.with_holding t h b) s' n head key cache

module _ (r r' : spaces.Content) (b : buddies.Content) (h : buddies.Holding) (s s' : Content) (t : ℕ) (k : IsLocal r r' b h s s' t)
    (w : IsSlabs s) (a : Agree r b s) (tenant : t < length b.tenants) where
  abbrev now : buddies.Content
  now = buddies.with_holding t h b

  other_agreed : (n head key : ℕ) (cache : own.Cache) → place_at s'.lists.places n ≡ Some (head, key) → cache_in s'.caches (head / 3) ≡ Some cache
      → (head / 3 / MAX_CACHES ≡ t → ⊥) → IsAgreed r' now s' n head key cache
  other_agreed n head key cache place cache_now differ =
      let u : ℕ = head / 3 / MAX_CACHES in
      let was : cache_in s.caches (head / 3) ≡ Some cache = sym (k.cached (head / 3) differ) ∙ cache_now in
      let keeps : Keeps r r' b now s s' u = k.others u differ in
      let agreed : IsAgreed r b s n head key cache = a.slabs n head key cache (k.placed n head key place differ) was in
      agreed_still r r' b now s s' n n head key cache ((w.fits (head / 3) cache was).layout.fits 0).few agreed
      (machine_frame_same r r' b now s s' u keeps key ∙ agreed.under)
      (ap (λ x. buddies.taken_of x key) keeps.buddy)
      (keeps.slabs.kept key n agreed.under)
      (λ j less. ap byte_or_zero (keeps.space.bytes (4096 * key + 4064 + j)))

  slots_now : (u v : ℕ) → buddies.superblock_at (buddies.holding_of u now) v ≡ spaces.superblock_at r'.slots u v
  slots_now u v = ⊎_elim
      (λ (e : u ≡ t). subst (λ x. buddies.superblock_at (buddies.holding_of x now) v ≡ spaces.superblock_at r'.slots x v) (sym e)
      (ap (λ x. buddies.superblock_at x v) (own_holding t h b tenant) ∙ k.slots v))
      (λ differ. ap (λ x. buddies.superblock_at x v) (other_holding t u h b differ) ∙ a.slots u v ∙ sym ((k.others u differ).space.slots v))
      (cases_eq u t)

  pub agree_of : Agree r' now s'
  agree_of = record {
    order = a.order ∙ sym k.top;
    unit = k.unit ∙ a.unit ∙ sym (ap (λ top. 4096 * 2 ^ top) k.top);
    superblocks = k.superblocks ∙ a.superblocks;
    machine_frames = k.machine_frames ∙ a.machine_frames ∙ sym (ap (λ top. b.superblocks * 2 ^ top) k.top);
    rows = k.rows ∙ a.rows ∙ sym (length-set b.tenants t h);
    tenants = k.tables ∙ a.tenants ∙ ap (λ n. MAX_CACHES * n) (sym (length-set b.tenants t h));
    slots = slots_now;
    slabs = λ n head key cache place cache_now.
        ⊎_elim (k.mine n head key cache place cache_now) (other_agreed n head key cache place cache_now) (cases_eq (head / 3 / MAX_CACHES) t);
  }

-- a tenant u other than t keeps everything if its memory and the tables are unchanged, and only the holding of t changes
pub keeps_untabled : (r r' : spaces.Content) (b : buddies.Content) (h : buddies.Holding) (s : Content) (t u : ℕ) → u ≢ t → IsSameFor u r r'
    → Keeps r r' b (buddies.with_holding t h b) s s u
keeps_untabled r r' b h s t u differ same = record {
  space = same;
  buddy = other_holding t u h b differ;
  slabs = record { top = refl; caches = λ c. refl; lists = λ f n e. refl; kept = λ f n e. refl };
}
