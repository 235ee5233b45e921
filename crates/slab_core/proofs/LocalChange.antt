-- The parts are the memory, the buddy systems and the tables of the slabs. If they change only for one tenant, at one machine
-- frame, all other tenants keep everything and the parts still agree.
use Rattle.std.proofs.Common.{◌≡◌, ◌≢◌, ℕ, ◌+◌, ◌*◌, ◌/◌, ◌%◌, ◌^◌, ◌<◌, ◌≤◌, cond, length, Some, sym, ap, ◌∙◌, subst, ⊎_elim, arith}
use Rattle.std.proofs.lemmas.Bool.{cases_eq}
use Rattle.std.proofs.lemmas.List.{length-set}
use Rattle.model_core.specs.Layouts.{is_small}
use Rattle.model_core.specs.declared.limits.TheConstants.{MAX_CACHES}
use Rattle.klist_core.specs.Places.{place_at}
use Rattle.space_core.specs.Content as spaces
use Rattle.space_core.specs.Laws.{IsSameFor, IsOneToOne, SpareStays}
use Rattle.buddy_core.specs.Content as buddies
use Rattle.buddy_core.proofs.Holdings.{other_holding}
use Rattle.slab_tables.specs.declared.cache.Cache as own
use Rattle.slab_tables.specs.Content.{Content, IsSlabs, kept_at, cache_in, cache_at, layout_numbers}
use Rattle.machine_changes.specs.Records.{is_set, count_true}
use Rattle.machine_changes.specs.Shows.{machine_frame_of, byte_or_zero, is_live, live_of, IsAgreed, Agree}
use Rattle.machine_changes.specs.Keeps.{Keeps, Spares}
use Rattle.machine_changes.proofs.SlabFacts.{same_below}
use Rattle.machine_changes.proofs.SteadyParts.{one_owner}
use Rattle.machine_changes.proofs.UntouchedTenant.{machine_frame_same}
use Rattle.machine_changes.proofs.TenantEmptied.{same_cache}

-- Only tenant t is affected. Only one machine frame has a new list entry or stored state: `machine_frame`, the machine frame of
-- frame `first` of t.
pub record IsLocal (r r' : spaces.Content) (b b' : buddies.Content) (s s' : Content) (t first machine_frame : ℕ) : Type 0 where
  pub space : r' ≡ record r { banks = r'.banks }
  pub bytes : (u : ℕ) → u ≢ t → IsSameFor u r r'
  pub spare : SpareStays r r'
  pub buddy : b' ≡ buddies.with_holding t (buddies.holding_of t b') b
  pub top : s'.top ≡ s.top
  pub under : machine_frame_of s.top r.slots t first ≡ Some machine_frame
  pub caches : (i : ℕ) → (i / MAX_CACHES ≡ t → ⊥) → cache_in s'.caches i ≡ cache_in s.caches i
  pub lists : (n : ℕ) → n ≢ machine_frame → place_at s'.lists.places n ≡ place_at s.lists.places n
  pub kept : (n : ℕ) → n ≢ machine_frame → kept_at s'.kept n ≡ kept_at s.kept n

-- the parts still agree on a slab if its machine frame, its taken block, its stored state and its live objects have not changed
pub agreed_still : (r r' : spaces.Content) (b b' : buddies.Content) (s s' : Content) (machine_frame head key : ℕ) (cache : own.Cache)
    → (layout_numbers cache).count ≤ 256 → IsAgreed r b s machine_frame head key cache
    → machine_frame_of s'.top r'.slots (head / 3 / MAX_CACHES) key ≡ machine_frame_of s.top r.slots (head / 3 / MAX_CACHES) key
    → buddies.taken_of (buddies.holding_of (head / 3 / MAX_CACHES) b') key ≡ buddies.taken_of (buddies.holding_of (head / 3 / MAX_CACHES) b) key
    → kept_at s'.kept machine_frame ≡ kept_at s.kept machine_frame
    → ((i : ℕ) → i < 256 → is_live r' (head / 3 / MAX_CACHES) cache (kept_at s.kept machine_frame) key i ≡ is_live r (head / 3 / MAX_CACHES) cache (kept_at s.kept machine_frame) key i)
    → IsAgreed r' b' s' machine_frame head key cache
agreed_still r r' b b' s s' machine_frame head key cache few g under taken kept live = record {
  under = under ∙ g.under;
  taken = taken ∙ g.taken;
  counted = ap (λ k. k.live) kept ∙ g.counted
      ∙ sym (ap (λ k. count_true (live_of r' (head / 3 / MAX_CACHES) cache k key)) kept
      ∙ ap count_true (same_below 0 (layout_numbers cache).count (is_live r' (head / 3 / MAX_CACHES) cache (kept_at s.kept machine_frame) key)
      (is_live r (head / 3 / MAX_CACHES) cache (kept_at s.kept machine_frame) key) (λ i low high. live i (omega arith))));
  rest = λ i low high. ap (λ k. is_live r' (head / 3 / MAX_CACHES) cache k key i) kept ∙ live i high ∙ g.rest i low high;
}

module _ (r r' : spaces.Content) (b b' : buddies.Content) (s s' : Content) (t first machine_frame : ℕ) (k : IsLocal r r' b b' s s' t first machine_frame)
    (apart : IsOneToOne r) where
  cache_other : (u c : ℕ) → u ≢ t → cache_at s' u c ≡ cache_at s u c
  cache_other u c differ = same_cache s' s t u c k.caches differ

  not_here : (u f n : ℕ) → u ≢ t → machine_frame_of s.top r.slots u f ≡ Some n → n ≢ machine_frame
  not_here u f n differ e same =
      differ (one_owner r s.top t first u f machine_frame apart k.under (e ∙ ap (λ x. Some x) same)).tenant

  keeps_other : (u : ℕ) → u ≢ t → Keeps r r' b b' s s' u
  keeps_other u differ = record {
    space = k.bytes u differ;
    buddy = ap (buddies.holding_of u) k.buddy ∙ other_holding t u (buddies.holding_of t b') b differ;
    slabs = record {
      top = k.top;
      caches = λ c. cache_other u c differ;
      lists = λ f n e. k.lists n (not_here u f n differ e);
      kept = λ f n e. k.kept n (not_here u f n differ e);
    };
  }

  pub spares_of : Spares t r r' b b' s s'
  spares_of = record { others = keeps_other; space = k.space; spare = k.spare; buddy = k.buddy }

  module _ (w : IsSlabs s) (a : Agree r b s)
      (machine_frames : length s'.lists.places ≡ length s.lists.places) (tables : length s'.caches ≡ length s.caches)
      (slots : (v : ℕ) → buddies.superblock_at (buddies.holding_of t b') v ≡ buddies.superblock_at (buddies.holding_of t b) v)
      (here : (head key : ℕ) → place_at s'.lists.places machine_frame ≡ Some (head, key) → head / 3 / MAX_CACHES ≡ t)
      (mine : (n head key : ℕ) (cache : own.Cache) → place_at s'.lists.places n ≡ Some (head, key) → cache_in s'.caches (head / 3) ≡ Some cache
      → head / 3 / MAX_CACHES ≡ t → IsAgreed r' b' s' n head key cache) where
    other_agreed : (n head key : ℕ) (cache : own.Cache) → place_at s'.lists.places n ≡ Some (head, key) → cache_in s'.caches (head / 3) ≡ Some cache
        → (head / 3 / MAX_CACHES ≡ t → ⊥) → IsAgreed r' b' s' n head key cache
    other_agreed n head key cache placed cached differ =
        let u : ℕ = head / 3 / MAX_CACHES in
        let away : n ≢ machine_frame = λ e. differ (here head key (ap (place_at s'.lists.places) (sym e) ∙ placed)) in
        let was : cache_in s.caches (head / 3) ≡ Some cache = sym (k.caches (head / 3) differ) ∙ cached in
        let keeps : Keeps r r' b b' s s' u = keeps_other u differ in
        agreed_still r r' b b' s s' n head key cache ((w.fits (head / 3) cache was).layout.fits 0).few
        (a.slabs n head key cache (sym (k.lists n away) ∙ placed) was)
        (machine_frame_same r r' b b' s s' u keeps key)
        (ap (λ h. buddies.taken_of h key) keeps.buddy)
        (k.kept n away)
        (λ i less. ap (λ x. cond (is_small (layout_numbers cache).chunk) (is_set (byte_or_zero x) (i % 8)) (is_set (kept_at s.kept n).outside i))
        (keeps.space.bytes (4096 * key + 4064 + i / 8)))

    slots_now : (u v : ℕ) → buddies.superblock_at (buddies.holding_of u b') v ≡ spaces.superblock_at r'.slots u v
    slots_now u v =
        ⊎_elim (λ e. subst (λ x. buddies.superblock_at (buddies.holding_of x b') v ≡ buddies.superblock_at (buddies.holding_of x b) v) (sym e) (slots v))
        (λ differ. ap (λ h. buddies.superblock_at h v) (keeps_other u differ).buddy) (cases_eq u t)
        ∙ a.slots u v ∙ sym (ap (λ x. spaces.superblock_at x.slots u v) k.space)

    pub agree_of : Agree r' b' s'
    agree_of = record {
      order = ap (λ x. x.top) k.buddy ∙ a.order ∙ sym k.top;
      unit = ap (λ x. x.unit) k.space ∙ a.unit ∙ sym (ap (λ top. 4096 * 2 ^ top) k.top);
      superblocks = ap (λ x. length x.owners) k.space ∙ a.superblocks ∙ sym (ap (λ x. x.superblocks) k.buddy);
      machine_frames = machine_frames ∙ a.machine_frames ∙ sym (ap (λ x. x.superblocks * 2 ^ s'.top) k.buddy ∙ ap (λ top. b.superblocks * 2 ^ top) k.top);
      rows = ap (λ x. length x.slots) k.space ∙ a.rows ∙ sym (ap (λ x. length x.tenants) k.buddy ∙ length-set b.tenants t (buddies.holding_of t b'));
      tenants = tables ∙ a.tenants
          ∙ sym (ap (λ x. MAX_CACHES * length x.tenants) k.buddy ∙ ap (λ n. MAX_CACHES * n) (length-set b.tenants t (buddies.holding_of t b')));
      slots = slots_now;
      slabs = λ n head key cache placed cached.
          ⊎_elim (mine n head key cache placed cached) (other_agreed n head key cache placed cached) (cases_eq (head / 3 / MAX_CACHES) t);
    }
