-- If the memory, the buddy systems and the tables agree, `IsSteady` holds for each tenant.
use Rattle.std.proofs.Common.{◌≡◌, ℕ, ◌+◌, ◌*◌, ◌/◌, ◌%◌, ◌^◌, ◌<◌, ◌≤◌, Bool, true, false, cond, ltb, List, Some, None, length, refl, sym, ap, ◌∙◌, subst, ⊎_elim, arith}
use Rattle.std.specs.Prelude.{Option, is_some, ◌==◌, slice_index_or}
use Rattle.std.proofs.lemmas.Bool.{false≢true, eqb-true, eq-eqb, ltb-true, lt-ltb, and_parts, and_from, cases_lt}
use Rattle.std.proofs.lemmas.List.{get_or_past}
use Rattle.std.proofs.lemmas.Nat.{div-add-mod'}
use Rattle.model_core.specs.Blocks.{IsSound}
use Rattle.model_core.specs.declared.limits.TheConstants.{MAX_CACHES, WIDE_FRAMES}
use Rattle.layout_core.specs.Objects.{IsColour}
use Rattle.klist_core.specs.Places.{place_at}
use Rattle.space_core.specs.Content as spaces
use Rattle.space_core.specs.Laws.{IsOneToOne}
use Rattle.buddy_core.specs.Content as buddies
use Rattle.slab_tables.specs.declared.cache.Cache as own
use Rattle.slab_tables.specs.Content.{Content, IsSlabs, kept_at, cache_in, cache_at, index_of_cache, layout_numbers}
use Rattle.machine_changes.specs.Records.{count_true}
use Rattle.machine_changes.specs.Shows.{machine_frame_of, live_of, is_of_cache, IsSlab, IsAgreed, Agree}
use Rattle.machine_changes.specs.Steady.{IsStanding, IsSteady}
use Rattle.machine_changes.specs.Laws.{AreObjectsCounted, AgreeSteady}
use Rattle.machine_changes.proofs.Lookups.{some_none, some_same}
use Rattle.machine_changes.proofs.SlabFacts.{superblock_of_machine_frame, frame_of_machine_frame, under_is}

-- if the entry at index i is `Some x`, i is below the length of the list
pub within : {A : Type 0} (xs : List (Option A)) (i : ℕ) (x : A) → slice_index_or xs i None ≡ Some x → i < length xs
within xs i x e = ⊎_elim (λ less. less) (λ past. absurd (some_none (sym e ∙ get_or_past xs i None past))) (cases_lt i (length xs))

-- c is below MAX_CACHES, and the table of caches has this cache at the index of cache c of tenant t
pub record IsInTable (s : Content) (t c : ℕ) (cache : own.Cache) : Type 0 where
  pub number : c < MAX_CACHES
  pub cached : cache_in s.caches (index_of_cache t c) ≡ Some cache

pub in_table : (s : Content) (t c : ℕ) (cache : own.Cache) → cache_at s t c ≡ Some cache → IsInTable s t c cache
in_table s t c cache e = go (ltb c MAX_CACHES) refl e
  where
    go : (v : Bool) → ltb c MAX_CACHES ≡ v → cond v (cache_in s.caches (index_of_cache t c)) None ≡ Some cache → IsInTable s t c cache
    go true less e = record { number = ltb-true c MAX_CACHES less; cached = e }
    go false not e = absurd (some_none (sym e))

pub of_table : (s : Content) (t c : ℕ) (cache : own.Cache) → c < MAX_CACHES → cache_in s.caches (index_of_cache t c) ≡ Some cache → cache_at s t c ≡ Some cache
of_table s t c cache less e = ap (λ v. cond v (cache_in s.caches (index_of_cache t c)) None) (lt-ltb c MAX_CACHES less) ∙ e

-- The lists have an entry at machine frame n. Its key is f, and its list `head` is a list of cache c of tenant t.
pub record IsPlacedAs (s : Content) (t c f n : ℕ) (cache : own.Cache) : Type 0 where
  pub head : ℕ
  pub place : place_at s.lists.places n ≡ Some (head, f)
  pub index : head / 3 ≡ index_of_cache t c
  pub tenant : head / 3 / MAX_CACHES ≡ t
  pub number : c < MAX_CACHES
  pub cached : cache_in s.caches (head / 3) ≡ Some cache

-- if n is the index of cache c of tenant t, and c is below MAX_CACHES, n / MAX_CACHES is t
pub tenant_is : (n t c : ℕ) → n ≡ MAX_CACHES * t + c → c < MAX_CACHES → n / MAX_CACHES ≡ t
tenant_is n t c e less = omega arith

pub placed_as : (r : spaces.Content) (s : Content) (t c f n : ℕ) (cache : own.Cache) → IsSlab r s t c f n cache → IsPlacedAs s t c f n cache
placed_as r s t c f n cache q = go (place_at s.lists.places n) refl q.listed
  where
    there : IsInTable s t c cache
    there = in_table s t c cache q.cached

    go : (place : Option (ℕ × ℕ)) → place_at s.lists.places n ≡ place → is_of_cache (index_of_cache t c) f place ≡ true → IsPlacedAs s t c f n cache
    go None is e = absurd (false≢true e)
    go (Some p) is e =
        let both = and_parts (p.0 / 3 == index_of_cache t c) (p.1 == f) e in
        let index : p.0 / 3 ≡ index_of_cache t c = eqb-true (p.0 / 3) (index_of_cache t c) both.0 in
        record {
          head = p.0;
          place = is ∙ ap (λ (g : ℕ). Some (p.0, g)) (eqb-true p.1 f both.1);
          index = index;
          tenant = tenant_is (p.0 / 3) t c index there.number;
          number = there.number;
          cached = ap (cache_in s.caches) index ∙ there.cached;
        }

-- if the machine frame of frame f of tenant t has key f in a list of cache c, a slab of cache c begins at f
pub slab_from : (r : spaces.Content) (s : Content) (t c f n head : ℕ) (cache : own.Cache) → c < MAX_CACHES → head / 3 ≡ index_of_cache t c
    → cache_in s.caches (head / 3) ≡ Some cache → machine_frame_of s.top r.slots t f ≡ Some n → place_at s.lists.places n ≡ Some (head, f)
    → IsSlab r s t c f n cache
slab_from r s t c f n head cache less index cached under place = record {
  cached = of_table s t c cache less (ap (cache_in s.caches) (sym index) ∙ cached);
  under = under;
  listed = ap (is_of_cache (index_of_cache t c) f) place ∙ and_from (head / 3 == index_of_cache t c) (f == f) (eq-eqb (head / 3) (index_of_cache t c) index) (eq-eqb f f refl);
}

-- frame g of tenant u is frame f of tenant t
pub record IsOneOwner (t f u g : ℕ) : Type 0 where
  pub tenant : u ≡ t
  pub frame : g ≡ f

-- if frame f of tenant t and frame g of tenant u have the same machine frame, u is t and g is f
pub one_owner : (r : spaces.Content) (top t f u g n : ℕ) → IsOneToOne r → machine_frame_of top r.slots t f ≡ Some n → machine_frame_of top r.slots u g ≡ Some n
    → IsOneOwner t f u g
one_owner r top t f u g n apart e e' =
    let z = 2 ^ top in
    let here = under_is top f n (spaces.superblock_at r.slots t (f / z)) e in
    let there = under_is top g n (spaces.superblock_at r.slots u (g / z)) e' in
    let machine_frame : there.0 * z + g % z ≡ here.0 * z + f % z = sym there.2 ∙ here.2 in
    let superblock : there.0 ≡ here.0 = sym (superblock_of_machine_frame top there.0 g) ∙ ap (λ x. x / z) machine_frame ∙ superblock_of_machine_frame top here.0 f in
    let frame : g % z ≡ f % z = sym (frame_of_machine_frame top there.0 g) ∙ ap (λ x. x % z) machine_frame ∙ frame_of_machine_frame top here.0 f in
    let owner = apart.slots u (g / z) t (f / z) here.0 (there.1 ∙ ap (λ m. Some m) superblock) here.1 in
    record {
      tenant = owner.0;
      frame = sym (div-add-mod' g z) ∙ ap (λ x. x * z + g % z) owner.1 ∙ ap (λ x. f / z * z + x) frame ∙ div-add-mod' f z;
    }

module _ (r : spaces.Content) (b : buddies.Content) (s : Content) (w : IsSlabs s) (a : Agree r b s) where
  -- the parts agree on each slab of each tenant
  pub agreed : (t c f n : ℕ) (cache : own.Cache) → IsSlab r s t c f n cache → (p : IsPlacedAs s t c f n cache) → IsAgreed r b s n p.head f cache
  agreed t c f n cache q p = a.slabs n p.head f cache p.place p.cached

  stands : (t c f n : ℕ) (cache : own.Cache) → IsSlab r s t c f n cache → IsStanding b s t f n cache
  stands t c f n cache q =
      let p = placed_as r s t c f n cache q in
      let kept = w.standing n p.head f p.place in
      let same : kept.0 ≡ cache = some_same (sym kept.1 ∙ p.cached) in
      record {
        taken = subst (λ u. buddies.taken_of (buddies.holding_of u b) f ≡ Some (layout_numbers cache).order) p.tenant (agreed t c f n cache q p).taken;
        layout = (w.fits (p.head / 3) cache p.cached).layout;
        colour = subst (λ (x : own.Cache). IsColour x.layout (kept_at s.kept n).colour) same kept.2.colour;
      }

  pub counted : (t : ℕ) → AreObjectsCounted r s t
  counted t c f n cache q =
      let p = placed_as r s t c f n cache q in
      subst (λ u. (kept_at s.kept n).live ≡ count_true (live_of r u cache (kept_at s.kept n) f)) p.tenant (agreed t c f n cache q p).counted

  -- if the machine frame of frame f of tenant t is in a list of slabs, a slab of t begins at f
  pub slab_listed : (t f n head key : ℕ) → IsOneToOne r → machine_frame_of s.top r.slots t f ≡ Some n → place_at s.lists.places n ≡ Some (head, key)
      → (c : ℕ) × (cache : own.Cache) × IsSlab r s t c f n cache
  slab_listed t f n head key apart under place =
      let kept = w.standing n head key place in
      let one = one_owner r s.top t f (head / 3 / MAX_CACHES) key n apart under (a.slabs n head key kept.0 place kept.1).under in
      let index : head / 3 ≡ index_of_cache t (head / 3 % MAX_CACHES) = let same = one.tenant in omega arith in
      (head / 3 % MAX_CACHES, kept.0, slab_from r s t (head / 3 % MAX_CACHES) f n head kept.0 (omega arith) index kept.1 under (place ∙ ap (λ (g : ℕ). Some (head, g)) one.frame))

  module _ (t : ℕ) (lt : t < length r.slots) (apart : IsOneToOne r) (sized : buddies.IsSized b)
      (sound : (u : ℕ) → u < length b.tenants → buddies.IsSoundHolding b.top (buddies.holding_of u b)) where
    tenant : t < length b.tenants
    tenant = let same = a.rows in omega arith

    held_is : buddies.is_held (buddies.holding_of t b) ≡ (λ u. is_some (spaces.superblock_at r.slots t u))
    held_is = λ i u. ap is_some (a.slots t u) i

    few : (f k : ℕ) → buddies.taken_of (buddies.holding_of t b) f ≡ Some k → f < WIDE_FRAMES
    few f k e =
        let less : f < length (buddies.holding_of t b).taken = within (buddies.holding_of t b).taken f k e in
        let frames : length (buddies.holding_of t b).taken ≡ length s.lists.places =
        sized.taken t tenant ∙ ap (λ top. b.superblocks * 2 ^ top) a.order ∙ sym a.machine_frames in
        let small : length s.lists.places ≤ WIDE_FRAMES = w.small in
        omega arith

    pub steady : IsSteady r b s t
    steady = record {
      stands = stands t;
      listed = λ f n head key. slab_listed t f n head key apart;
      sound = subst (λ held. IsSound s.top held (buddies.taken_of (buddies.holding_of t b))) held_is
          (subst (λ top. IsSound top (buddies.is_held (buddies.holding_of t b)) (buddies.taken_of (buddies.holding_of t b))) a.order (sound t tenant));
      few = few;
      apart = λ u v m e e'. (apart.slots t u t v m e e').1;
    }

pub agree_steady : AgreeSteady
agree_steady r b s t w a lt apart sized sound = (steady r b s w a t lt apart sized sound, counted r b s w a t)
