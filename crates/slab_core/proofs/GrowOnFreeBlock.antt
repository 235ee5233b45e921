-- The block that the buddy system chooses becomes the next slab of a cache, as in the machine, and the parts still agree.
use Rattle.std.proofs.Common.{◌≡◌, ◌≢◌, ◌↔◌, ℕ, ◌+◌, ◌-◌, ◌*◌, ◌/◌, ◌%◌, ◌^◌, ◌<◌, ◌≤◌, Bool, true, false, zero, suc, cond, ltb, leb, length, Some, None, IsSome, refl, sym, ap, ◌∙◌, subst, ⊎_elim, arith}
use Rattle.std.specs.Prelude.{Option, is_some, ◌&&◌}
use Rattle.std.proofs.lemmas.Bool.{cases_eq, false≢true, eq-eqb, ne_eqb, and_parts, leb-true, ltb-true, false_from_ne_true}
use Rattle.std.proofs.lemmas.List.{length-set, get_or-set_same, get_or-set_other}
use Rattle.std.proofs.lemmas.Nat.{pow_pos, div-add-mod', mod_below}
use Rattle.std.proofs.Math.Nat.{mul-le-mul_right, lt-div-mul-add}
use Rattle.model_core.specs.Blocks.{block, HasFrame, IsAligned, IsTaken, IsChoice, IsWithout, with_taken}
use Rattle.model_core.specs.Machine.{Cache, Machine, choice}
use Rattle.model_core.specs.Slabs.{cache_of, grown}
use Rattle.model_core.specs.Layouts.{IsLayout, is_small, in_object, object_place, pattern_byte}
use Rattle.model_core.specs.declared.limits.TheConstants.{MAX_CACHES, WIDE_FRAMES}
use Rattle.model_core.proofs.BlocksApart.{has_first, in_block-true}
use Rattle.klist_core.specs.Places.{place_at}
use Rattle.space_core.specs.Content as spaces
use Rattle.space_core.specs.Windows.{home_of, byte_at}
use Rattle.space_core.proofs.Ranges.{range_held}
use Rattle.buddy_core.specs.Content as buddies
use Rattle.buddy_core.proofs.Holdings.{own_holding, taken-with_block}
use Rattle.slab_tables.specs.declared.cache.Cache as own
use Rattle.slab_tables.specs.Content.{Content, IsSlabs, kept_at, cache_in, cache_at, index_of_cache, head_of, layout_numbers}
use Rattle.slab_tables.specs.Changes.{fresh_kept, made_more, with_new_slab}
use Rattle.machine_changes.specs.Records.{is_set, count_true, flags_from}
use Rattle.machine_changes.specs.Shows.{frame_under, machine_frame_of, is_inside, record_byte, byte_or_zero, is_live, live_of, IsSlab, IsAgreed, Agree, ShowsMachine}
use Rattle.machine_changes.specs.Keeps.{Spares}
use Rattle.machine_changes.specs.Slots.{HoldTogether}
use Rattle.machine_changes.specs.Steady.{IsSteady}
use Rattle.machine_changes.specs.Changes.{IsGrown}
use Rattle.machine_changes.proofs.Lookups.{some_none, some_same}
use Rattle.machine_changes.proofs.SlabFacts.{under_is, one_stays, record_inside}
use Rattle.machine_changes.proofs.SlabMade.{none_set, grown_shows}
use Rattle.machine_changes.proofs.SteadyParts.{within, in_table, tenant_is}
use Rattle.model_core.proofs.FreeBlocks.{reserved_is_untaken}
use Rattle.model_core.proofs.ChosenBlock.{choices_meet}
use Rattle.model_core.proofs.Lists.{some_of}
use Rattle.machine_changes.proofs.TakenBlocks.{taken_meets}
use Rattle.slab_core.specs.Calls.{IsConstructed}
use Rattle.slab_core.specs.Fitting.{HasFreeBlock}
use Rattle.slab_core.proofs.LocalChange.{IsLocal, agreed_still, spares_of, agree_of}
use Rattle.slab_core.proofs.BareCache.{cache_here, cache_there, in_other}
use Rattle.slab_core.proofs.SlabFacts.{in_tables}
use Rattle.slab_core.proofs.DestroyCache.{among_all}

no_place : (o : Option (ℕ × ℕ)) → ((head key : ℕ) → o ≡ Some (head, key) → ⊥) → o ≡ None
no_place None none = refl
no_place (Some p) none = absurd (none p.0 p.1 refl)

-- if tenant t has no free block of order k or more, the result `None` is right
pub none_free : {A : Type 0} (b : buddies.Content) (t k : ℕ) → IsWithout b.top (buddies.is_held (buddies.holding_of t b)) (buddies.taken_of (buddies.holding_of t b)) k
    → (o : Option A) → o ≡ None → IsSome o ↔ HasFreeBlock b t k
none_free b t k without o none = (λ e. absurd (false≢true (sym (ap is_some none) ∙ e)), λ h. absurd (without h.found h.free h.enough))

pub some_free : {A : Type 0} (b : buddies.Content) (t k f j : ℕ) → IsChoice b.top (buddies.is_held (buddies.holding_of t b)) (buddies.taken_of (buddies.holding_of t b)) k (block f j)
    → (p : A) → IsSome (Some p) ↔ HasFreeBlock b t k
some_free b t k f j chosen p = (λ e. record { found = block f j; free = chosen.0; enough = chosen.1 }, λ h. refl)

-- if two orders are equal, the block chosen for one is the block chosen for the other
pub chosen_for : (b : buddies.Content) (t k k' f j : ℕ) → k ≡ k'
    → IsChoice b.top (buddies.is_held (buddies.holding_of t b)) (buddies.taken_of (buddies.holding_of t b)) k (block f j)
    → IsChoice b.top (buddies.is_held (buddies.holding_of t b)) (buddies.taken_of (buddies.holding_of t b)) k' (block f j)
chosen_for b t k k' f j e is =
    subst (λ i. IsChoice b.top (buddies.is_held (buddies.holding_of t b)) (buddies.taken_of (buddies.holding_of t b)) i (block f j)) e is

module _ {r : spaces.Content} {b : buddies.Content} {s : Content} (t k : ℕ) (a : Agree r b s) where
  -- the first frame of a chosen block has a machine frame
  pub has_machine_frame : (f j : ℕ) → IsChoice b.top (buddies.is_held (buddies.holding_of t b)) (buddies.taken_of (buddies.holding_of t b)) k (block f j)
      → machine_frame_of s.top r.slots t f ≡ None → ⊥
  has_machine_frame f j chosen none =
      let free = reserved_is_untaken b.top (buddies.is_held (buddies.holding_of t b)) (buddies.taken_of (buddies.holding_of t b)) f j k chosen.0 chosen.1 in
      let held : is_some (spaces.superblock_at r.slots t (f / 2 ^ s.top)) ≡ true =
      subst (λ top. is_some (spaces.superblock_at r.slots t (f / 2 ^ top)) ≡ true) a.order
      (ap is_some (sym (a.slots t (f / 2 ^ b.top))) ∙ (free.1 f (has_first (block f k))).0) in
      go (spaces.superblock_at r.slots t (f / 2 ^ s.top)) held none
    where
      go : (o : Option ℕ) → is_some o ≡ true → frame_under s.top f o ≡ None → ⊥
      go None held e = false≢true held
      go (Some m) held e = some_none e

  -- if order k is above the order of a superblock, no free block is large enough
  pub none_large : b.top < k → IsWithout b.top (buddies.is_held (buddies.holding_of t b)) (buddies.taken_of (buddies.holding_of t b)) k
  none_large large z free enough = absurd (let small = free.0.0 in omega arith)

  module _ (st : IsSteady r b s t) (m : Machine) (h : ShowsMachine r b s t m) where
    both : ((first j : ℕ) → IsChoice b.top (buddies.is_held (buddies.holding_of t b)) (buddies.taken_of (buddies.holding_of t b)) k (block first j) → choice b.top m k ≡ Some first)
        × (IsWithout b.top (buddies.is_held (buddies.holding_of t b)) (buddies.taken_of (buddies.holding_of t b)) k → choice b.top m k ≡ None)
    both = choices_meet b.top k (buddies.is_held (buddies.holding_of t b)) (buddies.taken_of (buddies.holding_of t b)) m
        (λ u. h.slots u ∙ sym (ap is_some (a.slots t u))) (taken_meets r b s t m st h)

    -- the machine chooses the same block as the buddy system
    pub choice_some : (f j : ℕ) → IsChoice b.top (buddies.is_held (buddies.holding_of t b)) (buddies.taken_of (buddies.holding_of t b)) k (block f j)
        → choice s.top m k ≡ Some f
    choice_some f j chosen = ap (λ top. choice top m k) (sym a.order) ∙ both.0 f j chosen

    pub choice_none : IsWithout b.top (buddies.is_held (buddies.holding_of t b)) (buddies.taken_of (buddies.holding_of t b)) k → choice s.top m k ≡ None
    choice_none without = ap (λ top. choice top m k) (sym a.order) ∙ both.1 without

    pub choice_large : b.top < k → choice s.top m k ≡ None
    choice_large large = choice_none (none_large large)

-- the buddy system has chosen the block at frame f, whose machine frame is n, for the next slab of cache c of tenant t
pub record IsChosen (r : spaces.Content) (b : buddies.Content) (s : Content) (t c : ℕ) (cache : own.Cache) (f j n : ℕ) : Type 0 where
  pub parts : HoldTogether r b s
  pub steady : IsSteady r b s t
  pub tenant : t < length r.slots
  pub cached : cache_at s t c ≡ Some cache
  pub block : IsChoice b.top (buddies.is_held (buddies.holding_of t b)) (buddies.taken_of (buddies.holding_of t b)) (layout_numbers cache).order (block f j)
  pub under : machine_frame_of s.top r.slots t f ≡ Some n

module _ {r : spaces.Content} {b : buddies.Content} {s : Content} {t c : ℕ} {cache : own.Cache} {f j n : ℕ} (chosen : IsChosen r b s t c cache f j n) where
  w : IsSlabs s
  w = chosen.parts.slabs

  a : Agree r b s
  a = chosen.parts.agree

  under : machine_frame_of s.top r.slots t f ≡ Some n
  under = chosen.under

  cached : cache_at s t c ≡ Some cache
  cached = chosen.cached

  -- the cache's layout is valid
  pub cut : IsLayout cache.layout.size cache.layout.align (layout_numbers cache)
  cut = (in_tables s t c cache w cached).layout

  known : t < length b.tenants
  known = subst (λ x. t < x) a.rows chosen.tenant

  abbrev k : ℕ
  k = (layout_numbers cache).order

  free : IsAligned b.top (block f k) × ((x : ℕ) → HasFrame (block f k) x → (buddies.is_held (buddies.holding_of t b) (x / 2 ^ b.top) ≡ true) × (IsTaken (buddies.taken_of (buddies.holding_of t b)) x → ⊥))
  free = reserved_is_untaken b.top (buddies.is_held (buddies.holding_of t b)) (buddies.taken_of (buddies.holding_of t b)) f j k chosen.block.0 chosen.block.1

  aligned : IsAligned s.top (block f k)
  aligned = subst (λ top. IsAligned top (block f k)) a.order free.0

  held : IsSome (spaces.superblock_at r.slots t (f / 2 ^ s.top))
  held = subst (λ top. is_some (spaces.superblock_at r.slots t (f / 2 ^ top)) ≡ true) a.order
      (ap is_some (sym (a.slots t (f / 2 ^ b.top))) ∙ (free.1 f (has_first (block f k))).0)

  untaken : (x : ℕ) → HasFrame (block f k) x → IsTaken (buddies.taken_of (buddies.holding_of t b)) x → ⊥
  untaken x inside = (free.1 x inside).1

  not_first : (g : ℕ) → buddies.taken_of (buddies.holding_of t b) f ≡ Some g → ⊥
  not_first g e = untaken f (has_first (block f k)) (f, g, e, has_first (block f g))

  pub in_reach : IsSome (home_of r t (4096 * f) (4096 * 2 ^ k))
  in_reach =
      let some : 0 < 2 ^ k = pow_pos k in
      range_held r t s.top f k (4096 * f) (4096 * 2 ^ k) a.unit aligned.0 aligned.1 held (omega arith) (omega arith) (omega arith)

  frame_within : f < length (buddies.holding_of t b).taken
  frame_within =
      let top = b.top in
      let there = some_of (buddies.superblock_at (buddies.holding_of t b) (f / 2 ^ b.top)) (free.1 f (has_first (block f k))).0 in
      let slot : f / 2 ^ b.top < b.superblocks = subst (λ x. f / 2 ^ b.top < x) (chosen.parts.buddy.sizes.slots t known) (within _ _ there.0 there.1) in
      let below : f < f / 2 ^ b.top * 2 ^ b.top + 2 ^ b.top = lt-div-mul-add (pow_pos b.top) in
      omega (arith, below, mul-le-mul_right (2 ^ b.top) slot, chosen.parts.buddy.sizes.taken t known)

  pub few : f < WIDE_FRAMES
  few = omega (arith, frame_within, chosen.parts.buddy.sizes.taken t known, a.machine_frames, ap (λ top. b.superblocks * 2 ^ top) a.order, w.small)

  -- no slab begins at machine frame n
  pub vacant : place_at s.lists.places n ≡ None
  vacant = no_place (place_at s.lists.places n) (λ head key e.
      let there = chosen.steady.listed f n head key under e in
      not_first (layout_numbers there.1).order (chosen.steady.stands there.0 f n there.1 there.2).taken)

  pub fresh : (x : ℕ) → place_at s.lists.places x ≢ Some (head_of t c 2, f)
  fresh x e =
      let small = (in_table s t c cache cached).number in
      let there = w.standing x (head_of t c 2) f e in
      let tenant_of : head_of t c 2 / 3 / MAX_CACHES ≡ t = omega arith in
      let taken = (a.slabs x (head_of t c 2) f there.0 e there.1).taken in
      not_first (layout_numbers there.0).order (subst (λ u. buddies.taken_of (buddies.holding_of u b) f ≡ Some (layout_numbers there.0).order) tenant_of taken)

  pub machine_frame_within : n < length s.lists.places
  machine_frame_within =
      let there = under_is s.top f n (spaces.superblock_at r.slots t (f / 2 ^ s.top)) under in
      let owned = within r.owners there.0 _ ((chosen.parts.space.facts.agree t (f / 2 ^ s.top) there.0).0 there.1) in
      let rest : f % 2 ^ s.top < 2 ^ s.top = mod_below f (2 ^ s.top) (pow_pos s.top) in
      omega (arith, owned, rest, mul-le-mul_right (2 ^ s.top) owned, a.superblocks, a.machine_frames, there.2, ap (λ x. x * 2 ^ s.top) a.superblocks)

  small : c < MAX_CACHES
  small = (in_table s t c cache cached).number

  among : index_of_cache t c < length s.caches
  among = among_all r b s t c a chosen.tenant small

  pub kept_now : kept_at (with_new_slab s t c cache f n).kept n ≡ fresh_kept cache
  kept_now = get_or-set_same s.kept n (fresh_kept cache) _ (subst (λ l. n < l) (sym w.paired) machine_frame_within)

  placed_now : place_at (with_new_slab s t c cache f n).lists.places n ≡ Some (head_of t c 2, f)
  placed_now = get_or-set_same s.lists.places n (Some (head_of t c 2, f)) None machine_frame_within

  abbrev pub reserved : buddies.Content
  reserved = buddies.with_holding t (buddies.with_block f k (buddies.holding_of t b)) b

  holding_now : buddies.holding_of t reserved ≡ buddies.with_block f k (buddies.holding_of t b)
  holding_now = own_holding t (buddies.with_block f k (buddies.holding_of t b)) b known

  taken_now : (g : ℕ) → buddies.taken_of (buddies.holding_of t reserved) g ≡ with_taken (buddies.taken_of (buddies.holding_of t b)) f k g
  taken_now g =
      ap (λ h. buddies.taken_of h g) holding_now
      ∙ ap (λ (taken : ℕ → Option ℕ). taken g) (taken-with_block (buddies.holding_of t b) f k frame_within)

  module _ {r' : spaces.Content}
      (built : IsConstructed r r' t cache f (fresh_kept cache).colour (layout_numbers cache).count) where
    abbrev s' : Content
    s' = with_new_slab s t c cache f n

    -- each byte of an object is the byte of the repeated pattern for its offset in the object
    constructed : (place : ℕ) → is_inside place f cache ≡ true
        → in_object (layout_numbers cache) cache.layout.size (fresh_kept cache).colour (place - 4096 * f) ≡ true
        → byte_at r' t place ≡ Some (pattern_byte cache.pattern ((place - 4096 * f - (fresh_kept cache).colour) % (layout_numbers cache).chunk))
    constructed place inside object =
        let colour : ℕ = (fresh_kept cache).colour in
        let chunk : ℕ = (layout_numbers cache).chunk in
        let offset : ℕ = place - 4096 * f in
        let one = and_parts (leb colour offset) (ltb ((offset - colour) / chunk) (layout_numbers cache).count && ltb ((offset - colour) % chunk) cache.layout.size) object in
        let two = and_parts (ltb ((offset - colour) / chunk) (layout_numbers cache).count) (ltb ((offset - colour) % chunk) cache.layout.size) one.1 in
        let low : colour ≤ offset = leb-true colour offset one.0 in
        let frame : HasFrame (block f k) (place / 4096) = in_block-true place (block f k) inside in
        let begins : 4096 * f ≤ place = omega (arith, frame.0) in
        let split : (offset - colour) / chunk * chunk + (offset - colour) % chunk ≡ offset - colour = div-add-mod' (offset - colour) chunk in
        let at : object_place (layout_numbers cache) f colour ((offset - colour) / chunk) + (offset - colour) % chunk ≡ place = omega arith in
        ap (byte_at r' t) (sym at)
        ∙ built.objects ((offset - colour) / chunk) ((offset - colour) % chunk)
        (ltb-true ((offset - colour) / chunk) (layout_numbers cache).count two.0) (ltb-true ((offset - colour) % chunk) cache.layout.size two.1)

    pub one_grown : IsGrown r r' b reserved s s' t c cache f n
    one_grown = record {
      top = refl;
      slots = λ u. ap (λ x. spaces.superblock_at x.slots t u) built.space;
      cached = cached;
      made = cache_here s t c (Some (made_more cache)) small among;
      caches = λ d differ. cache_there s t c (Some (made_more cache)) small among d differ;
      under = under;
      vacant = vacant;
      listed = placed_now;
      fresh = kept_now;
      lists = λ x differ. get_or-set_other s.lists.places n x (Some (head_of t c 2, f)) None differ;
      kept = λ x differ. get_or-set_other s.kept n x (fresh_kept cache) _ differ;
      clear = built.clear;
      taken = taken_now;
      constructed = constructed;
      bytes = built.bytes;
    }

    alone : IsLocal r r' b reserved s s' t f n
    alone = record {
      space = built.space;
      bytes = built.others;
      spare = built.spare;
      buddy = sym (ap (λ h. buddies.with_holding t h b) holding_now);
      top = refl;
      under = under;
      caches = λ i other. in_other s t c (Some (made_more cache)) small among i
          (λ e. other (let same : i / MAX_CACHES ≡ t = tenant_is i t c e small in same));
      lists = λ x differ. get_or-set_other s.lists.places n x (Some (head_of t c 2, f)) None differ;
      kept = λ x differ. get_or-set_other s.kept n x (fresh_kept cache) _ differ;
    }

    pub one_spares : Spares t r r' b reserved s s'
    one_spares = spares_of r r' b reserved s s' t f n alone chosen.parts.space.apart

    -- no object of the new slab is live
    down : (i : ℕ) → i < 256 → is_live r' t cache (fresh_kept cache) f i ≡ false
    down i less = go (is_small (layout_numbers cache).chunk) refl
      where
        go : (v : Bool) → is_small (layout_numbers cache).chunk ≡ v
            → cond v (is_set (record_byte r' t f (i / 8)) (i % 8)) (is_set 0 i) ≡ false
        go true e = ap (λ x. is_set x (i % 8)) (built.clear e (i / 8) (omega arith)) ∙ none_set (i % 8)
        go false e = none_set i

    count_none : (m i : ℕ) (p : ℕ → Bool) → ((j : ℕ) → j < i + m → p j ≡ false) → count_true (flags_from i m p) ≡ 0
    count_none zero i p none = refl
    count_none (suc m) i p none =
        let more = count_none m (suc i) p (λ j less. none j (omega arith)) in
        ap (λ v. cond v 1 0 + count_true (flags_from (suc i) m p)) (none i (omega arith)) ∙ omega (arith, more)

    new_agrees : IsAgreed r' reserved s' n (head_of t c 2) f (made_more cache)
    new_agrees =
        let below : c < MAX_CACHES = small in
        let tenant_of : head_of t c 2 / 3 / MAX_CACHES ≡ t = omega arith in
        let few_objects = (cut.fits 0).few in
        record {
          under = subst (λ u. machine_frame_of s.top r'.slots u f ≡ Some n) (sym tenant_of)
              (ap (λ x. machine_frame_of s.top x.slots t f) built.space ∙ under);
          taken = subst (λ u. buddies.taken_of (buddies.holding_of u reserved) f ≡ Some k) (sym tenant_of)
              (taken_now f ∙ ap (λ v. cond v (Some k) (buddies.taken_of (buddies.holding_of t b) f)) (eq-eqb f f refl));
          counted = subst (λ u. (kept_at s'.kept n).live ≡ count_true (live_of r' u (made_more cache) (kept_at s'.kept n) f)) (sym tenant_of)
              (ap (λ x. x.live) kept_now
              ∙ sym (ap (λ x. count_true (live_of r' t cache x f)) kept_now
              ∙ count_none (layout_numbers cache).count 0 (is_live r' t cache (fresh_kept cache) f) (λ j less. down j (omega arith))));
          rest = λ i low high. subst (λ u. is_live r' u (made_more cache) (kept_at s'.kept n) f i ≡ false) (sym tenant_of)
              (ap (λ x. is_live r' t cache x f i) kept_now ∙ down i high);
        }

    -- the parts still agree on every other slab of tenant t
    stays : (x head key : ℕ) (other : own.Cache) → x ≢ n → place_at s.lists.places x ≡ Some (head, key) → cache_in s.caches (head / 3) ≡ Some other
        → head / 3 / MAX_CACHES ≡ t → IsAgreed r' reserved s' x head key other
    stays x head key other away placed old e =
        let g : IsAgreed r b s x head key other = a.slabs x head key other placed old in
        let here : machine_frame_of s.top r.slots t key ≡ Some x = subst (λ u. machine_frame_of s.top r.slots u key ≡ Some x) e g.under in
        let there = chosen.steady.listed key x head key here placed in
        let q : IsSlab r s t there.0 key x there.1 = there.2 in
        let differ : key ≡ f → ⊥ = λ same. away (some_same (sym here ∙ ap (machine_frame_of s.top r.slots t) same ∙ under)) in
        let taken : buddies.taken_of (buddies.holding_of t b) key ≡ Some (layout_numbers there.1).order = (chosen.steady.stands there.0 key x there.1 q).taken in
        agreed_still r r' b reserved s s' x head key other ((w.fits (head / 3) other old).layout.fits 0).few g
        (ap (λ y. machine_frame_of s.top y.slots (head / 3 / MAX_CACHES) key) built.space)
        (subst (λ u. buddies.taken_of (buddies.holding_of u reserved) key ≡ buddies.taken_of (buddies.holding_of u b) key) (sym e)
        (taken_now key ∙ ap (λ v. cond v (Some k) (buddies.taken_of (buddies.holding_of t b) key)) (ne_eqb key f differ)))
        (alone.kept x away)
        (λ i less. subst (λ u. is_live r' u other (kept_at s.kept x) key i ≡ is_live r u other (kept_at s.kept x) key i) (sym e)
        (one_stays r r' t other (kept_at s.kept x) key i
        (λ _ j low. ap byte_or_zero (built.bytes (4096 * key + 4064 + j)
        (false_from_ne_true (is_inside (4096 * key + 4064 + j) f cache) (λ inside.
        untaken ((4096 * key + 4064 + j) / 4096) (in_block-true (4096 * key + 4064 + j) (block f k) inside) (
          key,
          (layout_numbers there.1).order,
          taken,
          in_block-true (4096 * key + 4064 + j) (block key (layout_numbers there.1).order) (record_inside r b s t chosen.steady there.0 key x j there.1 q low),
        ))))) less))

    mine : (x head key : ℕ) (other : own.Cache) → place_at s'.lists.places x ≡ Some (head, key) → cache_in s'.caches (head / 3) ≡ Some other
        → head / 3 / MAX_CACHES ≡ t → IsAgreed r' reserved s' x head key other
    mine x head key other placed now e = ⊎_elim new old (cases_eq x n)
      where
        made_at : (i : ℕ) → i ≡ index_of_cache t c → cache_in s'.caches i ≡ Some other → made_more cache ≡ other
        made_at i index at =
            some_same (sym (get_or-set_same s.caches (index_of_cache t c) (Some (made_more cache)) None among)
            ∙ ap (cache_in s'.caches) (sym index) ∙ at)

        new : x ≡ n → IsAgreed r' reserved s' x head key other
        new same =
            let below : c < MAX_CACHES = small in
            let both : ◌≡◌ {A = ℕ × ℕ} (head_of t c 2, f) (head, key) = some_same (sym placed_now ∙ ap (place_at s'.lists.places) (sym same) ∙ placed) in
            let is_head : head_of t c 2 ≡ head = ap (λ (p : ℕ × ℕ). p.0) both in
            let is_key : f ≡ key = ap (λ (p : ℕ × ℕ). p.1) both in
            let index : head / 3 ≡ index_of_cache t c = omega arith in
            subst (λ y. IsAgreed r' reserved s' y head key other) (sym same)
            (subst (λ y. IsAgreed r' reserved s' n y key other) is_head
            (subst (λ y. IsAgreed r' reserved s' n (head_of t c 2) y other) is_key
            (subst (λ y. IsAgreed r' reserved s' n (head_of t c 2) f y) (made_at (head / 3) index now) new_agrees)))

        old : (x ≡ n → ⊥) → IsAgreed r' reserved s' x head key other
        old away = ⊎_elim
            (λ index.
            let g = stays x head key cache away (sym (alone.lists x away) ∙ placed)
            (ap (cache_in s.caches) index ∙ (in_table s t c cache cached).cached) e in
            subst (λ y. IsAgreed r' reserved s' x head key y) (made_at (head / 3) index now)
            (record { under = g.under; taken = g.taken; counted = g.counted; rest = g.rest }))
            (λ elsewhere. stays x head key other away (sym (alone.lists x away) ∙ placed)
            (sym (in_other s t c (Some (made_more cache)) small among (head / 3) elsewhere) ∙ now) e)
            (cases_eq (head / 3) (index_of_cache t c))

    pub one_agrees : Agree r' reserved s'
    one_agrees =
        agree_of r r' b reserved s s' t f n alone chosen.parts.space.apart w a (length-set s.lists.places n (Some (head_of t c 2, f)))
        (length-set s.caches (index_of_cache t c) (Some (made_more cache)))
        (λ v. ap (λ h. buddies.superblock_at h v) holding_now)
        (λ head key placed.
        let below : c < MAX_CACHES = small in
        let same : head_of t c 2 ≡ head = ap (λ (p : ℕ × ℕ). p.0) (some_same (sym placed_now ∙ placed)) in omega arith)
        mine

    -- the parts show the machine in which cache c has the new slab
    shown_grown : (m : Machine) (x : Cache) → ShowsMachine r b s t m → cache_of m c ≡ Some x → ShowsMachine r' reserved s' t (grown f x m)
    shown_grown m x h ex = grown_shows r r' b reserved s s' t c cache f n m x one_grown chosen.steady cut (λ g i y e there here. untaken y here (g, i, e, there)) ex h

    pub record IsMade (b' : buddies.Content) (s'' : Content) : Type 0 where
      pub shows : (m : Machine) (x : Cache) → ShowsMachine r b s t m → cache_of m c ≡ Some x → ShowsMachine r' b' s'' t (grown f x m)
      pub grown : IsGrown r r' b b' s s'' t c cache f n
      pub spares : Spares t r r' b b' s s''
      pub agree : Agree r' b' s''

    pub made : (b' : buddies.Content) (s'' : Content) → b' ≡ reserved → s'' ≡ s' → IsMade b' s''
    made b' s'' eb es =
        subst (λ x. IsMade x s'') (sym eb) (subst (λ x. IsMade reserved x) (sym es)
        (record { shows = shown_grown; grown = one_grown; spares = one_spares; agree = one_agrees }))
