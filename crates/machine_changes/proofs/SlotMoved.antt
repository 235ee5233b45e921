-- If a slot moves to another superblock, the memory, the buddy systems and the tables show the same machine for its tenant.
use Rattle.std.proofs.Common.{◌≡◌, ◌≢◌, ◌⊎◌, inl, inr, ℕ, ◌+◌, ◌*◌, ◌/◌, ◌%◌, ◌^◌, ◌<◌, cond, eqb, length, Some, None, refl, sym, ap, ◌∙◌, subst, ⊎_elim}
use Rattle.std.specs.Prelude.{Option, is_some}
use Rattle.std.proofs.lemmas.Bool.{eq-eqb, ne_eqb, cases_eq}
use Rattle.std.proofs.lemmas.List.{length-set}
use Rattle.std.proofs.lemmas.Nat.{div-add-mod', mod_below, pow_pos}
use Rattle.model_core.specs.Machine.{Machine}
use Rattle.model_core.specs.Owners.{owned_by}
use Rattle.model_core.specs.declared.limits.TheConstants.{MAX_CACHES}
use Rattle.klist_core.specs.Places.{place_at}
use Rattle.space_core.specs.Content as spaces
use Rattle.space_core.specs.Changes.{with_move}
use Rattle.space_core.specs.Laws.{ReadsSame}
use Rattle.buddy_core.specs.Content as buddies
use Rattle.buddy_core.proofs.Holdings.{own_holding, other_holding}
use Rattle.slab_tables.specs.declared.cache.Cache as own
use Rattle.slab_tables.specs.Content.{Content, kept_at, cache_at, cache_in}
use Rattle.slab_tables.specs.Changes.{IsMoved}
use Rattle.machine_changes.specs.Shows.{frame_under, machine_frame_of, byte_or_zero, record_byte, IsAgreed, ShowsMachine}
use Rattle.machine_changes.specs.Keeps.{Keeps}
use Rattle.machine_changes.proofs.Lookups.{some_none, some_same}
use Rattle.machine_changes.proofs.SlabFacts.{superblock_of_machine_frame, frame_of_machine_frame, under_is}
use Rattle.machine_changes.specs.Slots.{HoldTogether, MovedShows}
use Rattle.machine_changes.proofs.SlotPartsAgree.{IsLocal, agree_of, agreed_still}
use Rattle.machine_changes.proofs.NoSlabOnUnowned.{tenant_of, slab_there, is_owned}
use Rattle.machine_changes.proofs.SlabsMoved.{IsSameSlab, SameSlab, IsCarried, carried_shows}
use Rattle.machine_changes.proofs.SlotHoldings.{slots_with, slot_below}

module _ (r : spaces.Content) (b : buddies.Content) (s s' : Content) (t u from to : ℕ) (h : HoldTogether r b s) (tenant : t < length r.slots)
    (here : spaces.superblock_at r.slots t u ≡ Some from) (below : to < length r.owners) (free : spaces.owner_at r.owners to ≡ None)
    (k : IsMoved s s' from to) where
  abbrev r' : spaces.Content
  r' = with_move r t u from to

  abbrev held : buddies.Holding
  held = buddies.with_slot u to (buddies.holding_of t b)

  abbrev b' : buddies.Content
  b' = buddies.with_holding t held b

  abbrev size : ℕ
  size = 2 ^ s.top

  slots_now : (v : ℕ) → spaces.superblock_at r'.slots t v ≡ cond (eqb v u) (Some to) (spaces.superblock_at r.slots t v)
  slots_now v = h.space.own_slots.move t u from to here v

  slot_other : (v : ℕ) → v ≢ u → spaces.superblock_at r'.slots t v ≡ spaces.superblock_at r.slots t v
  slot_other v differ = slots_now v ∙ ap (λ w. cond w (Some to) (spaces.superblock_at r.slots t v)) (ne_eqb v u differ)

  slot_here : (v : ℕ) → v ≡ u → spaces.superblock_at r'.slots t v ≡ Some to
  slot_here v e = slots_now v ∙ ap (λ w. cond w (Some to) (spaces.superblock_at r.slots t v)) (eq-eqb v u e)

  reads : ReadsSame t r r'
  reads = h.space.own_bytes.move t u from to here below free

  -- before the move, superblock `from` is only in slot u of tenant t, and superblock `to` is in no slot
  pub not_from : (v w m : ℕ) → spaces.superblock_at r.slots v w ≡ Some m → ((v ≡ t) × (w ≡ u) → ⊥) → m ≢ from
  not_from v w m under differ e = differ (h.space.apart.slots v w t u m under (here ∙ ap (λ (x : ℕ). Some x) (sym e)))

  pub not_to : (v w m : ℕ) → spaces.superblock_at r.slots v w ≡ Some m → m ≢ to
  not_to v w m under e = is_owned r b s h v w to (under ∙ ap (λ (x : ℕ). Some x) e) free

  -- in every slot except slot u of tenant t, each machine frame keeps its slab and the slab's stored state
  machine_frame_stays : (v f m : ℕ) → spaces.superblock_at r.slots v (f / size) ≡ Some m → ((v ≡ t) × (f / size ≡ u) → ⊥)
      → IsSameSlab s s' (m * size + f % size) (m * size + f % size)
  machine_frame_stays v f m under differ =
      let is : (m * size + f % size) / size ≡ m = superblock_of_machine_frame s.top m f in
      let same = k.others (m * size + f % size) (λ e. not_from v (f / size) m under differ (sym is ∙ e)) (λ e. not_to v (f / size) m under (sym is ∙ e)) in
      record { place = same.0; kept = same.1 }

  -- Other tenants

  pub others_kept : (v : ℕ) → v ≢ t → Keeps r r' b b' s s' v
  others_kept v differ = record {
    space = h.space.others.move t u from to v free differ;
    buddy = other_holding t v held b differ;
    slabs = record {
      top = k.top;
      caches = λ c. ap (λ caches. cache_at (record s { caches = caches }) v c) k.caches;
      lists = λ f n e. (stays f n e).place;
      kept = λ f n e. (stays f n e).kept;
    };
  }
    where
      stays : (f n : ℕ) → machine_frame_of s.top r.slots v f ≡ Some n → IsSameSlab s s' n n
      stays f n e =
          let there = under_is s.top f n (spaces.superblock_at r.slots v (f / size)) e in
          subst (λ x. IsSameSlab s s' x x) (sym there.2) (machine_frame_stays v f there.0 there.1 (λ both. differ both.0))

  -- Tenant t

  same_under : (f : ℕ) → f / size ≢ u → (o : Option ℕ) → spaces.superblock_at r.slots t (f / size) ≡ o
      → SameSlab s s' (frame_under s.top f o) (frame_under s.top f o)
  same_under f differ None under = tt
  same_under f differ (Some m) under = machine_frame_stays t f m under (λ both. differ both.1)

  machine_frame_now : (f : ℕ) → SameSlab s s' (machine_frame_of s.top r.slots t f) (machine_frame_of s.top r'.slots t f)
  machine_frame_now f = ⊎_elim moves stays (cases_eq (f / size) u)
    where
      moves : f / size ≡ u → SameSlab s s' (machine_frame_of s.top r.slots t f) (machine_frame_of s.top r'.slots t f)
      moves e =
          let less : f % size < size = mod_below f size (pow_pos s.top) in
          subst (λ o. SameSlab s s' (frame_under s.top f o) (machine_frame_of s.top r'.slots t f)) (sym (ap (spaces.superblock_at r.slots t) e ∙ here))
          (subst (λ o. SameSlab s s' (Some (from * size + f % size)) (frame_under s.top f o)) (sym (slot_here (f / size) e))
          (record { place = k.moved (f % size) less; kept = k.kept (f % size) less }))

      stays : f / size ≢ u → SameSlab s s' (machine_frame_of s.top r.slots t f) (machine_frame_of s.top r'.slots t f)
      stays differ =
          subst (λ o. SameSlab s s' (machine_frame_of s.top r.slots t f) (frame_under s.top f o)) (sym (slot_other (f / size) differ))
          (same_under f differ (spaces.superblock_at r.slots t (f / size)) refl)

  carried : IsCarried r r' b b' s s' t
  carried = record {
    top = k.top;
    held = λ v. ⊎_elim
        (λ e. ap is_some (slot_here v e) ∙ sym (ap is_some (ap (spaces.superblock_at r.slots t) e ∙ here)))
        (λ differ. ap is_some (slot_other v differ))
        (cases_eq v u);
    bytes = reads.bytes;
    taken = λ f. ap (λ x. buddies.taken_of x f) (own_holding t held b (tenant_of r b s h t tenant));
    caches = λ c. ap (λ caches. cache_at (record s { caches = caches }) t c) k.caches;
    machine_frames = λ f. subst (λ top. SameSlab s s' (machine_frame_of s.top r.slots t f) (machine_frame_of top r'.slots t f)) (sym k.top) (machine_frame_now f);
  }

  pub machine_now : (m : Machine) → ShowsMachine r b s t m → ShowsMachine r' b' s' t m
  machine_now m = carried_shows r r' b b' s s' t carried m

  -- the slab that is now at machine frame n, with the list entry p, was at `machine_frame` before, with the same stored state

  record WasAt (n : ℕ) (p : ℕ × ℕ) : Type 0 where
    pub machine_frame : ℕ
    pub placed : place_at s.lists.places machine_frame ≡ Some p
    pub kept : kept_at s'.kept n ≡ kept_at s.kept machine_frame
    pub superblock : ((machine_frame / size ≡ from) × (n ≡ to * size + machine_frame % size)) ⊎ ((machine_frame / size ≡ from → ⊥) × (n ≡ machine_frame))

  was_at : (n : ℕ) (p : ℕ × ℕ) → place_at s'.lists.places n ≡ Some p → WasAt n p
  was_at n p placed = ⊎_elim left (λ off_from. ⊎_elim arrived (stayed off_from) (cases_eq (n / size) to)) (cases_eq (n / size) from)
    where
      less : n % size < size
      less = mod_below n size (pow_pos s.top)

      split : (m : ℕ) → n / size ≡ m → n ≡ m * size + n % size
      split m e = sym (div-add-mod' n size) ∙ ap (λ x. x * size + n % size) e

      left : n / size ≡ from → WasAt n p
      left e = absurd (some_none (sym placed ∙ ap (place_at s'.lists.places) (split from e) ∙ k.left (n % size) less))

      arrived : n / size ≡ to → WasAt n p
      arrived e = record {
        machine_frame = from * size + n % size;
        placed = sym (k.moved (n % size) less) ∙ ap (place_at s'.lists.places) (sym (split to e)) ∙ placed;
        kept = ap (kept_at s'.kept) (split to e) ∙ k.kept (n % size) less;
        superblock = inl (superblock_of_machine_frame s.top from n, split to e ∙ ap (λ x. to * size + x) (sym (frame_of_machine_frame s.top from n)));
      }

      stayed : (n / size ≡ from → ⊥) → (n / size ≡ to → ⊥) → WasAt n p
      stayed off_from off_to = record {
        machine_frame = n;
        placed = sym (k.others n off_from off_to).0 ∙ placed;
        kept = (k.others n off_from off_to).1;
        superblock = inr (off_from, refl);
      }

  mine : (n head key : ℕ) (cache : own.Cache) → place_at s'.lists.places n ≡ Some (head, key) → cache_in s'.caches (head / 3) ≡ Some cache
      → head / 3 / MAX_CACHES ≡ t → IsAgreed r' b' s' n head key cache
  mine n head key cache placed cached is =
      let was : WasAt n (head, key) = was_at n (head, key) placed in
      let cached_before : cache_in s.caches (head / 3) ≡ Some cache = sym (ap (λ caches. cache_in caches (head / 3)) k.caches) ∙ cached in
      let there = slab_there r b s h was.machine_frame head key was.placed in
      let under : spaces.superblock_at r.slots t (key / size) ≡ Some there.superblock = subst (λ x. spaces.superblock_at r.slots x (key / size) ≡ Some there.superblock) is there.under in
      agreed_still r r' b b' s s' was.machine_frame n head key cache ((h.slabs.fits (head / 3) cache cached_before).layout.fits 0).few
      (h.agree.slabs was.machine_frame head key cache was.placed cached_before)
      (subst (λ x. machine_frame_of s'.top r'.slots x key ≡ Some n) (sym is)
      (ap (λ top. machine_frame_of top r'.slots t key) k.top ∙ under_now there.superblock was under there.machine_frame there.is was.superblock))
      (subst (λ x. buddies.taken_of (buddies.holding_of x b') key ≡ buddies.taken_of (buddies.holding_of x b) key) (sym is) (carried.taken key))
      was.kept
      (λ j less. subst (λ x. record_byte r' x key j ≡ record_byte r x key j) (sym is) (ap byte_or_zero (reads.bytes (4096 * key + 4064 + j))))
    where
      under_now : (m : ℕ) (was : WasAt n (head, key)) → spaces.superblock_at r.slots t (key / size) ≡ Some m
          → was.machine_frame ≡ m * size + key % size → was.machine_frame / size ≡ m
          → ((was.machine_frame / size ≡ from) × (n ≡ to * size + was.machine_frame % size)) ⊎ ((was.machine_frame / size ≡ from → ⊥) × (n ≡ was.machine_frame))
          → machine_frame_of s.top r'.slots t key ≡ Some n
      under_now m was under machine_frame whose (inl moves) =
          let is_from : m ≡ from = sym whose ∙ moves.0 in
          let slot : key / size ≡ u = (h.space.apart.slots t (key / size) t u m under (here ∙ ap (λ (x : ℕ). Some x) (sym is_from))).1 in
          let frame : was.machine_frame % size ≡ key % size = ap (λ x. x % size) machine_frame ∙ frame_of_machine_frame s.top m key in
          ap (frame_under s.top key) (slot_here (key / size) slot)
          ∙ ap (λ (x : ℕ). Some x) (sym (moves.1 ∙ ap (λ x. to * size + x) frame))
      under_now m was under machine_frame whose (inr stays) =
          let differ : key / size ≢ u = λ e. stays.0 (whose ∙ some_same (sym under ∙ ap (spaces.superblock_at r.slots t) e ∙ here)) in
          ap (frame_under s.top key) (slot_other (key / size) differ ∙ under)
          ∙ ap (λ (x : ℕ). Some x) (sym (stays.1 ∙ machine_frame))

  -- before the move, each slab of another tenant was at the same machine frame, in the same list
  placed_before : (n head key : ℕ) → place_at s'.lists.places n ≡ Some (head, key) → (head / 3 / MAX_CACHES ≡ t → ⊥)
      → place_at s.lists.places n ≡ Some (head, key)
  placed_before n head key placed differ = go (was_at n (head, key) placed)
    where
      go : WasAt n (head, key) → place_at s.lists.places n ≡ Some (head, key)
      go was =
          let there = slab_there r b s h was.machine_frame head key was.placed in
          ⊎_elim
          (λ moves. absurd (not_from (head / 3 / MAX_CACHES) (key / size) there.superblock there.under (λ both. differ both.0) (sym there.is ∙ moves.0)))
          (λ stays. ap (place_at s.lists.places) stays.1 ∙ was.placed)
          was.superblock

  pub local : IsLocal r r' b held s s' t
  local = record {
    unit = refl;
    superblocks = length-set _ to (Some (owned_by t u)) ∙ length-set r.owners from None;
    rows = length-set r.slots t _;
    top = k.top;
    machine_frames = k.machine_frames;
    tables = ap length k.caches;
    others = others_kept;
    slots = λ v. slots_with r b s h t u v (Some to) tenant (slot_below r b s h t u from tenant here) ∙ sym (slots_now v);
    cached = λ i differ. ap (λ caches. cache_in caches i) k.caches;
    placed = placed_before;
    mine = mine;
  }

pub moved_shows : MovedShows
moved_shows r b s s' t u from to h tenant here below free k = (
  h.space.own_bytes.move t u from to here below free,
  record {
    agree = agree_of r (with_move r t u from to) b (buddies.with_slot u to (buddies.holding_of t b)) s s' t
        (local r b s s' t u from to h tenant here below free k) h.slabs h.agree (tenant_of r b s h t tenant);
    others = others_kept r b s s' t u from to h tenant here below free k;
    shows = machine_now r b s s' t u from to h tenant here below free k;
  },
)
