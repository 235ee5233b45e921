-- Moving the slabs of one superblock to another, frame by frame, keeps the invariant and moves all of them.
use Rattle.std.proofs.Common.{◌≡◌, ℕ, ◌+◌, ◌*◌, ◌/◌, ◌%◌, ◌^◌, ◌<◌, ◌≤◌, Option, Some, None, length, set, refl, sym, ap, ◌∙◌, ◌⊎◌, subst, inl, inr, arith}
use Rattle.std.proofs.Math.Nat.{pow-le-pow_right, add-mul}
use Rattle.std.proofs.lemmas.Bool.{cases_eq}
use Rattle.std.proofs.lemmas.Nat.{div-mul-add}
use Rattle.std.proofs.lemmas.List.{length-set, get_or-set_same, get_or-set_other}
use Rattle.model_core.specs.declared.limits.TheConstants.{WIDE_ORDER}
use Rattle.klist_core.specs.Places.{place_at, replaced}
use Rattle.slab_tables.specs.declared.cache.Cache.{Cache}
use Rattle.slab_tables.specs.declared.cache.Kept.{Kept}
use Rattle.slab_tables.specs.Content.{Content, IsSlabs, IsListed, blank, kept_at, cache_in, live_total}
use Rattle.slab_tables.specs.Changes.{IsMoved, with_slab_moved}
use Rattle.slab_tables.proofs.LiveTotals.{part, total_set, total_placed}

module _ (s : Content) (a b : ℕ) (paired : length s.kept ≡ length s.lists.places) (from : a < length s.lists.places) (to : b < length s.lists.places) (ne : a ≡ b → ⊥) (free : place_at s.lists.places b ≡ None) where
  pub here : place_at (with_slab_moved s a b).lists.places b ≡ place_at s.lists.places a
  here = get_or-set_same (set s.lists.places a None) b (place_at s.lists.places a) None (omega (arith, length-set s.lists.places a None))

  pub gone : place_at (with_slab_moved s a b).lists.places a ≡ None
  gone = get_or-set_other (set s.lists.places a None) b a (place_at s.lists.places a) None ne ∙ get_or-set_same s.lists.places a None None from

  pub stays : (n : ℕ) → (n ≡ a → ⊥) → (n ≡ b → ⊥) → place_at (with_slab_moved s a b).lists.places n ≡ place_at s.lists.places n
  stays n off_a off_b = get_or-set_other (set s.lists.places a None) b n (place_at s.lists.places a) None off_b ∙ get_or-set_other s.lists.places a n None None off_a

  pub kept_here : kept_at (with_slab_moved s a b).kept b ≡ kept_at s.kept a
  kept_here = get_or-set_same s.kept b (kept_at s.kept a) blank (omega (arith, paired))

  pub kept_stays : (n : ℕ) → (n ≡ b → ⊥) → kept_at (with_slab_moved s a b).kept n ≡ kept_at s.kept n
  kept_stays n off = get_or-set_other s.kept b n (kept_at s.kept a) blank off

  -- no total changes: the slab's part is subtracted at its old machine frame a and added at its new machine frame b
  total_stays : (n : ℕ) → live_total n (with_slab_moved s a b).lists.places (with_slab_moved s a b).kept ≡ live_total n s.lists.places s.kept
  total_stays n =
      let less = set s.lists.places a None in
      let put = total_set n b (place_at s.lists.places a) (kept_at s.kept a) less s.kept (omega (arith, length-set s.lists.places a None)) (omega (arith, paired)) in
      let taken = total_placed n a None s.lists.places s.kept from (omega (arith, paired)) in
      let nothing : part n (place_at less b) (kept_at s.kept b) ≡ 0 = ap (λ o. part n o (kept_at s.kept b)) (get_or-set_other s.lists.places a b None None (λ e. ne (sym e)) ∙ free) in
      omega (arith, put, taken, nothing)

  pub slabs_moved : IsSlabs s → IsSlabs (with_slab_moved s a b)
  slabs_moved w = record {
    order = w.order;
    paired = length-set s.kept b _ ∙ (w.paired ∙ sym (length-set (set s.lists.places a None) b _ ∙ length-set s.lists.places a None));
    small = omega (arith, w.small, length-set (set s.lists.places a None) b (place_at s.lists.places a), length-set s.lists.places a None);
    superblocks = omega (arith, w.superblocks, length-set (set s.lists.places a None) b (place_at s.lists.places a), length-set s.lists.places a None);
    few = w.few;
    heads = w.heads;
    totals = w.totals;
    fits = w.fits;
    standing = standing;
    counted = λ n below. w.counted n below ∙ sym (total_stays n);
  }
    where
      standing : (n head key : ℕ) → place_at (with_slab_moved s a b).lists.places n ≡ Some (head, key)
          → (c : Cache) × (cache_in s.caches (head / 3) ≡ Some c) × IsListed (kept_at (with_slab_moved s a b).kept n) c head
      standing n head key e = elim (cases_eq n b) [
        | inl is ↦
            let x = w.standing a head key (sym (ap (place_at (with_slab_moved s a b).lists.places) is ∙ here) ∙ e) in
            (x.0, x.1, subst (λ (k : Kept). IsListed k x.0 head) (sym (ap (kept_at (with_slab_moved s a b).kept) is ∙ kept_here)) x.2)
        | inr off ↦ elsewhere n head key off e (cases_eq n a)
      ]
        where
          elsewhere : (n head key : ℕ) → (n ≡ b → ⊥) → place_at (with_slab_moved s a b).lists.places n ≡ Some (head, key) → (n ≡ a) ⊎ (n ≡ a → ⊥)
              → (c : Cache) × (cache_in s.caches (head / 3) ≡ Some c) × IsListed (kept_at (with_slab_moved s a b).kept n) c head
          elsewhere n head key off e (inl is) =
              absurd (let f : ◌≡◌ {A = Option (ℕ × ℕ)} None (Some (head, key)) = sym (ap (place_at (with_slab_moved s a b).lists.places) is ∙ gone) ∙ e in cc)
          elsewhere n head key off e (inr off_a) =
              let x = w.standing n head key (sym (stays n off_a off) ∙ e) in
              (x.0, x.1, subst (λ (k : Kept). IsListed k x.0 head) (sym (kept_stays n off)) x.2)

-- a machine frame of superblock x is not a machine frame of another superblock y
pub apart : (z x y i j : ℕ) → (x ≡ y → ⊥) → i < z → j < z → x * z + i ≡ y * z + j → ⊥
apart z x y i j ne lt lt' e = ne (sym (div-mul-add x z i lt) ∙ (ap (λ n. n / z) e ∙ div-mul-add y z j lt'))

-- the slabs at the first i machine frames of superblock `from` are moved to superblock `to`, and all else is as before
pub record IsMoving (s s' : Content) (from to i : ℕ) : Type 0 where
  pub top : s'.top ≡ s.top
  pub heads : s'.lists.heads ≡ s.lists.heads
  pub machine_frames : length s'.lists.places ≡ length s.lists.places
  pub paired : length s'.kept ≡ length s'.lists.places
  pub caches : s'.caches ≡ s.caches
  pub live : s'.live ≡ s.live
  pub left : (j : ℕ) → j < i → place_at s'.lists.places (from * 2 ^ s.top + j) ≡ None
  pub moved : (j : ℕ) → j < i → place_at s'.lists.places (to * 2 ^ s.top + j) ≡ place_at s.lists.places (from * 2 ^ s.top + j)
  pub kept : (j : ℕ) → j < i → kept_at s'.kept (to * 2 ^ s.top + j) ≡ kept_at s.kept (from * 2 ^ s.top + j)
  pub others : (n : ℕ) → ((j : ℕ) → j < i → n ≡ from * 2 ^ s.top + j → ⊥) → ((j : ℕ) → j < i → n ≡ to * 2 ^ s.top + j → ⊥)
      → (place_at s'.lists.places n ≡ place_at s.lists.places n) × (kept_at s'.kept n ≡ kept_at s.kept n)

pub moving_none : (s : Content) (from to : ℕ) → length s.kept ≡ length s.lists.places → IsMoving s s from to 0
moving_none s from to paired = record {
  top = refl;
  heads = refl;
  machine_frames = refl;
  paired = paired;
  caches = refl;
  live = refl;
  left = λ j lt. absurd (omega arith);
  moved = λ j lt. absurd (omega arith);
  kept = λ j lt. absurd (omega arith);
  others = λ n off_from off_to. (refl, refl);
}

module _ (s s' : Content) (from to i : ℕ) (ne : from ≡ to → ⊥) (lt : i < 2 ^ s.top) (m : IsMoving s s' from to i) where
  off_own : (x j k : ℕ) → (j ≡ k → ⊥) → x * 2 ^ s.top + j ≡ x * 2 ^ s.top + k → ⊥
  off_own x j k off e = off (omega arith)

  -- the place and the stored state at machine frame i of superblock `from` are still unchanged
  from_stays : (place_at s'.lists.places (from * 2 ^ s.top + i) ≡ place_at s.lists.places (from * 2 ^ s.top + i))
      × (kept_at s'.kept (from * 2 ^ s.top + i) ≡ kept_at s.kept (from * 2 ^ s.top + i))
  from_stays = m.others (from * 2 ^ s.top + i) (λ j below. off_own from i j (λ e. omega arith)) (λ j below. apart (2 ^ s.top) from to i j ne lt (omega arith))

  -- the place at machine frame i of superblock `to` is still unchanged
  pub to_stays : place_at s'.lists.places (to * 2 ^ s.top + i) ≡ place_at s.lists.places (to * 2 ^ s.top + i)
  to_stays = (m.others (to * 2 ^ s.top + i) (λ j below. apart (2 ^ s.top) to from i j (λ e. ne (sym e)) lt (omega arith)) (λ j below. off_own to i j (λ e. omega arith))).0

  pub moving_more : from * 2 ^ s.top + i < length s'.lists.places → to * 2 ^ s.top + i < length s'.lists.places → place_at s'.lists.places (to * 2 ^ s.top + i) ≡ None
      → IsMoving s (with_slab_moved s' (from * 2 ^ s.top + i) (to * 2 ^ s.top + i)) from to (i + 1)
  moving_more a_lt b_lt free = record {
    top = m.top;
    heads = m.heads;
    machine_frames = machine_frames ∙ m.machine_frames;
    paired = length-set s'.kept (to * 2 ^ s.top + i) _ ∙ (m.paired ∙ sym machine_frames);
    caches = m.caches;
    live = m.live;
    left = λ j below. left j below (cases_eq j i);
    moved = λ j below. moved j below (cases_eq j i);
    kept = λ j below. kept j below (cases_eq j i);
    others = λ n off_from off_to. (
      stays s' (from * 2 ^ s.top + i) (to * 2 ^ s.top + i) m.paired a_lt b_lt differ free n (off_from i (omega arith)) (off_to i (omega arith))
          ∙ (m.others n (λ j below. off_from j (omega arith)) (λ j below. off_to j (omega arith))).0,
      kept_stays s' (from * 2 ^ s.top + i) (to * 2 ^ s.top + i) m.paired a_lt b_lt differ free n (off_to i (omega arith))
          ∙ (m.others n (λ j below. off_from j (omega arith)) (λ j below. off_to j (omega arith))).1,
    );
  }
    where
      differ : from * 2 ^ s.top + i ≡ to * 2 ^ s.top + i → ⊥
      differ = apart (2 ^ s.top) from to i i ne lt lt

      machine_frames : length (replaced s'.lists (from * 2 ^ s.top + i) (to * 2 ^ s.top + i)).places ≡ length s'.lists.places
      machine_frames = length-set (set s'.lists.places (from * 2 ^ s.top + i) None) (to * 2 ^ s.top + i) _ ∙ length-set s'.lists.places (from * 2 ^ s.top + i) None

      left : (j : ℕ) → j < i + 1 → (j ≡ i) ⊎ (j ≡ i → ⊥) → place_at (replaced s'.lists (from * 2 ^ s.top + i) (to * 2 ^ s.top + i)).places (from * 2 ^ s.top + j) ≡ None
      left j below (inl is) = ap (λ x. place_at (replaced s'.lists (from * 2 ^ s.top + i) (to * 2 ^ s.top + i)).places (from * 2 ^ s.top + x)) is ∙ gone s' (from * 2 ^ s.top + i) (to * 2 ^ s.top + i) m.paired a_lt b_lt differ free
      left j below (inr off) = stays s' (from * 2 ^ s.top + i) (to * 2 ^ s.top + i) m.paired a_lt b_lt differ free (from * 2 ^ s.top + j) (off_own from j i off) (apart (2 ^ s.top) from to j i ne (omega arith) lt)
          ∙ m.left j (omega arith)

      moved : (j : ℕ) → j < i + 1 → (j ≡ i) ⊎ (j ≡ i → ⊥) → place_at (replaced s'.lists (from * 2 ^ s.top + i) (to * 2 ^ s.top + i)).places (to * 2 ^ s.top + j) ≡ place_at s.lists.places (from * 2 ^ s.top + j)
      moved j below (inl is) = ap (λ x. place_at (replaced s'.lists (from * 2 ^ s.top + i) (to * 2 ^ s.top + i)).places (to * 2 ^ s.top + x)) is
          ∙ (here s' (from * 2 ^ s.top + i) (to * 2 ^ s.top + i) m.paired a_lt b_lt differ free ∙ (from_stays.0 ∙ ap (λ x. place_at s.lists.places (from * 2 ^ s.top + x)) (sym is)))
      moved j below (inr off) = stays s' (from * 2 ^ s.top + i) (to * 2 ^ s.top + i) m.paired a_lt b_lt differ free (to * 2 ^ s.top + j) (apart (2 ^ s.top) to from j i (λ e. ne (sym e)) (omega arith) lt) (off_own to j i off)
          ∙ m.moved j (omega arith)

      kept : (j : ℕ) → j < i + 1 → (j ≡ i) ⊎ (j ≡ i → ⊥) → kept_at (with_slab_moved s' (from * 2 ^ s.top + i) (to * 2 ^ s.top + i)).kept (to * 2 ^ s.top + j) ≡ kept_at s.kept (from * 2 ^ s.top + j)
      kept j below (inl is) = ap (λ x. kept_at (with_slab_moved s' (from * 2 ^ s.top + i) (to * 2 ^ s.top + i)).kept (to * 2 ^ s.top + x)) is
          ∙ (kept_here s' (from * 2 ^ s.top + i) (to * 2 ^ s.top + i) m.paired a_lt b_lt differ free ∙ (from_stays.1 ∙ ap (λ x. kept_at s.kept (from * 2 ^ s.top + x)) (sym is)))
      kept j below (inr off) = kept_stays s' (from * 2 ^ s.top + i) (to * 2 ^ s.top + i) m.paired a_lt b_lt differ free (to * 2 ^ s.top + j) (off_own to j i off) ∙ m.kept j (omega arith)

-- if the slabs at the first 2 ^ top machine frames of superblock `from` are moved, all slabs of the superblock are moved
pub moving_all : (s s' : Content) (from to i : ℕ) → i ≡ 2 ^ s.top → IsMoving s s' from to i → IsMoved s s' from to
moving_all s s' from to i all m = record {
  top = m.top;
  heads = m.heads;
  machine_frames = m.machine_frames;
  caches = m.caches;
  live = m.live;
  left = λ j lt. m.left j (omega arith);
  moved = λ j lt. m.moved j (omega arith);
  kept = λ j lt. m.kept j (omega arith);
  others = λ n off_from off_to. m.others n (off n from off_from) (off n to off_to);
}
  where
    off : (n x : ℕ) → (n / 2 ^ s.top ≡ x → ⊥) → (j : ℕ) → j < i → n ≡ x * 2 ^ s.top + j → ⊥
    off n x ne j lt e = ne (ap (λ y. y / 2 ^ s.top) e ∙ div-mul-add x (2 ^ s.top) j (omega arith))

-- when the code moves the slab at frame i of superblock `from`, a is the machine frame of this frame, b is the machine frame of
-- frame i of superblock `to`, and both are in range
pub record IsStep (s s' : Content) (from to i a b : ℕ) : Type 0 where
  pub lt : i < 2 ^ s.top
  pub from_is : a ≡ from * 2 ^ s.top + i
  pub to_is : b ≡ to * 2 ^ s.top + i
  pub from_lt : from * 2 ^ s.top + i < length s'.lists.places
  pub to_lt : to * 2 ^ s.top + i < length s'.lists.places

pub frames_are : (order top : ℕ) → order ≡ top → top ≤ WIDE_ORDER → 1 * 2 ^ order % 4294967296 ≡ 2 ^ top
frames_are order top same few =
    let powers : 2 ^ top ≤ 2 ^ WIDE_ORDER = pow-le-pow_right {n = 2} (omega arith) few in
    ap (λ x. 1 * 2 ^ x % 4294967296) same ∙ omega (arith, powers)

pub step : (s s' : Content) (from to i order a b : ℕ) → order ≡ s.top → s.top ≤ WIDE_ORDER → i < 1 * 2 ^ order % 4294967296 → a ≡ from * 2 ^ order + i → b ≡ to * 2 ^ order + i
    → (from + 1) * 2 ^ s.top ≤ length s.lists.places → (to + 1) * 2 ^ s.top ≤ length s.lists.places → length s'.lists.places ≡ length s.lists.places
    → IsStep s s' from to i a b
step s s' from to i order a b same few lt from_is to_is from_in to_in machine_frames =
    let below : i < 2 ^ s.top = omega (arith, frames_are order s.top same few) in
    record {
      lt = below;
      from_is = from_is ∙ ap (λ x. from * 2 ^ x + i) same;
      to_is = to_is ∙ ap (λ x. to * 2 ^ x + i) same;
      from_lt = omega (arith, add-mul from 1 (2 ^ s.top));
      to_lt = omega (arith, add-mul to 1 (2 ^ s.top));
    }
