-- A release removes one taken block from its superblock and its tenant, as `IsStep` says.
use Rattle.std.proofs.Common.{◌≡◌, Option, refl, sym, ◌∙◌, ap, subst, ℕ, ◌+◌, ◌-◌, ◌*◌, ◌/◌, ◌%◌, ◌^◌, ◌<◌, ◌≤◌, Bool, Some, None, List, length, get_or, set, arith}
use Rattle.std.specs.Prelude.{slice_index}
use Rattle.std.proofs.lemmas.Nat.{div-mul-add, mod_below, pow_pos, shr_split}
use Rattle.std.proofs.Math.Nat.{mul-le-mul_right}
use Rattle.model_core.specs.declared.limits.TheConstants.{WIDE_ORDER}
use Rattle.model_core.specs.Blocks.{Taken}
use Rattle.model_core.specs.Choice.{is_available}
use Rattle.model_core.specs.Numbered.{number_at, IsOpen}
use Rattle.model_core.proofs.BlockTakenOut.{TakesOut}
use Rattle.model_core.proofs.BlockHalves.{one_open}
use Rattle.model_core.proofs.BuddyJoins.{releasing, release_stays_sound}
use Rattle.buddy_core.specs.Content.{Content, has_order, holding_of, taken_of}
use Rattle.buddy_core.specs.Tree.{Shows, IsLess}
use Rattle.buddy_core.specs.Counts.{IsTakenOut}
use Rattle.buddy_core.specs.Stored.{StoredSuperblock, StoredTenant, superblock_of, stored_tenant, superblock_at, held_by, order_under, taken_by, holding_shown}
use Rattle.buddy_core.specs.Kept.{IsKept, IsTenantKept}
use Rattle.buddy_core.proofs.ContentShown.{taken_shown, IsShown, size_is, slot_within}
use Rattle.buddy_core.proofs.TenantCounts.{table_size, count_set, order_here, taken_bit}
use Rattle.model_core.proofs.CountBelow.{bit}
use Rattle.buddy_core.proofs.FreeBlockCounts.{free_balance, half_counts}
use Rattle.buddy_core.proofs.TreeSlots.{less_in_slot, same_elsewhere, open_in_slot, number_in}
use Rattle.buddy_core.proofs.BlockSteps.{IsStep, changed}

-- s' and tenant' are s and tenant after the block of order k at frame x is released and becomes part of a free block of order j
pub record Released (j k x : ℕ) (s : StoredSuperblock) (tenant : StoredTenant) (s' : StoredSuperblock) (tenant' : StoredTenant) : Type 0 where
  pub order : s'.tree.order ≡ s.tree.order
  pub stored : x < length s.orders
  pub orders : s'.orders ≡ set s.orders x None
  pub words : (small large : ℕ → Bool) → Shows s.tree.order small s.tree.words → IsLess small large k x → Shows s.tree.order large s'.tree.words
  pub counts : IsTakenOut k j tenant' tenant

-- a taken block of order k begins at `frame` of tenant t, which is frame x of superblock m
pub record IsAt (top : ℕ) (superblocks : List StoredSuperblock) (tenants : List StoredTenant) (t frame k m x : ℕ) : Type 0 where
  pub listed : t < length tenants
  pub slot : superblock_at (stored_tenant t tenants) (frame / 2 ^ top) ≡ Some m
  pub inside : x < 2 ^ top
  pub here : taken_by top superblocks (stored_tenant t tenants) (frame / 2 ^ top * 2 ^ top + x) ≡ Some k
  pub whole : frame / 2 ^ top * 2 ^ top + x ≡ frame

-- the order of the taken block that begins at `frame` is stored in the superblock of the frame's slot
pub begins_at : (top : ℕ) (superblocks : List StoredSuperblock) (tenants : List StoredTenant) → top ≤ WIDE_ORDER → (t : ℕ) (now : Content) → IsShown top superblocks tenants t now → (frame : ℕ)
    → (o : Option ℕ) → superblock_at (stored_tenant t tenants) (frame / 2 ^ top) ≡ o → order_under superblocks o (frame % (1 * 2 ^ top % 2 ^ 32)) ≡ taken_of (holding_of t now) frame
begins_at top superblocks tenants small t now s frame o slot =
    ap (λ n. order_under superblocks o (frame % n)) (size_is top small)
    ∙ sym (ap (λ p. order_under superblocks p (frame % 2 ^ top)) slot)
    ∙ sym (ap (λ (T : Taken). T frame) s.taken)

pub at_frame : (top : ℕ) (superblocks : List StoredSuperblock) (tenants : List StoredTenant) → top ≤ WIDE_ORDER → (t : ℕ) (now : Content) → IsShown top superblocks tenants t now → (frame k m x : ℕ)
    → superblock_at (stored_tenant t tenants) (frame / 2 ^ top) ≡ Some m → Some k ≡ taken_of (holding_of t now) frame → x ≡ frame % (1 * 2 ^ top % 2 ^ 32) → IsAt top superblocks tenants t frame k m x
at_frame top superblocks tenants small t now s frame k m x slot begins rest = record {
  listed = s.listed;
  slot = slot;
  inside = subst (λ n. n < 2 ^ top) (sym x_is) (mod_below frame (2 ^ top) (pow_pos top));
  here = ap (taken_by top superblocks (stored_tenant t tenants)) is_frame ∙ sym (ap (λ (T : Taken). T frame) s.taken) ∙ sym begins;
  whole = is_frame;
}
  where
    x_is : x ≡ frame % 2 ^ top
    x_is = rest ∙ ap (λ n. frame % n) (size_is top small)

    is_frame : frame / 2 ^ top * 2 ^ top + x ≡ frame
    is_frame = ap (λ n. frame / 2 ^ top * 2 ^ top + n) x_is ∙ shr_split frame top

module _ {top : ℕ} {superblocks : List StoredSuperblock} {tenants : List StoredTenant} {t frame k m x : ℕ} (kept : IsKept top superblocks tenants) (at : IsAt top superblocks tenants t frame k m x) where
  abbrev held : ℕ → Bool
  held = held_by (stored_tenant t tenants)

  abbrev taken : Taken
  taken = taken_by top superblocks (stored_tenant t tenants)

  abbrev freed : Taken
  freed = changed (taken_by top superblocks (stored_tenant t tenants)) (frame / 2 ^ top * 2 ^ top + x) None

  mine : IsTenantKept top superblocks (stored_tenant t tenants)
  mine = kept.each t at.listed

  pub superblock_lt : m < length superblocks
  superblock_lt = mine.within (frame / 2 ^ top) m at.slot

  pub order_le : k ≤ top
  order_le = (mine.sound.placed (frame / 2 ^ top * 2 ^ top + x) k at.here).0.0

  out_of : (j : ℕ) × TakesOut (is_available top (held_by (stored_tenant t tenants)) (changed (taken_by top superblocks (stored_tenant t tenants)) (frame / 2 ^ top * 2 ^ top + x) None)) (is_available top (held_by (stored_tenant t tenants)) (taken_by top superblocks (stored_tenant t tenants))) top (frame / 2 ^ top * 2 ^ top + x) k j
  out_of = releasing top (held_by (stored_tenant t tenants)) (taken_by top superblocks (stored_tenant t tenants)) (frame / 2 ^ top * 2 ^ top + x) k mine.sound at.here

  -- the order of the free block that contains the released block after the release
  pub joined_order : ℕ
  joined_order = out_of.0

  out : TakesOut (is_available top held freed) (is_available top held taken) top (frame / 2 ^ top * 2 ^ top + x) k joined_order
  unfolding joined_order
  out = out_of.1

  pub rises : k ≤ joined_order
  rises = out.order

  pub joined_le : joined_order ≤ top
  joined_le = out.open_block.0

  u_lt : (frame / 2 ^ top) < length superblocks
  u_lt = subst (λ n. (frame / 2 ^ top) < n) mine.sizes.slots (slot_within (stored_tenant t tenants).slots (frame / 2 ^ top) m at.slot)

  f_slot : (frame / 2 ^ top * 2 ^ top + x) / 2 ^ top < length superblocks
  f_slot = subst (λ n. n < length superblocks) (sym (div-mul-add (frame / 2 ^ top) (2 ^ top) x at.inside)) u_lt

  f_lt : (frame / 2 ^ top) * 2 ^ top + x < length (holding_shown top superblocks (stored_tenant t tenants)).taken
  f_lt = subst (λ n. (frame / 2 ^ top) * 2 ^ top + x < n) (sym (table_size top superblocks tenants kept t at.listed))
      (let up = mul-le-mul_right (2 ^ top) (let le : (frame / 2 ^ top) + 1 ≤ length superblocks = omega (arith, u_lt) in le) in
      let parts : ((frame / 2 ^ top) + 1) * 2 ^ top ≡ (frame / 2 ^ top) * 2 ^ top + 2 ^ top = omega arith in omega arith)

  entry : get_or (holding_shown top superblocks (stored_tenant t tenants)).taken (frame / 2 ^ top * 2 ^ top + x) None ≡ Some k
  entry = taken_shown top superblocks (stored_tenant t tenants) (frame / 2 ^ top * 2 ^ top + x) ∙ at.here

  -- after the release, the joined block is free in its superblock
  joined_open : IsOpen (λ y. is_available top (held_by (stored_tenant t tenants)) (changed (taken_by top superblocks (stored_tenant t tenants)) (frame / 2 ^ top * 2 ^ top + x) None) (frame / 2 ^ top * 2 ^ top + y)) top joined_order (number_at joined_order x)
  joined_open =
      let le = joined_le in
      open_in_slot (is_available top held freed) (frame / 2 ^ top) top (top - joined_order) joined_order (number_at joined_order x) (omega arith)
      (subst (λ n. IsOpen (is_available top held freed) top joined_order n) (number_in (frame / 2 ^ top) top (top - joined_order) joined_order x (omega arith)) out.open_block)

  shown_after : (words : List ℕ) → ((small large : ℕ → Bool) → Shows top small (superblock_of m superblocks).tree.words → IsLess small large k x → Shows top large words)
      → Shows top (λ y. is_available top (held_by (stored_tenant t tenants)) (changed (taken_by top superblocks (stored_tenant t tenants)) (frame / 2 ^ top * 2 ^ top + x) None) (frame / 2 ^ top * 2 ^ top + y)) words
  shown_after words change = change _ _ (mine.shows (frame / 2 ^ top) m at.slot)
      (less_in_slot (is_available top held freed) (is_available top held taken) top (frame / 2 ^ top) x k joined_order out)

  -- if j has the properties that `release_at` ensures of its result, j is the order of the joined block
  pub joined_is : (j : ℕ) (s : StoredSuperblock) → s ≡ superblock_of m superblocks
      → ((small large : ℕ → Bool) → Shows s.tree.order small s.tree.words → IsLess small large k x → (k ≤ j) × IsOpen large s.tree.order j (number_at j x)) → j ≡ joined_order
  joined_is j s e answer =
      let told = subst (λ n. (small large : ℕ → Bool) → Shows n small (superblock_of m superblocks).tree.words → IsLess small large k x → (k ≤ j) × IsOpen large n j (number_at j x)) (kept.order m superblock_lt)
      (subst (λ (z : StoredSuperblock). (small large : ℕ → Bool) → Shows z.tree.order small z.tree.words → IsLess small large k x → (k ≤ j) × IsOpen large z.tree.order j (number_at j x)) e answer) in
      one_open (λ y. is_available top (held_by (stored_tenant t tenants)) (changed (taken_by top superblocks (stored_tenant t tenants)) (frame / 2 ^ top * 2 ^ top + x) None) (frame / 2 ^ top * 2 ^ top + y)) top j joined_order x
      (told _ _ (mine.shows (frame / 2 ^ top) m at.slot) (less_in_slot (is_available top held freed) (is_available top held taken) top (frame / 2 ^ top) x k joined_order out)).1
      joined_open

  pub some_buddies : (i : ℕ) → k ≤ i → i < joined_order → 0 < slice_index (stored_tenant t tenants).free i
  some_buddies i up lt =
      let is = mine.free i (let le = joined_le in omega arith) in
      let some = half_counts top held held freed taken (frame / 2 ^ top * 2 ^ top + x) k joined_order (length superblocks) out f_slot i up lt in
      omega arith

  pub some_taken : 0 < slice_index (stored_tenant t tenants).taken k
  some_taken =
      let is = mine.taken k order_le in
      let counted = count_set (holding_shown top superblocks (stored_tenant t tenants)).taken (frame / 2 ^ top * 2 ^ top + x) k None f_lt in
      let before : bit (has_order k (get_or (holding_shown top superblocks (stored_tenant t tenants)).taken (frame / 2 ^ top * 2 ^ top + x) None)) ≡ 1 = ap (λ o. bit (has_order k o)) entry ∙ order_here k k refl in
      omega arith

  pub released_step : (s : StoredSuperblock) (after : StoredTenant) → Released joined_order k x (superblock_of m superblocks) (stored_tenant t tenants) s after → IsStep top superblocks tenants t (frame / 2 ^ top) m x s after None
  released_step s after r = record {
    listed = at.listed;
    at = at.slot;
    inside = at.inside;
    stored = r.stored;
    order = r.order;
    orders = r.orders;
    slots = sym r.counts.slots;
    free_size = sym r.counts.free_size ∙ mine.sizes.free;
    taken_size = sym r.counts.taken_size ∙ mine.sizes.taken;
    shows = shown_after s.tree.words (subst (λ n. (small large : ℕ → Bool) → Shows n small (superblock_of m superblocks).tree.words → IsLess small large k x → Shows n large s.tree.words) (kept.order m superblock_lt) r.words);
    elsewhere = λ v y ne lt. same_elsewhere (is_available top held freed) (is_available top held taken) top (frame / 2 ^ top) x k joined_order out at.inside v y ne lt;
    sound = release_stays_sound top (held_by (stored_tenant t tenants)) (taken_by top superblocks (stored_tenant t tenants)) (frame / 2 ^ top * 2 ^ top + x) mine.sound;
    free = λ i le.
        let was = mine.free i le in
        let moved = free_balance top held held freed taken (frame / 2 ^ top * 2 ^ top + x) k joined_order (length superblocks) out f_slot after (stored_tenant t tenants) r.counts i in
        omega arith;
    taken = λ i le.
        let was = mine.taken i le in
        let moved = taken_bit k joined_order after (stored_tenant t tenants) r.counts i in
        let counted = count_set (holding_shown top superblocks (stored_tenant t tenants)).taken (frame / 2 ^ top * 2 ^ top + x) i None f_lt in
        let before : bit (has_order i (get_or (holding_shown top superblocks (stored_tenant t tenants)).taken (frame / 2 ^ top * 2 ^ top + x) None)) ≡ bit (has_order i (Some k)) = ap (λ o. bit (has_order i o)) entry in
        omega arith;
  }
