-- The block that a reservation finds, and the superblock and the tenant after the reservation.
use Rattle.std.proofs.Common.{◌≡◌, ◌⊎◌, inl, inr, refl, sym, ◌∙◌, ap, subst, ℕ, ◌+◌, ◌*◌, ◌/◌, ◌^◌, ◌<◌, ◌≤◌, Bool, Option, Some, None, List, length, get_or, set, arith}
use Rattle.std.specs.Prelude.{slice_index}
use Rattle.std.proofs.lemmas.List.{get_or_past}
use Rattle.std.proofs.lemmas.Nat.{div-mul-add, shr_split}
use Rattle.std.proofs.Math.Nat.{mul-le-mul_right}
use Rattle.std.proofs.lemmas.Bool.{cases_lt, cases_order}
use Rattle.model_core.specs.Blocks.{Block, block, Taken, IsFree, IsChoice, IsWithout}
use Rattle.model_core.specs.Choice.{is_available, is_free}
use Rattle.model_core.specs.Numbered.{number_at, IsOpen}
use Rattle.model_core.proofs.BlockTakenOut.{TakesOut}
use Rattle.model_core.proofs.FreeBlocks.{reserving, has_first}
use Rattle.model_core.proofs.BuddyJoins.{reserve_stays_sound}
use Rattle.model_core.proofs.BlockChoice.{free_is_tested}
use Rattle.buddy_core.specs.Content.{has_order}
use Rattle.buddy_core.specs.Tree.{Shows, IsLess, IsLeast}
use Rattle.std.specs.Int.{bit_at}
use Rattle.buddy_core.specs.Counts.{IsTakenOut}
use Rattle.buddy_core.specs.Roots.{HasBit, HasOrder, IsCounted, IsSource, IsWithoutOrder}
use Rattle.buddy_core.specs.declared.find.Source.{Source}
use Rattle.buddy_core.specs.Stored.{StoredTree, StoredSuperblock, StoredTenant, superblock_of, stored_tenant, superblock_at, held_by, taken_by, holding_shown}
use Rattle.buddy_core.specs.Kept.{IsKept, IsTenantKept, available_in}
use Rattle.buddy_core.proofs.ContentShown.{taken_shown, slot_within}
use Rattle.buddy_core.proofs.TenantCounts.{table_size, count_set, taken_bit}
use Rattle.model_core.proofs.CountBelow.{bit}
use Rattle.model_core.proofs.Lists.{some_of}
use Rattle.buddy_core.proofs.FreeBlockCounts.{count_some, count_found, frame_below, free_balance, whole_counts}
use Rattle.buddy_core.proofs.TreeSlots.{root_tells, least_free, less_in_slot, same_elsewhere}
use Rattle.buddy_core.proofs.BlockSteps.{IsStep, changed}

-- s' and tenant' are s and tenant after a block of order k at frame x is taken out of a free block of order j
pub record Reserved (j k x : ℕ) (s : StoredSuperblock) (tenant : StoredTenant) (s' : StoredSuperblock) (tenant' : StoredTenant) : Type 0 where
  pub order : s'.tree.order ≡ s.tree.order
  pub stored : x < length s.orders
  pub orders : s'.orders ≡ set s.orders x (Some k)
  pub words : (large small : ℕ → Bool) → Shows s.tree.order large s.tree.words → IsOpen large s.tree.order j (number_at j x) → IsLess small large k x
      → Shows s.tree.order small s'.tree.words
  pub counts : IsTakenOut k j tenant tenant'

-- a source in some superblocks and slots is a source in equal superblocks and slots
pub source_at : (superblocks' superblocks : List StoredSuperblock) (slots' slots : List (Option ℕ)) (k : ℕ) (p : Source) → superblocks' ≡ superblocks → slots' ≡ slots → IsSource superblocks' slots' k p → IsSource superblocks slots k p
source_at superblocks' superblocks slots' slots k p e d source = subst (λ ss. IsSource superblocks ss k p) d (subst (λ ss. IsSource ss slots' k p) e source)

module _ (top : ℕ) (superblocks : List StoredSuperblock) (tenants : List StoredTenant) (kept : IsKept top superblocks tenants) (t : ℕ) (listed : t < length tenants) where
  kept_tenant : IsTenantKept top superblocks (stored_tenant t tenants)
  kept_tenant = kept.each t listed

  -- if a free block lies in superblock m, the bit of its order in the root word of m is 1
  bit_of : (c : Block) (m : ℕ) → IsFree top (held_by (stored_tenant t tenants)) (taken_by top superblocks (stored_tenant t tenants)) c → superblock_at (stored_tenant t tenants) (c.first / 2 ^ top) ≡ Some m → HasBit superblocks m c.order
  bit_of c m free at =
      (root_tells top (held_by (stored_tenant t tenants)) (taken_by top superblocks (stored_tenant t tenants)) (c.first / 2 ^ top) (superblock_of m superblocks).tree.words (kept_tenant.shows (c.first / 2 ^ top) m at) c.order).1 (c.first, free, refl)

  -- the tenant's count of free blocks of an order is above 0 if and only if one of its superblocks has a free block of that order
  pub counted : IsCounted superblocks (stored_tenant t tenants)
  counted j = (λ some. forth (cases_lt top j) some, back)
    where
      forth : (top < j) ⊎ (j ≤ top) → 0 < slice_index (stored_tenant t tenants).free j → HasOrder superblocks (stored_tenant t tenants).slots j
      forth (inl past) some = let none = get_or_past (stored_tenant t tenants).free j 0 (let size = kept_tenant.sizes.free in omega arith) in absurd (omega arith)
      forth (inr le) some =
          let found = count_found (λ g. is_free top (held_by (stored_tenant t tenants)) (taken_by top superblocks (stored_tenant t tenants)) (block g j)) (length superblocks * 2 ^ top) (subst (λ n. 0 < n) (kept_tenant.free j le) some) in
          let free = (free_is_tested top (held_by (stored_tenant t tenants)) (taken_by top superblocks (stored_tenant t tenants)) (block found.0 j)).0 found.2 in
          let slot = some_of (superblock_at (stored_tenant t tenants) (found.0 / 2 ^ top)) free.1 in
          (found.0 / 2 ^ top, slot.0, slot.1, bit_of (block found.0 j) slot.0 free slot.1)

      back : HasOrder superblocks (stored_tenant t tenants).slots j → 0 < slice_index (stored_tenant t tenants).free j
      back (u, m, at, bit) =
          let told = (root_tells top (held_by (stored_tenant t tenants)) (taken_by top superblocks (stored_tenant t tenants)) u (superblock_of m superblocks).tree.words (kept_tenant.shows u m at) j).0 bit in
          let u_lt : u < length superblocks = subst (λ n. u < n) kept_tenant.sizes.slots (slot_within (stored_tenant t tenants).slots u m at) in
          let within = frame_below top (length superblocks) told.0 (subst (λ n. n < length superblocks) (sym told.2) u_lt) in
          let some = count_some (λ g. is_free top (held_by (stored_tenant t tenants)) (taken_by top superblocks (stored_tenant t tenants)) (block g j)) (length superblocks * 2 ^ top) told.0 within
          ((free_is_tested top (held_by (stored_tenant t tenants)) (taken_by top superblocks (stored_tenant t tenants)) (block told.0 j)).1 told.1) in
          subst (λ n. 0 < n) (sym (kept_tenant.free j told.1.0.0)) some

  pub none_without : (k : ℕ) → IsWithoutOrder superblocks (stored_tenant t tenants).slots k → IsWithout top (held_by (stored_tenant t tenants)) (taken_by top superblocks (stored_tenant t tenants)) k
  none_without k none c free le =
      let slot = some_of (superblock_at (stored_tenant t tenants) (c.first / 2 ^ top)) free.1 in
      none c.order (c.first / 2 ^ top) slot.0 le slot.1 (bit_of c slot.0 free slot.1)

  module _ (k : ℕ) (p : Source) (source : IsSource superblocks (stored_tenant t tenants).slots k p) where
    pub order_within : p.order ≤ top
    order_within =
        let found = (root_tells top (held_by (stored_tenant t tenants)) (taken_by top superblocks (stored_tenant t tenants)) p.slot (superblock_of p.superblock superblocks).tree.words (kept_tenant.shows p.slot p.superblock source.at) p.order).0 source.bit in
        found.1.0.0

-- the first free block of order `p.order` in the slot of the source begins at frame x of the slot's superblock
pub record IsFound (top : ℕ) (superblocks : List StoredSuperblock) (tenants : List StoredTenant) (t k : ℕ) (p : Source) (x : ℕ) : Type 0 where
  pub listed : t < length tenants
  pub source : IsSource superblocks (stored_tenant t tenants).slots k p
  pub inside : x < 2 ^ top
  pub aligned : number_at p.order x * 2 ^ p.order ≡ x
  pub least : IsLeast (λ y. is_available top (held_by (stored_tenant t tenants)) (taken_by top superblocks (stored_tenant t tenants)) (p.slot * 2 ^ top + y)) top p.order (number_at p.order x)

-- x is what a search for `p.order` in a tree of order n returns
abbrev pub Answers : Source → ℕ → ℕ → List ℕ → Type 0
Answers p x n words = (x < 2 ^ n) × ((ok : ℕ → Bool) → Shows n ok words → bit_at (slice_index words 0) p.order ≡ 1 → (number_at p.order x * 2 ^ p.order ≡ x) × IsLeast ok n p.order (number_at p.order x))

-- the search of the source's superblock returns the frame at which the first free block of order `p.order` begins
pub found_at : (top : ℕ) (superblocks : List StoredSuperblock) (tenants : List StoredTenant) → IsKept top superblocks tenants → (t : ℕ) → t < length tenants → (k : ℕ) (p : Source) → IsSource superblocks (stored_tenant t tenants).slots k p
    → (tree : StoredTree) → tree ≡ (superblock_of p.superblock superblocks).tree → (x : ℕ) → Answers p x tree.order tree.words → IsFound top superblocks tenants t k p x
found_at top superblocks tenants kept t listed k p source tree read x answers = record { listed = listed; source = source; inside = here.0; aligned = first.0; least = first.1 }
  where
    mine : IsTenantKept top superblocks (stored_tenant t tenants)
    mine = kept.each t listed

    here : Answers p x top (superblock_of p.superblock superblocks).tree.words
    here = subst (λ n. Answers p x n (superblock_of p.superblock superblocks).tree.words) (kept.order p.superblock (mine.within p.slot p.superblock source.at)) (subst (λ (z : StoredTree). Answers p x z.order z.words) read answers)

    first : (number_at p.order x * 2 ^ p.order ≡ x) × IsLeast (available_in top superblocks (stored_tenant t tenants) p.slot) top p.order (number_at p.order x)
    first = here.1 (available_in top superblocks (stored_tenant t tenants) p.slot) (mine.shows p.slot p.superblock source.at) source.bit

module _ {top : ℕ} {superblocks : List StoredSuperblock} {tenants : List StoredTenant} {t k : ℕ} {p : Source} {x : ℕ} (kept : IsKept top superblocks tenants) (found : IsFound top superblocks tenants t k p x) where
  abbrev held : ℕ → Bool
  held = held_by (stored_tenant t tenants)

  abbrev taken : Taken
  taken = taken_by top superblocks (stored_tenant t tenants)

  mine : IsTenantKept top superblocks (stored_tenant t tenants)
  mine = kept.each t found.listed

  pub superblock_lt : p.superblock < length superblocks
  superblock_lt = mine.within p.slot p.superblock found.source.at

  first_of : IsFree top (held_by (stored_tenant t tenants)) (taken_by top superblocks (stored_tenant t tenants)) (block (p.slot * 2 ^ top + x) p.order)
      × ((g : ℕ) → IsFree top (held_by (stored_tenant t tenants)) (taken_by top superblocks (stored_tenant t tenants)) (block g p.order) → g / 2 ^ top ≡ p.slot → p.slot * 2 ^ top + x ≤ g)
  first_of = least_free top (held_by (stored_tenant t tenants)) (taken_by top superblocks (stored_tenant t tenants)) p.slot p.order x found.aligned found.least

  pub is_choice : IsChoice top (held_by (stored_tenant t tenants)) (taken_by top superblocks (stored_tenant t tenants)) k (block (p.slot * 2 ^ top + x) p.order)
  is_choice = (first_of.0, found.source.enough, λ c free le. go c free le (some_of (superblock_at (stored_tenant t tenants) (c.first / 2 ^ top)) free.1) (cases_order p.order c.order))
    where
      later : (g v : ℕ) → v ≡ g / 2 ^ top → p.slot < v → p.slot * 2 ^ top + x ≤ g
      later g v e lt =
          let up = mul-le-mul_right (2 ^ top) (let le : p.slot + 1 ≤ v = omega arith in le) in
          let parts : (p.slot + 1) * 2 ^ top ≡ p.slot * 2 ^ top + 2 ^ top = omega arith in
          let split = shr_split g top in
          let same : v * 2 ^ top ≡ g / 2 ^ top * 2 ^ top = ap (λ n. n * 2 ^ top) e in
          omega arith

      go : (c : Block) → IsFree top (held_by (stored_tenant t tenants)) (taken_by top superblocks (stored_tenant t tenants)) c → k ≤ c.order → (m : ℕ) × (superblock_at (stored_tenant t tenants) (c.first / 2 ^ top) ≡ Some m)
          → (p.order ≡ c.order) ⊎ ((p.order < c.order) ⊎ (c.order < p.order)) → (p.order < c.order) ⊎ ((p.order ≡ c.order) × (p.slot * 2 ^ top + x ≤ c.first))
      go c free le (m, at) (inr (inl lt)) = inl lt
      go c free le (m, at) (inr (inr gt)) = absurd (found.source.least c.order (c.first / 2 ^ top) m le gt at (bit_of top superblocks tenants kept t found.listed c m free at))
      go c free le (m, at) (inl e) = inr (e, by_slot (cases_order p.slot (c.first / 2 ^ top)))
        where
          by_slot : (p.slot ≡ c.first / 2 ^ top) ⊎ ((p.slot < c.first / 2 ^ top) ⊎ (c.first / 2 ^ top < p.slot)) → p.slot * 2 ^ top + x ≤ c.first
          by_slot (inl same) = first_of.1 c.first (subst (λ n. IsFree top (held_by (stored_tenant t tenants)) (taken_by top superblocks (stored_tenant t tenants)) (block c.first n)) (sym e) free) (sym same)
          by_slot (inr (inl above)) = later c.first (c.first / 2 ^ top) refl above
          by_slot (inr (inr below)) = absurd (found.source.first (c.first / 2 ^ top) m below at (subst (HasBit superblocks m) (sym e) (bit_of top superblocks tenants kept t found.listed c m free at)))

  abbrev f : ℕ
  f = p.slot * 2 ^ top + x

  out : TakesOut (is_available top held taken) (is_available top held (changed taken (p.slot * 2 ^ top + x) (Some k))) top (p.slot * 2 ^ top + x) k p.order
  out = reserving top (held_by (stored_tenant t tenants)) (taken_by top superblocks (stored_tenant t tenants)) (p.slot * 2 ^ top + x) p.order k first_of.0 found.source.enough

  slot_lt : p.slot < length superblocks
  slot_lt = subst (λ n. p.slot < n) mine.sizes.slots (slot_within (stored_tenant t tenants).slots p.slot p.superblock found.source.at)

  f_slot : (p.slot * 2 ^ top + x) / 2 ^ top < length superblocks
  f_slot = subst (λ n. n < length superblocks) (sym (div-mul-add p.slot (2 ^ top) x found.inside)) slot_lt

  pub some_free : 0 < slice_index (stored_tenant t tenants).free p.order
  some_free = let is = mine.free p.order (order_within top superblocks tenants kept t found.listed k p found.source) in let some = whole_counts top held held taken (changed taken f (Some k)) f k p.order (length superblocks) out f_slot in omega arith

  f_lt : p.slot * 2 ^ top + x < length (holding_shown top superblocks (stored_tenant t tenants)).taken
  f_lt = subst (λ n. p.slot * 2 ^ top + x < n) (sym (table_size top superblocks tenants kept t found.listed))
      (let up = mul-le-mul_right (2 ^ top) (let le : p.slot + 1 ≤ length superblocks = omega (arith, slot_lt) in le) in
      let parts : (p.slot + 1) * 2 ^ top ≡ p.slot * 2 ^ top + 2 ^ top = omega arith in omega arith)

  -- no taken block begins at the first frame of the free block
  was_none : (o : Option ℕ) → taken_by top superblocks (stored_tenant t tenants) (p.slot * 2 ^ top + x) ≡ o → o ≡ None
  was_none None e = refl
  was_none (Some i) e = absurd (first_of.0.2 (p.slot * 2 ^ top + x, has_first (p.slot * 2 ^ top + x) p.order, (p.slot * 2 ^ top + x, i, e, has_first (p.slot * 2 ^ top + x) i)))

  no_entry : get_or (holding_shown top superblocks (stored_tenant t tenants)).taken (p.slot * 2 ^ top + x) None ≡ None
  no_entry = taken_shown top superblocks (stored_tenant t tenants) (p.slot * 2 ^ top + x) ∙ was_none _ refl

  pub reserved_step : (s : StoredSuperblock) (after : StoredTenant) → Reserved p.order k x (superblock_of p.superblock superblocks) (stored_tenant t tenants) s after → IsStep top superblocks tenants t p.slot p.superblock x s after (Some k)
  reserved_step s after r = record {
    listed = found.listed;
    at = found.source.at;
    inside = found.inside;
    stored = r.stored;
    order = r.order;
    orders = r.orders;
    slots = r.counts.slots;
    free_size = r.counts.free_size ∙ mine.sizes.free;
    taken_size = r.counts.taken_size ∙ mine.sizes.taken;
    shows = words _ _ (mine.shows p.slot p.superblock found.source.at) found.least.0 (less_in_slot (is_available top held taken) (is_available top held (changed taken (p.slot * 2 ^ top + x) (Some k))) top p.slot x k p.order out);
    elsewhere = λ v y ne lt. sym (same_elsewhere (is_available top held taken) (is_available top held (changed taken (p.slot * 2 ^ top + x) (Some k))) top p.slot x k p.order out found.inside v y ne lt);
    sound = reserve_stays_sound top (held_by (stored_tenant t tenants)) (taken_by top superblocks (stored_tenant t tenants)) (p.slot * 2 ^ top + x) p.order k mine.sound first_of.0 found.source.enough;
    free = λ i le.
        let was = mine.free i le in
        let moved = free_balance top held held taken (changed taken f (Some k)) f k p.order (length superblocks) out f_slot (stored_tenant t tenants) after r.counts i in
        omega arith;
    taken = λ i le.
        let was = mine.taken i le in
        let moved = taken_bit k p.order (stored_tenant t tenants) after r.counts i in
        let counted = count_set (holding_shown top superblocks (stored_tenant t tenants)).taken f i (Some k) f_lt in
        let before : bit (has_order i (get_or (holding_shown top superblocks (stored_tenant t tenants)).taken f None)) ≡ 0 = ap (λ o. bit (has_order i o)) no_entry in
        omega arith;
  }
    where
      words : (large small : ℕ → Bool) → Shows top large (superblock_of p.superblock superblocks).tree.words → IsOpen large top p.order (number_at p.order x) → IsLess small large k x → Shows top small s.tree.words
      words = subst (λ n. (large small : ℕ → Bool) → Shows n large (superblock_of p.superblock superblocks).tree.words → IsOpen large n p.order (number_at p.order x) → IsLess small large k x → Shows n small s.tree.words)
          (kept.order p.superblock superblock_lt) r.words
