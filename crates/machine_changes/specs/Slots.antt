-- What a change of a tenant's slots does to the parts and to the private machines that they show.
use Rattle.std.specs.Prelude.{◌≡◌, ◌≢◌, ◌↔◌, ℕ, ◌+◌, ◌*◌, ◌^◌, ◌<◌, true, Some, None, length}
use Rattle.model_core.specs.declared.limits.TheConstants.{FRAME_BYTES}
use Rattle.model_core.specs.Blocks.{slot_block, HasTaken}
use Rattle.model_core.specs.Machine.{Machine, empty_machine}
use Rattle.model_core.specs.Operations.{next_slot, after_grant, is_busy, after_take_back}
use Rattle.klist_core.specs.Places.{place_at}
use Rattle.space_core.specs.Content as spaces
use Rattle.space_core.specs.Changes.{IsLeastSlot, with_grant, with_take_back, with_move}
use Rattle.space_core.specs.Laws.{SpaceLaws, IsSameFor, ReadsSame}
use Rattle.buddy_core.specs.Content as buddies
use Rattle.slab_tables.specs.Content.{Content, IsSlabs, empty_tables}
use Rattle.slab_tables.specs.Changes.{IsReset, IsMoved}
use Rattle.machine_changes.specs.Shows.{ShowsMachine, Agree}
use Rattle.machine_changes.specs.Keeps.{Keeps}

-- the invariants of the memory, the buddy systems and the tables hold, and the three agree
pub record HoldTogether (r : spaces.Content) (b : buddies.Content) (s : Content) : Type 0 where
  pub space : SpaceLaws r
  pub buddy : buddies.BuddyLaws b
  pub slabs : IsSlabs s
  pub agree : Agree r b s

-- The parts change only for tenant t: they still agree, and all other tenants keep everything. If the parts showed a machine for
-- t, they now show `change` of that machine.
pub record ChangesFor (t : ℕ) (r r' : spaces.Content) (b b' : buddies.Content) (s s' : Content) (change : Machine → Machine) : Type 0 where
  pub agree : Agree r' b' s'
  pub others : (u : ℕ) → u ≢ t → Keeps r r' b b' s s' u
  pub shows : (m : Machine) → ShowsMachine r b s t m → ShowsMachine r' b' s' t (change m)

-- If superblock m, which has no owner, is granted to tenant t as slot u, the lowest slot that t does not hold, the parts change
-- only for t. They then show `after_grant` of the old machine for t.
abbrev pub GrantedShows : Type 0
GrantedShows = (r : spaces.Content) (b : buddies.Content) (s : Content) (t u m : ℕ)
    → HoldTogether r b s → t < length r.slots → IsLeastSlot r.slots t u → u < length r.owners
    → m < length r.owners → spaces.owner_at r.owners m ≡ None
    → ChangesFor t r (with_grant r t u m) b (buddies.with_holding t (buddies.with_slot u m (buddies.holding_of t b)) b) s s (after_grant s.top)

-- the lowest slot that the tenant does not hold is the machine's next slot
abbrev pub NextMeets : Type 0
NextMeets = (r : spaces.Content) (b : buddies.Content) (s : Content) (t u : ℕ) (m : Machine)
    → ShowsMachine r b s t m → IsLeastSlot r.slots t u → next_slot m ≡ u

-- If superblock m is taken back from slot u of tenant t, and no frame of the slot is taken, the parts change only for t. They
-- then show `after_take_back` of the old machine for t.
abbrev pub TakenBackShows : Type 0
TakenBackShows = (r : spaces.Content) (b : buddies.Content) (s : Content) (t u m : ℕ)
    → HoldTogether r b s → t < length r.slots → spaces.superblock_at r.slots t u ≡ Some m
    → (HasTaken (buddies.taken_of (buddies.holding_of t b)) (slot_block b.top u) → ⊥)
    → ChangesFor t r (with_take_back r t u m) b (buddies.with_holding t (buddies.without_slot u (buddies.holding_of t b)) b) s s (after_take_back s.top u)

-- a slot has a taken frame if and only if it is busy in the machine
abbrev pub BusyMeets : Type 0
BusyMeets = (r : spaces.Content) (b : buddies.Content) (s : Content) (t u : ℕ) (m : Machine)
    → HoldTogether r b s → t < length r.slots → ShowsMachine r b s t m
    → HasTaken (buddies.taken_of (buddies.holding_of t b)) (slot_block b.top u) ↔ (is_busy s.top m u ≡ true)

-- superblock m is in no slot, and no slab begins on it
pub record IsSpare (b : buddies.Content) (s : Content) (m : ℕ) : Type 0 where
  pub unused : (t u : ℕ) → buddies.superblock_at (buddies.holding_of t b) u ≡ Some m → ⊥
  pub bare : (i : ℕ) → i < 2 ^ s.top → place_at s.lists.places (m * 2 ^ s.top + i) ≡ None

-- a superblock without an owner is spare
abbrev pub UnownedIsSpare : Type 0
UnownedIsSpare = (r : spaces.Content) (b : buddies.Content) (s : Content) (m : ℕ)
    → HoldTogether r b s → spaces.owner_at r.owners m ≡ None → IsSpare b s m

-- If slot u of tenant t moves from superblock `from` to superblock `to`, which has no owner, t reads what it read before. The
-- parts change only for t, and show the same machine for it.
abbrev pub MovedShows : Type 0
MovedShows = (r : spaces.Content) (b : buddies.Content) (s s' : Content) (t u from to : ℕ)
    → HoldTogether r b s → t < length r.slots → spaces.superblock_at r.slots t u ≡ Some from
    → to < length r.owners → spaces.owner_at r.owners to ≡ None → IsMoved s s' from to
    → ReadsSame t r (with_move r t u from to)
    × ChangesFor t r (with_move r t u from to) b (buddies.with_holding t (buddies.with_slot u to (buddies.holding_of t b)) b) s s' (λ m. m)

-- tenant t has no slot, and all other tenants have the same memory as before
pub record HasGivenUp (t : ℕ) (r r' : spaces.Content) : Type 0 where
  pub unit : r'.unit ≡ r.unit
  pub superblocks : length r'.owners ≡ length r.owners
  pub rows : length r'.slots ≡ length r.slots
  pub slots : (u : ℕ) → spaces.superblock_at r'.slots t u ≡ None
  pub others : (u : ℕ) → u ≢ t → IsSameFor u r r'

-- if everything that tenant t has is removed, the parts change only for t, and show the empty machine for it
abbrev pub EmptiedShows : Type 0
EmptiedShows = (r r' : spaces.Content) (b : buddies.Content) (s s' : Content) (t : ℕ)
    → HoldTogether r b s → t < length r.slots → HasGivenUp t r r' → IsReset s s' t
    → ChangesFor t r r' b (buddies.with_holding t (buddies.nothing_held b.top b.superblocks) b) s s' (λ m. empty_machine)

-- before the first event the parts agree, and show the empty machine for every tenant
pub record IsOpening (r : spaces.Content) (b : buddies.Content) (s : Content) : Type 0 where
  pub agree : Agree r b s
  pub shows : (t : ℕ) → ShowsMachine r b s t empty_machine

abbrev pub OpeningShows : Type 0
OpeningShows = (order superblocks tenants : ℕ)
    → IsOpening (spaces.empty_space (FRAME_BYTES * 2 ^ order) superblocks tenants) (buddies.empty_buddy order superblocks tenants)
    (empty_tables order superblocks tenants)
