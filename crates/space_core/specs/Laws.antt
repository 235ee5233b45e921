-- The laws of a space: what a call for one tenant does to the slots and bytes of this tenant and of all others.
use Rattle.std.specs.Prelude.{◌≡◌, ◌≢◌, ℕ, ◌+◌, ◌-◌, ◌/◌, ◌<◌, ◌==◌, ◌&&◌, nat_lt, nat_le, if◌then◌else◌, List, Some, None, IsSome, length, slice_index}
use Rattle.model_core.specs.Owners.{owned_by}
use Rattle.space_core.specs.Content.{Content, IsSpace, bank, superblock_at, owner_at}
use Rattle.space_core.specs.Windows.{slot_bytes, home_of, window_of, with_window, byte_at, with_byte}
use Rattle.space_core.specs.Changes.{with_grant, with_take_back, with_move}

-- no slot has two superblocks, and no superblock is in two slots
pub record IsOneToOne (s : Content) : Type 0 where
  pub superblocks : (t u m n : ℕ) → owner_at s.owners m ≡ Some (owned_by t u) → owner_at s.owners n ≡ Some (owned_by t u) → m ≡ n
  pub slots : (t u v w m : ℕ) → superblock_at s.slots t u ≡ Some m → superblock_at s.slots v w ≡ Some m → (t ≡ v) × (u ≡ w)

-- tenant t has the same superblock in each slot in s' as in s, and reads the same bytes at each place
pub record IsSameFor (t : ℕ) (s s' : Content) : Type 0 where
  pub slots : (u : ℕ) → superblock_at s'.slots t u ≡ superblock_at s.slots t u
  pub banks : (u m : ℕ) → superblock_at s.slots t u ≡ Some m → bank s'.banks m ≡ bank s.banks m
  pub bytes : (place : ℕ) → byte_at s' t place ≡ byte_at s t place
  pub windows : (place len : ℕ) → window_of s' t place len ≡ window_of s t place len

-- tenant t holds the same slots in s' as in s and reads the same bytes in them, but the superblocks in the slots may differ
pub record ReadsSame (t : ℕ) (s s' : Content) : Type 0 where
  pub slots : (u : ℕ) → slot_bytes s' t u ≡ slot_bytes s t u
  pub bytes : (place : ℕ) → byte_at s' t place ≡ byte_at s t place
  pub windows : (place len : ℕ) → window_of s' t place len ≡ window_of s t place len

-- A write, a grant, a take-back or a move for tenant t changes no slot and no byte of another tenant. A superblock that is
-- granted, or to which a slot moves, must have no owner before the call.
pub record OthersStay (s : Content) : Type 0 where
  pub window : (t place len : ℕ) (w : List ℕ) (other : ℕ) → other ≢ t → IsSameFor other s (with_window s t place len w)
  pub byte : (t place b other : ℕ) → other ≢ t → IsSameFor other s (with_byte s t place b)
  pub grant : (t u m other : ℕ) → owner_at s.owners m ≡ None → other ≢ t → IsSameFor other s (with_grant s t u m)
  pub take_back : (t u m other : ℕ) → other ≢ t → IsSameFor other s (with_take_back s t u m)
  pub move : (t u from to other : ℕ) → owner_at s.owners to ≡ None → other ≢ t → IsSameFor other s (with_move s t u from to)

-- every superblock without an owner in s' has the same bytes in s' as in s
abbrev pub SpareStays : Content → Content → Type 0
SpareStays s s' = (m : ℕ) → owner_at s'.owners m ≡ None → bank s'.banks m ≡ bank s.banks m

-- a call changes no byte of a superblock that has no owner after the call
pub record SpareBytes (s : Content) : Type 0 where
  pub window : (t place len : ℕ) (w : List ℕ) → SpareStays s (with_window s t place len w)
  pub byte : (t place b : ℕ) → SpareStays s (with_byte s t place b)
  pub grant : (t u m : ℕ) → m < length s.owners → SpareStays s (with_grant s t u m)
  pub take_back : (t u m : ℕ) → SpareStays s (with_take_back s t u m)
  pub move : (t u from to : ℕ) → to < length s.owners → SpareStays s (with_move s t u from to)

-- `bytes` are the `len` bytes of tenant t that begin at `place`
pub record AreBytesAt (s : Content) (t place len : ℕ) (bytes : List ℕ) : Type 0 where
  pub count : length bytes ≡ len
  pub each : (i : ℕ) → i < len → byte_at s t (place + i) ≡ Some (slice_index bytes i)

-- the bytes that tenant t reads in a range, and the byte that t reads at each place p after each call
pub record OwnBytes (s : Content) : Type 0 where
  pub read : (t place len : ℕ) (bytes : List ℕ) → window_of s t place len ≡ Some bytes → AreBytesAt s t place len bytes
  pub window : (t place len : ℕ) (w : List ℕ) → IsSome (home_of s t place len) → length w ≡ len
      → (p : ℕ) → byte_at (with_window s t place len w) t p
      ≡ (if nat_le place p && nat_lt p (place + len) then Some (slice_index w (p - place)) else byte_at s t p)
  pub byte : (t place b : ℕ) → IsSome (byte_at s t place)
      → (p : ℕ) → byte_at (with_byte s t place b) t p ≡ (if p == place then Some b else byte_at s t p)
  pub grant : (t u m : ℕ) → t < length s.slots → u < length s.owners → m < length s.owners → owner_at s.owners m ≡ None
      → (p : ℕ) → byte_at (with_grant s t u m) t p ≡ (if p / s.unit == u then Some 0 else byte_at s t p)
  pub take_back : (t u m : ℕ) → superblock_at s.slots t u ≡ Some m
      → (p : ℕ) → byte_at (with_take_back s t u m) t p ≡ (if p / s.unit == u then None else byte_at s t p)
  pub move : (t u from to : ℕ) → superblock_at s.slots t u ≡ Some from → to < length s.owners
      → owner_at s.owners to ≡ None → ReadsSame t s (with_move s t u from to)

-- the superblock in each slot v of tenant t after a grant, a take-back and a move
pub record OwnSlots (s : Content) : Type 0 where
  pub grant : (t u m : ℕ) → t < length s.slots → u < length s.owners
      → (v : ℕ) → superblock_at (with_grant s t u m).slots t v ≡ (if v == u then Some m else superblock_at s.slots t v)
  pub take_back : (t u m : ℕ) → superblock_at s.slots t u ≡ Some m
      → (v : ℕ) → superblock_at (with_take_back s t u m).slots t v ≡ (if v == u then None else superblock_at s.slots t v)
  pub move : (t u from to : ℕ) → superblock_at s.slots t u ≡ Some from
      → (v : ℕ) → superblock_at (with_move s t u from to).slots t v ≡ (if v == u then Some to else superblock_at s.slots t v)

-- what is true of every space, and what the calls do to its slots and bytes
pub record SpaceLaws (s : Content) : Type 0 where
  pub facts : IsSpace s
  pub apart : IsOneToOne s
  pub others : OthersStay s
  pub own_bytes : OwnBytes s
  pub own_slots : OwnSlots s
  pub spare : SpareBytes s
