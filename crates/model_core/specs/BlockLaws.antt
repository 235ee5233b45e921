-- The laws of the blocks of a buddy system. The contracts of the module `block_laws` state them.
use Rattle.std.specs.Prelude.{◌≡◌, ◌⊎◌, ◌↔◌, ℕ, ◌+◌, ◌/◌, ◌^◌, ◌<◌, ◌≤◌, Bool, true, Some, MatchOption}
use Rattle.model_core.specs.Blocks.{Block, block, HasFrame, IsAligned, buddy, around, slot_block, Taken, with_taken, without_taken, IsTaken, HasTaken, IsFree, IsChoice, IsWithout, IsSound}
use Rattle.model_core.specs.Choice.{is_free, choose}

-- each frame that lies in a held slot and is not taken lies in exactly one free block
abbrev pub EachFrameInOne : Type 0
EachFrameInOne = (top : ℕ) (held : ℕ → Bool) (taken : Taken) (x : ℕ) → held (x / 2 ^ top) ≡ true → (IsTaken taken x → ⊥)
    → (b : Block) × IsFree top held taken b × HasFrame b x × ((c : Block) → IsFree top held taken c → HasFrame c x → c ≡ b)

-- Block b is free once the first 2 ^ k frames of the free block of order j at frame f are reserved. The free blocks lose the
-- block of order j and gain the upper half of each split: one block of each order from k to j - 1.
abbrev pub IsFreeOnceSplit : (Block → Type 0) → ℕ → ℕ → ℕ → Block → Type 0
IsFreeOnceSplit WasFree f j k b = (WasFree b × (b ≡ block f j → ⊥)) ⊎ ((i : ℕ) × (k ≤ i) × (i < j) × (b ≡ block (f + 2 ^ i) i))

-- if the first 2 ^ k frames of a free block are reserved, the free blocks change as `IsFreeOnceSplit` says
abbrev pub Splits : Type 0
Splits = (top : ℕ) (held : ℕ → Bool) (taken : Taken) (f j k : ℕ) → IsFree top held taken (block f j) → k ≤ j → (b : Block)
    → (IsFree top held (with_taken taken f k) b ↔ IsFreeOnceSplit (IsFree top held taken) f j k b)

-- A release of the block of order k at frame f joins blocks up to order j. At each order from k to j - 1, the aligned block that
-- has frame f has a free buddy. At order j, the aligned block that has frame f is a whole slot, or its buddy is not free.
pub record JoinsTo (top : ℕ) (held : ℕ → Bool) (taken : Taken) (f k j : ℕ) : Type 0 where
  pub rises : k ≤ j
  pub within : j ≤ top
  pub joined : (i : ℕ) → k ≤ i → i < j → IsFree top held taken (buddy (around f i))
  pub stops : (j ≡ top) ⊎ (IsFree top held taken (buddy (around f j)) → ⊥)

-- Block b is free once the block of order k at frame f is released and joined up to order j. The free blocks lose the
-- buddies that are joined with the released block, and gain the block of order j that results.
abbrev pub IsFreeOnceJoined : (Block → Type 0) → ℕ → ℕ → ℕ → Block → Type 0
IsFreeOnceJoined WasFree f k j b = (b ≡ around f j) ⊎ (WasFree b × ((i : ℕ) → k ≤ i → i < j → b ≡ buddy (around f i) → ⊥))

-- If the taken blocks are sound, a release of a taken block joins it up to some order, as `JoinsTo` says. The free blocks change
-- as `IsFreeOnceJoined` says.
abbrev pub Joins : Type 0
Joins = (top : ℕ) (held : ℕ → Bool) (taken : Taken) (f k : ℕ) → IsSound top held taken → taken f ≡ Some k
    → (j : ℕ) × JoinsTo top held taken f k j × ((b : Block)
    → (IsFree top held (without_taken taken f) b ↔ IsFreeOnceJoined (IsFree top held taken) f k j b))

-- a block that is reserved out of a free block is aligned, and all its frames lie in held slots and are not taken
abbrev pub ReservedIsUntaken : Type 0
ReservedIsUntaken = (top : ℕ) (held : ℕ → Bool) (taken : Taken) (f j k : ℕ) → IsFree top held taken (block f j) → k ≤ j
    → IsAligned top (block f k) × ((x : ℕ) → HasFrame (block f k) x → (held (x / 2 ^ top) ≡ true) × (IsTaken taken x → ⊥))

-- The taken blocks stay sound, that is aligned, in held slots and apart, if a block is reserved out of a free block ..
abbrev pub ReserveStaysSound : Type 0
ReserveStaysSound = (top : ℕ) (held : ℕ → Bool) (taken : Taken) (f j k : ℕ) → IsSound top held taken
    → IsFree top held taken (block f j) → k ≤ j
    → IsSound top held (with_taken taken f k)

-- .. if a block is released ..
abbrev pub ReleaseStaysSound : Type 0
ReleaseStaysSound = (top : ℕ) (held : ℕ → Bool) (taken : Taken) (f : ℕ) → IsSound top held taken
    → IsSound top held (without_taken taken f)

-- .. if slots are granted ..
abbrev pub GrantStaysSound : Type 0
GrantStaysSound = (top : ℕ) (held more : ℕ → Bool) (taken : Taken) → IsSound top held taken
    → ((u : ℕ) → held u ≡ true → more u ≡ true) → IsSound top more taken

-- .. and if slots without a taken frame are taken back.
abbrev pub TakeBackStaysSound : Type 0
TakeBackStaysSound = (top : ℕ) (held fewer : ℕ → Bool) (taken : Taken) → IsSound top held taken
    → ((u : ℕ) → held u ≡ true → (fewer u ≡ true) ⊎ (HasTaken taken (slot_block top u) → ⊥)) → IsSound top fewer taken

-- the test `is_free` is true of exactly the free blocks
abbrev pub FreeIsTested : Type 0
FreeIsTested = (top : ℕ) (held : ℕ → Bool) (taken : Taken) (b : Block)
    → (is_free top held taken b ≡ true) ↔ IsFree top held taken b

-- If `slots` is above every held slot, `choose` returns the free block that serves a request for order k. It returns None if no
-- free block is large enough.
abbrev pub ChoiceIsFound : Type 0
ChoiceIsFound = (top : ℕ) (held : ℕ → Bool) (taken : Taken) (slots k : ℕ) → ((u : ℕ) → held u ≡ true → u < slots)
    → MatchOption (choose top held taken slots k) (IsWithout top held taken k) (IsChoice top held taken k)

-- at most one free block is the choice for order k
abbrev pub OneChoice : Type 0
OneChoice = (top : ℕ) (held : ℕ → Bool) (taken : Taken) (k : ℕ) (b c : Block) → IsChoice top held taken k b
    → IsChoice top held taken k c → b ≡ c
