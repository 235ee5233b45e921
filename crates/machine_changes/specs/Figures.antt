-- The figures of a report about a tenant's machine follow from the buddy system.
use Rattle.std.specs.Prelude.{◌≡◌, ℕ, zero, suc, ◌+◌, ◌*◌, ◌^◌, ◌<◌, ◌≤◌, length}
use Rattle.model_core.specs.declared.limits.TheConstants.{WIDE_FRAMES}
use Rattle.model_core.specs.Machine.{Machine}
use Rattle.model_core.specs.Reports.{frames_held, frames_taken, free_count, taken_count}
use Rattle.space_core.specs.Content as spaces
use Rattle.buddy_core.specs.Content as buddies
use Rattle.slab_tables.specs.Content.{Content}
use Rattle.machine_changes.specs.Shows.{ShowsMachine, Agree}
use Rattle.machine_changes.specs.Steady.{IsSteady}

-- the number of frames in `count k` blocks of each order k below n
abbrev pub frames_in : (ℕ → ℕ) → ℕ → ℕ
frames_in count zero = 0
frames_in count (suc k) = frames_in count k + count k * 2 ^ k

-- the number of frames in the taken blocks of orders below n
abbrev pub frames_below : buddies.Holding → ℕ → ℕ
frames_below h n = frames_in (λ k. buddies.taken_block_count k h) n

-- the machine has as many held frames, taken frames, and free and taken blocks of each order as tenant t has in the buddy system
pub record HasFigures (b : buddies.Content) (t : ℕ) (m : Machine) : Type 0 where
  pub held : frames_held b.top m ≡ buddies.held_slots (buddies.holding_of t b) * 2 ^ b.top
  pub free : (k : ℕ) → free_count b.top m k ≡ buddies.free_block_count b.top b.superblocks k (buddies.holding_of t b)
  pub taken : (k : ℕ) → taken_count m k ≡ buddies.taken_block_count k (buddies.holding_of t b)
  pub frames : frames_taken m ≡ frames_below (buddies.holding_of t b) (b.top + 1)

-- if the parts show a machine for a tenant, the machine's figures equal the tenant's figures in the buddy system
abbrev pub FiguresMeet : Type 0
FiguresMeet = (r : spaces.Content) (b : buddies.Content) (s : Content) (t : ℕ) (m : Machine)
    → Agree r b s → IsSteady r b s t → buddies.BuddyLaws b → t < length b.tenants → ShowsMachine r b s t m → HasFigures b t m

-- A tenant's slots have at most WIDE_FRAMES frames. Of each order the tenant has at most WIDE_FRAMES free blocks and as many taken
-- ones. The taken blocks are disjoint, so together they have at most as many frames as the slots.
pub record AreWithin (b : buddies.Content) (t : ℕ) : Type 0 where
  pub held : buddies.held_slots (buddies.holding_of t b) * 2 ^ b.top ≤ WIDE_FRAMES
  pub free : (k : ℕ) → buddies.free_block_count b.top b.superblocks k (buddies.holding_of t b) ≤ WIDE_FRAMES
  pub taken : (k : ℕ) → buddies.taken_block_count k (buddies.holding_of t b) ≤ WIDE_FRAMES
  pub frames : (n : ℕ) → n ≤ b.top + 1 → frames_below (buddies.holding_of t b) n ≤ buddies.held_slots (buddies.holding_of t b) * 2 ^ b.top

abbrev pub FiguresFit : Type 0
FiguresFit = (b : buddies.Content) (t : ℕ) → buddies.BuddyLaws b → t < length b.tenants → AreWithin b t
