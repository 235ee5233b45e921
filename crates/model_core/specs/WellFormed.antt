-- What is true of every machine after any operations.
use Rattle.std.specs.Prelude.{◌≡◌, ℕ, ◌+◌, ◌-◌, ◌*◌, ◌/◌, ◌^◌, ◌<◌, ◌≤◌, Bool, true, not, List, [], ◌∷◌, map, flat_map, length, is_some, ⊤, ◌&&◌, ◌||◌}
use Rattle.std.specs.List.{list_any, AllByRecursion}
use Rattle.model_core.specs.declared.limits.TheConstants.{FRAME_BYTES}
use Rattle.model_core.specs.Blocks.{Block, HasFrame, IsAligned}
use Rattle.model_core.specs.Layouts.{is_size, is_alignment, is_pattern, colour_offset, in_object}
use Rattle.model_core.specs.Machine.{Slab, Cache, Machine, holds, slot_of, in_block, layout, slab_block, slab_blocks, taken_blocks}

-- each of the numbers is greater than the one before it, and none is below n
abbrev pub RisesFrom : ℕ → List ℕ → Type 0
RisesFrom n [] = ⊤
RisesFrom n (x ∷ xs) = (n ≤ x) × RisesFrom (x + 1) xs

-- the blocks have no frame in common
abbrev pub IsApart : Block → Block → Type 0
IsApart a b = (x : ℕ) → HasFrame a x → HasFrame b x → ⊥

-- no two of the blocks have a frame in common
abbrev pub AreApart : List Block → Type 0
AreApart [] = ⊤
AreApart (b ∷ bs) = AllByRecursion (IsApart b) bs × AreApart bs

-- the block is aligned and lies in a held slot; slots have 2 ^ order frames
abbrev pub IsPlaced : ℕ → Machine → Block → Type 0
IsPlaced order m b = IsAligned order b × (holds m (b.first / 2 ^ order) ≡ true)

-- the slab has as many objects as the cache's layout says, and one of the layout's colour offsets
pub record IsCut (c : Cache) (s : Slab) : Type 0 where
  pub count : length s.live ≡ (layout c).count
  pub colour : (made : ℕ) × (s.colour ≡ colour_offset c.align made (layout c))

-- The cache's size, alignment and pattern are allowed, and `made` is below the number of colours. The slabs are in order of their
-- first frames and are cut by the cache's layout.
pub record IsCache (c : Cache) : Type 0 where
  pub sized : is_size c.size ≡ true
  pub aligned : is_alignment c.align ≡ true
  pub patterned : is_pattern c.pattern ≡ true
  pub counted : c.made < (layout c).colours
  pub slabs_rise : RisesFrom 0 (map (λ s. s.first) c.slabs)
  pub slabs_cut : AllByRecursion (IsCut c) c.slabs

-- the place lies in a frame of a slab
abbrev pub in_slab : Machine → ℕ → Bool
in_slab m place = list_any (in_block place) (flat_map slab_blocks m.caches)

-- the place lies in an object of the slab, live or not
abbrev pub in_object_of : ℕ → Cache → Slab → Bool
in_object_of place c s = in_block place (slab_block c s) && in_object (layout c) c.size s.colour (place - FRAME_BYTES * s.first)

abbrev pub in_cache : ℕ → Cache → Bool
in_cache place c = list_any (in_object_of place c) c.slabs

-- the place lies in a held slot and outside all slabs, or it lies in an object
abbrev pub is_mapped : ℕ → Machine → ℕ → Bool
is_mapped order m place = (holds m (slot_of order place) && not (in_slab m place)) || list_any (in_cache place) m.caches

-- `limit` is the largest number of caches; slots have 2 ^ order frames
pub record IsWellFormed (limit order : ℕ) (m : Machine) : Type 0 where
  pub slots_rise : RisesFrom 0 m.slots
  pub blocks_rise : RisesFrom 0 (map (λ b. b.first) m.blocks)
  pub caches_rise : RisesFrom 0 (map (λ c. c.number) m.caches)
  pub numbered : AllByRecursion (λ c. c.number < limit) m.caches
  pub caches : AllByRecursion IsCache m.caches
  pub placed : AllByRecursion (IsPlaced order m) (taken_blocks m)
  pub apart : AreApart (taken_blocks m)
  -- exactly the mapped places have a byte
  pub mapped : (place : ℕ) → is_some (m.bytes place) ≡ is_mapped order m place
