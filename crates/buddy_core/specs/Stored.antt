-- What is stored for each superblock and each tenant, and what the tenant holds according to this.
use Rattle.std.specs.Prelude.{◌≡◌, ℕ, ◌+◌, ◌-◌, ◌*◌, ◌/◌, ◌%◌, ◌^◌, ◌≤◌, Bool, Option, Some, None, is_some, List, [], length, map, replicate, slice_index_or}
use Rattle.std.specs.List.{range_with_len}
use Rattle.model_core.specs.declared.limits.TheConstants.{WIDE_ORDER}
use Rattle.model_core.specs.Blocks.{Taken}
use Rattle.buddy_core.specs.Content.{Holding, Content}

-- the tree of orders of a superblock of 2 ^ order frames, with a word for each node
pub record StoredTree : Type 0 where
  pub order : ℕ
  pub words : List ℕ

-- the order of a tree is at most WIDE_ORDER, and the tree has 2 ^ (order + 1) - 1 words, one for each node
pub record IsTree (order : ℕ) (words : List ℕ) : Type 0 where
  pub small : order ≤ WIDE_ORDER
  pub size : length words + 1 ≡ 2 ^ (order + 1)

-- a superblock: its tree, and for each of its frames the order of the taken block that begins there
pub record StoredSuperblock : Type 0 where
  pub tree : StoredTree
  pub orders : List (Option ℕ)

-- a tenant: the superblock in each slot, and the numbers of free and of taken blocks of each order
pub record StoredTenant : Type 0 where
  pub slots : List (Option ℕ)
  pub free : List ℕ
  pub taken : List ℕ

-- the tree of a superblock that has no available frame
abbrev pub bare_tree : ℕ → StoredTree
bare_tree order = record { order = order; words = replicate (2 ^ (order + 1) - 1) 0 }

-- what is stored for a superblock that is in no slot
abbrev pub bare_superblock : ℕ → StoredSuperblock
bare_superblock top = record { tree = bare_tree top; orders = replicate (2 ^ top) None }

-- a tenant that holds nothing
abbrev pub bare_tenant : ℕ → ℕ → StoredTenant
bare_tenant top superblocks = record { slots = replicate superblocks None; free = replicate (top + 1) 0; taken = replicate (top + 1) 0 }

abbrev pub superblock_of : ℕ → List StoredSuperblock → StoredSuperblock
superblock_of m superblocks = slice_index_or superblocks m (record { tree = record { order = 0; words = [] }; orders = [] })

abbrev pub stored_tenant : ℕ → List StoredTenant → StoredTenant
stored_tenant t tenants = slice_index_or tenants t (record { slots = []; free = []; taken = [] })

-- the superblock in slot u
abbrev pub superblock_at : StoredTenant → ℕ → Option ℕ
superblock_at tenant u = slice_index_or tenant.slots u None

abbrev pub held_by : StoredTenant → ℕ → Bool
held_by tenant u = is_some (superblock_at tenant u)

-- the entry for frame x of the superblock in a slot: the order of the taken block that begins there, or None
abbrev pub order_under : List StoredSuperblock → Option ℕ → ℕ → Option ℕ
order_under superblocks None x = None
order_under superblocks (Some m) x = slice_index_or (superblock_of m superblocks).orders x None

-- the order of the taken block that begins at frame f of the tenant
abbrev pub taken_by : ℕ → List StoredSuperblock → StoredTenant → Taken
taken_by top superblocks tenant f = order_under superblocks (superblock_at tenant (f / 2 ^ top)) (f % 2 ^ top)

abbrev pub holding_shown : ℕ → List StoredSuperblock → StoredTenant → Holding
holding_shown top superblocks tenant =
    record { slots = tenant.slots; taken = map (taken_by top superblocks tenant) (range_with_len 0 (length tenant.slots * 2 ^ top)) }

abbrev pub content_shown : ℕ → List StoredSuperblock → List StoredTenant → Content
content_shown top superblocks tenants =
    record { top = top; superblocks = length superblocks; tenants = map (holding_shown top superblocks) tenants }
