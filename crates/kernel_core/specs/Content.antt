-- The parts of a kernel: the memory with its pool, the buddy systems of all tenants, and the tables of their caches.
use Rattle.std.specs.Prelude.{◌≡◌, ℕ, ◌*◌, ◌^◌, ◌≤◌, Bool, true, false, Option, Some, None, List, length}
use Rattle.model_core.specs.declared.owner.Owner.{Owner}
use Rattle.model_core.specs.declared.limits.TheConstants.{FRAME_BYTES, WIDE_ORDER, WIDE_SUPERBLOCKS, WIDE_TENANTS}
use Rattle.space_core.specs.Content as spaces
use Rattle.buddy_core.specs.Content as buddies
use Rattle.slab_tables.specs.Content as tables
use Rattle.machine_changes.specs.Shows.{Agree}
use Rattle.machine_changes.specs.Keeps as keeping

pub record KernelContent : Type 0 where
  -- a superblock has 2 ^ order frames of 4096 bytes
  pub order : ℕ
  -- how many superblocks and how many tenants there are; both are numbered from 0
  pub superblocks : ℕ
  pub tenants : ℕ
  pub space : spaces.Content
  pub buddy : buddies.Content
  pub slabs : tables.Content

-- the kernel with this memory, these buddy systems and these tables of caches; the buddy systems give the sizes
abbrev pub content_of : spaces.Content → buddies.Content → tables.Content → KernelContent
content_of space buddy slabs = record {
  order = buddy.top;
  superblocks = buddy.superblocks;
  tenants = length buddy.tenants;
  space = space;
  buddy = buddy;
  slabs = slabs;
}

-- the superblock in slot `slot` of tenant t, or None if the tenant does not hold the slot
abbrev pub superblock_at : KernelContent → ℕ → ℕ → Option ℕ
superblock_at k t slot = spaces.superblock_at k.space.slots t slot

-- the bytes of superblock m
abbrev pub superblock_bytes : KernelContent → ℕ → List ℕ
superblock_bytes k m = spaces.bank k.space.banks m

-- The parts agree on their sizes, on the superblock in each slot of each tenant, and on each slab. A slab is a taken block of its
-- tenant, and the slab's control record shows its live objects. By `space`, no two superblocks are in the same slot of the same
-- tenant.
pub record PartsAgree (k : KernelContent) : Type 0 where
  pub space : spaces.IsSpace k.space
  pub order : k.order ≤ WIDE_ORDER
  pub few : k.superblocks ≤ WIDE_SUPERBLOCKS
  pub tenants : k.tenants ≤ WIDE_TENANTS
  pub top : k.buddy.top ≡ k.order
  pub sheets : k.buddy.superblocks ≡ k.superblocks
  pub holdings : length k.buddy.tenants ≡ k.tenants
  pub agree : Agree k.space k.buddy k.slabs

-- a kernel before its first event
unfoldable pub opening_content : ℕ → ℕ → ℕ → KernelContent
opening_content order superblocks tenants = record {
  order = order;
  superblocks = superblocks;
  tenants = tenants;
  space = spaces.empty_space (FRAME_BYTES * 2 ^ order) superblocks tenants;
  buddy = buddies.empty_buddy order superblocks tenants;
  slabs = tables.empty_tables order superblocks tenants;
}

-- the order, the number of superblocks and the number of tenants are unchanged
pub record SameSizes (old new : KernelContent) : Type 0 where
  pub order : new.order ≡ old.order
  pub superblocks : new.superblocks ≡ old.superblocks
  pub tenants : new.tenants ≡ old.tenants

-- The mark of a superblock after a call. The arguments are the owner before the call, the owner after it, and the mark before it.
-- The mark is set if the superblock lost its owner, cleared if it had no owner and got one, and otherwise unchanged.
abbrev pub mark_after : Option Owner → Option Owner → Bool → Bool
mark_after (Some owner) None was = true
mark_after None (Some owner) was = false
mark_after None None was = was
mark_after (Some owner) (Some next) was = was

-- each superblock's mark after a call is the one that `mark_after` gives
abbrev pub MarksFollow : spaces.Content → spaces.Content → Type 0
MarksFollow old new = (m : ℕ) → spaces.mark_at new.marks m
    ≡ mark_after (spaces.owner_at old.owners m) (spaces.owner_at new.owners m) (spaces.mark_at old.marks m)

-- A tenant keeps everything: the superblocks in its slots with all their bytes and control records, its taken blocks, its
-- caches and its slabs.
abbrev pub Keeps : KernelContent → KernelContent → ℕ → Type 0
Keeps old new t = keeping.Keeps old.space new.space old.buddy new.buddy old.slabs new.slabs t
