-- The private machine that a kernel shows for a tenant, and the world that a kernel shows.
use Rattle.std.specs.Prelude.{◌≡◌, ℕ, length, Some, slice_get}
use Rattle.model_core.specs.Machine.{Machine}
use Rattle.machine_changes.specs.Shows as showing
use Rattle.world_core.specs.World.{World}
use Rattle.kernel_core.specs.Content.{KernelContent, PartsAgree}

-- the kernel shows m as the private machine of tenant t
abbrev pub ShowsMachine : KernelContent → ℕ → Machine → Type 0
ShowsMachine k t m = showing.ShowsMachine k.space k.buddy k.slabs t m

-- the parts agree and show this world
pub record Shows (k : KernelContent) (w : World) : Type 0 where
  pub agree : PartsAgree k
  pub owners : w.owners ≡ k.space.owners
  pub tenants : length w.machines ≡ k.tenants
  pub machines : (t : ℕ) (m : Machine) → slice_get w.machines t ≡ Some m → ShowsMachine k t m

-- a kernel shows at most one world
abbrev pub OneWorld : Type 0
OneWorld = (k : KernelContent) (w v : World) → Shows k w → Shows k v → w ≡ v
