-- The kernel of a machine, borrowed where it lies.
use Rattle.std.specs.Prelude.{Option, Some, true, refl}
use Rattle.std.specs.Borrow.{Lends, LendsIf, MutBor, Fml}
use Rattle.kernel_core.specs.Content.{KernelContent}
use Rattle.kernel_core.specs.contracts.kernel.Kernel as kernel
use Rattle.partmem_c.specs.declared.kernel_cell.KernelCell.{KernelCell}
use Rattle.partmem_c.specs.declared.machine_storage.MachineStorage.{MachineStorage}
use Rattle.partmem_c.specs.contracts.kernel_cell.KernelCell as cell
use Rattle.partmem_c.specs.contracts.machine_storage.MachineStorage as machine

-- the `KernelCell` s, but with this kernel in it
abbrev pub with_held : KernelCell → KernelContent → KernelCell
with_held s k = record s { held = Some k }

-- when the borrow r ends, the `KernelCell` has the kernel as it was last written through r
abbrev pub LendsHeld : MutBor KernelCell → MutBor KernelContent → Fml
LendsHeld s r = Lends cell.the_row kernel.the_row s r (with_held s.now)

-- the storage m of a machine, but with this kernel in it
abbrev pub with_kernel : MachineStorage → KernelContent → MachineStorage
with_kernel m k = record { is_booted = true; cell = with_held m.cell k; agrees = refl }

-- when the borrow r ends, the storage has the kernel as it was last written through r; if r is None, the storage is unchanged
abbrev pub LendsKernel : MutBor MachineStorage → Option (MutBor KernelContent) → Fml
LendsKernel m r = LendsIf machine.the_row kernel.the_row m r (with_kernel m.now) m.now
