-- What the `KernelCell` of a machine owns.
use Rattle.std.specs.Prelude.{Option, Some, None}
use base.Fml.{Fml, feq, fex}
use denote.RawPtr.{Ptr, null_ptr}
use Rattle.std.specs.declared.alloc.Global.{Global}
use Rattle.std.specs.contracts.impls.GlobalAllocator.TheImpl.{ghosts}
use Rattle.std_alloc.specs.Box.Ownership.{box_owns}
use Rattle.kernel_core.specs.Content.{KernelContent}
use Rattle.kernel_core.specs.contracts.kernel.Kernel.{the_row}

-- Without a machine, the `KernelCell` owns nothing and its pointer is null. With a machine, the `KernelCell` owns the kernel at the pointer
-- and the right to free the kernel's memory.
abbrev pub cell_owns : Ptr → Option KernelContent → Fml
cell_owns p None = feq Ptr p null_ptr
cell_owns p (Some k) = fex Global (λ heap. box_owns (ghosts.dealloc_token heap) the_row p k)
