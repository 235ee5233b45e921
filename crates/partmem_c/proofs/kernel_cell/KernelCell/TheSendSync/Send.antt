-- A cell may pass to another thread: its kernel is the same in every thread, and any thread may free the kernel's block.
use mir.Raw.{raw}
use base.Shift.{Keyless}
use denote.Memory.{lone}
use denote.RawPtr.{Ptr}
use denote.Param.Send.{IsSend, owning_send, sendable}
use Rattle.std.specs.Prelude.{Option, Some, None}
use Rattle.std.proofs.Crossing.{frees}
use Rattle.std_alloc.proofs.SendSync.{lies}
use Rattle.kernel_core.specs.Content.{KernelContent}
use Rattle.kernel_core.specs.contracts.kernel.Kernel as kernel
use Rattle.kernel_core.proofs.kernel.Kernel.TheSendSync.{the_send}
use Rattle.partmem_c.specs.KernelCells.{cell_owns}
use Rattle.partmem_c.specs.contracts.kernel_cell.KernelCell.{the_row, the_type}

keyless : (p : Ptr) (held : Option KernelContent) → Keyless (cell_owns p held)
keyless p None = tt
keyless p (Some k) = λ heap. (lies kernel.the_row the_send p k, frees.frees heap (raw (lone kernel.the_row.mir)) p)

pub send : IsSend the_row
send = owning_send the_type (search sendable, tt) (λ s. keyless s.at s.held) (λ k x w. tt)
