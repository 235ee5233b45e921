-- Stores to and loads from a live page block or a live object, in place and without a call.
use Rattle.std.specs.Prelude.{◌≡◌, ℕ, ◌<◌, List, Some, length, slice_get}
use Rattle.model_core.specs.Machine.{Machine}
use Rattle.words_core.specs.declared.reply.Addressee.{Addressee}
use Rattle.words_core.specs.declared.reply.Body.{Body}
use Rattle.words_core.specs.declared.event.Command.{Command}
use Rattle.words_core.specs.declared.event.Event.{Event}
use Rattle.world_core.specs.World.{World}
use Rattle.space_core.specs.Windows.{byte_at}
use Rattle.machine_changes.specs.Slots.{HoldTogether}
use Rattle.machine_changes.specs.Pages.{IsInReach, stored}
use Rattle.kernel_core.specs.Content.{KernelContent, PartsAgree}
use Rattle.kernel_core.specs.Shows.{Shows}
use Rattle.kernel_core.specs.Steps.{Steps}

-- the parts of k agree, and the invariants of each part hold; both are true of every kernel
pub record IsKernel (k : KernelContent) : Type 0 where
  pub agree : PartsAgree k
  pub together : HoldTogether k.space k.buddy k.slabs

-- Tenant t stores these bytes from the place on, all inside one live page block or one live object. Nothing else changes.
pub record Stores (k : KernelContent) (t place : ℕ) (bytes : List ℕ) (k' : KernelContent) : Type 0 where
  pub tenant : t < k.tenants
  pub reach : IsInReach k.space k.buddy k.slabs t place (length bytes)
  pub is : k' ≡ record k { space = stored t place bytes k.space }

-- tenant t loads this byte at a place inside a live page block or a live object
pub record Loads (k : KernelContent) (t place byte : ℕ) : Type 0 where
  pub tenant : t < k.tenants
  pub reach : IsInReach k.space k.buddy k.slabs t place 1
  pub is : byte_at k.space t place ≡ Some byte

-- a store of any number of bytes is the step of a `write` of these bytes, and `IsKernel` is true of the kernel after the store
abbrev pub StoresAreWrites : Type 0
StoresAreWrites = (k k' : KernelContent) (t place : ℕ) (bytes : List ℕ) → IsKernel k → Stores k t place bytes k' →
    IsKernel k'
    × Steps k (Event.Tenant t (Command.Write place (record { items = bytes }))) k'
    (record { addressee = Addressee.Tenant t; body = Body.Written (length bytes) })

-- a byte that tenant t loads at a place is the byte that the tenant's private machine has there
abbrev pub LoadsAreOwn : Type 0
LoadsAreOwn = (k : KernelContent) (w : World) (m : Machine) (t place byte : ℕ) → IsKernel k → Shows k w →
    slice_get w.machines t ≡ Some m → Loads k t place byte → m.bytes place ≡ Some byte
