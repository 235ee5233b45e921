-- Bytes lent in place: what a caller finds there, and what the parts become when the borrow ends.
use Rattle.std.specs.Prelude.{◌⊎◌, ◌≤◌, if◌then◌else◌, nat_lt, ◌≡◌, ℕ, ◌+◌, ◌*◌, ◌/◌, ◌^◌, ◌<◌, ◌++◌, true, List, [], Some, length, take, drop, unwrap_or, slice_index}
use Rattle.std.specs.Borrow.{Lends, MutBor, Fml, Array, u8}
use Rattle.words_core.specs.declared.reply.Addressee.{Addressee}
use Rattle.words_core.specs.declared.reply.Body.{Body}
use Rattle.words_core.specs.declared.reply.Refusal.{Refusal}
use Rattle.words_core.specs.declared.reply.Reply.{Reply}
use Rattle.model_core.specs.declared.limits.TheConstants.{FRAME_BYTES}
use Rattle.model_core.specs.Blocks.{block, HasFrame}
use Rattle.model_core.specs.Machine.{Machine, order_in}
use Rattle.model_core.specs.Reach.{in_reach}
use Rattle.space_core.specs.Content.{Content}
use Rattle.space_core.specs.Windows.{home_of, window_of, with_window}
use Rattle.space_core.specs.contracts.Space as spaces
use Rattle.machine_changes.specs.Pages.{IsInReach, stored}
use Rattle.kernel_core.specs.Content.{KernelContent}
use Rattle.kernel_core.specs.Shows.{ShowsMachine}
use Rattle.kernel_core.specs.declared.lending.Span.{Span}
use Rattle.kernel_core.specs.contracts.kernel.Kernel.{the_row}

-- ws, brought to the length of xs: a longer ws is cut, and a shorter ws is extended by the last elements of xs
abbrev pub fit : List ℕ → List ℕ → List ℕ
fit xs ws = take (length xs) (ws ++ drop (length ws) xs)

-- the `len` bytes of tenant t that begin at the place, or no bytes if the range does not lie in one held slot
abbrev pub bytes_in : Content → ℕ → ℕ → ℕ → List ℕ
bytes_in r t place len = unwrap_or (window_of r t place len) []

abbrev pub LendsWithin : MutBor Content → ℕ → ℕ → ℕ → MutBor (List ℕ) → Fml
LendsWithin s t place len r = Lends spaces.the_row (Array u8 0) s r (λ ws. with_window s.now t place len (fit (bytes_in s.now t place len) ws))

-- the parts after the bytes ws are stored in the range of `len` bytes that begins at the place; `fit` first brings ws to this
-- length
abbrev pub with_left : KernelContent → ℕ → ℕ → ℕ → List ℕ → KernelContent
with_left k t place len ws = record k { space = stored t place (fit (bytes_in k.space t place len) ws) k.space }

-- when the borrow ends, the bytes that r then has are stored in the span, and everything else is as before
abbrev pub LendsSpan : MutBor KernelContent → Span → MutBor (List ℕ) → Fml
LendsSpan s span r = Lends the_row (Array u8 0) s r (with_left s.now span.tenant span.place span.bytes)

-- the span's bytes lie in the span's superblock, inside one live page block or one live object of the span's tenant
pub record IsLive (k : KernelContent) (span : Span) : Type 0 where
  pub tenant : span.tenant < k.tenants
  pub reach : IsInReach k.space k.buddy k.slabs span.tenant span.place span.bytes
  pub home : home_of k.space span.tenant span.place span.bytes ≡ Some span.superblock

-- the machine has these bytes, beginning at the place, all inside one live page block or one live object
pub record HasBytes (m : Machine) (place : ℕ) (bytes : List ℕ) : Type 0 where
  pub reach : in_reach m place (length bytes) ≡ true
  pub each : (i : ℕ) → i < length bytes → m.bytes (place + i) ≡ Some (slice_index bytes i)

-- These are the `len` bytes of tenant t that begin at the place, and the tenant's private machine has the same bytes there. If a
-- borrower leaves new bytes there, `len` in number, they are stored. If a borrower leaves the bytes as they were, nothing
-- changes.
pub record IsLent (k : KernelContent) (t place len : ℕ) (bytes : List ℕ) : Type 0 where
  pub count : length bytes ≡ len
  pub reach : IsInReach k.space k.buddy k.slabs t place len
  pub own : (m : Machine) → ShowsMachine k t m → HasBytes m place bytes
  pub left : (ws : List ℕ) → length ws ≡ len → with_left k t place len ws ≡ record k { space = stored t place ws k.space }
  pub kept : with_left k t place len bytes ≡ k

-- the machine has a live page block of `bytes` bytes that begins at place `begin` and contains the place
pub record HasBlock (m : Machine) (place begin bytes : ℕ) : Type 0 where
  pub first : ℕ
  pub order : ℕ
  pub live : order_in m.blocks first ≡ Some order
  pub around : HasFrame (block first order) (place / FRAME_BYTES)
  pub begins : begin ≡ FRAME_BYTES * first
  pub size : bytes ≡ FRAME_BYTES * 2 ^ order

-- the span has exactly the bytes of a page block of tenant t that begins at this frame and has 2 ^ order frames
pub record IsBlockSpan (span : Span) (t frame order : ℕ) : Type 0 where
  pub tenant : span.tenant ≡ t
  pub place : span.place ≡ FRAME_BYTES * frame
  pub bytes : span.bytes ≡ FRAME_BYTES * 2 ^ order

-- Nothing is lent. Either there is no such tenant and the refusal is `NoTenant`, or the tenant exists and `Why` holds for the
-- refusal.
abbrev pub IsNotLent : KernelContent → ℕ → (Refusal → Type 0) → Refusal → Type 0
IsNotLent k tenant Why refusal = ((k.tenants ≤ tenant) × (refusal ≡ Refusal.NoTenant)) ⊎ ((tenant < k.tenants) × Why refusal)

-- the reply with this body, addressed to the tenant, or to nobody if there is no such tenant
abbrev pub reply_for : KernelContent → ℕ → Body → Reply
reply_for k tenant body = record { addressee = if nat_lt tenant k.tenants then Addressee.Tenant tenant else Addressee.Nobody; body = body }
