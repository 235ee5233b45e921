-- The block around a place, from the kind of the frame and the taken block that the buddy system has there.
use Rattle.std.proofs.Common.{◌≡◌, ℕ, ◌*◌, ◌/◌, ◌^◌, ◌<◌, ◌≤◌, min, Option, Some, None, refl, sym, ap, ◌∙◌, arith}
use Rattle.std.specs.Prelude.{MatchOption, unwrap_or}
use Rattle.model_core.specs.declared.limits.TheConstants.{FRAME_BYTES, WIDE_ORDER}
use Rattle.model_core.specs.Blocks.{Block, block, HasFrame, IsTaken}
use Rattle.model_core.specs.Machine.{Machine}
use Rattle.buddy_core.specs.Content.{holding_of, taken_of}
use Rattle.kernel_core.specs.declared.frames.FrameKind.{FrameKind}
use Rattle.kernel_core.specs.Content.{KernelContent}
use Rattle.kernel_core.specs.Shows.{ShowsMachine}
use Rattle.kernel_core.specs.Stores.{IsKernel}
use Rattle.kernel_core.specs.Frames.{IsFrame}
use Rattle.kernel_core.specs.Lookups.{BlockUse, BlockAround, FoundBlock, found_block, answer_to}
use Rattle.kernel_core.proofs.BlockAnswers.{usage_of, untaken_block, taken_found, untaken_found}
use Rattle.partmem_c.specs.Calls.{block_bytes}
use Rattle.partmem_c.specs.Finding.{use_of, number_of_use, untaken, AreAround}

pub use_is : (kind : FrameKind) → use_of kind ≡ number_of_use (usage_of kind)
use_is FrameKind.NotHeld = refl
use_is FrameKind.Free = refl
use_is FrameKind.Page = refl
use_is FrameKind.Full = refl
use_is FrameKind.Partial = refl
use_is FrameKind.Empty = refl

pub bytes_is : (order : ℕ) → order ≤ WIDE_ORDER → block_bytes order ≡ FRAME_BYTES * 2 ^ order
bytes_is order few = let same : min order WIDE_ORDER ≡ order = omega arith in ap (λ j. FRAME_BYTES * 2 ^ j) same

untaken_is : (kind : FrameKind) (frame order : ℕ) → untaken kind frame order ≡ ((untaken_block kind frame order).first, (untaken_block kind frame order).order)
untaken_is FrameKind.NotHeld frame order = refl
untaken_is FrameKind.Free frame order = refl
untaken_is FrameKind.Page frame order = refl
untaken_is FrameKind.Full frame order = refl
untaken_is FrameKind.Partial frame order = refl
untaken_is FrameKind.Empty frame order = refl

same_numbers : (usage : BlockUse) (first order : ℕ) (b : Block) → first ≡ b.first → order ≡ b.order
    → FoundBlock usage (first * FRAME_BYTES) (FRAME_BYTES * 2 ^ order) ≡ found_block usage b
same_numbers usage first order b begins size =
    let place : first * FRAME_BYTES ≡ FRAME_BYTES * b.first = omega (arith, begins) in
    ap (λ n. FoundBlock usage n (FRAME_BYTES * 2 ^ order)) place ∙ ap (λ j. FoundBlock usage (FRAME_BYTES * b.first) (FRAME_BYTES * 2 ^ j)) size

pub around_found : (k : KernelContent) (t : ℕ) → t < k.tenants → IsKernel k → (place : ℕ) (kind : FrameKind) (first order : ℕ)
    → ((m : Machine) → ShowsMachine k t m → IsFrame k.order m (place / FRAME_BYTES) kind) → AreAround k t (place / FRAME_BYTES) kind (first, order)
    → (m : Machine) → ShowsMachine k t m → FoundBlock (usage_of kind) (first * FRAME_BYTES) (FRAME_BYTES * 2 ^ order) ≡ answer_to k.order (BlockAround place) m
around_found k t less is place kind first order told around m shown = go around.taken around.block around.is
  where
    go : (taken : Option (ℕ × ℕ)) → MatchOption taken (IsTaken (taken_of (holding_of t k.buddy)) (place / FRAME_BYTES) → ⊥)
        (λ b. (taken_of (holding_of t k.buddy) b.0 ≡ Some b.1) × HasFrame (block b.0 b.1) (place / FRAME_BYTES))
        → (first, order) ≡ unwrap_or taken (untaken kind (place / FRAME_BYTES) k.order)
        → FoundBlock (usage_of kind) (first * FRAME_BYTES) (FRAME_BYTES * 2 ^ order) ≡ answer_to k.order (BlockAround place) m
    go None none e =
        let same = e ∙ untaken_is kind (place / FRAME_BYTES) k.order in
        same_numbers (usage_of kind) first order (untaken_block kind (place / FRAME_BYTES) k.order) (ap (λ (p : ℕ × ℕ). p.0) same) (ap (λ (p : ℕ × ℕ). p.1) same)
        ∙ sym (untaken_found k t less is m shown place none kind (told m shown))
    go (Some b) there e =
        same_numbers (usage_of kind) first order (block b.0 b.1) (ap (λ (p : ℕ × ℕ). p.0) e) (ap (λ (p : ℕ × ℕ). p.1) e)
        ∙ sym (taken_found k t less is m shown place b.0 b.1 there.0 there.1 kind (told m shown))
