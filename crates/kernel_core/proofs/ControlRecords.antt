-- Every slab of small objects has its control record in the last 32 bytes of its frame in the kernel's memory.
use Rattle.std.proofs.Common.{◌≡◌, ℕ, ◌+◌, ◌*◌, ◌/◌, ◌%◌, ◌^◌, true, slice_index, sym, ap, ◌∙◌, subst}
use Rattle.model_core.specs.Layouts.{is_small}
use Rattle.machine_changes.specs.Records.{is_set}
use Rattle.machine_changes.proofs.SlabFacts.{under_is, superblock_of_machine_frame, frame_of_machine_frame, slab_of_machine}
use Rattle.machine_changes.specs.Pages.{record_at}
use Rattle.machine_changes.proofs.ControlRecords as pages
use Rattle.kernel_core.specs.Content.{KernelContent, PartsAgree, superblock_at, superblock_bytes}
use Rattle.kernel_core.specs.Records.{RecordsStand}

-- the tables of caches and the kernel have the same superblock order
same_order : (k : KernelContent) → PartsAgree k → k.slabs.top ≡ k.order
same_order k agree = sym agree.agree.order ∙ agree.top

-- if the tenant's frame f is machine frame n, which lies in superblock m, byte i of the frame's control record is byte
-- 4064 + i of this frame in the superblock
place_is : (k : KernelContent) (f m n i : ℕ) → n ≡ m * 2 ^ k.slabs.top + f % 2 ^ k.slabs.top
    → record_at k.space k.slabs n i ≡ slice_index (superblock_bytes k m) (4096 * (f % 2 ^ k.slabs.top) + 4064 + i)
place_is k f m n i is =
    ap (λ x. record_at k.space k.slabs x i) is
    ∙ ap (λ u. slice_index (superblock_bytes k u) (4096 * ((m * 2 ^ k.slabs.top + f % 2 ^ k.slabs.top) % 2 ^ k.slabs.top) + 4064 + i)) (superblock_of_machine_frame k.slabs.top m f)
    ∙ ap (λ u. slice_index (superblock_bytes k m) (4096 * u + 4064 + i)) (frame_of_machine_frame k.slabs.top m f)

pub records_stand : (k : KernelContent) → PartsAgree k → RecordsStand k
records_stand k agree t c f m x y shown ex ey small =
    let there = slab_of_machine k.space k.buddy k.slabs t m shown c f x y ex ey in
    let under = under_is k.slabs.top f there.machine_frame (superblock_at k t (f / 2 ^ k.slabs.top)) there.slab.under in
    record {
      superblock = under.0;
      under = ap (λ order. superblock_at k t (f / 2 ^ order)) (sym (same_order k agree)) ∙ under.1;
      bits = λ i j low less.
          ap (λ order. is_set (slice_index (superblock_bytes k under.0) (4096 * (f % 2 ^ order) + 4064 + i)) j) (sym (same_order k agree))
          ∙ ap (λ b. is_set b j) (sym (place_is k f under.0 there.machine_frame i under.2))
          ∙ pages.record_meets k.space k.buddy k.slabs t c f there.machine_frame there.kept m x y agree.agree shown there.slab
          (subst (λ l. is_small l.chunk ≡ true) there.layout small) ex ey i j low less;
    }
