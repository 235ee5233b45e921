-- The block that a lookup finds around a place, from the kind of the frame and the taken block around the frame.
use Rattle.std.proofs.Common.{◌≡◌, ℕ, ◌+◌, ◌/◌, ◌^◌, ◌<◌, ◌≤◌, ◌==◌, Bool, true, false, List, ◌++◌, Some, None, refl, sym, ap, ◌∙◌, subst, ⊎_elim, arith}
use Rattle.std.specs.Prelude.{find, flat_map}
use Rattle.std.proofs.lemmas.Bool.{false≢true, false_from_ne_true}
use Rattle.model_core.specs.declared.limits.TheConstants.{FRAME_BYTES}
use Rattle.model_core.specs.Blocks.{Block, block, slot_block, HasFrame, IsTaken}
use Rattle.model_core.specs.Machine.{Slab, Machine, holds, slot_of, in_block, slab_block, slab_blocks, taken_blocks, order_in}
use Rattle.model_core.specs.WellFormed.{IsWellFormed}
use Rattle.model_core.specs.Elements.{IsIn}
use Rattle.model_core.proofs.Lists.{in_append, in_left, in_right, in_map, in_flat_map, find_in, any_none, each_from}
use Rattle.model_core.proofs.BlocksApart.{in_block-true, in_block-from}
use Rattle.model_core.proofs.MemoryKept.{frame_slot}
use Rattle.model_core.proofs.TakenSteps.{order_in_is}
use Rattle.buddy_core.specs.Content as buddies
use Rattle.machine_changes.specs.Steady.{IsSteady}
use Rattle.machine_changes.proofs.TakenBlocks.{taken_is}
use Rattle.world_core.specs.Limits.{cache_limit}
use Rattle.kernel_core.specs.declared.frames.FrameKind.{FrameKind}
use Rattle.kernel_core.specs.Content.{KernelContent}
use Rattle.kernel_core.specs.Shows.{ShowsMachine}
use Rattle.kernel_core.specs.Stores.{IsKernel}
use Rattle.kernel_core.specs.Frames.{IsInSlab, IsFrame}
use Rattle.kernel_core.specs.Lookups.{BlockAround, BlockUse, UnheldSlot, FreeFrame, PageBlock, SlabBlock, Outcome, found_block, block_or_frame, answer_to}
use Rattle.kernel_core.proofs.CallEffects.{steady}
use Rattle.kernel_core.proofs.OneHolder.{count, count_append, count_in, one_taken, find_only, find_no, none_counted}
use Rattle.kernel_core.proofs.ShownWellFormed.{any_taken, shown_well_formed}

-- what a block with frames of this kind is
abbrev pub usage_of : FrameKind → BlockUse
usage_of FrameKind.NotHeld = UnheldSlot
usage_of FrameKind.Free = FreeFrame
usage_of FrameKind.Page = PageBlock
usage_of FrameKind.Full = SlabBlock
usage_of FrameKind.Partial = SlabBlock
usage_of FrameKind.Empty = SlabBlock

-- the block that is found around a frame of this kind that is in no taken block
abbrev pub untaken_block : FrameKind → ℕ → ℕ → Block
untaken_block FrameKind.NotHeld frame order = slot_block order (frame / 2 ^ order)
untaken_block FrameKind.Free frame order = block frame 0
untaken_block FrameKind.Page frame order = block frame 0
untaken_block FrameKind.Full frame order = block frame 0
untaken_block FrameKind.Partial frame order = block frame 0
untaken_block FrameKind.Empty frame order = block frame 0

module _ (k : KernelContent) (t : ℕ) (less : t < k.tenants) (is : IsKernel k) (m : Machine) (shown : ShowsMachine k t m) (place : ℕ) where
  abbrev frame : ℕ
  frame = place / FRAME_BYTES

  abbrev slabs : List Block
  slabs = flat_map slab_blocks m.caches

  abbrev found : Outcome
  found = answer_to k.order (BlockAround place) m

  formed : IsWellFormed cache_limit k.order m
  formed = shown_well_formed k t m is less shown

  st : IsSteady k.space k.buddy k.slabs t
  st = steady k.space k.buddy k.slabs t is.together (omega (arith, less, is.agree.holdings))

  both : count (in_block place) m.blocks + count (in_block place) slabs ≤ 1
  both =
      let one = one_taken k.order m formed place in
      let parts = count_append (in_block place) m.blocks slabs in
      omega arith

  page_found : (z : Block) → IsIn z m.blocks → in_block place z ≡ true → found ≡ found_block PageBlock z
  page_found z i here =
      let few = both in
      ap (λ o. block_or_frame o (find (in_block place) slabs) (holds m (slot_of k.order place)) k.order frame)
      (find_only (in_block place) z m.blocks (omega arith) i here)

  slab_found : (z : Block) → IsIn z slabs → in_block place z ≡ true → found ≡ found_block SlabBlock z
  slab_found z i here =
      let few = both in
      let some = count_in (in_block place) z slabs i here in
      ap (λ o. block_or_frame o (find (in_block place) slabs) (holds m (slot_of k.order place)) k.order frame)
      (find_no (in_block place) m.blocks (none_counted (in_block place) m.blocks (omega arith)))
      ∙ ap (λ o. block_or_frame None o (holds m (slot_of k.order place)) k.order frame)
      (find_only (in_block place) z slabs (omega arith) i here)

  not_both : (y z : Block) → IsIn y m.blocks → IsIn z slabs → in_block place y ≡ true → in_block place z ≡ true → ⊥
  not_both y z i j here there =
      let few = both in
      let one = count_in (in_block place) y m.blocks i here in
      let more = count_in (in_block place) z slabs j there in
      absurd (omega arith)

  -- if frames are of the kind of a slab, a slab of the machine has the frame
  slab_of_kind : (test : Slab → Bool) → IsInSlab m frame test → (z : Block) × IsIn z slabs × (in_block place z ≡ true)
  slab_of_kind test there =
      let x = there.cache in
      let y = there.slab in
      let x_in = find_in (λ c. c.number == there.number) x m.caches there.cached in
      let y_in = find_in (λ s. s.first == y.first) y x.slabs there.standing in
      (slab_block x y, in_flat_map slab_blocks (slab_block x y) x m.caches x_in.0 (in_map (slab_block x) y x.slabs y_in.0), in_block-from place (slab_block x y) there.here)

  page_of_kind : IsTaken (order_in m.blocks) frame → (z : Block) × IsIn z m.blocks × (in_block place z ≡ true)
  page_of_kind (g, j, e, here) = (block g j, order_in_is m.blocks g j e, in_block-from place (block g j) here)

  -- the block of order j at frame g is a taken block in the buddy system, and contains the frame
  module _ (g j : ℕ) (taken : buddies.taken_of (buddies.holding_of t k.buddy) g ≡ Some j) (here : HasFrame (block g j) frame) where
    listed : order_in (m.blocks ++ slabs) g ≡ Some j
    listed = taken_is k.space k.buddy k.slabs t m st shown g ∙ taken

    held : holds m (frame / 2 ^ k.order) ≡ true
    held =
        let placed = st.sound.placed g j taken in
        let top : k.slabs.top ≡ k.order = sym is.together.agree.order ∙ is.agree.top in
        subst (λ n. holds m (frame / 2 ^ n) ≡ true) top
        (ap (holds m) (frame_slot k.slabs.top frame (block g j) placed.0 here) ∙ shown.slots (g / 2 ^ k.slabs.top) ∙ placed.1)

    inside : in_block place (block g j) ≡ true
    inside = in_block-from place (block g j) here

    in_page : (kind : FrameKind) → IsFrame k.order m frame kind → IsIn (block g j) m.blocks → usage_of kind ≡ PageBlock
    unfolding taken_blocks
    in_page FrameKind.NotHeld kind_is i = absurd (false≢true (sym kind_is ∙ held))
    in_page FrameKind.Free kind_is i = absurd (kind_is.1 (g, j, listed, here))
    in_page FrameKind.Page kind_is i = refl
    in_page FrameKind.Full kind_is i = let z = slab_of_kind _ kind_is in absurd (not_both (block g j) z.0 i z.1 inside z.2)
    in_page FrameKind.Partial kind_is i = let z = slab_of_kind _ kind_is in absurd (not_both (block g j) z.0 i z.1 inside z.2)
    in_page FrameKind.Empty kind_is i = let z = slab_of_kind _ kind_is in absurd (not_both (block g j) z.0 i z.1 inside z.2)

    in_slab : (kind : FrameKind) → IsFrame k.order m frame kind → IsIn (block g j) slabs → usage_of kind ≡ SlabBlock
    unfolding taken_blocks
    in_slab FrameKind.NotHeld kind_is i = absurd (false≢true (sym kind_is ∙ held))
    in_slab FrameKind.Free kind_is i = absurd (kind_is.1 (g, j, listed, here))
    in_slab FrameKind.Page kind_is i = let z = page_of_kind kind_is in absurd (not_both z.0 (block g j) z.1 i z.2 inside)
    in_slab FrameKind.Full kind_is i = refl
    in_slab FrameKind.Partial kind_is i = refl
    in_slab FrameKind.Empty kind_is i = refl

    -- the lookup finds the taken block around the frame
    pub taken_found : (kind : FrameKind) → IsFrame k.order m frame kind → found ≡ found_block (usage_of kind) (block g j)
    taken_found kind kind_is =
        ⊎_elim
        (λ i. page_found (block g j) i inside ∙ ap (λ u. found_block u (block g j)) (sym (in_page kind kind_is i)))
        (λ i. slab_found (block g j) i inside ∙ ap (λ u. found_block u (block g j)) (sym (in_slab kind kind_is i)))
        (in_append (block g j) m.blocks slabs (order_in_is (m.blocks ++ slabs) g j listed))

  -- no taken block of the buddy system contains the frame
  module _ (none : IsTaken (buddies.taken_of (buddies.holding_of t k.buddy)) frame → ⊥) where
    no_block : (z : Block) → IsIn z (m.blocks ++ slabs) → in_block place z ≡ true → ⊥
    no_block z i here =
        none (z.first, z.order, any_taken k.space k.buddy k.slabs t m st is.together.slabs shown z i, in_block-true place z here)

    none_of : (bs : List Block) → ((z : Block) → IsIn z bs → IsIn z (m.blocks ++ slabs)) → find (in_block place) bs ≡ None
    none_of bs among =
        find_no (in_block place) bs (any_none (in_block place) bs (each_from (λ z. in_block place z ≡ false) bs (λ z i.
        false_from_ne_true (in_block place z) (no_block z (among z i)))))

    bare : found ≡ block_or_frame None None (holds m (slot_of k.order place)) k.order frame
    bare =
        ap (λ o. block_or_frame o (find (in_block place) slabs) (holds m (slot_of k.order place)) k.order frame)
        (none_of m.blocks (λ z i. in_left z m.blocks slabs i))
        ∙ ap (λ o. block_or_frame None o (holds m (slot_of k.order place)) k.order frame)
        (none_of slabs (λ z i. in_right z m.blocks slabs i))

    no_slab : (test : Slab → Bool) → IsInSlab m frame test → ⊥
    no_slab test there = let z = slab_of_kind test there in no_block z.0 (in_right z.0 m.blocks slabs z.1) z.2

    -- the lookup finds the free frame, or the slot if it is not held
    pub untaken_found : (kind : FrameKind) → IsFrame k.order m frame kind → found ≡ found_block (usage_of kind) (untaken_block kind frame k.order)
    untaken_found FrameKind.NotHeld kind_is = bare ∙ ap (λ v. block_or_frame None None v k.order frame) kind_is
    untaken_found FrameKind.Free kind_is = bare ∙ ap (λ v. block_or_frame None None v k.order frame) kind_is.0
    untaken_found FrameKind.Page kind_is = let z = page_of_kind kind_is in absurd (no_block z.0 (in_left z.0 m.blocks slabs z.1) z.2)
    untaken_found FrameKind.Full kind_is = absurd (no_slab _ kind_is)
    untaken_found FrameKind.Partial kind_is = absurd (no_slab _ kind_is)
    untaken_found FrameKind.Empty kind_is = absurd (no_slab _ kind_is)
