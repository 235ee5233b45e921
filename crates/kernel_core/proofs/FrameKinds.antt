-- A frame has the same kind in the kernel's parts and in the machine that they show. A scan of a slot goes block by block.
use Rattle.std.proofs.Common.{◌≡◌, ℕ, ◌+◌, ◌*◌, ◌/◌, ◌%◌, ◌^◌, ◌<◌, ◌≤◌, min, mod-lt, lit<, Bool, List, slice_get, Some, None, sym, ap, ◌∙◌, subst, arith, ◌⊎◌, inl, inr, false, cond}
use Rattle.std.proofs.lemmas.Bool.{cases_order, cases_lt}
use Rattle.std.proofs.lemmas.Nat.{pow_pos, one_shl, shl_whole, div-mul-add, mod-mul-add}
use Rattle.std.proofs.Math.Nat.{div-lt_iff_lt-mul, mul-div_cancel}
use Rattle.model_core.specs.Blocks.{block, IsTaken, Taken, IsSound, HasFrame}
use Rattle.model_core.proofs.MemoryKept.{frame_slot}
use Rattle.machine_changes.proofs.Lookups.{some_same, some_none}
use Rattle.kernel_core.specs.Frames.{AreEndedBefore, IsInSlab}
use Rattle.kernel_core.specs.declared.frames.FrameKind.{FrameKind}
use Rattle.std.proofs.Math.Pow.{pow_mono}
use Rattle.model_core.specs.declared.limits.TheConstants.{WIDE_ORDER}
use Rattle.model_core.specs.Machine.{Machine, order_in, taken_in}
use Rattle.model_core.specs.Slabs.{slab_of}
use Rattle.model_core.specs.Layouts.{Layout}
use Rattle.klist_core.specs.Places.{place_at}
use Rattle.space_core.specs.Content as spaces
use Rattle.buddy_core.specs.Content as buddies
use Rattle.slab_tables.specs.Content.{Content, IsSlabs, layout_numbers, head_of, index_of_cache}
use Rattle.machine_changes.specs.Shows as showing
use Rattle.machine_changes.specs.Steady.{IsSteady}
use Rattle.machine_changes.specs.Laws.{is_kind}
use Rattle.machine_changes.proofs.SlabFacts.{cache_shown}
use Rattle.machine_changes.proofs.SteadyParts.{placed_as}
use Rattle.machine_changes.proofs.SlabsByKind.{from_list, head_is}
use Rattle.machine_changes.proofs.TakenBlocks.{taken_meets}
use Rattle.machine_changes.specs.Slots.{HoldTogether}
use Rattle.kernel_core.specs.Content.{KernelContent, content_of}
use Rattle.kernel_core.specs.Shows.{ShowsMachine}
use Rattle.kernel_core.proofs.CallEffects.{steady, opened, known}

-- if no taken block begins at frame x, and all taken blocks that begin before x end at or before x, frame x is not taken
pub free_here : (taken : Taken) (x : ℕ) → AreEndedBefore taken x → None ≡ taken x → IsTaken taken x → ⊥
free_here taken x ended none (f, k, is, here) = go (cases_order f x)
  where
    go : (f ≡ x) ⊎ ((f < x) ⊎ (x < f)) → ⊥
    go (inl e) = some_none (sym is ∙ ap taken e ∙ sym none)
    go (inr (inl below)) = absurd (omega (arith, ended f k is below, here.1))
    go (inr (inr above)) = absurd (omega (arith, here.0))

-- Suppose that all taken blocks that begin before frame x end at or before x. If a taken block begins at x, and frame e is the
-- first one after this block, then all taken blocks that begin before e end at or before e.
pub block_next : (top : ℕ) (held : ℕ → Bool) (taken : Taken) → IsSound top held taken → (x j : ℕ) → AreEndedBefore taken x → taken x ≡ Some j
    → AreEndedBefore taken (x + 2 ^ j)
block_next top held taken sound x j ended here f k is less = go (cases_order f x)
  where
    go : (f ≡ x) ⊎ ((f < x) ⊎ (x < f)) → f + 2 ^ k ≤ x + 2 ^ j
    go (inl e) =
        let same : k ≡ j = some_same (sym is ∙ ap taken e ∙ here) in
        subst (λ (n : ℕ). f + 2 ^ n ≤ x + 2 ^ j) (sym same) (omega (arith, e))
    go (inr (inl below)) = omega (arith, ended f k is below)
    go (inr (inr above)) =
        let some : 0 < 2 ^ k = pow_pos k in
        absurd (omega (arith, above, sound.apart x j f k f here is (omega arith, less) (omega arith, omega (arith, some))))

-- all taken blocks that begin before the first frame of a slot end at or before this frame
pub slot_begins : (top : ℕ) (held : ℕ → Bool) (taken : Taken) → IsSound top held taken → (slot : ℕ) → AreEndedBefore taken (slot * 2 ^ top)
slot_begins top held taken sound slot f k is less = go (cases_lt (slot * 2 ^ top) (f + 2 ^ k))
  where
    some : 0 < 2 ^ top
    some = pow_pos top

    before : f / 2 ^ top < slot
    before = (div-lt_iff_lt-mul some).1 less

    go : (slot * 2 ^ top < f + 2 ^ k) ⊎ (f + 2 ^ k ≤ slot * 2 ^ top) → f + 2 ^ k ≤ slot * 2 ^ top
    go (inr within) = within
    go (inl over) =
        let same : slot * 2 ^ top / 2 ^ top ≡ f / 2 ^ top = frame_slot top (slot * 2 ^ top) (block f k) (sound.placed f k is).0 (omega (arith, less), over) in
        absurd (omega (arith, before, same, mul-div_cancel slot some))

-- 1 shifted left by an order of at most WIDE_ORDER is 2 ^ order, which is between 1 and 1,024
pub small_shift : (order : ℕ) → order ≤ WIDE_ORDER → (1 * 2 ^ order % 18446744073709551616 ≡ 2 ^ order) × (0 < 2 ^ order) × (2 ^ order ≤ 1024)
small_shift order few = (one_shl order 64 (omega arith), pow_pos order, pow_mono few)

-- if a slot's number is below 65536 and the order is at most WIDE_ORDER, the number of the slot's first frame fits in 32 bits
pub slot_first : (slot order : ℕ) → slot < 65536 → order ≤ WIDE_ORDER → slot * 2 ^ order % 4294967296 ≡ slot * 2 ^ order
slot_first slot order small few = shl_whole slot 16 order 32 small (omega (arith, few))

-- the frame with index `at` in a slot lies in that slot and has that index
pub frame_of_slot : (slot order at : ℕ) → at < 2 ^ order → ((slot * 2 ^ order + at) / 2 ^ order ≡ slot) × ((slot * 2 ^ order + at) % 2 ^ order ≡ at)
frame_of_slot slot order at less = (div-mul-add slot (2 ^ order) at less, mod-mul-add slot (2 ^ order) at less)

-- Suppose that P holds for the first `at` cells of `old`, and for `kind` at the next `frames` indices. Suppose also that `new`
-- keeps the first `at` cells, and has `kind` in each of the next `frames` cells whose index is below `most`. Then P holds for all
-- cells of `new` whose index is below both `at + frames` and `most`.
pub runs_more : (P : ℕ → FrameKind → Type 0) (old new : List FrameKind) (at frames most : ℕ) (kind : FrameKind)
    → ((k : ℕ) (cell : FrameKind) → k < at → slice_get old k ≡ Some cell → P k cell)
    → ((k : ℕ) → k < at → slice_get new k ≡ slice_get old k)
    → ((k : ℕ) (cell : FrameKind) → at ≤ k → k < min (at + frames) most → slice_get new k ≡ Some cell → cell ≡ kind)
    → ((k : ℕ) → at ≤ k → k < at + frames → P k kind)
    → (k : ℕ) (cell : FrameKind) → k < most → k < at + frames → slice_get new k ≡ Some cell → P k cell
runs_more P old new at frames most kind before kept set here k cell within less is = go (cases_lt k at)
  where
    go : (k < at) ⊎ (at ≤ k) → P k cell
    go (inl below) = before k cell below (sym (kept k below) ∙ is)
    go (inr above) = subst (λ c. P k c) (sym (set k cell above (omega arith) is)) (here k above less)

-- the kind of a slab list is its number modulo 3, so it is below 3
pub kind_small : (list : ℕ) → list % 3 < 3
kind_small list = mod-lt list (lit< tt)

module _ (r : spaces.Content) (b : buddies.Content) (s : Content) (t : ℕ) (st : IsSteady r b s t) (m : Machine) (h : showing.ShowsMachine r b s t m) (f : ℕ) where
  -- a frame that is not taken in the buddy system is not taken in the machine
  pub none_taken : (IsTaken (buddies.taken_of (buddies.holding_of t b)) f → ⊥) → IsTaken (taken_in m) f → ⊥
  none_taken none (g, k, taken, here) = none (g, k, sym (taken_meets r b s t m st h g) ∙ taken, here)

  -- if a frame lies in a taken block at which no slab begins, it lies in a page block of the machine
  pub in_page : (first k : ℕ) → buddies.taken_of (buddies.holding_of t b) first ≡ Some k → HasFrame (block first k) f
      → showing.has_slab s (showing.machine_frame_of s.top r.slots t first) ≡ false → IsTaken (order_in m.blocks) f
  in_page first k taken here none =
      (first, k, h.blocks first ∙ ap (λ v. cond v None (buddies.taken_of (buddies.holding_of t b) first)) none ∙ taken, here)

  -- if a slab of list `head` begins at a taken block, each frame of the block lies in a slab of the machine, and this slab is of
  -- the list's kind
  pub in_slab : IsSlabs s → showing.Agree r b s → (first k : ℕ) → buddies.taken_of (buddies.holding_of t b) first ≡ Some k → HasFrame (block first k) f
      → (machine_frame head key kind : ℕ) → showing.machine_frame_of s.top r.slots t first ≡ Some machine_frame → place_at s.lists.places machine_frame ≡ Some (head, key)
      → kind < 3 → head % 3 ≡ kind → IsInSlab m f (is_kind kind)
  in_slab w a first k taken here machine_frame head key kind under place less is =
      let q = st.listed first machine_frame head key under place in
      let p = placed_as r s t q.0 first machine_frame q.1 q.2 in
      let same : p.head ≡ head = ap (λ (z : ℕ × ℕ). z.0) (some_same (sym p.place ∙ place)) in
      let x = cache_shown r b s t m h q.0 q.1 q.2.cached in
      let head_there : p.head ≡ head_of t q.0 kind = head_is p.head (index_of_cache t q.0) kind p.index (ap (λ z. z % 3) same ∙ is) in
      let y = from_list r b s w a t q.0 kind less m x.shown h x.cached first machine_frame
      (p.place ∙ ap (λ (z : ℕ). Some (z, first)) head_there) in
      let order : k ≡ (layout_numbers q.1).order = some_same (sym taken ∙ (st.stands q.0 first machine_frame q.1 q.2).taken) in
      record {
        number = q.0;
        cache = x.shown;
        slab = y.slab;
        cached = x.cached;
        standing = ap (slab_of x.shown) y.begins ∙ y.standing;
        here = subst (λ (l : Layout). HasFrame (block y.slab.first l.order) f) (sym x.layout)
            (subst (λ g. HasFrame (block g (layout_numbers q.1).order) f) (sym y.begins) (subst (λ (j : ℕ). HasFrame (block first j) f) order here));
        passes = y.passes;
      }

-- a slab of tenant t begins at frame `first` and is in list `list`
abbrev pub IsListed : KernelContent → ℕ → ℕ → ℕ → Type 0
IsListed k t first list = (machine_frame key : ℕ) × (showing.machine_frame_of k.slabs.top k.space.slots t first ≡ Some machine_frame) × (place_at k.slabs.lists.places machine_frame ≡ Some (list, key))

-- The facts `none_taken` and `in_slab` hold for a kernel k that is made from the parts r, b and s.
module _ (r : spaces.Content) (b : buddies.Content) (s : Content) (t : ℕ) (k : KernelContent) (is : content_of r b s ≡ k) (holds : HoldTogether k.space k.buddy k.slabs)
    (less : t < k.tenants) (m : Machine) (h : ShowsMachine k t m) (f : ℕ) where
  together : HoldTogether r b s
  together = opened r b s k is holds

  st : IsSteady r b s t
  st = steady r b s t together (known r b s k t is less)

  shown : showing.ShowsMachine r b s t m
  shown = subst (λ (x : KernelContent). ShowsMachine x t m) (sym is) h

  pub free_told : (IsTaken (buddies.taken_of (buddies.holding_of t b)) f → ⊥) → IsTaken (taken_in m) f → ⊥
  free_told = none_taken r b s t st m shown f

  pub slab_told : (first order : ℕ) → buddies.taken_of (buddies.holding_of t b) first ≡ Some order → HasFrame (block first order) f
      → (list kind : ℕ) → IsListed k t first list → kind < 3 → kind ≡ list % 3 → IsInSlab m f (is_kind kind)
  slab_told first order taken here list kind listed small same =
      let (machine_frame, key, under, place) = subst (λ (x : KernelContent). IsListed x t first list) (sym is) listed in
      in_slab r b s t st m shown f together.slabs together.agree first order taken here machine_frame list key kind under place small (sym same)
