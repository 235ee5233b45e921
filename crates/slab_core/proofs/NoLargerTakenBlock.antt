-- If a taken block begins at frame x, no taken block begins before the aligned block around x and reaches into it.
use Rattle.std.proofs.Common.{◌≡◌, ℕ, ◌+◌, ◌*◌, ◌/◌, ◌^◌, ◌<◌, ◌≤◌, Some, sym, ap, ◌∙◌, subst, ⊎_elim, arith}
use Rattle.std.specs.Prelude.{is_some}
use Rattle.std.proofs.Math.Nat.{div-mul-le_self}
use Rattle.std.proofs.lemmas.Nat.{pow_pos}
use Rattle.std.proofs.lemmas.Bool.{cases_lt}
use Rattle.model_core.specs.Blocks.{block, HasFrame, around}
use Rattle.model_core.specs.Numbered.{number_at}
use Rattle.model_core.proofs.BlocksByNumber.{number_of_frame, frame_of_number, number_around, aligned_first, same_slot}
use Rattle.model_core.proofs.BlockHalves.{same_above}
use Rattle.space_core.specs.Content as spaces
use Rattle.buddy_core.specs.Content as buddies
use Rattle.slab_tables.specs.Content.{Content}
use Rattle.machine_changes.specs.Shows.{Agree}
use Rattle.machine_changes.specs.Steady.{IsSteady}
use Rattle.slab_core.specs.Fitting.{IsBorder, IsWhole}

module _ (r : spaces.Content) (b : buddies.Content) (s : Content) (t : ℕ) (a : Agree r b s) (st : IsSteady r b s t) where
  module _ (x k : ℕ) where
    -- if a taken block begins before the aligned block of order k around frame x and reaches into it, the taken block contains x
    over_edge : (f i : ℕ) → buddies.taken_of (buddies.holding_of t b) f ≡ Some i → f < x / 2 ^ k * 2 ^ k → x / 2 ^ k * 2 ^ k < f + 2 ^ i → HasFrame (block f i) x
    over_edge f i is before over =
        let aligned = (st.sound.placed f i is).0.1 in
        let at_edge : number_at i (x / 2 ^ k * 2 ^ k) ≡ number_at i f = number_of_frame f i (x / 2 ^ k * 2 ^ k) aligned (omega arith, over) in
        ⊎_elim
        (λ small.
        let wide : number_at k f ≡ number_at k (x / 2 ^ k * 2 ^ k) = sym (same_above (x / 2 ^ k * 2 ^ k) f i k (omega arith) at_edge) in
        let from = (frame_of_number (x / 2 ^ k * 2 ^ k) k f (aligned_first (x / 2 ^ k) k) wide).0 in
        absurd (omega arith))
        (λ large.
        frame_of_number f i x aligned (same_above x (x / 2 ^ k * 2 ^ k) k i large (sym (number_around x k)) ∙ at_edge))
        (cases_lt i k)

    pub border_around : (j : ℕ) → buddies.taken_of (buddies.holding_of t b) x ≡ Some j → IsBorder b t (around x k).first
    border_around j taken f i is before = ⊎_elim
        (λ over.
        let size : 0 < 2 ^ j = pow_pos j in
        let same : f ≡ x = st.sound.apart f i x j x is taken (over_edge f i is before over) (omega arith, omega arith) in
        let low = div-mul-le_self x (2 ^ k) in
        absurd (omega arith))
        (λ ends. ends)
        (cases_lt (x / 2 ^ k * 2 ^ k) (f + 2 ^ i))

    pub whole_around : k ≤ s.top → (j : ℕ) → buddies.taken_of (buddies.holding_of t b) x ≡ Some j → IsWhole b t (around x k).first k
    whole_around fits j taken =
        let held = (st.sound.placed x j taken).1 in
        let slot : (x / 2 ^ k * 2 ^ k) / 2 ^ s.top ≡ x / 2 ^ s.top = same_slot s.top k (x / 2 ^ k * 2 ^ k) x fits (number_around x k) in
        let under : buddies.superblock_at (buddies.holding_of t b) ((x / 2 ^ k * 2 ^ k) / 2 ^ b.top) ≡ spaces.superblock_at r.slots t (x / 2 ^ s.top) =
        ap (λ top. buddies.superblock_at (buddies.holding_of t b) ((x / 2 ^ k * 2 ^ k) / 2 ^ top)) a.order
        ∙ ap (buddies.superblock_at (buddies.holding_of t b)) slot ∙ a.slots t (x / 2 ^ s.top) in
        record {
          aligned = (subst (λ top. k ≤ top) (sym a.order) fits, aligned_first (x / 2 ^ k) k);
          held = ap is_some under ∙ held;
          border = border_around j taken;
        }
