-- A block would fit if and only if a free block is large enough, or the block fits around an empty slab.
use Rattle.std.proofs.Common.{◌≡◌, ℕ, ◌*◌, ◌/◌, ◌%◌, ◌^◌, ◌<◌, ◌≤◌, Bool, true, false, refl, sym, ap, ◌∙◌, subst, ⊎_elim, arith}
use Rattle.std.specs.Prelude.{is_some, ◌↔◌}
use Rattle.std.proofs.Math.Nat.{pow-le-pow_right}
use Rattle.std.proofs.lemmas.Bool.{cases_lt, false≢true}
use Rattle.model_core.specs.Blocks.{block, HasFrame, IsAligned, around}
use Rattle.model_core.specs.Numbered.{number_at}
use Rattle.model_core.proofs.BlocksByNumber.{number_is, first_is, number_around, aligned_first, aligned_below, number_of_frame, frame_of_number, same_slot}
use Rattle.model_core.proofs.BlockHalves.{same_above}
use Rattle.model_core.proofs.FreeBlocks.{same_bool}
use Rattle.space_core.specs.Content as spaces
use Rattle.buddy_core.specs.Content as buddies
use Rattle.slab_tables.specs.Content.{Content, IsSlabs, layout_numbers}
use Rattle.model_core.specs.Machine.{Machine, choice}
use Rattle.model_core.specs.Slabs.{reaped}
use Rattle.machine_changes.specs.Shows.{Agree, ShowsMachine}
use Rattle.machine_changes.specs.Slots.{HoldTogether}
use Rattle.machine_changes.proofs.SteadyParts.{counted}
use Rattle.machine_changes.proofs.FittingBlocks.{fitting_meets}
use Rattle.machine_changes.specs.Steady.{IsSteady}
use Rattle.machine_changes.specs.Fitting.{IsIdle, WouldFit}
use Rattle.slab_core.specs.Fitting.{HasFreeBlock, IsUnusedBlock, WouldFitInSlabs}
use Rattle.slab_core.proofs.SlabOfObject.{around_frame}
use Rattle.slab_core.proofs.ReturnEmptySlabs.{idle_listed}
use Rattle.slab_core.proofs.ReserveBesideSlabs.{vacant_free}
use Rattle.slab_core.proofs.ReserveByNeed.{free_fits}
use Rattle.slab_core.proofs.IdleFrames.{idle_begins, listed_taken}

-- two tests that are true exactly if P holds have the same result
same_answer : {P : Type 0} (v u : Bool) → (v ≡ true) ↔ P → P ↔ (u ≡ true) → v ≡ u
same_answer v u by_v by_u = same_bool v u (λ e. by_u.0 (by_v.0 e)) (λ e. by_v.1 (by_u.1 e))

-- if a test decides whether a block would fit, its result says whether the machine finds a block after reaping
pub fits_answers : {r : spaces.Content} {b : buddies.Content} {s : Content} {t k : ℕ} → HoldTogether r b s → IsSteady r b s t → k ≤ s.top → {fits : Bool}
    → (fits ≡ true) ↔ WouldFit r b s t k → (m : Machine) → ShowsMachine r b s t m → fits ≡ is_some (choice s.top (reaped m) k)
fits_answers {r = r} {b = b} {s = s} {t = t} {k = k} parts st order {fits = fits} by m shows =
    same_answer fits (is_some (choice s.top (reaped m) k)) by (fitting_meets r b s t k m st (counted r b s parts.slabs parts.agree t) shows order)

-- a frame of a block is a frame of each larger block that begins at the same frame
wider : (f j k x : ℕ) → j ≤ k → HasFrame (block f j) x → HasFrame (block f k) x
wider f j k x le has =
    let two : 0 < 2 = omega arith in
    let size : 2 ^ j ≤ 2 ^ k = pow-le-pow_right two le in
    let low = has.0 in
    let high = has.1 in
    (omega arith, omega arith)

module _ {r : spaces.Content} {b : buddies.Content} {s : Content} {t k : ℕ} (w : IsSlabs s) (a : Agree r b s) (st : IsSteady r b s t) where
  module _ (fits : k ≤ s.top) where
    pub fits_by_free : (free : Bool) → free ≡ true → (free ≡ true) ↔ HasFreeBlock b t k → (free ≡ true) ↔ WouldFit r b s t k
    fits_by_free free is by = (λ e. free_fits r b s t k a (by.0 is), λ fit. is)

    slab_fits : WouldFitInSlabs r b s t k → WouldFit r b s t k
    slab_fits (c, less, h) =
        let taken = listed_taken r b s t c h.first h.machine_frame w a less h.empty in
        let slot : (around h.first k).first / 2 ^ s.top ≡ h.first / 2 ^ s.top =
        same_slot s.top k (around h.first k).first h.first fits (number_around h.first k) in
        record {
          first = (around h.first k).first;
          aligned = (fits, aligned_first (h.first / 2 ^ k) k);
          held = ap (λ u. is_some (spaces.superblock_at r.slots t u)) slot ∙ (st.sound.placed h.first taken.0 taken.1).1;
          idle = h.unused;
        }

  -- if a frame of the fitting block lies in an empty slab, a block of order k would fit around the slab
  module _ (fit : WouldFit r b s t k) (x : ℕ) (has : HasFrame (block fit.first k) x) (i : IsIdle r s t x) where
    aligned : i.first % 2 ^ (layout_numbers i.cache).order ≡ 0
    aligned = (st.sound.placed i.first (layout_numbers i.cache).order (st.stands i.number i.first i.machine_frame i.cache i.slab).taken).0.1

    -- if the slab's order is at least k, the block of order k at its first frame lies in the slab, so the block is unused
    in_slab : k ≤ (layout_numbers i.cache).order → IsUnusedBlock r b s t (around i.first k).first k
    in_slab le y there is =
        let here : (around i.first k).first ≡ i.first =
        ap (λ n. n * 2 ^ k) (sym (number_is k i.first)) ∙ first_is i.first k (aligned_below i.first k (layout_numbers i.cache).order le aligned) in
        record {
          number = i.number;
          first = i.first;
          machine_frame = i.machine_frame;
          cache = i.cache;
          slab = i.slab;
          empty = i.empty;
          within = wider i.first k (layout_numbers i.cache).order y le (subst (λ f. HasFrame (block f k) y) here there);
        }

    -- if the slab's order is at most k, the slab lies in the fitting block, so the aligned block around the slab is unused
    in_fit : (layout_numbers i.cache).order ≤ k → IsUnusedBlock r b s t (around i.first k).first k
    in_fit le =
        let same : number_at k i.first ≡ number_at k fit.first =
        sym (same_above x i.first (layout_numbers i.cache).order k le (number_of_frame i.first (layout_numbers i.cache).order x aligned i.within))
        ∙ number_of_frame fit.first k x fit.aligned.1 has in
        let here : fit.first ≡ (around i.first k).first =
        around_frame fit.first k i.first fit.aligned.1 (frame_of_number fit.first k i.first fit.aligned.1 same) in
        subst (λ f. IsUnusedBlock r b s t f k) here fit.idle

    fits_around : WouldFitInSlabs r b s t k
    fits_around =
        let e = idle_listed w a st.listed (λ n. true) i.first (idle_begins r s t x i) in (
          e.number,
          e.small,
          record {
            first = i.first;
            machine_frame = e.machine_frame;
            empty = e.placed;
            unused = ⊎_elim (λ less. in_fit (omega arith)) (λ le. in_slab le) (cases_lt (layout_numbers i.cache).order k);
          },
        )

  not_fits : (HasFreeBlock b t k → ⊥) → (WouldFitInSlabs r b s t k → ⊥) → WouldFit r b s t k → ⊥
  not_fits none_free none_around fit =
      let slot : is_some (buddies.superblock_at (buddies.holding_of t b) (fit.first / 2 ^ s.top)) ≡ true =
      ap is_some (a.slots t (fit.first / 2 ^ s.top)) ∙ fit.held in
      none_free (vacant_free b t fit.first k (record {
        aligned = subst (λ top. IsAligned top (block fit.first k)) (sym a.order) fit.aligned;
        slot = subst (λ top. buddies.is_held (buddies.holding_of t b) (fit.first / 2 ^ top) ≡ true) (sym a.order) slot;
        untaken = λ x has is. none_around (fits_around fit x has (fit.idle x has is));
      }))

  -- if no free block is large enough, a block of order k would fit if and only if one would fit around an empty slab
  pub fits_by_slabs : k ≤ s.top → (HasFreeBlock b t k → ⊥) → (slabs : Bool) → (slabs ≡ true) ↔ WouldFitInSlabs r b s t k
      → (slabs ≡ true) ↔ WouldFit r b s t k
  fits_by_slabs fits none true by = (λ e. slab_fits fits (by.0 refl), λ fit. refl)
  fits_by_slabs fits none false by = (
    λ e. absurd (false≢true e),
    λ fit. absurd (not_fits none (λ h. false≢true (by.1 h)) fit),
  )
