-- A range lies inside a page block if and only if the taken block that has the range's first frame is not a slab and contains the
-- whole range.
use Rattle.std.proofs.Common.{◌≡◌, ℕ, ◌+◌, ◌*◌, ◌/◌, ◌^◌, ◌<◌, ◌≤◌, Bool, true, false, cond, Some, None, refl, sym, ap, ◌∙◌, subst, arith}
use Rattle.std.specs.Prelude.{nat_le}
use Rattle.std.specs.List.{list_any}
use Rattle.std.proofs.lemmas.Bool.{le-leb, leb-true, and_parts, and_from}
use Rattle.model_core.specs.Blocks.{block, HasFrame}
use Rattle.model_core.specs.Machine.{Machine, order_in}
use Rattle.model_core.specs.Reach.{within_block}
use Rattle.model_core.proofs.Lists.{some_any, any_in}
use Rattle.model_core.proofs.TakenSteps.{order_in_is}
use Rattle.space_core.specs.Content as spaces
use Rattle.buddy_core.specs.Content as buddies
use Rattle.slab_tables.specs.Content.{Content}
use Rattle.machine_changes.specs.Shows.{machine_frame_of, has_slab, ShowsMachine}
use Rattle.machine_changes.specs.Steady.{IsSteady}
use Rattle.machine_changes.proofs.Lookups.{some_none, some_same}
use Rattle.machine_changes.specs.Pages.{IsInPage, BlockDecides, NoBlockDecides}
use Rattle.machine_changes.proofs.PageLists.{order_told}

module _ (r : spaces.Content) (b : buddies.Content) (s : Content) (t place len : ℕ) (m : Machine) (h : ShowsMachine r b s t m) where
  -- if a page block of order k begins at frame f, no slab begins there, and a taken block of order k does
  page_taken : (f k : ℕ) (v : Bool) → has_slab s (machine_frame_of s.top r.slots t f) ≡ v → cond v None (buddies.taken_of (buddies.holding_of t b) f) ≡ Some k
      → (has_slab s (machine_frame_of s.top r.slots t f) ≡ false) × (buddies.taken_of (buddies.holding_of t b) f ≡ Some k)
  page_taken f k true is e = absurd (some_none (sym e))
  page_taken f k false is e = (is, e)

  pub page_tells : list_any (within_block place len) m.blocks ≡ true → IsInPage r b s t place len
  page_tells e =
      let z = some_any (within_block place len) m.blocks e in
      let told : order_in m.blocks z.0.first ≡ Some z.0.order = order_told z.0 m.blocks h.blocks_rise z.1 in
      let page = page_taken z.0.first z.0.order (has_slab s (machine_frame_of s.top r.slots t z.0.first)) refl (sym (h.blocks z.0.first) ∙ told) in
      let inside = and_parts (nat_le (4096 * z.0.first) place) (nat_le (place + len) (4096 * z.0.first + 4096 * 2 ^ z.0.order)) z.2 in
      let begins : 4096 * z.0.first ≤ place = leb-true (4096 * z.0.first) place inside.0 in
      let ends : place + len ≤ 4096 * z.0.first + 4096 * 2 ^ z.0.order = leb-true (place + len) (4096 * z.0.first + 4096 * 2 ^ z.0.order) inside.1 in
      record { first = z.0.first; order = z.0.order; taken = page.1; page = page.0; begins = begins; ends = omega arith }

  pub page_from : IsInPage r b s t place len → list_any (within_block place len) m.blocks ≡ true
  page_from p =
      let told : order_in m.blocks p.first ≡ Some p.order =
      h.blocks p.first ∙ (ap (λ v. cond v None (buddies.taken_of (buddies.holding_of t b) p.first)) p.page ∙ p.taken) in
      let begins = p.begins in
      let ends = p.ends in
      any_in (within_block place len) (block p.first p.order) m.blocks (order_in_is m.blocks p.first p.order told)
      (and_from (nat_le (4096 * p.first) place) (nat_le (place + len) (4096 * p.first + 4096 * 2 ^ p.order))
      (le-leb (4096 * p.first) place begins) (le-leb (place + len) (4096 * p.first + 4096 * 2 ^ p.order) (omega arith)))

-- if a range lies inside a block, the frame of each place of the range is a frame of the block
pub frame_in : (first z place len p : ℕ) → 4096 * first ≤ place → place + len ≤ 4096 * (first + z) → place ≤ p → p < place + len
    → (first ≤ p / 4096) × (p / 4096 < first + z)
frame_in first z place len p begins ends low high = (omega arith, omega arith)

begins_at : (first p : ℕ) → first ≤ p / 4096 → 4096 * first ≤ p
begins_at first p low = omega arith

module _ (r : spaces.Content) (b : buddies.Content) (s : Content) (t place len : ℕ) (some : 0 < len) where
  first_frame : (p : IsInPage r b s t place len) → HasFrame (block p.first p.order) (place / 4096)
  first_frame p = frame_in p.first (2 ^ p.order) place len place p.begins p.ends (omega arith) (omega arith)

  module _ (first order : ℕ) (st : IsSteady r b s t) (taken : buddies.taken_of (buddies.holding_of t b) first ≡ Some order)
      (has : HasFrame (block first order) (place / 4096)) where
    block_is : (p : IsInPage r b s t place len) → (p.first ≡ first) × (p.order ≡ order)
    block_is p =
        let same : p.first ≡ first = st.sound.apart p.first p.order first order (place / 4096) p.taken taken (first_frame p) has in
        (same, some_same (sym p.taken ∙ (ap (buddies.taken_of (buddies.holding_of t b)) same ∙ taken)))

    tells : IsInPage r b s t place len → (has_slab s (machine_frame_of s.top r.slots t first) ≡ false) × (place + len ≤ 4096 * (first + 2 ^ order))
    tells p =
        let is = block_is p in (
          subst (λ f. has_slab s (machine_frame_of s.top r.slots t f) ≡ false) is.0 p.page,
          subst (λ f. place + len ≤ 4096 * (f + 2 ^ order)) is.0 (subst (λ k. place + len ≤ 4096 * (p.first + 2 ^ k)) is.1 p.ends),
        )

    told : (has_slab s (machine_frame_of s.top r.slots t first) ≡ false) × (place + len ≤ 4096 * (first + 2 ^ order)) → IsInPage r b s t place len
    told is = record { first = first; order = order; taken = taken; page = is.0; begins = begins_at first place has.0; ends = is.1 }

pub block_decides : BlockDecides
block_decides r b s t place len first order st some taken has =
    (tells r b s t place len some first order st taken has, told r b s t place len some first order st taken has)

pub no_block_decides : NoBlockDecides
no_block_decides r b s t place len some none p = none (p.first, p.order, p.taken, first_frame r b s t place len some p)
