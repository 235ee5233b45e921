-- A slot has a taken frame if and only if it is busy in the machine.
use Rattle.std.proofs.Common.{◌≡◌, ◌↔◌, ℕ, ◌+◌, ◌^◌, ◌<◌, Bool, true, false, ◌||◌, cond, ltb, List, [], ◌∷◌, ◌++◌, Some, None, sym, ap, ◌∙◌, subst, ⊎_elim, arith}
use Rattle.std.specs.Prelude.{flat_map, option_map}
use Rattle.std.specs.List.{list_any}
use Rattle.std.proofs.lemmas.Bool.{cases_lt, cases_eq, eq-eqb, ne_eqb, ltb-true, and_parts, or_right}
use Rattle.std.proofs.lemmas.Nat.{pow_pos}
use Rattle.model_core.specs.Blocks.{Block, block, slot_block, HasFrame, HasTaken}
use Rattle.model_core.specs.Layouts.{Layout}
use Rattle.model_core.specs.Machine.{Machine, slab_block, slab_blocks, taken_blocks, order_in}
use Rattle.model_core.specs.Operations.{overlaps, is_busy}
use Rattle.model_core.specs.Elements.{IsIn}
use Rattle.model_core.proofs.Lists.{some_any, in_append, map_in, flat_map_in}
use Rattle.model_core.proofs.BlocksApart.{overlap_from}
use Rattle.space_core.specs.Content as spaces
use Rattle.buddy_core.specs.Content as buddies
use Rattle.slab_tables.specs.Content.{Content}
use Rattle.machine_changes.specs.Shows.{machine_frame_of, has_slab, ShowsMachine}
use Rattle.machine_changes.specs.Steady.{IsSteady}
use Rattle.machine_changes.proofs.Lookups.{some_none, some_same, in_found}
use Rattle.machine_changes.proofs.PageReserved.{order_found}
use Rattle.machine_changes.proofs.TakenBlocks.{slab_kept, taken_meets}
use Rattle.machine_changes.specs.Slots.{BusyMeets}
use Rattle.machine_changes.proofs.NoSlabOnUnowned.{steady_of}

-- Blocks that share a frame

overlap_tells : (a b : Block) → overlaps a b ≡ true → (x : ℕ) × HasFrame a x × HasFrame b x
overlap_tells a b is =
    let parts = and_parts (ltb a.first (b.first + 2 ^ b.order)) (ltb b.first (a.first + 2 ^ a.order)) is in
    let left : a.first < b.first + 2 ^ b.order = ltb-true a.first (b.first + 2 ^ b.order) parts.0 in
    let right : b.first < a.first + 2 ^ a.order = ltb-true b.first (a.first + 2 ^ a.order) parts.1 in
    let some : 0 < 2 ^ a.order = pow_pos a.order in
    let some' : 0 < 2 ^ b.order = pow_pos b.order in
    ⊎_elim
    (λ less. (b.first, (omega arith, right), (omega arith, omega arith)))
    (λ le. (a.first, (omega arith, omega arith), (le, left)))
    (cases_lt a.first b.first)

-- if the block that a lookup finds passes the test, some block of the list passes the test
any_told : (p : Block → Bool) (bs : List Block) (f k : ℕ) → order_in bs f ≡ Some k → p (block f k) ≡ true → list_any p bs ≡ true
any_told p [] f k told passes = absurd (some_none (sym told))
any_told p (z ∷ bs) f k told passes = ⊎_elim here (elsewhere (λ rest. any_told p bs f k rest passes)) (cases_eq z.first f)
  where
    here : z.first ≡ f → list_any p (z ∷ bs) ≡ true
    here same =
        let order : z.order ≡ k = some_same (sym (ap (λ v. cond v (Some z.order) (order_in bs f)) (eq-eqb z.first f same)) ∙ told) in
        let is : z ≡ block f k = ap (λ n. block n z.order) same ∙ ap (block f) order in
        ap (λ v. v || list_any p bs) (ap p is ∙ passes)

    elsewhere : (order_in bs f ≡ Some k → list_any p bs ≡ true) → (z.first ≡ f → ⊥) → list_any p (z ∷ bs) ≡ true
    elsewhere more differ =
        or_right (p z) (list_any p bs) (more (sym (ap (λ v. cond v (Some z.order) (order_in bs f)) (ne_eqb z.first f differ)) ∙ told))

module _ (r : spaces.Content) (b : buddies.Content) (s : Content) (t : ℕ) (m : Machine) (st : IsSteady r b s t) (h : ShowsMachine r b s t m) where
  page_taken : (z : Block) → IsIn z m.blocks → buddies.taken_of (buddies.holding_of t b) z.first ≡ Some z.order
  page_taken z i =
      let told : order_in m.blocks z.first ≡ Some z.order =
      order_found m.blocks z.first ∙ ap (option_map (λ x. x.order)) (in_found (λ x. x.first) 0 z m.blocks h.blocks_rise i) in
      go (has_slab s (machine_frame_of s.top r.slots t z.first)) (sym (h.blocks z.first) ∙ told)
    where
      go : (has : Bool) → cond has None (buddies.taken_of (buddies.holding_of t b) z.first) ≡ Some z.order
          → buddies.taken_of (buddies.holding_of t b) z.first ≡ Some z.order
      go true e = absurd (some_none (sym e))
      go false e = e

  slab_taken : (z : Block) → IsIn z (flat_map slab_blocks m.caches) → buddies.taken_of (buddies.holding_of t b) z.first ≡ Some z.order
  slab_taken z i =
      let x = flat_map_in slab_blocks z m.caches i in
      let y = map_in (slab_block x.0) z x.0.slabs x.2 in
      let is = slab_kept r b s t m st h x.0 y.0 x.1 y.1 in
      subst (λ w. buddies.taken_of (buddies.holding_of t b) w.first ≡ Some w.order) y.2
      ((st.stands x.0.number y.0.first is.machine_frame is.kept is.slab).taken ∙ ap (λ (l : Layout). Some l.order) (sym is.layout))

  each_taken : (z : Block) → IsIn z (m.blocks ++ flat_map slab_blocks m.caches) → buddies.taken_of (buddies.holding_of t b) z.first ≡ Some z.order
  each_taken z i = ⊎_elim (page_taken z) (slab_taken z) (in_append z m.blocks (flat_map slab_blocks m.caches) i)

  busy_told : (top u : ℕ) → HasTaken (buddies.taken_of (buddies.holding_of t b)) (slot_block top u) → is_busy top m u ≡ true
  unfolding is_busy
  busy_told top u (y, inside, (f, k, taken, has)) =
      any_told (overlaps (slot_block top u)) (taken_blocks m) f k (taken_meets r b s t m st h f ∙ taken)
      (overlap_from (slot_block top u) (block f k) y inside has)

  busy_found : (top u : ℕ) → is_busy top m u ≡ true → HasTaken (buddies.taken_of (buddies.holding_of t b)) (slot_block top u)
  unfolding is_busy taken_blocks
  busy_found top u busy =
      let there = some_any (overlaps (slot_block top u)) (m.blocks ++ flat_map slab_blocks m.caches) busy in
      let shared = overlap_tells (slot_block top u) there.0 there.2 in
      (shared.0, shared.1, (there.0.first, there.0.order, each_taken there.0 there.1, shared.2))

  pub busy_is : (top u : ℕ) → HasTaken (buddies.taken_of (buddies.holding_of t b)) (slot_block top u) ↔ (is_busy top m u ≡ true)
  busy_is top u = (busy_told top u, busy_found top u)

pub busy_meets : BusyMeets
busy_meets r b s t u m h tenant shown =
    subst (λ top. HasTaken (buddies.taken_of (buddies.holding_of t b)) (slot_block top u) ↔ (is_busy s.top m u ≡ true)) (sym h.agree.order)
    (busy_is r b s t m (steady_of r b s h t tenant) shown s.top u)
