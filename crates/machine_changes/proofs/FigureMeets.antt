-- The figures of a tenant's machine equal the tenant's figures in the buddy system.
use Rattle.std.proofs.Common.{◌≡◌, ℕ, ◌+◌, ◌*◌, ◌^◌, ◌<◌, false, cond, eqb, List, [], ◌∷◌, map, length, get_or, Option, Some, None, refl, sym, ap, ◌∙◌, subst, inl, inr, arith}
use Rattle.std.specs.Prelude.{is_some}
use Rattle.std.specs.List.{list_any, sum_by, count_by}
use Rattle.std.proofs.lemmas.Bool.{eq-eqb, ne_eqb}
use Rattle.std.proofs.lemmas.List.{map-id}
use Rattle.std.proofs.lemmas.List.Sums.{sum_by-cons, length-filter}
use Rattle.model_core.specs.Blocks.{Block}
use Rattle.model_core.specs.Choice.{free_blocks}
use Rattle.model_core.specs.Machine.{Machine, holds, beyond, taken_blocks, order_in, taken_in}
use Rattle.model_core.specs.WellFormed.{RisesFrom}
use Rattle.model_core.specs.Reports.{frames_taken, free_count, taken_count}
use Rattle.model_core.proofs.ChosenBlock.{held_below}
use Rattle.model_core.proofs.CountBelow.{bit, blocks_either}
use Rattle.model_core.specs.Elements.{IsIn}
use Rattle.model_core.proofs.Lists.{any_in, any_none, each_from}
use Rattle.space_core.specs.Content as spaces
use Rattle.buddy_core.specs.Content as buddies
use Rattle.slab_tables.specs.Content.{Content}
use Rattle.machine_changes.specs.Shows.{ShowsMachine, Agree}
use Rattle.machine_changes.specs.Steady.{IsSteady}
use Rattle.machine_changes.proofs.TakenBlocks.{order_none, taken_meets}
use Rattle.machine_changes.specs.Figures.{FiguresMeet, frames_below}
use Rattle.machine_changes.proofs.FigureSums.{AreKeyed, rising_keyed, sum_tabled}
use Rattle.machine_changes.proofs.FigureOrders.{size, sizes_by_order, frames_sum}
use Rattle.machine_changes.proofs.FigureLists.{first, blocks_keyed}
use Rattle.machine_changes.proofs.FigureBounds.{held_within, orders_below}

-- if all blocks of a list have different first frames, a lookup of the first frame of block z returns the order of z
keyed_told : (bs : List Block) (z : Block) → AreKeyed first bs → IsIn z bs → order_in bs z.first ≡ Some z.order
keyed_told [] z k i = elim i [ ]
keyed_told (y ∷ bs) z (one, k) (inl same) =
    subst (λ w. order_in (y ∷ bs) w.first ≡ Some w.order) same (ap (λ v. cond v (Some y.order) (order_in bs y.first)) (eq-eqb y.first y.first refl))
keyed_told (y ∷ bs) z (one, k) (inr i) =
    ap (λ v. cond v (Some y.order) (order_in bs z.first)) (ne_eqb y.first z.first (λ same. one z i (sym same))) ∙ keyed_told bs z k i

ones : {X : Type 0} (xs : List X) → sum_by (λ x. 1) xs ≡ length xs
ones [] = refl
ones (x ∷ xs) = let rest = ones xs in omega (arith, sum_by-cons (λ z. 1) x xs)

module _ (bs : List Block) (keyed : AreKeyed first bs) (table : List (Option ℕ)) (told : (f : ℕ) → order_in bs f ≡ get_or table f None) where
  -- if the table has the orders of the blocks, and `None` has weight 0, the weights of the table's entries and of the blocks have
  -- the same sum
  blocks_tabled : (weight : Option ℕ → ℕ) → weight None ≡ 0 → sum_by weight table ≡ sum_by (λ z. weight (Some z.order)) bs
  blocks_tabled weight light = sum_tabled None weight light first (λ z. weight (Some z.order)) bs table keyed (record {
    there = λ z i. ap weight (sym (told z.first) ∙ keyed_told bs z keyed i);
    others = λ f off. ap weight (sym (told f) ∙ order_none bs f off) ∙ light;
  })

-- if a list has exactly the slots at which the table has an entry, each slot once, its length is the number of these entries
slots_tabled : (slots : List ℕ) (table : List (Option ℕ)) → AreKeyed (λ u. u) slots
    → ((u : ℕ) → list_any (λ v. eqb v u) slots ≡ is_some (get_or table u None)) → length slots ≡ count_by is_some table
slots_tabled slots table keyed same =
    sym (sum_tabled None weight refl (λ (u : ℕ). u) (λ (u : ℕ). 1) slots table keyed (record {
      there = λ u i. ap bit (sym (same u) ∙ any_in (λ v. eqb v u) u slots i (eq-eqb u u refl));
      others = λ u off. ap bit (sym (same u) ∙ any_none (λ v. eqb v u) slots (each_from (λ v. eqb v u ≡ false) slots (λ v i. ne_eqb v u (off v i))));
    }) ∙ ones slots)
  where
    weight : Option ℕ → ℕ
    weight o = bit (is_some o)

module _ (r : spaces.Content) (b : buddies.Content) (s : Content) (t : ℕ) (m : Machine) (a : Agree r b s) (st : IsSteady r b s t)
    (w : buddies.BuddyLaws b) (tenant : t < length b.tenants) (h : ShowsMachine r b s t m) where
  holds_it : (u : ℕ) → holds m u ≡ buddies.is_held (buddies.holding_of t b) u
  holds_it u = h.slots u ∙ sym (ap is_some (a.slots t u))

  slots_counted : length m.slots ≡ buddies.held_slots (buddies.holding_of t b)
  slots_counted = slots_tabled m.slots (buddies.holding_of t b).slots (rising_keyed (λ u. u) 0 m.slots slots_rise) holds_it
    where
      slots_rise : RisesFrom 0 (map (λ u. u) m.slots)
      slots_rise = subst (RisesFrom 0) (sym (map-id m.slots)) h.slots_rise

  free_counted : (k : ℕ) → free_count b.top m k ≡ buddies.free_block_count b.top b.superblocks k (buddies.holding_of t b)
  free_counted k =
      ap (λ held. free_blocks b.top held (taken_in m) (beyond m.slots) k) (λ i u. holds_it u i)
      ∙ ap (λ taken. free_blocks b.top (buddies.is_held (buddies.holding_of t b)) taken (beyond m.slots) k) (λ i f. taken_meets r b s t m st h f i)
      ∙ blocks_either b.top (buddies.is_held (buddies.holding_of t b)) (buddies.taken_of (buddies.holding_of t b)) k (beyond m.slots) b.superblocks
      (λ u held. held_below m.slots u (holds_it u ∙ held))
      (held_within b.top b.superblocks (buddies.holding_of t b) (w.sizes.slots t tenant) (w.sizes.taken t tenant) (w.sound t tenant))

  tabled : (weight : Option ℕ → ℕ) → weight None ≡ 0
      → sum_by weight (buddies.holding_of t b).taken ≡ sum_by (λ z. weight (Some z.order)) (taken_blocks m)
  tabled = blocks_tabled (taken_blocks m) (blocks_keyed r b s t m st h) (buddies.holding_of t b).taken (taken_meets r b s t m st h)

  taken_counted : (k : ℕ) → taken_count m k ≡ buddies.taken_block_count k (buddies.holding_of t b)
  taken_counted k = length-filter (λ z. eqb z.order k) (taken_blocks m) ∙ sym (tabled (λ o. bit (buddies.has_order k o)) refl)

  frames_counted : frames_taken m ≡ frames_below (buddies.holding_of t b) (b.top + 1)
  frames_counted =
      frames_sum (taken_blocks m) ∙ sym (tabled size refl)
      ∙ sizes_by_order (buddies.holding_of t b).taken (b.top + 1)
      (orders_below b.top b.superblocks (buddies.holding_of t b) (w.sizes.slots t tenant) (w.sizes.taken t tenant) (w.sound t tenant))

pub figures_meet : FiguresMeet
figures_meet r b s t m a st w tenant h = record {
  held = ap (λ n. n * 2 ^ b.top) (slots_counted r b s t m a st w tenant h);
  free = free_counted r b s t m a st w tenant h;
  taken = taken_counted r b s t m a st w tenant h;
  frames = frames_counted r b s t m a st w tenant h;
}
