-- A block would fit without the empty slabs if and only if the reaped machine has a free block that is large enough.
use Rattle.std.proofs.Common.{◌≡◌, ◌≢◌, ℕ, ◌/◌, ◌^◌, Bool, true, false, not, List, map, ◌++◌, Some, None, refl, sym, ap, ◌∙◌, subst, ◌⊎◌, inl, inr, ⊎_elim}
use Rattle.std.specs.Prelude.{Option, option_map, is_some, filter, flat_map, ◌==◌}
use Rattle.std.proofs.lemmas.Bool.{false≢true, not-true, eq-eqb, ne_eqb, cases_eq}
use Rattle.model_core.specs.Blocks.{Block, block, HasFrame}
use Rattle.model_core.specs.Choice.{choose}
use Rattle.model_core.specs.Machine.{Slab, Cache, Machine, holds, beyond, order_in, choice, layout, slab_block, slab_blocks, taken_blocks}
use Rattle.model_core.specs.Slabs.{is_empty, without_empty, reaped}
use Rattle.model_core.specs.Elements.{IsIn}
use Rattle.model_core.proofs.Lists.{find_in, filter_in, in_filter, in_map, map_in, flat_map_in, in_flat_map}
use Rattle.model_core.proofs.ChosenBlock.{held_below}
use Rattle.model_core.proofs.VacantBlocks.{IsVacant, some_choice, choice_vacant}
use Rattle.space_core.specs.Content as spaces
use Rattle.buddy_core.specs.Content as buddies
use Rattle.slab_tables.specs.declared.cache.Cache as own
use Rattle.slab_tables.specs.Content.{Content, kept_at, layout_numbers}
use Rattle.machine_changes.specs.Shows.{machine_frame_of, has_slab, IsSlab, ShowsMachine}
use Rattle.machine_changes.specs.Steady.{IsSteady}
use Rattle.machine_changes.specs.Fitting.{IsIdle, WouldFit}
use Rattle.machine_changes.specs.Laws.{AreObjectsCounted, FittingMeets}
use Rattle.machine_changes.proofs.Lookups.{some_none, some_same}
use Rattle.machine_changes.proofs.SlabFacts.{shown, has_it, one_slab, IsSlabThere, some_slab, slab_in}
use Rattle.machine_changes.proofs.ObjectFlags.{any_counts}
use Rattle.machine_changes.proofs.TakenBlocks.{IsOfSlab, slab_kept, order_of_slab, order_of_none, order_of_page}

is_mapped : (o : Option Block) → is_some (option_map (λ z. z.first) o) ≡ is_some o
is_mapped None = refl
is_mapped (Some z) = refl

module _ (r : spaces.Content) (b : buddies.Content) (s : Content) (t : ℕ) (m : Machine) (st : IsSteady r b s t) (counted : AreObjectsCounted r s t)
    (h : ShowsMachine r b s t m) where
  abbrev taken : ℕ → Option ℕ
  taken f = buddies.taken_of (buddies.holding_of t b) f

  -- the blocks of the slabs that remain after reaping
  abbrev left_list : List Block
  left_list = flat_map slab_blocks (map without_empty m.caches)

  abbrev after : ℕ → Option ℕ
  after f = order_in (m.blocks ++ left_list) f

  -- a slab of the machine is empty if and only if the stored number of its live objects is 0
  empty_tells : (c f n : ℕ) (cache : own.Cache) (q : IsSlab r s t c f n cache) → is_empty (shown r s t c cache q.cached f n) ≡ ((kept_at s.kept n).live == 0)
  empty_tells c f n cache q =
      any_counts (shown r s t c cache q.cached f n).live ∙ ap (λ k. k == 0) (sym (counted c f n cache q))

  -- z is the block of a slab with a live object
  record IsLeft (z : Block) : Type 0 where
    of : IsOfSlab r b s t m st h z
    busy : (kept_at s.kept of.machine_frame).live ≢ 0

  left_of : (x : Cache) (y : Slab) → IsIn x m.caches → IsIn y x.slabs → not (is_empty y) ≡ true → IsLeft (slab_block x y)
  left_of x y i j busy =
      let is = slab_kept r b s t m st h x y i j in
      let same : is_empty y ≡ ((kept_at s.kept is.machine_frame).live == 0) = ap is_empty is.is ∙ empty_tells x.number y.first is.machine_frame is.kept is.slab in
      record {
        of = record { number = x.number; machine_frame = is.machine_frame; cache = is.kept; slab = is.slab; order = ap (λ l. l.order) is.layout };
        busy = λ none. false≢true (sym (not-true (is_empty y) busy) ∙ same ∙ eq-eqb (kept_at s.kept is.machine_frame).live 0 none);
      }

  left_tells : (z : Block) → IsIn z left_list → IsLeft z
  left_tells z i =
      let rest = flat_map_in slab_blocks z (map without_empty m.caches) i in
      let x = map_in without_empty rest.0 m.caches rest.1 in
      let listed : IsIn z (slab_blocks (without_empty x.0)) = subst (λ c. IsIn z (slab_blocks c)) (sym x.2) rest.2 in
      let y = map_in (slab_block (without_empty x.0)) z (filter (λ y. not (is_empty y)) x.0.slabs) listed in
      let kept = filter_in (λ y. not (is_empty y)) y.0 x.0.slabs y.1 in
      subst IsLeft y.2 (left_of x.0 y.0 x.1 kept.0 kept.1)

  left_listed : (c f n : ℕ) (cache : own.Cache) → IsSlab r s t c f n cache → (kept_at s.kept n).live ≢ 0 → IsIn (block f (layout_numbers cache).order) left_list
  left_listed c f n cache q busy =
      let is = slab_in r b s t m h c f n cache q in
      let x = is.there.shown in
      let y : Slab = shown r s t c cache q.cached f n in
      let stays : not (is_empty y) ≡ true = ap not (empty_tells c f n cache q ∙ ne_eqb (kept_at s.kept n).live 0 busy) in
      let x_in = in_map without_empty x m.caches (find_in _ x m.caches is.there.cached).0 in
      let y_in = in_filter (λ y. not (is_empty y)) y x.slabs (find_in _ y x.slabs is.slab).0 stays in
      subst (λ l. IsIn (block f l.order) left_list) is.there.layout
      (in_flat_map slab_blocks (block f (layout x).order) (without_empty x) (map without_empty m.caches) x_in
      (in_map (slab_block (without_empty x)) y (filter (λ y. not (is_empty y)) x.slabs) y_in))

  -- an empty slab begins at the frame
  record IsEmptySlab (f : ℕ) : Type 0 where
    there : IsSlabThere r b s t st f
    empty : (kept_at s.kept there.machine_frame).live ≡ 0

  -- after reaping, no taken block begins at the first frame of an empty slab
  given_back : (c f n : ℕ) (cache : own.Cache) → IsSlab r s t c f n cache → (kept_at s.kept n).live ≡ 0 → after f ≡ None
  given_back c f n cache q empty =
      order_of_none r b s t m st h left_list (λ z i. (left_tells z i).of) f (has_it r s t c f n cache q) (λ z i same.
      let is = left_tells z i in
      let one = one_slab r s t c f n is.of.number z.first is.of.machine_frame cache is.of.cache q is.of.slab same in
      is.busy (ap (λ x. (kept_at s.kept x).live) one.machine_frame ∙ empty))

  -- an empty slab begins at the frame, or reaping does not change which taken block begins there
  sorted : (f : ℕ) → IsEmptySlab f ⊎ (after f ≡ taken f)
  sorted f = go (has_slab s (machine_frame_of s.top r.slots t f)) refl
    where
      at : IsSlabThere r b s t st f → IsEmptySlab f ⊎ (after f ≡ taken f)
      at is =
          ⊎_elim
          (λ none. inl (record { there = is; empty = none }))
          (λ busy. inr (order_of_slab r b s t m st h left_list (λ z i. (left_tells z i).of) is.number f is.machine_frame is.cache is.slab
          (left_listed is.number f is.machine_frame is.cache is.slab busy)))
          (cases_eq (kept_at s.kept is.machine_frame).live 0)

      go : (v : Bool) → has_slab s (machine_frame_of s.top r.slots t f) ≡ v → IsEmptySlab f ⊎ (after f ≡ taken f)
      go true has = at (some_slab r b s t st f has)
      go false none = inr (order_of_page r b s t m st h left_list (λ z i. (left_tells z i).of) f none)

  vacant : (k : ℕ) (fit : WouldFit r b s t k) → IsVacant s.top (holds m) after fit.first k
  vacant k fit = record {
    aligned = fit.aligned;
    slot = h.slots (fit.first / 2 ^ s.top) ∙ fit.held;
    untaken = λ x has is. by x has is.0 is.1 is.2 is.3 (sorted is.0);
  }
    where
      by : (x : ℕ) → HasFrame (block fit.first k) x → (g j : ℕ) → after g ≡ Some j → HasFrame (block g j) x → IsEmptySlab g ⊎ (after g ≡ taken g) → ⊥
      by x has g j e there (inl is) =
          some_none (sym e ∙ given_back is.there.number g is.there.machine_frame is.there.cache is.there.slab is.empty)
      by x has g j e there (inr same) =
          let idle = fit.idle x has (g, j, sym same ∙ e, there) in
          let first : g ≡ idle.first =
          st.sound.apart g j idle.first (layout_numbers idle.cache).order x (sym same ∙ e)
          (st.stands idle.number idle.first idle.machine_frame idle.cache idle.slab).taken there idle.within in
          some_none (sym e ∙ ap after first ∙ given_back idle.number idle.first idle.machine_frame idle.cache idle.slab idle.empty)

  vacant_fits : (f k : ℕ) → IsVacant s.top (holds m) after f k → WouldFit r b s t k
  vacant_fits f k v = record {
    first = f;
    aligned = v.aligned;
    held = sym (h.slots (f / 2 ^ s.top)) ∙ v.slot;
    idle = λ x has is. by x has is.0 is.1 is.2 is.3 (sorted is.0);
  }
    where
      by : (x : ℕ) → HasFrame (block f k) x → (g j : ℕ) → taken g ≡ Some j → HasFrame (block g j) x → IsEmptySlab g ⊎ (after g ≡ taken g) → IsIdle r s t x
      by x has g j e there (inl is) =
          let order : j ≡ (layout_numbers is.there.cache).order =
          some_same (sym e ∙ (st.stands is.there.number g is.there.machine_frame is.there.cache is.there.slab).taken) in
          record {
            number = is.there.number;
            first = g;
            machine_frame = is.there.machine_frame;
            cache = is.there.cache;
            slab = is.there.slab;
            empty = is.empty;
            within = subst (λ i. HasFrame (block g i) x) order there;
          }
      by x has g j e there (inr same) = absurd (v.untaken x has (g, j, same ∙ e, there))

pub fitting_meets : FittingMeets
unfolding choice reaped taken_blocks
fitting_meets r b s t k m st counted h fits = (
  λ fit. is_mapped (choose s.top (holds m) (after r b s t m st counted h) (beyond m.slots) k)
      ∙ some_choice s.top (holds m) (after r b s t m st counted h) (beyond m.slots) (held_below m.slots) (fit.first) k (vacant r b s t m st counted h k fit),
  λ some.
      let is = choice_vacant s.top (holds m) (after r b s t m st counted h) (beyond m.slots) (held_below m.slots) k
      (sym (is_mapped (choose s.top (holds m) (after r b s t m st counted h) (beyond m.slots) k)) ∙ some) in
      vacant_fits r b s t m st counted h is.0 k is.1,
)
