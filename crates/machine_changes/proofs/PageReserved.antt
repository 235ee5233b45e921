-- After a block is taken as a page block, the parts show the old machine with this page block added.
use Rattle.std.proofs.Common.{◌≡◌, ◌≢◌, ℕ, Bool, true, false, cond, eqb, List, [], ◌∷◌, Some, None, refl, sym, ap, ◌∙◌, arith}
use Rattle.std.specs.Prelude.{Option, option_map}
use Rattle.std.proofs.lemmas.Bool.{false≢true, ne_eqb, false_from_ne_true}
use Rattle.model_core.specs.Blocks.{Block, block, with_taken}
use Rattle.model_core.specs.Machine.{put_rising, order_in}
use Rattle.model_core.specs.Elements.{IsIn}
use Rattle.model_core.proofs.Lists.{each_from, put_rises}
use Rattle.space_core.specs.Content as spaces
use Rattle.buddy_core.specs.Content as buddies
use Rattle.slab_tables.specs.Content.{Content}
use Rattle.machine_changes.specs.Shows.{machine_frame_of, has_slab}
use Rattle.machine_changes.specs.Steady.{IsSteady}
use Rattle.machine_changes.specs.Laws.{ReservedShows}
use Rattle.machine_changes.proofs.Lookups.{eq_turned, some_none, at, in_found, found_put, through}
use Rattle.machine_changes.proofs.SlabFacts.{some_slab}

-- `order_in` returns the order of the block that a lookup by first frame finds, or None if there is no such block
pub order_found : (bs : List Block) (f : ℕ) → order_in bs f ≡ option_map (λ b. b.order) (at (λ b. b.first) f bs)
order_found [] f = refl
order_found (y ∷ ys) f = go (eqb y.first f) (order_found ys f)
  where
    go : (b : Bool) → order_in ys f ≡ option_map (λ z. z.order) (at (λ z. z.first) f ys)
        → cond b (Some y.order) (order_in ys f) ≡ option_map (λ z. z.order) (cond b (Some y) (at (λ z. z.first) f ys))
    go true more = refl
    go false more = more

none_found : (o : Option Block) → option_map (λ b. b.order) o ≡ None → o ≡ None
none_found None e = refl
none_found (Some b) e = absurd (some_none e)

-- after block z is inserted at a frame where no block begins, a lookup of this frame returns the order of z, and all other
-- lookups are unchanged
pub order_put : (z : Block) (bs : List Block) (g : ℕ) → order_in bs z.first ≡ None
    → order_in (put_rising (λ x. x.first) z bs) g ≡ cond (eqb z.first g) (Some z.order) (order_in bs g)
order_put z bs g absent =
    order_found (put_rising (λ x. x.first) z bs) g
    ∙ ap (option_map (λ x. x.order)) (found_put (λ x. x.first) z g bs (none_found (at (λ x. x.first) z.first bs) (sym (order_found bs z.first) ∙ absent)))
    ∙ through (option_map (λ x. x.order)) (eqb z.first g) (Some z) (at (λ x. x.first) g bs)
    ∙ ap (cond (eqb z.first g) (Some z.order)) (sym (order_found bs g))

-- a taken block begins at the first frame of each slab
pub slab_taken : (r : spaces.Content) (b : buddies.Content) (s : Content) (t f : ℕ) → IsSteady r b s t
    → has_slab s (machine_frame_of s.top r.slots t f) ≡ true → buddies.taken_of (buddies.holding_of t b) f ≢ None
slab_taken r b s t f st has none =
    let is = some_slab r b s t st f has in
    some_none (sym (st.stands is.number f is.machine_frame is.cache is.slab).taken ∙ none)

pub reserved_shows : ReservedShows
reserved_shows r b b' s t f k m st untaken taken h = record {
  slots_rise = h.slots_rise;
  slots = h.slots;
  blocks_rise = put_rises (λ x. x.first) 0 (block f k) m.blocks h.blocks_rise (omega arith) (each_from (λ y. y.first ≢ f) m.blocks new);
  blocks = λ g.
      order_put (block f k) m.blocks g absent
      ∙ go g (has_slab s (machine_frame_of s.top r.slots t g)) refl
      ∙ ap (cond (has_slab s (machine_frame_of s.top r.slots t g)) None) (sym (taken g));
  caches_rise = h.caches_rise;
  caches = h.caches;
  slabs_rise = h.slabs_rise;
  slabs = h.slabs;
  mapped = h.mapped;
  in_slab = h.in_slab;
  bytes = h.bytes;
}
  where
    no_slab : has_slab s (machine_frame_of s.top r.slots t f) ≡ false
    no_slab = false_from_ne_true (has_slab s (machine_frame_of s.top r.slots t f)) (λ has. slab_taken r b s t f st has untaken)

    absent : order_in m.blocks f ≡ None
    absent = h.blocks f ∙ ap (λ has. cond has None (buddies.taken_of (buddies.holding_of t b) f)) no_slab ∙ untaken

    new : (y : Block) → IsIn y m.blocks → y.first ≢ f
    new y i same =
        let found : order_in m.blocks y.first ≡ Some y.order =
        order_found m.blocks y.first ∙ ap (option_map (λ z. z.order)) (in_found (λ z. z.first) 0 y m.blocks h.blocks_rise i) in
        some_none (sym found ∙ ap (order_in m.blocks) same ∙ absent)

    go : (g : ℕ) (has : Bool) → has_slab s (machine_frame_of s.top r.slots t g) ≡ has
        → cond (eqb f g) (Some k) (order_in m.blocks g) ≡ cond has None (with_taken (buddies.taken_of (buddies.holding_of t b)) f k g)
    go g true has =
        ap (λ v. cond v (Some k) (order_in m.blocks g)) (ne_eqb f g (λ same. false≢true (sym no_slab ∙ ap (λ x. has_slab s (machine_frame_of s.top r.slots t x)) same ∙ has)))
        ∙ h.blocks g ∙ ap (λ v. cond v None (buddies.taken_of (buddies.holding_of t b) g)) has
    go g false has =
        ap (cond (eqb f g) (Some k)) (h.blocks g ∙ ap (λ v. cond v None (buddies.taken_of (buddies.holding_of t b) g)) has)
        ∙ ap (λ v. cond v (Some k) (buddies.taken_of (buddies.holding_of t b) g)) (eq_turned f g)
