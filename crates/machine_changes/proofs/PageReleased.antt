-- Releasing a page block removes it from the machine, and the parts still agree.
use Rattle.std.proofs.Common.{◌≡◌, ◌≢◌, ℕ, Bool, true, false, cond, None, refl, sym, ap, ◌∙◌, get_or-set_other}
use Rattle.std.specs.Prelude.{Option, not, ◌==◌}
use Rattle.std.proofs.lemmas.Bool.{false≢true}
use Rattle.model_core.proofs.Lists.{filter_rises}
use Rattle.buddy_core.specs.Content as buddies
use Rattle.machine_changes.specs.Shows.{machine_frame_of, has_slab}
use Rattle.machine_changes.specs.Pages.{released, ReleasedShows, ReleasedAgrees}
use Rattle.machine_changes.proofs.PageLists.{order_less}
use Rattle.machine_changes.proofs.PageHoldings.{own_changed, set_none, agree_held, spares_held}

own_released : (t f : ℕ) (c : buddies.Content) → buddies.holding_of t (released t f c) ≡ buddies.without_block f (buddies.holding_of t c)
own_released t f c = own_changed t (buddies.without_block f) c refl

past_none : (has gone : Bool) (o : Option ℕ) → cond gone None (cond has None o) ≡ cond has None (cond gone None o)
past_none true true o = refl
past_none true false o = refl
past_none false true o = refl
past_none false false o = refl

pub released_shows : ReleasedShows
released_shows r b s t f m h = record {
  slots_rise = h.slots_rise;
  slots = h.slots;
  blocks_rise = filter_rises (λ x. x.first) (λ x. not (x.first == f)) 0 m.blocks h.blocks_rise;
  blocks = λ g.
      order_less f m.blocks g
      ∙ ap (cond (g == f) None) (h.blocks g)
      ∙ past_none (has_slab s (machine_frame_of s.top r.slots t g)) (g == f) (buddies.taken_of (buddies.holding_of t b) g)
      ∙ ap (cond (has_slab s (machine_frame_of s.top r.slots t g)) None) (sym (set_none (buddies.holding_of t b).taken f g))
      ∙ ap (λ x. cond (has_slab s (machine_frame_of s.top r.slots t g)) None (buddies.taken_of x g)) (sym (own_released t f b));
  caches_rise = h.caches_rise;
  caches = h.caches;
  slabs_rise = h.slabs_rise;
  slabs = h.slabs;
  mapped = h.mapped;
  in_slab = h.in_slab;
  bytes = h.bytes;
}

pub released_agrees : ReleasedAgrees
released_agrees r b s t f a page = (
  agree_held r b s t a (buddies.without_block f (buddies.holding_of t b)) (own_released t f b) refl stays,
  spares_held r b s t a (buddies.without_block f (buddies.holding_of t b)) (own_released t f b) refl stays,
)
  where
    stays : (g : ℕ) → has_slab s (machine_frame_of s.top r.slots t g) ≡ true → buddies.taken_of (buddies.holding_of t b) g ≢ None
        → buddies.taken_of (buddies.without_block f (buddies.holding_of t b)) g ≡ buddies.taken_of (buddies.holding_of t b) g
    stays g has taken =
        get_or-set_other (buddies.holding_of t b).taken f g None None
        (λ same. false≢true (sym page ∙ (ap (λ x. has_slab s (machine_frame_of s.top r.slots t x)) (sym same) ∙ has)))
