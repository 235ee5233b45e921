-- A range is in reach in the machine if and only if it is in reach according to the parts.
use Rattle.std.proofs.Common.{◌≡◌, ℕ, ◌+◌, ◌<◌, ◌≤◌, Bool, true, false, eqb, Some, refl, sym, ap, ◌∙◌, inl, inr, ⊎_elim, length, arith}
use Rattle.std.specs.Prelude.{nat_lt, nat_le, ◌||◌}
use Rattle.std.specs.List.{list_any}
use Rattle.std.proofs.lemmas.Bool.{lt-ltb, ltb-true, le-leb, leb-true, and_parts, and_from, or_cases, or_left, or_right}
use Rattle.model_core.specs.Layouts.{object_place}
use Rattle.model_core.specs.Machine.{Slab, Cache, Machine, layout}
use Rattle.model_core.specs.Slabs.{cache_of, live_in, live_objects}
use Rattle.model_core.specs.Reach.{within_block, within_object, within_objects, in_reach}
use Rattle.model_core.specs.Elements.{IsIn}
use Rattle.model_core.proofs.Lists.{find_in, some_any, any_in, in_flat_map}
use Rattle.space_core.specs.Content as spaces
use Rattle.buddy_core.specs.Content as buddies
use Rattle.slab_tables.specs.Content.{Content, kept_at, layout_numbers}
use Rattle.machine_changes.specs.Shows.{is_live, ShowsMachine}
use Rattle.machine_changes.specs.Steady.{IsSteady}
use Rattle.machine_changes.specs.Changes.{Found, found}
use Rattle.machine_changes.proofs.Lookups.{some_same, in_found}
use Rattle.machine_changes.proofs.SlabFacts.{shown, cache_shown, slab_in}
use Rattle.machine_changes.proofs.ObjectFlags.{length_flags, flag_at}
use Rattle.machine_changes.proofs.LiveObjects.{object_of, live_object, object_kept}
use Rattle.machine_changes.specs.Objects.{HasRange}
use Rattle.machine_changes.specs.Pages.{IsInReach, ReachMeets}
use Rattle.machine_changes.proofs.PageReachByBlock.{page_tells, page_from}

module _ (r : spaces.Content) (b : buddies.Content) (s : Content) (t place len : ℕ) (m : Machine) (st : IsSteady r b s t) (h : ShowsMachine r b s t m) where
  -- a range inside a live object of the machine is inside a live object of the tables
  pub object_tells : 0 < len → list_any (within_objects place len) m.caches ≡ true → (o : Found) × HasRange r s t place len o
  object_tells some e =
      let x = some_any (within_objects place len) m.caches e in
      let w = some_any (within_object x.0 place len) (live_objects x.0) x.2 in
      let cached : cache_of m x.0.number ≡ Some x.0 = in_found (λ z. z.number) 0 x.0 m.caches h.caches_rise x.1 in
      let is = object_kept r b s t x.0.number st m h w.0.place x.0 w.0 cached w.1 refl in
      let range = and_parts (nat_le w.0.place place) (nat_le (place + len) (w.0.place + x.0.size)) w.2 in
      let there = cache_shown r b s t m h x.0.number is.kept is.object.slab.cached in
      let same : x.0.size ≡ is.kept.layout.size = ap (λ z. z.size) (some_same (sym cached ∙ there.cached)) ∙ ap (λ z. z.size) there.same in
      let high : place + len ≤ w.0.place + x.0.size = leb-true (place + len) (w.0.place + x.0.size) range.1 in (
        found is.kept w.0.slab.first is.machine_frame w.0.index,
        record {
          number = x.0.number;
          begin = w.0.place;
          object = is.object;
          some = some;
          from = leb-true w.0.place place range.0;
          to = omega arith;
        },
      )

  -- conversely, a range inside a live object of the tables is inside a live object of the machine
  pub object_from : (o : Found) → HasRange r s t place len o → list_any (within_objects place len) m.caches ≡ true
  object_from o g =
      let there = slab_in r b s t m h g.number o.first o.machine_frame o.cache g.object.slab in
      let x : Cache = there.there.shown in
      let y : Slab = shown r s t g.number o.cache g.object.slab.cached o.first o.machine_frame in
      let flag : ℕ → Bool = is_live r t o.cache (kept_at s.kept o.machine_frame) o.first in
      let long : length y.live ≡ (layout_numbers o.cache).count = length_flags 0 (layout_numbers o.cache).count flag in
      let less = g.object.index in
      let object : IsIn (object_of x y o.index) (live_objects x) =
      in_flat_map (live_in x) (object_of x y o.index) y x.slabs (find_in (λ z. eqb z.first o.first) y x.slabs there.slab).0
      (live_object x y o.index (omega arith) (flag_at (layout_numbers o.cache).count o.index flag false less ∙ g.object.live)) in
      let begin : object_place (layout x) o.first (kept_at s.kept o.machine_frame).colour o.index ≡ g.begin =
      ap (λ l. object_place l o.first (kept_at s.kept o.machine_frame).colour o.index) there.there.layout ∙ g.object.begins in
      let size : x.size ≡ o.cache.layout.size = ap (λ z. z.size) there.there.same in
      let from = g.from in
      let to = g.to in
      let within : within_object x place len (object_of x y o.index) ≡ true =
      and_from _ _ (le-leb (object_place (layout x) o.first (kept_at s.kept o.machine_frame).colour o.index) place (omega arith))
      (le-leb (place + len) (object_place (layout x) o.first (kept_at s.kept o.machine_frame).colour o.index + x.size) (omega arith)) in
      any_in (within_objects place len) x m.caches (find_in (λ z. eqb z.number g.number) x m.caches there.there.cached).0
      (any_in (within_object x place len) (object_of x y o.index) (live_objects x) object within)

  reach_tells : in_reach m place len ≡ true → IsInReach r b s t place len
  unfolding in_reach
  reach_tells e =
      let parts = and_parts (nat_lt 0 len) (list_any (within_block place len) m.blocks || list_any (within_objects place len) m.caches) e in
      let some : 0 < len = ltb-true 0 len parts.0 in
      record {
        some = some;
        inside = ⊎_elim (λ page. inl (page_tells r b s t place len m h page)) (λ object. inr (object_tells some object))
            (or_cases (list_any (within_block place len) m.blocks) (list_any (within_objects place len) m.caches) parts.1);
      }

  reach_from : IsInReach r b s t place len → in_reach m place len ≡ true
  unfolding in_reach
  reach_from is =
      and_from (nat_lt 0 len) (list_any (within_block place len) m.blocks || list_any (within_objects place len) m.caches) (lt-ltb 0 len is.some)
      (⊎_elim
      (λ page. or_left (list_any (within_block place len) m.blocks) (list_any (within_objects place len) m.caches) (page_from r b s t place len m h page))
      (λ object. or_right (list_any (within_block place len) m.blocks) (list_any (within_objects place len) m.caches) (object_from object.0 object.1))
      is.inside)

pub reach_meets : ReachMeets
reach_meets r b s t place len m st h = (reach_tells r b s t place len m st h, reach_from r b s t place len m st h)
