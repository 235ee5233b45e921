use Rattle.std.proofs.Common.{◌≡◌, ◌*◌, ◌%◌, ◌^◌, ◌≤◌, Some, sym, ap, ◌∙◌, subst, arith}
use Rattle.std.specs.Prelude.{option_map}
use Rattle.std.proofs.lemmas.List.Sums.{count_by-le-length}
use Rattle.model_core.specs.declared.limits.TheConstants.{WIDE_FRAMES}
use Rattle.model_core.specs.Layouts.{IsLayout}
use Rattle.klist_core.specs.Places.{is_in}
use Rattle.klist_core.proofs.KeyNodePairs.{lists_count_places}
use Rattle.slab_tables.specs.Content.{head_of, cache_at, layout_numbers}
use Rattle.machine_changes.specs.Shows.{ShowsMachine, Agree}
use Rattle.machine_changes.specs.Steady.{IsSteady}
use Rattle.slab_core.proofs.SlabFacts.{in_tables}
use Rattle.slab_core.proofs.Slabs.empty_frames_of.Goals as goal
use Rattle.slab_core.proofs.EmptySlabFrames.{frames_few, frames_counted}

cached : (c : goal.After-order) → cache_at c.self.inside.tables c.args.t c.args.c ≡ Some c.in-Some.cache.now
cached c = sym c.cache.ensures ∙ ap (option_map (λ x. x.now)) c.in-Some.is

cut : (c : goal.After-order) → IsLayout c.in-Some.cache.now.layout.size c.in-Some.cache.now.layout.align (layout_numbers c.in-Some.cache.now)
cut c = (in_tables c.self.inside.tables c.args.t c.args.c c.in-Some.cache.now c.laws.ensures.slabs (cached c)).layout

-- the list of empty slabs has at most WIDE_FRAMES entries
few : (c : goal.After-order) → c.count.result ≤ WIDE_FRAMES
few c =
    let places = c.self.inside.tables.lists.places in
    let counted = lists_count_places places (head_of c.args.t c.args.c 2) in
    omega (arith, c.count.ensures, counted.1, count_by-le-length (is_in (head_of c.args.t c.args.c 2)) places, c.laws.ensures.slabs.small)

fits : (c : goal.After-order) → (c.count.result * 2 ^ c.order.result % 4294967296 ≡ c.count.result * 2 ^ c.order.result) × (c.count.result * 2 ^ c.order.result ≤ 8388608)
fits c = frames_few c.count.result c.order.result (few c) (omega (arith, c.order.ensures, (cut c).order))

pub overflow_shl-result : goal.overflow_shl-result
overflow_shl-result c = omega (arith, c.order.ensures, (cut c).order)

pub returns-clause-few : goal.returns-clause-few
returns-clause-few c = let both = fits c in omega (arith, both.0, both.1)

pub returns-clause-frames : goal.returns-clause-frames
returns-clause-frames c = λ r b m a st h.
    (fits c).0 ∙ ap (λ k. c.count.result * 2 ^ k) c.order.ensures
    ∙ sym (frames_counted c.self.inside.tables c.args.t c.args.c c.count.result c.in-Some.cache.now c.laws.ensures.slabs c.laws.ensures.table
    (cached c) c.count.ensures
    r b m (subst (λ s. Agree r b s) (sym c.self.view_is) a) (subst (λ s. IsSteady r b s c.args.t) (sym c.self.view_is) st)
    (subst (λ s. ShowsMachine r b s c.args.t m) (sym c.self.view_is) h))
