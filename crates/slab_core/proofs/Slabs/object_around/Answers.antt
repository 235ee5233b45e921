use Rattle.std.proofs.Common.{◌≡◌, ℕ, ◌-◌, ◌*◌, Some, sym, ap, ◌∙◌, subst, arith}
use Rattle.std.specs.Prelude.{option_map}
use Rattle.model_core.specs.Layouts.{object_offset}
use Rattle.layout_core.specs.Objects.{Holds, IsColour, IsOnly}
use Rattle.slab_tables.specs.declared.cache.Cache as own
use Rattle.slab_tables.specs.declared.cache.Kept.{Kept}
use Rattle.slab_tables.specs.Content.{Content, kept_at, cache_at, layout_numbers}
use Rattle.machine_changes.specs.Shows.{has_slab, IsSlab}
use Rattle.machine_changes.proofs.Lookups.{some_same}
use Rattle.slab_core.proofs.ObjectsInRange.{no_slab, none_holds, not_live, is_around}
use Rattle.slab_core.proofs.Slabs.object_around.Goals as goal
use Rattle.slab_core.proofs.Slabs.object_around.Goals.{After-kept_of-colour, After-offset}

pub slab_at-requires-clause-steady : goal.slab_at-requires-clause-steady
slab_at-requires-clause-steady c = (c.args.buddy.now, c.laws_with.ensures.steady)

pub returns-in_err-c : goal.returns-in_err-c
returns-in_err-c c =
    let x = c.args in
    rw c.from_residual.ensures
    (no_slab x.space.now x.buddy.now x.self.now x.t x.place x.len c.laws_with.ensures.steady x.first x.order c.requires.taken c.requires.around
    (ap (has_slab x.self.now) c.requires.machine_frame ∙ c.in_err-c.ensures))

-- the slab belongs to the cache that was read
slab : (c : After-kept_of-colour) → IsSlab c.args.space.now c.args.self.now c.args.t c.in_ok-c.c c.args.first c.args.machine_frame c.unwrap-kept.result.now
slab c =
    let q = c.in_ok-c.ensures in
    let cached : cache_at c.args.self.now c.args.t c.in_ok-c.c ≡ Some c.unwrap-kept.result.now =
    sym (ap (λ (s : Content). cache_at s c.args.t c.in_ok-c.c) c.self.view_is) ∙ (sym c.cache.ensures ∙ ap (option_map (λ x. x.now)) c.unwrap-kept.ensures) in
    subst (λ (x : own.Cache). IsSlab c.args.space.now c.args.self.now c.args.t c.in_ok-c.c c.args.first c.args.machine_frame x) (some_same (sym q.1.cached ∙ cached)) q.1

colour_is : (c : After-kept_of-colour) → c.kept_of-colour.result.colour ≡ (kept_at c.args.self.now.kept c.args.machine_frame).colour
colour_is c = (ap (λ (k : Kept). k.colour) c.kept_of-colour.ensures ∙ ap (λ (s : Content). (kept_at s.kept c.args.machine_frame).colour) c.self.view_is)

pub returns-in_err-index : goal.returns-in_err-index
returns-in_err-index c =
    let x = c.args in
    let a = (goal.at.returns-in_err-index c).After-kept_of-colour in
    rw c.from_residual-in_err-index.ensures
    (none_holds x.space.now x.buddy.now x.self.now x.t x.place x.len c.laws_with.ensures.steady x.first x.order c.requires.taken c.requires.around
    c.in_ok-c.c x.machine_frame c.unwrap-kept.result.now (slab a)
    (subst (λ (n : ℕ). (i : ℕ) → Holds c.unwrap-kept.result.now.layout n (x.place - 4096 * x.first) x.len i → ⊥) (colour_is a) c.in_err-index.ensures))

pub returns-then-not-is_live_object : goal.returns-then-not-is_live_object
returns-then-not-is_live_object c =
    let x = c.args in
    let a = (goal.at.returns-then-not-is_live_object c).After-kept_of-colour in
    not_live x.space.now x.buddy.now x.self.now x.t x.place x.len c.laws_with.ensures.steady x.first x.order c.requires.taken c.requires.around
    c.in_ok-c.c x.machine_frame c.unwrap-kept.result.now (slab a) c.in_ok-index.index
    (subst (λ (n : ℕ). IsOnly (Holds c.unwrap-kept.result.now.layout n (x.place - 4096 * x.first) x.len) c.in_ok-index.index) (colour_is a) c.in_ok-index.ensures)
    (sym c.is_live_object.ensures ∙ c.if-not-is_live_object.true)

pub offset-requires-clause-colour : goal.offset-requires-clause-colour
offset-requires-clause-colour c =
    let a = (goal.at.offset-requires-clause-colour c).After-kept_of-colour in
    subst (IsColour c.unwrap-kept.result.now.layout) (sym (colour_is a)) (c.laws_with.ensures.steady.stands _ _ _ _ (slab a)).colour

pub offset-requires-clause-object : goal.offset-requires-clause-object
offset-requires-clause-object c = c.in_ok-index.ensures.is.object

pub overflow_add-result : goal.overflow_add-result
overflow_add-result c =
    let low = c.requires.around.0 in
    let at = c.offset.ensures in
    let from = c.in_ok-index.ensures.is.from in
    omega arith

pub returns : goal.returns
returns c =
    let x = c.args in
    let a = (goal.at.returns c).After-kept_of-colour in
    is_around x.space.now x.buddy.now x.self.now x.t x.place x.len c.laws_with.ensures.steady x.first x.order c.requires.taken c.requires.around
    c.in_ok-c.c x.machine_frame c.unwrap-kept.result.now (slab a) c.in_ok-index.index c.offset.result c.size.result
    (subst (λ (n : ℕ). IsOnly (Holds c.unwrap-kept.result.now.layout n (x.place - 4096 * x.first) x.len) c.in_ok-index.index) (colour_is a) c.in_ok-index.ensures)
    (sym c.is_live_object.ensures ∙ c.if-not-is_live_object.false)
    (c.offset.ensures ∙ ap (λ (n : ℕ). object_offset (layout_numbers c.unwrap-kept.result.now) n c.in_ok-index.index) (colour_is a))
    c.size.ensures
