use Rattle.std.proofs.Common.{◌≡◌, Some, sym, ap, ◌∙◌}
use Rattle.std.specs.Prelude.{option_map}
use Rattle.slab_tables.specs.Content.{Content, cache_at}
use Rattle.machine_changes.proofs.LiveObjects.{not_found_refuses}
use Rattle.slab_core.proofs.ObjectBytes.{has_object, has_range}
use Rattle.slab_core.proofs.GiveWithoutCache.{give_refused}
use Rattle.slab_core.proofs.Slabs.object_bytes.Goals as goal
use Rattle.slab_core.proofs.Slabs.object_bytes.Goals.{In-Some}

pub returns-in_default-clause-refused : goal.returns-in_default-clause-refused
returns-in_default-clause-refused c =
    let x = c.args in λ m h. ap (λ z. z.answer)
    (give_refused x.space.now x.buddy.now x.self.now x.t x.c x.place m h
    (sym (ap (λ (s : Content). cache_at s x.t x.c) c.self.view_is) ∙ (sym c.cache.ensures ∙ ap (option_map (λ y. y.now)) c.in_default.is)))

-- the cache that was read is cache c of tenant t in the tables
cached : (c : In-Some) → cache_at c.args.self.now c.args.t c.args.c ≡ Some c.in-Some.kept.now
cached c =
    sym (ap (λ (s : Content). cache_at s c.args.t c.args.c) c.self.view_is)
    ∙ (sym c.cache.ensures ∙ ap (option_map (λ y. y.now)) c.in-Some.is)

pub find-requires-clause-parts : goal.find-requires-clause-parts
find-requires-clause-parts c = (c.args.buddy.now, c.laws_with.ensures.parts)

pub returns-in_default-find-clause-refused : goal.returns-in_default-find-clause-refused
returns-in_default-find-clause-refused c =
    let x = c.args in λ m h. ap (λ z. z.answer)
    (not_found_refuses x.space.now x.buddy.now x.self.now x.t x.c x.place c.in-Some.kept.now m c.laws_with.ensures.steady h
    (cached (goal.at.returns-in_default-find-clause-refused c).In-Some) c.in_default-find.ensures)

pub returns-clause-object : goal.returns-clause-object
returns-clause-object c = λ m h.
    has_object c.args.space.now c.args.buddy.now c.args.self.now c.args.t c.args.c c.args.place c.size.result _ m c.laws_with.ensures.steady h
    c.in-Some-find.ensures c.size.ensures

pub returns-clause-range : goal.returns-clause-range
returns-clause-range c =
    has_range c.args.space.now c.args.buddy.now c.args.self.now c.args.t c.args.c c.args.place c.size.result _ c.laws_with.ensures.steady
    c.in-Some-find.ensures c.size.ensures
