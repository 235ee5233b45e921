use Rattle.std.proofs.Common.{◌≡◌, true, false, Some, None, refl, sym, ap, ◌∙◌, subst, rules}
use Rattle.std.specs.Prelude.{option_map, MatchOption}
use Rattle.model_core.specs.Machine.{Machine}
use Rattle.model_core.specs.CacheOperations.{give_step}
use Rattle.model_core.specs.Operations.{refuse}
use Rattle.model_core.specs.declared.refusals.GiveRefusal.TheVariants.{NoCache, NotAnObject}
use Rattle.slab_tables.specs.Content.{Content, cache_at}
use Rattle.machine_changes.specs.Shows.{Agree, ShowsMachine}
use Rattle.machine_changes.specs.Keeps.{Spares}
use Rattle.machine_changes.specs.Changes.{Found}
use Rattle.machine_changes.specs.Objects.{IsLiveObject, IsNoObject}
use Rattle.machine_changes.specs.Laws.{GivesObject}
use Rattle.slab_core.specs.Objects.{found_in, IsToCount, IsRecounted}
use Rattle.slab_core.specs.Giving.{BeginsAt}
use Rattle.slab_core.proofs.GrowByNeed.{unmoved}
use Rattle.slab_core.proofs.GiveWithoutCache.{give_refused}
use Rattle.slab_core.proofs.ReturnEmptySlabs.{spares_none}
use Rattle.machine_changes.proofs.ObjectMarked.{marked_shows}
use Rattle.machine_changes.proofs.LiveObjects.{found_gives, not_found_refuses}
use Rattle.slab_core.proofs.Slabs.give.Goals as goal
use Rattle.slab_core.proofs.Slabs.give.Goals.{After-from_residual, In_ok-kept, After-from_residual-in_err-object, After-clear_bit, After-recount}

no_cache : (c : After-from_residual) → cache_at c.args.self.now c.args.t c.args.c ≡ None
no_cache c =
    sym (ap (λ (s : Content). cache_at s c.args.t c.args.c) c.self.view_is)
    ∙ (sym c.cache.ensures ∙ ap (option_map (λ x. x.now)) c.in_err-kept.ensures.ok_part)

refused : (c : After-from_residual) (m : Machine) → ShowsMachine c.args.space.now c.args.buddy.now c.args.self.now c.args.t m → give_step c.args.c c.args.place m ≡ refuse NoCache m
refused c m h = give_refused c.args.space.now c.args.buddy.now c.args.self.now c.args.t c.args.c c.args.place m h (no_cache c)

pub returns-in_err-kept-clause-answer : goal.returns-in_err-kept-clause-answer
returns-in_err-kept-clause-answer c = λ m h. let e = refused c m h in rw e (search rules)

pub returns-in_err-kept-clause-shows : goal.returns-in_err-kept-clause-shows
returns-in_err-kept-clause-shows c = λ m h. rw (refused c m h) h

-- the cache that was read is cache c of tenant t in the tables
cached : (c : In_ok-kept) → cache_at c.args.self.now c.args.t c.args.c ≡ Some c.in_ok-kept.field-0.now
cached c =
    sym (ap (λ (s : Content). cache_at s c.args.t c.args.c) c.self.view_is)
    ∙ (sym c.cache.ensures ∙ ap (option_map (λ x. x.now)) c.in_ok-kept.ensures.ok_part)

pub locate-requires-clause-parts : goal.locate-requires-clause-parts
locate-requires-clause-parts c = (c.args.buddy.now, c.laws_with.ensures.parts)

-- if `locate` returns `None`, `give_step` refuses with `NotAnObject`
not_found : (c : After-from_residual-in_err-object) (m : Machine) → ShowsMachine c.args.space.now c.args.buddy.now c.args.self.now c.args.t m
    → give_step c.args.c c.args.place m ≡ refuse NotAnObject m
not_found c m h =
    let none : IsNoObject c.args.space.now c.args.self.now c.args.t c.args.c c.args.place =
    subst (λ o. MatchOption o (IsNoObject c.args.space.now c.args.self.now c.args.t c.args.c c.args.place)
    (λ o. BeginsAt c.args.space.now c.args.self.now c.args.t c.args.c c.args.place (found_in c.in_ok-kept.field-0.now o)))
    c.in_err-object.ensures.ok_part c.locate.ensures in
    not_found_refuses c.args.space.now c.args.buddy.now c.args.self.now c.args.t c.args.c c.args.place c.in_ok-kept.field-0.now m c.laws_with.ensures.steady h
    (cached (goal.at.returns-in_err-object-clause-shows c).In_ok-kept) none

pub returns-in_err-object-clause-answer : goal.returns-in_err-object-clause-answer
returns-in_err-object-clause-answer c = λ m h. let e = not_found c m h in rw e (search rules)

pub returns-in_err-object-clause-shows : goal.returns-in_err-object-clause-shows
returns-in_err-object-clause-shows c = λ m h. rw (not_found c m h) h

abbrev object : After-clear_bit → Found
object c = found_in c.in_ok-kept.field-0.now c.in_ok-object.object

begins : (c : After-clear_bit) → BeginsAt c.args.space.now c.args.self.now c.args.t c.args.c c.args.place (object c)
begins c =
    subst (λ o. MatchOption o (IsNoObject c.args.space.now c.args.self.now c.args.t c.args.c c.args.place)
    (λ o. BeginsAt c.args.space.now c.args.self.now c.args.t c.args.c c.args.place (found_in c.in_ok-kept.field-0.now o)))
    c.in_ok-object.ensures.ok_part c.locate.ensures

pub clear_bit-requires-clause-slab : goal.clear_bit-requires-clause-slab
clear_bit-requires-clause-slab c =
    (subst (λ o. MatchOption o (IsNoObject c.args.space.now c.args.self.now c.args.t c.args.c c.args.place)
    (λ o. BeginsAt c.args.space.now c.args.self.now c.args.t c.args.c c.args.place (found_in c.in_ok-kept.field-0.now o)))
    c.in_ok-object.ensures.ok_part c.locate.ensures).slab

pub clear_bit-requires-clause-index : goal.clear_bit-requires-clause-index
clear_bit-requires-clause-index c =
    (subst (λ o. MatchOption o (IsNoObject c.args.space.now c.args.self.now c.args.t c.args.c c.args.place)
    (λ o. BeginsAt c.args.space.now c.args.self.now c.args.t c.args.c c.args.place (found_in c.in_ok-kept.field-0.now o)))
    c.in_ok-object.ensures.ok_part c.locate.ensures).index

-- The object that begins at the place is not live

dead : (c : After-clear_bit) → c.clear_bit.result ≡ false → (m : Machine) → ShowsMachine c.args.space.now c.args.buddy.now c.args.self.now c.args.t m
    → give_step c.args.c c.args.place m ≡ refuse NotAnObject m
dead c is m h =
    not_found_refuses c.args.space.now c.args.buddy.now c.args.self.now c.args.t c.args.c c.args.place c.in_ok-kept.field-0.now m c.laws_with.ensures.steady h
    (begins c).slab.cached ((begins c).dead (sym c.clear_bit.ensures.live ∙ is))

still : (c : After-clear_bit) → c.clear_bit.result ≡ false
    → (c.args.space.now ≡ c.clear_bit.new.space) × ((c.args.buddy.now ≡ c.args.buddy.now) × (c.args.self.now ≡ c.clear_bit.new.self))
still c is = let same = c.clear_bit.ensures.kept is in (sym same.0, (refl, sym same.1))

pub returns-then-not-clear_bit-clause-answer : goal.returns-then-not-clear_bit-clause-answer
returns-then-not-clear_bit-clause-answer c = λ m h.
    let e = dead (goal.at.returns-then-not-clear_bit-clause-answer c).After-clear_bit c.if-not-clear_bit.true m h in rw e (search rules)

pub returns-then-not-clear_bit-clause-shows : goal.returns-then-not-clear_bit-clause-shows
returns-then-not-clear_bit-clause-shows c = λ m h.
    let a = (goal.at.returns-then-not-clear_bit-clause-shows c).After-clear_bit in
    rw (dead a c.if-not-clear_bit.true m h) (unmoved (λ r b s. ShowsMachine r b s c.args.t m) (still a c.if-not-clear_bit.true) h)

pub returns-then-not-clear_bit-clause-spares : goal.returns-then-not-clear_bit-clause-spares
returns-then-not-clear_bit-clause-spares c =
    let a = (goal.at.returns-then-not-clear_bit-clause-spares c).After-clear_bit in
    unmoved (λ r b s. Spares c.args.t c.args.space.now r c.args.buddy.now b c.args.self.now s) (still a c.if-not-clear_bit.true)
    (spares_none c.args.space.now c.args.buddy.now c.args.self.now c.args.t)

pub returns-then-not-clear_bit-clause-agree : goal.returns-then-not-clear_bit-clause-agree
returns-then-not-clear_bit-clause-agree c =
    unmoved (λ r b s. Agree r b s) (still (goal.at.returns-then-not-clear_bit-clause-agree c).After-clear_bit c.if-not-clear_bit.true) c.requires.agree

-- The object that begins at the place is live

is_object : (c : After-clear_bit) → c.clear_bit.result ≡ true → IsLiveObject c.args.space.now c.args.self.now c.args.t c.args.c c.args.place (object c)
is_object c is =
    let o = begins c in record { slab = o.slab; index = o.index; live = sym c.clear_bit.ensures.live ∙ is; begins = o.begins }

gives : (c : After-clear_bit) → c.clear_bit.result ≡ true → (m : Machine) → ShowsMachine c.args.space.now c.args.buddy.now c.args.self.now c.args.t m
    → GivesObject m c.args.c c.args.place c.in_ok-object.object.index c.in_ok-object.object.slab.first
gives c is m h =
    found_gives c.args.space.now c.args.buddy.now c.args.self.now c.args.t c.args.c c.args.place (object c) m c.laws_with.ensures.steady h (is_object c is)

to_count : (c : After-clear_bit) → c.clear_bit.result ≡ true
    → IsToCount c.args.space.now c.clear_bit.new.space c.args.buddy.now c.args.self.now c.clear_bit.new.self c.args.t c.args.c (object c) false
to_count c is =
    let o = is_object c is in record {
      tenant = c.requires.tenant;
      laws = c.laws_with.ensures.parts.space;
      slabs = c.laws_with.ensures.parts.slabs;
      agree = c.requires.agree;
      slab = o.slab;
      index = o.index;
      was = o.live;
      turned = c.clear_bit.ensures.turned is;
    }

pub recount-requires : goal.recount-requires
recount-requires c = (_, _, c.args.buddy.now, c.args.self.now, to_count (goal.at.recount-requires c).After-clear_bit c.if-not-clear_bit.false)

counted : (c : After-recount) → IsRecounted c.args.space.now c.clear_bit.new.space c.args.buddy.now c.args.self.now c.recount.new.self c.args.t c.args.c
    (object (goal.at.returns-clause-shows c).After-clear_bit) false
counted c = c.recount.ensures _ _ _ _ (to_count (goal.at.returns-clause-shows c).After-clear_bit c.if-not-clear_bit.false)

pub returns-clause-spares : goal.returns-clause-spares
returns-clause-spares c = (counted c).spares

pub returns-clause-agree : goal.returns-clause-agree
returns-clause-agree c = (counted c).agree

pub returns-clause-answer : goal.returns-clause-answer
returns-clause-answer c = λ m h. rw (gives (goal.at.returns-clause-answer c).After-clear_bit c.if-not-clear_bit.false m h).step refl

pub returns-clause-shows : goal.returns-clause-shows
returns-clause-shows c = λ m h.
    let a = (goal.at.returns-clause-shows c).After-clear_bit in
    let g = gives a c.if-not-clear_bit.false m h in
    let o = is_object a c.if-not-clear_bit.false in
    rw g.step
    (marked_shows c.args.space.now c.clear_bit.new.space c.args.buddy.now c.args.self.now c.recount.new.self c.args.t c.args.c (object a) false m g.cache g.slab
    (counted c).marked c.laws_with.ensures.steady o.slab o.index g.cached g.standing h)
