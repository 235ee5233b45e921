use Rattle.std.proofs.Common.{◌≡◌, ℕ, ◌+◌, ◌*◌, ◌/◌, ◌^◌, ◌<◌, true, not, Some, length, refl, sym, ap, ◌∙◌, subst, rules, arith}
use Rattle.std.specs.List.{position_or_len}
use Rattle.model_core.specs.Layouts.{object_offset}
use Rattle.layout_core.specs.Objects.{IsColour}
use Rattle.model_core.specs.Slabs.{with_cache, with_slab, with_live}
use Rattle.space_core.specs.Content as spaces
use Rattle.space_core.specs.Windows.{home_of}
use Rattle.slab_tables.specs.declared.cache.Kept.{Kept}
use Rattle.slab_tables.specs.Content.{Content, kept_at, layout_numbers}
use Rattle.machine_changes.specs.Shows.{live_of, ShowsMachine}
use Rattle.machine_changes.specs.Changes.{Found, found}
use Rattle.slab_core.specs.Objects.{IsToCount, IsRecounted}
use Rattle.slab_core.proofs.SlabFacts.{machine_frame_within, slab_cache}
use Rattle.slab_core.proofs.TakeFirstFree.{IsLeastFree, object_below, not_live, first_few, home_is, end_small, next_is, answered}
use Rattle.machine_changes.proofs.ObjectMarked.{marked_shows}
use Rattle.slab_core.proofs.HandedOutIsLive.{marked_object}
use Rattle.slab_core.proofs.Slabs.hand_out.Goals as goal
use Rattle.slab_core.proofs.Slabs.hand_out.Goals.{After-mark_least_free-index, After-kept_of-colour, After-offset}

pub kept_of-colour-requires : goal.kept_of-colour-requires
kept_of-colour-requires c =
    subst (λ (s : Content). c.args.slab.machine_frame < length s.lists.places)
    (sym (c.self.view_is ∙ c.mark_least_free-index.ensures.turned.tables)) (machine_frame_within c.requires.slab)

colour_is : (c : After-kept_of-colour) → c.kept_of-colour.result.colour ≡ (kept_at c.args.self.now.kept c.args.slab.machine_frame).colour
colour_is c =
    (ap (λ (k : Kept). k.colour) c.kept_of-colour.ensures
    ∙ (ap (λ (s : Content). (kept_at s.kept c.args.slab.machine_frame).colour) c.self.view_is ∙ c.mark_least_free-index.ensures.turned.colour))

-- the slab has a free object
pub mark_least_free-index-requires-clause-free : goal.mark_least_free-index-requires-clause-free
mark_least_free-index-requires-clause-free c =
    let x = c.args in
    let least = position_or_len not (live_of x.space.now x.cache.tenant x.cache.kept.now (kept_at x.self.now.kept x.slab.machine_frame) x.slab.first) in
    let o : IsLeastFree x.space.now x.buddy.now x.self.now x.cache.tenant x.cache.number x.slab.first x.slab.machine_frame least x.cache.kept.now =
    record { parts = c.laws_with.ensures.parts; steady = c.laws_with.ensures.steady; slab = c.requires.slab; free = c.requires.free; is = refl } in
    object_below o

next : (c : After-mark_least_free-index) → IsLeastFree c.args.space.now c.args.buddy.now c.args.self.now c.args.cache.tenant c.args.cache.number
    c.args.slab.first c.args.slab.machine_frame c.mark_least_free-index.result c.args.cache.kept.now
next c = record {
  parts = c.laws_with.ensures.parts;
  steady = c.laws_with.ensures.steady;
  slab = c.requires.slab;
  free = c.requires.free;
  is = c.mark_least_free-index.ensures.least;
}

abbrev object : After-mark_least_free-index → Found
object c = found c.args.cache.kept.now c.args.slab.first c.args.slab.machine_frame c.mark_least_free-index.result

to_count : (c : After-mark_least_free-index) → IsToCount c.args.space.now c.mark_least_free-index.new.space c.args.buddy.now c.args.self.now
    c.mark_least_free-index.new.self c.args.cache.tenant c.args.cache.number (object c) true
to_count c = record {
  tenant = c.requires.tenant;
  laws = c.laws_with.ensures.parts.space;
  slabs = c.laws_with.ensures.parts.slabs;
  agree = c.requires.agree;
  slab = c.requires.slab;
  index = object_below (next c);
  was = not_live (next c);
  turned = c.mark_least_free-index.ensures.turned;
}

pub recount-requires : goal.recount-requires
recount-requires c = (_, _, c.args.buddy.now, c.args.self.now, to_count (goal.at.recount-requires c).After-mark_least_free-index)

pub overflow_mul-result : goal.overflow_mul-result
overflow_mul-result c = let few = first_few (next (goal.at.overflow_mul-result c).After-mark_least_free-index) in search (rules, few)

pub offset-requires-clause-object : goal.offset-requires-clause-object
offset-requires-clause-object c = object_below (next (goal.at.offset-requires-clause-object c).After-mark_least_free-index)

pub offset-requires-clause-colour : goal.offset-requires-clause-colour
offset-requires-clause-colour c =
    subst (IsColour c.args.cache.kept.now.layout) (sym (colour_is (goal.at.offset-requires-clause-colour c).After-kept_of-colour))
    (c.laws_with.ensures.steady.stands _ _ _ _ c.requires.slab).colour

offset_is : (c : After-offset)
    → c.offset.result ≡ object_offset (layout_numbers c.args.cache.kept.now) (kept_at c.args.self.now.kept c.args.slab.machine_frame).colour c.mark_least_free-index.result
offset_is c =
    c.offset.ensures
    ∙ ap (λ (n : ℕ). object_offset (layout_numbers c.args.cache.kept.now) n c.mark_least_free-index.result)
    (colour_is (goal.at.overflow_add-result c).After-kept_of-colour)

pub overflow_add-result : goal.overflow_add-result
overflow_add-result c =
    let a = (goal.at.overflow_add-result c).After-mark_least_free-index in
    let end = end_small (next a) (4096 * c.args.slab.first + c.offset.result) c.args.cache.kept.now.layout.size (ap (λ (n : ℕ). 4096 * c.args.slab.first + n) (offset_is c)) refl in
    let some = (slab_cache c.requires.slab c.laws_with.ensures.parts.slabs).layout.sized in
    let fits : 4096 * c.args.slab.first + c.offset.result < 4294967296 = omega (arith, end, some) in
    search (rules, fits)

counted : (c : After-offset) → IsRecounted c.args.space.now c.mark_least_free-index.new.space c.args.buddy.now c.args.self.now c.recount.new.self
    c.args.cache.tenant c.args.cache.number (object (goal.at.overflow_add-result c).After-mark_least_free-index) true
counted c = c.recount.ensures _ _ _ _ (to_count (goal.at.overflow_add-result c).After-mark_least_free-index)

pub returns-clause-answer : goal.returns-clause-answer
returns-clause-answer c = λ m y z h ey ez.
    answered (next (goal.at.returns-clause-answer c).After-mark_least_free-index) m y z h ey ez _
    (ap (λ (n : ℕ). 4096 * c.args.slab.first + n) (offset_is (goal.at.returns-clause-answer c).After-offset))

pub returns-clause-shows : goal.returns-clause-shows
returns-clause-shows c = λ m y z h ey ez.
    let x = c.args in
    let a = (goal.at.returns-clause-shows c).After-mark_least_free-index in
    subst (λ (j : ℕ). ShowsMachine c.mark_least_free-index.new.space x.buddy.now c.recount.new.self x.cache.tenant (with_cache (with_slab (with_live j true z) y) m))
    (sym (next_is (next a) m y z h ey ez))
    (marked_shows _ _ x.buddy.now _ _ _ _ (object a) true m y z (counted (goal.at.returns-clause-shows c).After-offset).marked
    c.laws_with.ensures.steady c.requires.slab (object_below (next a)) ey ez h)

-- in the memory, `mark_least_free` changes nothing except bytes
space_is : (c : After-offset) → c.mark_least_free-index.new.space ≡ record c.args.space.now { banks = c.mark_least_free-index.new.space.banks }
space_is c = c.mark_least_free-index.ensures.turned.space

superblock_is : (c : After-offset) → c.superblock-superblock.result ≡ c.args.slab.machine_frame / 2 ^ c.args.self.now.top
superblock_is c = c.superblock-superblock.ensures

pub returns-clause-object : goal.returns-clause-object
returns-clause-object c =
    let a = (goal.at.returns-clause-object c).After-mark_least_free-index in
    let o = (goal.at.returns-clause-object c).After-offset in
    let at = ap (λ (n : ℕ). 4096 * c.args.slab.first + n) (offset_is o) in record {
      object = object a;
      live = marked_object (counted o).marked c.laws_with.ensures.steady c.requires.slab (object_below (next a)) (sym at);
      size = c.size.ensures;
      home = subst (λ (r : spaces.Content). home_of r c.args.cache.tenant (4096 * c.args.slab.first + c.offset.result) c.size.result ≡ Some c.superblock-superblock.result)
          (sym (space_is o))
          (home_is (next a) _ _ at c.size.ensures ∙ ap (λ x. Some x) (sym (superblock_is o)));
    }

pub returns-clause-spares : goal.returns-clause-spares
returns-clause-spares c = (counted (goal.at.returns-clause-spares c).After-offset).spares

pub returns-clause-agree : goal.returns-clause-agree
returns-clause-agree c = (counted (goal.at.returns-clause-agree c).After-offset).agree
