use Rattle.std.proofs.Common.{◌≡◌, ◌+◌, ◌*◌, ◌^◌, ◌%◌, ◌<◌, ◌≤◌, not, Some, refl, sym, ap, ◌∙◌, subst, arith}
use Rattle.std.specs.Prelude.{IsSome}
use Rattle.std.specs.List.{position_or_len}
use Rattle.machine_changes.specs.Shows.{live_of}
use Rattle.std.specs.Int.Bits.{bit_xor}
use Rattle.slab_tables.specs.declared.cache.Kept.{Kept}
use Rattle.slab_tables.specs.Content.{Content, layout_numbers, kept_at}
use Rattle.slab_tables.specs.Changes.{with_outside}
use Rattle.machine_changes.specs.Changes.{found}
use Rattle.slab_core.specs.Objects.{IsTurned}
use Rattle.slab_core.proofs.SlabFacts.{machine_frame_within, slab_cache, first_small}
use Rattle.slab_core.proofs.RecordBitTurned.{turned_window, turned_outside}
use Rattle.slab_core.proofs.FirstClearBit.{IsClear, clear_half}
use Rattle.slab_core.proofs.FirstFreeObject.{record_home, has_clear, claimed_inside, claimed_outside}
use Rattle.slab_core.proofs.Slabs.mark_least_free.Goals as goal
use Rattle.slab_core.proofs.Slabs.mark_least_free.Goals.{After-record_place, After-trailing_ones-index}

pub superblock-superblock-requires-clause-machine_frame : goal.superblock-superblock-requires-clause-machine_frame
superblock-superblock-requires-clause-machine_frame c = machine_frame_within c.requires.slab

-- if the record is in the slab's frame, `record_place` returns the first place of the record
place_is : (c : After-record_place) → c.record_place.result ≡ 4096 * c.args.slab.first + 4064
place_is c = omega (arith, c.record_place.ensures)

pub raise_in_record-requires-clause-home : goal.raise_in_record-requires-clause-home
raise_in_record-requires-clause-home c =
    record_home c.requires.slab c.requires.unit (place_is (goal.at.raise_in_record-requires-clause-home c).After-record_place)
    ∙ ap (λ x. Some x) (sym c.superblock-superblock.ensures)

pub raise_in_record-requires-clause-clear : goal.raise_in_record-requires-clause-clear
raise_in_record-requires-clause-clear c = λ bytes e.
    let x = c.args in
    has_clear x.space.now x.cache.tenant x.cache.kept.now (kept_at x.self.now.kept x.slab.machine_frame) x.slab.first c.requires.free
    (sym c.in_page.ensures ∙ c.if-in_page.true) (slab_cache c.requires.slab c.requires.tables).few c.requires.laws.own_bytes c.record_place.result
    (place_is (goal.at.raise_in_record-requires-clause-clear c).After-record_place) bytes e

pub returns-then-in_page-clause-least : goal.returns-then-in_page-clause-least
returns-then-in_page-clause-least c =
    let x = c.args in
    claimed_inside x.space.now x.cache.tenant x.cache.kept.now (kept_at x.self.now.kept x.slab.machine_frame) x.slab.first c.requires.free
    (sym c.in_page.ensures ∙ c.if-in_page.true) (slab_cache c.requires.slab c.requires.tables).few c.requires.laws.own_bytes c.record_place.result
    (place_is (goal.at.returns-then-in_page-clause-least c).After-record_place) c.raise_in_record.new.space c.raise_in_record.result c.raise_in_record.ensures

pub returns-then-in_page-clause-turned : goal.returns-then-in_page-clause-turned
returns-then-in_page-clause-turned c =
    let x = c.args in
    let place = place_is (goal.at.returns-then-in_page-clause-turned c).After-record_place in
    let few = (slab_cache c.requires.slab c.requires.tables).few in
    let least = claimed_inside x.space.now x.cache.tenant x.cache.kept.now (kept_at x.self.now.kept x.slab.machine_frame) x.slab.first c.requires.free
    (sym c.in_page.ensures ∙ c.if-in_page.true) few c.requires.laws.own_bytes c.record_place.result
    place c.raise_in_record.new.space c.raise_in_record.result c.raise_in_record.ensures in
    turned_window x.space.now x.self.now x.cache.tenant (found x.cache.kept.now x.slab.first x.slab.machine_frame c.raise_in_record.result)
    c.raise_in_record.new.space c.requires.laws (omega (arith, few, c.requires.free)) (sym c.in_page.ensures ∙ c.if-in_page.true) c.record_place.result place
    (subst (λ o. IsSome o) (sym (record_home c.requires.slab c.requires.unit place)) refl)
    c.raise_in_record.ensures

-- if the record is stored outside the slab, the slab has at most 16 objects
few_large : (c : After-trailing_ones-index) → (layout_numbers c.args.cache.kept.now).count ≤ 16
few_large c = (slab_cache c.requires.slab c.requires.tables).few_large (sym c.in_page.ensures ∙ c.if-in_page.false)

kept_is : (c : After-trailing_ones-index) → c.kept_of-outside.result ≡ kept_at c.args.self.now.kept c.args.slab.machine_frame
kept_is c = c.kept_of-outside.ensures ∙ ap (λ (s : Content). kept_at s.kept c.args.slab.machine_frame) c.self.view_is

least : (c : After-trailing_ones-index) → c.trailing_ones-index.result
    ≡ position_or_len not (live_of c.args.space.now c.args.cache.tenant c.args.cache.kept.now (kept_at c.args.self.now.kept c.args.slab.machine_frame) c.args.slab.first)
least c =
    let x = c.args in
    let kept = kept_at x.self.now.kept x.slab.machine_frame in
    let fits : c.from.result < 65536 = omega (arith, c.kept_of-outside.type_inv) in
    let word : c.from.result ≡ kept.outside = c.from.ensures ∙ ap (λ (x : Kept). x.outside) (kept_is c) in
    let is : IsClear 16 kept.outside c.trailing_ones-index.result =
    subst (λ x. IsClear 16 x c.trailing_ones-index.result) word
    (subst (IsClear 16 c.from.result) (sym c.trailing_ones-index.ensures) (clear_half c.from.result fits)) in
    claimed_outside x.space.now x.cache.tenant x.cache.kept.now kept x.slab.first c.requires.free
    c.trailing_ones-index.result (sym c.in_page.ensures ∙ c.if-in_page.false) (few_large c) is

pub overflow_shl-index : goal.overflow_shl-index
overflow_shl-index c =
    let a = (goal.at.overflow_shl-index c).After-trailing_ones-index in
    omega (arith, least a, few_large a, c.requires.free)

pub returns-else-in_page-clause-least : goal.returns-else-in_page-clause-least
returns-else-in_page-clause-least c = least (goal.at.returns-else-in_page-clause-least c).After-trailing_ones-index

pub returns-else-in_page-clause-turned : goal.returns-else-in_page-clause-turned
returns-else-in_page-clause-turned c =
    let x = c.args in
    let a = (goal.at.returns-else-in_page-clause-turned c).After-trailing_ones-index in
    let o = found x.cache.kept.now x.slab.first x.slab.machine_frame c.trailing_ones-index.result in
    subst (λ (s : Content). IsTurned x.space.now x.space.now x.self.now s x.cache.tenant o)
    (sym (c.set_outside.ensures ∙ ap (λ (s : Content). with_outside s o.machine_frame (bit_xor c.kept_of-outside.result.outside (1 * 2 ^ o.index % 65536))) c.self.view_is))
    (turned_outside x.space.now x.self.now x.cache.tenant o
    (sym c.in_page.ensures ∙ c.if-in_page.false) (omega (arith, least a, few_large a, c.requires.free))
    (omega (arith, machine_frame_within c.requires.slab, c.requires.tables.paired)) _
    (ap (λ (k : Kept). bit_xor k.outside (1 * 2 ^ o.index % 65536)) (kept_is a)))

pub record_place-requires-clause-frame : goal.record_place-requires-clause-frame
record_place-requires-clause-frame c = first_small c.requires.slab c.requires.laws c.requires.unit
