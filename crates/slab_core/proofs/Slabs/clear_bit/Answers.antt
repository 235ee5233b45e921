use Rattle.std.proofs.Common.{◌≡◌, ◌+◌, ◌*◌, ◌%◌, ◌/◌, ◌^◌, ◌<◌, false, Some, refl, sym, ap, ◌∙◌, subst, arith}
use Rattle.std.specs.Prelude.{IsSome}
use Rattle.std.specs.Int.Bits.{bit_xor}
use Rattle.model_core.specs.Layouts.{is_small}
use Rattle.space_core.specs.Windows.{with_window}
use Rattle.slab_tables.specs.declared.cache.Kept.{Kept}
use Rattle.slab_tables.specs.Content.{Content, kept_at, layout_numbers}
use Rattle.slab_tables.specs.Changes.{with_outside}
use Rattle.machine_changes.specs.Records.{is_set}
use Rattle.machine_changes.specs.Shows.{is_live}
use Rattle.slab_core.specs.Objects.{found_in, IsTurned}
use Rattle.slab_core.proofs.BytesRewritten.{window_same}
use Rattle.slab_core.proofs.SlabFacts.{machine_frame_within, slab_cache, first_small}
use Rattle.slab_core.proofs.RecordBitTurned.{live_small, live_large, turned_record, turned_outside}
use Rattle.slab_core.proofs.FirstFreeObject.{record_home, record_read}
use Rattle.slab_core.proofs.Slabs.clear_bit.Goals as goal
use Rattle.slab_core.proofs.Slabs.clear_bit.Goals.{After-record_place-place, After-lower_in_record, After-is_bit_set}

pub superblock-superblock-requires-clause-machine_frame : goal.superblock-superblock-requires-clause-machine_frame
superblock-superblock-requires-clause-machine_frame c = machine_frame_within c.requires.slab

-- if the record is in the slab's frame, `place` is the first place of the record
place_is : (c : After-record_place-place) → c.record_place-place.result ≡ 4096 * c.args.object.slab.first + 4064
place_is c = omega (arith, c.record_place-place.ensures)

few : (c : After-record_place-place) → c.args.object.index < 256
few c = omega (arith, (slab_cache c.requires.slab c.requires.tables).few, c.requires.index)

pub lower_in_record-requires-clause-home : goal.lower_in_record-requires-clause-home
lower_in_record-requires-clause-home c =
    record_home c.requires.slab c.requires.unit (place_is (goal.at.lower_in_record-requires-clause-home c).After-record_place-place)
    ∙ ap (λ x. Some x) (sym c.superblock-superblock.ensures)

pub lower_in_record-requires-clause-bit : goal.lower_in_record-requires-clause-bit
lower_in_record-requires-clause-bit c = few (goal.at.lower_in_record-requires-clause-bit c).After-record_place-place

pub returns-then-in_page-clause-live : goal.returns-then-in_page-clause-live
returns-then-in_page-clause-live c =
    let x = c.args in
    let o = x.object in
    let k = c.lower_in_record.ensures in
    let a = (goal.at.returns-then-in_page-clause-live c).After-record_place-place in
    let below = few a in
    k.lowered.told
    ∙ sym (live_small x.space.now x.cache.tenant x.cache.kept.now (kept_at x.self.now.kept o.slab.machine_frame) o.slab.first o.index (sym c.in_page.ensures ∙ c.if-in_page.true)
    ∙ ap (λ b. is_set b (o.index % 8))
    (record_read x.space.now x.cache.tenant o.slab.first c.record_place-place.result k.before c.requires.laws.own_bytes (place_is a) k.read (o.index / 8) (omega arith)))

pub returns-then-in_page-clause-turned : goal.returns-then-in_page-clause-turned
returns-then-in_page-clause-turned c = λ set.
    let x = c.args in
    let k = c.lower_in_record.ensures in
    let a = (goal.at.returns-then-in_page-clause-turned c).After-record_place-place in
    turned_record x.space.now x.self.now x.cache.tenant (found_in x.cache.kept.now x.object) c.lower_in_record.new.space c.requires.laws (few a)
    (sym c.in_page.ensures ∙ c.if-in_page.true) c.record_place-place.result (place_is a)
    (subst (λ o. IsSome o) (sym (record_home c.requires.slab c.requires.unit (place_is a))) refl)
    k.before k.after k.read (k.lowered.turned set) k.written

pub returns-then-in_page-clause-kept : goal.returns-then-in_page-clause-kept
returns-then-in_page-clause-kept c = λ none.
    let x = c.args in
    let k = c.lower_in_record.ensures in
    let place = c.record_place-place.result in (
      k.written ∙ (ap (with_window x.space.now x.cache.tenant place 32) (k.lowered.kept none)
          ∙ window_same x.space.now x.cache.tenant place 32 k.before k.read (c.requires.laws.own_bytes.read x.cache.tenant place 32 k.before k.read).count),
      refl,
    )

-- if the record is stored outside the slab, the objects are large
large : (c : After-is_bit_set) → is_small (layout_numbers c.args.cache.kept.now).chunk ≡ false
large c = sym c.in_page.ensures ∙ c.if-in_page.false

few_large : (c : After-is_bit_set) → c.args.object.index < 16
few_large c = omega (arith, (slab_cache c.requires.slab c.requires.tables).few_large (large c), c.requires.index)

kept_is : (c : After-is_bit_set) → c.kept_of-outside.result ≡ kept_at c.args.self.now.kept c.args.object.slab.machine_frame
kept_is c = c.kept_of-outside.ensures ∙ ap (λ (s : Content). kept_at s.kept c.args.object.slab.machine_frame) c.self.view_is

told : (c : After-is_bit_set) → c.is_bit_set.result ≡ is_live c.args.space.now c.args.cache.tenant c.args.cache.kept.now
    (kept_at c.args.self.now.kept c.args.object.slab.machine_frame) c.args.object.slab.first c.args.object.index
told c =
    let o = c.args.object in
    c.is_bit_set.ensures ∙ (ap (λ b. is_set b o.index) (c.from.ensures ∙ ap (λ (k : Kept). k.outside) (kept_is c))
    ∙ sym (live_large c.args.space.now c.args.cache.tenant c.args.cache.kept.now (kept_at c.args.self.now.kept o.slab.machine_frame) o.slab.first o.index (large c)))

pub is_bit_set-requires : goal.is_bit_set-requires
is_bit_set-requires c =
    omega (arith, (slab_cache c.requires.slab c.requires.tables).few_large (sym c.in_page.ensures ∙ c.if-in_page.false), c.requires.index)

pub returns-then-not-is_bit_set-clause-live : goal.returns-then-not-is_bit_set-clause-live
returns-then-not-is_bit_set-clause-live c = sym c.if-not-is_bit_set.true ∙ told (goal.at.returns-then-not-is_bit_set-clause-live c).After-is_bit_set

pub returns-else-not-is_bit_set-clause-live : goal.returns-else-not-is_bit_set-clause-live
returns-else-not-is_bit_set-clause-live c = sym c.if-not-is_bit_set.false ∙ told (goal.at.returns-else-not-is_bit_set-clause-live c).After-is_bit_set

pub returns-else-not-is_bit_set-clause-turned : goal.returns-else-not-is_bit_set-clause-turned
returns-else-not-is_bit_set-clause-turned c = λ set.
    let x = c.args in
    let o = found_in x.cache.kept.now x.object in
    let a = (goal.at.returns-else-not-is_bit_set-clause-turned c).After-is_bit_set in
    subst (λ (s : Content). IsTurned x.space.now x.space.now x.self.now s x.cache.tenant o)
    (sym (c.set_outside.ensures ∙ ap (λ (s : Content). with_outside s o.machine_frame (bit_xor c.kept_of-outside.result.outside (1 * 2 ^ o.index % 65536))) c.self.view_is))
    (turned_outside x.space.now x.self.now x.cache.tenant o (large a) (few_large a)
    (omega (arith, machine_frame_within c.requires.slab, c.requires.tables.paired)) _
    (ap (λ (k : Kept). bit_xor k.outside (1 * 2 ^ o.index % 65536)) (kept_is a)))

pub overflow_cast-object : goal.overflow_cast-object
overflow_cast-object c =
    omega (arith, (slab_cache c.requires.slab c.requires.tables).few_large (sym c.in_page.ensures ∙ c.if-in_page.false), c.requires.index)

pub overflow_shl-object : goal.overflow_shl-object
overflow_shl-object c =
    omega (arith, (slab_cache c.requires.slab c.requires.tables).few_large (sym c.in_page.ensures ∙ c.if-in_page.false), c.requires.index)

pub record_place-place-requires-clause-frame : goal.record_place-place-requires-clause-frame
record_place-place-requires-clause-frame c = first_small c.requires.slab c.requires.laws c.requires.unit
