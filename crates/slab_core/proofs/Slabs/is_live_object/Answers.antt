use Rattle.std.proofs.Common.{sym, ◌∙◌, arith}
use Rattle.slab_core.proofs.SlabPlaces.{object_under}
use Rattle.slab_core.proofs.SlabFacts.{machine_frame_within, slab_cache, first_small}
use Rattle.slab_core.proofs.Slabs.is_live_object.Goals as goal

pub superblock-superblock-requires-clause-machine_frame : goal.superblock-superblock-requires-clause-machine_frame
superblock-superblock-requires-clause-machine_frame c = machine_frame_within c.requires.slab

pub record_place-place-requires-clause-index : goal.record_place-place-requires-clause-index
record_place-place-requires-clause-index c = omega (arith, (slab_cache c.requires.slab c.requires.tables).few, c.requires.index)

pub byte_in-requires : goal.byte_in-requires
byte_in-requires c =
    object_under c.requires.slab c.requires.tables c.requires.index c.requires.unit c.record_place-place.ensures c.superblock-superblock.ensures

pub overflow_cast-result-else-in_page : goal.overflow_cast-result-else-in_page
overflow_cast-result-else-in_page c =
    omega (arith, (slab_cache c.requires.slab c.requires.tables).few_large (sym c.in_page.ensures ∙ c.if-in_page.false), c.requires.index)

pub overflow_shr-result-else-in_page : goal.overflow_shr-result-else-in_page
overflow_shr-result-else-in_page c =
    omega (arith, (slab_cache c.requires.slab c.requires.tables).few_large (sym c.in_page.ensures ∙ c.if-in_page.false), c.requires.index)

pub record_place-place-requires-clause-frame : goal.record_place-place-requires-clause-frame
record_place-place-requires-clause-frame c = first_small c.requires.slab c.requires.laws c.requires.unit
