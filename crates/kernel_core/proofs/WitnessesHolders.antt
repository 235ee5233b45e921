-- An instance of the law `OneHolder`. In the machine, frame 0 is a slab with one live object of 100 bytes, and frame 1 is a page
-- block.
use Rattle.std.proofs.Common.{◌≡◌, ℕ, length}
use Rattle.std.specs.Prelude.{filter}
use Rattle.model_core.specs.declared.limits.TheConstants.{MAX_CACHES}
use Rattle.model_core.specs.Layouts.{layout_of}
use Rattle.model_core.specs.Machine.{empty_machine, taken_blocks, choice}
use Rattle.model_core.specs.Slabs.{fresh_byte, grown_cache, grown, slab_to_use, reaped, by_need}
use Rattle.model_core.specs.Operations.{alloc_step, next_slot, after_grant}
use Rattle.model_core.specs.CacheOperations.{create_step, cache_step, next_number, take_step}
use Rattle.model_core.specs.Reach.{in_reach}
use Rattle.model_core.proofs.Witnesses.{machine, is_well_formed}
use Rattle.kernel_core.specs.Holders.{live_holders, has_byte, OneHolder}

abbrev holders_of : ℕ → ℕ
holders_of place = length (filter (has_byte place) (live_holders machine))

-- the last byte of the object, the byte behind it, and the first byte of the page block and the byte behind this block
pub OneHolder-met : OneHolder → (holders_of 99 ≡ 1) × (holders_of 100 ≡ 0) × (holders_of 4096 ≡ 1) × (holders_of 8192 ≡ 0)
unfolding layout_of alloc_step cache_step create_step next_number take_step grown_cache grown slab_to_use fresh_byte by_need reaped choice taken_blocks empty_machine next_slot after_grant in_reach
OneHolder-met law = (
  law MAX_CACHES 3 machine is_well_formed 99,
  law MAX_CACHES 3 machine is_well_formed 100,
  law MAX_CACHES 3 machine is_well_formed 4096,
  law MAX_CACHES 3 machine is_well_formed 8192,
)
