-- After boot with superblocks of 8 frames, a kernel shows the opening world.
use Rattle.std.proofs.Common.{ℕ, ◌≤◌, refl, arith}
use Rattle.std.proofs.lemmas.List.{length-replicate}
use Rattle.model_core.specs.declared.limits.TheConstants.{MAX_SUPERBLOCKS, MAX_TENANTS}
use Rattle.space_core.proofs.EmptySpace.{empty_space-IsSpace}
use Rattle.machine_changes.proofs.EmptyTenant.{opening_shows}
use Rattle.world_core.specs.World.{opening_world}
use Rattle.kernel_core.specs.Content.{PartsAgree, opening_content}
use Rattle.kernel_core.specs.Shows.{Shows}
use Rattle.kernel_core.proofs.Opening.{opening_world_shown}

-- with superblocks of 8 frames, the parts agree before the first event
opening_agrees : (superblocks tenants : ℕ) → superblocks ≤ MAX_SUPERBLOCKS → tenants ≤ MAX_TENANTS → PartsAgree (opening_content 3 superblocks tenants)
unfolding opening_content
opening_agrees superblocks tenants few many = record {
  space = empty_space-IsSpace _ superblocks tenants (omega arith) (omega arith) (omega (arith, few)) (omega (arith, many)) (omega arith);
  order = omega arith;
  few = omega (arith, few);
  tenants = omega (arith, many);
  top = refl;
  sheets = refl;
  holdings = length-replicate tenants _;
  agree = (opening_shows 3 superblocks tenants).agree;
}

pub opening_shown : (superblocks tenants : ℕ) → superblocks ≤ MAX_SUPERBLOCKS → tenants ≤ MAX_TENANTS → Shows (opening_content 3 superblocks tenants) (opening_world superblocks tenants)
opening_shown superblocks tenants few many = opening_world_shown 3 superblocks tenants (opening_agrees superblocks tenants few many)
