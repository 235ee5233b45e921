-- The parts that a kernel has after boot agree, and they show the world after boot.
use Rattle.std.proofs.Common.{◌≡◌, ℕ, ◌*◌, ◌^◌, ◌<◌, ◌≤◌, ◌&&◌, nat_le, true, refl, sym, ◌∙◌, subst, arith}
use Rattle.std.proofs.Math.Nat.{pow-le-pow_right, mul-le-mul}
use Rattle.std.proofs.lemmas.List.{length-replicate}
use Rattle.buddy_core.specs.Content as buddies
use Rattle.machine_changes.specs.Shows.{Agree}
use Rattle.machine_changes.proofs.EmptyTenant.{opening_shows}
use Rattle.kernel_core.specs.Content.{content_of, opening_content, PartsAgree}
use Rattle.std.proofs.lemmas.Bool.{and_from, and_parts, leb-true, le-leb}
use Rattle.std.proofs.lemmas.Option.{slice_get_within, same_Some}
use Rattle.std.specs.Prelude.{replicate}
use Rattle.model_core.specs.Machine.{empty_machine}
use Rattle.model_core.specs.declared.limits.TheConstants.{MIN_ORDER, MAX_ORDER, MAX_SUPERBLOCKS, MAX_TENANTS, WIDE_ORDER, WIDE_SUPERBLOCKS, WIDE_TENANTS, WIDE_FRAMES}
use Rattle.world_core.specs.World.{opening_world}
use Rattle.world_core.proofs.MachineLists.{slice_get-replicate}
use Rattle.kernel_core.specs.Shows.{ShowsMachine, Shows}
use Rattle.model_core.specs.declared.config.Config.{Config}
use Rattle.model_core.specs.Booting.{is_between, is_bootable, is_wide}

pub opening_agrees : (order superblocks tenants : ℕ)
    → Agree (opening_content order superblocks tenants).space (opening_content order superblocks tenants).buddy (opening_content order superblocks tenants).slabs
unfolding opening_content
opening_agrees order superblocks tenants = (opening_shows order superblocks tenants).agree

-- the content that is made from the parts of `opening_content` is `opening_content` again
pub opening_is : (order superblocks tenants : ℕ)
    → content_of (opening_content order superblocks tenants).space (opening_content order superblocks tenants).buddy (opening_content order superblocks tenants).slabs
    ≡ opening_content order superblocks tenants
unfolding opening_content
opening_is order superblocks tenants = λ i. record {
  order = order;
  superblocks = superblocks;
  tenants = length-replicate tenants (buddies.nothing_held order superblocks) i;
  space = (opening_content order superblocks tenants).space;
  buddy = (opening_content order superblocks tenants).buddy;
  slabs = (opening_content order superblocks tenants).slabs;
}

-- The world after boot

-- if a configuration is bootable, its order and its numbers of superblocks and tenants are at most the limits
pub bootable : (c : Config) → is_bootable c ≡ true → (c.order ≤ MAX_ORDER) × (c.superblocks ≤ MAX_SUPERBLOCKS) × (c.tenants ≤ MAX_TENANTS)
bootable c is =
    let first = and_parts (is_between MIN_ORDER MAX_ORDER c.order) (is_between 1 MAX_SUPERBLOCKS c.superblocks && is_between 1 MAX_TENANTS c.tenants) is in
    let second = and_parts (is_between 1 MAX_SUPERBLOCKS c.superblocks) (is_between 1 MAX_TENANTS c.tenants) first.1 in (
      leb-true c.order MAX_ORDER (and_parts (nat_le MIN_ORDER c.order) (nat_le c.order MAX_ORDER) first.0).1,
      leb-true c.superblocks MAX_SUPERBLOCKS (and_parts (nat_le 1 c.superblocks) (nat_le c.superblocks MAX_SUPERBLOCKS) second.0).1,
      leb-true c.tenants MAX_TENANTS (and_parts (nat_le 1 c.tenants) (nat_le c.tenants MAX_TENANTS) second.1).1,
    )

-- a bootable machine has at most WIDE_FRAMES frames
pub few_frames : (c : Config) → is_bootable c ≡ true → c.superblocks * 2 ^ c.order ≤ WIDE_FRAMES
few_frames c is =
    let sizes = bootable c is in
    let powers : 2 ^ c.order ≤ 2 ^ MAX_ORDER = pow-le-pow_right {n = 2} (omega arith) sizes.0 in
    omega (arith, mul-le-mul {n₁ = c.superblocks} {m₁ = 2 ^ c.order} sizes.1 powers)

between_more : (low high more n : ℕ) → high ≤ more → is_between low high n ≡ true → is_between low more n ≡ true
between_more low high more n fits is =
    let ends = and_parts (nat_le low n) (nat_le n high) is in
    and_from (nat_le low n) (nat_le n more) ends.0 (le-leb n more (omega (arith, leb-true n high ends.1, fits)))

-- a bootable configuration is wide
pub bootable_is_wide : (c : Config) → is_bootable c ≡ true → is_wide c ≡ true
bootable_is_wide c is =
    let first = and_parts (is_between MIN_ORDER MAX_ORDER c.order) (is_between 1 MAX_SUPERBLOCKS c.superblocks && is_between 1 MAX_TENANTS c.tenants) is in
    let second = and_parts (is_between 1 MAX_SUPERBLOCKS c.superblocks) (is_between 1 MAX_TENANTS c.tenants) first.1 in
    let few = le-leb (c.superblocks * 2 ^ c.order) WIDE_FRAMES (few_frames c is) in
    let tenants = and_from (is_between 1 WIDE_TENANTS c.tenants) (nat_le (c.superblocks * 2 ^ c.order) WIDE_FRAMES) (between_more 1 MAX_TENANTS WIDE_TENANTS c.tenants (omega arith) second.1) few in
    and_from (is_between MIN_ORDER WIDE_ORDER c.order) _ (between_more MIN_ORDER MAX_ORDER WIDE_ORDER c.order (omega arith) first.0)
    (and_from (is_between 1 WIDE_SUPERBLOCKS c.superblocks) _ (between_more 1 MAX_SUPERBLOCKS WIDE_SUPERBLOCKS c.superblocks (omega arith) second.0) tenants)

pub opening_world_shown : (order superblocks tenants : ℕ) → PartsAgree (opening_content order superblocks tenants)
    → Shows (opening_content order superblocks tenants) (opening_world superblocks tenants)
unfolding opening_content opening_world
opening_world_shown order superblocks tenants agree = record {
  agree = agree;
  owners = refl;
  tenants = length-replicate tenants empty_machine;
  machines = λ t m here.
      let within : t < tenants = omega (arith, slice_get_within (replicate tenants empty_machine) t m here, length-replicate tenants empty_machine) in
      let is : empty_machine ≡ m = same_Some empty_machine m (sym (slice_get-replicate tenants t empty_machine within) ∙ here) in
      subst (λ x. ShowsMachine (opening_content order superblocks tenants) t x) is ((opening_shows order superblocks tenants).shows t);
}
