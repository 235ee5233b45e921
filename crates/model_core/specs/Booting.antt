-- The sizes that a machine may have.
use Rattle.std.specs.Prelude.{ℕ, ◌*◌, ◌^◌, nat_le, ◌&&◌, Bool}
use Rattle.model_core.specs.declared.limits.TheConstants.{MIN_ORDER, MAX_ORDER, MAX_SUPERBLOCKS, MAX_TENANTS, WIDE_ORDER, WIDE_SUPERBLOCKS, WIDE_TENANTS, WIDE_FRAMES}
use Rattle.model_core.specs.declared.config.Config.{Config}

abbrev pub is_between : ℕ → ℕ → ℕ → Bool
is_between low high n = nat_le low n && nat_le n high

-- each size is in its range
abbrev pub is_bootable : Config → Bool
is_bootable c =
    is_between MIN_ORDER MAX_ORDER c.order && (is_between 1 MAX_SUPERBLOCKS c.superblocks && is_between 1 MAX_TENANTS c.tenants)

-- each size is in the wider range of machines that are called directly, and the machine has at most WIDE_FRAMES frames
abbrev pub is_wide : Config → Bool
is_wide c =
    is_between MIN_ORDER WIDE_ORDER c.order && (is_between 1 WIDE_SUPERBLOCKS c.superblocks
    && (is_between 1 WIDE_TENANTS c.tenants && nat_le (c.superblocks * 2 ^ c.order) WIDE_FRAMES))
