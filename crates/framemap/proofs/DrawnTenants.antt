-- A picture draws exactly the requested tenants.
use Rattle.std.proofs.Common.{◌≡◌, ℕ, ◌+◌, ◌<◌, ◌≤◌, min, Option, Some, None, IfSome, IfNone, refl, arith}
use Rattle.std.specs.Option.{ForSome}
use Rattle.kernel_core.specs.Content.{opening_content}
use Rattle.framemap.specs.Drawing.{end_drawn, first_drawn}

-- Let there be at most 255 tenants. If no tenant is requested, or if the requested one exists, the picture draws the tenants from
-- `first_drawn` to `end_drawn` - 1.
pub drawn_is : (only : Option ℕ) (first end tenants : ℕ) → IfSome only (λ t. (first ≡ t) × (end ≡ min (t + 1) 255))
    → IfNone only ((first ≡ 0) × (end ≡ tenants)) → ForSome only (λ t. t < tenants) → tenants ≤ 255
    → (first ≡ first_drawn only) × (end ≡ end_drawn tenants only)
drawn_is None first end tenants one all below few = all
drawn_is (Some t) first end tenants one all below few =
    let within : t < tenants = below t refl in (one.0, omega (arith, one.1))

pub opening_tenants : (order superblocks tenants : ℕ) → (opening_content order superblocks tenants).tenants ≡ tenants
unfolding opening_content
opening_tenants order superblocks tenants = refl
