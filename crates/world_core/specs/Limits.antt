-- The limit on caches that this kernel is built with. The definitions take a limit as a parameter.
use Rattle.std.specs.Prelude.{ℕ}
use Rattle.model_core.specs.declared.limits.TheConstants.{MAX_CACHES}

-- the largest number of caches of one tenant
abbrev pub cache_limit : ℕ
cache_limit = MAX_CACHES
