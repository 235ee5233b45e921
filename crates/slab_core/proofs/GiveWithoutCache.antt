-- A give to a cache that the tenant does not have is refused with `NoCache`.
use Rattle.std.proofs.Common.{◌≡◌, ℕ, None, ap, ◌∙◌}
use Rattle.std.specs.Prelude.{option_map}
use Rattle.model_core.specs.Machine.{Machine}
use Rattle.model_core.specs.Slabs.{cache_of}
use Rattle.model_core.specs.Operations.{refuse}
use Rattle.model_core.specs.CacheOperations.{give_step, give_of}
use Rattle.model_core.specs.declared.refusals.GiveRefusal.TheVariants.{NoCache}
use Rattle.space_core.specs.Content as spaces
use Rattle.buddy_core.specs.Content as buddies
use Rattle.slab_tables.specs.Content.{Content, cache_at}
use Rattle.machine_changes.specs.Shows.{bare, ShowsMachine}
use Rattle.machine_changes.proofs.SlabFacts.{none_mapped}

-- if the tables have no cache c of tenant t, the tenant's machine has none either
pub no_cache : (r : spaces.Content) (b : buddies.Content) (s : Content) (t c : ℕ) (m : Machine) → ShowsMachine r b s t m → cache_at s t c ≡ None → cache_of m c ≡ None
no_cache r b s t c m h none = none_mapped (cache_of m c) (h.caches c ∙ ap (option_map (bare c)) none)

pub give_refused : (r : spaces.Content) (b : buddies.Content) (s : Content) (t c place : ℕ) (m : Machine) → ShowsMachine r b s t m → cache_at s t c ≡ None
    → give_step c place m ≡ refuse NoCache m
unfolding give_step
give_refused r b s t c place m h none = ap (give_of place m) (no_cache r b s t c m h none)
