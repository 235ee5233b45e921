-- The live object or page block that contains a place.
use Rattle.std.specs.Prelude.{◌≡◌, ℕ, false, Option, Some, None, Result, Ok, Err}
use Rattle.model_core.specs.Machine.{Machine}
use Rattle.model_core.specs.Reach.{in_reach}
use Rattle.words_core.specs.declared.reply.Refusal.{Refusal}
use Rattle.kernel_core.specs.declared.holders.Holder.{Holder}
use Rattle.kernel_core.specs.Content.{KernelContent}
use Rattle.kernel_core.specs.Shows.{ShowsMachine}
use Rattle.kernel_core.specs.Lending.{IsNotLent}
use Rattle.kernel_core.specs.Lookups.{HolderOf, FoundHolder, Refused, AnswersLookup}
use Rattle.partmem_c.specs.declared.holders.TheConstants.{OF_NO_CACHE}
use Rattle.partmem_c.specs.declared.holders.HolderNumbers.{HolderNumbers}

abbrev pub no_holder : HolderNumbers
no_holder = record { cache = 0; place = 0; bytes = 0 }

-- the number of a cache, or OF_NO_CACHE if there is none
abbrev pub cache_or_none : Option ℕ → ℕ
cache_or_none None = OF_NO_CACHE
cache_or_none (Some c) = c

-- A page block has the cache number OF_NO_CACHE. No cache has this number, since the numbers of caches are below 32.
abbrev pub numbers_of_holder : Holder → HolderNumbers
numbers_of_holder holder = record { cache = cache_or_none holder.cache; place = holder.place; bytes = holder.bytes }

-- The live page block or live object that has the byte at a tenant's place, as the tenant's private machine has it. If there is
-- no such tenant, or nothing live has the byte, the outcome is the refusal.
abbrev pub FindsHolder : KernelContent → ℕ → ℕ → Result HolderNumbers Refusal → Type 0
FindsHolder k t place (Ok found) =
    (holder : Holder) × (found ≡ numbers_of_holder holder) × AnswersLookup k t (HolderOf place) (FoundHolder holder)
FindsHolder k t place (Err refusal) =
    IsNotLent k t (λ why. (why ≡ Refusal.OutOfReach) × ((m : Machine) → ShowsMachine k t m → in_reach m place 1 ≡ false)) refusal
    × AnswersLookup k t (HolderOf place) (Refused refusal)
