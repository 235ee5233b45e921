-- For each law of objects that were not taken before, an example that meets its premises by computation. Slots have 8 frames.
use Rattle.std.proofs.Common.{◌≡◌, ◌+◌, true, false, List, [], ◌∷◌, ◌++◌, Some, replicate, refl, arith}
use Rattle.model_core.specs.Machine.{Slab, Cache}
use Rattle.words_core.specs.declared.event.Command.TheVariants as Command
use Rattle.world_core.specs.PrivateStep.{Entry, Ask, Grant, command_step}
use Rattle.world_core.specs.Reached.{reached_machine, ReachedConstructed, ReachedConstructedWhenTaken}
use Rattle.world_core.proofs.ComputedTraces.{computed_machine}

-- These entries grant a slot and make a cache.

abbrev entries : List Entry
entries = Grant ∷ Ask (Command.Cache 100 8 (record { items = 90 ∷ 91 ∷ [] })) ∷ []

-- the slab of this cache after its first object is taken
abbrev the_slab : Slab
the_slab = record { first = 0; colour = 0; live = true ∷ replicate 38 false }

abbrev the_cache : Cache
the_cache = record { number = 0; size = 100; align = 8; pattern = 90 ∷ 91 ∷ []; made = 1; slabs = the_slab ∷ [] }

-- the second object was not taken, so it has the bytes of the pattern
ReachedConstructed-met : ReachedConstructed → (reached_machine 32 3 (entries ++ Ask (Command.Take 0) ∷ [])).bytes (104 + 7) ≡ Some 91
unfolding computed_machine
ReachedConstructed-met law = law 32 3 (entries ++ Ask (Command.Take 0) ∷ []) (record { cache = the_cache; slab = the_slab; index = 1 }) 7 (tt, (refl, (tt, tt)))
    (record { cache_in = (0, omega arith, refl); slab_in = (0, omega arith, refl); index_in = omega arith }) (omega arith) refl

-- the `take` that makes the slab returns the first object, which has the bytes of the pattern
ReachedConstructedWhenTaken-met : ReachedConstructedWhenTaken → (command_step 32 3 (Command.Take 0) (reached_machine 32 3 entries)).machine.bytes (0 + 7) ≡ Some 91
unfolding computed_machine
ReachedConstructedWhenTaken-met law = law 32 3 0 entries (record { cache = the_cache; slab = the_slab; index = 0 }) 7 (tt, (refl, tt)) refl
    (record { cache_in = (0, omega arith, refl); slab_in = (0, omega arith, refl); index_in = omega arith }) (omega arith) refl
