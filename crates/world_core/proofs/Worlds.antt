-- Running `xs ++ ys` leaves the same world as running xs and then ys. An opening world has a machine for each tenant.
use Rattle.std.proofs.Common.{◌≡◌, ℕ, List, [], ◌∷◌, ◌++◌, length, refl}
use Rattle.std.proofs.lemmas.List.{length-replicate}
use Rattle.model_core.specs.Machine.{empty_machine}
use Rattle.words_core.specs.declared.event.Event.{Event}
use Rattle.world_core.specs.World.{World, opening_world, world_step, world_after}

pub world_both : (limit order : ℕ) (xs ys : List Event) (w : World)
    → world_after limit order w (xs ++ ys) ≡ world_after limit order (world_after limit order w xs) ys
world_both limit order [] ys w = refl
world_both limit order (event ∷ xs) ys w = world_both limit order xs ys (world_step limit order event w).world

pub opening_tenants : (superblocks tenants : ℕ) → length (opening_world superblocks tenants).machines ≡ tenants
unfolding opening_world
opening_tenants superblocks tenants = length-replicate tenants empty_machine
