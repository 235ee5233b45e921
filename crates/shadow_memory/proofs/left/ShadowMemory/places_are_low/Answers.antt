use Rattle.shadow_memory.proofs.StepsByPlace.{low_place}
use Rattle.shadow_memory.proofs.left.ShadowMemory.places_are_low.Goals as goal

pub returns : goal.returns
returns c = rw (← c.self.view_is) (λ place has. low_place c.self.inside.order place c.self.inside.slots.items c.self.invariant.1.whole has)
