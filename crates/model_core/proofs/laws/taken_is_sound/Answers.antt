use Rattle.model_core.proofs.TakenSteps.{taken_sound, alloc_takes, free_releases}
use Rattle.model_core.proofs.SlabBlocks.{growth_takes, reap_releases}
use Rattle.model_core.proofs.laws.taken_is_sound.Goals as goal

pub returns : goal.returns
returns c = record { sound = taken_sound; alloc = alloc_takes; free = free_releases; growth = growth_takes; reap = reap_releases }
