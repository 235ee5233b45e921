use Rattle.std.proofs.Common.{◌≡◌, ◌≤◌, ◌*◌}
use Rattle.std.specs.Prelude.{flat_map}
use Rattle.model_core.specs.Machine.{Machine}
use Rattle.model_core.specs.Slabs.{empty_blocks}
use Rattle.model_core.specs.CacheOperations.{frames_of}
use Rattle.space_core.specs.Content as spaces
use Rattle.buddy_core.specs.Content as buddies
use Rattle.machine_changes.specs.Shows.{ShowsMachine, Agree}
use Rattle.machine_changes.specs.Steady.{IsSteady}
use Rattle.slab_core.proofs.EmptySlabFrames.{below}
use Rattle.slab_core.proofs.Slabs.empty_frames.Given as goal

abbrev pub invariant-loop-c : goal.invariant-loop-c
invariant-loop-c l = record {
  few : l.frames ≤ 8388608 * l.c;
  frames : (r : spaces.Content) (b : buddies.Content) (m : Machine) → Agree r b l.self → IsSteady r b l.self l.t → ShowsMachine r b l.self l.t m
      → l.frames ≡ frames_of (flat_map empty_blocks (below l.c m.caches));
}
