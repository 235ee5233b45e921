use Rattle.std.proofs.Common.{◌≡◌, map, take, drop, ◌++◌}
use Rattle.model_core.specs.Owners.{is_of}
use Rattle.world_core.specs.World.{given_up}
use Rattle.reply_judge.proofs.owners.give_up_all.Given as goal

abbrev pub invariant-loop-owner : goal.invariant-loop-owner
invariant-loop-owner l = l.owners ≡ map (given_up (is_of l.t)) (take l.owner-index l.fn.owners) ++ drop l.owner-index l.fn.owners
