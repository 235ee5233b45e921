use Rattle.std.proofs.Common.{◌≡◌, drop}
use Rattle.reply_judge.specs.Faults.{slab_in_way}
use Rattle.reply_judge.proofs.faults.slab_over.Given as goal

abbrev pub invariant-loop-cache : goal.invariant-loop-cache
invariant-loop-cache l = slab_in_way l.block (drop l.cache-index l.caches) ≡ slab_in_way l.block l.caches
