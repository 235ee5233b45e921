use Rattle.std.proofs.Common.{◌≡◌, ℕ, ◌+◌, ◌-◌, ◌^◌, Bool, set, length}
use Rattle.buddy_core.specs.Tree.{Shows, IsLess, Mended, IsNode}
use Rattle.buddy_core.proofs.tree.Tree.join.Given as goal

-- If 2 ^ `level` is written as the word of `node`, the words inside the block of order `level` around frame `first` show that
-- this whole block is free.
abbrev pub invariant-loop-level : goal.invariant-loop-level
invariant-loop-level l = record {
  size : length l.words + 1 ≡ 2 ^ (l.fn.self.order + 1);
  node : IsNode l.fn.self.order l.level l.first l.node;
  mended : (small large : ℕ → Bool) → Shows l.fn.self.order small l.fn.self.words → IsLess small large l.order l.first
      → Mended l.fn.self.order l.level l.first small large (set l.words (l.node - 1) (2 ^ l.level));
}
