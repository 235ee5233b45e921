use Rattle.std.proofs.Common.{◌-◌, ◌≤◌}
use Rattle.buddy_core.proofs.TreeSearch.{Reached}
use Rattle.buddy_core.proofs.tree.Tree.search.Given as goal

-- the search has reached `node` after `level` - `order` steps down, and `level` is at most the order of the superblock
abbrev pub invariant-loop-node : goal.invariant-loop-node
invariant-loop-node l = record {
  from : l.order ≤ l.level;
  within : l.level ≤ l.fn.self.order;
  reached : Reached l.fn.self.order l.order (l.level - l.order) l.node l.words;
}

abbrev pub decreases-loop-node : goal.decreases-loop-node
decreases-loop-node l = l.fn.self.order - l.level
