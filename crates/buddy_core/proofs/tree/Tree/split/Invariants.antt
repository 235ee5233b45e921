use Rattle.std.proofs.Common.{◌≡◌, ℕ, ◌+◌, ◌-◌, ◌^◌, Bool, get_or, length}
use Rattle.model_core.specs.Numbered.{number_at, IsOpen}
use Rattle.buddy_core.specs.Tree.{Shows, IsLess, Mended, IsNode}
use Rattle.buddy_core.proofs.tree.Tree.split.Given as goal

-- Inside the block of order `level` around frame `first`, the words are those of a separate tree for the new availability. The
-- words outside this block are unchanged.
abbrev pub invariant-loop-level : goal.invariant-loop-level
invariant-loop-level l = record {
  size : length l.words + 1 ≡ 2 ^ (l.fn.self.order + 1);
  node : IsNode l.fn.self.order l.level l.first l.node;
  word : l.word ≡ get_or l.words (l.node - 1) 0;
  mended : (large small : ℕ → Bool) → Shows l.fn.self.order large l.fn.self.words → IsOpen large l.fn.self.order l.from (number_at l.from l.first) → IsLess small large l.order l.first
      → Mended l.fn.self.order l.level l.first large small l.words;
}
