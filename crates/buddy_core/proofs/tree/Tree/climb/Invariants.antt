use Rattle.std.proofs.Common.{◌≡◌, ℕ, ◌+◌, ◌*◌, ◌^◌, ◌<◌, ◌≤◌, Bool, length}
use Rattle.buddy_core.specs.Tree.{Mended, IsConfined, IsNode}
use Rattle.buddy_core.proofs.tree.Tree.climb.Given as goal

-- Inside the block of order `level` around frame `first`, the words are those of a separate tree for the new availability. The
-- words outside this block are unchanged. `around` is the node of the next larger block, or 0 if there is none.
abbrev pub invariant-loop-around : goal.invariant-loop-around
invariant-loop-around l = record {
  size : length l.words + 1 ≡ 2 ^ (l.fn.self.order + 1);
  within : l.level ≤ l.fn.self.order;
  next : l.level < l.fn.self.order → IsNode l.fn.self.order (l.level + 1) l.first l.around;
  room : l.level < l.fn.self.order → 2 * l.around + 1 < 2 ^ (l.fn.self.order + 1);
  last : l.level ≡ l.fn.self.order → l.around ≡ 0;
  mended : (old new : ℕ → Bool) → Mended l.fn.self.order l.order l.first old new l.fn.self.words → IsConfined l.fn.self.order l.order l.first old new
      → Mended l.fn.self.order l.level l.first old new l.words × IsConfined l.fn.self.order l.level l.first old new;
}

abbrev pub decreases-loop-around : goal.decreases-loop-around
decreases-loop-around l = l.around
