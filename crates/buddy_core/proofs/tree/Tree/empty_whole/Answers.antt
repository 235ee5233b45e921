use Rattle.std.proofs.Common.{ap, ◌∙◌, ℕ, List, set}
use Rattle.buddy_core.specs.Stored.{StoredTree}
use Rattle.buddy_core.proofs.TreeChanges.{bare_again}
use Rattle.buddy_core.proofs.tree.Tree.empty_whole.Goals as goal

pub returns : goal.returns
returns c =
    ap (λ (t : StoredTree). record t { words = set t.words 0 0 }) c.self.view_is
    ∙ ap (tree c.args.self.now.order) (bare_again c.args.self.now.order c.args.self.now.words c.requires)
  where
    tree : ℕ → List ℕ → StoredTree
    tree order words = record { order = order; words = words }
