use Rattle.std.proofs.Common.{ap, ◌∙◌, ◌*◌, ◌%◌, ◌^◌, arith}
use Rattle.std.proofs.lemmas.Nat.{one_shl}
use Rattle.buddy_core.specs.Stored.{StoredTree}
use Rattle.buddy_core.proofs.TreeNodes.{tree_is}
use Rattle.buddy_core.proofs.TreeChanges.{shows_all}
use Rattle.buddy_core.proofs.tree.Tree.fill_bare.Goals as goal

pub returns-clause-words : goal.returns-clause-words
returns-clause-words c =
    let top = c.args.self.now.order in
    let small = (tree_is _ _ _ c.self.view_is c.self.invariant).small in
    shows_all top c.self.inside.words.items _ (ap (λ (t : StoredTree). t.words) (c.self.view_is ∙ c.requires))
    (ap (λ (t : StoredTree). 1 * 2 ^ t.order % 65536) c.self.view_is ∙ one_shl top 16 (omega arith))
