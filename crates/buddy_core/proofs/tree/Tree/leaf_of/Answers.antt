use Rattle.std.proofs.Common.{◌+◌, ◌*◌, ◌%◌, ◌^◌, ap, ◌∙◌, arith}
use Rattle.std.proofs.lemmas.Nat.{one_shl}
use Rattle.buddy_core.specs.Stored.{StoredTree}
use Rattle.buddy_core.proofs.TreeNodes.{tree_is}
use Rattle.buddy_core.proofs.tree.Tree.leaf_of.Goals as goal

pub returns : goal.returns
returns c =
    let small = (tree_is _ _ _ c.self.view_is c.self.invariant).small in
    let shift = ap (λ (t : StoredTree). 1 * 2 ^ t.order % 4294967296 + c.args.first) c.self.view_is in
    let top = one_shl c.args.self.now.order 32 (omega arith) in
    shift ∙ ap (λ n. n + c.args.first) top
