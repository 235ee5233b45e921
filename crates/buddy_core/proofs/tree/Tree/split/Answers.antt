use Rattle.std.proofs.Common.{◌≡◌, sym, ap, subst, ◌∙◌, ℕ, List, ◌-◌, ◌*◌, ◌/◌, ◌%◌, ◌+◌, ◌^◌, ◌<◌, length, set, length-set, arith}
use Rattle.std.specs.Prelude.{bit_or}
use Rattle.std.proofs.lemmas.Nat.{one_shl}
use Rattle.std.proofs.lemmas.List.{get_or-set_same}
use Rattle.buddy_core.specs.Stored.{StoredTree}
use Rattle.buddy_core.specs.Tree.{Shows, Mended}
use Rattle.buddy_core.proofs.TreeNodes.{tree_is, written_back}
use Rattle.buddy_core.proofs.TreeChanges.{start_reserve}
use Rattle.buddy_core.proofs.TreeSteps.{node_up, node_shifted, step_split}
use Rattle.buddy_core.proofs.tree.Tree.split.Goals as goal

pub node_of-node-requires : goal.node_of-node-requires
node_of-node-requires c =
    let small = (tree_is _ _ _ c.self.view_is c.self.invariant).small in
    omega arith

pub overflow_sub-words : goal.overflow_sub-words
overflow_sub-words c =
    let some = (node_shifted c.args.self.now.order c.args.order c.args.first c.args.leaf c.node_of-node.result (omega arith) c.requires.first c.requires.leaf c.node_of-node.ensures).some in
    omega arith

pub loop-level-init : goal.loop-level-init
loop-level-init c =
    let top = c.args.self.now.order in
    let words = c.deref_mut-words.result.now in
    let is = tree_is _ _ _ c.self.view_is c.self.invariant in
    let same : words ≡ c.args.self.now.words = c.deref_mut-words.ensures.value ∙ ap (λ (t : StoredTree). t.words) c.self.view_is in
    let node = node_shifted top c.args.order c.args.first c.args.leaf c.node_of-node.result (omega arith) c.requires.first c.requires.leaf c.node_of-node.ensures in
    let stored = node.stored in
    let size : length words + 1 ≡ 2 ^ (top + 1) = ap (λ (ws : List ℕ). length ws + 1) same ∙ is.size in
    record {
      size = ap (λ n. n + 1) (length-set words (c.node_of-node.result - 1) 0) ∙ size;
      node = node;
      word = sym (get_or-set_same words (c.node_of-node.result - 1) 0 0 (omega arith));
      mended = λ large small shows free less. start_reserve top c.args.order (top - c.args.order) c.args.first large small words (omega arith) c.requires.first
          (subst (λ (ws : List ℕ). Shows top large ws) (sym same) shows) less c.node_of-node.result (node.at (top - c.args.order) (omega arith));
    }

pub loop-level-preserved : goal.loop-level-preserved
loop-level-preserved c =
    let l = c.loop-level in
    let i = l.invariant in
    let top = c.args.self.now.order in
    let limit = (tree_is _ _ _ c.self.view_is c.self.invariant).small in
    let lt : l.level < top = omega arith in
    let inner = i.node.inner lt in
    let stored = i.node.stored in
    let size = i.size in
    let other = c.sibling.result in
    let one = 1 * 2 ^ l.level % 65536 in
    let v = bit_or l.word one in
    let first = length-set l.words (other - 1) one in
    record {
      size = ap (λ n. n + 1) (length-set (set l.words (other - 1) one) (l.node / 2 - 1) v ∙ first) ∙ size;
      node = node_up top l.level c.args.first l.node c.requires.first lt i.node;
      word = sym (get_or-set_same (set l.words (other - 1) one) (l.node / 2 - 1) v 0 (omega arith));
      mended = λ large small shows free less. step_split top l.level c.args.first l.node c.requires.first lt i.node l.words size other c.sibling.ensures
          c.args.order c.args.from large small (omega arith) (omega arith) free less one v (one_shl l.level 16 (omega arith)) (ap (λ w. bit_or w one) i.word)
          (i.mended large small shows free less);
    }

pub returns-clause-mended : goal.returns-clause-mended
returns-clause-mended c = λ large small shows free less.
    let l = c.loop-level in
    let from : l.level ≡ c.args.from = omega arith in
    let whole = ap (λ (t : StoredTree). length t.words + 1) c.self.view_is ∙ (tree_is _ _ _ c.self.view_is c.self.invariant).size in
    let size = l.invariant.size in
    subst (λ (ws : List ℕ). Mended c.args.self.now.order c.args.from c.args.first large small ws) (sym (written_back l.words _ c.self.inside.words.len (omega (arith, c.self.inside.words.ok.0))))
    (subst (λ i. Mended c.args.self.now.order i c.args.first large small l.words) from (l.invariant.mended large small shows free less))
