use Rattle.std.proofs.Common.{◌≡◌, sym, ap, subst, ◌∙◌, ℕ, List, ◌-◌, ◌*◌, ◌%◌, ◌+◌, ◌^◌, ◌<◌, length, set, length-set, arith}
use Rattle.std.proofs.lemmas.Nat.{one_shl}
use Rattle.model_core.specs.Numbered.{number_at, IsOpen}
use Rattle.buddy_core.specs.Stored.{StoredTree}
use Rattle.buddy_core.specs.Tree.{Shows, Mended}
use Rattle.buddy_core.proofs.TreeNodes.{tree_is, written_back}
use Rattle.buddy_core.proofs.TreeChanges.{start_release, release_whole}
use Rattle.buddy_core.proofs.TreeSteps.{node_up, node_shifted, step_join, step_open}
use Rattle.buddy_core.proofs.tree.Tree.join.Goals as goal

pub node_of-node-requires : goal.node_of-node-requires
node_of-node-requires c =
    let small = (tree_is _ _ _ c.self.view_is c.self.invariant).small in
    omega arith

pub loop-level-init : goal.loop-level-init
loop-level-init c =
    let top = c.args.self.now.order in
    let words = c.deref_mut-words.result.now in
    let is = tree_is _ _ _ c.self.view_is c.self.invariant in
    let same : words ≡ c.args.self.now.words = c.deref_mut-words.ensures.value ∙ ap (λ (t : StoredTree). t.words) c.self.view_is in
    let node = node_shifted top c.args.order c.args.first c.args.leaf c.node_of-node.result (omega arith) c.requires.first c.requires.leaf c.node_of-node.ensures in
    record {
      size = ap (λ (ws : List ℕ). length ws + 1) same ∙ is.size;
      node = node;
      mended = λ small large shows less. start_release top c.args.order (top - c.args.order) c.args.first small large words (omega arith) c.requires.first
          (subst (λ (ws : List ℕ). Shows top small ws) (sym same) shows) less c.node_of-node.result (node.at (top - c.args.order) (omega arith));
    }

pub loop-level-preserved : goal.loop-level-preserved
loop-level-preserved c =
    let l = c.loop-level in
    let i = l.invariant in
    let top = c.args.self.now.order in
    let same = ap (λ (t : StoredTree). t.order) c.self.view_is in
    let small = (tree_is _ _ _ c.self.view_is c.self.invariant).small in
    let lt : l.level < top = omega arith in
    let other = c.sibling-buddy.result in
    let one = set l.words (other - 1) 0 in
    record {
      size = ap (λ n. n + 1) (length-set one (l.node - 1) 0 ∙ length-set l.words (other - 1) 0) ∙ i.size;
      node = node_up top l.level c.args.first l.node c.requires.first lt i.node;
      mended = λ small large shows less. step_join top l.level c.args.first l.node c.requires.first lt i.node l.words i.size other c.sibling-buddy.ensures
          c.args.order small large (omega arith) less (1 * 2 ^ l.level % 65536) (one_shl l.level 16 (omega arith)) c.if-words-buddy.false (i.mended small large shows less);
    }

pub returns-then-words-buddy-clause-mended : goal.returns-then-words-buddy-clause-mended
returns-then-words-buddy-clause-mended c = λ small large shows less.
    let l = c.loop-level in
    let top = c.args.self.now.order in
    let same = ap (λ (t : StoredTree). t.order) c.self.view_is in
    let limit = (tree_is _ _ _ c.self.view_is c.self.invariant).small in
    let lt : l.level < top = omega arith in
    let shift = one_shl l.level 16 (omega arith) in
    let one = 1 * 2 ^ l.level % 65536 in
    let whole : c.self.inside.words.len ≡ length (set l.words (l.node - 1) one) = omega (arith, c.self.inside.words.ok.0, length-set l.words (l.node - 1) one) in
    let mended = l.invariant.mended small large shows less in (
      subst (λ (ws : List ℕ). Mended top l.level c.args.first small large ws) (sym (written_back _ _ c.self.inside.words.len whole))
          (subst (λ n. Mended top l.level c.args.first small large (set l.words (l.node - 1) n)) (sym shift) mended),
      step_open top l.level c.args.first l.node c.requires.first lt l.invariant.node l.words l.invariant.size c.sibling-buddy.result c.sibling-buddy.ensures
          c.args.order small large (omega arith) less (1 * 2 ^ l.level % 65536) shift c.if-words-buddy.true mended,
    )

pub returns-clause-mended : goal.returns-clause-mended
returns-clause-mended c = λ small large shows less.
    let l = c.loop-level in
    let top = c.args.self.now.order in
    let same = ap (λ (t : StoredTree). t.order) c.self.view_is in
    let limit = (tree_is _ _ _ c.self.view_is c.self.invariant).small in
    let last : l.level ≡ top = omega arith in
    let mended = subst (λ i. Mended top i c.args.first small large (set l.words (l.node - 1) (2 ^ i))) last (l.invariant.mended small large shows less) in
    let shift = one_shl c.self.inside.order 16 (omega arith) in
    let one = 1 * 2 ^ c.self.inside.order % 65536 in
    let whole : c.self.inside.words.len ≡ length (set l.words (l.node - 1) one) = omega (arith, c.self.inside.words.ok.0, length-set l.words (l.node - 1) one) in
    let open_block = release_whole top c.args.first small large l.words c.requires.first l.invariant.size l.node
    (subst (λ i. l.node ≡ 2 ^ 0 + number_at i c.args.first) last (l.invariant.node.at 0 (omega arith))) mended in (
      subst (λ (ws : List ℕ). Mended top c.self.inside.order c.args.first small large ws) (sym (written_back _ _ c.self.inside.words.len whole))
          (subst (λ n. Mended top c.self.inside.order c.args.first small large (set l.words (l.node - 1) n)) (sym shift)
          (subst (λ n. Mended top n c.args.first small large (set l.words (l.node - 1) (2 ^ n))) (sym same) mended)),
      subst (λ n. IsOpen large top n (number_at n c.args.first)) (sym same) open_block,
    )
