use Rattle.std.proofs.Common.{◌≡◌, ℕ, List, ◌+◌, ◌-◌, ◌*◌, ◌%◌, ◌^◌, ◌<◌, ap, subst, sym, ◌∙◌, Bool, true, false, refl, length, get_or, arith}
use Rattle.std.specs.Int.{bit_at, from_bool}
use Rattle.std.proofs.lemmas.Bool.{both_ways}
use Rattle.buddy_core.specs.Stored.{StoredTree}
use Rattle.buddy_core.specs.Tree.{Shows}
use Rattle.buddy_core.proofs.TreeNodes.{tree_is}
use Rattle.buddy_core.proofs.TreeSearch.{Reached, reached_first, reached_low, reached_high, reached_last, inner_above, inner_last, first_of, found_first}
use Rattle.buddy_core.proofs.tree.Tree.search.Goals as goal

-- `number` is 1 if the bit is true, and 0 otherwise. The loop goes to node 2 * node + 1 - number, which is the lower half of
-- `node` if the bit is true, and the upper half otherwise.
next : (node : ℕ) (bit : Bool) (number : ℕ) (P : ℕ → Type 0) → number ≡ from_bool bit → (bit ≡ true → P (2 * node)) → (bit ≡ false → P (2 * node + 1)) → P (2 * node + 1 - number)
next node true number P e left right = subst P (omega arith) (left refl)
next node false number P e left right = subst P (omega arith) (right refl)

pub loop-node-init : goal.loop-node-init
loop-node-init c = record {
  from = omega arith;
  within = c.requires;
  reached = reached_first c.args.self.now.order c.args.order _ c.as_slice-words.result.now (omega arith);
}

pub loop-node-smaller : goal.loop-node-smaller
loop-node-smaller c =
    let top = c.args.self.now.order in
    let size = ap (λ (ws : List ℕ). length ws + 1) c.as_slice-words.ensures.value ∙ ap (λ (t : StoredTree). length t.words + 1) c.self.view_is ∙ (tree_is _ _ _ c.self.view_is c.self.invariant).size in
    let i = c.loop-node.invariant in
    let from = i.from in
    let d = c.loop-node.level - c.args.order in
    let deep = inner_above top c.args.order d c.loop-node.node (length c.as_slice-words.result.now) size c.loop-node-test.true i.reached.least in
    let less : top - (c.loop-node.level + 1) < top - c.loop-node.level = omega arith in
    less

pub loop-node-preserved : goal.loop-node-preserved
loop-node-preserved c =
    let l = c.loop-node in
    let top = c.args.self.now.order in
    let words = c.as_slice-words.result.now in
    let size = ap (λ (ws : List ℕ). length ws + 1) c.as_slice-words.ensures.value ∙ ap (λ (t : StoredTree). length t.words + 1) c.self.view_is ∙ (tree_is _ _ _ c.self.view_is c.self.invariant).size in
    let from = l.invariant.from in
    let d = l.level - c.args.order in
    let deep = inner_above top c.args.order d l.node (length words) size c.loop-node-test.true l.invariant.reached.least in
    let high = reached_high top c.args.order d l.node (2 * l.node) (l.level + 1 - c.args.order) words deep (omega arith) (omega arith) in
    let low = reached_low top c.args.order d l.node (2 * l.node) (l.level + 1 - c.args.order) words deep (omega arith) (omega arith) in
    record {
      from = omega arith;
      within = omega arith;
      reached = next l.node c.has.result c.from.result (λ n. Reached top c.args.order (l.level + 1 - c.args.order) n words) c.from.ensures
          (λ e. low (c.has.ensures.0 e) l.invariant.reached)
          (λ e. high (λ b. both_ways c.has.result e (c.has.ensures.1 b)) l.invariant.reached);
    }

pub overflow_sub-result : goal.overflow_sub-result
overflow_sub-result c =
    let top = c.args.self.now.order in
    let same = ap (λ (t : StoredTree). t.order) c.self.view_is in
    let shift = ap (λ (t : StoredTree). 1 * 2 ^ t.order % 4294967296) c.self.view_is in
    let size = ap (λ (ws : List ℕ). length ws + 1) c.as_slice-words.ensures.value ∙ ap (λ (t : StoredTree). length t.words + 1) c.self.view_is ∙ (tree_is _ _ _ c.self.view_is c.self.invariant).size in
    let i = c.loop-node.invariant in
    let from = i.from in
    let within = i.within in
    let last = inner_last top c.args.order (c.loop-node.level - c.args.order) c.loop-node.node (length c.as_slice-words.result.now) size (omega arith) c.loop-node-test.false i.reached.depth in
    let way = reached_last top c.args.order c.loop-node.level c.loop-node.node c.as_slice-words.result.now (omega arith) i.reached in
    let first = first_of top c.args.order c.loop-node.node c.requires (tree_is _ _ _ c.self.view_is c.self.invariant).small way.least way.depth in
    omega arith

pub returns-clause-within : goal.returns-clause-within
returns-clause-within c =
    let top = c.args.self.now.order in
    let same = ap (λ (t : StoredTree). t.order) c.self.view_is in
    let shift = ap (λ (t : StoredTree). 1 * 2 ^ t.order % 4294967296) c.self.view_is in
    let size = ap (λ (ws : List ℕ). length ws + 1) c.as_slice-words.ensures.value ∙ ap (λ (t : StoredTree). length t.words + 1) c.self.view_is ∙ (tree_is _ _ _ c.self.view_is c.self.invariant).size in
    let i = c.loop-node.invariant in
    let from = i.from in
    let within = i.within in
    let last = inner_last top c.args.order (c.loop-node.level - c.args.order) c.loop-node.node (length c.as_slice-words.result.now) size (omega arith) c.loop-node-test.false i.reached.depth in
    let way = reached_last top c.args.order c.loop-node.level c.loop-node.node c.as_slice-words.result.now (omega arith) i.reached in
    let first = first_of top c.args.order c.loop-node.node c.requires (tree_is _ _ _ c.self.view_is c.self.invariant).small way.least way.depth in
    omega arith

pub returns-clause-found : goal.returns-clause-found
returns-clause-found c ok shows bit =
    let top = c.args.self.now.order in
    let words = c.as_slice-words.result.now in
    let same = ap (λ (t : StoredTree). t.order) c.self.view_is in
    let shift = ap (λ (t : StoredTree). 1 * 2 ^ t.order % 4294967296) c.self.view_is in
    let here : c.args.self.now.words ≡ words = ap (λ (t : StoredTree). t.words) (sym c.self.view_is) ∙ sym c.as_slice-words.ensures.value in
    let size = ap (λ (ws : List ℕ). length ws + 1) c.as_slice-words.ensures.value ∙ ap (λ (t : StoredTree). length t.words + 1) c.self.view_is ∙ (tree_is _ _ _ c.self.view_is c.self.invariant).size in
    let i = c.loop-node.invariant in
    let from = i.from in
    let within = i.within in
    let last = inner_last top c.args.order (c.loop-node.level - c.args.order) c.loop-node.node (length words) size (omega arith) c.loop-node-test.false i.reached.depth in
    let way = reached_last top c.args.order c.loop-node.level c.loop-node.node words (omega arith) i.reached in
    let first = first_of top c.args.order c.loop-node.node c.requires (tree_is _ _ _ c.self.view_is c.self.invariant).small way.least way.depth in
    found_first top c.args.order (top - c.args.order) c.loop-node.node _ words c.requires (omega arith) (omega arith) way
    ok (subst (λ (ws : List ℕ). Shows top ok ws) here shows) (ap (λ (ws : List ℕ). bit_at (get_or ws 0 0) c.args.order) (sym here) ∙ bit)
