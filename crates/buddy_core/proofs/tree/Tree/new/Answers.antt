use Rattle.std.proofs.Common.{◌≡◌, ap, ◌∙◌, ◌-◌, ◌*◌, ◌%◌, ◌+◌, ◌^◌, ◌≤◌, ℕ, List, length, replicate, add-one, arith}
use Rattle.std.proofs.lemmas.Nat.{shl_whole}
use Rattle.std.proofs.Math.Nat.{pow-suc}
use Rattle.model_core.specs.declared.limits.TheConstants.{WIDE_ORDER}
use Rattle.buddy_core.specs.Stored.{StoredTree, bare_tree}
use Rattle.buddy_core.proofs.TreeChanges.{bare_size}
use Rattle.buddy_core.proofs.tree.Tree.new.Goals as goal

bare_words : (order : ℕ) (words : List ℕ) → order ≤ WIDE_ORDER → words ≡ replicate (2 * 2 ^ order % 18446744073709551616 - 1) 0 → words ≡ (bare_tree order).words
bare_words order words small e =
    let shift = shl_whole 2 2 order 64 (omega arith) (omega arith) in
    e ∙ ap (λ n. replicate n 0) (let count : 2 * 2 ^ order % 18446744073709551616 - 1 ≡ 2 ^ (order + 1) - 1 = omega (arith, pow-suc 2 order, ap (λ i. 2 ^ i) (add-one order)) in count)

pub invariant_of-result : goal.invariant_of-result
invariant_of-result c =
    let words = bare_words c.args.order c.in_ok-words.words.items c.requires (c.in_ok-words.ensures.items_if_clones_equal (λ _ e. e)) in
    record { small = c.requires; size = ap (λ (ws : List ℕ). length ws + 1) words ∙ bare_size c.args.order }

pub returns : goal.returns
returns c = ap (tree c.args.order) (bare_words c.args.order c.in_ok-words.words.items c.requires (c.in_ok-words.ensures.items_if_clones_equal (λ _ e. e)))
  where
    tree : ℕ → List ℕ → StoredTree
    tree order words = record { order = order; words = words }
