use Rattle.std.proofs.Common.{◌≡◌, inl, inr, sym, ◌∙◌, ap, ap₂, refl, subst, ℕ, suc, Bool, List, ◌+◌, ◌-◌, ◌*◌, ◌/◌, ◌%◌, ◌^◌, ◌<◌, ◌≤◌, get_or, set, length, length-set, arith}
use Rattle.std.specs.Prelude.{bit_or}
use Rattle.std.proofs.lemmas.Nat.{or_comm}
use Rattle.std.proofs.lemmas.Bool.{cases_lt}
use Rattle.std.proofs.Math.Nat.{div-eq_of_lt, pow-suc}
use Rattle.std.proofs.Math.Pow.{pow_mono}
use Rattle.buddy_core.specs.Stored.{StoredTree}
use Rattle.model_core.specs.Numbered.{number_at}
use Rattle.buddy_core.specs.Tree.{Shows, Mended, IsConfined, IsNode}
use Rattle.buddy_core.proofs.TreeNumbers.{number_whole}
use Rattle.buddy_core.proofs.TreeClimb.{shows_mended}
use Rattle.buddy_core.proofs.TreeNodes.{tree_is, written_back}
use Rattle.buddy_core.proofs.TreeSteps.{node_is, node_up, node_shifted, step_climb}
use Rattle.buddy_core.proofs.tree.Tree.climb.Goals as goal

-- If v is the OR of the words of both halves of node / 2, it is the OR of the words of `node` and of its sibling. `node` may be
-- either half.
halves : (words : List ℕ) (node v : ℕ) → 1 < node → v ≡ bit_or (get_or words (2 * (node / 2) - 1) 0) (get_or words (2 * (node / 2)) 0)
    → v ≡ bit_or (get_or words (node - 1) 0) (get_or words (4 * (node / 2) + 1 - node - 1) 0)
halves words node v more e = elim (cases_lt 0 (node % 2)) [
  | inl odd ↦
      let own : 2 * (node / 2) ≡ node - 1 = omega arith in
      let other : 2 * (node / 2) - 1 ≡ 4 * (node / 2) + 1 - node - 1 = omega arith in
      e ∙ ap₂ (λ i j. bit_or (get_or words i 0) (get_or words j 0)) other own ∙ or_comm (get_or words (4 * (node / 2) + 1 - node - 1) 0) (get_or words (node - 1) 0)
  | inr even ↦
      let own : 2 * (node / 2) - 1 ≡ node - 1 = omega arith in
      let other : 2 * (node / 2) ≡ 4 * (node / 2) + 1 - node - 1 = omega arith in
      e ∙ ap₂ (λ i j. bit_or (get_or words i 0) (get_or words j 0)) own other
]

-- if k is top, the node of the block of order k is 1, and node / 2 is 0
nothing_around : (top k f node : ℕ) → f < 2 ^ top → k ≡ top → IsNode top k f node → node / 2 ≡ 0
nothing_around top k f node small same n =
    let whole = n.at 0 (omega arith) ∙ ap (λ i. 2 ^ 0 + number_at i f) same ∙ ap (λ i. 2 ^ 0 + i) (number_whole top f small) in
    omega arith

-- the block of order k around frame f has a node whose parent is `around`
record IsInside (top k f around : ℕ) : Type 0 where
  node : ℕ
  is : IsNode top k f node
  half : node / 2 ≡ around

inside : (top k f around : ℕ) → f < 2 ^ top → k < top → IsNode top (k + 1) f around → IsInside top k f around
inside top k f around small lt next =
    let own = 2 ^ (top - k) + number_at k f in
    let is = node_is top k f own (omega arith) small refl in
    let up = node_up top k f own small lt is in
    record { node = own; is = is; half = up.at (top - (k + 1)) (omega arith) ∙ sym (next.at (top - (k + 1)) (omega arith)) }

room_around : (top k f around : ℕ) → f < 2 ^ top → k < top → IsNode top (k + 1) f around → 2 * around + 1 < 2 ^ (top + 1)
room_around top k f around small lt next =
    let i = inside top k f around small lt next in
    subst (λ n. 2 * n + 1 < 2 ^ (top + 1)) i.half (i.is.half lt)

-- if `Mended` and `IsConfined` hold for order k, they hold for order k + 1 after the loop writes the word of `around`
climbed : (top k f around : ℕ) (words : List ℕ) (old new : ℕ → Bool) → f < 2 ^ top → k < top → IsNode top (k + 1) f around → length words + 1 ≡ 2 ^ (top + 1)
    → Mended top k f old new words × IsConfined top k f old new
    → Mended top (k + 1) f old new (set words (around - 1) (bit_or (get_or words (2 * around - 1) 0) (get_or words (2 * around) 0))) × IsConfined top (k + 1) f old new
climbed top k f around words old new small lt next size so_far =
    let i = inside top k f around small lt next in
    let more = i.is.inner lt in
    let v = bit_or (get_or words (2 * around - 1) 0) (get_or words (2 * around) 0) in
    let both = halves words i.node v more (ap (λ n. bit_or (get_or words (2 * n - 1) 0) (get_or words (2 * n) 0)) (sym i.half)) in
    subst (λ n. Mended top (k + 1) f old new (set words (n - 1) v) × IsConfined top (k + 1) f old new) i.half
    (step_climb top k f i.node small lt i.is words size (4 * (i.node / 2) + 1 - i.node) (omega arith) old new v both so_far)

-- while `around` is above 0, k is below top: at the top, `around` is 0
rises : (top k around : ℕ) → k ≤ top → (k ≡ top → around ≡ 0) → 0 < around → k < top
rises top k around le last more = elim (cases_lt k top) [
  | inl lt ↦ lt
  | inr ge ↦ absurd (let none = last (omega arith) in omega arith)
]

-- if k is top, the node that `node_of` returns for order k + 1 is 0
none_larger : (top k f leaf node : ℕ) → f < 2 ^ top → leaf ≡ 2 ^ top + f → node ≡ leaf / 2 ^ (k + 1) → k ≡ top → node ≡ 0
none_larger top k f leaf node small at e same =
    let whole = pow_mono {i = suc top} {j = top + 1} (omega arith) in
    e ∙ ap (λ i. leaf / 2 ^ (i + 1)) same ∙ div-eq_of_lt {n = leaf} {m = 2 ^ (top + 1)} (omega (arith, pow-suc 2 top))

pub overflow_add-level : goal.overflow_add-level
overflow_add-level c =
    let small = (tree_is _ _ _ c.self.view_is c.self.invariant).small in
    omega arith

pub node_of-around-requires : goal.node_of-around-requires
node_of-around-requires c =
    let small = (tree_is _ _ _ c.self.view_is c.self.invariant).small in
    omega arith

pub loop-around-init : goal.loop-around-init
loop-around-init c =
    let top = c.args.self.now.order in
    let words = c.deref_mut-words.result.now in
    let same : words ≡ c.args.self.now.words = c.deref_mut-words.ensures.value ∙ ap (λ (t : StoredTree). t.words) c.self.view_is in
    let around = c.node_of-around.result in
    let next = λ (lt : c.args.order < top). node_shifted top (c.args.order + 1) c.args.first c.args.leaf around (omega arith) c.requires.first c.requires.leaf c.node_of-around.ensures in
    record {
      size = ap (λ (ws : List ℕ). length ws + 1) same ∙ (tree_is _ _ _ c.self.view_is c.self.invariant).size;
      within = c.requires.order;
      next = next;
      room = λ lt. room_around top c.args.order c.args.first around c.requires.first lt (next lt);
      last = λ whole. none_larger top c.args.order c.args.first c.args.leaf around c.requires.first c.requires.leaf c.node_of-around.ensures whole;
      mended = λ old new m confined. (subst (λ (ws : List ℕ). Mended top c.args.order c.args.first old new ws) (sym same) m, confined);
    }

pub loop-around-preserved : goal.loop-around-preserved
loop-around-preserved c =
    let l = c.loop-around in
    let i = l.invariant in
    let top = c.args.self.now.order in
    let lt = rises top l.level l.around i.within i.last c.loop-around-test.true in
    let v = bit_or (get_or l.words (2 * l.around - 1) 0) (get_or l.words (2 * l.around) 0) in
    let next = i.next lt in
    record {
      size = ap (λ n. n + 1) (length-set l.words (l.around - 1) v) ∙ i.size;
      within = omega arith;
      next = λ more. node_up top (l.level + 1) c.args.first l.around c.requires.first more next;
      room = λ more. next.half more;
      last = λ same. nothing_around top (l.level + 1) c.args.first l.around c.requires.first same next;
      mended = λ old new m confined. climbed top l.level c.args.first l.around l.words old new c.requires.first lt next i.size (i.mended old new m confined);
    }

pub returns-clause-words : goal.returns-clause-words
returns-clause-words c = λ old new m confined.
    let l = c.loop-around in
    let i = l.invariant in
    let top = c.args.self.now.order in
    let last : l.level ≡ top = elim (cases_lt l.level top) [ inl lt ↦ absurd (let some = (i.next lt).some in omega arith) | inr ge ↦ omega arith ] in
    subst (λ (ws : List ℕ). Shows top new ws) (sym (written_back l.words _ c.self.inside.words.len (omega (arith, c.self.inside.words.ok.0))))
    (shows_mended top c.args.first old new l.words c.requires.first i.size
    (subst (λ k. Mended top k c.args.first old new l.words) last (i.mended old new m confined).0))
