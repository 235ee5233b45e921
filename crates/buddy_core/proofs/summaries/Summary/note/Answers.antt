use Rattle.std.proofs.Common.{◌≡◌, sym, ◌∙◌, ap, ap₂, subst, ℕ, ◌+◌, ◌-◌, ◌*◌, ◌%◌, ◌^◌, ◌<◌, Bool, List, [], length, get_or, length-set, ◌++◌, take, drop, bit_and, bit_xor, arith}
use Rattle.std.specs.Int.{bit_at}
use Rattle.std.specs.Int.Count.{count_trailing_zeros}
use Rattle.std.proofs.lemmas.List.{get_or-set_same}
use Rattle.std.proofs.lemmas.Nat.Bits.{bit_at-zero}
use Rattle.std.proofs.Math.Facts.{Fits-lt-pow}
use Rattle.buddy_core.specs.SummaryWords.{sets_of, IsSummary}
use Rattle.buddy_core.proofs.TreeNodes.{written_back}
use Rattle.buddy_core.proofs.SetFlipped.{sets_size}
use Rattle.buddy_core.proofs.SetsNoted.{ArePartlyNoted, IsAtOrder, as_before, smaller, order_listed, row_small, word_inside, alone_next, others_next}
use Rattle.buddy_core.proofs.summaries.Summary.note.Goals as goal
use Rattle.buddy_core.proofs.summaries.Summary.note.Goals.{After-from-changed, At-loop-changed, In-loop-changed}

pub loop-changed-init : goal.loop-changed-init
loop-changed-init c = λ slots stored same. record {
  stored = stored;
  size = sym (sets_size slots c.deref_mut-filled.result.now c.deref_mut-words.result.now) ∙ ap length same;
  left = λ j bit. ap (λ n. bit_at n j) (sym c.from-changed.ensures) ∙ bit;
  same = λ j bit. ap (λ (xs : List (List Bool)). get_or xs j []) same;
  noted = λ j bit.
      ap (λ (xs : List (List Bool)). get_or xs j []) same
      ∙ as_before c.args.self.now c.args.slot c.args.old c.args.new c.requires.before c.requires.orders j (ap (λ n. bit_at n j) (sym c.from-changed.ensures) ∙ bit);
}

-- the loop begins with the fields of `self`
begun : (c : After-from-changed)
    → IsSummary c.self.inside.slots c.deref_mut-filled.result.now c.deref_mut-words.result.now × (sets_of c.self.inside.slots c.deref_mut-filled.result.now c.deref_mut-words.result.now ≡ c.args.self.now)
begun c = rw (c.deref_mut-filled.ensures.value, c.deref_mut-words.ensures.value) (c.self.invariant, c.self.view_is)

at_order : (c : In-loop-changed) (slots : ℕ) → ArePartlyNoted slots c.args.self.now c.args.slot c.args.old c.args.new c.loop-changed.changed c.loop-changed.filled c.loop-changed.words
    → IsAtOrder slots c.args.slot c.args.old c.args.new c.args.self.now c.loop-changed.changed c.from-row.result c.loop-changed.filled c.loop-changed.words
at_order c slots so_far = record {
  inside = c.requires.slot;
  before = c.requires.before;
  orders = c.requires.orders;
  so_far = so_far;
  some = c.loop-changed-test.true;
  fits = omega arith;
  row_is = c.from-row.ensures;
}

pub bounds-words-word : goal.bounds-words-word
bounds-words-word c = word_inside (let g = goal.at.bounds-words-word c in at_order g.In-loop-changed c.self.inside.slots (c.loop-changed.invariant c.self.inside.slots (begun g.After-from-changed).0 (begun g.After-from-changed).1))

pub bounds-words-word-in-loop-changed : goal.bounds-words-word-in-loop-changed
bounds-words-word-in-loop-changed c = word_inside (let g = goal.at.bounds-words-word-in-loop-changed c in at_order g.In-loop-changed c.self.inside.slots (c.loop-changed.invariant c.self.inside.slots (begun g.After-from-changed).0 (begun g.After-from-changed).1))

pub bounds-words-word-in-loop-changed-2 : goal.bounds-words-word-in-loop-changed-2
bounds-words-word-in-loop-changed-2 c =
    let inside = word_inside (let g = goal.at.bounds-words-word-in-loop-changed-2 c in at_order g.In-loop-changed c.self.inside.slots (c.loop-changed.invariant c.self.inside.slots (begun g.After-from-changed).0 (begun g.After-from-changed).1)) in
    omega (arith, inside, length-set c.loop-changed.words (c.from-row.result * 16 + count_trailing_zeros 32 c.loop-changed.changed) (bit_xor (get_or c.loop-changed.words (c.from-row.result * 16 + count_trailing_zeros 32 c.loop-changed.changed) 0) (1 * 2 ^ (c.args.slot % 64) % 18446744073709551616)))

pub overflow_shl-filled : goal.overflow_shl-filled
overflow_shl-filled c = row_small (let g = goal.at.overflow_shl-filled c in at_order g.In-loop-changed c.self.inside.slots (c.loop-changed.invariant c.self.inside.slots (begun g.After-from-changed).0 (begun g.After-from-changed).1))

pub bounds-filled-order : goal.bounds-filled-order
bounds-filled-order c = order_listed (let g = goal.at.bounds-filled-order c in at_order g.In-loop-changed c.self.inside.slots (c.loop-changed.invariant c.self.inside.slots (begun g.After-from-changed).0 (begun g.After-from-changed).1))

pub bounds-filled-order-then-words-word-eq0 : goal.bounds-filled-order-then-words-word-eq0
bounds-filled-order-then-words-word-eq0 c = order_listed (let g = goal.at.bounds-filled-order-then-words-word-eq0 c in at_order g.In-loop-changed c.self.inside.slots (c.loop-changed.invariant c.self.inside.slots (begun g.After-from-changed).0 (begun g.After-from-changed).1))

pub loop-changed-smaller-then-words-word-eq0 : goal.loop-changed-smaller-then-words-word-eq0
loop-changed-smaller-then-words-word-eq0 c = smaller (let g = goal.at.loop-changed-smaller-then-words-word-eq0 c in at_order g.In-loop-changed c.self.inside.slots (c.loop-changed.invariant c.self.inside.slots (begun g.After-from-changed).0 (begun g.After-from-changed).1))

pub loop-changed-smaller : goal.loop-changed-smaller
loop-changed-smaller c = smaller (let g = goal.at.loop-changed-smaller c in at_order g.In-loop-changed c.self.inside.slots (c.loop-changed.invariant c.self.inside.slots (begun g.After-from-changed).0 (begun g.After-from-changed).1))

pub loop-changed-preserved-then-words-word-eq0 : goal.loop-changed-preserved-then-words-word-eq0
loop-changed-preserved-then-words-word-eq0 c = λ slots stored same.
    let h = at_order (goal.at.loop-changed-preserved-then-words-word-eq0 c).In-loop-changed slots (c.loop-changed.invariant slots stored same) in
    let read = get_or-set_same c.loop-changed.words (c.from-row.result * 16 + count_trailing_zeros 32 c.loop-changed.changed) (bit_xor (get_or c.loop-changed.words (c.from-row.result * 16 + count_trailing_zeros 32 c.loop-changed.changed) 0) (1 * 2 ^ (c.args.slot % 64) % 18446744073709551616)) 0 (word_inside h) in
    alone_next h (subst (λ n. n < 2 ^ 64) read (Fits-lt-pow (c.type_inv.words (c.from-row.result * 16 + count_trailing_zeros 32 c.loop-changed.changed))))
    (sym (ap (λ n. bit_and n (18446744073709551615 - 1 * 2 ^ (c.args.slot % 64) % 18446744073709551616)) read) ∙ c.if-words-word-eq0.true)

pub loop-changed-preserved : goal.loop-changed-preserved
loop-changed-preserved c = λ slots stored same.
    let h = at_order (goal.at.loop-changed-preserved c).In-loop-changed slots (c.loop-changed.invariant slots stored same) in
    let read = get_or-set_same c.loop-changed.words (c.from-row.result * 16 + count_trailing_zeros 32 c.loop-changed.changed) (bit_xor (get_or c.loop-changed.words (c.from-row.result * 16 + count_trailing_zeros 32 c.loop-changed.changed) 0) (1 * 2 ^ (c.args.slot % 64) % 18446744073709551616)) 0 (word_inside h) in
    others_next h (subst (λ n. n < 2 ^ 64) read (Fits-lt-pow (c.type_inv.words (c.from-row.result * 16 + count_trailing_zeros 32 c.loop-changed.changed))))
    (λ none. c.if-words-word-eq0.false (ap (λ n. bit_and n (18446744073709551615 - 1 * 2 ^ (c.args.slot % 64) % 18446744073709551616)) read ∙ none))

-- when the loop ends, its slices are written back to `self`
filled_back : (c : At-loop-changed) → take c.self.inside.filled.len (c.loop-changed.filled ++ drop (length c.loop-changed.filled) c.self.inside.filled.items) ≡ c.loop-changed.filled
filled_back c =
    written_back c.loop-changed.filled (drop (length c.loop-changed.filled) c.self.inside.filled.items) c.self.inside.filled.len
    (c.self.inside.filled.ok.0 ∙ sym (c.loop-changed.auto.filled ∙ ap length c.deref_mut-filled.ensures.value))

words_back : (c : At-loop-changed) → take c.self.inside.words.len (c.loop-changed.words ++ drop (length c.loop-changed.words) c.self.inside.words.items) ≡ c.loop-changed.words
words_back c =
    written_back c.loop-changed.words (drop (length c.loop-changed.words) c.self.inside.words.items) c.self.inside.words.len
    (c.self.inside.words.ok.0 ∙ sym (c.loop-changed.auto.words ∙ ap length c.deref_mut-words.ensures.value))

pub invariant_of-self : goal.invariant_of-self
invariant_of-self c =
    rw (filled_back (goal.at.invariant_of-self c).At-loop-changed, words_back (goal.at.invariant_of-self c).At-loop-changed) (c.loop-changed.invariant c.self.inside.slots (begun (goal.at.invariant_of-self c).After-from-changed).0 (begun (goal.at.invariant_of-self c).After-from-changed).1).stored

pub returns-clause-sets : goal.returns-clause-sets
returns-clause-sets c = λ j.
    ap₂ (λ (f w : List ℕ). get_or (sets_of c.self.inside.slots f w) j [])
    (filled_back (goal.at.returns-clause-sets c).At-loop-changed)
    (words_back (goal.at.returns-clause-sets c).At-loop-changed)
    ∙ (c.loop-changed.invariant c.self.inside.slots (begun (goal.at.returns-clause-sets c).After-from-changed).0 (begun (goal.at.returns-clause-sets c).After-from-changed).1).noted j (ap (λ n. bit_at n j) c.loop-changed-test.false ∙ bit_at-zero j)
