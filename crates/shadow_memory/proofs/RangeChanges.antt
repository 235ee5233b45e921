-- Changes of the stored bytes of a range, and the summaries after these changes.
use Rattle.std.proofs.Common.{◌≡◌, ◌≢◌, ◌⊎◌, ℕ, ◌+◌, ◌-◌, ◌*◌, ◌/◌, ◌<◌, ◌≤◌, Bool, true, false, leb, ltb, eqb, List, length, get_or, min, max, Option, Some, None, inl, inr, refl, sym, ap, ◌∙◌, subst, arith}
use Rattle.std.specs.Prelude.{if◌then◌else◌, ◌&&◌}
use Rattle.std.proofs.Math.ListN.{set}
use Rattle.std.proofs.lemmas.List.{get_or-set_other, get_or-set_same, get_or_past, set_past}
use Rattle.std.proofs.lemmas.Bool.{cases_eq, cases_lt}
use Rattle.std.proofs.lemmas.Bool.Decides.{nat_tests}
use Rattle.promise_core.specs.Bytes.{Holder, Cell, with_bytes}
use Rattle.shadow_memory.specs.declared.kept.KeptByte.{KeptByte}
use Rattle.shadow_memory.specs.declared.kept.KeptByte.TheVariants as Kept
use Rattle.shadow_memory.specs.declared.summary.Summary.{Summary}
use Rattle.shadow_memory.specs.Inside.{CellStep, shown_kept, within}
use Rattle.shadow_memory.specs.Summaries.{IsSummarizedBy, any_summary, cell_in, AreSummarized, IsChanged}

-- if the step is made from index `low` to index k - 1, and byte k is then set to the result of the step, the step is made up to
-- index k
pub changed_more : (step : CellStep) (first low k : ℕ) (old new : List KeptByte) (kept : KeptByte) → low ≤ k → k < length new
    → IsChanged step first low k old new → shown_kept kept ≡ step (first + k) (cell_in new k)
    → IsChanged step first low (k + 1) old (set new k kept)
changed_more step first low k old new kept le lt was is = record {
  before = λ i below. other i (omega arith) ∙ was.before i below;
  inside = λ i from below. elim (cases_eq i k) [
    | inl e ↦ subst (λ (n : ℕ). cell_in (set new k kept) n ≡ step (first + n) (cell_in old n)) (sym e) here
    | inr ne ↦ other i ne ∙ was.inside i from (omega arith)
  ];
  behind = λ i from. other i (omega arith) ∙ was.behind i (omega arith);
}
  where
    other : (i : ℕ) → i ≢ k → cell_in (set new k kept) i ≡ cell_in new i
    other i ne = ap shown_kept (get_or-set_other new k i kept Kept.Fresh ne)

    here : cell_in (set new k kept) k ≡ step (first + k) (cell_in old k)
    here = ap shown_kept (get_or-set_same new k kept Kept.Fresh lt) ∙ (is ∙ ap (step (first + k)) (was.behind k (omega arith)))

-- if a step is made in two adjacent ranges, one after the other, it is made in the range that they form together
pub changed_join : (step : CellStep) (first low m high : ℕ) (old mid new : List KeptByte) → low ≤ m → m ≤ high
    → IsChanged step first low m old mid → IsChanged step first m high mid new → IsChanged step first low high old new
changed_join step first low m high old mid new le more one two = record {
  before = λ k lt. two.before k (omega arith) ∙ one.before k lt;
  inside = λ k from below. elim (cases_lt k m) [
    | inl lt ↦ two.before k lt ∙ one.inside k from lt
    | inr ge ↦ two.inside k ge below ∙ ap (step (first + k)) (one.behind k ge)
  ];
  behind = λ k ge. two.behind k ge ∙ one.behind k (omega arith);
}

-- if the step leaves a range unchanged, the old bytes are also the bytes after the step
pub changed_left : (step : CellStep) (first low high : ℕ) (old : List KeptByte)
    → ((k : ℕ) → low ≤ k → k < high → step (first + k) (cell_in old k) ≡ cell_in old k) → IsChanged step first low high old old
changed_left step first low high old same = record {
  before = λ k lt. refl;
  inside = λ k from below. sym (same k from below);
  behind = λ k ge. refl;
}

-- A part has `size` places. If the step is made from `low` up to a part, and then in this part, it is made from `low` up to the
-- end of this part. No step is made at index `high` or later.
pub changed_part : (step : CellStep) (first size part low high begin end : ℕ) (old mid new : List KeptByte) → low < part * size + size → part * size < high
    → low ≤ high → begin ≡ max (part * size) low → end ≡ min (part * size + size) high
    → IsChanged step first low (max low (min (part * size) high)) old mid → IsChanged step first begin end mid new
    → IsChanged step first low (max low (min ((part + 1) * size) high)) old new
changed_part step first size part low high begin end old mid new over under le is_begin is_end one two =
    let b : max low (min (part * size) high) ≡ begin = omega arith in
    let e : max low (min ((part + 1) * size) high) ≡ end = omega arith in
    subst (λ (n : ℕ). IsChanged step first low n old new) (sym e)
    (changed_join step first low begin end old mid new (omega arith) (omega arith)
    (subst (λ (n : ℕ). IsChanged step first low n old mid) b one) two)

any_marked : (cell : Option Cell) → IsSummarizedBy any_summary cell
any_marked None = tt
any_marked (Some cell) = (tt, λ e. absurd (cc))

-- if `after` allows what was left at a place, so does the part's summary once it is set to `after`
mark_set : (summaries : List Summary) (part : ℕ) (after : Summary) (cell : Option Cell) → IsSummarizedBy after cell → IsSummarizedBy (get_or (set summaries part after) part any_summary) cell
mark_set summaries part after cell marked = elim (cases_lt part (length summaries)) [
  | inl lt ↦ subst (λ (m : Summary). IsSummarizedBy m cell) (sym (get_or-set_same summaries part after any_summary lt)) marked
  | inr ge ↦ subst (λ (m : Summary). IsSummarizedBy m cell)
      (sym (ap (λ (ms : List Summary). get_or ms part any_summary) (set_past summaries part after ge) ∙ get_or_past summaries part any_summary ge)) (any_marked cell)
]

-- Suppose that each summary allows what was left in its part, that a step changes places of only one part, and that `after`
-- allows what is left in this part after the step. Then, once this part's summary is set to `after`, each summary allows what is
-- left in its part.
pub marked_part : (step : CellStep) (first size part low high : ℕ) (summaries : List Summary) (summary after : Summary) (all : Bool) (old new : List KeptByte)
    → ((k : ℕ) → part * size ≤ k → k < part * size + size → k / size ≡ part)
    → ((k : ℕ) → k / size ≡ part → (part * size ≤ k) × (k < part * size + size))
    → part * size ≤ low → high ≤ part * size + size → low ≤ high → all ≡ eqb (high - low) size → summary ≡ get_or summaries part any_summary
    → ((place : ℕ) (cell : Option Cell) → IsSummarizedBy summary cell → IsSummarizedBy after (step place cell))
    → (all ≡ false → (cell : Option Cell) → IsSummarizedBy summary cell → IsSummarizedBy after cell)
    → AreSummarized size summaries old → IsChanged step first low high old new → AreSummarized size (set summaries part after) new
marked_part step first size part low high summaries summary after all old new here only begins ends order is_all is changed kept were by k =
    elim (cases_eq (k / size) part) [
      | inl e ↦ subst (λ (n : ℕ). IsSummarizedBy (get_or (set summaries part after) n any_summary) (cell_in new k)) (sym e)
          (mark_set summaries part after (cell_in new k) (inside e))
      | inr ne ↦ subst (λ (m : Summary). IsSummarizedBy m (cell_in new k)) (sym (get_or-set_other summaries part (k / size) after any_summary ne))
          (subst (IsSummarizedBy (get_or summaries (k / size) any_summary)) (sym (outside ne)) (were k))
    ]
  where
    was : k / size ≡ part → IsSummarizedBy summary (cell_in old k)
    was e = subst (λ (m : Summary). IsSummarizedBy m (cell_in old k)) (sym is) (subst (λ (n : ℕ). IsSummarizedBy (get_or summaries n any_summary) (cell_in old k)) e (were k))

    outside : k / size ≢ part → cell_in new k ≡ cell_in old k
    outside ne = elim (cases_lt k low) [
      | inl lt ↦ by.before k lt
      | inr ge ↦ elim (cases_lt k high) [
        | inl lt ↦ absurd (ne (here k (omega arith) (omega arith)))
        | inr far ↦ by.behind k far
      ]
    ]

    some : k / size ≡ part → (k < low) ⊎ (high ≤ k) → all ≡ false
    some e out = let at = only k e in is_all ∙ grind (arith, nat_tests, at, out)

    inside : k / size ≡ part → IsSummarizedBy after (cell_in new k)
    inside e = elim (cases_lt k low) [
      | inl lt ↦ subst (IsSummarizedBy after) (sym (by.before k lt)) (kept (some e (inl lt)) (cell_in old k) (was e))
      | inr ge ↦ elim (cases_lt k high) [
        | inl lt ↦ subst (IsSummarizedBy after) (sym (by.inside k ge lt)) (changed (first + k) (cell_in old k) (was e))
        | inr far ↦ subst (IsSummarizedBy after) (sym (by.behind k far)) (kept (some e (inr far)) (cell_in old k) (was e))
      ]
    ]

-- if the part's summary shows that the step leaves the part unchanged, then the step in a range of the part changes nothing
pub left_part : (step : CellStep) (first size part low high : ℕ) (summaries : List Summary) (summary : Summary) (old : List KeptByte)
    → ((k : ℕ) → part * size ≤ k → k < part * size + size → k / size ≡ part)
    → part * size ≤ low → high ≤ part * size + size → summary ≡ get_or summaries part any_summary
    → ((place : ℕ) (cell : Option Cell) → IsSummarizedBy summary cell → step place cell ≡ cell)
    → AreSummarized size summaries old → IsChanged step first low high old old
left_part step first size part low high summaries summary old here begins ends is same were = changed_left step first low high old
    (λ k from below. same (first + k) (cell_in old k) (subst (λ (m : Summary). IsSummarizedBy m (cell_in old k)) (sym is)
    (subst (λ (n : ℕ). IsSummarizedBy (get_or summaries n any_summary) (cell_in old k)) (here k (omega arith) (omega arith)) (were k))))

-- a step at the indices of the places from `begin` to `end - 1` changes every stored place by `within begin end step`
pub changed_within : (step : CellStep) (first low high begin end : ℕ) (old new : List KeptByte) → low ≡ min (begin - first) (length old)
    → high ≡ max (min (end - first) (length old)) low → IsChanged step first low high old new
    → (k : ℕ) → k < length old → cell_in new k ≡ within begin end step (first + k) (cell_in old k)
changed_within step first low high begin end old new is_low is_high by k lt = elim (cases_lt k low) [
  | inl under ↦ (let no : (leb begin (first + k) && ltb (first + k) end) ≡ false = grind (arith, nat_tests) in by.before k under ∙ at no)
  | inr over ↦ elim (cases_lt k high) [
    | inl under ↦ (let yes : (leb begin (first + k) && ltb (first + k) end) ≡ true = grind (arith, nat_tests) in by.inside k over under ∙ at yes)
    | inr far ↦ (let no : (leb begin (first + k) && ltb (first + k) end) ≡ false = grind (arith, nat_tests) in by.behind k far ∙ at no)
  ]
]
  where
    at : {b : Bool} → (leb begin (first + k) && ltb (first + k) end) ≡ b
        → (if b then step (first + k) (cell_in old k) else cell_in old k) ≡ within begin end step (first + k) (cell_in old k)
    at e = ap (λ (t : Bool). if t then step (first + k) (cell_in old k) else cell_in old k) (sym e)

-- putting bytes changes no place outside their range
put_beside : (holder : Holder) (begin place : ℕ) (bytes : List ℕ) (cell : Option Cell)
    → (place < begin) ⊎ (begin + length bytes ≤ place)
    → with_bytes holder begin bytes (λ _. cell) place ≡ cell
put_beside holder begin place bytes cell out =
    let no : (leb begin place && ltb place (begin + length bytes)) ≡ false = grind (arith, nat_tests, out) in
    ap (λ (t : Bool). if t then Some (record { holder = holder; byte = get_or bytes (place - begin) 0; sure = true }) else cell) no

put_on : (holder : Holder) (begin place : ℕ) (bytes : List ℕ) (cell : Option Cell)
    → begin ≤ place → place < begin + length bytes
    → with_bytes holder begin bytes (λ _. cell) place
    ≡ Some (record { holder = holder; byte = get_or bytes (place - begin) 0; sure = true })
put_on holder begin place bytes cell low high =
    let yes : (leb begin place && ltb place (begin + length bytes)) ≡ true = grind (arith, nat_tests) in
    ap (λ (t : Bool). if t then Some (record { holder = holder; byte = get_or bytes (place - begin) 0; sure = true }) else cell) yes

module _ (holder : Holder) (begin first low high from to : ℕ) (bytes : List ℕ) (old : List KeptByte)
    (is_from : from ≡ min (max (begin - first) low) high) (is_to : to ≡ max (min (begin + length bytes - first) high) from) where
  abbrev put_step : CellStep
  put_step place cell = with_bytes holder begin bytes (λ _. cell) place

  -- the step at the indices before the bytes changes nothing
  pub put_before : low ≤ high → IsChanged put_step first low from old old
  put_before order = changed_left put_step first low from old
      (λ k over under. put_beside holder begin (first + k) bytes (cell_in old k) (inl (omega arith)))

  -- if the step is made at the indices below k, and the byte that is put at index k is then stored, the step is made up to
  -- index k
  pub put_more : (k : ℕ) (new : List KeptByte) (kept : KeptByte) → low ≤ high → from ≤ k → k < to → k < length new
      → IsChanged put_step first low k old new
      → shown_kept kept ≡ Some (record { holder = holder; byte = get_or bytes (first + k - begin) 0; sure = true })
      → IsChanged put_step first low (k + 1) old (set new k kept)
  put_more k new kept order over under lt was is = changed_more put_step first low k old new kept (omega arith) lt was
      (is ∙ sym (put_on holder begin (first + k) bytes (cell_in new k) (omega arith) (omega arith)))

  -- if the step is made at all places of the bytes, it is made up to `high`, since it changes no place behind the bytes
  pub put_behind : (k : ℕ) (new : List KeptByte) → low ≤ high → from ≤ k → to ≤ k → k ≤ to
      → IsChanged put_step first low k old new → IsChanged put_step first low high old new
  put_behind k new order over under most was = changed_join put_step first low k high old new new (omega arith)
      (omega arith) was
      (changed_left put_step first k high new (λ j ge lt. put_beside holder begin (first + j) bytes (cell_in new j) (inr (omega arith))))
