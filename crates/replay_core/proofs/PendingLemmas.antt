-- The first 256 bytes of a line, and whether it has more, are enough to read it.
use Rattle.std.proofs.Common.{◌≡◌, ℕ, ◌+◌, ◌-◌, ◌<◌, ◌≤◌, inl, inr, Bool, true, false, List, ◌++◌, Some, Result, Ok, Err, OnOk, length, take, refl, sym, ap, ◌∙◌, arith}
use Rattle.std.specs.Prelude.{nat_lt, nat_eq, slice_index, if◌then◌else◌}
use Rattle.std.specs.Result.{is_ok}
use Rattle.words_core.specs.declared.event.Event.{Event}
use Rattle.words_core.specs.declared.event.LineFault.TheVariants.{Long}
use Rattle.words_core.specs.Grammar.{reading_of}
use Rattle.replay_core.specs.declared.pending.Pending.{Pending}
use Rattle.replay_core.specs.Pending.{HoldsLine, IsFrontOf}
use Rattle.words_core.proofs.LineLemmas.{reading_of-long}
use Rattle.std.proofs.lemmas.Bool.{cases_lt, ltb-true, ltb-false, lt-ltb, le-ltb}
use Rattle.std.proofs.lemmas.List.{append-nil, take_all, take-append-le, take-take, length-take, length-append}
use Rattle.std.proofs.Math.Seq.{take-append-add}

-- the first 256 bytes of a line of at most 256 bytes are the whole line
pub take-short : (line : List ℕ) → length line ≤ 256 → take 256 line ≡ line
take-short line few = take_all 256 line few

pub take-more : (line bytes : List ℕ) (free : ℕ) → free ≡ 256 - length (take 256 line) → take 256 (line ++ bytes) ≡ take 256 line ++ take free bytes
take-more line bytes free is = elim (cases_lt 256 (length line)) [
  | inl over ↦
      let len : length (take 256 line) ≡ 256 = omega (arith, length-take 256 line) in
      let none : free ≡ 0 = omega arith in
      take-append-le 256 line bytes (omega arith) ∙ sym (ap (λ n. take 256 line ++ take n bytes) none ∙ append-nil (take 256 line))
  | inr within ↦
      let short = take-short line within in
      let len = ap length short in
      let e : 256 ≡ length line + free = omega arith in
      ap (λ n. take n (line ++ bytes)) e ∙ take-append-add line bytes free ∙ ap (λ xs. xs ++ take free bytes) (sym short)
]

-- If the next bytes fit behind the bytes held, both together are the first 256 bytes of the longer line. Whether the line has
-- more than 256 bytes does not change.
pub holds_fitting : (line bytes : List ℕ) → length bytes ≤ 256 - length (take 256 line)
    → (take 256 line ++ bytes ≡ take 256 (line ++ bytes)) × (nat_lt 256 (length line) ≡ nat_lt 256 (length (line ++ bytes)))
holds_fitting line bytes fits =
    let free : ℕ = 256 - length (take 256 line) in
    let len = length-append line bytes in
    let beginning = length-take 256 line in (
      sym (take-more line bytes free refl ∙ ap (λ xs. take 256 line ++ xs) (take_all free bytes fits)),
      elim (cases_lt 256 (length line)) [
        | inl over ↦ lt-ltb 256 (length line) over ∙ sym (lt-ltb 256 (length (line ++ bytes)) (omega arith))
        | inr within ↦ le-ltb 256 (length line) within ∙ sym (le-ltb 256 (length (line ++ bytes)) (omega arith))
      ],
    )

-- If the next bytes do not fit, the bytes held and the next bytes that fit are the first 256 bytes of the longer line. This line
-- has more than 256 bytes.
pub holds_overflowing : (line bytes : List ℕ) → 256 - length (take 256 line) < length bytes
    → (take 256 line ++ take (256 - length (take 256 line)) bytes ≡ take 256 (line ++ bytes)) × (true ≡ nat_lt 256 (length (line ++ bytes)))
holds_overflowing line bytes over =
    let len = length-append line bytes in
    let beginning = length-take 256 line in
    (sym (take-more line bytes (256 - length (take 256 line)) refl), sym (lt-ltb 256 (length (line ++ bytes)) (omega arith)))

pub on_ok : {T E P : Type 0} (r : Result T E) → is_ok r ≡ true → OnOk r P → P
on_ok (Ok x) is h = h
on_ok (Err e) is h = cc

pub longer_true : (line : List ℕ) → nat_lt 256 (length line) ≡ true → 256 < length line
longer_true line h = ltb-true 256 (length line) h

pub longer_false : (line : List ℕ) → nat_lt 256 (length line) ≡ false → length line ≤ 256
longer_false line h = ltb-false 256 (length line) h

stripped : (test : Bool) (line : List ℕ) → 256 < length line → 255 < length (if test then take (length line - 1) line else line)
stripped true line h = omega (arith, length-take (length line - 1) line)
stripped false line h = omega arith

-- a line of more than 256 bytes is too long, even if its last byte is a CR
pub overlong : (line : List ℕ) → 256 < length line → reading_of line ≡ Err Long
overlong line h = reading_of-long line (stripped (nat_eq (slice_index line (length line - 1)) 13) line h)

-- a line with an event has at most 256 bytes
pub event_short : (line : List ℕ) (event : Event) → reading_of line ≡ Ok (Some event) → length line ≤ 256
event_short line event read = elim (cases_lt 256 (length line)) [
  | inl over ↦ absurd (no_fault (sym (overlong line over) ∙ read))
  | inr within ↦ within
]
  where
    no_fault : Err Long ≡ Ok (Some event) → ⊥
    no_fault h = cc

-- the bytes held are the line, or its first 256 bytes if it is too long
pub held_front : (line front : List ℕ) (pending : Pending) → HoldsLine line pending → front ≡ pending.held.items → IsFrontOf line front
held_front line front pending holds is = record {
  same = ap (λ xs. take 256 xs) (is ∙ holds.front) ∙ take-take 256 256 line (omega arith);
  whole = λ few. is ∙ holds.front ∙ take-short line few;
}
