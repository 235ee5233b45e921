-- If fewer than ten faulty lines are noted, the note of one more is appended. The first 256 bytes of the line are enough for its
-- note.
use Rattle.std.proofs.Common.{◌≡◌, ℕ, ◌<◌, Bool, List, [], ◌∷◌, ◌++◌, length, take, ap, sym, ◌∙◌, arith}
use Rattle.std.specs.Prelude.{if◌then◌else◌}
use Rattle.std.proofs.lemmas.List.{take-take}
use Rattle.std.proofs.lemmas.Bool.{lt-ltb}
use Rattle.words_core.specs.declared.event.LineFault.{LineFault}
use Rattle.run_notes.specs.declared.faults.FaultyLine.{FaultyLine}
use Rattle.run_notes.specs.declared.notes.RunNotes.{RunNotes}
use Rattle.run_notes.specs.Notes.{faulty_line, with_fault}

pub fault_added : (notes : RunNotes) (number : ℕ) (fault : LineFault) (line : List ℕ) (items : List FaultyLine) → length notes.first.items < 10
    → items ≡ notes.first.items ++ faulty_line number fault line ∷ []
    → record notes { first = record { items = items } } ≡ with_fault notes number fault (take 256 line)
fault_added notes number fault line items room is =
    ap (λ xs. record notes { first = record { items = xs } })
    (is ∙ ap (λ bytes. notes.first.items ++ record { number = number; fault = fault; begin = record { items = bytes } } ∷ []) (sym (take-take 32 256 line (omega arith))))
    ∙ ap (λ (b : Bool). if b then record notes { first = record { items = notes.first.items ++ faulty_line number fault (take 256 line) ∷ [] } } else notes)
    (sym (lt-ltb (length notes.first.items) 10 room))
