-- The notes of a run: the first ten faulty lines, and the number of times that each refusal was shown.
use Rattle.std.specs.Prelude.{ℕ, zero, suc, ◌+◌, ◌-◌, ◌^◌, nat_lt, List, [], ◌∷◌, ◌++◌, length, take, min, replicate, slice_index, slice_index_or, slice_set, if◌then◌else◌}
use Rattle.words_core.specs.declared.event.LineFault.{LineFault}
use Rattle.words_core.specs.declared.reply.Refusal.{Refusal}
use Rattle.words_core.specs.Texts.{number_of_refusal}
use Rattle.run_notes.specs.declared.faults.FaultyLine.{FaultyLine}
use Rattle.run_notes.specs.declared.notes.RunNotes.{RunNotes}

abbrev pub no_notes : RunNotes
no_notes = record { first = record { items = [] }; times = replicate 15 0 }

-- the note of a faulty line: its number, its fault, and its first 32 bytes
abbrev pub faulty_line : ℕ → LineFault → List ℕ → FaultyLine
faulty_line number fault line = record { number = number; fault = fault; begin = record { items = take 32 line } }

abbrev pub with_fault : RunNotes → ℕ → LineFault → List ℕ → RunNotes
with_fault notes number fault line = if nat_lt (length notes.first.items) 10
    then record notes { first = record { items = notes.first.items ++ faulty_line number fault line ∷ [] } }
    else notes

-- the number of times that the refusal with this number was shown; refusals are numbered from 1
abbrev pub times_of : RunNotes → ℕ → ℕ
times_of notes zero = 0
times_of notes (suc place) = slice_index_or notes.times place 0

-- the notes with this refusal counted once more; a count stops at 2 ^ 64 - 1
abbrev pub with_refusal : RunNotes → Refusal → RunNotes
with_refusal notes refusal = let at = number_of_refusal refusal - 1 in
    record notes { times = slice_set notes.times at (min (slice_index notes.times at + 1) (2 ^ 64 - 1)) }
