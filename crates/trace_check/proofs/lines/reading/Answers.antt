use Rattle.std.proofs.Common.{◌<◌, ◌-◌, ◌==◌, suc, Bool, true, false, List, ℕ, length, take, sym, arith}
use Rattle.std.specs.Prelude.{nat_eq, slice_index, if◌then◌else◌}
use Rattle.std.proofs.lemmas.List.{length-take}
use Rattle.words_core.proofs.LineLemmas.{reading_of-long}
use Rattle.trace_check.specs.Reading.{without_line_feed}
use Rattle.trace_check.proofs.ReadingLemmas.{whole_none}
use Rattle.trace_check.proofs.lines.reading.Goals as goal

shorter : (most : ℕ) (test : Bool) (line : List ℕ) → suc most < length line → most < length (if test then take (length line - 1) line else line)
shorter most true line h = omega (arith, length-take (length line - 1) line)
shorter most false line h = omega arith

pub returns-in-None : goal.returns-in-None
returns-in-None c part gathers =
    let over : 257 < length part = whole_none 257 part (c.in-None.ensures part gathers) in
    let line = without_line_feed part in
    sym (reading_of-long line (shorter 255 (nat_eq (slice_index line (length line - 1)) 13) line
    (shorter 256 (slice_index part (length part - 1) == 10) part over)))
