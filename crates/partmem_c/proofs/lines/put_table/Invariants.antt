use Rattle.std.proofs.Common.{◌≤◌, ◌*◌, drop}
use Rattle.std.specs.List.{concat}
use Rattle.words_core.specs.Requests.{reply_of_table}
use Rattle.words_core.specs.Texts.{lines_of, text_of}
use Rattle.partmem_c.proofs.TextLemmas.{IsPart}
use Rattle.partmem_c.proofs.lines.put_table.Given as goal

abbrev pub invariant-loop-row : goal.invariant-loop-row
invariant-loop-row l =
    IsPart (text_of (reply_of_table l.table)) (concat (drop l.row (lines_of (reply_of_table l.table)))) l.fn.buffer l.buffer l.written × (l.written ≤ 256 * l.row)
