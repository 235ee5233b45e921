-- The holder that a `RangeHolder` of the code stands for in the definitions, and the cell that a `LeftByte` stands for.
use Rattle.promise_core.specs.Bytes.{Holder, Cell}
use Rattle.known_holdings.specs.declared.holder.RangeHolder.{RangeHolder}
use Rattle.known_holdings.specs.declared.holder.LeftByte.{LeftByte}

abbrev pub shown_holder : RangeHolder → Holder
shown_holder RangeHolder.Page = Holder.Page
shown_holder (RangeHolder.Object cache first) = Holder.Object cache first

abbrev pub shown_cell : LeftByte → Cell
shown_cell left = record { holder = shown_holder left.holder; byte = left.byte; sure = left.sure }
