-- Tables that are stored as vectors of vectors, shown as lists of lists.
use Rattle.std.specs.Prelude.{List, map}
use Rattle.std.specs.Global.{Vec}

-- the rows of a table: the slots or the seats of each tenant, or the stored bytes of each superblock, which may have none
abbrev pub stored_rows : {A : Type 0} → Vec (Vec A) → List (List A)
stored_rows table = map (λ row. row.items) table.items
