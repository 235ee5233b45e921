-- The RAM after the borrow of a range of bytes ends.
use Rattle.std.specs.Prelude.{ℕ, List, slice_set}
use Rattle.std.specs.Borrow.{Lends, MutBor, Fml, Array, u8}
use Rattle.space_core.specs.Content.{Content, bank}
use Rattle.space_core.specs.Windows.{with_window, put_within}
use Rattle.space_core.specs.contracts.Space.{the_row}

-- When the borrow r ends, the `len` bytes of tenant t that begin at `place` are the last value written through r. All else is as
-- in s.
abbrev pub LendsWindow : MutBor Content → ℕ → ℕ → ℕ → MutBor (List ℕ) → Fml
LendsWindow s t place len r = Lends the_row (Array u8 0) s r (with_window s.now t place len)

-- When the borrow r ends, the bytes of superblock m that begin at offset i are the last value written through r. All else is as
-- in s.
abbrev pub LendsPart : MutBor Content → ℕ → ℕ → MutBor (List ℕ) → Fml
LendsPart s m i r = Lends the_row (Array u8 0) s r
    (λ w. record s.now { banks = slice_set s.now.banks m (put_within (bank s.now.banks m) i w) })
