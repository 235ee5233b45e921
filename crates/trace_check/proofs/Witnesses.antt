-- The premises of the laws hold for a trace with a grant, a comment, and a page block that is allocated and freed.
use Rattle.std.proofs.Common.{List, ℕ, [], ◌∷◌, None, codes}
use Rattle.promise_kept.specs.Written.{IsAllowedText}
use Rattle.promise_core.specs.declared.promise.Promise.{Promise}
use Rattle.trace_check.specs.Laws.{KeptIsAllowed, IsBreach, BrokenIsNotAllowed}
use Rattle.trace_check.proofs.Examples.{texts_are_found}

abbrev trace : List ℕ
trace = codes "admin grant 0\n# a block\n0 alloc 1\n0 free 0\n"

abbrev lines : List (List ℕ)
lines = codes "admin grant 0" ∷ codes "# a block" ∷ codes "0 alloc 1" ∷ codes "0 free 0" ∷ []

-- these replies are allowed, although partmem would choose another superblock
abbrev allowed_replies : List ℕ
allowed_replies = codes "admin> granted 0 slot 0 superblock 1\n0> frame 0\n0> freed 1\n"

KeptIsAllowed-met : KeptIsAllowed → IsAllowedText None 32 3 2 2 lines allowed_replies
KeptIsAllowed-met law = law 32 3 2 2 4 trace allowed_replies texts_are_found.all_kept

-- in these replies, the block of two frames is not aligned
abbrev broken_replies : List ℕ
broken_replies = codes "admin> granted 0 slot 0 superblock 1\n0> frame 1\n0> freed 1\n"

BrokenIsNotAllowed-met : BrokenIsNotAllowed
    → IsBreach 32 3 2 2 lines broken_replies (record { line = 3; reply = 2; promise = Promise.Blocks })
BrokenIsNotAllowed-met law =
    law 32 3 2 2 trace broken_replies (record { line = 3; reply = 2; promise = Promise.Blocks }) texts_are_found.not_aligned
