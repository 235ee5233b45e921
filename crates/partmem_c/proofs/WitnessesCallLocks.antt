-- An instance of the law of calls that run side by side. Tenant 1 stores 100 bytes in place. A line with a grant for tenant 0 comes
-- before or after this store. The kernels are those of `kernel_core`.
use Rattle.std.proofs.Common.{[], ◌∷◌, codes, refl}
use Rattle.std.specs.Fmt.{digits}
use Rattle.words_core.specs.Grammar.{event_of, reading_of_words, reading_of}
use Rattle.words_core.specs.Words.{words_of}
use Rattle.kernel_core.specs.Actions.{StoresAt}
use Rattle.kernel_core.specs.ActionLocks.{StoreBytes}
use Rattle.kernel_core.proofs.Granting.{granted_reply}
use Rattle.kernel_core.proofs.WitnessesActions.{beside_2, beside_3, beside_4, stored_1, granted_0}
use Rattle.kernel_core.proofs.WitnessesActionLocks.{two_orders, grants_0, nines, grant_beside, early_1, early_2, granted_early, stored_late, same_as_itself, begin_1, begun_1}
use Rattle.partmem_c.specs.Actions.{Done, Line, Direct, Did}
use Rattle.partmem_c.specs.CallLocks.{DidTheSame, SameCallsInAnyOrder}

abbrev granting : Done
granting = Line (codes "admin grant 0") (codes "admin> granted 0 slot 0 superblock 1\n")

abbrev storing : Done
storing = Direct (StoresAt 1 5 nines)

granted_late : Did beside_3 granting beside_4
unfolding reading_of words_of reading_of_words event_of digits
granted_late = ((granted_reply 0 0 1, granted_0.0, refl), granted_0.1)

granted_first : Did beside_2 granting early_1
unfolding reading_of words_of reading_of_words event_of digits
granted_first = ((granted_reply 0 0 1, granted_early.0, refl), granted_early.1)

SameCallsInAnyOrder-met : SameCallsInAnyOrder → DidTheSame 2 (storing ∷ granting ∷ []) (granting ∷ storing ∷ []) beside_4 early_2
unfolding reading_of words_of reading_of_words event_of
SameCallsInAnyOrder-met law =
    law beside_2 beside_4 beside_2 early_2 (storing ∷ granting ∷ []) (granting ∷ storing ∷ []) (same_as_itself beside_2 begin_1 begun_1)
    (beside_3, stored_1, (beside_4, granted_late, refl)) (early_1, granted_first, (early_2, stored_late, refl))
    (two_orders (StoreBytes 1 5 nines) grants_0 grant_beside)
