-- For each law, an example that meets its premises by computation. Slots have 8 frames.
use Rattle.std.proofs.Common.{◌≡◌, ℕ, false, sym, List, [], ◌∷◌, ◌++◌, Some, None, refl, arith}
use Rattle.std.specs.Prelude.{codes, Contains}
use Rattle.std.specs.List.{AllByRecursion}
use Rattle.std.proofs.lemmas.Bool.{false≢true}
use Rattle.std.proofs.lemmas.List.Elements.{All-from_recursion, All-contains}
use Rattle.model_core.specs.Machine.{empty_machine}
use Rattle.words_core.specs.declared.event.Command.TheVariants as Command
use Rattle.words_core.specs.declared.reply.Body.{Body}
use Rattle.words_core.specs.declared.reply.Body.TheVariants as Say
use Rattle.words_core.specs.declared.reply.Refusal.TheVariants.{NoCacheSlot}
use Rattle.words_core.specs.Cutting.{lines_of_trace}
use Rattle.world_core.specs.PrivateStep.{Entry, Ask, Grant}
use Rattle.world_core.specs.PrivateRun.{private_run}
use Rattle.world_core.specs.World.{opening_world}
use Rattle.world_core.specs.OwnList.{is_refused, replies_to}
use Rattle.world_core.specs.Output.{shown_lines, output_of, events_of, lines_for, texts_for, line_feed, with_line_feeds}
use Rattle.world_core.specs.Laws.{OwnRun, HaveSameOwnList, SameReplies, SameTexts, MoreCaches, OwnLines, SameLines, AllShown, OwnShown, OwnLinesShown, EndedAllButTail, EndedLinesStay, ShownStays, opening_history, private_lines}
use Rattle.world_core.proofs.ComputedTraces.{computed_lines, computed_machine, computed_texts}

-- a trace that concerns only tenant 0, and one that concerns tenant 1 too
abbrev alone : List ℕ
alone = codes "admin grant 0\n0 alloc 0\n"

abbrev among_others : List ℕ
among_others = codes "admin grant 1\n1 alloc 0\nadmin grant 0\n1 alloc 3\n0 alloc 0\n"

-- tenant 0 has the same own list in two runs: `alone` with 2 superblocks and 3 tenants, and `among_others` with 3 superblocks and
-- 4 tenants
equal_lists : HaveSameOwnList 32 3 2 3 3 4 0 (events_of (lines_of_trace alone)) (events_of (lines_of_trace among_others))
unfolding computed_lines
equal_lists = record { tenant = omega arith; tenant' = omega arith; own = refl }

-- the replies to tenant 0 are those of its private run
OwnRun-met : OwnRun → replies_to 0 (opening_history 32 3 3 4 (events_of (lines_of_trace among_others))) ≡ Say.Frame 0 ∷ []
unfolding computed_lines
OwnRun-met law = (law 32 3 3 4 0 (events_of (lines_of_trace among_others)) (omega arith)).replies

SameReplies-met : SameReplies →
    replies_to 0 (opening_history 32 3 2 3 (events_of (lines_of_trace alone))) ≡ replies_to 0 (opening_history 32 3 3 4 (events_of (lines_of_trace among_others)))
SameReplies-met law = law 32 3 2 3 3 4 0 (events_of (lines_of_trace alone)) (events_of (lines_of_trace among_others)) equal_lists

SameTexts-met : SameTexts →
    texts_for 0 (replies_to 0 (opening_history 32 3 2 3 (events_of (lines_of_trace alone))))
    ≡ texts_for 0 (replies_to 0 (opening_history 32 3 3 4 (events_of (lines_of_trace among_others))))
SameTexts-met law = law 32 3 2 3 3 4 0 (events_of (lines_of_trace alone)) (events_of (lines_of_trace among_others)) equal_lists

SameLines-met : SameLines → lines_for 0 (output_of 32 3 alone (opening_world 2 3)) ≡ lines_for 0 (output_of 32 3 among_others (opening_world 3 4))
SameLines-met law = law 32 3 2 3 3 4 0 alone among_others (omega arith) (omega arith) equal_lists

-- the lines of tenant 0 are those of its private machine, which are computed
OwnLines-met : OwnLines → lines_for 0 (output_of 32 3 among_others (opening_world 3 4)) ≡ codes "0> frame 0" ∷ []
unfolding computed_texts private_lines
OwnLines-met law = law 32 3 3 4 0 among_others (omega arith) (omega arith)

-- a cache is made, and an object of it is taken and given back: no cache is refused for lack of a number
abbrev one_cache : List Entry
one_cache = Grant ∷ Ask (Command.Cache 64 8 (record { items = 0 ∷ [] })) ∷ Ask (Command.Take 0) ∷ Ask (Command.Give 0 0) ∷ []

no_refusal : AllByRecursion (λ body. is_refused body ≡ false) (private_run 16 3 one_cache empty_machine).replies
unfolding computed_machine
no_refusal = (refl, (refl, (refl, tt)))

not_told : Contains (private_run 16 3 one_cache empty_machine).replies (Say.Refused NoCacheSlot) → ⊥
not_told told = let answers : Body → Type 0 = λ body. is_refused body ≡ false in let replies = (private_run 16 3 one_cache empty_machine).replies in
    false≢true (sym (All-contains answers replies (Say.Refused NoCacheSlot) (All-from_recursion answers replies no_refusal) told))

MoreCaches-met : MoreCaches → private_run 32 3 one_cache empty_machine ≡ private_run 16 3 one_cache empty_machine
MoreCaches-met law = law 16 32 3 one_cache empty_machine (omega arith) not_told

AllShown-met : AllShown → shown_lines None 32 3 (lines_of_trace among_others) (opening_world 3 4) ≡ output_of 32 3 among_others (opening_world 3 4)
AllShown-met law = law 32 3 among_others (opening_world 3 4)

OwnShown-met : OwnShown → shown_lines (Some 0) 32 3 (lines_of_trace among_others) (opening_world 3 4) ≡ with_line_feeds (lines_for 0 (output_of 32 3 among_others (opening_world 3 4)))
unfolding opening_world
OwnShown-met law = law 32 3 0 among_others (opening_world 3 4) (omega arith) (omega arith)

OwnLinesShown-met : OwnLinesShown →
    lines_of_trace (shown_lines (Some 0) 32 3 (lines_of_trace among_others) (opening_world 3 4)) ≡ lines_for 0 (output_of 32 3 among_others (opening_world 3 4))
unfolding opening_world
OwnLinesShown-met law = law 32 3 0 among_others (opening_world 3 4) (omega arith) (omega arith)

-- a trace whose first line ends in LF and whose second line does not
EndedAllButTail-met : EndedAllButTail →
    (tail : List ℕ) × (codes "0 alloc 0\n0 fr" ≡ with_line_feeds (codes "0 alloc 0" ∷ []) ++ tail) × (Contains tail line_feed → ⊥)
EndedAllButTail-met law = law (codes "0 alloc 0\n0 fr")

EndedLinesStay-met : EndedLinesStay → (rest : List (List ℕ)) × (lines_of_trace (codes "0 alloc 0\n0 free 0") ≡ (codes "0 alloc 0" ∷ []) ++ rest)
EndedLinesStay-met law = law (codes "0 alloc 0\n0 fr") (codes "ee 0")

ShownStays-met : ShownStays → (rest : List ℕ)
    × (shown_lines None 32 3 (lines_of_trace (codes "0 alloc 0\n0 free 0")) (opening_world 1 1) ≡ shown_lines None 32 3 (codes "0 alloc 0" ∷ []) (opening_world 1 1) ++ rest)
ShownStays-met law = law None 32 3 (codes "0 alloc 0\n0 fr") (codes "ee 0") (opening_world 1 1)
