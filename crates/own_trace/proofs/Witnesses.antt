-- An instance of each law: a trace in which another tenant's lines come first.
use Rattle.std.proofs.Common.{◌≡◌, ℕ, List, filter, arith}
use Rattle.std.specs.Prelude.{codes}
use Rattle.std.specs.List.{flat_map}
use Rattle.words_core.specs.Cutting.{lines_of_trace}
use Rattle.world_core.specs.World.{opening_world}
use Rattle.world_core.specs.OwnList.{own_list}
use Rattle.world_core.specs.Output.{events_of, lines_for, output_of}
use Rattle.world_core.specs.Laws.{opening_history}
use Rattle.own_trace.specs.Kept.{run_lines, is_own_line, own_trace}
use Rattle.own_trace.specs.Laws.{KeptAreOwnList, OwnListAlone, LinesAlone}

abbrev among_others : List ℕ
among_others = codes "admin grant 1\n1 alloc 0\nadmin grant 0\n1 alloc 3\n0 alloc 0\nadmin grant 0\nadmin grant 0\n"

KeptAreOwnList-met : KeptAreOwnList →
    flat_map (λ run. own_list 0 run.exchanges) (filter (is_own_line 0) (run_lines 32 3 (lines_of_trace among_others) (opening_world 3 4)))
    ≡ own_list 0 (opening_history 32 3 3 4 (events_of (lines_of_trace among_others)))
KeptAreOwnList-met law = law 32 3 3 4 0 among_others

OwnListAlone-met : OwnListAlone →
    own_list 0 (opening_history 32 3 3 4 (events_of (lines_of_trace (own_trace 32 3 3 4 0 among_others))))
    ≡ own_list 0 (opening_history 32 3 3 4 (events_of (lines_of_trace among_others)))
OwnListAlone-met law = law 32 3 3 4 0 among_others (omega arith) (omega arith) (omega arith)

LinesAlone-met : LinesAlone →
    lines_for 0 (output_of 32 3 (own_trace 32 3 3 4 0 among_others) (opening_world 3 4)) ≡ lines_for 0 (output_of 32 3 among_others (opening_world 3 4))
LinesAlone-met law = law 32 3 3 4 0 among_others (omega arith) (omega arith) (omega arith) (omega arith)
