use Rattle.std.proofs.Common.{◌≡◌, ℕ, List, subst, ◌∙◌}
use Rattle.words_core.specs.Cutting.{lines_of_trace}
use Rattle.framemap.specs.Watching.{HasWatched}
use Rattle.framemap.proofs.WatchingLemmas.{all_given, have_watched}
use Rattle.framemap.proofs.run.watch.Goals as goal

pub returns-clause-watched : goal.returns-clause-watched
returns-clause-watched g c trace is =
    let done = c.in_ok-do_lines.ensures in
    let all : done.ran.0 ≡ trace = all_given _ _ trace done.ran.0 is done.ran.2 (done.whole done.ended) in
    let here = subst (λ (given : List ℕ). HasWatched (lines_of_trace given) c.args.watched.now c.do_lines.new.sink) all (have_watched _ _ _ _ _ done.ran.4) in
    record { events = here.events; lines = λ below. c.end.ensures.lines ∙ here.lines below }
