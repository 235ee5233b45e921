use Rattle.std.proofs.Common.{[], ◌∷◌, ◌++◌, refl, sym, subst, ◌∙◌, arith, ap}
use Rattle.words_core.specs.Cutting.{lines_of_trace}
use Rattle.world_core.specs.Output.{ended_lines}
use Rattle.streams.specs.declared.tally.Tally.{Tally}
use Rattle.replay_core.specs.Runs.{HasRun, IsCutShort}
use Rattle.replay_core.proofs.OwnLemmas.{own_lines_taken}
use Rattle.replay_core.proofs.PromiseLemmas.{all_promised, part_promised}
use Rattle.replay_core.proofs.RunLemmas.{are_run, run_cut, run_ended, noted_from}
use Rattle.replay_core.proofs.replaying.replay_noted.Goals as goal

pub do_lines-requires-clause-more : goal.do_lines-requires-clause-more
do_lines-requires-clause-more g c =
    omega (arith, c.room-room.ensures, c.room-room.type_inv, ap (λ (t : Tally). t.lines) c.new-run.ensures.none)

pub returns-in-Ok-clause-ran : goal.returns-in-Ok-clause-ran
returns-in-Ok-clause-ran g c =
    let ran = rw c.in-Ok.is at c.do_lines.ensures.ran in
    let all = are_run _ c.args.only _ _ _ _ _ c.new-run.ensures.only c.new-run.ensures.none ran.4 in (
      ran.0,
      ran.1,
      ran.2,
      ran.3,
      subst (λ (t : Tally). HasRun c.args.only c.args.kernel.now c.do_lines.new.kernel (lines_of_trace ran.0) ran.1 t) (sym c.end.ensures.tally) all.1,
      own_lines_taken c.own_lines.ensures c.own_shown.ensures.bytes c.args.only c.args.kernel.now _ ran.0 ran.1 _ (omega (arith, c.tenants-tenants.ensures, c.tenants-tenants.type_inv)) all.1,
      ran.5,
      noted_from g.N.Notes.noting c.args.only _ (lines_of_trace ran.0) _ _ _ _ (c.new-run.ensures.notes ∙ c.take.ensures.value) c.end.ensures.notes all.2,
    )

pub returns-in-Err-Feed-clause-ran : goal.returns-in-Err-Feed-clause-ran
returns-in-Err-Feed-clause-ran g c =
    let ran = rw c.in-Err-Feed.field-0-is at (rw c.in-Err-Feed.is at c.do_lines.ensures.ran) in
    let all = run_ended _ c.args.only _ _ _ _ _ c.new-run.ensures.only c.new-run.ensures.none ran.4 in (
      ran.0,
      ran.1,
      ran.2,
      ran.3,
      subst (λ (t : Tally). HasRun c.args.only c.args.kernel.now c.do_lines.new.kernel (ended_lines ran.0) ran.1 t) (sym c.end-in-Err-Feed.ensures.tally) all.0,
      tt,
      ran.5,
      (
        all.1,
        all.2,
        noted_from g.N.Notes.noting c.args.only _ (ended_lines ran.0) _ _ _ _ (c.new-run.ensures.notes ∙ c.take.ensures.value) refl all.3,
        all.4,
        c.end-in-Err-Feed.ensures.notes ∙ all.5,
      ),
    )

pub returns-in-Err-Drain-clause-ran : goal.returns-in-Err-Drain-clause-ran
returns-in-Err-Drain-clause-ran g c =
    let ran = rw c.in-Err-Drain.field-0-is at (rw c.in-Err-Drain.is at c.do_lines.ensures.ran) in
    let cut = run_cut _ c.args.only _ _ _ _ _ _ c.new-run.ensures.only c.new-run.ensures.none ran.4.3 in (
      ran.0,
      ran.1,
      ran.2,
      ran.3,
      (ran.4.0, ran.4.1, ran.4.2, subst (λ (t : Tally). IsCutShort c.args.only c.args.kernel.now c.do_lines.new.kernel ran.4.0 ran.4.1 ran.1 t) (sym c.end-in-Err-Drain.ensures.tally) cut.0),
      tt,
      ran.5,
      (
        ran.4.0 ++ ran.4.1 ∷ [],
        ran.4.2,
        sym (cut.0.counted.lines) ∙ ap (λ t. t.lines) (sym c.end-in-Err-Drain.ensures.tally),
        noted_from g.N.Notes.noting c.args.only _ (ran.4.0 ++ ran.4.1 ∷ []) _ _ _ _ (c.new-run.ensures.notes ∙ c.take.ensures.value) c.end-in-Err-Drain.ensures.notes cut.1,
      ),
    )

pub returns-in-Ok-clause-promises : goal.returns-in-Ok-clause-promises
returns-in-Ok-clause-promises g c = let ran = returns-in-Ok-clause-ran g c in (ran.0, ran.1, ran.2, ran.3, all_promised _ _ _ _ _ _ ran.4)

pub returns-in-Err-Feed-clause-promises : goal.returns-in-Err-Feed-clause-promises
returns-in-Err-Feed-clause-promises g c = let ran = returns-in-Err-Feed-clause-ran g c in (ran.0, ran.1, ran.2, ran.3, all_promised _ _ _ _ _ _ ran.4)

pub returns-in-Err-Drain-clause-promises : goal.returns-in-Err-Drain-clause-promises
returns-in-Err-Drain-clause-promises g c =
    let ran = returns-in-Err-Drain-clause-ran g c in
    (ran.0, ran.1, ran.2, ran.3, part_promised _ c.args.only c.args.kernel.now _ ran.0 ran.1 _ ran.4)
