use Rattle.std.proofs.Common.{◌≡◌, refl, arith}
use Rattle.std.proofs.lemmas.List.{take_rest}
use Rattle.frame_picture.specs.Histories.{line_count}
use Rattle.replay_core.proofs.QuickLemmas.{left_over}
use Rattle.framemap.proofs.WatchingLemmas.{request_counted}
use Rattle.framemap.proofs.watched.Watched.watch_requests.Goals as goal
use Rattle.framemap.proofs.watched.Watched.watch_requests.Goals.{in-Some-ask, in_default-ask}

pub lines-preserved : goal.lines-preserved
lines-preserved g c =
    let rest = c.lines.rest.now in
    let len = c.in-Some.line.len in
    let read = c.in-Some.ensures.reads in
    let left = left_over rest len read.within in
    let noted : (c.match-ask.self.events ≡ c.lines.self.events) × (line_count c.match-ask.self.history ≡ line_count c.lines.self.history) =
    elim c.match-ask.branch [
      | in-Some-ask w ↦ rw w.self-is (w.note_refusal.ensures.events, w.note_refusal.ensures.lines)
      | in_default-ask w ↦ rw w.self-is (refl, refl)
    ] in
    rw (take_rest rest len) (
      λ known. request_counted _ _ _ _ rest known _ _ len read (c.lines.invariant.0 known) (omega (arith, noted.0))
          (λ below. omega (arith, noted.1, c.add_line.ensures.counted (omega (arith, noted.1, below)))),
      omega (arith, c.lines.invariant.1, left, read.some, noted.0),
    )
