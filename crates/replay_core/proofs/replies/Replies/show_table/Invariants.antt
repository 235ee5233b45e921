use Rattle.std.proofs.Common.{◌≡◌, ◌+◌, ◌*◌, ◌≤◌, false, drop}
use Rattle.std.specs.List.{concat}
use Rattle.words_core.specs.Requests.{reply_of_table}
use Rattle.words_core.specs.Texts.{lines_of, text_of}
use Rattle.replay_core.proofs.PushLemmas.{HasPushedBut}
use Rattle.replay_core.proofs.replies.Replies.show_table.Given as goal

abbrev pub invariant-loop-row : goal.invariant-loop-row
invariant-loop-row g l =
    HasPushedBut (g.D.Drain.contents l.fn.drain) (g.D.Drain.contents l.drain) (text_of (reply_of_table l.table)) (concat (drop l.row (lines_of (reply_of_table l.table)))) l.fn.self.written l.self.written
    × (l.self.written ≤ l.fn.self.written + 256 * l.row) × (g.D.Drain.has_failed l.drain ≡ false) × (l.self.only ≡ l.fn.self.only)
