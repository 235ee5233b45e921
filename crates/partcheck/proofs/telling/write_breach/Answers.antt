use Rattle.std.proofs.Common.{◌≡◌, ◌∙◌, ap, subst, append_assoc, take, codes}
use Rattle.std.specs.Io.KnownBytes.{Appends}
use Rattle.std.specs.Prelude.{option_copied}
use Rattle.trace_check.specs.Checking.{HasRead}
use Rattle.trace_check.specs.Reading.{without_line_feed}
use Rattle.partcheck.specs.Telling.{breach_text, excerpt_text, if_read, trace_line}
use Rattle.partcheck.proofs.JoinedTexts.{each_read, first_text, last_text, then_text}
use Rattle.partcheck.proofs.telling.write_breach.Goals as goal

pub returns : goal.returns
unfolding breach_text
returns g c = each_read c.write_all-2.result (λ trace_text reply_text. HasRead trace_text reply_text c.args.shown.now) _ (λ trace_text reply_text read.
    let trace_is : option_copied c.line_read-trace_text.result ≡ if_read trace_line (take 257 trace_text) =
    c.line_read-trace_text.ensures ∙ ap (if_read trace_line) (c.front.ensures trace_text read.line) in
    let reply_is : option_copied c.lines_read-reply_text.result ≡ if_read without_line_feed (take 65792 reply_text) =
    c.lines_read-reply_text.ensures ∙ ap (if_read without_line_feed) (c.front-2.ensures reply_text read.reply) in
    last_text (g.W.Write.contents c.write_all-2.new.self) c.write_all-2.result _ (breach_text c.args.breach.now trace_text reply_text c.args.shown.now.reason)
    (then_text (g.W.Write.contents c.write_reason.new.out) _
    (then_text (g.W.Write.contents c.write-2.new.self) _
    (then_text (g.W.Write.contents c.write_shown-2.new.out) (excerpt_text (codes "nothing") 200 (if_read without_line_feed (take 65792 reply_text)))
    (then_text (g.W.Write.contents c.write_all.new.self) _
    (then_text (g.W.Write.contents c.write_shown.new.out) (excerpt_text (codes "no more lines") 255 (if_read trace_line (take 257 trace_text)))
    (first_text (g.W.Write.contents c.args.out.now) (g.W.Write.contents c.write.new.self) _ c.in_ok-write.ensures.bytes)
    (subst (λ text. Appends (g.W.Write.contents c.write.new.self) (g.W.Write.contents c.write_shown.new.out) (excerpt_text (codes "no more lines") 255 text)) trace_is c.in_ok-write_shown.ensures))
    c.in_ok-write_all.ensures.bytes)
    (subst (λ text. Appends (g.W.Write.contents c.write_all.new.self) (g.W.Write.contents c.write_shown-2.new.out) (excerpt_text (codes "nothing") 200 text)) reply_is c.in_ok-write_shown-2.ensures))
    c.in_ok-write-2.ensures.bytes)
    c.in_ok-write_reason.ensures)
    c.write_all-2.ensures.bytes (simp append_assoc))
