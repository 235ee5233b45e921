use Rattle.std.proofs.Common.{◌≡◌, ℕ, List, Option, Some, None}
use Rattle.std.specs.Prelude.{IfSome}
use Rattle.words_core.specs.Requests.{reply_to}
use Rattle.words_core.specs.Texts.{text_of}
use Rattle.words_core.specs.declared.answer.Answer.{Answer}
use Rattle.words_core.specs.declared.reply.Addressee.{Addressee}
use Rattle.trace_check.specs.Forms.{Gives}
use Rattle.trace_check.specs.Replies.{answer_of}
use Rattle.trace_check.proofs.AnswerLemmas.{answer_takes}
use Rattle.trace_check.proofs.ReplyLemmas.{answer_only}
use Rattle.trace_check.proofs.answer.read_answer.Goals as goal

has_text : (text : List ℕ) (found : Option (Addressee × Answer)) → Gives (λ found. reply_to found.0 found.1) found (answer_of text)
    → IfSome found (λ found. text_of (reply_to found.0 found.1) ≡ text)
has_text text None none = tt
has_text text (Some found) is = (answer_takes text (reply_to found.0 found.1) is).0

pub returns : goal.returns
returns c = record {
  found = has_text c.args.text.now c.answer_of.result c.answer_of.ensures;
  only = λ due fits same. answer_only c.args.text.now due c.answer_of.result c.answer_of.ensures fits same;
  exact = c.answer_of.ensures;
}
