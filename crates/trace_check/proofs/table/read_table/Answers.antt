use Rattle.std.proofs.Common.{◌≡◌, ◌∙◌, ℕ, true, List, Option, Some, None, sym}
use Rattle.std.specs.Prelude.{IfSome}
use Rattle.words_core.specs.Requests.{is_table}
use Rattle.words_core.specs.Texts.{text_of}
use Rattle.words_core.specs.declared.reply.Reply.{Reply}
use Rattle.trace_check.specs.Tables.{table_of}
use Rattle.trace_check.proofs.ReplyLemmas.{table_only}
use Rattle.trace_check.proofs.TableLemmas.{table_takes}
use Rattle.trace_check.proofs.table.read_table.Goals as goal

has_text : (text : List ℕ) (found : Option Reply) → found ≡ table_of text → IfSome found (λ table. text_of table ≡ text)
has_text text None is = tt
has_text text (Some table) is = (table_takes text table (sym is)).0

has_table : (text : List ℕ) (found : Option Reply) → found ≡ table_of text → IfSome found (λ table. is_table table.body ≡ true)
has_table text None is = tt
has_table text (Some table) is = (table_takes text table (sym is)).1

pub returns : goal.returns
returns c = record {
  found = has_text c.args.text.now c.table_of.result c.table_of.ensures;
  only = λ due fits table same. c.table_of.ensures ∙ table_only c.args.text.now due fits table same;
  table = has_table c.args.text.now c.table_of.result c.table_of.ensures;
  exact = c.table_of.ensures;
}
