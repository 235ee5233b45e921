use Rattle.std.proofs.Common.{◌≡◌, false, arith}
use Rattle.words_core.specs.Grammar.{reading_of}
use Rattle.partmem_c.specs.Lines.{has_line_feed}
use Rattle.partmem_c.proofs.TextLemmas.{line_ended, line_answered, line_reads}
use Rattle.partmem_c.proofs.FitLemmas.{tenant_fits}
use Rattle.partmem_c.proofs.lines.run_long.Goals as goal

pub returns : goal.returns
returns c =
    let text = c.answer_apart.ensures.0 in
    let reads = c.in_ok-read.ensures.reads in
    let one : has_line_feed c.args.line.now ≡ false =
    line_ended c.args.line.now _ _ _ _ c.in_ok-read.read.len (omega arith) c.put_ended.ensures reads in record {
      text = text;
      one = one;
      fits = tenant_fits c.args.kernel.now (reading_of c.args.line.now) c.args.buffer.now _ _ c.requires (line_reads c.args.line.now _ _ _ _ c.in_ok-read.read.len one c.put_ended.ensures reads);
      answers = line_answered _ _ c.args.line.now _ _ text _ _ _ one c.put_ended.ensures reads c.answer_apart.ensures.1;
      puts = c.answer_apart.ensures.2;
    }
