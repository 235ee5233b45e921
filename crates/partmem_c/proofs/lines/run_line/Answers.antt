use Rattle.std.proofs.Common.{◌≡◌, false, arith}
use Rattle.words_core.specs.Grammar.{reading_of}
use Rattle.partmem_c.specs.Lines.{has_line_feed}
use Rattle.partmem_c.proofs.TextLemmas.{line_ended, line_answered, line_reads}
use Rattle.partmem_c.proofs.FitLemmas.{tenant_fits}
use Rattle.partmem_c.proofs.lines.run_line.Goals as goal

pub returns-then-read-line : goal.returns-then-read-line
returns-then-read-line c =
    let text = c.answer_request.ensures.0 in
    let reads = c.in-Some-read_request.ensures.reads in
    let one : has_line_feed c.args.line.now ≡ false =
    line_ended c.args.line.now _ _ _ _ c.in-Some-read_request.read.len (omega arith) c.put_ended.ensures reads in record {
      text = text;
      one = one;
      fits = tenant_fits c.args.kernel.now (reading_of c.args.line.now) c.args.buffer.now _ _ c.requires (line_reads c.args.line.now _ _ _ _ c.in-Some-read_request.read.len one c.put_ended.ensures reads);
      answers = line_answered _ _ c.args.line.now _ _ text _ _ _ one c.put_ended.ensures reads c.answer_request.ensures.1;
      puts = c.answer_request.ensures.2;
    }
