use Rattle.partcheck.proofs.JoinedTexts.{finding_flushed}
use Rattle.partcheck.proofs.telling.write_finding.Goals as goal

pub returns : goal.returns
returns g c = record {
  written = finding_flushed c.args.finding.now c.args.shown.now c.args.tenants
      (g.W.Write.contents c.args.out.now) (g.W.Write.contents c.write_line.new.out)
      (g.W.Write.contents c.flush.new.self) c.flush.result c.in_ok-write_line.ensures c.flush.ensures.bytes;
}
