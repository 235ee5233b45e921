use Rattle.std.proofs.Common.{refl, arith}
use Rattle.framemap.proofs.PeakLemmas.{ended_is}
use Rattle.framemap.proofs.peaks.Peak.end_column.Goals as goal

pub returns-then-ended-len : goal.returns-then-ended-len
returns-then-ended-len c = ended_is c.args.ended c.args.self.now _ (omega (arith, c.if-ended-len.true, c.len.ensures)) refl refl refl refl
