use Rattle.std.proofs.Common.{◌+◌, ◌*◌, max, refl, sym, arith}
use Rattle.framemap.proofs.PeakLemmas.{most_at, most_more}
use Rattle.framemap.proofs.peaks.Peak.note.Goals as goal

pub returns : goal.returns
returns c = λ taken lines width ended most_columns same from is. record {
  now = sym same;
  each = is.each;
  since = most_at taken (ended * width) (ended * width) (lines + 1) (lines + 1) (max c.args.taken c.args.self.now.since) c.max-self.result refl refl
      (omega (arith, c.max-self.ensures)) (most_more taken (ended * width) lines c.args.self.now.since c.args.taken from same is.since);
  fits = is.fits;
}
