use Rattle.std.proofs.Common.{◌-◌, ◌++◌, length, take, drop, sym, ap, subst, ◌∙◌, arith, length-take}
use Rattle.std.proofs.lemmas.List.{take-take}
use Rattle.std.proofs.Math.Seq.{take-add}
use Rattle.std.specs.Io.KnownBytes.{Appends}
use Rattle.streams.proofs.MoveLemmas.{appends_more}
use Rattle.streams.proofs.writer_drain.write_out.Goals as goal

pub loop-written-preserved : goal.loop-written-preserved
loop-written-preserved g c =
    let done = c.loop-written.written in
    let count = c.in-Ok.count in
    let bytes = c.args.bytes.now in
    let within = c.in-Ok.ensures.bound in
    let most = length-take (length bytes - done) (drop done bytes) in
    let joined = ap (λ part. take done bytes ++ part) (take-take count (length bytes - done) (drop done bytes) (omega arith)) ∙ sym (take-add done count bytes) in
    (omega arith, subst (Appends _ _) joined (appends_more _ _ _ _ _ c.loop-written.invariant.1 c.in-Ok.ensures.bytes))
