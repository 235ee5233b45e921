use Rattle.std.proofs.Common.{◌≡◌, ◌≢◌, ℕ, ◌+◌, ◌*◌, ◌%◌, ◌^◌, ◌<◌, ◌≤◌, subst, ◌∙◌, arith}
use Rattle.std.proofs.lemmas.Nat.{shl_whole}
use Rattle.std.proofs.lemmas.Option.{slice_get_within}
use Rattle.kernel_core.specs.Frames.{IsFrame}
use Rattle.world_core.proofs.MachineLists.{slice_get-set_other}
use Rattle.frame_picture.proofs.ListFilled.{more_filled}
use Rattle.frame_picture.proofs.showing.show_beyond.Goals as goal

pub loop-k-preserved : goal.loop-k-preserved
loop-k-preserved c =
    let order : ℕ = c.args.kernel.now.order in
    let base : ℕ = c.args.slot * 2 ^ order in
    let first : c.from.result * 2 ^ c.order.result % 18446744073709551616 ≡ base =
    rw c.from.ensures (rw c.order.ensures (shl_whole c.args.slot 16 order 64 (omega (arith, c.ranges.slot)) (omega (arith, c.parts_agree.ensures.order)))) in
    record {
      kept = λ j less.
          let other : c.loop-k.k ≢ j = omega (arith, less, c.loop-k.auto.k) in
          slice_get-set_other c.loop-k.cells c.loop-k.k j c.frame_at.result other ∙ c.loop-k.invariant.kept j less;
      told = λ m j cell shown above less small is.
          more_filled (λ j x. c.args.from ≤ j → base + j < 2 ^ 32 → IsFrame order m (base + j) x)
          c.loop-k.cells c.loop-k.k c.frame_at.result (omega arith)
          (λ j x below there above small. c.loop-k.invariant.told m j x shown above below small there)
          (λ above small.
          let e : c.min-frame.result ≡ base + c.loop-k.k = omega (arith, c.min-frame.ensures, c.saturating_add.ensures, c.from-in-loop-k.ensures, first, small) in
          subst (λ f. IsFrame order m f c.frame_at.result) e (c.frame_at.ensures m shown))
          j cell less is above small;
    }

pub returns-clause-told : goal.returns-clause-told
returns-clause-told c m k cell shown above small is =
    c.loop-k.invariant.told m k cell shown above (omega (arith, slice_get_within _ k cell is, above, c.loop-k-test.false)) small is
