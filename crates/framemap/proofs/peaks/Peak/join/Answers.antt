use Rattle.std.proofs.Common.{◌≡◌, ◌-◌, ◌%◌, ◌/◌, slice_get, slice_index, Some, subst, sym, ◌∙◌, refl, arith}
use Rattle.std.proofs.lemmas.Option.{get_or_from_slice_get, slice_get_read}
use Rattle.framemap.proofs.PeakLemmas.{joined}
use Rattle.framemap.proofs.peaks.Peak.join.Goals as goal

pub returns-then-ended-eq1 : goal.returns-then-ended-eq1
returns-then-ended-eq1 c = λ taken lines width most_columns few reach is.
    let all : c.min-ended.result ≡ c.args.ended = omega (arith, c.min-ended.ensures, c.len.ensures, is.fits, few) in
    let half : c.loop-i.i ≡ c.args.ended / 2 = omega (arith, all, c.loop-i-test.false, c.loop-i.auto.i-end) in
    let is_odd : c.args.ended % 2 ≡ 1 = subst (λ n. n % 2 ≡ 1) all c.if-ended-eq1.true in
    let here : slice_get c.loop-i.self.columns.items (c.min-ended.result - 1) ≡ Some c.index-then-ended-eq1.result.now =
    slice_get_read c.loop-i.self.columns.items _ (c.min-ended.result - 1) c.index-then-ended-eq1.result.now refl
    (omega (arith, all, is_odd, is.fits, few, c.loop-i.invariant.long, c.loop-i.self.columns.ok.0)) c.index-then-ended-eq1.ensures in
    let last : slice_index c.args.self.now.columns.items (c.min-ended.result - 1) ≡ c.index-then-ended-eq1.result.now =
    sym (c.loop-i.invariant.ahead (c.min-ended.result - 1) (omega (arith, all, half, is_odd)))
    ∙ get_or_from_slice_get c.loop-i.self.columns.items (c.min-ended.result - 1) c.index-then-ended-eq1.result.now 0 here in
    let last' : slice_index c.args.self.now.columns.items (c.args.ended - 1) ≡ c.index-then-ended-eq1.result.now =
    subst (λ n. slice_index c.args.self.now.columns.items (n - 1) ≡ c.index-then-ended-eq1.result.now) all last in
    let done = joined taken lines width c.args.ended most_columns c.max-self.result (slice_index c.loop-i.self.columns.items) c.args.self.now reach is
    (λ i less. c.loop-i.invariant.passed i (omega (arith, half, less)))
    (λ odd. omega (arith, c.max-self.ensures, c.loop-i.invariant.since, last'))
    (λ even. absurd (even is_odd)) in record {
      now = c.loop-i.invariant.now ∙ is.now;
      each = done.0;
      since = done.1;
      fits = omega (arith, is.fits, c.loop-i.invariant.long);
    }

pub returns-else-ended-eq1 : goal.returns-else-ended-eq1
returns-else-ended-eq1 c = λ taken lines width most_columns few reach is.
    let all : c.min-ended.result ≡ c.args.ended = omega (arith, c.min-ended.ensures, c.len.ensures, is.fits, few) in
    let half : c.loop-i.i ≡ c.args.ended / 2 = omega (arith, all, c.loop-i-test.false, c.loop-i.auto.i-end) in
    let done = joined taken lines width c.args.ended most_columns c.loop-i.self.since (slice_index c.loop-i.self.columns.items) c.args.self.now reach is
    (λ i less. c.loop-i.invariant.passed i (omega (arith, half, less)))
    (λ odd. absurd (c.if-ended-eq1.false (subst (λ n. n % 2 ≡ 1) (sym all) odd)))
    (λ even. c.loop-i.invariant.since) in record {
      now = c.loop-i.invariant.now ∙ is.now;
      each = done.0;
      since = done.1;
      fits = omega (arith, is.fits, c.loop-i.invariant.long);
    }
