use Rattle.std.proofs.Common.{◌≡◌, ℕ, ◌+◌, ◌-◌, ◌++◌, ◌∙◌, List, flat_map, ap, sym, arith}
use Rattle.std.specs.List.{range_with_len}
use Rattle.framemap.specs.Peaks.{most_in_column}
use Rattle.framemap.specs.Tables.{row_text}
use Rattle.picture_svg.proofs.JoinedTexts.{as_text, nothing, renamed, then_text}
use Rattle.framemap.proofs.TableLemmas.{range_more}
use Rattle.framemap.proofs.figures.write_column.Goals as goal

pub loop-t-init : goal.loop-t-init
loop-t-init g c =
    let row : ℕ → List ℕ = λ t. row_text c.args.orders c.args.column.now (most_in_column c.args.peaks.now t c.args.at) t in
    let first : ℕ = c.args.first in
    let none : 0 ≡ first - first = omega arith in record {
      within = omega arith;
      drawn = nothing (g.W.Write.contents c.args.out.now) (λ text. text ≡ flat_map row (range_with_len first (first - first)))
          (ap (λ n. flat_map row (range_with_len first n)) none);
    }

pub loop-t-preserved : goal.loop-t-preserved
loop-t-preserved g c =
    let row : ℕ → List ℕ = λ t. row_text c.args.orders c.args.column.now (most_in_column c.args.peaks.now t c.args.at) t in
    let first : ℕ = c.args.first in
    let t : ℕ = c.loop-t.t in record {
      within = omega (arith, c.loop-t-test.true);
      drawn = as_text (flat_map row (range_with_len first (t + 1 - first))) (then_text c.loop-t.invariant.drawn c.in_ok-write_row.ensures)
          (ap (λ most. flat_map row (range_with_len first (t - first)) ++ row_text c.args.orders c.args.column.now most t) c.most.ensures
          ∙ sym (range_more row first t (omega (arith, c.loop-t.auto.t))));
    }

pub returns : goal.returns
returns g c =
    let row : ℕ → List ℕ = λ t. row_text c.args.orders c.args.column.now (most_in_column c.args.peaks.now t c.args.at) t in
    let first : ℕ = c.args.first in
    let all : c.loop-t.t - first ≡ c.args.end - first = omega (arith, c.loop-t-test.false, c.loop-t.auto.t, c.loop-t.invariant.within) in
    renamed (flat_map row (range_with_len first (c.args.end - first))) (ap (λ n. flat_map row (range_with_len first n)) all)
    c.loop-t.invariant.drawn
