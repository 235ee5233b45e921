use Rattle.std.proofs.Common.{◌≡◌, ◌+◌, ◌-◌, suc, arith}
use Rattle.trace_check.proofs.RowLoop.{rows_go_on, rows_end, rows_done}
use Rattle.trace_check.proofs.rows.rows_at.Goals as goal

pub loop-index-preserved : goal.loop-index-preserved
loop-index-preserved g c =
    let i = c.loop-index.index in
    let left : g.row.N - i ≡ suc (g.row.N - (i + 1)) = omega (arith, c.loop-index-test.true) in
    record {
      all = rw c.push.ensures.items
          (rows_go_on g.R.Row.row_at c.args.front.now (g.row.N - i) (g.row.N - (i + 1)) i c.loop-index.rows.items c.in-Some.row
          c.loop-index.rest.now c.in-Some.after.now _ left c.in-Some.ensures c.loop-index.invariant.all);
      count = omega (arith, c.push.ensures.len, c.loop-index.invariant.count);
    }

pub returns-in_default : goal.returns-in_default
returns-in_default g c =
    let i = c.loop-index.index in
    let left : g.row.N - i ≡ suc (g.row.N - (i + 1)) = omega (arith, c.loop-index-test.true) in
    rows_end g.R.Row.row_at c.args.front.now (g.row.N - i) (g.row.N - (i + 1)) i c.loop-index.rows.items c.loop-index.rest.now _ left c.in_default.ensures c.loop-index.invariant.all

pub returns : goal.returns
returns g c =
    let left : g.row.N - c.loop-index.index ≡ 0 = omega (arith, c.loop-index-test.false) in
    rows_done g.R.Row.row_at c.args.front.now (g.row.N - c.loop-index.index) c.loop-index.index c.loop-index.rows.items c.loop-index.rest.now _ left c.loop-index.invariant.all
