use Rattle.std.proofs.Common.{true, false}
use Rattle.trace_check.proofs.TableSteps.{pool_so}
use Rattle.trace_check.proofs.table.pool_at.Goals as goal

pub returns-then-not-are_counts : goal.returns-then-not-are_counts
returns-then-not-are_counts c =
    pool_so false c.are_counts.result c.args.front.now c.args.text.now c.in_ok-free.field-0-0 c.in_ok-free.rest.now c.as_slice.result.now
    c.rows_at-owners.result.0.items c.rows_at-owners.result.1.now c.in_ok-free.ensures c.rows_at-owners.ensures c.as_slice.ensures.value
    c.are_counts.ensures c.if-not-are_counts.true

pub returns : goal.returns
returns c =
    pool_so true c.are_counts.result c.args.front.now c.args.text.now c.in_ok-free.field-0-0 c.in_ok-free.rest.now c.as_slice.result.now
    c.rows_at-owners.result.0.items c.rows_at-owners.result.1.now c.in_ok-free.ensures c.rows_at-owners.ensures c.as_slice.ensures.value
    c.are_counts.ensures c.if-not-are_counts.false
