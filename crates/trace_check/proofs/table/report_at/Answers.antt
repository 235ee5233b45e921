use Rattle.trace_check.proofs.TableSteps.{report_is}
use Rattle.trace_check.proofs.table.report_at.Goals as goal

pub returns : goal.returns
returns c =
    report_is c.args.front.now c.args.text.now c.in_ok-frames.field-0-0 c.in_ok-frames.rest.now c.in_ok-top.top c.in_ok-top.split
    c.in_ok-top.rest.now c.rows_at-orders.result.0.items c.rows_at-orders.result.1.now c.rows_at-caches.result.0.items
    c.rows_at-caches.result.1.now c.in_ok-frames.ensures c.in_ok-top.ensures c.rows_at-orders.ensures c.rows_at-caches.ensures
