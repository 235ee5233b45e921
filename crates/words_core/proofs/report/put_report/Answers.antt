use Rattle.std.proofs.Common.{◌≡◌, ◌∙◌, length, take, Some, ap, sym, arith}
use Rattle.words_core.proofs.ReportLemmas.{order_row_of, cache_row_of, length-report_texts}
use Rattle.words_core.proofs.report.put_report.Goals as goal

pub bounds-caches-cache : goal.bounds-caches-cache
bounds-caches-cache c =
    omega (
      arith,
      c.requires.row,
      length-report_texts (take c.args.at c.args.out.now) c.args.report.now,
      c.in-Some.ensures,
      c.in-Some-checked_sub.ensures,
      ap length c.as_slice-orders.ensures.value,
      ap length c.as_slice-caches.ensures.value,
    )

pub offset_bounds-caches-cache : goal.offset_bounds-caches-cache
offset_bounds-caches-cache c =
    grind (
      arith,
      c.requires.row,
      length-report_texts (take c.args.at c.args.out.now) c.args.report.now,
      c.in-Some.ensures,
      c.in-Some-checked_sub.ensures,
      ap length c.as_slice-orders.ensures.value,
      ap length c.as_slice-caches.ensures.value,
      c.as_slice-caches.ensures.fits,
    )

pub returns-in-None-clause-text : goal.returns-in-None-clause-text
returns-in-None-clause-text c =
    order_row_of (take c.args.at c.args.out.now) c.args.report.now c.args.row c.in-Some.order c.as_slice-orders.result.now _ c.as_slice-orders.ensures.value
    (omega (arith, c.in-Some.ensures)) (omega (arith, c.in-None.ensures))
    ∙ ap Some (sym c.put_order.ensures.text)

pub returns-in-Some-checked_sub-clause-text : goal.returns-in-Some-checked_sub-clause-text
returns-in-Some-checked_sub-clause-text c =
    let orders : length c.as_slice-orders.result.now ≡ length c.args.report.now.orders.items = ap length c.as_slice-orders.ensures.value in
    cache_row_of (take c.args.at c.args.out.now) c.args.report.now c.args.row c.in-Some-checked_sub.cache c.as_slice-caches.result.now _
    c.as_slice-caches.ensures.value
    (omega (arith, c.in-Some.ensures, c.in-Some-checked_sub.ensures, orders))
    (omega (
      arith,
      c.requires.row,
      length-report_texts (take c.args.at c.args.out.now) c.args.report.now,
      c.in-Some.ensures,
      c.in-Some-checked_sub.ensures,
      orders,
      ap length c.as_slice-caches.ensures.value,
    ))
    ∙ ap Some (sym c.put_cache_row.ensures.text)
