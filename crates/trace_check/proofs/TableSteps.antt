-- Reading a table, one part at a time.
use Rattle.std.proofs.Common.{◌≡◌, ℕ, Bool, cond, List, length, get_or, Option, Some, None, sym, ◌∙◌, ap}
use Rattle.std.specs.Prelude.{codes, ◌==◌, ◌&&◌, count_by, is_none}
use Rattle.model_core.specs.declared.owner.Owner.{Owner}
use Rattle.model_core.specs.declared.report.OrderRow.{OrderRow}
use Rattle.model_core.specs.declared.report.CacheRow.{CacheRow}
use Rattle.words_core.specs.declared.report.Report.{Report}
use Rattle.words_core.specs.declared.reply.Body.{Body}
use Rattle.words_core.specs.declared.reply.Body.TheVariants as Say
use Rattle.trace_check.specs.Forms.{◌>>=◌, form_at}
use Rattle.trace_check.specs.Tables.{rows_from, order_at, cache_row_at, some_top_at, report_at, owner_at, pool_at}

abbrev pub report_made : List ℕ → Option ℕ → ℕ → List OrderRow → List CacheRow → Report
report_made ns top split orders caches = record {
  frames = get_or ns 0 0;
  live = get_or ns 1 0;
  free = get_or ns 2 0;
  top = top;
  split = split;
  orders = record { items = orders };
  caches = record { items = caches };
}

abbrev with_caches : List ℕ → Option ℕ → ℕ → List OrderRow → List CacheRow × List ℕ → Option (Body × List ℕ)
with_caches ns top split orders caches = Some (Say.Report (report_made ns top split orders caches.0), caches.1)

abbrev with_orders : List ℕ → List ℕ → Option ℕ → ℕ → List OrderRow × List ℕ → Option (Body × List ℕ)
with_orders front ns top split orders =
    with_caches ns top split orders.0 (rows_from cache_row_at front 32 0 orders.1)

abbrev pub with_top : List ℕ → List ℕ → (Option ℕ × ℕ) × List ℕ → Option (Body × List ℕ)
with_top front ns top = with_orders front ns top.0.0 top.0.1 (rows_from order_at front 11 0 top.1)

pub report_is : (front text ns line : List ℕ) (top : Option ℕ) (split : ℕ) (rows : List ℕ) (orders : List OrderRow) (later : List ℕ)
    (caches : List CacheRow) (rest : List ℕ) → form_at (codes "frames # live # free # top ") text ≡ Some (ns, line)
    → some_top_at line ≡ Some ((top, split), rows) → rows_from order_at front 11 0 rows ≡ (orders, later)
    → rows_from cache_row_at front 32 0 later ≡ (caches, rest)
    → report_at front text ≡ Some (Say.Report (report_made ns top split orders caches), rest)
unfolding report_at
report_is front text ns line top split rows orders later caches rest head tops order_rows cache_rows =
    ap (λ found. found >>= (λ head. some_top_at head.1 >>= with_top front head.0)) head
    ∙ ap (λ found. found >>= with_top front ns) tops
    ∙ ap (with_orders front ns top split) order_rows
    ∙ ap (with_caches ns top split orders) cache_rows

abbrev pub with_owners : List ℕ → List (Option Owner) × List ℕ → Option (Body × List ℕ)
with_owners ns owners =
    cond (count_by is_none owners.0 == get_or ns 0 0 && length owners.0 == get_or ns 1 0) (Some (Say.Owners (record { items = owners.0 }), owners.1)) None

pub pool_read : (front text ns rows : List ℕ) (owners : List (Option Owner)) (rest : List ℕ) → form_at (codes "pool free # of #\n") text ≡ Some (ns, rows)
    → rows_from owner_at front 256 0 rows ≡ (owners, rest) → pool_at front text ≡ with_owners ns (owners, rest)
unfolding pool_at
pool_read front text ns rows owners rest head owner_rows =
    ap (λ found. found >>= (λ head. with_owners head.0 (rows_from owner_at front 256 0 head.1))) head
    ∙ ap (with_owners ns) owner_rows

-- a table of owners is read if, and only if, the counts in its first line are the counts of its rows
pub pool_so : (test fits : Bool) (front text ns rows : List ℕ) (slice owners : List (Option Owner)) (rest : List ℕ)
    → form_at (codes "pool free # of #\n") text ≡ Some (ns, rows) → rows_from owner_at front 256 0 rows ≡ (owners, rest) → slice ≡ owners
    → fits ≡ (count_by is_none slice == get_or ns 0 0 && length slice == get_or ns 1 0) → fits ≡ test
    → pool_at front text ≡ cond test (Some (Say.Owners (record { items = owners }), rest)) None
pool_so test fits front text ns rows slice owners rest head owner_rows same counts is =
    pool_read front text ns rows owners rest head owner_rows
    ∙ ap (λ test. cond test (Some (Say.Owners (record { items = owners }), rest)) None)
    (ap (λ (all : List (Option Owner)). count_by is_none all == get_or ns 0 0 && length all == get_or ns 1 0) (sym same) ∙ sym counts ∙ is)
