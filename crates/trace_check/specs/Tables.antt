-- Reading a report and the table of owners: a first line, and then rows that begin with the same front as that line. The front is
-- the addressee, such as `3> `.
use Rattle.std.specs.Prelude.{ℕ, true, zero, suc, ◌+◌, ◌-◌, ◌^◌, ◌==◌, ◌&&◌, List, [], ◌∷◌, codes, length, take, drop, slice_index, nat_lt, count_by, is_none, if◌then◌else◌, Option, Some, None}
use Rattle.std.specs.Str.{bytes_eq}
use Rattle.model_core.specs.declared.owner.Owner.{Owner}
use Rattle.model_core.specs.declared.report.OrderRow.{OrderRow}
use Rattle.model_core.specs.declared.report.CacheRow.{CacheRow}
use Rattle.words_core.specs.declared.reply.Body.{Body}
use Rattle.words_core.specs.declared.reply.Reply.{Reply}
use Rattle.words_core.specs.declared.report.Report.{Report}
use Rattle.words_core.specs.declared.report.TheConstants.{ORDERS, CACHES}
use Rattle.words_core.specs.declared.reply.TheConstants.{OWNERS}
use Rattle.trace_check.specs.Forms.{◌>>=◌, form_at}
use Rattle.trace_check.specs.Replies.{made_at, ◌or_else◌, fit_tenant, addressee_at, whole, answer_of}

-- the rest of the text after this front, if the text begins with the front
unfoldable pub after_front : List ℕ → List ℕ → Option (List ℕ)
after_front front text = if bytes_eq (take (length front) text) front then Some (drop (length front) text) else None

-- the row behind the front of a line, and the text that follows the row
abbrev pub row_behind : {A : Type 0} → (List ℕ → Option (A × List ℕ)) → List ℕ → List ℕ → Option (A × List ℕ)
row_behind row_at front text = after_front front text >>= row_at

-- the row that was found and the rows that follow it, or no rows
abbrev pub then_rows : {A : Type 0} → Option (A × List ℕ) → List ℕ → (List ℕ → List A × List ℕ) → List A × List ℕ
then_rows None text more = ([], text)
then_rows (Some found) text more = (found.0 ∷ (more found.1).0, (more found.1).1)

-- at most `most` rows from this index on, each behind the front of its line, and the text that follows them
unfoldable pub rows_from : {A : Type 0} → (ℕ → List ℕ → Option (A × List ℕ)) → List ℕ → ℕ → ℕ → List ℕ → List A × List ℕ
rows_from row_at front zero index text = ([], text)
rows_from row_at front (suc most) index text =
    then_rows (row_behind (row_at index) front text) text (λ rest. rows_from row_at front most (index + 1) rest)

-- ---- a report

unfoldable pub order_at : ℕ → List ℕ → Option (OrderRow × List ℕ)
order_at order text = made_at (codes "order # free # taken #\n")
    (λ ns. slice_index ns 0 == order) (λ ns. record { free = slice_index ns 1; taken = slice_index ns 2 }) text

unfoldable pub cache_row_at : ℕ → List ℕ → Option (CacheRow × List ℕ)
cache_row_at index text = made_at (codes "cache # full # partial # empty # live #\n")
    (λ ns. nat_lt (slice_index ns 0) (2 ^ 8)) (λ ns. record {
      cache = slice_index ns 0;
      full = slice_index ns 1;
      partial = slice_index ns 2;
      empty = slice_index ns 3;
      live = slice_index ns 4;
    }) text

-- the greatest order of a free block, and the share of the free frames outside one block of this order
unfoldable pub top_at : List ℕ → Option ((Option ℕ × ℕ) × List ℕ)
top_at text =
    made_at (codes "# split #\n") (λ ns. nat_lt (slice_index ns 0) (2 ^ 8)) (λ ns. (Some (slice_index ns 0), slice_index ns 1)) text

unfoldable pub no_top_at : List ℕ → Option ((Option ℕ × ℕ) × List ℕ)
no_top_at text = made_at (codes "none split #\n") (λ ns. true) (λ ns. (None, slice_index ns 0)) text

unfoldable pub some_top_at : List ℕ → Option ((Option ℕ × ℕ) × List ℕ)
some_top_at text = top_at text or_else no_top_at text

-- the first line of a report, and then its rows
unfoldable pub report_at : List ℕ → List ℕ → Option (Body × List ℕ)
report_at front text =
    form_at (codes "frames # live # free # top ") text >>= (λ head.
    some_top_at head.1 >>= (λ top.
    let orders = rows_from order_at front ORDERS 0 top.1 in
    let caches = rows_from cache_row_at front CACHES 0 orders.1 in
    let report : Report = record {
      frames = slice_index head.0 0;
      live = slice_index head.0 1;
      free = slice_index head.0 2;
      top = top.0.0;
      split = top.0.1;
      orders = record { items = orders.0 };
      caches = record { items = caches.0 };
    } in
    Some (Body.Report report, caches.1)))

-- ---- the table of owners

unfoldable pub unowned_at : List ℕ → Option (Option Owner × List ℕ)
unowned_at text = made_at (codes "free\n") (λ ns. true) (λ ns. None) text

unfoldable pub owned_at : List ℕ → Option (Option Owner × List ℕ)
owned_at text = made_at (codes "tenant # slot #\n") fit_tenant
    (λ ns. Some (record { tenant = slice_index ns 0; slot = slice_index ns 1 })) text

-- the owner in the row of this superblock
abbrev pub owner_of : ℕ → List ℕ × List ℕ → Option (Option Owner × List ℕ)
owner_of superblock found =
    if slice_index found.0 0 == superblock then unowned_at found.1 or_else owned_at found.1 else None

unfoldable pub owner_at : ℕ → List ℕ → Option (Option Owner × List ℕ)
owner_at superblock text = form_at (codes "superblock # ") text >>= owner_of superblock

-- a table of owners; its first line has the number of rows without an owner and the number of all rows
unfoldable pub pool_at : List ℕ → List ℕ → Option (Body × List ℕ)
pool_at front text =
    form_at (codes "pool free # of #\n") text >>= (λ head.
    let owners = rows_from owner_at front OWNERS 0 head.1 in
    if count_by is_none owners.0 == slice_index head.0 0 && length owners.0 == slice_index head.0 1
    then Some (Body.Owners (record { items = owners.0 }), owners.1) else None)

-- ---- the whole text

unfoldable pub table_of : List ℕ → Option Reply
table_of text =
    addressee_at text >>= (λ found.
    let front = take (length text - length found.1) text in
    (report_at front found.1 or_else pool_at front found.1) >>= (λ body.
    whole body >>= (λ alone. Some (record { addressee = found.0; body = alone }))))

-- the reply with this text, of one line or of several
unfoldable pub reply_of_text : List ℕ → Option Reply
reply_of_text text = answer_of text or_else table_of text
