-- The rows of a report are the line about the frames, then a line for each order, then a line for each cache.
use Rattle.std.proofs.Common.{◌≡◌, ◌<◌, ◌+◌, ℕ, zero, suc, List, [], ◌∷◌, ◌++◌, length, map, get_or, Some, slice_get, refl, sym, ◌∙◌, ap, arith, add-zero, length-append}
use Rattle.std.specs.Prelude.{option_map}
use Rattle.std.proofs.lemmas.List.{length-map}
use Rattle.std.proofs.lemmas.Option.{slice_get-map, slice_get-get_or}
use Rattle.model_core.specs.declared.report.OrderRow.{OrderRow}
use Rattle.model_core.specs.declared.report.CacheRow.{CacheRow}
use Rattle.words_core.specs.ReportTexts.{order_text, order_texts, cache_text, report_texts}
use Rattle.words_core.specs.Texts.{addressee_text, body_texts, lines_of}
use Rattle.words_core.specs.declared.reply.Body.{Body}
use Rattle.words_core.specs.declared.reply.Body.TheVariants as Say
use Rattle.words_core.specs.declared.reply.Reply.{Reply}
use Rattle.words_core.specs.declared.report.Report.{Report}

pub length-order_texts : (front : List ℕ) (first : ℕ) (rows : List OrderRow) → length (order_texts front first rows) ≡ length rows
length-order_texts front first [] = refl
length-order_texts front first (row ∷ rows) = ap suc (length-order_texts front (first + 1) rows)

-- among the lines of the orders from `first` on, line k is the line of order `first` + k, whatever lines follow them
row-order_texts : (front : List ℕ) (first k : ℕ) (rows : List OrderRow) (rest : List (List ℕ)) (d : OrderRow) → k < length rows
    → slice_get (order_texts front first rows ++ rest) k ≡ Some (order_text front (first + k) (get_or rows k d))
row-order_texts front first k [] rest d within = absurd (omega arith)
row-order_texts front first zero (row ∷ rows) rest d within = ap (λ n. Some (order_text front n row)) (sym (add-zero first))
row-order_texts front first (suc k) (row ∷ rows) rest d within =
    row-order_texts front (first + 1) k rows rest d (omega arith)
    ∙ ap (λ n. Some (order_text front n (get_or rows k d))) (omega arith)

after_orders : (front : List ℕ) (first j k : ℕ) (rows : List OrderRow) (rest : List (List ℕ)) → j ≡ length rows + k
    → slice_get (order_texts front first rows ++ rest) j ≡ slice_get rest k
after_orders front first j k [] rest is = ap (slice_get rest) (omega (arith, is))
after_orders front first zero k (row ∷ rows) rest is = absurd (omega (arith, is))
after_orders front first (suc j) k (row ∷ rows) rest is = after_orders front (first + 1) j k rows rest (omega (arith, is))

-- row k + 1 of a report is the line of order k
pub order_row_of : (front : List ℕ) (report : Report) (row k : ℕ) (orders : List OrderRow) (d : OrderRow) → orders ≡ report.orders.items
    → row ≡ suc k → k < length orders → slice_get (report_texts front report) row ≡ Some (order_text front k (get_or orders k d))
order_row_of front report row k orders d orders_are row_is within =
    ap (slice_get (report_texts front report)) row_is
    ∙ row-order_texts front 0 k report.orders.items _ d (omega (arith, within, ap length orders_are))
    ∙ ap (λ n. Some (order_text front n (get_or report.orders.items k d))) (omega arith)
    ∙ ap (λ rows. Some (order_text front k (get_or rows k d))) (sym orders_are)

-- if the report has n orders, row n + 1 + k of the report is the line of the cache at index k
pub cache_row_of : (front : List ℕ) (report : Report) (row k : ℕ) (caches : List CacheRow) (d : CacheRow) → caches ≡ report.caches.items
    → row ≡ suc (length report.orders.items + k) → k < length caches
    → slice_get (report_texts front report) row ≡ Some (cache_text front (get_or caches k d))
cache_row_of front report row k caches d caches_are row_is within =
    ap (slice_get (report_texts front report)) row_is
    ∙ after_orders front 0 _ k report.orders.items _ refl
    ∙ slice_get-map (λ (row : CacheRow). cache_text front row) report.caches.items k
    ∙ ap (option_map (λ (row : CacheRow). cache_text front row)) (slice_get-get_or report.caches.items k d (omega (arith, within, ap length caches_are)))
    ∙ ap (λ rows. Some (cache_text front (get_or rows k d))) (sym caches_are)

pub length-report_texts : (front : List ℕ) (report : Report)
    → length (report_texts front report) ≡ 1 + length report.orders.items + length report.caches.items
length-report_texts front report =
    let caches = map (λ (row : CacheRow). cache_text front row) report.caches.items in
    let orders = order_texts front 0 report.orders.items in
    omega (
      arith,
      length-append orders caches,
      length-order_texts front 0 report.orders.items,
      length-map report.caches.items (λ (row : CacheRow). cache_text front row),
    )

-- a report has one line for the frames, one for each order, and one for each cache
pub length-report_lines : (reply : Reply) (report : Report) → reply.body ≡ Say.Report report
    → 1 + length report.orders.items + length report.caches.items ≡ length (lines_of reply)
length-report_lines reply report is =
    let front = addressee_text reply.addressee in
    let lines = λ (body : Body). map (λ text. text ++ 10 ∷ []) (body_texts front body) in
    let counted : 1 + length report.orders.items + length report.caches.items ≡ length (lines (Say.Report report)) =
    omega (arith, length-map (report_texts front report) (λ text. text ++ 10 ∷ []), length-report_texts front report) in
    counted ∙ ap (λ body. length (lines body)) (sym is)
