-- The report of a tenant as the struct `Figures`, which C gets.
use Rattle.std.specs.Prelude.{◌≡◌, ℕ, List, ◌++◌, length, map, drop, replicate, Option, Some, None}
use Rattle.model_core.specs.declared.report.OrderRow.{OrderRow}
use Rattle.model_core.specs.declared.report.CacheRow.{CacheRow}
use Rattle.words_core.specs.declared.reply.Body.{Body}
use Rattle.words_core.specs.declared.event.Command.{Command}
use Rattle.words_core.specs.declared.event.Event.{Event}
use Rattle.words_core.specs.declared.reply.Reply.{Reply}
use Rattle.words_core.specs.declared.report.Report as words
use Rattle.words_core.specs.declared.report.TheConstants.{ORDERS, CACHES}
use Rattle.kernel_core.specs.Content.{KernelContent}
use Rattle.kernel_core.specs.Steps.{Steps}
use Rattle.partmem_c.specs.Events.{numbers_of_body}
use Rattle.partmem_c.specs.Calls.{block_bytes, call_status}
use Rattle.partmem_c.specs.declared.figures.OrderFigures.{OrderFigures}
use Rattle.partmem_c.specs.declared.figures.CacheFigures.{CacheFigures}
use Rattle.partmem_c.specs.declared.figures.Figures.{Figures}

abbrev pub order_figures : OrderRow → OrderFigures
order_figures row = record { free = row.free; taken = row.taken }

abbrev pub cache_figures : CacheRow → CacheFigures
cache_figures row = record { cache = row.cache; full = row.full; partial = row.partial; empty = row.empty; live = row.live }

abbrev pub no_order : OrderFigures
no_order = record { free = 0; taken = 0 }

abbrev pub no_cache : CacheFigures
no_cache = record { cache = 0; full = 0; partial = 0; empty = 0; live = 0 }

abbrev pub no_figures : Figures
no_figures = record {
  frames = 0;
  live = 0;
  free = 0;
  greatest = 0;
  split = 0;
  orders = 0;
  caches = 0;
  order = replicate ORDERS no_order;
  cache = replicate CACHES no_cache;
}

-- the size in bytes of a largest free block, or 0 if no block is free
abbrev pub greatest_bytes : Option ℕ → ℕ
greatest_bytes None = 0
greatest_bytes (Some order) = block_bytes order

-- the rows `before`, with the first ones replaced by `rows`
abbrev pub over : {A : Type 0} → List A → List A → List A
over rows before = rows ++ drop (length rows) before

-- a report as figures; the unused rows at the end of `order` and `cache` are zeroes
abbrev pub figures_of_report : words.Report → Figures
figures_of_report report = record {
  frames = report.frames;
  live = report.live;
  free = report.free;
  greatest = greatest_bytes report.top;
  split = report.split;
  orders = length report.orders.items;
  caches = length report.caches.items;
  order = over (map order_figures report.orders.items) (replicate ORDERS no_order);
  cache = over (map cache_figures report.caches.items) (replicate CACHES no_cache);
}

abbrev pub figures_of_body : Body → Figures
figures_of_body (Body.Report report) = figures_of_report report
figures_of_body (Body.Granted tenant slot superblock) = no_figures
figures_of_body (Body.TakenBack superblock) = no_figures
figures_of_body (Body.WasReset tenant superblocks) = no_figures
figures_of_body (Body.Moved tenant slot superblock) = no_figures
figures_of_body (Body.Owners owners) = no_figures
figures_of_body (Body.Frame frame) = no_figures
figures_of_body (Body.Freed order) = no_figures
figures_of_body (Body.Bytes bytes) = no_figures
figures_of_body (Body.Written count) = no_figures
figures_of_body (Body.Cache cache chunk order objects colours) = no_figures
figures_of_body (Body.Destroyed frames) = no_figures
figures_of_body (Body.Object place) = no_figures
figures_of_body Body.Given = no_figures
figures_of_body (Body.Reaped frames) = no_figures
figures_of_body (Body.Refused refusal) = no_figures
figures_of_body (Body.Fault fault) = no_figures

-- the kernel ran the report of tenant t and is unchanged; `status` and `figures` are those of the reply
pub record PutsFigures (k : KernelContent) (t status : ℕ) (figures : Figures) : Type 0 where
  pub reply : Reply
  pub steps : Steps k (Event.Tenant t Command.Report) k reply
  pub returns : status ≡ call_status (Some (numbers_of_body reply.body))
  pub are : figures ≡ figures_of_body reply.body

-- the figures of the report in the reply, or all zeroes if there is no report or no reply
abbrev pub reported_figures : Option Reply → Figures
reported_figures None = no_figures
reported_figures (Some reply) = figures_of_body reply.body
