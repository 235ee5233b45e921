-- What a report has to repeat of the last report, while that one is valid: the numbers of free blocks and of empty slabs.
use Rattle.std.specs.Prelude.{ℕ, List, length, Option, None, slice_get}
use Rattle.std.specs.Option.{option_map_or, option_or}
use Rattle.model_core.specs.declared.report.OrderRow.{OrderRow}
use Rattle.model_core.specs.declared.report.CacheRow.{CacheRow}
use Rattle.words_core.specs.declared.report.Report.{Report}
use Rattle.promise_core.specs.State.{State}
use Rattle.reply_judge.specs.Figures.{exactly, first_wrong}
use Rattle.reply_judge.specs.declared.figures.ReportFigure.{ReportFigure}
use Rattle.reply_judge.specs.declared.figures.WrongFigure.{WrongFigure}

-- the number of free blocks of order k, if it is another one in the rows `now`
abbrev pub free_changed : (before now : List OrderRow) → (k : ℕ) → Option WrongFigure
free_changed before now k =
    option_map_or (λ a. option_map_or (λ b. exactly (ReportFigure.FreeBlocks k) a.free b.free) (slice_get now k) None) (slice_get before k) None

-- the number of empty slabs in row i of a cache, if it is another one in the rows `now`
abbrev pub empty_changed : (before now : List CacheRow) → (i : ℕ) → Option WrongFigure
empty_changed before now i =
    option_map_or (λ a. option_map_or (λ b. exactly (ReportFigure.EmptySlabs a.cache) a.empty b.empty) (slice_get now i) None) (slice_get before i) None

-- the first of these numbers that the report does not repeat
abbrev pub not_repeated : (last now : Report) → Option WrongFigure
not_repeated last now = option_or (first_wrong (free_changed last.orders.items now.orders.items) (length last.orders.items))
    (first_wrong (empty_changed last.caches.items now.caches.items) (length last.caches.items))

-- the first number of the tenant's last report that the report has to repeat, and does not
abbrev pub figure_changed : State → Report → Option WrongFigure
figure_changed s report = option_map_or (λ last. not_repeated last report) s.last_report None
