-- The text of a report: a line about the frames, then a line for each order, then a line for each cache.
use Rattle.std.specs.Prelude.{ℕ, ◌+◌, Option, Some, None, List, [], ◌∷◌, ◌++◌, codes, decimal, map}
use Rattle.model_core.specs.declared.report.OrderRow.{OrderRow}
use Rattle.model_core.specs.declared.report.CacheRow.{CacheRow}
use Rattle.words_core.specs.declared.report.Report.{Report}

-- the greatest order of a free block, or `none` if there is no free block
abbrev pub top_text : Option ℕ → List ℕ
top_text None = codes "none"
top_text (Some order) = decimal order

-- the line about the frames: the numbers of all, taken and free frames, the greatest order of a free block, and the report's
-- `split`, the share of the free frames that are outside the largest free block
abbrev pub frames_text : List ℕ → Report → List ℕ
frames_text front report =
    front ++ codes "frames " ++ decimal report.frames ++ codes " live " ++ decimal report.live ++ codes " free "
    ++ decimal report.free
    ++ codes " top " ++ top_text report.top ++ codes " split " ++ decimal report.split

-- the line of an order: the numbers of its free and taken blocks
abbrev pub order_text : List ℕ → ℕ → OrderRow → List ℕ
order_text front order row =
    front ++ codes "order " ++ decimal order ++ codes " free " ++ decimal row.free ++ codes " taken " ++ decimal row.taken

-- a line for each row; the first row is about order `order`, the next about the order above it, and so on
abbrev pub order_texts : List ℕ → ℕ → List OrderRow → List (List ℕ)
order_texts front order [] = []
order_texts front order (row ∷ rows) = order_text front order row ∷ order_texts front (order + 1) rows

-- the line of a cache: the numbers of its full, partial and empty slabs and of its live objects
abbrev pub cache_text : List ℕ → CacheRow → List ℕ
cache_text front row =
    front ++ codes "cache " ++ decimal row.cache ++ codes " full " ++ decimal row.full ++ codes " partial " ++ decimal row.partial
    ++ codes " empty " ++ decimal row.empty ++ codes " live " ++ decimal row.live

abbrev pub report_texts : List ℕ → Report → List (List ℕ)
report_texts front report =
    frames_text front report ∷ (order_texts front 0 report.orders.items ++ map (λ row. cache_text front row) report.caches.items)
