-- The first number of a report that is wrong, by what the tenant has. Slots have 2 ^ order frames.
use Rattle.std.specs.Prelude.{ℕ, ◌+◌, ◌-◌, ◌*◌, ◌^◌, ◌==◌, Bool, not, if◌then◌else◌, List, [], ◌∷◌, map, drop, length, Option, Some, None, slice_get, slice_index}
use Rattle.std.specs.Option.{option_eq, option_map_or}
use Rattle.model_core.specs.Reports.{greatest, split_share}
use Rattle.model_core.specs.declared.report.CacheRow.{CacheRow}
use Rattle.words_core.specs.declared.report.Report.{Report}
use Rattle.promise_core.specs.Holdings.{KnownCache, Holdings, is_slab_full, vacant_blocks}
use Rattle.promise_core.specs.Promises.{count_slabs, frames_of_counts, known_count}
use Rattle.reply_judge.specs.Figures.{at_most, exactly, first_found, first_wrong, has_to_be}
use Rattle.reply_judge.specs.declared.bound.Bound.{Bound}
use Rattle.reply_judge.specs.declared.figures.ReportFigure.{ReportFigure}
use Rattle.reply_judge.specs.declared.figures.WrongFigure.{WrongFigure}

-- the first wrong number in row i of the caches, which has to be of cache c
unfoldable pub row_wrong : (may_have_empty : ℕ → Bool) → (i : ℕ) → KnownCache → CacheRow → Option WrongFigure
row_wrong may_have_empty i c row = first_found (exactly (ReportFigure.CacheOf i) c.number row.cache
    ∷ exactly (ReportFigure.FullSlabs c.number) (count_slabs (is_slab_full c) c) row.full
    ∷ exactly (ReportFigure.PartialSlabs c.number) (count_slabs (λ p. not (is_slab_full c p)) c) row.partial
    ∷ (if may_have_empty c.number then None else exactly (ReportFigure.EmptySlabs c.number) 0 row.empty)
    ∷ exactly (ReportFigure.LiveObjects c.number) (length c.live) row.live ∷ [])

-- the first wrong number in row i of the caches
abbrev pub cache_wrong : (may_have_empty : ℕ → Bool) → List KnownCache → List CacheRow → (i : ℕ) → Option WrongFigure
cache_wrong may_have_empty caches rows i =
    option_map_or (λ c. option_map_or (λ row. row_wrong may_have_empty i c row) (slice_get rows i) None) (slice_get caches i) None

-- the number of taken blocks of order k: the page blocks, and the slabs that the rows of caches count
abbrev pub taken_wrong : Holdings → List CacheRow → (taken : List ℕ) → (k : ℕ) → Option WrongFigure
taken_wrong h rows taken k = exactly (ReportFigure.TakenBlocks k) (known_count h rows k) (slice_index taken k)

-- the most free blocks of order k that fit into the vacant blocks of that order, beside the free blocks of greater orders
abbrev pub free_wrong : (order : ℕ) → Holdings → (free : List ℕ) → (k : ℕ) → Option WrongFigure
free_wrong order h free k = at_most (ReportFigure.FreeBlocks k)
    (length (vacant_blocks order h k) - 2 * frames_of_counts (drop (k + 1) free)) (slice_index free k)

-- the same of the order that is j below a slot's order
abbrev pub free_below_wrong : (order : ℕ) → Holdings → (free : List ℕ) → (j : ℕ) → Option WrongFigure
free_below_wrong order h free j = free_wrong order h free (order - j)

-- the greatest order of a free block, which has to be `due`
abbrev pub top_wrong : (due told : Option ℕ) → Option WrongFigure
top_wrong due told = if option_eq (λ i j. i == j) told due then None
    else Some (has_to_be ReportFigure.Top (option_map_or (λ k. Bound.Exactly k) due Bound.Absent))

-- the number of rows of each kind, and of all frames
abbrev pub sizes_wrong : (order : ℕ) → Holdings → Report → Option WrongFigure
sizes_wrong order h r = first_found (exactly ReportFigure.OrderRows (order + 1) (length r.orders.items)
    ∷ exactly ReportFigure.CacheRows (length h.caches) (length r.caches.items)
    ∷ exactly ReportFigure.Frames (length h.slots * 2 ^ order) r.frames ∷ [])

-- The numbers of live and of free frames. The live frames are those of the taken blocks.
abbrev pub totals_wrong : (taken : List ℕ) → Report → Option WrongFigure
totals_wrong taken r = first_found (exactly ReportFigure.Live (frames_of_counts taken) r.live ∷ at_most ReportFigure.Live r.frames r.live
    ∷ exactly ReportFigure.Free (r.frames - r.live) r.free ∷ [])

-- the free blocks, by falling order, and what follows from them
abbrev pub blocks_wrong : (order : ℕ) → Holdings → (free : List ℕ) → Report → Option WrongFigure
blocks_wrong order h free r = let top = greatest (slice_index free) (order + 1) in
    first_found (exactly ReportFigure.FreeInRows r.free (frames_of_counts free) ∷ first_wrong (free_below_wrong order h free) (order + 1)
    ∷ top_wrong top r.top ∷ exactly ReportFigure.Split (split_share r.free top) r.split ∷ [])

-- The first number of the report that is wrong: the numbers of rows and of all frames, the rows of caches, the taken blocks, the
-- live and the free frames, and last the free blocks.
unfoldable pub figure_wrong : (order : ℕ) → (may_have_empty : ℕ → Bool) → Holdings → Report → Option WrongFigure
figure_wrong order may_have_empty h r = let free = map (λ row. row.free) r.orders.items in
    let taken = map (λ row. row.taken) r.orders.items in
    first_found (sizes_wrong order h r ∷ first_wrong (cache_wrong may_have_empty h.caches r.caches.items) (length h.caches)
    ∷ first_wrong (taken_wrong h r.caches.items taken) (order + 1) ∷ totals_wrong taken r ∷ blocks_wrong order h free r ∷ [])
