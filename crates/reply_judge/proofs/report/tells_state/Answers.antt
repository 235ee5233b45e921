use Rattle.std.proofs.Common.{◌+◌, ◌*◌, ◌^◌, ◌==◌, false, [], ◌∷◌, ◌∙◌, map, drop, length}
use Rattle.std.specs.Prelude.{nat_le, slice_index, slice_index_or}
use Rattle.std.specs.List.{list_all, range_with_len, zip}
use Rattle.std.specs.Option.{option_eq}
use Rattle.model_core.specs.Reports.{greatest, split_share}
use Rattle.model_core.specs.declared.report.OrderRow.{OrderRow}
use Rattle.promise_core.specs.Holdings.{vacant_blocks}
use Rattle.promise_core.specs.Promises.{frames_of_counts, is_row, known_count}
use Rattle.reply_judge.proofs.Lists.{grouped}
use Rattle.reply_judge.proofs.report.tells_state.Goals as goal

pub returns : goal.returns
returns c t w s =
    let h = c.args.held.now in
    let r = c.args.r.now in
    let order = c.args.order in
    let rows = r.caches.items in
    let free = map (λ (row : OrderRow). row.free) r.orders.items in
    let taken = map (λ (row : OrderRow). row.taken) r.orders.items in
    c.are_all.ensures ∙ ((λ i. list_all (λ x. x) (c.has_rows.ensures i ∷ c.has_frames.ensures i ∷ c.is_split.ensures i
    ∷ c.are_rows.ensures i ∷ c.are_all_taken.ensures i ∷ c.have_room.ensures i ∷ []))
    ∙ rw (c.as_slice-free.ensures.value, c.as_slice-taken.ensures.value, c.counts_of-free.ensures.free, c.counts_of-free.ensures.taken, c.caches.ensures, c.as_slice-rows.ensures.value) (grouped (length free == order + 1) (length rows == length h.caches)
    (r.frames == length h.slots * 2 ^ order) (r.live + r.free == r.frames) (r.free == frames_of_counts free)
    (r.live == frames_of_counts taken) (option_eq (λ i j. i == j) r.top (greatest (slice_index free) (order + 1)))
    (r.split == split_share r.free r.top) (list_all (is_row (λ n. slice_index_or c.args.may_have_empty.now n false)) (zip h.caches rows))
    (list_all (λ k. slice_index taken k == known_count h rows k) (range_with_len 0 (order + 1)))
    (list_all (λ k. nat_le (frames_of_counts (drop k free)) (length (vacant_blocks order h k))) (range_with_len 0 (order + 1)))))
