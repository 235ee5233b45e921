-- What the number of frames that come back from empty slabs has to be.
use Rattle.std.specs.Prelude.{ℕ, ◌+◌, ◌%◌, ◌^◌, ◌==◌, ◌&&◌, Bool, not, nat_le, if◌then◌else◌, List, find, length, Option, Some, None, option_map, true}
use Rattle.std.specs.List.{list_any, range_with_len}
use Rattle.std.specs.Option.{option_map_or}
use Rattle.promise_core.specs.Promises.{empty_frames}
use Rattle.promise_core.specs.Holdings.{KnownCache, vacant_blocks}
use Rattle.promise_core.specs.State.{State}
use Rattle.reply_judge.specs.declared.bound.Bound.{Bound}

-- one of these caches may have an empty slab of 2 ^ k frames
abbrev pub may_have_empty_of : (may_have_empty : ℕ → Bool) → List KnownCache → ℕ → Bool
may_have_empty_of may_have_empty caches k = list_any (λ c. may_have_empty c.number && c.order == k) caches

-- the least order of a slab of these caches that may be empty; slots have 2 ^ order frames
abbrev pub least_empty : ℕ → (may_have_empty : ℕ → Bool) → List KnownCache → Option ℕ
least_empty order may_have_empty caches = find (may_have_empty_of may_have_empty caches) (range_with_len 0 (order + 1))

-- at most so many vacant frames, and a multiple of 2 ^ k frames, if `frames` is not so
abbrev pub vacant_slabs : (vacant k frames : ℕ) → Option Bound
vacant_slabs vacant k frames = if not (nat_le frames vacant) then Some (Bound.AtMost vacant)
    else (if frames % 2 ^ k == 0 then None else Some (Bound.MultipleOf (2 ^ k)))

-- What the number of frames from empty slabs of these caches has to be, if `frames` is not right: at most the number of frames that
-- are not taken, a multiple of the least slab that may be empty, and 0 if no slab may be empty. Slots have 2 ^ order frames.
unfoldable pub frames_due : ℕ → State → List KnownCache → ℕ → Option Bound
frames_due order s caches frames = if frames == 0 then None
    else option_map_or (λ k. vacant_slabs (length (vacant_blocks order s.has 0)) k frames) (least_empty order s.may_have_empty caches) (Some (Bound.Exactly 0))

-- the number of frames that the last report counts in empty slabs of the cache `only`, or of all caches if `only` is None; None if
-- no report is valid
abbrev pub frames_told : State → (only : Option ℕ) → Option ℕ
frames_told s only = option_map (λ r. empty_frames (λ n. option_map_or (λ number. n == number) only true) s.has r) s.last_report
