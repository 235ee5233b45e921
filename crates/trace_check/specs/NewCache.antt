-- Which number of the reply to a request for a new cache is wrong.
use Rattle.std.specs.Prelude.{ℕ, ◌+◌, ◌-◌, ◌*◌, ◌/◌, ◌%◌, ◌^◌, ◌==◌, Bool, false, if◌then◌else◌, is_some, nat_le, nat_lt, List, [], ◌∷◌, Option, Some, None, slice_get}
use Rattle.std.specs.Option.{option_map_or, option_or}
use Rattle.model_core.specs.declared.limits.TheConstants.{FRAME_BYTES}
use Rattle.promise_core.specs.Holdings.{known_cache}
use Rattle.promise_core.specs.State.{Known}
use Rattle.reply_judge.specs.declared.bound.Bound.{Bound}
use Rattle.trace_check.specs.declared.figure.Figure.{Figure}
use Rattle.trace_check.specs.declared.reason.Reason.{Reason}

-- the first of these reasons whose test fails
abbrev pub first_failing : List (Bool × Reason) → Option Reason
first_failing [] = None
first_failing ((holds, reason) ∷ rest) = if holds then first_failing rest else Some reason

-- tenant t has a cache with this number
abbrev pub has_cache : Known → (t number : ℕ) → Bool
has_cache w t number = option_map_or (λ s. is_some (known_cache s.has number)) (slice_get w.states t) false

-- why tenant t may not get a new cache with this number
abbrev pub number_wrong : Known → (t number : ℕ) → Option Reason
number_wrong w t number = if nat_lt number w.limit
    then (if has_cache w t number then Some (Reason.Existing number) else None)
    else Some (Reason.Figure Figure.Cache (Bound.AtMost (w.limit - 1)))

-- which number is too large for slabs of `room` bytes: with n objects, or with these colours of an object each, they would end
-- outside the slab
abbrev pub over_room : ℕ → (align chunk n colours : ℕ) → Option Reason
over_room room align chunk n colours = let left = room - n * chunk in
    first_failing ((nat_le (n * chunk) room, Reason.Figure Figure.Objects (Bound.AtMost (room / chunk)))
    ∷ (nat_le (align * (colours - 1)) left, Reason.Figure Figure.Colours (Bound.AtMost (left / align + 1))) ∷ [])

-- The first number of the layout of a new cache that is wrong: a slab has 2 ^ q frames, n objects and one of these colours. Slots
-- have 2 ^ order frames. No cache has objects at multiples of 0.
unfoldable pub layout_wrong : ℕ → (size align chunk q n colours : ℕ) → Option Reason
layout_wrong order size align chunk q n colours = if align == 0 then None
    else option_or (first_failing ((nat_le size chunk, Reason.Figure Figure.Chunk (Bound.AtLeast size))
    ∷ (chunk % align == 0, Reason.Figure Figure.Chunk (Bound.MultipleOf align))
    ∷ (nat_le q order, Reason.Figure Figure.Order (Bound.AtMost order))
    ∷ (nat_le 1 n, Reason.Figure Figure.Objects (Bound.AtLeast 1))
    ∷ (nat_le 1 colours, Reason.Figure Figure.Colours (Bound.AtLeast 1)) ∷ []))
    (over_room (FRAME_BYTES * 2 ^ q) align chunk n colours)
