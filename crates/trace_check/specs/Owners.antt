-- Which number of the reply to a grant, a move or a reset is wrong, if the superblock is not.
use Rattle.std.specs.Prelude.{ℕ, ◌+◌, ◌-◌, ◌*◌, ◌/◌, ◌^◌, ◌==◌, Bool, false, if◌then◌else◌, nat_le, count_by, Option, Some, None, slice_get}
use Rattle.std.specs.Option.{option_map_or, option_or}
use Rattle.model_core.specs.Owners.{is_of}
use Rattle.model_core.specs.declared.limits.TheConstants.{FRAME_BYTES}
use Rattle.promise_core.specs.Holdings.{has_slot}
use Rattle.promise_core.specs.State.{Known}
use Rattle.reply_judge.specs.declared.bound.Bound.{Bound}
use Rattle.trace_check.specs.declared.figure.Figure.{Figure}
use Rattle.trace_check.specs.declared.reason.Reason.{Reason}

-- the number that is due, if the reply has another one
abbrev pub not_due : Figure → (due told : ℕ) → Option Reason
not_due figure due told = if told == due then None else Some (Reason.Figure figure (Bound.Exactly due))

-- tenant t holds slot u
abbrev pub holds_slot : Known → (t u : ℕ) → Bool
holds_slot w t u = option_map_or (λ s. has_slot s.has u) (slice_get w.states t) false

-- the last slot whose bytes have places below 2 ^ 32, if slot u is behind it; slots have 2 ^ order frames
unfoldable pub slot_behind : (order u : ℕ) → Option Reason
slot_behind order u = let slot_bytes = 2 ^ order * FRAME_BYTES in
    if nat_le ((u + 1) * slot_bytes) (2 ^ 32) then None else Some (Reason.Figure Figure.Slot (Bound.AtMost (2 ^ 32 / slot_bytes - 1)))

-- why slot u may not be granted to tenant t
abbrev pub slot_wrong : Known → (t u : ℕ) → Option Reason
slot_wrong w t u = if holds_slot w t u then Some (Reason.Held u) else slot_behind w.order u

-- what is wrong with the numbers of tenant and slot in the reply to a grant to tenant t
abbrev pub grant_wrong : Known → (t named u : ℕ) → Option Reason
grant_wrong w t named u = option_or (not_due Figure.Tenant t named) (slot_wrong w t u)

-- what is wrong with the numbers of tenant and slot in the reply to a move of slot u of tenant t
abbrev pub move_wrong : (t u named slot : ℕ) → Option Reason
move_wrong t u named slot = option_or (not_due Figure.Tenant t named) (not_due Figure.Slot u slot)

-- what is wrong with the numbers of the reply to a reset of tenant t
abbrev pub reset_wrong : Known → (t named superblocks : ℕ) → Option Reason
reset_wrong w t named superblocks =
    option_or (not_due Figure.Tenant t named) (not_due Figure.Superblocks (count_by (is_of t) w.owners) superblocks)
