use Rattle.std.proofs.Common.{◌≡◌, ℕ, ◌<◌, Some, slice_get, slice_index}
use Rattle.frame_picture.proofs.showing.show_refused.Given as goal

-- for each tenant so far, the number of its refused requests is stored in `shown`
abbrev pub invariant-loop-t : goal.invariant-loop-t
invariant-loop-t l = (u count : ℕ) → u < l.t → slice_get l.shown u ≡ Some count → count ≡ slice_index l.refused u
