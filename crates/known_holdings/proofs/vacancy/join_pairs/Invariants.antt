use Rattle.std.proofs.Common.{◌≡◌, ℕ, ◌+◌, ◌*◌, ◌<◌, ◌≤◌, false, length, slice_index_or}
use Rattle.std.specs.Prelude.{◌||◌}
use Rattle.known_holdings.proofs.vacancy.join_pairs.Given as goal

-- if j is below i, mark j is set exactly if the old mark 2 * j or 2 * j + 1 was set; the marks from index i on are unchanged
abbrev pub invariant-loop-i : goal.invariant-loop-i
invariant-loop-i l = record {
  long : length l.taken ≡ 256;
  joined : (j : ℕ) → j < l.i → slice_index_or l.taken j false ≡ (slice_index_or l.fn.taken (2 * j) false || slice_index_or l.fn.taken (2 * j + 1) false);
  kept : (j : ℕ) → l.i ≤ j → slice_index_or l.taken j false ≡ slice_index_or l.fn.taken j false;
}
