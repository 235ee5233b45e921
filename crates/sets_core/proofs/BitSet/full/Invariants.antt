use Rattle.std.proofs.Common.{◌≡◌, ℕ, ◌-◌, ◌*◌, ◌^◌, ◌<◌, min, length, get_or}
use Rattle.sets_core.proofs.BitSet.full.Given as goal

abbrev pub invariant-loop-word : goal.invariant-loop-word
invariant-loop-word l = (length l.words.items ≡ l.word) × ((w : ℕ) → w < l.word → get_or l.words.items w 0 ≡ 2 ^ min (l.size - w * 64) 64 - 1)
