use Rattle.std.proofs.Common.{◌≡◌, ℕ, false, length, slice_index_or}
use Rattle.std.specs.Prelude.{◌||◌, ◌&&◌, nat_le, nat_lt}
use Rattle.known_holdings.proofs.vacancy.mark.Given as goal

abbrev pub invariant-loop-f : goal.invariant-loop-f
invariant-loop-f l = record {
  long : length l.taken ≡ 256;
  marked : (g : ℕ) → slice_index_or l.taken g false ≡ (slice_index_or l.fn.taken g false || (nat_le l.from g && nat_lt g l.f));
}
