use Rattle.std.proofs.Common.{◌≡◌, ◌<◌, ◌+◌, ◌^◌, true}
use Rattle.std.specs.List.{list_all, slice_range}
use Rattle.std.specs.Char.{is_ascii_digit}
use Rattle.words_core.specs.Numbers.{value_of}
use Rattle.quick_core.proofs.number.number_at.Given as goal

-- the `count` bytes from `from` on are digits, and `value` is the value of these digits
abbrev pub invariant-loop-count : goal.invariant-loop-count
invariant-loop-count l = record {
  value : l.value ≡ value_of (slice_range l.bytes l.from (l.from + l.count));
  digits : list_all is_ascii_digit (slice_range l.bytes l.from (l.from + l.count)) ≡ true;
  below : l.value < 10 ^ l.count;
}
