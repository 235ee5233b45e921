use Rattle.std.proofs.Common.{◌≡◌, ◌<◌, ◌^◌, true, take}
use Rattle.std.specs.List.{list_all}
use Rattle.std.specs.Char.{is_ascii_digit}
use Rattle.words_core.specs.Numbers.{value_of}
use Rattle.trace_check.proofs.form.plain_number.Given as goal

-- all bytes before the index are digits, and the value is the number that they spell
abbrev pub invariant-loop-digit : goal.invariant-loop-digit
invariant-loop-digit l = record {
  value : l.value ≡ value_of (take l.digit-index l.word);
  digits : list_all is_ascii_digit (take l.digit-index l.word) ≡ true;
  below : l.value < 10 ^ l.digit-index;
}
