use Rattle.std.proofs.Common.{◌≡◌, ◌<◌, true, take}
use Rattle.std.specs.List.{list_all}
use Rattle.std.specs.Char.{is_digit}
use Rattle.std.specs.Str.Parse.{digits_value}
use Rattle.call_text.proofs.words.number.Given as goal

-- the bytes so far are digits, and the value is theirs
abbrev pub invariant-loop-byte : goal.invariant-loop-byte
invariant-loop-byte l = record {
  digits : list_all (λ b. is_digit b l.radix) (take l.byte-index l.word) ≡ true;
  fits : l.value < 18446744073709551616;
  value : l.value ≡ digits_value l.radix (take l.byte-index l.word);
}
