-- The number so far is that of the digits that were passed.
use Rattle.std.proofs.Common.{◌≡◌, ◌≤◌, take}
use Rattle.std.specs.Str.Parse.{digits_value}
use Rattle.base_words.proofs.number.value_of.Given as goal

abbrev pub invariant-loop-byte : goal.invariant-loop-byte
invariant-loop-byte l = record {
  value : l.value ≡ digits_value 10 (take l.byte-index l.digits);
  within : l.value ≤ l.most;
}
