-- The number so far is that of the digits that were passed.
use Rattle.std.proofs.Common.{◌≡◌, ◌<◌, ◌^◌, take, true}
use Rattle.std.specs.{List.list_all, Str.Parse.digits_value}
use Rattle.vault_http.specs.Framing.{is_digit}
use Rattle.vault_http.proofs.framing.number_of.Given as goal

abbrev pub invariant-loop-byte : goal.invariant-loop-byte
invariant-loop-byte l = record {
  value : l.n ≡ digits_value l.radix (take l.byte-index l.value);
  digits : list_all (is_digit l.radix) (take l.byte-index l.value) ≡ true;
  small : l.n < 16 ^ l.byte-index;
}
