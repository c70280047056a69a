-- The digits that were passed stand at the front.
use Rattle.std.proofs.Common.{◌≡◌, ◌≤◌, ◌+◌, drop, length, take, true}
use Rattle.std.specs.{Char.is_ascii_digit, List.list_all}
use Rattle.vault_inventory.specs.Durations.{digits_before}
use Rattle.vault_inventory.proofs.duration.digits_before.Given as goal

abbrev pub invariant-loop-i : goal.invariant-loop-i
invariant-loop-i l = record {
  count : digits_before l.text ≡ l.i + digits_before (drop l.i l.text);
  within : l.i ≤ length l.text;
  digits : list_all is_ascii_digit (take l.i l.text) ≡ true;
}
