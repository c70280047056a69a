-- What follows the digits at the front stays the same when some of those digits are dropped.
use Rattle.std.proofs.Common.{◌≡◌, drop}
use Rattle.base_moment.specs.MomentOf.{after_digits}
use Rattle.base_moment.proofs.places.behind_digits.Given as goal

abbrev pub invariant-loop-i : goal.invariant-loop-i
invariant-loop-i l = after_digits (drop l.i l.text) ≡ after_digits l.text
