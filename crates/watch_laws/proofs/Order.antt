-- Order: the line is one order, in which who is not before another is not before whoever that one is not before. For the law of partial
-- outages.
use Rattle.std.proofs.Common.{◌≡◌, true, false, arith}
use Rattle.std.proofs.lemmas.Bool.Decides.{nat_tests}
use Rattle.std.specs.Cmp.{IsStrictWeakOrder}
use Rattle.watch_machine.specs.Sending.{Place, is_before}

one_after : (x y : Place) → is_before x y ≡ true → is_before y x ≡ false
one_after x y h = grind (arith, nat_tests)

chained : (x y z : Place) → is_before x y ≡ false → is_before y z ≡ false → is_before x z ≡ false
chained x y z h k = grind (arith, nat_tests)

pub line_order : IsStrictWeakOrder is_before
line_order = record { one_way = one_after; chain = chained }
