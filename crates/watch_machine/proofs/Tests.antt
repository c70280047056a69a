-- Tests: what tests of truth come to. For the steps that are proved by their branches.
use Rattle.std.proofs.Common.{◌≡◌, Bool, true, false, not, ◌&&◌, refl}

pub not_true : (b : Bool) → not b ≡ true → b ≡ false
not_true true h = absurd cc
not_true false h = refl

pub not_false : (b : Bool) → not b ≡ false → b ≡ true
not_false true h = refl
not_false false h = absurd cc

pub and_no : (a b : Bool) → b ≡ false → a && b ≡ false
and_no true b no' = no'
and_no false b no' = refl

pub and_yes : (a b : Bool) → b ≡ true → a && b ≡ a
and_yes true b yes' = yes'
and_yes false b yes' = refl
