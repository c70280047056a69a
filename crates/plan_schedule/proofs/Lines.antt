-- Lines: what stands in a line where one is put in front.
use Rattle.std.proofs.Common.{◌≡◌, zero, suc, ◌⊎◌, List, ◌∷◌, refl, arith, inl, inr}
use Rattle.std.specs.List.{Contains}
use Rattle.plan_schedule.specs.code.Line.{Spot}

pub contains_cons : (x y : Spot) (ys : List Spot) → Contains (y ∷ ys) x → (y ≡ x) ⊎ Contains ys x
contains_cons x y ys (zero, h, e) = inl e
contains_cons x y ys (suc k, h, e) = inr (k, omega arith, e)

pub contains_more : (x y : Spot) (ys : List Spot) → Contains ys x → Contains (y ∷ ys) x
contains_more x y ys (k, h, e) = (suc k, omega arith, e)

pub contains_head : (x : Spot) (ys : List Spot) → Contains (x ∷ ys) x
contains_head x ys = (zero, omega arith, refl)
