-- Cases: what holds of both branches holds of the whole, and what an option holds. For every proof about a step.
use Rattle.std.proofs.Common.{◌≡◌, ◌∙◌, Bool, true, false, if◌then◌else◌, Option, Some, None, IfSome, Result, Ok, Err, IfOk, refl, sym, ap, subst}

-- what holds of each branch, where it is taken, holds of the whole
pub if_cases : {X : Type 0} (P : X → Type 0) (b : Bool) (x y : X) → (b ≡ true → P x) → (b ≡ false → P y) → P (if b then x else y)
if_cases P true x y here there = here refl
if_cases P false x y here there = there refl

-- and what holds of both
pub if_both : {X : Type 0} (P : X → Type 0) (b : Bool) (x y : X) → P x → P y → P (if b then x else y)
if_both P b x y here there = if_cases P b x y (λ e. here) (λ e. there)

-- the value that an option has
pub value_is : {X : Type 0} (x y : X) → Some x ≡ Some y → x ≡ y
value_is {X} x y same = ap (λ (o : Option X). elim o [ None ↦ x | Some z ↦ z ]) same

-- what holds of the value, if there is one, holds of this one
pub of_value : {X : Type 0} (P : X → Type 0) (o : Option X) (x : X) → IfSome o P → o ≡ Some x → P x
of_value P None x h same = absurd cc
of_value P (Some y) x h same = subst P (value_is y x same) h

-- what holds of what a call gave, if it gave anything, and what follows of that
pub ok_map : {X E : Type 0} (P Q : X → Type 0) → ((x : X) → P x → Q x) → (r : Result X E) → IfOk r P → IfOk r Q
ok_map P Q h (Ok x) p = h x p
ok_map P Q h (Err e) p = tt

-- a test does not say both
pub not_both : {b : Bool} → b ≡ true → b ≡ false → ⊥
not_both h e = let bad : true ≡ false = sym h ∙ e in cc
