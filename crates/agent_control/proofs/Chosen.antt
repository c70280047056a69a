-- What stands where a test was passed.
use Rattle.std.proofs.Common.{◌≡◌, ◌⊎◌, inl, inr, Bool, true, false, cond, Option, Some, None, option_map, option_and_then, Result, Ok, Err, refl, sym}
use Rattle.agent_control.specs.Answer.{◌>>=◌}
use Rattle.agent_control.specs.declared.fault.RequestFault.{RequestFault}

pub some_same : {A : Type 0} (x y : A) → Some x ≡ Some y → x ≡ y
some_same x y e = cc

pub ok_same : {A : Type 0} (x y : A) → ◌≡◌ {A = Result A RequestFault} (Ok x) (Ok y) → x ≡ y
ok_same x y e = cc

pub passed : {A : Type 0} (b : Bool) (x : Option A) (z : A) → cond b x None ≡ Some z → (b ≡ true) × (x ≡ Some z)
passed true x z e = (refl, e)
passed false x z e = cc

pub granted : {A : Type 0} (b : Bool) (x : Result A RequestFault) (fault : RequestFault) (z : A) → cond b x (Err fault) ≡ Ok z → (b ≡ true) × (x ≡ Ok z)
granted true x fault z e = (refl, e)
granted false x fault z e = cc

pub refused : {A : Type 0} (b : Bool) (x : Result A RequestFault) (fault : RequestFault) (z : A) → cond b (Err fault) x ≡ Ok z → (b ≡ false) × (x ≡ Ok z)
refused true x fault z e = cc
refused false x fault z e = (refl, e)

-- a test that is passed, or what comes after it
pub branch : {A : Type 0} (b : Bool) (x y : Result A RequestFault) (z : A) → cond b x y ≡ Ok z → ((b ≡ true) × (x ≡ Ok z)) ⊎ (y ≡ Ok z)
branch true x y z e = inl (refl, e)
branch false x y z e = inr e

pub then_ok : {A B : Type 0} (a : Result A RequestFault) (f : A → Result B RequestFault) (z : B) → a >>= f ≡ Ok z → (x : A) × (a ≡ Ok x) × (f x ≡ Ok z)
then_ok (Ok x) f z e = (x, refl, e)
then_ok (Err fault) f z e = cc

pub mapped : {A B : Type 0} (f : A → B) (o : Option A) (z : B) → option_map f o ≡ Some z → (x : A) × (o ≡ Some x) × (z ≡ f x)
mapped f None z e = cc
mapped f (Some x) z e = (x, refl, sym (some_same (f x) z e))

pub then_some : {A B : Type 0} (f : A → Option B) (o : Option A) (z : B) → option_and_then f o ≡ Some z → (x : A) × (o ≡ Some x) × (f x ≡ Some z)
then_some f None z e = cc
then_some f (Some x) z e = (x, refl, e)
