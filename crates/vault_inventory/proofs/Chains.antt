-- Chains: what a chain of steps that gives a value has read at each step.
use Rattle.std.proofs.Common.{◌≡◌, Bool, true, false, cond, Result, Ok, Err, refl, ap, ◌∙◌}
use Rattle.vault_inventory.specs.declared.fault.InvFault.{InvFault}
use Rattle.vault_inventory.specs.Answers.{◌>>=◌}

-- a chain that gives a value gives one at each step
pub bind_ok : {A B P : Type 0} (r : Result A InvFault) (f : A → Result B InvFault) (y : B) → (r >>= f) ≡ Ok y → ((x : A) → r ≡ Ok x → f x ≡ Ok y → P) → P
bind_ok (Ok x) f y e k = k x refl e
bind_ok (Err d) f y e k = absurd (cc)

-- a chain whose first step is known goes on with it
pub follow : {A B : Type 0} (r : Result A InvFault) (x : A) (f : A → Result B InvFault) (y : Result B InvFault) → r ≡ Ok x → f x ≡ y → (r >>= f) ≡ y
follow r x f y e k = ap (λ q. q >>= f) e ∙ k

-- a test that was passed
pub test_passed : (b : Bool) (f : InvFault) (u : Unit {0}) → cond b (Err f) (Ok tt) ≡ Ok u → b ≡ false
test_passed true f u e = absurd cc
test_passed false f u e = refl
