-- The number that digits give stays small: for `number_of`.
use Rattle.std.proofs.Common.{◌≡◌, ℕ, ◌+◌, ◌*◌, ◌^◌, ◌<◌, ◌≤◌, arith, add-one, ap, ◌∙◌}
use Rattle.std.proofs.Math.Nat.{pow-suc, pow-le-pow_right, mul-le-mul}

-- one more digit, to a base of at most 16
pub small_step : (n radix digit i : ℕ) → n < 16 ^ i → radix ≤ 16 → digit < radix → n * radix + digit < 16 ^ (i + 1)
small_step n radix digit i few most less =
    let grown : 16 ^ (i + 1) ≡ 16 ^ i * 16 = ap (λ k. 16 ^ k) (add-one i) ∙ pow-suc 16 i in
    let times : n * radix ≤ n * 16 = mul-le-mul (omega arith) most in
    omega (arith, grown, times)

pub small_power : (i : ℕ) → i ≤ 15 → 16 ^ i ≤ 2 ^ 60
small_power i few = pow-le-pow_right {n = 16} (omega arith) few
