-- Twice what answers take, doubled by so many failures, is small.
use Rattle.std.proofs.Common.{ℕ, ◌*◌, ◌^◌, ◌≤◌, arith, subst, sym}
use Rattle.std.proofs.Math.Nat.{mul-le-mul, pow-le-pow_right}
use Rattle.watch_machine.proofs.sending.patience.Goals as goal

doubled_low : (n : ℕ) → n ≤ 19 → 2 ^ n ≤ 524288
doubled_low n low = pow-le-pow_right {n = 2} (omega arith) low

product_low : (a b : ℕ) → a ≤ 8589934592 → b ≤ 524288 → a * b ≤ 4503599627370496
product_low a b low low' = mul-le-mul low low'

pub overflow_mul-result : goal.overflow_mul-result
overflow_mul-result c =
    let once : c.max-once.result ≤ 8589934592 = omega arith in
    let power : c.pow.result ≤ 524288 = subst (λ n. n ≤ 524288) (sym c.pow.ensures) (doubled_low c.saturating_sub.result (omega arith)) in
    omega (arith, product_low c.max-once.result c.pow.result once power)
