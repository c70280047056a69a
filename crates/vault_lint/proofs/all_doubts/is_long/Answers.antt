-- At most 513 turns of a time-out below 2^32 fit.
use Rattle.std.proofs.Common.{◌≤◌, ◌+◌, ◌/◌, arith}
use Rattle.std.proofs.lemmas.Nat.{mul-le}
use Rattle.vault_lint.proofs.all_doubts.is_long.Goals as goal

pub overflow_mul-result : goal.overflow_mul-result
overflow_mul-result c =
    let turns : (c.args.count + 7) / 8 ≤ 513 = omega (arith, c.requires) in
    let seconds : c.from-2.result ≤ 4294967295 = omega (arith, c.from-2.ensures, c.ranges.timeout.fits) in
    let all = mul-le ((c.args.count + 7) / 8) c.from-2.result 513 4294967295 turns seconds in
    omega (arith, all)
