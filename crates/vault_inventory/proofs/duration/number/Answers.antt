-- The number of ten digits fits, and so does that of fewer.
use Rattle.std.proofs.Common.{arith}
use Rattle.std.proofs.lemmas.Str.Parse.{digits_value-take-le}
use Rattle.base_words.proofs.Digits.{digit_of, one_digit_more}
use Rattle.vault_inventory.proofs.Durations.{ten_digits}
use Rattle.vault_inventory.proofs.duration.number.Goals as goal

pub overflow_mul-value : goal.overflow_mul-value
overflow_mul-value c =
    let ds = c.args.digits.now in
    let most = ten_digits ds c.requires.digits c.requires.short in
    let part = digits_value-take-le 10 ds c.loop-byte.byte-index (omega arith) in
    omega (arith, most, part, c.loop-byte.invariant)

pub overflow_add-value : goal.overflow_add-value
overflow_add-value c =
    let ds = c.args.digits.now in
    let most = ten_digits ds c.requires.digits c.requires.short in
    let part = digits_value-take-le 10 ds c.loop-byte.byte-index (omega arith) in
    let digit = digit_of ds c.loop-byte.byte-index c.requires.digits c.loop-byte-test.true in
    omega (arith, most, part, digit.most, c.loop-byte.invariant)

pub loop-byte-preserved : goal.loop-byte-preserved
loop-byte-preserved c =
    let ds = c.args.digits.now in
    let more = one_digit_more ds c.loop-byte.byte-index c.requires.digits c.loop-byte-test.true in
    omega (arith, more, c.loop-byte.invariant)

pub returns-clause-within : goal.returns-clause-within
returns-clause-within c =
    let most = ten_digits c.args.digits.now c.requires.digits c.requires.short in
    let part = digits_value-take-le 10 c.args.digits.now c.loop-byte.byte-index (omega arith) in
    omega (arith, most, part, c.loop-byte.invariant)
