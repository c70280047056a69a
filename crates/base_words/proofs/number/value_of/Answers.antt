-- One digit more makes the number so far longer, or takes it past the bound for good.
use Rattle.std.proofs.Common.{◌+◌, ◌<◌, arith, sym}
use Rattle.std.proofs.lemmas.{Bool.cond-false, Bool.lt-leb, Str.Parse.digits_value-take-le}
use Rattle.std.specs.Str.Parse.{digits_value}
use Rattle.base_words.proofs.Digits.{one_digit_more}
use Rattle.base_words.proofs.number.value_of.Goals as goal

pub returns-then-next-most-clause-value : goal.returns-then-next-most-clause-value
returns-then-next-most-clause-value c =
    let ds = c.args.digits.now in
    let i = c.loop-byte.byte-index in
    let more = one_digit_more ds i c.requires c.loop-byte-test.true in
    let whole = digits_value-take-le 10 ds (i + 1) (omega arith) in
    let over : c.args.most < digits_value 10 ds = omega (arith, more, whole, c.loop-byte.invariant.value, c.if-next-most.true) in
    sym (cond-false _ _ _ (lt-leb _ _ over))

pub loop-byte-preserved : goal.loop-byte-preserved
loop-byte-preserved c =
    let ds = c.args.digits.now in
    let i = c.loop-byte.byte-index in
    let more = one_digit_more ds i c.requires c.loop-byte-test.true in
    record { value = omega (arith, more, c.loop-byte.invariant.value); within = c.if-next-most.false }
