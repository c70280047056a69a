-- A byte that is no digit ends them; one digit more is passed; and all of a text may be digits.
use Rattle.std.proofs.Common.{◌∙◌, arith, sym}
use Rattle.std.proofs.lemmas.List.Folds.{list_all_more}
use Rattle.std.specs.Char.{is_ascii_digit}
use Rattle.vault_inventory.proofs.Durations.{digit_passed, digits_all, digits_end, both_true}
use Rattle.vault_inventory.proofs.duration.digits_before.Goals as goal

pub returns-then-not-is_ascii_digit-clause-value : goal.returns-then-not-is_ascii_digit-clause-value
returns-then-not-is_ascii_digit-clause-value c =
    let other = sym c.is_ascii_digit.ensures.value ∙ c.if-not-is_ascii_digit.true in
    sym (digits_end c.args.text.now c.loop-i.i c.loop-i-test.true other c.loop-i.invariant.count)

pub loop-i-preserved : goal.loop-i-preserved
loop-i-preserved c =
    let text = c.args.text.now in
    let i = c.loop-i.i in
    let is = sym c.is_ascii_digit.ensures.value ∙ c.if-not-is_ascii_digit.false in
    record {
      count = digit_passed text i c.loop-i-test.true is c.loop-i.invariant.count;
      within = omega (arith, c.loop-i-test.true);
      digits = list_all_more is_ascii_digit text i 0 c.loop-i-test.true ∙ both_true _ _ c.loop-i.invariant.digits is;
    }

pub returns-clause-value : goal.returns-clause-value
returns-clause-value c =
    let all = digits_all c.args.text.now c.loop-i.i c.loop-i-test.false c.loop-i.invariant.count in
    omega (arith, all, c.loop-i-test.false, c.loop-i.invariant.within)
