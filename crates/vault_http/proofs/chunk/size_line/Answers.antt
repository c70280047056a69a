-- How many digits there are and what stands after them settle what the line of a size is; and digits always give a number.
use Rattle.std.proofs.Common.{◌<◌, length, arith, sym, ap, subst}
use Rattle.std.proofs.lemmas.{Bool.eqb-true, Bool.eqb-false, List.take_rest, List.nil_from_length}
use Rattle.vault_http.specs.declared.chunk.Ending.TheVariants as ending
use Rattle.vault_http.specs.Steps.{IsEnding}
use Rattle.vault_http.proofs.SizeLines.{too_many, none_yet, no_digit, open_line, bad_line, whole_line, no_number}
use Rattle.vault_http.proofs.chunk.size_line.Goals as goal

pub returns-then-n-gt-MOST_DIGITS : goal.returns-then-n-gt-MOST_DIGITS
returns-then-n-gt-MOST_DIGITS c = too_many c.args.text.now c.digits_at-n.result c.digits_at-n.ensures c.if-n-gt-MOST_DIGITS.true

pub returns-then-is_empty : goal.returns-then-is_empty
returns-then-is_empty c = none_yet c.args.text.now (nil_from_length c.args.text.now (eqb-true _ _ (sym c.if-is_empty.ensures)))

pub returns-else-is_empty : goal.returns-else-is_empty
returns-else-is_empty c =
    no_digit c.args.text.now c.digits_at-n.result c.digits_at-n.ensures c.if-n-eq0.true (λ e. eqb-false _ _ (sym c.if-is_empty.ensures) (ap length e))

pub returns-in-Open : goal.returns-in-Open
returns-in-Open c =
    let some : 0 < c.digits_at-n.result = omega (arith, c.if-n-eq0.false) in
    open_line c.args.text.now c.digits_at-n.result c.digits_at-n.ensures some c.if-n-gt-MOST_DIGITS.false
    (subst (λ t. IsEnding t ending.Open) (take_rest c.args.text.now c.digits_at-n.result) c.in-Open.ensures)

pub returns-in-Bad : goal.returns-in-Bad
returns-in-Bad c =
    bad_line c.args.text.now c.digits_at-n.result c.digits_at-n.ensures
    (subst (λ t. IsEnding t ending.Bad) (take_rest c.args.text.now c.digits_at-n.result) c.in-Bad.ensures)

pub returns-in-Some : goal.returns-in-Some
returns-in-Some c =
    let some : 0 < c.digits_at-n.result = omega (arith, c.if-n-eq0.false) in
    whole_line c.args.text.now c.digits_at-n.result c.in-Some.size c.digits_at-n.ensures some c.if-n-gt-MOST_DIGITS.false
    (subst (λ t. IsEnding t ending.Whole) (take_rest c.args.text.now c.digits_at-n.result) c.in-Whole.ensures)
    c.in-Some.ensures

pub returns-in-None : goal.returns-in-None
returns-in-None c =
    absurd (no_number c.args.text.now c.digits_at-n.result c.digits_at-n.ensures c.in-None.ensures)
