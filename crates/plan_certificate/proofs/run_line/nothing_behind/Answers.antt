-- Nothing stands after the last line exactly where no bytes are left.
use Rattle.std.proofs.Common.{sym, eqb-true}
use Rattle.std.proofs.lemmas.Bool.{eqb-false}
use Rattle.plan_certificate.proofs.Turns.{behind_nothing, behind_something}
use Rattle.plan_certificate.proofs.run_line.nothing_behind.Goals as goal

pub returns-then-is_empty : goal.returns-then-is_empty
returns-then-is_empty c = sym (behind_nothing c.args.rest.now (eqb-true _ _ (sym c.if-is_empty.ensures)))

pub returns-else-is_empty : goal.returns-else-is_empty
returns-else-is_empty c = sym (behind_something c.args.rest.now (eqb-false _ _ (sym c.if-is_empty.ensures)))
