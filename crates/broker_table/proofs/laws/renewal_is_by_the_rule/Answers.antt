-- A renewal without a fault gives the rule's end where the rule grants it, and is refused elsewhere.
use Rattle.broker_table.proofs.Granting.{by_the_rule, ungranted}
use Rattle.broker_table.proofs.laws.renewal_is_by_the_rule.Goals as goal

pub returns-clause-granted : goal.returns-clause-granted
returns-clause-granted c = by_the_rule

pub returns-clause-refused : goal.returns-clause-refused
returns-clause-refused c = ungranted
