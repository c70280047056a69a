-- The entries from the index on have their renewed ends, and those before it their old ones.
use Rattle.plan_commands.proofs.Renewals.{IsRenewedFrom}
use Rattle.plan_commands.proofs.renewed.renew_all.Given as goal

abbrev pub invariant-loop-index : goal.invariant-loop-index
invariant-loop-index l = IsRenewedFrom l.initial.forest l.at l.index l.forest
