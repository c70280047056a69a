-- There are as many blanks as turns were made.
use Rattle.std.proofs.Common.{◌≡◌, replicate}
use Rattle.plan_commands.proofs.reach_text.blanks.Given as goal

abbrev pub invariant-loop : goal.invariant-loop
invariant-loop l = l.blanks.items ≡ replicate l.counter 32
