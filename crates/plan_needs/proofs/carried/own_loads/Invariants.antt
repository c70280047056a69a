-- The list so far has the own loads of the entries before the current one.
use Rattle.std.proofs.Common.{◌≡◌, ℕ, ◌<◌, vec_len}
use Rattle.plan_needs.specs.code.Loads.{nth, own_load}
use Rattle.plan_needs.proofs.carried.own_loads.Given as goal

abbrev pub invariant-loop-from : goal.invariant-loop-from
invariant-loop-from l = record {
  count : vec_len l.loads ≡ l.from;
  each : (k : ℕ) → k < l.from → nth l.loads.items k ≡ own_load l.forest.entries l.start k;
}
