-- The entries before the index are alive at each moment of the stretch that comes before their needs.
use Rattle.std.proofs.Common.{ℕ, ◌≤◌, ◌<◌}
use Rattle.plan_forest.specs.Forest.{entry_at}
use Rattle.plan_rule.specs.{Keeps.Alive, code.Replay.Lasts}
use Rattle.plan_rule.proofs.replay.lasts_between.Given as goal

abbrev pub invariant-loop-index : goal.invariant-loop-index
invariant-loop-index l =
    (ends : ℕ → ℕ) → Lasts l.forest.entries ends l.lasts → (k m : ℕ) → k < l.index → l.from ≤ m → m < l.to → m < (entry_at l.forest.entries k).need → Alive l.forest.entries ends m k
