-- The list so far has the needs of the entries before the index.
use Rattle.std.proofs.Common.{◌≡◌, map}
use Rattle.std.specs.List.{range_with_len}
use Rattle.vault_served.specs.ForGood.{need_for_good}
use Rattle.vault_served.proofs.for_good.needs_for_good.Given as goal

abbrev pub invariant-loop-index : goal.invariant-loop-index
invariant-loop-index l = l.needs.items ≡ map (need_for_good l.forest l.always) (range_with_len 0 l.index)
