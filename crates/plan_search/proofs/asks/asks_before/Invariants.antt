-- Asked so far are the entries before the index that are wanted at the moment.
use Rattle.std.proofs.Common.{◌≡◌, ℕ, filter}
use Rattle.std.specs.List.{range_with_len}
use Rattle.plan_forest.specs.Forest.{end_of}
use Rattle.plan_rule.specs.Asks.{is_to_be_asked}
use Rattle.plan_needs.specs.Carried.{IsCarried}
use Rattle.plan_search.proofs.asks.asks_before.Given as goal

-- who is asked so far
abbrev pub invariant-loop-index : goal.invariant-loop-index
invariant-loop-index l =
    (s : ℕ) → IsCarried l.forest s l.carried → l.asked.items ≡ filter (is_to_be_asked l.forest.entries l.forest.margin s (end_of l.forest.entries) l.at l.fn.next) (range_with_len 0 l.index)
