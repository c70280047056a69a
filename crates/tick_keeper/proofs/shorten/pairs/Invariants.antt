-- Noted so far are those entries before the current one whose needs are shortened.
use Rattle.std.proofs.Common.{◌≡◌, filter, map}
use Rattle.std.specs.List.{range_with_len}
use Rattle.tick_keeper.specs.Shorten.{is_short, pair_of}
use Rattle.tick_keeper.proofs.shorten.pairs.Given as goal

abbrev pub invariant-loop-entry : goal.invariant-loop-entry
invariant-loop-entry l = l.list.items ≡ map (pair_of l.forest l.at) (filter (is_short l.forest l.at) (range_with_len 0 l.entry))
