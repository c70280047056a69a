-- What is left to come up from the index on gives what all give, and a lane is free.
use Rattle.std.proofs.Common.{◌≡◌, ◌-◌, ◌<◌, length}
use Rattle.watch_scout.specs.Looking.{first_from}
use Rattle.watch_scout.proofs.scout.Scout.first_from.Given as goal

abbrev pub invariant-loop-index : goal.invariant-loop-index
invariant-loop-index l =
    record {
      rest : first_from l.watch l.index (length l.watch.forest.entries - l.index) l.self ≡ first_from l.watch l.fn.from (length l.watch.forest.entries - l.fn.from) l.initial.self;
      count : length l.self.seen ≡ length l.watch.forest.entries;
      free : l.self.out < l.self.width;
    }
