-- The rows before the index are the same.
use Rattle.std.proofs.Common.{◌≡◌, take}
use Rattle.state_file.proofs.same.are_same.Given as goal

abbrev pub invariant-loop-index : goal.invariant-loop-index
invariant-loop-index l = take l.index l.rows ≡ take l.index l.others
