-- Set so far are the flags of those asked entries that were passed, and no others.
use Rattle.std.proofs.Common.{take}
use Rattle.tick_keeper.specs.code.Waking.{AreFlags}
use Rattle.tick_keeper.proofs.opening.flags.Given as goal

abbrev pub invariant-loop-index : goal.invariant-loop-index
invariant-loop-index l = AreFlags l.entries (take l.index-index l.asked) l.flags.items
