-- The first time of the entries before the index is found.
use Rattle.watch_machine.specs.{Outlook.IsFirstOf, code.Lull.shown_by, code.Outlook.counts, code.View.HasNeeds}
use Rattle.watch_machine.proofs.outlook.first_time.Given as goal

-- the first time so far
abbrev pub invariant-loop-index : goal.invariant-loop-index
invariant-loop-index l = HasNeeds l.forest.entries l.tracks l.fn.clocks l.needs → IsFirstOf (counts l.fn.is_ahead (shown_by l.forest l.tracks l.fn.clocks)) (shown_by l.forest l.tracks l.fn.clocks) l.index l.first
