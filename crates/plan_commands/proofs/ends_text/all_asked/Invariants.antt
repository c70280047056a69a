-- The wake-ups so far are at the moments that were passed, and ask every entry.
use Rattle.std.proofs.Common.{◌≡◌, length, take}
use Rattle.plan_commands.specs.EndsText.{all_asked}
use Rattle.plan_commands.proofs.ends_text.all_asked.Given as goal

abbrev pub invariant-loop-at : goal.invariant-loop-at
invariant-loop-at l = l.wakes.items ≡ all_asked (length l.forest.entries) (take l.at-index l.moments)
