-- What is said so far is of the lines before the current one.
use Rattle.std.proofs.Common.{◌≡◌, take}
use Rattle.state_store.specs.code.Moving.{written}
use Rattle.state_store.proofs.damaged.written.Given as goal

abbrev pub invariant-loop-line : goal.invariant-loop-line
invariant-loop-line l = l.outs.items ≡ written (take l.line-index l.lines)
