-- The marks so far, and those of the rest, are those of the whole.
use Rattle.std.proofs.Common.{◌≡◌, ◌++◌, length, map}
use Rattle.base_words.specs.Pieces.{pieces}
use Rattle.vault_lint.specs.Marks.{mark_of}
use Rattle.vault_lint.proofs.places.marks_of.Given as goal

abbrev pub invariant-loop-line : goal.invariant-loop-line
invariant-loop-line l = l.marks.items ++ map mark_of (pieces 10 l.rest) ≡ map mark_of (pieces 10 l.text)

abbrev pub decreases-loop-line : goal.decreases-loop-line
decreases-loop-line l = length (pieces 10 l.rest)
