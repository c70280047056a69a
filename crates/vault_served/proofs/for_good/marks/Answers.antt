-- Before the first note there is no mark.
use Rattle.vault_served.specs.ForGood.{marks}
use Rattle.vault_served.proofs.for_good.marks.Goals as goal

pub loop-note-init : goal.loop-note-init
unfolding marks
loop-note-init c = c.new-always.ensures.items
