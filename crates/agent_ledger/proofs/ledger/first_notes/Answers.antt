-- Where there are fewer, they are all.
use Rattle.std.proofs.Common.{arith, sym}
use Rattle.std.proofs.lemmas.List.{take_all}
use Rattle.agent_ledger.proofs.ledger.first_notes.Goals as goal

pub returns-then-notes-lt-MOST_NOTES : goal.returns-then-notes-lt-MOST_NOTES
returns-then-notes-lt-MOST_NOTES c = sym (take_all 100 c.args.notes.now (omega (arith, c.if-notes-lt-MOST_NOTES.true)))
