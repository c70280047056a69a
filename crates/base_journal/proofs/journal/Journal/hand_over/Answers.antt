-- The records that stay are lines.
use Rattle.std.proofs.Common.{sym, subst}
use Rattle.base_journal.specs.Records.{AreLines}
use Rattle.base_journal.proofs.Readings.{kept_lines}
use Rattle.base_journal.proofs.journal.Journal.hand_over.Goals as goal

pub exchange-requires-clause-lines : goal.exchange-requires-clause-lines
exchange-requires-clause-lines g c =
    subst AreLines (sym c.in_ok-left.ensures) (kept_lines c.deref.result.now c.args.is_handed.now (subst AreLines (sym c.deref.ensures.value) c.requires.held.are_lines))
