use Rattle.std.proofs.Common.{sym, subst}
use Rattle.base_journal.specs.Records.{AreLines}
use Rattle.base_journal.proofs.Readings.{kept_lines}
use Rattle.base_journal.proofs.journal.Journal.set_aside.Goals as goal

pub exchange-requires-clause-lines : goal.exchange-requires-clause-lines
exchange-requires-clause-lines g c =
    subst AreLines (sym c.in_ok-left.ensures) (kept_lines c.deref-2.result.now c.args.is_damaged.now (subst AreLines (sym c.deref-2.ensures.value) c.requires.held.are_lines))
