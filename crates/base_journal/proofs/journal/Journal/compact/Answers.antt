use Rattle.std.proofs.Common.{sym, subst}
use Rattle.base_journal.specs.Records.{AreLines}
use Rattle.base_journal.proofs.Readings.{kept_lines}
use Rattle.base_journal.proofs.journal.Journal.compact.Goals as goal

pub rewrite-requires-clause-lines : goal.rewrite-requires-clause-lines
rewrite-requires-clause-lines g c =
    subst AreLines (sym c.in_ok-left.ensures) (kept_lines c.deref.result.now c.args.is_void.now (subst AreLines (sym c.deref.ensures.value) c.requires.held.are_lines))
