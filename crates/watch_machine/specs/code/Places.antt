-- Places: where an entry stands in the line, as the machine notes it. No public clause cites it.
-- Source: this project's own.
use Rattle.watch_machine.specs.declared.sending.Place.{Place}
use Rattle.watch_machine.specs.Sending as Sending

abbrev pub place_is : Place → Sending.Place
place_is p = record { part = p.part; rank = p.rank; entry = p.entry }
