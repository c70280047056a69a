-- Within: the entry of an event is one of so many, but for that of an answer, which may be no more. No public clause cites it.
-- Source: this project's own.
use Rattle.std.specs.Prelude.{ℕ, ◌<◌}
use Rattle.watch_machine.specs.declared.event.WatchEvent.{WatchEvent}
use Rattle.watch_machine.specs.declared.event.WatchEvent.TheVariants.{Clock, Looked, Renewed, Need, Begin, Known}

abbrev pub IsEventWithin : ℕ → WatchEvent → Type 0
IsEventWithin n (Clock wall elapsed) = Unit {0}
IsEventWithin n (Looked i reply terms) = Unit {0}
IsEventWithin n (Renewed i reply) = Unit {0}
IsEventWithin n (Need i until) = i < n
IsEventWithin n Begin = Unit {0}
IsEventWithin n (Known i end renewable) = i < n
