-- Refusal: which events are refused.
-- Source: this project's own.
use Rattle.std.specs.Prelude.{ℕ, Bool, true, false, ◌&&◌, ◌==◌, if◌then◌else◌, List, Option, Some, None, length, nat_le}
use Rattle.std.specs.List.{find}
use Rattle.watch_machine.specs.{declared.event.WatchEvent.WatchEvent, declared.event.Operation.Operation, declared.fault.WatchFault.WatchFault, declared.lanes.Out.Out, State.WatchState}
use Rattle.watch_machine.specs.declared.event.WatchEvent.TheVariants.{Clock, Looked, Renewed, Need, Begin, Known}
use Rattle.watch_machine.specs.declared.event.Operation.TheVariants.{Look, Renew}
use Rattle.watch_machine.specs.declared.fault.WatchFault.TheVariants.{NotAsked, BadIndex}

abbrev pub is_same : Operation → Operation → Bool
is_same Look Look = true
is_same Look Renew = false
is_same Renew Look = false
is_same Renew Renew = true

-- the request that is out of this entry, for that
unfoldable pub request_out : List Out → ℕ → Operation → Option Out
request_out out i operation = find (λ r. r.entry == i && is_same r.operation operation) out

-- no such entry
abbrev pub unless_within : WatchState → ℕ → Option WatchFault → Option WatchFault
unless_within s i other = if nat_le (length s.forest.entries) i then Some BadIndex else other

-- a request is out, if its entry is still there or is not
abbrev pub unless_some : WatchState → ℕ → Option Out → Option WatchFault
unless_some s i None = unless_within s i (Some NotAsked)
unless_some s i (Some r) = None

abbrev pub unless_asked : WatchState → ℕ → Operation → Option WatchFault
unless_asked s i operation = unless_some s i (request_out s.out i operation)

-- the refusal of an event, None where it has none: there is no such entry, or an answer is to no request that is out. One to a request
-- that is out is taken, also where its entry is no more
unfoldable pub refusal : WatchState → WatchEvent → Option WatchFault
refusal s (Clock wall elapsed) = None
refusal s (Looked i reply terms) = unless_asked s i Look
refusal s (Renewed i reply) = unless_asked s i Renew
refusal s (Need i until) = unless_within s i None
refusal s Begin = None
refusal s (Known i end renewable) = unless_within s i None
