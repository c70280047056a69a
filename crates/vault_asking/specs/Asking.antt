-- Asking: what the machine asks, as the messages that are sent.
-- Source: this project's own.
use Rattle.std.specs.Prelude.{ℕ}
use Rattle.vault_exchange.specs.Requests.{lookup_of, renewal_request}
use Rattle.vault_inventory.specs.Inventories.{Inventory}
use Rattle.vault_lanes.specs.declared.lanes.Ask.{Ask}
use Rattle.vault_http.specs.declared.request.Request as http
use Rattle.watch_machine.specs.{declared.command.Patience.Patience, declared.command.WatchRequest.WatchRequest, declared.event.Operation.Operation, State.WatchState}
use Rattle.watch_machine.specs.declared.command.Patience.TheVariants.{Full, AtMost}
use Rattle.watch_machine.specs.declared.event.Operation.TheVariants.{Look, Renew}

-- a request as it is sent to a broker at that port. A renewal asks for the step that the machine has
abbrev pub message_as : Operation → ℕ → Inventory → WatchState → ℕ → http.Request
message_as Look port s m i = lookup_of port s.credentials s.forest i
message_as Renew port s m i = renewal_request port s.credentials m.forest i

abbrev pub message : ℕ → Inventory → WatchState → WatchRequest → http.Request
message port s m r = message_as r.operation port s m r.entry

-- how long it may take, in milliseconds: of lanes no more than their time-out counts
abbrev pub patience_in : Patience → ℕ
patience_in Full = 18446744073709551615
patience_in (AtMost ms) = ms

-- a request as it is handed to the lanes
abbrev pub ask_of : ℕ → Inventory → WatchState → WatchRequest → Ask
ask_of port s m r = record { index = r.entry; patience = patience_in r.patience; request = message port s m r }
