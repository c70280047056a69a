-- Lanes in memory: what a broker's table makes of a request, with faults by number.
-- Source: this project's own; the Broker step is that of one request.
use Rattle.std.specs.Prelude.{◌≡◌, ℕ, ◌+◌, ◌*◌, ◌-◌, ◌^◌, ◌==◌, ◌⊎◌, List, [], Option, Some, None, Result, Ok, Err, min, nat_lt, option_map, if◌then◌else◌}
use Rattle.std.specs.List.{find}
use Rattle.vault_exchange.specs.{Exchanges.received, declared.fault.ExchangeFault.ExchangeFault}
use Rattle.vault_exchange.specs.declared.fault.ExchangeFault.TheVariants as exchange
use Rattle.vault_lanes.specs.{Allowed.first_by, Allowed.millis_after, Losses.Answer, Losses.loss_of, Out.Out, Out.OutIsPut, declared.coming.Coming.Coming, declared.allowance.Allowance.Allowance, declared.fault.LaneFault.LaneFault}
use Rattle.vault_lanes.specs.{declared.fault.NumberedLaneFault.NumberedLaneFault, declared.lanes.Ask.Ask}
use Rattle.vault_lanes.specs.declared.fault.LaneFault.TheVariants.{Refuse, Lose, Hang, Late, Garble, Status}
use Rattle.vault_lanes.specs.declared.loss.Loss.TheVariants as losses
use Rattle.vault_lanes.specs.declared.reason.ConnectReason.TheVariants as reasons
use Rattle.broker_rule.specs.{declared.served.Served.Served, Table.BrokerTable}
use Rattle.broker_rule.specs.Step.{SaysAnswer, after_sweep, broker_step}
use Rattle.vault_http.specs.{declared.reply.Reply.Reply, declared.request.Request.Request}

-- what stands behind lanes in memory: the table, the faults of the requests by number, and how many were sent
pub record BehindLanes : Type 0 where
  pub table : BrokerTable
  pub faults : List NumberedLaneFault
  pub count : ℕ

-- the number of the next request, counted from 1, up to the greatest u64
abbrev pub next_lane_number : ℕ → ℕ
next_lane_number count = min (count + 1) (2 ^ 64 - 1)

-- the fault of a request: the first with its number
unfoldable pub lane_fault_at : List NumberedLaneFault → ℕ → Option LaneFault
lane_fault_at faults n = option_map (λ f. f.fault) (find (λ f. f.number == n) faults)

-- what is received, as an answer: no date is told
abbrev pub answer_in : Result Reply ExchangeFault → Answer
answer_in (Ok reply) = Ok (record { reply = reply; date = None })
answer_in (Err (exchange.Http fault)) = Err (loss_of fault)
answer_in (Err fault) = Err (losses.Connect reasons.Other)

-- the request is served at t by the Broker step, and that is what is received of what it sends
pub record RequestIsServed (old : BrokerTable) (t : ℕ) (r : Request) (answer : Answer) (new : BrokerTable) : Type 0 where
  pub sent : Served
  pub says : SaysAnswer t (broker_step old t r).answer sent
  pub answer_is : answer ≡ answer_in (received sent)
  pub new_is : new ≡ (broker_step old t r).table

-- an answer that is there so many milliseconds after its asking: too late where the patience is over by then
abbrev pub later : Answer → Allowance → ℕ → Coming
later answer a millis = if nat_lt (millis_after a.asked millis) (first_by a) then record { answer = answer; at = millis_after a.asked millis } else record { answer = Err losses.Timeout; at = first_by a }

-- a request without a fault is served, and its answer is there at once. With one the broker is not reached, or closes the
-- connection, or answers with another status, and does not serve it; or it serves it, and no reply comes, or none that can be
-- read, or it comes later: too late where the patience is over by then
abbrev pub ComesOfRequest : Option LaneFault → Allowance → BrokerTable → ℕ → Request → Coming → BrokerTable → Type 0
ComesOfRequest None a old t r c new = RequestIsServed old t r c.answer new × (c.at ≡ a.asked)
ComesOfRequest (Some Refuse) a old t r c new = (c ≡ record { answer = Err (losses.Connect reasons.Refused); at = a.asked }) × (new ≡ old)
ComesOfRequest (Some Lose) a old t r c new = (c ≡ record { answer = Err losses.Closed; at = a.asked }) × (new ≡ old)
ComesOfRequest (Some (Status status)) a old t r c new = (c ≡ record { answer = Ok (record { reply = record { status = status; body = [] }; date = None }); at = a.asked }) × (new ≡ old)
ComesOfRequest (Some Garble) a old t r c new = (c ≡ record { answer = Err losses.Reply; at = a.asked }) × (new ≡ (broker_step old t r).table)
ComesOfRequest (Some Hang) a old t r c new = (c ≡ record { answer = Err losses.Timeout; at = first_by a }) × (new ≡ (broker_step old t r).table)
ComesOfRequest (Some (Late millis)) a old t r c new = (answer : Answer) × (RequestIsServed old t r answer new × (c ≡ later answer a millis))

-- the allowance of a request that is asked now
abbrev pub allowed : ℕ → ℕ → Ask → Allowance
allowed seconds now ask = record { asked = now; patience = min ask.patience (1000 * seconds); seconds = seconds }

-- the request is sent by what stands behind the lanes, where that is known
abbrev pub IsSentBy : ℕ → ℕ → ℕ → Ask → Option BehindLanes → Option Coming → Option BehindLanes → Type 0
IsSentBy seconds t now ask None comes new = Unit {0}
IsSentBy seconds t now ask (Some old) comes new =
    (c : Coming) × (table : BrokerTable) × ((comes ≡ Some c) × (ComesOfRequest (lane_fault_at old.faults (next_lane_number old.count)) (allowed seconds now ask) old.table t ask.request c table
    × (new ≡ Some (record { table = table; faults = old.faults; count = next_lane_number old.count }))))

-- one request more is out, for its index
pub record RequestIsSent (seconds t now : ℕ) (ask : Ask) (before : Option BehindLanes) (old : List Out) (behind : Option BehindLanes) (new : List Out) : Type 0 where
  pub comes : Option Coming
  pub put : OutIsPut (record { index = ask.index; comes = comes }) old new
  pub by : IsSentBy seconds t now ask before comes behind

-- memory was wanting: the table is as it was, or as serving the request has left it, whole or in part
abbrev pub IsTableLeft : BrokerTable → ℕ → Request → BrokerTable → Type 0
IsTableLeft old t r new = (new ≡ old) ⊎ ((new ≡ after_sweep old t) ⊎ (new ≡ (broker_step old t r).table))

abbrev pub BrokerIsLeft : ℕ → Request → BehindLanes → Option BehindLanes → Type 0
BrokerIsLeft t r old new = (table : BrokerTable) × (IsTableLeft old.table t r table
    × (new ≡ Some (record { table = table; faults = old.faults; count = old.count })))
