-- Serving: what becomes of one connection, and of the broker's table.
-- Source: this project's own; what is served is broker_table's `Stream`, and the moment its `MomentLine`.
use Rattle.std.specs.Prelude.{◌≡◌, ℕ, ◌<◌, ◌⊎◌, Bool, true, false, List, [], ◌∷◌, ◌++◌, codes, decimal, length, map, Option, Some, IfSome, Result, Ok, Err}
use Rattle.base_device.specs.Seen.{Change, Seen}
use Rattle.program_report.specs.{declared.stop.Stop.Stop, Sent.IsUntouched, Sent.SendsText}
use Rattle.program_report.specs.declared.stop.Stop.TheVariants as stops
use Rattle.broker_table.specs.{declared.moment_line.LineFault.LineFault, declared.moment_line.Moments.Moments, MomentLine.TellsMoment, Stream.FaultLeaves, Stream.IsStreamed}
use Rattle.broker_table.specs.declared.moment_line.LineFault.TheVariants as line_faults
use Rattle.broker_table.specs.declared.stream.StreamFault.TheVariants as stream_faults
use Rattle.broker_rule.specs.Table.{BrokerTable}

-- nothing was read of the connection or written to it, and the table is as it was
abbrev pub Stays : Change → BrokerTable → BrokerTable → Type 0
Stays stream old new = (new ≡ old) × IsUntouched stream

-- a connection that has its time-outs is served at m, or a read or a write of it fails; one that has none is not served
abbrev pub IsServedAt : ℕ → Bool → Change → BrokerTable → BrokerTable → Type 0
IsServedAt m true stream old new = IsStreamed stream old m new ⊎ (FaultLeaves stream old m stream_faults.ReadFailed new ⊎ FaultLeaves stream old m stream_faults.WriteFailed new)
IsServedAt m false stream old new = Stays stream old new

-- what stops a broker that has no moment for a connection
abbrev pub stop_of_line : LineFault → Stop
stop_of_line line_faults.ReadFailed = stops.Read
stop_of_line line_faults.NoMoment = stops.Read
stop_of_line line_faults.OutOfMemory = stops.Memory

-- no moment is told, and nothing is done
abbrev pub HasNone : Moments → Seen → Seen → Change → BrokerTable → Stop → BrokerTable → Type 0
HasNone moments before now stream old stop new = (fault : LineFault) × ((stop ≡ stop_of_line fault) × (TellsMoment moments (Err fault) before now × Stays stream old new))

-- one connection at its moment. It stops the broker where there is no moment, or memory is wanting; not where it fails
abbrev pub ServesOne : Moments → Seen → Seen → Bool → Change → BrokerTable → Result (Unit {0}) Stop → BrokerTable → Type 0
ServesOne moments before now has_time stream old (Ok u) new = (m : ℕ) × (TellsMoment moments (Ok m) before now × IsServedAt m has_time stream old new)
ServesOne moments before now has_time stream old (Err stop) new =
    HasNone moments before now stream old stop new ⊎ ((stop ≡ stops.Memory) × ((m : ℕ) × (TellsMoment moments (Ok m) before now × FaultLeaves stream old m stream_faults.OutOfMemory new)))

-- ---- connections, one after another

-- a connection as it comes: its bytes, where they are known, and whether it has time-outs
pub record Connection : Type 0 where
  pub bytes : Option (List ℕ)
  pub has_time : Bool

-- these connections, and no others, were handed out between the two states of what hands them out
abbrev pub HandsOut : Option (List Connection) → Option (List Connection) → List Connection → Type 0
HandsOut old new these = IfSome old (λ before. new ≡ Some (before ++ these))

-- why no connection is handed out: memory was wanting, or else it counts as a read that failed
abbrev pub IsNoneHanded : Stop → Type 0
IsNoneHanded stop = (stop ≡ stops.Memory) ⊎ (stop ≡ stops.Read)

-- what became of a connection
pub record Visit : Type 0 where
  pub stream : Change
  pub has_time : Bool

abbrev pub visited : Visit → Connection
visited v = record { bytes = v.stream.old.input.remaining; has_time = v.has_time }

-- a broker between two connections: what its lines are read from, and the table
pub record Broker : Type 0 where
  pub lines : Seen
  pub table : BrokerTable

-- one connection takes a broker from the one state to the other, or stops it
abbrev pub Visits : Moments → Broker → Visit → Result (Unit {0}) Stop → Broker → Type 0
Visits moments b v result after =
    ServesOne moments b.lines after.lines v.has_time v.stream b.table result after.table

-- connections are served one after another
abbrev pub AreServed : Moments → Broker → List Visit → Broker → Type 0
AreServed moments b [] after = after ≡ b
AreServed moments b (v ∷ later) after = (mid : Broker) × (Visits moments b v (Ok tt) mid × AreServed moments mid later after)

-- after these no other connection is handed out, or one that stops the broker
abbrev pub StopsBehind : Moments → Broker → List Visit → Stop → Broker → Option (List Connection) → Option (List Connection) → Type 0
StopsBehind moments b visits stop after old new =
    (IsNoneHanded stop × (AreServed moments b visits after × HandsOut old new (map visited visits)))
    ⊎ ((mid : Broker) × (last : Visit) × (AreServed moments b visits mid × (Visits moments mid last (Err stop) after × HandsOut old new (map visited (visits ++ last ∷ [])))))

-- so many connections are handed out and served, each once, in the order in which they come; or the broker stops after fewer
abbrev pub ServesAll : ℕ → Moments → Broker → Result (Unit {0}) Stop → Broker → Option (List Connection) → Option (List Connection) → Type 0
ServesAll count moments b (Ok u) after old new =
    (visits : List Visit) × ((length visits ≡ count) × (AreServed moments b visits after × HandsOut old new (map visited visits)))
ServesAll count moments b (Err stop) after old new =
    (visits : List Visit) × ((length visits < count) × StopsBehind moments b visits stop after old new)

-- the last line
abbrev pub served_line : ℕ → List ℕ
served_line count = codes "served " ++ (decimal count ++ codes "\n")

-- it is told; or why no more than a front of it is, and nothing of it where memory for its text was wanting
abbrev pub TellsServed : ℕ → Result (Unit {0}) Stop → Change → Type 0
TellsServed count result out = SendsText result (served_line count) out ⊎ ((result ≡ Err stops.Memory) × IsUntouched out)
