-- Starts: how long it takes, from a beginning or any other clock on, until an entry is answered once and again, as one that is looked up and
-- then renewed; and who is asked first. Each law is the contract of a public function without a body.
-- Source: this project's own.
use Rattle.std.specs.Prelude.{◌≡◌, ◌⊎◌, ◌==◌, ℕ, ◌+◌, ◌*◌, ◌<◌, ◌≤◌, Bool, true, false, ◌&&◌, if◌then◌else◌, List, [], ◌∷◌, Option, Some, None, Result, Ok, Err, IfSome, filter, length, nat_le}
use Rattle.std.specs.List.{All}
use Rattle.plan_forest.specs.Forest.{Forest}
use Rattle.watch_machine.specs.{declared.command.WatchOutput.WatchOutput, declared.event.WatchEvent.WatchEvent, declared.fault.WatchFault.WatchFault, declared.lanes.Out.Out, declared.track.Try.Try, Change.former_at, Lines.is_first}
use Rattle.watch_machine.specs.{Refusal.request_out, Settling.timed, Wanted.is_alive, Wanted.is_wanted}
use Rattle.watch_machine.specs.declared.event.WatchEvent.TheVariants.{Clock, Looked, Renewed, Need, Begin, Known}
use Rattle.watch_machine.specs.declared.event.Operation.TheVariants.{Look, Renew}
use Rattle.watch_machine.specs.History.{AllHappen, Changes, Happening, Hands, History, IsReached, IsWatchRun, Turned, after_all}
use Rattle.watch_machine.specs.State.{WatchState, attempt_at, opened, second, track_at}
use Rattle.watch_laws.specs.{Absence.is_clock, Absence.is_event_taken, Load.requests_at_turn, Partial.stands_before, Recovery.MayGo, Recovery.without_outage, Time.is_come}
use Rattle.watch_laws.specs.Outage.{IsReplyInOutage, Outage, coming_through, how_many, is_request_served, is_tried, outage_next_after}

-- i is being asked, or may go out by now
abbrev pub IsAtWork : Outage → WatchState → ℕ → Type 0
IsAtWork o s i = (is_request_served o s i ≡ true) ⊎ MayGo s i

-- a clock comes in time, and after each clock i is at work
abbrev pub IsWorking : Outage → ℕ → ℕ → WatchState → WatchEvent → WatchState → Type 0
IsWorking o i due old (Clock wall elapsed) new = ((timed old wall elapsed).clocks.at ≤ due) × IsAtWork o new i
IsWorking o i due old (Looked j reply terms) new = Unit {0}
IsWorking o i due old (Renewed j reply) new = Unit {0}
IsWorking o i due old (Need j until) new = Unit {0}
IsWorking o i due old Begin new = Unit {0}
IsWorking o i due old (Known j end renewable) new = Unit {0}

abbrev pub IsWorked : Outage → ℕ → ℕ → WatchState → WatchEvent → Result WatchOutput WatchFault → WatchState → Type 0
IsWorked o i due old event (Ok output) new = IsWorking o i due old event new
IsWorked o i due old event (Err fault) new = Unit {0}

-- turns in which i is at work, while the broker is there, and changes over which i stays, under the index k
abbrev pub AreWorked : Outage → ℕ → ℕ → WatchState → List Happening → Type 0
AreWorked o i due s [] = Unit {0}
AreWorked o i due s (Hands turn ∷ hs) = IsWorked o i due s turn.event turn.result turn.state × AreWorked o i (outage_next_after o turn.result turn.state due) turn.state hs
AreWorked o i due s (Changes c ∷ hs) = (k : ℕ) × ((former_at c.was k ≡ Some i) × AreWorked o k due c.state hs)

-- an answer to i
abbrev pub is_answer_to : ℕ → WatchEvent → Bool
is_answer_to i (Clock wall elapsed) = false
is_answer_to i (Looked j reply terms) = j == i
is_answer_to i (Renewed j reply) = j == i
is_answer_to i (Need j until) = false
is_answer_to i Begin = false
is_answer_to i (Known j end renewable) = false

-- so much later where a turn takes one
abbrev pub later_by : ℕ → ℕ → Turned → ℕ
later_by i span turn = if is_event_taken turn.result && is_answer_to i turn.event then span else 0

-- no clock and no change comes after that moment, which each answer to i sets so much later
abbrev pub AllSoon : ℕ → ℕ → ℕ → List Happening → Type 0
AllSoon i span by [] = Unit {0}
AllSoon i span by (Hands turn ∷ hs) = (turn.state.clocks.at ≤ by + later_by i span turn) × AllSoon i span (by + later_by i span turn) hs
AllSoon i span by (Changes c ∷ hs) = (k : ℕ) → former_at c.was k ≡ Some i → (c.state.clocks.at ≤ by) × AllSoon k span by hs

-- how many requests are out whose entries are no more
abbrev pub of_nobody : WatchState → ℕ
of_nobody s = length (filter (λ (q : Out). nat_le (length s.forest.entries) q.entry) s.out)

-- those that are asked or to be asked at first, and those that come to wait meanwhile
abbrev pub all_asked : Outage → WatchState → List Happening → ℕ
all_asked o s hs = of_nobody s + (how_many (length s.forest.entries) (is_tried s) + coming_through o s hs)

-- from a clock on, as a beginning, while the broker is there: as long as an entry is being asked or waits for a lane, no clock comes later than
-- all rounds that hold whatever is asked or to be asked at first and comes to wait meanwhile, and one round later for each answer to it. Over
-- changes, too: one counts as the lookups that it brings
abbrev pub StartLaw : Type 0
StartLaw =
    (quick late rounds : ℕ) (old : WatchState) (last : Turned) (hs : List Happening) (i : ℕ) → IsReached old → 0 < old.width → AllHappen old (Hands last ∷ hs) → is_clock last.event ≡ true →
    is_event_taken last.result ≡ true → i < length last.state.forest.entries → IsAtWork (without_outage quick late) last.state i →
    AreWorked (without_outage quick late) i (outage_next_after (without_outage quick late) last.result last.state 0) last.state hs →
    all_asked (without_outage quick late) last.state hs ≤ old.width * rounds → AllSoon i (quick + late) (last.state.clocks.at + (quick + late) * rounds) hs

-- until what is watched changes, no request is out whose entry is no more
abbrev pub NobodyLaw : Type 0
NobodyLaw = (g : Forest) (width : ℕ) (turns : List Turned) → IsWatchRun g width turns → of_nobody (after_all (opened g width) turns) ≡ 0

-- a try that is pressed and has not failed
abbrev pub is_first_try : Option Try → Bool
is_first_try None = false
is_first_try (Some t) = is_first t

-- i is on its first try, which may go out by now or is out, and the broker is there
pub record FirstTryIsUnderWay (o : Outage) (s : WatchState) (i : ℕ) : Type 0 where
  pub attempt : Try
  pub attempt_is : attempt_at s i ≡ Some attempt
  pub first : is_first attempt ≡ true
  pub settled : attempt.failed ≡ false
  pub soon : attempt.at ≤ s.clocks.at
  pub lane : (track_at s i).out ≡ true → is_request_served o s i ≡ true
  pub there : s.presence.away ≡ false

-- the broker is there: a clock comes in time, and no reply is lost
abbrev pub BrokerIsThere : Outage → ℕ → WatchState → WatchEvent → Type 0
BrokerIsThere o due s (Clock wall elapsed) = (timed s wall elapsed).clocks.at ≤ due
BrokerIsThere o due s (Looked j reply terms) = IfSome (request_out s.out j Look) (IsReplyInOutage o reply)
BrokerIsThere o due s (Renewed j reply) = IfSome (request_out s.out j Renew) (IsReplyInOutage o reply)
BrokerIsThere o due s event = Unit {0}

abbrev pub IsThereAt : Outage → ℕ → WatchState → WatchEvent → Result WatchOutput WatchFault → Type 0
IsThereAt o due s event (Ok output) = BrokerIsThere o due s event
IsThereAt o due s event (Err fault) = Unit {0}

-- turns in which the broker is there, after each of which i is wanted and on its first try, and changes over which i stays, under the index k
abbrev pub AreUnderWay : Outage → ℕ → ℕ → WatchState → List Happening → Type 0
AreUnderWay o i due s [] = Unit {0}
AreUnderWay o i due s (Hands turn ∷ hs) =
    IsThereAt o due s turn.event turn.result
    × ((is_wanted turn.state i ≡ true) × ((is_first_try (attempt_at turn.state i) ≡ true) × AreUnderWay o i (outage_next_after o turn.result turn.state due) turn.state hs))
AreUnderWay o i due s (Changes c ∷ hs) = (k : ℕ) × ((former_at c.was k ≡ Some i) × AreUnderWay o k due c.state hs)

-- so of an entry that is wanted: from a beginning on, while the broker is there, as long as it is on its first try, as one that is looked up
-- and then renewed, no clock comes later than those rounds, and one round later once it is looked up
abbrev pub SoonLaw : Type 0
SoonLaw =
    (quick late rounds : ℕ) (old : WatchState) (last : Turned) (hs : List Happening) (i : ℕ) → IsReached old → 0 < old.width → AllHappen old (Hands last ∷ hs) → is_clock last.event ≡ true →
    is_event_taken last.result ≡ true → FirstTryIsUnderWay (without_outage quick late) last.state i →
    AreUnderWay (without_outage quick late) i (outage_next_after (without_outage quick late) last.result last.state 0) last.state hs →
    all_asked (without_outage quick late) last.state hs ≤ old.width * rounds → AllSoon i (quick + late) (last.state.clocks.at + (quick + late) * rounds) hs

-- an entry of known end that is to be renewed now, whether a round asked it along before or not: it is wanted, its end is ahead and its own
-- time has come, it has not failed since, and it may go out by now
pub record IsToRenew (s : WatchState) (i : ℕ) : Type 0 where
  pub may : MayGo s i
  pub wanted : is_wanted s i ≡ true
  pub alive : is_alive (second s) (track_at s i) ≡ true
  pub come : is_come s i ≡ true
  pub first : may.attempt.fails ≡ 0

-- what goes out at a turn stands before i: first tries whose ends are ahead and earlier, or the same where the index is lower
abbrev pub GoesBefore : Turned → ℕ → Type 0
GoesBefore turn i = All (λ r. stands_before i turn.state r.entry ≡ true) (requests_at_turn turn.result)

abbrev pub AllKnownFirst : List Turned → Type 0
AllKnownFirst [] = Unit {0}
AllKnownFirst (turn ∷ turns) = (turn.state.presence.away ≡ false → (i : ℕ) → IsToRenew turn.state i → GoesBefore turn i) × AllKnownFirst turns

-- while the broker is there, entries of known end whose time has come are renewed first, by their ends: as long as one of them waits, nothing
-- else goes out, no lookup of an entry whose end is unknown or that only owes it, and no renewal of one whose time has not come
abbrev pub KnownFirstLaw : Type 0
KnownFirstLaw = (old : WatchState) (turns : List Turned) → History old turns → AllKnownFirst turns
