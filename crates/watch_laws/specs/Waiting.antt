-- Waiting: nobody is forgotten. Each law is the contract of a public function without a body.
-- Source: this project's own.
use Rattle.std.specs.Prelude.{◌≡◌, ◌⊎◌, ℕ, ◌+◌, ◌<◌, ◌≤◌, true, false, List, [], ◌∷◌, Some, Result, Ok, Err, length}
use Rattle.std.specs.List.{list_any}
use Rattle.watch_machine.specs.{declared.command.WatchCommand.WatchCommand, declared.command.WatchOutput.WatchOutput, declared.fault.WatchFault.WatchFault, declared.track.Try.Try, Clocks.ms, Lines.ready, Pauses.cap, Outlook.time_of}
use Rattle.watch_machine.specs.{Settling.is_silent, Wanted.is_wanted}
use Rattle.watch_machine.specs.declared.command.WatchCommand.TheVariants.{Go, Taken}
use Rattle.watch_machine.specs.History.{History, IsReached, Turned}
use Rattle.watch_machine.specs.State.{WatchState, attempt_at, second, track_at}
use Rattle.watch_laws.specs.Absence.{is_clock, is_event_taken}

-- a request of i is out
abbrev pub RequestIsOut : WatchState → ℕ → Type 0
RequestIsOut s i = (track_at s i).out ≡ true

-- the wait passes no moment from which a try of i may go out; or all lanes are taken, so that an answer comes first
abbrev pub IsHeeded : WatchState → ℕ → ℕ → Try → Type 0
IsHeeded s until i t = (until ≤ ready s.presence (track_at s i) t) ⊎ (s.width ≤ length s.out)

-- i has a try that the wait does not pass
pub record HasTry (s : WatchState) (until i : ℕ) : Type 0 where
  pub attempt : Try
  pub attempt_is : attempt_at s i ≡ Some attempt
  pub heeded : IsHeeded s until i attempt

-- and is to be kept alive by it
pub record IsPressed (s : WatchState) (until i : ℕ) : Type 0 where
  pub has : HasTry s until i
  pub pressed : has.attempt.pressed ≡ true

-- the time of i is ahead, and the wait does not pass it
pub record TimeIsAhead (s : WatchState) (until i : ℕ) : Type 0 where
  pub ahead : second s < time_of s i
  pub heeded : until ≤ ms (time_of s i)

abbrev pub IsMinded : WatchState → ℕ → ℕ → Type 0
IsMinded s until i = RequestIsOut s i ⊎ (IsPressed s until i ⊎ TimeIsAhead s until i)

-- a wait ends later than now, and forgets nobody who is wanted: in the plan or not, with an end or without, past or ahead
abbrev pub WaitsRight : WatchCommand → WatchState → Type 0
WaitsRight (Go requests until) s = (s.clocks.at < until) × ((i : ℕ) → i < length s.forest.entries → is_wanted s i ≡ true → IsMinded s until i)
WaitsRight Taken s = Unit {0}

abbrev pub EndsRight : Result WatchOutput WatchFault → WatchState → Type 0
EndsRight (Ok output) s = WaitsRight output.command s
EndsRight (Err fault) s = Unit {0}

abbrev pub AllMinded : List Turned → Type 0
AllMinded [] = Unit {0}
AllMinded (turn ∷ turns) = EndsRight turn.result turn.state × AllMinded turns

-- after every clock each entry that is wanted is out, or is pressed, or its time is ahead; and the wait does not pass the moment from
-- which its try may go out, unless all lanes are taken, nor its time
abbrev pub MindedLaw : Type 0
MindedLaw = (old : WatchState) (turns : List Turned) → History old turns → AllMinded turns

-- an entry of which a lookup is owed is out, or has a try that the wait does not pass
abbrev pub OwesRight : WatchCommand → WatchState → Type 0
OwesRight (Go requests until) s = (i : ℕ) → i < length s.forest.entries → (track_at s i).owes ≡ true → RequestIsOut s i ⊎ HasTry s until i
OwesRight Taken s = Unit {0}

abbrev pub OwedRight : Result WatchOutput WatchFault → WatchState → Type 0
OwedRight (Ok output) s = OwesRight output.command s
OwedRight (Err fault) s = Unit {0}

abbrev pub AllOwed : List Turned → Type 0
AllOwed [] = Unit {0}
AllOwed (turn ∷ turns) = OwedRight turn.result turn.state × AllOwed turns

-- after every clock an entry of which a lookup is owed is out, or has a try that the wait does not pass
abbrev pub OwedLaw : Type 0
OwedLaw = (old : WatchState) (turns : List Turned) → IsReached old → History old turns → AllOwed turns

-- its try may go out within its longest pause: a sixteenth of what is left to its end, but at least a second, and at most half a minute
-- after a loss where little is left
abbrev pub IsSoon : WatchState → ℕ → Try → Type 0
IsSoon s i t = ready s.presence (track_at s i) t ≤ s.clocks.at + cap s.forest.margin s.clocks.at (track_at s i) t

-- or, where every request that had no answer had heard of one to another, no later than the hold that stands while the broker is away
abbrev pub IsHeldBack : WatchState → WatchState → ℕ → Try → Type 0
IsHeldBack old s i t = (list_any is_silent old.answers ≡ false) × (ready s.presence (track_at s i) t ≤ old.presence.hold)

-- a clock after a failure of i leaves it, where it is pressed and not out, a try that may go out soon
pub record TryFails (old : WatchState) (turn : Turned) (i : ℕ) (t u : Try) : Type 0 where
  pub clock : is_clock turn.event ≡ true
  pub taken : is_event_taken turn.result ≡ true
  pub before : attempt_at old i ≡ Some t
  pub failed : t.failed ≡ true
  pub after : attempt_at turn.state i ≡ Some u
  pub pressed : u.pressed ≡ true

abbrev pub Retries : WatchState → Turned → Type 0
Retries old turn = (i : ℕ) (t u : Try) → TryFails old turn i t u → IsSoon turn.state i u ⊎ IsHeldBack old turn.state i u

abbrev pub AllRetried : WatchState → List Turned → Type 0
AllRetried old [] = Unit {0}
AllRetried old (turn ∷ turns) = Retries old turn × AllRetried turn.state turns

-- an entry that failed may be asked again within its longest pause, from the clock after the failure
abbrev pub RetryLaw : Type 0
RetryLaw = (old : WatchState) (turns : List Turned) → IsReached old → History old turns → AllRetried old turns
