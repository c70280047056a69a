-- Playing: words for the parts of a rehearsal. No public clause cites them.
-- Source: this project's own.
use Rattle.std.specs.Prelude.{◌≡◌, ◌≢◌, ℕ, ◌<◌, ◌≤◌, ◌++◌, ◌⊎◌, List, [], Option, Some, None, Result, Ok, Err, length, map}
use Rattle.std.specs.{Io.KnownBytes.Keeps, List.All, List.flat_map}
use Rattle.base_device.specs.{Seen.Change, Seen.ReceivesFront, Failures.HasFailed}
use Rattle.base_moment.specs.declared.moment.TheConstants.{LAST}
use Rattle.plan_rule.specs.Schedule.{RisesStrictly}
use Rattle.vault_inventory.specs.Inventories.{Inventory}
use Rattle.vault_exchange.specs.Exchanges.{Behind}
use Rattle.tick_keeper.specs.{declared.event.Event.Event, declared.event.Event.TheVariants.Tick, declared.event.Output.Output, declared.fault.StepFault.StepFault, History.CoreTurn, State.CoreState}
use Rattle.tick_keeper.specs.declared.fault.StepFault.TheVariants.{TooLong, OutOfMemory}
use Rattle.tick_keeper.specs.declared.event.Output.TheVariants as out
use Rattle.tick_runs.specs.{declared.rehearse.playing.TheConstants.MOST_WAKES, declared.rehearse.waking.Opened.Opened, declared.rehearse.waking.Woken.Woken, Replies.IsAnswerOf, Stops.WakeUpIsDue, Stops.both}
use Rattle.tick_runs.specs.Closed.{AreAnswered, Beat, Exchanged, Played, RequestIsAnswered, World, closing, request_count, rounds, shorts_taken}
use Rattle.tick_runs.specs.Text.{answer_text, beat_text, done_text, inventory_with, short_need_lines, wake_line_of_output}
use Rattle.program_report.specs.{declared.stop.Stop.Stop, Sent.IsAll}
use Rattle.program_report.specs.declared.stop.Stop.TheVariants as stops

-- ---- what the keeper takes

-- the next moment, if there is one, may be told: it does not come before the last one
abbrev pub MayCome : ℕ → Option ℕ → Type 0
MayCome last None = Unit {0}
MayCome last (Some t) = (last ≤ t) × (t ≤ LAST)

-- a round is open since the last moment, t, and waits for these, by index
pub record RoundWaits (s : CoreState) (t : ℕ) (asked : List ℕ) : Type 0 where
  pub round : s.round ≡ Some (record { at = t; unanswered = asked })
  pub last : s.last ≡ t
  pub low : ℕ
  pub rises : RisesStrictly low asked
  pub within : All (λ i. i < length s.forest.entries) asked

-- what a tick at t leaves: a round, or none and the moment of the next tick, if there is one
abbrev pub TickLeaves : ℕ → Output → CoreState → Type 0
TickLeaves t (out.Ask asked) new = RoundWaits new t asked × (asked ≢ [])
TickLeaves t (out.Sleep w) new = (new.round ≡ None) × MayCome new.last (Some w)
TickLeaves t output new = new.round ≡ None

-- an answer of i is taken, and the needs that it shortened are
pub record TakesAnswer (i : ℕ) (old : CoreState) (output : Output) (new : CoreState) : Type 0 where
  pub event : Event
  pub of : IsAnswerOf i event
  pub keeper : CoreState
  pub turn : CoreTurn old event (Ok output) keeper
  pub is : new ≡ shorts_taken keeper

-- why there is no plan
abbrev pub IsPlanFault : StepFault → Type 0
IsPlanFault TooLong = Unit {0}
IsPlanFault OutOfMemory = Unit {0}
IsPlanFault fault = ⊥

abbrev pub stop_of : StepFault → Stop
stop_of TooLong = stops.TooLong
stop_of fault = stops.Memory

-- ---- what a run comes to

-- one answer and its text, which follows before
pub record Answers (port : ℕ) (cs : List (List ℕ)) (t : ℕ) (old : World) (i : ℕ) (output : Output) (new : World) (before after : List ℕ) : Type 0 where
  pub x : Exchanged
  pub entry : x.entry ≡ i
  pub output_is : x.output ≡ output
  pub answered : RequestIsAnswered port cs t old x new
  pub text_is : after ≡ before ++ answer_text (inventory_with cs old.keeper.forest) x

-- the answers of these, one after another, and their text
pub record AnswersAll (port : ℕ) (cs : List (List ℕ)) (t : ℕ) (old : World) (asked : List ℕ) (next : Option ℕ) (new : World) (before after : List ℕ) : Type 0 where
  pub xs : List Exchanged
  pub who : map (λ x. x.entry) xs ≡ asked
  pub answered : AreAnswered port cs t old xs new
  pub next_is : next ≡ closing None xs
  pub text_is : after ≡ before ++ flat_map (answer_text (inventory_with cs old.keeper.forest)) xs

-- one tick, without the answers, and its text
pub record Ticks (t : ℕ) (old : CoreState) (output : Output) (new : CoreState) (before after : List ℕ) : Type 0 where
  pub keeper : CoreState
  pub turn : CoreTurn old (Tick t) (Ok output) keeper
  pub is : new ≡ shorts_taken keeper
  pub text_is : after ≡ before ++ (short_need_lines new.forest keeper.shortened ++ wake_line_of_output new.forest t output)

-- ticks that ask nobody
pub record IsQuietTo (cs : List (List ℕ)) (old : World) (due : Option ℕ) (new : World) (next : Option ℕ) (beats : List Beat) : Type 0 where
  pub played : Played 8200 cs old due beats new next
  pub none_asked : rounds beats ≡ []
  pub none_sent : request_count beats ≡ 0

-- ticks from due on, until one asks these, or none is next
pub record OpensAfterTicks (cs : List (List ℕ)) (behind : Option Behind) (old : CoreState) (due : ℕ) (t : ℕ) (asked : List ℕ) (new : CoreState) (before after : List ℕ) : Type 0 where
  pub beats : List Beat
  pub mid : CoreState
  pub quiet : IsQuietTo cs (both old behind) (Some due) (both mid behind) (Some t) beats
  pub middle : List ℕ
  pub quiet_text : middle ≡ before ++ flat_map (beat_text (inventory_with cs old.forest)) beats
  pub ticks : Ticks t mid (out.Ask asked) new middle after

pub record RunEnds (cs : List (List ℕ)) (behind : Option Behind) (old : CoreState) (due : ℕ) (new : CoreState) (before after : List ℕ) : Type 0 where
  pub beats : List Beat
  pub quiet : IsQuietTo cs (both old behind) (Some due) (both new behind) None beats
  pub text_is : after ≡ before ++ flat_map (beat_text (inventory_with cs old.forest)) beats

-- what opening a wake-up gave: the moment and who is asked, or that none is next
abbrev pub OpensOrEnds : List (List ℕ) → Option Behind → CoreState → ℕ → Option Opened → CoreState → List ℕ → List ℕ → Type 0
OpensOrEnds cs behind old due None new before after = RunEnds cs behind old due new before after
OpensOrEnds cs behind old due (Some o) new before after = OpensAfterTicks cs behind old due o.at o.asked new before after

-- what opening a wake-up leaves
abbrev pub LeavesOpen : Option Opened → CoreState → Type 0
LeavesOpen None new = new.round ≡ None
LeavesOpen (Some o) new = RoundWaits new o.at o.asked × (o.asked ≢ [])

abbrev pub asked_of_opened : Option Opened → List ℕ
asked_of_opened None = []
asked_of_opened (Some o) = o.asked

-- a run that goes on from a world with a tick at due, if there is one: where it led and when the next tick is; how many
-- wake-ups and requests it made, and its text
pub record RunGoes (s : Inventory) (old : World) (due : Option ℕ) (new : World) (next : Option ℕ) (wakes asked : ℕ) (text : List ℕ) : Type 0 where
  pub beats : List Beat
  pub played : Played 8200 s.credentials old due beats new next
  pub wakes_are : wakes ≡ length (rounds beats)
  pub asked_are : asked ≡ request_count beats
  pub text_is : text ≡ flat_map (beat_text s) beats

abbrev pub next_in : Option Woken → Option ℕ
next_in None = None
next_in (Some w) = w.next

abbrev pub requests_in : Option Woken → ℕ
requests_in None = 0
requests_in (Some w) = w.requests

-- to the end of the first round, or to the end of the run where there is none
abbrev pub RunWakes : List (List ℕ) → World → ℕ → Option Woken → World → List ℕ → List ℕ → Type 0
RunWakes cs old due None new before after = (text : List ℕ) × (RunGoes (inventory_with cs old.keeper.forest) old (Some due) new None 0 0 text × (after ≡ before ++ text))
RunWakes cs old due (Some w) new before after = (text : List ℕ) × (RunGoes (inventory_with cs old.keeper.forest) old (Some due) new w.next 1 w.requests text × (after ≡ before ++ text))

-- ---- what is written

-- what sending these last lines came to
abbrev pub Finishes : List ℕ → Result (Unit {0}) Stop → Change → Type 0
Finishes text (Ok u) out = IsAll text out
Finishes text (Err stops.Write) out = HasFailed out.old.failed_calls out.new.failed_calls × ReceivesFront text out
Finishes text (Err stops.Memory) out = ReceivesFront text out
Finishes text (Err stop) out = ⊥

-- after 100,000 wake-ups: no more than a front of the last lines was written
abbrev pub LastFront : List (List ℕ) → Option Behind → CoreState → ℕ → ℕ → Change → Type 0
LastFront cs behind old due asked out =
    Keeps out.old.output.written out.new.output.written ⊎ ((new : World) × (text : List ℕ) × RunGoes (inventory_with cs old.forest) (both old behind) (Some due) new None 0 0 text × ReceivesFront (text ++ done_text MOST_WAKES asked) out)

abbrev pub LastPlays : List (List ℕ) → Option Behind → CoreState → ℕ → ℕ → Result (Unit {0}) Stop → CoreState → Change → Type 0
LastPlays cs behind old due asked (Ok u) new out = (text : List ℕ) × RunGoes (inventory_with cs old.forest) (both old behind) (Some due) (both new behind) None 0 0 text × IsAll (text ++ done_text MOST_WAKES asked) out
LastPlays cs behind old due asked (Err stops.TooLong) new out = WakeUpIsDue cs (both old behind) due × IsAll [] out
LastPlays cs behind old due asked (Err stops.Write) new out = HasFailed out.old.failed_calls out.new.failed_calls × LastFront cs behind old due asked out
LastPlays cs behind old due asked (Err stops.Memory) new out = LastFront cs behind old due asked out
LastPlays cs behind old due asked (Err stop) new out = ⊥

-- the lines of a run so far, or all of them with the last one
pub record IsText (s : Inventory) (old : World) (start : ℕ) (text : List ℕ) : Type 0 where
  pub new : World
  pub next : Option ℕ
  pub wakes : ℕ
  pub asked : ℕ
  pub lines : List ℕ
  pub goes : RunGoes s old (Some start) new next wakes asked lines
  pub text_is : (text ≡ lines) ⊎ ((next ≡ None) × (text ≡ lines ++ done_text wakes asked))

pub record PlaysWhole (s : Inventory) (old : World) (start : ℕ) (before : List ℕ) (new : World) (out : Change) : Type 0 where
  pub wakes : ℕ
  pub asked : ℕ
  pub lines : List ℕ
  pub goes : RunGoes s old (Some start) new None wakes asked lines
  pub few : wakes ≤ MOST_WAKES
  pub sent : IsAll (before ++ (lines ++ done_text wakes asked)) out

pub record PlaysLong (s : Inventory) (old : World) (start : ℕ) (before : List ℕ) (behind : Option Behind) (out : Change) : Type 0 where
  pub keeper : CoreState
  pub due : ℕ
  pub asked : ℕ
  pub lines : List ℕ
  pub goes : RunGoes s old (Some start) (both keeper behind) (Some due) MOST_WAKES asked lines
  pub more : WakeUpIsDue s.credentials (both keeper behind) due
  pub sent : IsAll (before ++ lines) out

-- no more than a front of the lines was written
abbrev pub PlaysFront : Inventory → World → ℕ → List ℕ → Change → Type 0
PlaysFront s old start before out = (text : List ℕ) × IsText s old start text × ReceivesFront (before ++ text) out

-- what playing a run came to
abbrev pub Plays : List (List ℕ) → World → ℕ → List ℕ → Result (Unit {0}) Stop → World → Change → Type 0
Plays cs old start before (Ok u) new out = PlaysWhole (inventory_with cs old.keeper.forest) old start before new out
Plays cs old start before (Err stops.TooLong) new out = PlaysLong (inventory_with cs old.keeper.forest) old start before new.behind out
Plays cs old start before (Err stops.Write) new out = HasFailed out.old.failed_calls out.new.failed_calls × PlaysFront (inventory_with cs old.keeper.forest) old start before out
Plays cs old start before (Err stops.Memory) new out = PlaysFront (inventory_with cs old.keeper.forest) old start before out
Plays cs old start before (Err stop) new out = ⊥
