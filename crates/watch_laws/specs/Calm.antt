-- Calm: how what a watch asks goes with the least and latest plan. Each law is the contract of a public function without a body.
-- Source: this project's own.
use Rattle.std.specs.Prelude.{◌≡◌, ◌⊎◌, ℕ, ◌+◌, ◌-◌, ◌<◌, ◌≤◌, true, false, not, ◌&&◌, Bool, List, [], ◌∷◌, Option, Some, None, IfSome, Result, Ok, Err, is_none, length, map}
use Rattle.std.specs.List.{All, range_with_len}
use Rattle.plan_forest.specs.{declared.entry.Entry.Entry, Forest.Forest, Push.IsForest, Renewal.renewal}
use Rattle.plan_rule.specs.{declared.wake.Wake.Wake, Ends.ends_after_wake_up, Ends.is_asked, Least.IsLeastAndLatest, Unkeepable.AllKeepable}
use Rattle.plan_rule.specs.Asks.{asks, first_of, with_asks}
use Rattle.watch_machine.specs.{declared.command.WatchOutput.WatchOutput, declared.event.WatchEvent.WatchEvent, declared.event.Operation.TheVariants.Renew, declared.event.WatchReply.TheVariants.Told, declared.fault.WatchFault.WatchFault}
use Rattle.watch_machine.specs.{declared.lanes.Out.Out, Beginning.is_pressed, Clocks.sec, Margins.is_in_plan, Margins.lead, Outlook.time_of, Refusal.request_out, Settling.timed, Step.readied, Step.why}
use Rattle.watch_machine.specs.declared.event.WatchEvent.TheVariants.{Clock, Renewed}
use Rattle.watch_machine.specs.History.{AllHappen, Changes, Happening, Hands, History, IsReached, Turned}
use Rattle.watch_machine.specs.State.{WatchState, attempt_at, entry_of, second, track_at}
use Rattle.watch_machine.specs.Wanted.{believed, cut_need, is_wanted, seen_entry}
use Rattle.watch_laws.specs.{Grants.time_left, Load.requests_at_turn, Time.round_of}

-- the believed ends
unfoldable pub ends : WatchState → ℕ → ℕ
ends s i = believed (track_at s i).end

-- an entry as it is believed, but for its end: at its top it is renewed no more
unfoldable pub terms : WatchState → ℕ → Entry
terms s i = record (seen_entry s.forest.entries s.tracks s.clocks i) { end = 0; renewable = (track_at s i).renewable && not (track_at s i).top }

-- the forest as it is believed. Its ends are the believed ends
unfoldable pub believed_forest : WatchState → Forest
believed_forest s = record { entries = map (terms s) (range_with_len 0 (length s.forest.entries)); margin = s.forest.margin }

-- these are the moments of the least and latest plan from now on, by what is believed
abbrev pub IsPlanNow : WatchState → List ℕ → Type 0
IsPlanNow s ts = IsLeastAndLatest (believed_forest s).entries s.forest.margin (second s) (ends s) ts

-- by what is believed, no pair is Unkeepable
abbrev pub IsKeepable : WatchState → Type 0
IsKeepable s = AllKeepable (believed_forest s) (second s) (ends s)

-- an entry is in the plan, and how far a renewal of it is taken to lead
abbrev pub in_plan_at : WatchState → ℕ → Bool
in_plan_at s i = is_in_plan s.forest.margin (entry_of s i) (track_at s i)

abbrev pub lead_at : WatchState → ℕ → ℕ
lead_at s i = lead (entry_of s i).step (track_at s i).grant

-- until when the plan has to lead an entry: its need, cut to its limit
abbrev pub planned_need : WatchState → ℕ → ℕ
planned_need s i = cut_need s.forest.entries s.tracks s.clocks i

-- nobody who is wanted is at its top. A last try is none of the plan's: it is for an end that the plan takes for the last
abbrev pub NobodyTriesLast : WatchState → Type 0
NobodyTriesLast s = (i : ℕ) → is_wanted s i ≡ true → (track_at s i).top ≡ false

-- each entry that is wanted is in the plan
abbrev pub AllInPlan : WatchState → Type 0
AllInPlan s = (i : ℕ) → i < length s.forest.entries → is_wanted s i ≡ true → in_plan_at s i ≡ true

-- the least time of an entry that is wanted, None where nobody is
abbrev pub IsLeastTime : WatchState → Option ℕ → Type 0
IsLeastTime s None = (i : ℕ) → i < length s.forest.entries → is_wanted s i ≡ false
IsLeastTime s (Some t) =
    ((i : ℕ) × ((i < length s.forest.entries) × ((is_wanted s i ≡ true) × (time_of s i ≡ t)))) × ((i : ℕ) → i < length s.forest.entries → is_wanted s i ≡ true → t ≤ time_of s i)

-- the least time is the first moment of the least and latest plan
abbrev pub IsForeseen : WatchState → Type 0
IsForeseen s = IsKeepable s → AllInPlan s → NobodyTriesLast s → (ts : List ℕ) × (IsPlanNow s ts × IsLeastTime s (first_of ts))

abbrev pub AllForeseen : List Turned → Type 0
AllForeseen [] = Unit {0}
AllForeseen (turn ∷ turns) = IsForeseen turn.state × AllForeseen turns

-- in every state of every history, where no pair is Unkeepable and each entry that is wanted is in the plan and not at its top, the least time of
-- these is the first moment of the least and latest plan by what is believed; and where nobody is wanted that plan is empty
abbrev pub NextMomentLaw : Type 0
NextMomentLaw = (old : WatchState) (turns : List Turned) (reached : IsReached old) → IsForest reached.forest → History old turns → AllForeseen turns

-- a state in which nobody is being asked, nobody who is wanted is at its top, and a renewal leads each of them as far as its step
pub record IsCalm (s : WatchState) : Type 0 where
  pub keepable : IsKeepable s
  pub in_plan : AllInPlan s
  pub untopped : NobodyTriesLast s
  pub led : (i : ℕ) → i < length s.forest.entries → is_wanted s i ≡ true → lead_at s i ≡ (entry_of s i).step
  pub unpressed : (i : ℕ) → i < length s.forest.entries → is_pressed (track_at s i) ≡ false
  pub unasked : (i : ℕ) → i < length s.forest.entries → (track_at s i).out ≡ false

-- the Asks of now by what is believed, where the next moment is `next`
abbrev pub asks_now : WatchState → Option ℕ → List ℕ
asks_now s next = asks (believed_forest s).entries s.forest.margin (second s) (ends s) (second s) next

-- what a clock opens is the round of the plan: one where its first moment is now, of the Asks; and none before
abbrev pub IsOfPlan : WatchState → Option (List ℕ) → Type 0
IsOfPlan s (Some asked) = (ts : List ℕ) × (IsPlanNow s (second s ∷ ts) × (asked ≡ asks_now s (first_of ts)))
IsOfPlan s None = (ts : List ℕ) × (IsPlanNow s ts × ((t : ℕ) → first_of ts ≡ Some t → second s < t))

-- a clock that was taken in calm
abbrev pub RoundsRight : WatchState → Turned → Type 0
RoundsRight old turn =
    (wall elapsed : ℕ) (output : WatchOutput) → turn.event ≡ Clock wall elapsed → turn.result ≡ Ok output → IsCalm (readied old wall elapsed) →
    IsOfPlan (readied old wall elapsed) output.notes.round

abbrev pub AllRight : WatchState → List Turned → Type 0
AllRight old [] = Unit {0}
AllRight old (turn ∷ turns) = RoundsRight old turn × AllRight turn.state turns

-- at every clock of every history that finds the state calm, a round opens where the first moment of the least and latest plan has
-- come, and only there; and it asks the Asks
abbrev pub RoundOfPlanLaw : Type 0
RoundOfPlanLaw = (old : WatchState) (turns : List Turned) (reached : IsReached old) → IsForest reached.forest → History old turns → AllRight old turns

-- a state at rest: it is calm, nobody has a try, is marked as out or owes a lookup, nothing is out, and the broker is there
pub record StateIsAtRest (s : WatchState) : Type 0 where
  pub forest : IsForest s.forest
  pub count : length s.tracks ≡ length s.forest.entries
  pub begun : is_none s.begun ≡ false
  pub there : s.presence.away ≡ false
  pub out : s.out ≡ []
  pub idle : (i : ℕ) → attempt_at s i ≡ None
  pub unmarked : (i : ℕ) → (track_at s i).out ≡ false
  pub owes : (i : ℕ) → (track_at s i).owes ≡ false
  pub calm : IsCalm s

-- the end to which a renewal by the rule leads an entry that counts from the second of a round
abbrev pub leads_to : WatchState → ℕ → ℕ → ℕ
leads_to s began i = renewal (terms s i) began

-- a second in which no round can open, where the last one opened in the second `began`: it comes before the time of each entry that is wanted
-- and not pressed yet; and before the end of each that has a try, and before the time to which its renewal leads, where that end is before
-- its need
pub record IsCalmSecond (s : WatchState) (began now : ℕ) : Type 0 where
  pub others : (i : ℕ) → i < length s.forest.entries → is_wanted s i ≡ true → is_pressed (track_at s i) ≡ false → now < time_of s i
  pub alive : (i : ℕ) → i < length s.forest.entries → is_none (attempt_at s i) ≡ false → now < ends s i
  pub own : (i : ℕ) → i < length s.forest.entries → is_none (attempt_at s i) ≡ false → leads_to s began i < planned_need s i → now < leads_to s began i - s.forest.margin

-- a clock at which nothing begins anew and no clock is set: it comes in the second of the least time of an entry that is not pressed
-- yet, or before; and before any round could open while anybody has a try
pub record IsCalmClock (s : WatchState) (began wall elapsed : ℕ) : Type 0 where
  pub goes_on : why s wall elapsed ≡ None
  pub broker_stays : (timed s wall elapsed).clocks.broker ≡ s.clocks.broker
  pub wall_stays : (timed s wall elapsed).clocks.wall ≡ s.clocks.wall
  pub in_time : (i : ℕ) → i < length s.forest.entries → is_wanted s i ≡ true → is_pressed (track_at s i) ≡ false → second (timed s wall elapsed) ≤ time_of s i
  pub answered : (i : ℕ) → i < length s.forest.entries → is_none (attempt_at s i) ≡ false → IsCalmSecond s began (second (timed s wall elapsed))

-- a grant of so many seconds by the rule: counted from the second of the round it leads as far as a renewal in that second. And its request
-- went out in that second, or it is told more than a second before the time that it leaves
pub record GrantIsByRule (s : WatchState) (began i seconds : ℕ) (q : Out) : Type 0 where
  pub leads : began + seconds ≡ leads_to s began i
  pub in_time : (sec q.since ≡ began) ⊎ (second s + 1 < time_left s.forest.margin (entry_of s i).step seconds began)

-- such a clock, or the answer to a renewal by the rule
abbrev pub IsCalmEvent : WatchState → ℕ → WatchEvent → Type 0
IsCalmEvent s began (Clock wall elapsed) = IsCalmClock s began wall elapsed
IsCalmEvent s began (Renewed i (Told seconds renewable date)) = (renewable ≡ true) × IfSome (request_out s.out i Renew) (GrantIsByRule s began i seconds)
IsCalmEvent s began (Renewed i reply) = ⊥
IsCalmEvent s began event = ⊥

abbrev pub IsCalmTurn : WatchState → ℕ → WatchEvent → Result WatchOutput WatchFault → Type 0
IsCalmTurn s began event (Ok output) = IsCalmEvent s began event
IsCalmTurn s began event (Err fault) = Unit {0}

-- the second in which the last round opened, after a turn that opens one or none
abbrev pub began_after : Option (List ℕ) → ℕ → ℕ → ℕ
began_after None began now = began
began_after (Some asked) began now = now

-- each event that is taken is such a one, where the last round before began in that second; and each change leaves a state at rest
abbrev pub AreCalm : ℕ → WatchState → List Happening → Type 0
AreCalm began s [] = Unit {0}
AreCalm began s (Hands turn ∷ hs) = IsCalmTurn s began turn.event turn.result × AreCalm (began_after (round_of turn.result) began (second turn.state)) turn.state hs
AreCalm began s (Changes c ∷ hs) = StateIsAtRest c.state × AreCalm (second c.state) c.state hs

-- no wake-up of a list has passed
abbrev pub NonePassed : WatchState → List Wake → Type 0
NonePassed s [] = Unit {0}
NonePassed s (w ∷ ws) = second s ≤ w.at

-- what opens at a turn is the next of these wake-ups, or nothing: last is the wake-up before, now the one after which the turn leaves
-- the watch, and next are those to come
abbrev pub OpensNextWakeUp : WatchState → Option (List ℕ) → Wake → List Wake → Wake → List Wake → Type 0
OpensNextWakeUp s None last wakes now next = (now ≡ last) × ((next ≡ wakes) × NonePassed s wakes)
OpensNextWakeUp s (Some asked) last wakes now next = (now ≡ record { at = second s; asked = asked }) × (wakes ≡ now ∷ next)

-- what goes out at a turn are renewals of those whom a wake-up asks, from its second on
abbrev pub SendsOnly : Wake → Turned → Type 0
SendsOnly now turn = All (λ r. (r.operation ≡ Renew) × ((is_asked now r.entry ≡ true) × (now.at ≤ second turn.state))) (requests_at_turn turn.result)

-- the ends after a turn as the wake-ups leave them that have opened so far: e before it
abbrev pub ends_left_by : Forest → (ℕ → ℕ) → Option (List ℕ) → Wake → ℕ → ℕ
ends_left_by g e None now = e
ends_left_by g e (Some asked) now = ends_after_wake_up g.entries g.margin e now

-- whoever has no try is believed to end so
abbrev pub EndAs : (ℕ → ℕ) → WatchState → Type 0
EndAs e s = (i : ℕ) → attempt_at s i ≡ None → ends s i ≡ e i

-- the wake-ups of a plan from now on, with its Asks; and the one before them, of nobody
abbrev pub wake_ups_from : WatchState → List ℕ → List Wake
wake_ups_from s ts = with_asks (believed_forest s).entries s.forest.margin (second s) (ends s) ts

abbrev pub no_wake_up : WatchState → Wake
no_wake_up s = record { at = second s; asked = [] }

-- turns that go by a list of wake-ups, as far as they have gone, where last is the wake-up before and e are the ends that it left: a
-- round opens at each, of those whom it asks, and at no other moment; each of them is renewed, and nothing else is asked. From a change on the
-- wake-ups are those of the plan of the state after it
abbrev pub GoBy : Forest → (ℕ → ℕ) → Wake → List Wake → List Happening → Type 0
GoBy g e last wakes [] = Unit {0}
GoBy g e last wakes (Hands turn ∷ hs) =
    (now : Wake) × ((next : List Wake) × (OpensNextWakeUp turn.state (round_of turn.result) last wakes now next × (SendsOnly now turn
    × (EndAs (ends_left_by g e (round_of turn.result) now) turn.state × GoBy g (ends_left_by g e (round_of turn.result) now) now next hs))))
GoBy g e last wakes (Changes c ∷ hs) = (ts : List ℕ) × (IsPlanNow c.state ts × GoBy (believed_forest c.state) (ends c.state) (no_wake_up c.state) (wake_ups_from c.state ts) hs)

-- from a state at rest on, while each clock comes in time, every reply comes before the next round and each renewal is granted by the rule
-- from the second of its round, the rounds are exactly the wake-ups of the least and latest plan with its Asks; they lead the ends as the
-- plan does, and nothing else is asked. After a change that leaves a state at rest they are those of the plan of that state
abbrev pub CalmLaw : Type 0
CalmLaw =
    (s : WatchState) (hs : List Happening) → StateIsAtRest s → AllHappen s hs → AreCalm (second s) s hs →
    (ts : List ℕ) × (IsPlanNow s ts × GoBy (believed_forest s) (ends s) (no_wake_up s) (wake_ups_from s ts) hs)
