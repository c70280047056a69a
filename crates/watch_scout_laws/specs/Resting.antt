-- Resting: nothing rests on the agent in front: an outage is outlived by the own margin, whatever the scout hands in. The law is the
-- contract of a public function without a body.
-- Source: this project's own.
use Rattle.std.specs.Prelude.{◌≡◌, ◌≢◌, ◌⊎◌, ℕ, ◌-◌, ◌*◌, ◌<◌, ◌≤◌, Bool, true, List, [], ◌∷◌, Some, length}
use Rattle.plan_forest.specs.declared.forest.TheConstants.{END_MAX}
use Rattle.watch_machine.specs.{declared.event.WatchEvent.WatchEvent, declared.event.WatchEvent.TheVariants.Known, declared.event.WatchReply.WatchReply, Change.former_at, Clocks.ms, Outlook.time_of, State.WatchState, State.track_at}
use Rattle.watch_machine.specs.{Wanted.believed, Wanted.is_wanted}
use Rattle.watch_machine.specs.History.{AllHappen, Changes, Happening, Hands, IsReached, Turn, Turned}
use Rattle.watch_laws.specs.Absence.{is_clock, is_event_taken}
use Rattle.watch_laws.specs.Outage.{IsBefore, IsGrant, IsIncident, IsLived, IsLivedChange, IsShortFor, IsShortOutage, Outage, granted_next, in_line, outage_next_after}
use Rattle.plan_spread.specs.Behind.{margin_behind}
use Rattle.watch_scout.specs.{Hearing.event_of, State.ScoutState}

-- i is before its time after an event as it was before it, its time comes no sooner, and its believed end is later
pub record IsStillBefore (old new : WatchState) (i : ℕ) : Type 0 where
  pub before : IsBefore new i
  pub time : time_of old i ≤ time_of new i
  pub end : believed (track_at old i).end < believed (track_at new i).end

-- at a turn a scout hands in an end of i, and what is left to that from the time of i on outlasts an outage: it is the margin, where i is in the
-- plan and not at its top
pub record IsToldByScout (o : Outage) (old : WatchState) (turn : Turned) (i : ℕ) : Type 0 where
  pub scout : ScoutState
  pub reply : WatchReply
  pub end : ℕ
  pub renewable : Bool
  pub handed : event_of scout old i reply ≡ Some (Known i end renewable)
  pub event : turn.event ≡ Known i end renewable
  pub few : end ≤ END_MAX
  pub long : IsShortFor o (ms end - ms (time_of turn.state i))

-- what is lived through an outage until i is told, as the law of outages has it; but the scout may hand in ends of i, too
abbrev pub AreLivedBehind : Outage → ℕ → ℕ → WatchState → List Happening → Type 0
AreLivedBehind o i due s [] = Unit {0}
AreLivedBehind o i due s (Hands turn ∷ hs) =
    (IsLived o i due s turn.event turn.result ⊎ IsToldByScout o s turn i) × ((is_wanted turn.state i ≡ true) × AreLivedBehind o i (outage_next_after o turn.result turn.state due) turn.state hs)
AreLivedBehind o i due s (Changes c ∷ hs) = (k : ℕ) × (IsLivedChange o s c i k × ((is_wanted c.state k ≡ true) × AreLivedBehind o k due c.state hs))

-- after each turn the end of i is ahead
abbrev pub EndIsAhead : ℕ → WatchState → Type 0
EndIsAhead i s = s.clocks.at < ms (believed (track_at s i).end)

abbrev pub AllAhead : ℕ → List Happening → Type 0
AllAhead i [] = Unit {0}
AllAhead i (Hands turn ∷ hs) = EndIsAhead i turn.state × AllAhead i hs
AllAhead i (Changes c ∷ hs) = (k : ℕ) → former_at c.was k ≡ Some i → EndIsAhead k c.state × AllAhead k hs

-- what a scout hands in of another entry is an incident that the law of outages admits. What it hands in of an entry that is before its time
-- leaves it before its time, which comes no sooner. And with the margin of an agent that stands behind another, from each clock on that finds an
-- entry before its time, and until it is granted or looked up, its end is ahead, whatever the scout hands in, through any outage that this margin
-- outlasts; and so it is from each grant and each lookup of it on, until the next one
pub record RestLaw : Type 0 where
  pub others : (o : Outage) (s : ScoutState) (w : WatchState) (i j due : ℕ) (reply : WatchReply) (event : WatchEvent) → event_of s w j reply ≡ Some event → j ≢ i → IsIncident o i due w event
  pub own :
      (s : ScoutState) (old : WatchState) (turn : Turned) (i end : ℕ) (renewable : Bool) (reply : WatchReply) → event_of s old i reply ≡ Some (Known i end renewable) → turn.event ≡ Known i end renewable →
      Turn old turn.event turn.result turn.state → i < length old.tracks → end ≤ END_MAX → IsBefore old i → is_wanted turn.state i ≡ true → IsStillBefore old turn.state i
  pub outage :
      (margin : ℕ) (name : List ℕ) (o : Outage) (old : WatchState) (last : Turned) (hs : List Happening) (i : ℕ) → last.state.forest.margin ≡ margin_behind margin name → IsReached old → 0 < old.width →
      AllHappen old (Hands last ∷ hs) → is_clock last.event ≡ true → is_event_taken last.result ≡ true → IsBefore last.state i → AreLivedBehind o i (outage_next_after o last.result last.state 0) last.state hs →
      in_line o last.state hs ≤ old.width * o.rounds → o.from ≤ o.until → IsShortOutage o (margin_behind margin name) → AllAhead i hs
  pub again :
      (margin : ℕ) (name : List ℕ) (o : Outage) (old : WatchState) (grant : Turned) (hs : List Happening) (i : ℕ) → grant.state.forest.margin ≡ margin_behind margin name → IsReached old → 0 < old.width →
      AllHappen old (Hands grant ∷ hs) → IsGrant grant i → AreLivedBehind o i (granted_next o grant.state i) grant.state hs → in_line o grant.state hs ≤ old.width * o.rounds → o.from ≤ o.until →
      IsShortOutage o (margin_behind margin name) → AllAhead i hs
