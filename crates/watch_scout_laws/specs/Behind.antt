-- Behind: what an agent that stands behind another leaves to that one. Each law is the contract of a public function without a body.
-- Source: this project's own.
use Rattle.std.specs.Prelude.{◌≡◌, ℕ, ◌-◌, ◌<◌, ◌≤◌, Bool, true, false, List, [], ◌∷◌, ◌++◌, Option, Some, None, Result, Ok, Err, length}
use Rattle.plan_forest.specs.{declared.forest.TheConstants.END_MAX, Forest.Forest}
use Rattle.watch_machine.specs.{declared.command.WatchOutput.WatchOutput, declared.event.WatchEvent.WatchEvent, declared.event.WatchReply.WatchReply, declared.fault.WatchFault.WatchFault, declared.track.End.TheVariants.At}
use Rattle.watch_machine.specs.{declared.track.Track.Track, Answers.with_track, Margins.asking_margin, Outlook.time_of, Wanted.is_wanted}
use Rattle.watch_machine.specs.declared.event.WatchEvent.TheVariants.{Clock, Looked, Renewed, Need, Begin, Known}
use Rattle.watch_machine.specs.History.{Changes, Happening, Hands, IsRun, Turn, Turned, stood}
use Rattle.watch_machine.specs.State.{WatchState, entry_of, second, track_at}
use Rattle.watch_laws.specs.{Absence.is_event_taken, Load.requests_at_turn, Outage.tells, Presence.is_told, Time.is_come, Time.renewal_goes_out}
use Rattle.watch_scout.specs.{Hearing.event_of, State.ScoutState}

-- ---- what a scout hands in

-- an event tells an end of i that is known to be later than the believed one, and ahead; and i is not out
pub record IsLaterEnd (w : WatchState) (i : ℕ) (event : WatchEvent) : Type 0 where
  pub end : ℕ
  pub renewable : Bool
  pub is : event ≡ Known i end renewable
  pub free : (track_at w i).out ≡ false
  pub believed : ℕ
  pub known : (track_at w i).end ≡ At believed
  pub later : believed < end
  pub ahead : second w < end

-- a scout hands in no other
abbrev pub HandedLaw : Type 0
HandedLaw = (s : ScoutState) (w : WatchState) (i : ℕ) (reply : WatchReply) (event : WatchEvent) → event_of s w i reply ≡ Some event → IsLaterEnd w i event

-- ---- what that does

abbrev pub later_track : ℕ → Bool → Track → Track
later_track end renewable x = record x { end = At end; renewable = renewable }

-- a watch that is handed an end of i which is ahead believes it, and is as it was in all else: no try is set. The time of i is as long
-- before its end as it was
pub record IsKept (old new : WatchState) (i end : ℕ) (renewable : Bool) : Type 0 where
  pub state : new ≡ with_track old i (later_track end renewable (track_at old i))
  pub time : time_of new i ≡ end - asking_margin old.forest.margin (entry_of old i) (track_at old i)

abbrev pub KeptLaw : Type 0
KeptLaw =
    (old : WatchState) (turn : Turned) (i end : ℕ) (renewable : Bool) → Turn old turn.event turn.result turn.state → turn.event ≡ Known i end renewable → i < length old.forest.entries →
    i < length old.tracks → second old < end → end ≤ END_MAX → (is_event_taken turn.result ≡ true) × IsKept old turn.state i end renewable

-- ---- what is left to the one in front

-- i is told by a reply, and its time is ahead after it
abbrev pub IsToldAhead : ℕ → ℕ → WatchReply → WatchState → Type 0
IsToldAhead i j reply s = j ≡ i → (is_told reply ≡ true) × (is_come s i ≡ false)

-- i is left alone at an event: a clock finds its time ahead, and that of everybody who is wanted; an answer tells it, with its time ahead
abbrev pub IsLeftBy : ℕ → WatchEvent → WatchState → Type 0
IsLeftBy i (Clock wall elapsed) s = (is_come s i ≡ false) × ((j : ℕ) → is_wanted s j ≡ true → is_come s j ≡ false)
IsLeftBy i (Looked j reply terms) s = IsToldAhead i j reply s
IsLeftBy i (Renewed j reply) s = IsToldAhead i j reply s
IsLeftBy i (Need j until) s = Unit {0}
IsLeftBy i Begin s = Unit {0}
IsLeftBy i (Known j end renewable) s = Unit {0}

abbrev pub IsLeftAt : ℕ → WatchEvent → Result WatchOutput WatchFault → WatchState → Type 0
IsLeftAt i event (Ok output) s = IsLeftBy i event s
IsLeftAt i event (Err fault) s = Unit {0}

-- of an entry that is not there yet nothing has to be said
abbrev pub IsLeft : Option ℕ → Turned → Type 0
IsLeft None turn = Unit {0}
IsLeft (Some i) turn = IsLeftAt i turn.event turn.result turn.state

-- so at all turns, of the entry that stands at k in the end
abbrev pub AllLeft : ℕ → List Happening → Type 0
AllLeft k [] = Unit {0}
AllLeft k (Hands turn ∷ hs) = IsLeft (stood hs k) turn × AllLeft k hs
AllLeft k (Changes c ∷ hs) = AllLeft k hs

-- no renewal of it goes out
abbrev pub IsUnrenewed : Option ℕ → Turned → Type 0
IsUnrenewed None turn = Unit {0}
IsUnrenewed (Some i) turn = renewal_goes_out i (requests_at_turn turn.result) ≡ false

abbrev pub NoneRenewed : ℕ → List Happening → Type 0
NoneRenewed k [] = Unit {0}
NoneRenewed k (Hands turn ∷ hs) = IsUnrenewed (stood hs k) turn × NoneRenewed k hs
NoneRenewed k (Changes c ∷ hs) = NoneRenewed k hs

-- from an answer on that told an entry, its time being ahead after it, as long as it is left alone no renewal of it goes out
abbrev pub LeaveLaw : Type 0
LeaveLaw =
    (g : Forest) (width : ℕ) (before : List Happening) (told : Turned) (hs : List Happening) (k i : ℕ) → IsRun g width (before ++ Hands told ∷ hs) → stood hs k ≡ Some i → tells i told.event ≡ true →
    is_event_taken told.result ≡ true → is_come told.state i ≡ false → AllLeft k hs → NoneRenewed k hs
