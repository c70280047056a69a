-- Tops: when an entry is called topped, and how it is asked once more then. Each law is the contract of a public function without a body.
-- Source: this project's own, over Vault, "Lease, renew, and revoke" (a renewal counts from its own moment; maximum TTL).
use Rattle.std.specs.Prelude.{◌≡◌, ℕ, ◌+◌, ◌-◌, ◌/◌, ◌<◌, ◌≤◌, Bool, true, false, not, ◌&&◌, ◌==◌, if◌then◌else◌, List, [], ◌∷◌, ◌++◌, Result, Ok, Err, All, length, min, Option, Some, None}
use Rattle.plan_forest.specs.Over.{Over}
use Rattle.watch_machine.specs.{declared.command.WatchOutput.WatchOutput, declared.event.WatchEvent.WatchEvent, declared.event.WatchReply.WatchReply, declared.fault.WatchFault.WatchFault, declared.track.End.TheVariants.At}
use Rattle.watch_machine.specs.{Beginning.is_pressed, Wanted.believed, Wanted.is_wanted}
use Rattle.watch_machine.specs.declared.event.WatchEvent.TheVariants.{Clock, Looked, Renewed, Need, Begin, Known}
use Rattle.watch_machine.specs.declared.event.WatchReply.TheVariants.{Told, Refused, Busy, Lost}
use Rattle.watch_machine.specs.History.{Changes, Happening, Hands, History, IsReached, Turned, stood}
use Rattle.watch_machine.specs.State.{WatchState, entry_of, second, track_at}
use Rattle.watch_laws.specs.{Absence.is_event_taken, Clocks.IsClock, Margins.own_before, Needs.IsNeedUntil, Presence.is_told, Presses.HasPressed, Time.is_come}

-- a grant: the seconds that the broker told, and the second from which they count
pub record Granted : Type 0 where
  pub seconds : ℕ
  pub from : ℕ

-- the end to which it led
abbrev pub end : Granted → ℕ
end g = g.from + g.seconds

-- the grant of an answer to a renewal of i, where it is one: it led to the end that is believed in the state s after it
abbrev pub grant_told : ℕ → WatchState → WatchReply → List Granted
grant_told i s (Told seconds renewable date) = record { seconds = seconds; from = believed (track_at s i).end - seconds } ∷ []
grant_told i s (Refused status date) = []
grant_told i s Busy = []
grant_told i s Lost = []

abbrev pub grant_by : ℕ → WatchState → WatchEvent → List Granted
grant_by i s (Clock wall elapsed) = []
grant_by i s (Looked j reply terms) = []
grant_by i s (Renewed j reply) = if j == i then grant_told i s reply else []
grant_by i s (Need j until) = []
grant_by i s Begin = []
grant_by i s (Known j end renewable) = []

abbrev pub grant_of : ℕ → WatchState → WatchEvent → Result WatchOutput WatchFault → List Granted
grant_of i s event (Ok output) = grant_by i s event
grant_of i s event (Err fault) = []

-- the grants of the entry that stands at k in the end, as they came, wherever it stood then
abbrev pub grant_of_some : Option ℕ → Turned → List Granted
grant_of_some None turn = []
grant_of_some (Some i) turn = grant_of i turn.state turn.event turn.result

abbrev pub grants_through : ℕ → List Happening → List Granted
grants_through k [] = []
grants_through k (Hands turn ∷ hs) = grant_of_some (stood hs k) turn ++ grants_through k hs
grants_through k (Changes c ∷ hs) = grants_through k hs

-- the second of two grants led no further than the first, but for one second, in which whole seconds may differ; and it counts from
-- a second that is two later, or more
pub record IsNoFurther (first second : Granted) : Type 0 where
  pub apart : first.from + 2 ≤ second.from
  pub no_further : end second ≤ end first + 1

-- the last two of some grants are so
abbrev pub EndNoFurther : List Granted → Type 0
EndNoFurther gs = (earlier : List Granted) × ((first : Granted) × ((second : Granted) × ((gs ≡ earlier ++ first ∷ second ∷ []) × IsNoFurther first second)))

-- after every run, the last grant of an entry that is called topped led no further than the one before it
abbrev pub ToppedLaw : Type 0
ToppedLaw = (s : WatchState) (reached : IsReached s) (k : ℕ) → k < length s.forest.entries → (track_at s k).top ≡ true → EndNoFurther (grants_through k reached.run)

-- the broker's rule: a grant is the lesser of some seconds and of what is left to a ceiling when it reads the request, which is no more
-- than so many seconds after the one from which the grant counts
pub record IsRuled (most ceiling within : ℕ) (g : Granted) : Type 0 where
  pub late : ℕ
  pub soon : late ≤ within
  pub left : g.from + late ≤ ceiling
  pub granted : g.seconds ≡ min most (ceiling - (g.from + late))

-- the last of some grants led to the ceiling, or to no more than so many seconds before it
abbrev pub EndAtCeiling : ℕ → ℕ → List Granted → Type 0
EndAtCeiling ceiling within gs = (earlier : List Granted) × ((last : Granted) × ((gs ≡ earlier ++ last ∷ []) × ((ceiling ≤ end last + within) × (end last ≤ ceiling))))

-- where all grants of an entry are by that rule, and it is called topped, its last grant led to the ceiling, or to no more seconds before
-- it than the broker may read a request late
abbrev pub CeilingLaw : Type 0
CeilingLaw =
    (s : WatchState) (reached : IsReached s) (k most ceiling within : ℕ) → k < length s.forest.entries → All (IsRuled most ceiling within) (grants_through k reached.run) →
    (track_at s k).top ≡ true → EndAtCeiling ceiling within (grants_through k reached.run)

-- a grant of i
abbrev pub is_grant_of : ℕ → WatchEvent → Bool
is_grant_of i (Clock wall elapsed) = false
is_grant_of i (Looked j reply terms) = false
is_grant_of i (Renewed j reply) = j == i && is_told reply
is_grant_of i (Need j until) = false
is_grant_of i Begin = false
is_grant_of i (Known j end renewable) = false

abbrev pub is_granted_at : ℕ → Turned → Bool
is_granted_at i turn = is_event_taken turn.result && is_grant_of i turn.event

-- whether the last grant of i left it at its top, after a turn, where it did before or not; and whether it was the first to do so since one that
-- led further
abbrev pub topped_after : ℕ → Bool → Turned → Bool
topped_after i before turn = if is_granted_at i turn then (track_at turn.state i).top else before

abbrev pub first_topped_after : ℕ → Bool → Bool → Turned → Bool
first_topped_after i before first turn = if is_granted_at i turn then (track_at turn.state i).top && not before else first

abbrev pub topped_at : Option ℕ → Bool → Turned → Bool
topped_at None before turn = before
topped_at (Some i) before turn = topped_after i before turn

abbrev pub first_topped_at : Option ℕ → Bool → Bool → Turned → Bool
first_topped_at None before first turn = first
first_topped_at (Some i) before first turn = first_topped_after i before first turn

abbrev pub is_first_topped_from : ℕ → Bool → Bool → List Happening → Bool
is_first_topped_from k before first [] = first
is_first_topped_from k before first (Hands turn ∷ hs) = is_first_topped_from k (topped_at (stood hs k) before turn) (first_topped_at (stood hs k) before first turn) hs
is_first_topped_from k before first (Changes c ∷ hs) = is_first_topped_from k before first hs

-- in a run, the last grant of the entry that stands at k in the end left it at its top, and the one before had led it further
abbrev pub is_first_topped : ℕ → List Happening → Bool
is_first_topped k hs = is_first_topped_from k false false hs

-- an entry may be led past that end, and has to be, whatever is fixed: it is renewable, and over j (itself too), which is needed until a second
-- that is ahead, and after the end
pub record IsNeededBeyond (s : WatchState) (i end j until : ℕ) : Type 0 where
  pub ends : (track_at s i).end ≡ At end
  pub renewable : (track_at s i).renewable ≡ true
  pub over : Over s.forest.entries i j
  pub needed : IsNeedUntil s.clocks (entry_of s j).need until
  pub ahead : second s < until
  pub beyond : end < until

-- an entry at its top for the first time since a grant led it further, that has to be led past its end, is asked once more: from half its own
-- margin before that end on, the first clock that finds it neither out nor pressed presses it. None presses one at its top but where that is so;
-- so no more after one grant more, until one leads it further or everything is looked up anew
pub record LastTryLaw : Type 0 where
  pub asked :
      (old : WatchState) (reached : IsReached old) (turn : Turned) (wall elapsed i end j until : ℕ) → History old (turn ∷ []) → i < length old.forest.entries → IsClock wall elapsed turn →
      (track_at old i).out ≡ false → is_pressed (track_at old i) ≡ false → (track_at turn.state i).top ≡ true → is_first_topped i reached.run ≡ true →
      IsNeededBeyond turn.state i end j until → end - own_before turn.state i / 2 ≤ second turn.state → HasPressed old turn.state i
  pub only :
      (old : WatchState) (reached : IsReached old) (turn : Turned) (wall elapsed i : ℕ) → History old (turn ∷ []) → i < length old.forest.entries → IsClock wall elapsed turn →
      is_pressed (track_at old i) ≡ false → is_pressed (track_at turn.state i) ≡ true → (track_at turn.state i).top ≡ true →
      (is_first_topped i reached.run ≡ true) × ((is_wanted turn.state i ≡ true) × (is_come turn.state i ≡ true))
