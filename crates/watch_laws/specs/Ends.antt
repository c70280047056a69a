-- Ends: no believed end comes after the real one. The law is the contract of a public function without a body.
-- Source: this project's own, over Vault, HTTP API: `auth/token`, "Lookup a token (self)" and "Renew a token (self)";
-- `sys/leases`, "Read lease" and "Renew lease" (the seconds count from the reply).
use Rattle.std.specs.Prelude.{◌≡◌, ◌==◌, ℕ, ◌+◌, ◌≤◌, Bool, false, ◌&&◌, if◌then◌else◌, List, [], ◌∷◌, Option, Some, None, map}
use Rattle.std.specs.List.{list_any}
use Rattle.plan_forest.specs.Forest.{Forest}
use Rattle.watch_machine.specs.{declared.event.WatchEvent.WatchEvent, declared.event.WatchReply.WatchReply, declared.track.End.TheVariants.At, Clocks.ms}
use Rattle.watch_machine.specs.declared.event.WatchEvent.TheVariants.{Clock, Looked, Renewed, Need, Begin, Known}
use Rattle.watch_machine.specs.declared.event.WatchReply.TheVariants.{Told, Refused, Busy, Lost}
use Rattle.watch_machine.specs.History.{Changes, Happening, Happens, Hands, Turned, state_after, stood}
use Rattle.watch_machine.specs.State.{WatchState, opened, track_at}
use Rattle.watch_laws.specs.{Absence.is_event_taken, Load.requests_at_turn, Presence.is_told}

-- the world beside a watch. Moments of it are milliseconds of real time: what the clock that never steps shows at each, and by
-- how much it may have fallen behind between two
pub record TimedWorld : Type 0 where
  pub reading : ℕ → ℕ
  pub lag : ℕ → ℕ → ℕ

-- an honest clock: its readings never fall, as much passes by them as passes, but for the lag, and a lag is not made good
pub record IsHonest (w : TimedWorld) : Type 0 where
  pub rises : (a b : ℕ) → a ≤ b → w.reading a ≤ w.reading b
  pub counts : (a n : ℕ) → w.reading a + n ≤ w.reading (a + n) + w.lag a (a + n)
  pub adds : (a b c : ℕ) → a ≤ b → b ≤ c → w.lag a b ≤ w.lag a c

-- how an end was told: the moment at which the broker read the request, and how many milliseconds too much it told at most (half a
-- second where a lookup rounds)
pub record Origin : Type 0 where
  pub since : ℕ
  pub over : ℕ

-- what happened, as it was lived: the moment of it, the real end of the entry after it, and how it told the end, if it did
pub record Lived : Type 0 where
  pub happening : Happening
  pub at : ℕ
  pub real : ℕ
  pub origin : Origin

-- an end, a second of the watch's clock, comes no later than a real one, but for what the clock has lagged since the end was told,
-- and what was told too much
pub record IsNoLater (w : TimedWorld) (phase end real : ℕ) (o : Origin) : Type 0 where
  pub before : o.since ≤ real
  pub no_later : ms end ≤ w.reading real + phase + w.lag o.since real + o.over

-- a reply was true: the broker read the request after that had gone out, and before the real end; and an end that is told as so many
-- seconds was as far away then, or further, but for what was told too much
abbrev pub IsTrueReply : ℕ → ℕ → Origin → WatchReply → Type 0
IsTrueReply asked real o (Told seconds renewable date) = (asked ≤ o.since) × ((o.since ≤ real) × (o.since + ms seconds ≤ real + o.over))
IsTrueReply asked real o (Refused status date) = Unit {0}
IsTrueReply asked real o Busy = Unit {0}
IsTrueReply asked real o Lost = Unit {0}

-- an event was true of i, whose last request went out at asked: a reading was taken before it was handed in, a reply was true, and an
-- end that is known was told by an earlier watch
abbrev pub IsTrueEvent : TimedWorld → ℕ → ℕ → WatchState → Lived → WatchEvent → Type 0
IsTrueEvent w i asked s l (Clock wall elapsed) = elapsed ≤ w.reading l.at
IsTrueEvent w i asked s l (Looked j reply terms) = j ≡ i → IsTrueReply asked l.real l.origin reply
IsTrueEvent w i asked s l (Renewed j reply) = j ≡ i → IsTrueReply asked l.real l.origin reply
IsTrueEvent w i asked s l (Need j until) = Unit {0}
IsTrueEvent w i asked s l Begin = Unit {0}
IsTrueEvent w i asked s l (Known j end renewable) = j ≡ i → IsNoLater w s.clocks.phase end l.real l.origin

-- of an entry that is not there yet a reading alone is told
abbrev pub IsTrueReading : TimedWorld → ℕ → WatchEvent → Type 0
IsTrueReading w at (Clock wall elapsed) = elapsed ≤ w.reading at
IsTrueReading w at event = Unit {0}

abbrev pub IsTrueAt : TimedWorld → Option ℕ → ℕ → WatchState → Lived → Happening → Type 0
IsTrueAt w None asked s l (Hands turn) = IsTrueReading w l.at turn.event
IsTrueAt w (Some i) asked s l (Hands turn) = IsTrueEvent w i asked s l turn.event
IsTrueAt w e asked s l (Changes c) = Unit {0}

-- the moment of the clock at which the last request of the entry went out
abbrev pub asked_after : ℕ → ℕ → Lived → Turned → ℕ
asked_after i asked l turn = if list_any (λ r. r.entry == i) (requests_at_turn turn.result) then l.at else asked

abbrev pub asked_at : Option ℕ → ℕ → Lived → Happening → ℕ
asked_at None asked l h = asked
asked_at (Some i) asked l (Hands turn) = asked_after i asked l turn
asked_at (Some i) asked l (Changes c) = asked

abbrev pub happened : List Lived → List Happening
happened ls = map (λ (l : Lived). l.happening) ls

-- what was lived from a state on, by what was true of the entry that stands at k in the end: the moment of what happened last, that at which the
-- last request of it went out, and the real end before. The real end does not come to be earlier
abbrev pub AreLivedFrom : TimedWorld → ℕ → WatchState → ℕ → ℕ → ℕ → List Lived → Type 0
AreLivedFrom w k s last asked real [] = Unit {0}
AreLivedFrom w k s last asked real (l ∷ ls) =
    Happens s l.happening × ((last ≤ l.at) × (IsTrueAt w (stood (happened ls) k) asked s l l.happening × ((real ≤ l.real)
    × AreLivedFrom w k (state_after l.happening) l.at (asked_at (stood (happened ls) k) asked l l.happening) l.real ls)))

-- an event tells the end of i
abbrev pub tells : ℕ → WatchEvent → Bool
tells i (Clock wall elapsed) = false
tells i (Looked j reply terms) = is_told reply && j == i
tells i (Renewed j reply) = is_told reply && j == i
tells i (Need j until) = false
tells i Begin = false
tells i (Known j end renewable) = j == i

-- how the end of the entry was told last
abbrev pub told_after : ℕ → Origin → Lived → Turned → Origin
told_after i o l turn = if is_event_taken turn.result && tells i turn.event then l.origin else o

abbrev pub told_at : Option ℕ → Origin → Lived → Happening → Origin
told_at None o l h = o
told_at (Some i) o l (Hands turn) = told_after i o l turn
told_at (Some i) o l (Changes c) = o

abbrev pub IsNoLaterAt : TimedWorld → Option ℕ → Origin → Lived → WatchState → Type 0
IsNoLaterAt w None o l s = Unit {0}
IsNoLaterAt w (Some i) o l s = (end : ℕ) → (track_at s i).end ≡ At end → IsNoLater w s.clocks.phase end l.real o

abbrev pub AllNoLater : TimedWorld → ℕ → Origin → List Lived → Type 0
AllNoLater w k o [] = Unit {0}
AllNoLater w k o (l ∷ ls) =
    let told = told_at (stood (happened ls) k) o l l.happening in
    IsNoLaterAt w (stood (happened ls) k) told l (state_after l.happening) × AllNoLater w k told ls

-- before the first request, and the first end
abbrev pub no_origin : Origin
no_origin = record { since = 0; over = 0 }

-- with an honest clock, and replies that are true of an entry, no end of it that a watch believes in comes later than the real one,
-- but for what the clock has lagged since the broker read the request whose reply told that end
abbrev pub NeverPastLaw : Type 0
NeverPastLaw = (w : TimedWorld) → IsHonest w → (g : Forest) (width k real : ℕ) (ls : List Lived) → AreLivedFrom w k (opened g width) 0 0 real ls → AllNoLater w k no_origin ls
