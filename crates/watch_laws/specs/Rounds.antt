-- Rounds: when a round opens and whom it names, in calm or not. Each law is the contract of a public function without a body.
-- Source: this project's own, over Vault, "Lease, renew, and revoke".
use Rattle.std.specs.Prelude.{◌≡◌, ℕ, ◌<◌, ◌≤◌, Bool, true, false, not, ◌&&◌, ◌||◌, if◌then◌else◌, List, [], ◌∷◌, Option, Some, None, is_some, length, map}
use Rattle.std.specs.List.{range_with_len}
use Rattle.plan_forest.specs.{declared.entry.Entry.Entry, Carried.carried, Forest.Forest, Push.IsForest, Renewal.renewal}
use Rattle.plan_rule.specs.{Asks.asks, Forced.bound, Schedule.IsNextMoment}
use Rattle.watch_machine.specs.{Beginning.is_pressed, History.History, History.Turned}
use Rattle.watch_machine.specs.State.{WatchState, second, track_at}
use Rattle.watch_machine.specs.Wanted.{is_alive, is_unknown, is_wanted}
use Rattle.watch_laws.specs.{Clocks.IsClock, Time.is_come, Time.round_of}
use Rattle.watch_laws.specs.Calm.{ends, in_plan_at, lead_at, terms}

-- an entry opens a round at a clock that finds one state and leaves another: it is wanted, in the plan, its time has come, its end is ahead,
-- and it was neither pressed nor out before
pub record IsOpener (old new : WatchState) (i : ℕ) : Type 0 where
  pub within : i < length new.forest.entries
  pub wanted : is_wanted new i ≡ true
  pub in_plan : in_plan_at new i ≡ true
  pub come : is_come new i ≡ true
  pub alive : is_alive (second new) (track_at new i) ≡ true
  pub unpressed : is_pressed (track_at old i) ≡ false
  pub unasked : (track_at old i).out ≡ false

-- a round opens just at a clock at which there is such an entry
pub record RoundLaw : Type 0 where
  pub only : (old : WatchState) (turn : Turned) (asked : List ℕ) → History old (turn ∷ []) → round_of turn.result ≡ Some asked → (i : ℕ) × IsOpener old turn.state i
  pub opens :
      (old : WatchState) (turn : Turned) (wall elapsed i : ℕ) → History old (turn ∷ []) → IsClock wall elapsed turn → IsOpener old turn.state i → is_some (round_of turn.result) ≡ true

-- at a clock that finds one state and leaves another, a round can't ask an entry that is wanted: it is outside the plan, its end is
-- unknown, or it was being asked before, pressed or out. So there is hope that it is renewed without
abbrev pub is_hoped_for : WatchState → WatchState → ℕ → Bool
is_hoped_for old new i = is_wanted new i && (not (in_plan_at new i) || (is_unknown (track_at new i).end || (is_pressed (track_at old i) || (track_at old i).out)))

-- the forest as it is believed, if a renewal leads no entry further than its last grant
unfoldable pub granted_terms : WatchState → ℕ → Entry
granted_terms s i = record (terms s i) { step = lead_at s i }

unfoldable pub granted_forest : WatchState → Forest
granted_forest s = record { entries = map (granted_terms s) (range_with_len 0 (length s.forest.entries)); margin = s.forest.margin }

-- its ends, if whoever is hoped for has just been renewed. Any other entry ends as it is believed to
abbrev pub hoped_ends : WatchState → WatchState → ℕ → ℕ
hoped_ends old new i = if is_hoped_for old new i then renewal (granted_terms new i) (second new) else ends new i

-- the moment of the round after one that opens now, None where none is needed
abbrev pub IsRoundAfter : List Entry → ℕ → ℕ → (ℕ → ℕ) → Option ℕ → Type 0
IsRoundAfter es margin now e (Some t) = IsNextMoment es margin now e (Some now) t
IsRoundAfter es margin now e None = (i : ℕ) → carried es now i ≤ bound es e (Some now) i

-- these are the Asks of a round of a forest that opens now
abbrev pub AreAsks : Forest → ℕ → (ℕ → ℕ) → List ℕ → Type 0
AreAsks g now e asked = (next : Option ℕ) × (IsRoundAfter g.entries g.margin now e next × (asked ≡ asks g.entries g.margin now e now next))

-- at every clock at which a round opens, it names just the Asks of that forest by these ends
abbrev pub AsksLaw : Type 0
AsksLaw =
    (old : WatchState) (turn : Turned) (asked : List ℕ) → IsForest old.forest → History old (turn ∷ []) → round_of turn.result ≡ Some asked →
    AreAsks (granted_forest turn.state) (second turn.state) (hoped_ends old turn.state) asked

-- what is believed of an entry that is hoped for is no matter, if it is not at its top. The end of one at its top limits whoever it is over
abbrev pub is_hidden : WatchState → WatchState → ℕ → Bool
is_hidden old new i = is_hoped_for old new i && not (track_at new i).top

-- two clocks find the same of an entry: it is hoped for at both, or at neither, and so is its being at its top then; a renewal leads it as far;
-- and where that is a matter, as much is believed of it
pub record FindSame (old new old' new' : WatchState) (i : ℕ) : Type 0 where
  pub hoped : is_hoped_for old new i ≡ is_hoped_for old' new' i
  pub hidden : is_hidden old new i ≡ is_hidden old' new' i
  pub lead : lead_at new i ≡ lead_at new' i
  pub end : is_hidden old new i ≡ false → (track_at new i).end ≡ (track_at new' i).end
  pub renewable : is_hidden old new i ≡ false → (track_at new i).renewable ≡ (track_at new' i).renewable
  pub top : is_hidden old new i ≡ false → (track_at new i).top ≡ (track_at new' i).top
  pub last_try : is_hidden old new i ≡ false → (track_at new i).last_try ≡ (track_at new' i).last_try

-- and of all entries, in the same second of clocks that are set the same
pub record FindAllSame (old new old' new' : WatchState) : Type 0 where
  pub forest : new.forest ≡ new'.forest
  pub broker : new.clocks.broker ≡ new'.clocks.broker
  pub wall : new.clocks.wall ≡ new'.clocks.wall
  pub now : second new ≡ second new'
  pub each : (i : ℕ) → FindSame old new old' new' i

-- what is believed of whoever is hoped for and not at its top, and why it is, changes no round: neither whether one opens nor whom it names
abbrev pub HopeLaw : Type 0
HopeLaw =
    (old old' : WatchState) (turn turn' : Turned) (wall elapsed wall' elapsed' : ℕ) → IsForest old.forest → History old (turn ∷ []) → History old' (turn' ∷ []) → IsClock wall elapsed turn → IsClock wall' elapsed' turn' →
    FindAllSame old turn.state old' turn'.state → round_of turn.result ≡ round_of turn'.result
