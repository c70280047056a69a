-- Presses: what a clock makes of an entry whose time has come, of one that a round names, and of one that is wanted no more. The law is the
-- contract of a public function without a body.
-- Source: this project's own.
use Rattle.std.specs.Prelude.{◌≡◌, ◌⊎◌, ℕ, ◌+◌, ◌<◌, true, false, if◌then◌else◌, List, [], ◌∷◌, Option, Some, None, length, max}
use Rattle.watch_machine.specs.{declared.track.Try.Try, Beginning.is_pressed, History.History, History.Turned, Wanted.is_alive, Wanted.is_wanted}
use Rattle.watch_machine.specs.declared.event.Operation.TheVariants.{Look, Renew}
use Rattle.watch_machine.specs.State.{WatchState, attempt_at, second, track_at}
use Rattle.watch_laws.specs.Clocks.{IsClock}
use Rattle.watch_laws.specs.Time.{is_come, is_named_in_round, round_of}

-- the moment from which an entry may be asked again that was last asked at such a clock, or never
abbrev pub asked_again_at : Option ℕ → ℕ
asked_again_at None = 0
asked_again_at (Some last) = last + 1000

-- the try u of an entry that is pressed at a clock: it may go out now, or a second after the entry was last asked; it asks for a renewal where
-- the end is ahead, else for a lookup; a grant counts from now; and it has not failed
pub record IsPressedNow (old new : WatchState) (i : ℕ) (u : Try) : Type 0 where
  pub at : u.at ≡ max new.clocks.at (asked_again_at (track_at old i).last)
  pub operation : u.operation ≡ (if is_alive (second new) (track_at new i) then Renew else Look)
  pub pressed : u.pressed ≡ true
  pub base : u.base ≡ Some new.clocks.at
  pub fails : u.fails ≡ 0

abbrev pub HasPressed : WatchState → WatchState → ℕ → Type 0
HasPressed old new i = (u : Try) × ((attempt_at new i ≡ Some u) × IsPressedNow old new i u)

-- an entry has to be asked at such a clock: it was not out before, and it is wanted and its time has come, or the round names it
abbrev pub HasToBeAsked : WatchState → WatchState → Option (List ℕ) → ℕ → Type 0
HasToBeAsked old new round i = ((track_at old i).out ≡ false) × (((is_wanted new i ≡ true) × (is_come new i ≡ true)) ⊎ (is_named_in_round round i ≡ true))

-- a try is another one, but for when it may go out, and for what that is told by
pub record IsSameTry (t u : Try) : Type 0 where
  pub operation : u.operation ≡ t.operation
  pub pressed : u.pressed ≡ t.pressed
  pub base : u.base ≡ t.base
  pub fails : u.fails ≡ t.fails
  pub lost : u.lost ≡ t.lost

abbrev pub KeepsTry : WatchState → ℕ → Try → Type 0
KeepsTry new i t = (u : Try) × ((attempt_at new i ≡ Some u) × IsSameTry t u)

-- at a clock, of the entries that are not out: each that is wanted, whose time has come, and that is not pressed, is pressed; so is each that
-- a round names, also where its own time has not come. No other entry comes to be pressed. Whoever was pressed and is wanted keeps its try, out
-- or not; and of one that was pressed, is wanted no more, and not named, no more is left than the lookup that it owes, if any
pub record PressLaw : Type 0 where
  pub come :
      (old : WatchState) (turn : Turned) (wall elapsed i : ℕ) → History old (turn ∷ []) → IsClock wall elapsed turn → i < length old.tracks → (track_at old i).out ≡ false → is_pressed (track_at old i) ≡ false →
      is_wanted turn.state i ≡ true → is_come turn.state i ≡ true → HasPressed old turn.state i
  pub named :
      (old : WatchState) (turn : Turned) (wall elapsed i : ℕ) → History old (turn ∷ []) → IsClock wall elapsed turn → i < length old.tracks → (track_at old i).out ≡ false →
      is_named_in_round (round_of turn.result) i ≡ true → HasPressed old turn.state i
  pub only :
      (old : WatchState) (turn : Turned) (wall elapsed i : ℕ) → History old (turn ∷ []) → IsClock wall elapsed turn → is_pressed (track_at old i) ≡ false → is_pressed (track_at turn.state i) ≡ true →
      HasToBeAsked old turn.state (round_of turn.result) i
  pub kept :
      (old : WatchState) (turn : Turned) (wall elapsed i : ℕ) (t : Try) → History old (turn ∷ []) → IsClock wall elapsed turn → attempt_at old i ≡ Some t → t.pressed ≡ true → is_wanted turn.state i ≡ true →
      KeepsTry turn.state i t
  pub dropped :
      (old : WatchState) (turn : Turned) (wall elapsed i : ℕ) (u : Try) → History old (turn ∷ []) → IsClock wall elapsed turn → (track_at old i).out ≡ false → is_wanted turn.state i ≡ false →
      is_named_in_round (round_of turn.result) i ≡ false → attempt_at turn.state i ≡ Some u → (u.pressed ≡ false) × (((track_at turn.state i).owes ≡ true) ⊎ (is_pressed (track_at old i) ≡ false))
