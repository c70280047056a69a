-- Patience: how long a request may take, and when a part of the broker counts as silent. The laws are the contract of a public function without
-- a body.
-- Source: this project's own.
use Rattle.std.specs.Prelude.{◌≡◌, ◌⊎◌, ◌↔◌, ℕ, ◌-◌, ◌*◌, ◌^◌, ◌<◌, true, false, [], ◌∷◌, Some, All, max, min}
use Rattle.watch_machine.specs.{declared.command.Patience.Patience, declared.command.WatchRequest.WatchRequest, declared.track.End.TheVariants.Unknown, declared.track.Try.Try, History.History, History.Turned, Sending.is_partial}
use Rattle.watch_machine.specs.{Wanted.believed}
use Rattle.watch_machine.specs.declared.command.Patience.TheVariants.{Full, AtMost}
use Rattle.watch_machine.specs.State.{WatchState, attempt_at, second, track_at}
use Rattle.watch_laws.specs.Load.{requests_at_turn}

-- an entry is alone: its try was lost though others were answered, and its end is ahead or unknown
pub record IsAloneAt (s : WatchState) (j : ℕ) : Type 0 where
  pub attempt : Try
  pub attempt_is : attempt_at s j ≡ Some attempt
  pub alone : attempt.alone ≡ true
  pub lives : ((track_at s j).end ≡ Unknown) ⊎ (second s < believed (track_at s j).end)

abbrev pub SomebodyIsAlone : WatchState → Type 0
SomebodyIsAlone s = (j : ℕ) × IsAloneAt s j

-- the broker counts as silent in part just where somebody is alone
abbrev pub AloneLaw : Type 0
AloneLaw = (s : WatchState) → (is_partial (second s) s.tracks ≡ true) ↔ SomebodyIsAlone s

-- the broker is there, or a try is a later one: it is not pressed, or has failed
abbrev pub NeedsNoHaste : WatchState → Try → Type 0
NeedsNoHaste s t = (s.presence.away ≡ false) ⊎ ((t.pressed ≡ false) ⊎ (0 < t.fails))

-- the patience of a request for a try: a quarter of a second for a first try while the broker is away; else, while somebody is alone, twice as
-- long as answers take, but a second at least, doubled by each failure of the try after the first; else all the time that there is
pub record IsPatience (s : WatchState) (t : Try) (p : Patience) : Type 0 where
  pub quick : s.presence.away ≡ true → t.pressed ≡ true → t.fails ≡ 0 → p ≡ AtMost 250
  pub partial : NeedsNoHaste s t → SomebodyIsAlone s → p ≡ AtMost (max 1000 (2 * s.presence.pace) * 2 ^ (min 20 t.fails - 1))
  pub whole : NeedsNoHaste s t → (SomebodyIsAlone s → ⊥) → p ≡ Full

-- a request goes out for the try of its entry: it asks what that asks, with that patience
pub record IsOfTry (s : WatchState) (r : WatchRequest) : Type 0 where
  pub attempt : Try
  pub attempt_is : attempt_at s r.entry ≡ Some attempt
  pub operation : r.operation ≡ attempt.operation
  pub patience : IsPatience s attempt r.patience

-- so each request that goes out at a clock
abbrev pub PatienceLaw : Type 0
PatienceLaw = (old : WatchState) (turn : Turned) → History old (turn ∷ []) → All (IsOfTry turn.state) (requests_at_turn turn.result)
