-- Sending: requests go out on lanes.
-- Source: this project's own.
use Rattle.std.specs.Prelude.{◌≡◌, ℕ, List, [], ◌∷◌, Option}
use Rattle.vault_inventory.specs.Inventories.{Inventory}
use Rattle.vault_lanes.specs.Out as lanes
use Rattle.vault_lanes.specs.Serving.{BehindLanes, RequestIsSent}
use Rattle.watch_machine.specs.{declared.command.WatchRequest.WatchRequest, State.WatchState}
use Rattle.vault_asking.specs.Asking.{ask_of}

-- lanes: what is behind them, where it is known; the requests that are out, by rising index; and their time-out in seconds
pub record Lanes : Type 0 where
  pub behind : Option BehindLanes
  pub out : List lanes.Out
  pub seconds : ℕ

abbrev pub lanes_of : Option BehindLanes → List lanes.Out → ℕ → Lanes
lanes_of behind out seconds = record { behind = behind; out = out; seconds = seconds }

-- the request goes out on a lane, at that moment of the wall and of the elapsed clock
pub record GoesOut (port : ℕ) (s : Inventory) (m : WatchState) (t now : ℕ) (r : WatchRequest) (old new : Lanes) : Type 0 where
  pub sent : RequestIsSent old.seconds t now (ask_of port s m r) old.behind old.out new.behind new.out
  pub seconds : new.seconds ≡ old.seconds

-- requests go out one after another
abbrev pub GoOut : ℕ → Inventory → WatchState → ℕ → ℕ → List WatchRequest → Lanes → Lanes → Type 0
GoOut port s m t now [] old new = new ≡ old
GoOut port s m t now (r ∷ rest) old new = (mid : Lanes) × (GoesOut port s m t now r old mid × GoOut port s m t now rest mid new)
