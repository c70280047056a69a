-- Lookups: the lookups that go out, each of an entry that a scout finds.
-- Source: this project's own.
use Rattle.std.specs.Prelude.{◌≡◌, ◌⊎◌, ℕ, zero, suc, Option, Some, None}
use Rattle.agent_standing.specs.Agent.{Agent}
use Rattle.vault_asking.specs.Sending.{GoesOut, Lanes}
use Rattle.base_clock.specs.declared.reading.Reading.{Reading}
use Rattle.watch_machine.specs.{declared.command.Patience.TheVariants.Full, declared.command.WatchRequest.WatchRequest, declared.event.Operation.TheVariants.Look, Clocks.second_of_wall}
use Rattle.watch_scout.specs.{Hearing.freed, Looking.found, State.ScoutState}

-- a scout, and the lanes over which it looks
pub record Side : Type 0 where
  pub scout : ScoutState
  pub lanes : Lanes

abbrev pub side : ScoutState → Lanes → Side
side scout lanes = record { scout = scout; lanes = lanes }

-- ---- one entry

-- its lookup, which may take as long as any request
abbrev pub look_at : ℕ → WatchRequest
look_at i = record { entry = i; operation = Look; patience = Full }

-- it goes out on a lane, with the credentials of what is served
pub record IsSent (port : ℕ) (a : Agent) (r : Reading) (i : ℕ) (old new : Side) : Type 0 where
  pub out : GoesOut port a.inventory a.machine (second_of_wall r.wall) r.elapsed (look_at i) old.lanes new.lanes
  pub scout : new.scout ≡ old.scout

-- memory is wanting for it: the scout takes it for lost
pub record IsUnsent (i : ℕ) (old new : Side) : Type 0 where
  pub out : new.lanes.out ≡ old.lanes.out
  pub seconds : new.lanes.seconds ≡ old.lanes.seconds
  pub scout : new.scout ≡ freed old.scout i

abbrev pub IsLookedUp : ℕ → Agent → Reading → ℕ → Side → Side → Type 0
IsLookedUp port a r i old new = IsSent port a r i old new ⊎ IsUnsent i old new

-- ---- one after another

abbrev pub ByFound : Option ℕ → Type 0 → (ℕ → Type 0) → Type 0
ByFound None stops goes_on = stops
ByFound (Some i) stops goes_on = goes_on i

-- the scout after it was asked for the first entry from an index on
abbrev pub asked_from : Agent → ℕ → Side → Side
asked_from a from s = record s { scout = (found s.scout a.machine from).state }

-- n at most: each is the first that the scout finds from the one before on, which it does not find again
abbrev pub AreLookedUp : ℕ → Agent → Reading → ℕ → ℕ → Side → Side → Type 0
AreLookedUp port a r zero from old new = new ≡ old
AreLookedUp port a r (suc n) from old new =
    ByFound (found old.scout a.machine from).entry (new ≡ asked_from a from old)
    (λ i. (mid : Side) × (IsLookedUp port a r i (asked_from a from old) mid × AreLookedUp port a r n i mid new))
