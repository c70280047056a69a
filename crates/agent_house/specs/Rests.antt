-- Rests: for how long a house may be left alone, where nothing tells of one of its neighbours before.
-- Source: this project's own.
use Rattle.std.specs.Prelude.{◌≡◌, ℕ, if◌then◌else◌, Option, Some, None}
use Rattle.agent_answers.specs.{declared.control.Control.Control, declared.onlookers.Onlookers.Onlookers, Onlooking.onlookers_due}
use Rattle.base_clients.specs.Tables.{first_by}
use Rattle.base_clock.specs.Rests.{rest_until, shorter}
use Rattle.agent_ends.specs.declared.file.EndsFile.{EndsFile}
use Rattle.agent_ledger.specs.Keeping.{KeepCall, RestFor}
use Rattle.agent_log.specs.Wants.{log_rest}
use Rattle.agent_house.specs.declared.house.House.{House}

-- until the first of the clients is sent away, which has not sent its request or read its answer
abbrev pub clients_rest : {T D : Type 0} → ℕ → Option (Control T D) → Option ℕ
clients_rest now None = None
clients_rest now (Some control) = rest_until (first_by control.clients.guests) now

-- until the first of the onlookers is sent away, or the rest is over after which one of them is answered
abbrev pub onlookers_rest : {T D : Type 0} → ℕ → Option (Onlookers T D) → Option ℕ
onlookers_rest now None = None
onlookers_rest now (Some onlookers) = rest_until (onlookers_due onlookers) now

-- until the file of the ends is written that is stale
abbrev pub ends_rest : {E : Type 0} → ℕ → Option (EndsFile E) → Option ℕ
ends_rest now None = None
ends_rest now (Some ends) = rest_until (if ends.is_stale then Some ends.next else None) now

-- whoever keeps changes says so
abbrev pub KeeperRests : {K : Type 0} → (KeepCall → K → K → Type 0) → ℕ → Option ℕ → Option K → Type 0
KeeperRests does now rest None = rest ≡ None
KeeperRests does now rest (Some keeper) = does (RestFor now rest) keeper keeper

-- as long as each of them may
pub record Rests {S T D K E : Type 0} (does : KeepCall → K → K → Type 0) (now : ℕ) (rest : Option ℕ) (h : House S T D K E) : Type 0 where
  pub kept : Option ℕ
  pub keeper : KeeperRests does now kept h.state
  pub shortest : rest ≡ shorter (shorter (log_rest h.desk) (shorter (clients_rest now h.control) (onlookers_rest now h.onlookers))) (shorter kept (ends_rest now h.ends))
