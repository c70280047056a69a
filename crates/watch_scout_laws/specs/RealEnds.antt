-- RealEnds: no end that an agent behind another believes in comes after the real one. Each law is the contract of a public function without
-- a body.
-- Source: this project's own, over Vault, HTTP API: `auth/token`, "Lookup a token (self)"; `sys/leases`, "Read lease".
use Rattle.std.specs.Prelude.{◌≡◌, ℕ, ◌+◌, ◌≤◌, Bool, List, [], ◌∷◌, Option, Some, None}
use Rattle.plan_forest.specs.Forest.{Forest}
use Rattle.watch_machine.specs.{declared.event.WatchEvent.WatchEvent, declared.event.WatchEvent.TheVariants.Known, declared.event.WatchReply.WatchReply, State.WatchState, State.opened}
use Rattle.watch_machine.specs.History.{Changes, Happening, Happens, Hands, state_after, stood}
use Rattle.watch_laws.specs.Ends.{AllNoLater, IsHonest, IsNoLater, IsTrueEvent, IsTrueReading, IsTrueReply, Lived, Origin, TimedWorld, asked_at, happened, no_origin}
use Rattle.watch_scout.specs.{Hearing.event_of, State.ScoutState, State.seen_at}

-- the clock at which a lookup went out was shown at that moment, or earlier
abbrev pub IsSinceBy : Option ℕ → ℕ → Type 0
IsSinceBy None shown = Unit {0}
IsSinceBy (Some since) shown = since ≤ shown

-- an end of i that a scout hands in was told by a true reply: the lookup went out at a moment, and the reply was true of that
pub record IsHeardTruly (w : TimedWorld) (v : WatchState) (i end : ℕ) (renewable : Bool) (real : ℕ) (o : Origin) : Type 0 where
  pub scout : ScoutState
  pub reply : WatchReply
  pub asked : ℕ
  pub since : IsSinceBy (seen_at scout i).since (w.reading asked + v.clocks.phase)
  pub so : IsTrueReply asked real o reply
  pub event : event_of scout v i reply ≡ Some (Known i end renewable)

-- such an end comes no later than the real one
abbrev pub HarmlessLaw : Type 0
HarmlessLaw =
    (w : TimedWorld) → IsHonest w → (v : WatchState) (i end : ℕ) (renewable : Bool) (real : ℕ) (o : Origin) → IsHeardTruly w v i end renewable real o → IsNoLater w v.clocks.phase end real o

-- an event was true of i, as for any watch; but an end that is known was told by its scout
abbrev pub IsTrueBehind : TimedWorld → ℕ → ℕ → WatchState → Lived → WatchEvent → Type 0
IsTrueBehind w i asked s l (Known j end renewable) = j ≡ i → IsHeardTruly w s i end renewable l.real l.origin
IsTrueBehind w i asked s l event = IsTrueEvent w i asked s l event

abbrev pub IsTrueThere : TimedWorld → Option ℕ → ℕ → WatchState → Lived → Happening → Type 0
IsTrueThere w None asked s l (Hands turn) = IsTrueReading w l.at turn.event
IsTrueThere w (Some i) asked s l (Hands turn) = IsTrueBehind w i asked s l turn.event
IsTrueThere w e asked s l (Changes c) = Unit {0}

-- what was lived behind another
abbrev pub AreLivedBehind : TimedWorld → ℕ → WatchState → ℕ → ℕ → ℕ → List Lived → Type 0
AreLivedBehind w k s last asked real [] = Unit {0}
AreLivedBehind w k s last asked real (l ∷ ls) =
    Happens s l.happening × ((last ≤ l.at) × (IsTrueThere w (stood (happened ls) k) asked s l l.happening × ((real ≤ l.real)
    × AreLivedBehind w k (state_after l.happening) l.at (asked_at (stood (happened ls) k) asked l l.happening) l.real ls)))

abbrev pub BehindLaw : Type 0
BehindLaw =
    (w : TimedWorld) → IsHonest w → (g : Forest) (width k real : ℕ) (ls : List Lived) → AreLivedBehind w k (opened g width) 0 0 real ls → AllNoLater w k no_origin ls
