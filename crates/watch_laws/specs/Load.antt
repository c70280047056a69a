-- Load: how often an entry is asked at most, and how many requests are out at once. Each law is the contract of a public function
-- without a body.
use Rattle.std.specs.Prelude.{◌≡◌, ◌⊎◌, ◌==◌, ℕ, ◌+◌, ◌*◌, ◌≤◌, Bool, ◌&&◌, List, [], ◌∷◌, ◌++◌, Option, Some, None, Result, Ok, Err, filter, length, map, nat_le}
use Rattle.plan_forest.specs.Forest.{Forest}
use Rattle.watch_machine.specs.{declared.command.WatchCommand.WatchCommand, declared.command.WatchOutput.WatchOutput, declared.command.WatchRequest.WatchRequest, declared.event.Operation.Operation, declared.fault.WatchFault.WatchFault}
use Rattle.watch_machine.specs.{State.WatchState}
use Rattle.watch_machine.specs.declared.command.WatchCommand.TheVariants.{Go, Taken}
use Rattle.watch_machine.specs.declared.event.Operation.TheVariants.{Look, Renew}
use Rattle.watch_machine.specs.History.{Changes, Happening, Hands, IsReached, IsRun, stood}

-- a request as it went out: what was asked, and the clock in milliseconds
pub record Sent : Type 0 where
  pub operation : Operation
  pub at : ℕ

abbrev pub requests_asked_by : WatchCommand → List WatchRequest
requests_asked_by (Go requests until) = requests
requests_asked_by Taken = []

-- the requests that go out at a turn
abbrev pub requests_at_turn : Result WatchOutput WatchFault → List WatchRequest
requests_at_turn (Ok output) = requests_asked_by output.command
requests_at_turn (Err fault) = []

-- those of i
abbrev pub sent_at : ℕ → ℕ → List WatchRequest → List Sent
sent_at i at requests = map (λ r. record { operation = r.operation; at = at }) (filter (λ r. r.entry == i) requests)

-- and those of the entry that stands at k in the end, wherever it stood before; none while it was not there yet
abbrev pub sent_of_some : Option ℕ → ℕ → List WatchRequest → List Sent
sent_of_some None at requests = []
sent_of_some (Some i) at requests = sent_at i at requests

abbrev pub sent_through : ℕ → List Happening → List Sent
sent_through k [] = []
sent_through k (Hands turn ∷ hs) = sent_of_some (stood hs k) turn.state.clocks.at (requests_at_turn turn.result) ++ sent_through k hs
sent_through k (Changes c ∷ hs) = sent_through k hs

-- y goes out a second after x or later; or it is the renewal right after x, its own lookup
abbrev pub IsApart : Sent → Sent → Type 0
IsApart x y = (x.at + 1000 ≤ y.at) ⊎ ((x.at ≤ y.at) × ((x.operation ≡ Look) × (y.operation ≡ Renew)))

-- each is apart from the one before it, the first of them from x
abbrev pub AreApartFrom : Sent → List Sent → Type 0
AreApartFrom x [] = Unit {0}
AreApartFrom x (y ∷ ys) = IsApart x y × AreApartFrom y ys

abbrev pub SentAreApart : List Sent → Type 0
SentAreApart [] = Unit {0}
SentAreApart (x ∷ xs) = AreApartFrom x xs

-- two requests of an entry are a second apart by the clocks at which they go out, but for the renewal right after its own lookup
abbrev pub SpacedLaw : Type 0
SpacedLaw = (g : Forest) (width : ℕ) (hs : List Happening) → IsRun g width hs → (k : ℕ) → SentAreApart (sent_through k hs)

-- between these moments, both counted
abbrev pub is_between : ℕ → ℕ → Sent → Bool
is_between from until x = nat_le from x.at && nat_le x.at until

-- in x seconds, from whatever moment on, an entry is asked 2 (x + 1) times at most
abbrev pub LoadLaw : Type 0
LoadLaw =
    (g : Forest) (width : ℕ) (hs : List Happening) → IsRun g width hs → (k from x : ℕ) → length (filter (is_between from (from + 1000 * x)) (sent_through k hs)) ≤ 2 * (x + 1)

-- no more requests are out than the width, those of entries that are no more among them
abbrev pub WidthLaw : Type 0
WidthLaw = (s : WatchState) (reached : IsReached s) → length s.out ≤ reached.width
