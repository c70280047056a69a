-- Absence: how the broker is spared while it is away. Each law is the contract of a public function without a body.
-- Source: this project's own.
use Rattle.std.specs.Prelude.{◌≡◌, ℕ, ◌+◌, ◌≤◌, Bool, true, false, not, List, [], ◌∷◌, ◌++◌, Option, Some, None, Result, Ok, Err, filter, length}
use Rattle.std.specs.List.{list_any}
use Rattle.watch_machine.specs.{declared.command.WatchOutput.WatchOutput, declared.command.WatchRequest.WatchRequest, declared.event.WatchEvent.WatchEvent, declared.fault.WatchFault.WatchFault, declared.track.Try.Try, Lines.is_first}
use Rattle.watch_machine.specs.{Settling.is_silent, State.WatchState, State.attempt_at}
use Rattle.watch_machine.specs.declared.event.WatchEvent.TheVariants.{Clock, Looked, Renewed, Need, Begin, Known}
use Rattle.watch_machine.specs.History.{AllHappen, Changes, Happening, Hands, IsReached, Turned, state_after, state_after_all}
use Rattle.watch_laws.specs.Load.{requests_at_turn}

-- the broker is away after all of this
abbrev pub AllAway : List Happening → Type 0
AllAway [] = Unit {0}
AllAway (h ∷ hs) = ((state_after h).presence.away ≡ true) × AllAway hs

-- a clock that was taken
abbrev pub is_clock : WatchEvent → Bool
is_clock (Clock wall elapsed) = true
is_clock (Looked i reply terms) = false
is_clock (Renewed i reply) = false
is_clock (Need i until) = false
is_clock Begin = false
is_clock (Known i end renewable) = false

abbrev pub is_event_taken : Result WatchOutput WatchFault → Bool
is_event_taken (Ok output) = true
is_event_taken (Err fault) = false

-- a clock sets the hold anew: the broker is away, a request had no answer since the last clock, and the hold so far is over
pub record Sets (old : WatchState) (turn : Turned) : Type 0 where
  pub clock : is_clock turn.event ≡ true
  pub taken : is_event_taken turn.result ≡ true
  pub away : old.presence.away ≡ true
  pub silent : list_any is_silent old.answers ≡ true
  pub over : old.presence.hold ≤ turn.state.clocks.at

-- while the broker is away, two settings of the hold are a second apart or more
abbrev pub HeldLaw : Type 0
HeldLaw =
    (old : WatchState) (first next : Turned) (between : List Happening) → AllHappen old (Hands first ∷ (between ++ Hands next ∷ [])) → AllAway (Hands first ∷ between) → Sets old first →
    Sets (state_after_all first.state between) next → first.state.clocks.at + 1000 ≤ next.state.clocks.at

-- a request is a later try: one that failed before, or that only owes a lookup
abbrev pub is_later_try : Option Try → Bool
is_later_try None = false
is_later_try (Some t) = not (is_first t)

abbrev pub is_later : WatchState → WatchRequest → Bool
is_later s r = is_later_try (attempt_at s r.entry)

-- how many later tries go out
abbrev pub laters : List Happening → ℕ
laters [] = 0
laters (Hands turn ∷ hs) = length (filter (is_later turn.state) (requests_at_turn turn.result)) + laters hs
laters (Changes c ∷ hs) = laters hs

-- no turn sets the hold
abbrev pub NoneSets : WatchState → List Happening → Type 0
NoneSets old [] = Unit {0}
NoneSets old (Hands turn ∷ hs) = (Sets old turn → ⊥) × NoneSets turn.state hs
NoneSets old (Changes c ∷ hs) = NoneSets c.state hs

-- while the broker is away, no more later tries than the width go out until the hold is set anew. A change adds none: each that goes out keeps its
-- lane, also where its entry is no more
abbrev pub SparedLaw : Type 0
SparedLaw = (old : WatchState) (hs : List Happening) → IsReached old → AllHappen old hs → old.presence.away ≡ true → AllAway hs → NoneSets old hs → laters hs ≤ old.width
