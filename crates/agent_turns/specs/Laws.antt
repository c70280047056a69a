-- Laws: what holds of all turns. The contract of a public function without a body.
-- Source: this project's own.
use Rattle.std.specs.Prelude.{◌≡◌, ℕ, ◌+◌, ◌-◌, ◌≤◌, true, List, Some, IfSome, length}
use Rattle.std.specs.List.{All}
use Rattle.base_clock.specs.declared.reading.Reading.{Reading}
use Rattle.watch_machine.specs.{State.WatchState, declared.command.WatchRequest.WatchRequest}
use Rattle.watch_machine.specs.History.{AllHappen, Happening, state_after_all}
use Rattle.agent_turns.specs.{Calls.calls_in, Happenings.happenings_of, Runs.AreTurns}
use Rattle.agent_turns.specs.Held.{Held, IsInStep, ServingSide}
use Rattle.agent_turns.specs.Turns.{IsServingTurn, ServingTurn, longest_wait}
use Rattle.agent_turns.specs.Words.{AllAreWordsOf, AllFollow, Suffices, Words}

-- what happens to a Watch leads from the one state to the other
abbrev pub Lead : WatchState → List Happening → WatchState → Type 0
Lead old happenings new = AllHappen old happenings × (state_after_all old happenings ≡ new)

-- in turns the Watch was handed what the readings, the answers, the needs, the beginnings and the known ends say, and watched the forest of
-- each other inventory that was served, in their order, and nothing else was done to it: so each law of all that may happen holds of what
-- happened in these very turns, whatever the neighbours do
abbrev pub StretchLaw : Type 0
StretchLaw = (port : ℕ) (old new : ServingSide) (turns : List ServingTurn) (are : AreTurns port old turns new) → Lead old.held.agent.machine (happenings_of port old turns new are) new.held.agent.machine

-- turns for which memory sufficed are what follows from words: their readings and changes, and the answers that came in them
abbrev pub WordsLaw : Type 0
WordsLaw =
    (port : ℕ) (old new : ServingSide) (turns : List ServingTurn) → AreTurns port old turns new → All Suffices turns →
    (words : List Words) × ((sent : List (List WatchRequest)) × (AllAreWordsOf turns words × AllFollow words old.held sent new.held))

-- and from the same words and the same beginning the same follows: the requests that go out in each turn, and what is held after it
abbrev pub OneWayLaw : Type 0
OneWayLaw = (words : List Words) (old a b : Held) (sent out : List (List WatchRequest)) → AllFollow words old sent a → AllFollow words old out b → (out ≡ sent) × (b ≡ a)

-- a turn waits no longer than the longest wait by the margin that is served, and where the time was handed in never past the Watch's
-- moment, nor longer than the neighbours may be left alone
abbrev pub TurnWaitLaw : Type 0
TurnWaitLaw =
    (port : ℕ) (old new : ServingSide) (t : ServingTurn) → IsServingTurn port old t new →
    (t.millis ≤ longest_wait new.held.agent.inventory.forest.margin)
    × ((r : Reading) → t.reading ≡ Some r → t.is_whole ≡ true → (t.millis ≤ new.held.until - r.elapsed) × IfSome t.rest (λ rest. t.millis ≤ rest))

-- and it calls its neighbours six times at most, and once more where memory was wanting, and once more for each answer of which they
-- hear, of which there is one for each lane at most
abbrev pub CallsLaw : Type 0
CallsLaw =
    (port width : ℕ) (old new : ServingSide) (t : ServingTurn) (is : IsServingTurn port old t new) → IsInStep width old.lanes.out old.held →
    (length (calls_in port old t new is) ≤ width + 7) × (t.is_whole ≡ true → length (calls_in port old t new is) ≤ width + 6)
