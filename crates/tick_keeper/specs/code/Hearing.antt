-- Hearing: words for the code of an answer. No public clause cites them.
-- Source: this project's own.
use Rattle.std.specs.Prelude.{◌==◌, ℕ, ◌+◌, Bool, false, ◌&&◌, List, [], Option, Some, None}
use Rattle.plan_forest.specs.{declared.entry.Entry.Entry, Renewal.renewal}
use Rattle.tick_keeper.specs.{declared.event.Event.Event, declared.event.Event.TheVariants.Told, State.CoreState, State.Round}
use Rattle.tick_keeper.specs.Step.{entry_of_event, left, state_after_answer, without_index}

-- whether an answer to a round at this moment gives its entry the rule's end and leaves it renewable
unfoldable pub is_rules : ℕ → Event → Entry → Bool
is_rules at (Told i seconds renewable) e = renewable && (at + seconds == renewal e at)
is_rules at event e = false

-- who is waited for once this entry has answered: nobody, where no round is open
abbrev pub others : Option Round → ℕ → List ℕ
others None i = []
others (Some round) i = without_index i round.unanswered

-- the state after one answer more to the round, where one is open; it stays open
abbrev pub heard_in_round : Option Round → CoreState → Event → CoreState
heard_in_round None s event = s
heard_in_round (Some round) s event = state_after_answer s event round.at (Some (left round (entry_of_event event)))
