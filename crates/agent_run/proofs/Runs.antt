-- Runs: a start that does not wait is one of no pauses; and turns follow a wait over the same lanes. For `run_from` and its parts.
use Rattle.std.proofs.Common.{◌≡◌, ℕ, List, [], Option, Some, None, length, refl, subst}
use Rattle.std.proofs.lemmas.List.Elements.{All-nil}
use Rattle.vault_asking.specs.Sending.{Lanes}
use Rattle.base_clock.proofs.Joined.{none_law}
use Rattle.base_clock.specs.Seen.{AllMade, ClockSeen}
use Rattle.agent_turns.proofs.Turned.{given_none}
use Rattle.agent_turns.specs.{Calls.calls_of, Changes.AllGiven, Turns.ServingTurn, declared.change.AgentChange.AgentChange, declared.waiting.Wait.Wait}
use Rattle.agent_turns.specs.Apart.{IsPause, IsWaitedApart, Spent, Waited, all_called, all_clocked, all_given}
use Rattle.agent_turns.specs.Held.{Held, ServingSide, serving_side}
use Rattle.agent_turns.specs.Neighbours.{AllCalled, NeighbourCall, WithCalls}
use Rattle.agent_turns.specs.Runs.{AreTurns, all_calls, all_changes}
use Rattle.agent_run.specs.Running.{MOST, MakesTurns, RunsFrom, WaitsFirst}

module _ {N : Type 0} (does : NeighbourCall → N → N → Type 0) (given : N → Option (List AgentChange)) where
  pub waits_not : (s : ServingSide) (clock : ClockSeen) (n : N) → WaitsFirst does given None s s clock clock n n
  waits_not s clock n =
      record {
        waited = record { pauses = []; ending = Spent };
        is = record { pauses = All-nil (IsPause 0); last = s.held.agent; shows = refl; shows_at = tt; after = refl; ends = refl };
        clocked = none_law clock;
        gives = given_none (given n);
        called = refl;
      }

  pub waits_so :
      (w : Wait) (old new : ServingSide) (clock later : ClockSeen) (before after : N) →
      ((waited : Waited) × (IsWaitedApart w.until MOST w.shown.agent old waited new × (AllMade (all_clocked waited) clock later × (AllGiven (all_given waited) (given before) (given after) × AllCalled does (all_called old.held.agent new.held.agent waited) before after)))) →
      WaitsFirst does given (Some w) old new clock later before after
  waits_so w old new clock later before after h = record { waited = h.0; is = h.1.0; clocked = h.1.1.0; gives = h.1.1.1.0; called = h.1.1.1.1 }

  abbrev Turns : ℕ → ServingSide → ServingSide → ClockSeen → ClockSeen → N → N → Type 0
  Turns port old new clock later before after =
      (ts : List ServingTurn) × ((length ts ≡ MOST) × (WithCalls does (AreTurns port old ts new) (calls_of port old ts new) before after × (AllMade (all_calls ts) clock later × AllGiven (all_changes ts) (given before) (given after))))

  turns_made : (port : ℕ) (old new : ServingSide) (clock later : ClockSeen) (before after : N) → Turns port old new clock later before after → MakesTurns does given port old new clock later before after
  turns_made port old new clock later before after h = record { turns = h.0; count = h.1.0; are = h.1.1.0; clocked = h.1.1.1.0; gives = h.1.1.1.1 }

  pub runs_from :
      {C L : Type 0} → (clock_seen : C → ClockSeen) (seen : L → Lanes) (port : L → ℕ) (wait : Option Wait) (serving begun last : Held) (lanes lanes_begun lanes_after : L) (clock clock_begun clock_after : C) (before mid after : N) →
      WaitsFirst does given wait (serving_side serving (seen lanes)) (serving_side begun (seen lanes_begun)) (clock_seen clock) (clock_seen clock_begun) before mid →
      port lanes_begun ≡ port lanes → Turns (port lanes_begun) (serving_side begun (seen lanes_begun)) (serving_side last (seen lanes_after)) (clock_seen clock_begun) (clock_seen clock_after) mid after →
      RunsFrom does given clock_seen seen port wait serving lanes clock before lanes_after clock_after after
  runs_from clock_seen seen port wait serving begun last lanes lanes_begun lanes_after clock clock_begun clock_after before mid after waits same turns =
      let old = serving_side begun (seen lanes_begun) in
      let new = serving_side last (seen lanes_after) in
      record {
        begun = old;
        last = last;
        clock_begun = clock_seen clock_begun;
        mid = mid;
        waits = waits;
        turns = subst (λ p. MakesTurns does given p old new (clock_seen clock_begun) (clock_seen clock_after) mid after) same
            (turns_made (port lanes_begun) old new (clock_seen clock_begun) (clock_seen clock_after) mid after turns);
      }
