-- Turned: one turn is what its parts were. For `turn` and `turn_at`.
use Rattle.std.proofs.Common.{◌≡◌, ℕ, Bool, false, ◌||◌, IfSome, List, [], ◌∷◌, ◌++◌, Option, Some, None, ap, refl, subst, sym}
use Rattle.base_clock.specs.declared.reading.Reading.{Reading}
use Rattle.base_device.specs.Moments.{earlier}
use Rattle.vault_lanes.specs.Out as lanes
use Rattle.vault_lanes.specs.{Out.first_at, Serving.BehindLanes}
use Rattle.agent_turns.specs.{Held.ServingSide, Stages.LeftOverGoesFirst, Stages.of_stages, declared.change.AgentChange.AgentChange}
use Rattle.agent_turns.specs.Calls.{InStage, calls_after, calls_in, calls_of_answering, calls_of_reading, heard_of_want}
use Rattle.agent_turns.specs.Changes.{AllGiven, MadeChange, OneIsMade, is_one_made}
use Rattle.agent_turns.specs.Neighbours.{AllCalled, GoOn, NeighbourCall, Rest, WithCalls, calls_for_change}
use Rattle.agent_turns.specs.Turns.{IsDue, IsServingTurn, ServingTurn, turn_wait_by}
use Rattle.agent_turns.proofs.Called.{called_join, called_once}

-- no clock could be read
abbrev pub unread : ServingTurn
unread = record { reading = None; is_whole = false; made = None; is_busy = false; due = 0; rest = None; millis = 100 }

pub unread_turn : {N : Type 0} → (does : NeighbourCall → N → N → Type 0) (port : ℕ) (s : ServingSide) (n : N) → WithCalls does (IsServingTurn port s unread s) (calls_in port s unread s) n n
unread_turn does port s n = record { is = record { mid = s; hears = (refl, refl); made = refl; due = refl; waits = refl }; called = refl }

append_none : (xs : List AgentChange) → xs ++ [] ≡ xs
append_none [] = refl
append_none (x ∷ xs) = ap (λ ys. x ∷ ys) (append_none xs)

pub given_none : (a : Option (List AgentChange)) → AllGiven [] a a
given_none None = tt
given_none (Some given) = (given, (refl, sym (append_none given)))

abbrev pub turned : Reading → Bool → Option MadeChange → Bool → ℕ → Option ℕ → ℕ → ServingTurn
turned r is_whole made is_busy due rest millis = record { reading = Some r; is_whole = is_whole; made = made; is_busy = is_busy; due = due; rest = rest; millis = millis }

-- what is known of when a lane has to be looked at
pub due_known : (b : Option BehindLanes) (due until : ℕ) (out : List lanes.Out) (s : ServingSide) (r : Reading) → IfSome b (λ _. due ≡ earlier until (first_at out)) → b ≡ s.lanes.behind → until ≡ s.held.until → out ≡ s.lanes.out → IsDue (Some r) due s
due_known b due until out s r h behind same there =
    subst (λ (x : Option BehindLanes). IfSome x (λ _. due ≡ earlier s.held.until (first_at s.lanes.out))) behind
    (subst (λ (n : ℕ). IfSome b (λ _. due ≡ earlier n (first_at s.lanes.out))) same (subst (λ (os : List lanes.Out). IfSome b (λ _. due ≡ earlier until (first_at os))) there h))

module _ {N : Type 0} (does : NeighbourCall → N → N → Type 0) where
  -- they hear of what was handed in, and of a want, go on, are asked for a change, and for how long they may be left alone
  pub whole_turn :
      (port : ℕ) (r : Reading) (is_whole is_busy : Bool) (made : Option MadeChange) (due : ℕ) (rest : Option ℕ) (millis : ℕ) (old mid new : ServingSide) (a b c d e : N) →
      InStage does (LeftOverGoesFirst port r) (of_stages port r calls_of_answering (calls_of_reading r)) old is_whole mid a b → OneIsMade made mid new → IsDue (Some r) due new →
      millis ≡ turn_wait_by (is_one_made made || is_busy) is_whole new.held due rest (Some r) → AllCalled does (heard_of_want is_whole mid.held.agent) b c → does (GoOn mid.held.agent r is_busy) c d →
      AllCalled does (calls_for_change mid.held.agent r (λ change. new.held.agent) made) d e → does (Rest r.elapsed rest) e e →
      WithCalls does (IsServingTurn port old (turned r is_whole made is_busy due rest millis) new) (calls_in port old (turned r is_whole made is_busy due rest millis) new) a e
  whole_turn port r is_whole is_busy made due rest millis old mid new a b c d e goes is when waits want on change rests =
      let asks = calls_for_change mid.held.agent r (λ c. new.held.agent) made in
      let last = called_join does asks (Rest r.elapsed rest ∷ []) d e e change (called_once does (Rest r.elapsed rest) e e rests) in
      let after = called_join does (heard_of_want is_whole mid.held.agent) (GoOn mid.held.agent r is_busy ∷ (asks ++ Rest r.elapsed rest ∷ [])) b c e want (d, (on, last)) in
      record {
        is = record { mid = mid; hears = goes.is; made = is; due = when; waits = waits };
        called = called_join does (of_stages port r calls_of_answering (calls_of_reading r) old is_whole mid goes.is) (calls_after r (turned r is_whole made is_busy due rest millis) mid.held.agent new.held.agent) a b e goes.called after;
      }
