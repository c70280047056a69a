-- Tries: how often the log's reader is tried in a turn. For `a_turn_tries_the_reader_little`.
use Rattle.std.proofs.Common.{ℕ, ◌+◌, ◌*◌, ◌≤◌, List, [], ◌∷◌, ap, arith}
use Rattle.agent_turns.specs.Calls.{calls_in}
use Rattle.agent_turns.specs.Neighbours.{AllCalled, Give, GoOn, Hear, NeighbourCall, Rest, Settle}
use Rattle.agent_laws.specs.Tried.{IsTriedLittle}
use Rattle.agent_laws.proofs.Reached.{DoesToReader}
use Rattle.agent_laws.proofs.Weighed.{goes, goes_once, weight}

module _ {S H : Type 0} (does : NeighbourCall → H → H → Type 0) (tries : S → ℕ) (reader : H → S) (by : (call : NeighbourCall) (old new : H) → does call old new → DoesToReader tries call (reader old) (reader new)) where
  tries_of : (calls : List NeighbourCall) (old new : H) → AllCalled does calls old new → tries (reader new) ≤ tries (reader old) + 16 * weight goes calls
  tries_of [] old new h = (let same = ap (λ (x : H). tries (reader x)) h in omega (arith, same))
  tries_of (Hear agent thing ∷ rest) old new h = (let same = ap tries (by (Hear agent thing) old h.0 h.1.0) in let more = tries_of rest h.0 new h.1.1 in omega (arith, same, more))
  tries_of (GoOn agent now is_busy ∷ rest) old new h = (let one = by (GoOn agent now is_busy) old h.0 h.1.0 in let more = tries_of rest h.0 new h.1.1 in omega (arith, one, more))
  tries_of (Give agent now change ∷ rest) old new h = (let same = ap tries (by (Give agent now change) old h.0 h.1.0) in let more = tries_of rest h.0 new h.1.1 in omega (arith, same, more))
  tries_of (Settle agent is_made ∷ rest) old new h = (let same = ap tries (by (Settle agent is_made) old h.0 h.1.0) in let more = tries_of rest h.0 new h.1.1 in omega (arith, same, more))
  tries_of (Rest now left ∷ rest) old new h = (let same = ap tries (by (Rest now left) old h.0 h.1.0) in let more = tries_of rest h.0 new h.1.1 in omega (arith, same, more))

pub tries_law : {S H : Type 0} → (does : NeighbourCall → H → H → Type 0) (tries : S → ℕ) (reader : H → S) (by : (call : NeighbourCall) (old new : H) → does call old new → DoesToReader tries call (reader old) (reader new)) → IsTriedLittle does tries reader
tries_law does tries reader by t old new turn =
    let h = turn.1.1.1 in
    let all = tries_of does tries reader by (calls_in turn.0 turn.1.0 t turn.1.1.0 h.is) old new h.called in
    let few = goes_once turn.0 t.reading turn.1.0 t h.is.mid turn.1.1.0.held.agent h.is.hears in
    omega (arith, all, few)
