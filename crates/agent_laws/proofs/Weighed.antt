-- Weighed: what the calls of a turn weigh, where hearing weighs nothing. For the laws of what a turn calls at most.
use Rattle.std.proofs.Common.{◌≡◌, ℕ, ◌+◌, ◌≤◌, Bool, true, false, List, [], ◌∷◌, ◌++◌, inl, inr, Option, None, Some, arith, length, refl}
use Rattle.agent_standing.specs.Agent.{Agent}
use Rattle.base_clock.specs.declared.reading.Reading.{Reading}
use Rattle.vault_lanes.specs.declared.lanes.Answered.{Answered}
use Rattle.agent_turns.specs.{Changes.MadeChange, Changes.given_by, Held.ServingSide, Turns.ServingTurn, Turns.TurnHears, declared.change.AgentChange.AgentChange}
use Rattle.agent_turns.specs.Calls.{call_of_answer, calls_after, calls_at, calls_of_answering, calls_of_answers, calls_of_reading, heard_of_want, needs_of}
use Rattle.agent_turns.specs.Neighbours.{Give, GoOn, Hear, NeighbourCall, Rest, Settle, Thing, Time, Want, calls_for_change}
use Rattle.agent_turns.specs.Stages.{AnswersAreTaken, AnswersCome, Commands, HandsInAnswers, LeftOverGoesFirst, Listed, OnHeld, SendsRequests, TakesAnswers, TakesReadings, TakesUp, Then, nothing, of_answers, of_coming, of_commands, of_left, of_stages, one_and_then}

-- how often they go on, and how many changes they give
abbrev pub goes : NeighbourCall → ℕ
goes (GoOn agent now is_busy) = 1
goes _ = 0

abbrev pub gives : NeighbourCall → ℕ
gives (Hear agent thing) = 0
gives (GoOn agent now is_busy) = 0
gives (Give agent now None) = 0
gives (Give agent now (Some change)) = 1
gives (Settle agent is_made) = 0
gives (Rest now rest) = 0

-- and how often they are asked for a change
abbrev pub offers : NeighbourCall → ℕ
offers (Give agent now change) = 1
offers _ = 0

abbrev pub weight : (NeighbourCall → ℕ) → List NeighbourCall → ℕ
weight w [] = 0
weight w (call ∷ rest) = w call + weight w rest

module _ (w : NeighbourCall → ℕ) (light : (agent : Agent) (thing : Thing) → w (Hear agent thing) ≡ 0) where
  weight_join : (xs ys : List NeighbourCall) → weight w (xs ++ ys) ≡ weight w xs + weight w ys
  weight_join [] ys = omega arith
  weight_join (x ∷ xs) ys = (let rest = weight_join xs ys in omega (arith, rest))

  -- ---- stages

  abbrev IsLight : (stage : ServingSide → Bool → ServingSide → Type 0) → Listed NeighbourCall stage → Type 0
  IsLight stage calls = (old : ServingSide) (is_whole : Bool) (new : ServingSide) (h : stage old is_whole new) → weight w (calls old is_whole new h) ≡ 0

  light_nothing : (stage : ServingSide → Bool → ServingSide → Type 0) → IsLight stage (nothing stage)
  light_nothing stage old is_whole new h = refl

  light_then : (first second : ServingSide → Bool → ServingSide → Type 0) (one : Listed NeighbourCall first) (more : Listed NeighbourCall second) → IsLight first one → IsLight second more → IsLight (Then first second) (one_and_then first second one more)
  light_then first second one more a b old is_whole new (inl h) =
      let all = weight_join (one old true h.0 h.1.0) (more h.0 is_whole new h.1.1) in
      let x = a old true h.0 h.1.0 in
      let y = b h.0 is_whole new h.1.1 in
      omega (arith, all, x, y)
  light_then first second one more a b old is_whole new (inr h) = a old false new h.0

  light_answers : (answers : List Answered) (old new : Agent) (h : AnswersAreTaken answers old new) → weight w (calls_of_answers answers old new h) ≡ 0
  light_answers [] old new h = refl
  light_answers (a ∷ rest) old new h =
      let one : w (call_of_answer a old h.0 h.1.0) ≡ 0 = light h.0 _ in
      let more = light_answers rest h.0 new h.1.1 in
      omega (arith, one, more)

  light_taking : IsLight (OnHeld TakesAnswers) calls_of_answering
  light_taking old true new h = light_answers h.0.0.taken old.held.agent new.held.agent h.0.0.agent
  light_taking old false new h = light_answers h.0.0.taken old.held.agent new.held.agent h.0.0.agent

  light_reading : (r : Reading) → IsLight (OnHeld (TakesReadings r)) (calls_of_reading r)
  light_reading r old true new h =
      let time = light h.0.mid (Time h.0.notes new.held.unsent h.0.next) in
      let needs = light new.held.agent (needs_of h.0.mid new.held.agent h.0.said) in
      omega (arith, time, needs)
  light_reading r old false new h = refl

  module _ (port : ℕ) (r : Reading) where
    light_commands : IsLight (Commands port r) (of_commands port r calls_of_answering (calls_of_reading r))
    light_commands = light_then (OnHeld (TakesReadings r)) (SendsRequests port) (calls_of_reading r) (nothing (SendsRequests port)) (light_reading r) (light_nothing (SendsRequests port))

    light_handed : IsLight (HandsInAnswers port r) (of_answers port r calls_of_answering (calls_of_reading r))
    light_handed = light_then (OnHeld TakesAnswers) (Commands port r) calls_of_answering (of_commands port r calls_of_answering (calls_of_reading r)) light_taking light_commands

    light_coming : IsLight (TakesUp port r) (of_coming port r calls_of_answering (calls_of_reading r))
    light_coming = light_then (AnswersCome r.elapsed) (HandsInAnswers port r) (nothing (AnswersCome r.elapsed)) (of_answers port r calls_of_answering (calls_of_reading r)) (light_nothing (AnswersCome r.elapsed)) light_handed

    light_left : IsLight (Then (OnHeld TakesAnswers) (TakesUp port r)) (of_left port r calls_of_answering (calls_of_reading r))
    light_left = light_then (OnHeld TakesAnswers) (TakesUp port r) calls_of_answering (of_coming port r calls_of_answering (calls_of_reading r)) light_taking light_coming

    pub light_stages : IsLight (LeftOverGoesFirst port r) (of_stages port r calls_of_answering (calls_of_reading r))
    light_stages =
        light_then (SendsRequests port) (Then (OnHeld TakesAnswers) (TakesUp port r)) (nothing (SendsRequests port)) (of_left port r calls_of_answering (calls_of_reading r)) (light_nothing (SendsRequests port)) light_left

  -- ---- turns

  pub light_want : (is_whole : Bool) (agent : Agent) → weight w (heard_of_want is_whole agent) ≡ 0
  light_want true agent = refl
  light_want false agent = (let want = light agent Want in omega (arith, want))

  -- what is heard weighs nothing
  pub weight_at :
      (port : ℕ) (r : Reading) (old : ServingSide) (t : ServingTurn) (mid : ServingSide) (new : Agent) (h : TurnHears port (Some r) old t.is_whole mid) →
      weight w (calls_at port (Some r) old t mid new h) ≡ w (GoOn mid.held.agent r t.is_busy) + (weight w (calls_for_change mid.held.agent r (λ change. new) t.made) + w (Rest r.elapsed t.rest))
  weight_at port r old t mid new h =
      let agent = mid.held.agent in
      let asks = calls_for_change agent r (λ change. new) t.made in
      let rest = GoOn agent r t.is_busy ∷ (asks ++ Rest r.elapsed t.rest ∷ []) in
      let last = weight_join asks (Rest r.elapsed t.rest ∷ []) in
      let told = weight_join (heard_of_want t.is_whole agent) rest in
      let all = weight_join (of_stages port r calls_of_answering (calls_of_reading r) old t.is_whole mid h) (calls_after r t agent new) in
      let heard = light_stages port r old t.is_whole mid h in
      let want = light_want t.is_whole agent in
      omega (arith, all, last, told, heard, want)

-- ---- a turn goes on once, asks for a change once, and gives no more changes than it takes

goes_for_change : (a : Agent) (r : Reading) (told : AgentChange → Agent) (made : Option MadeChange) → weight goes (calls_for_change a r told made) ≡ 0
goes_for_change a r told None = refl
goes_for_change a r told (Some m) = refl

gives_for_change : (a : Agent) (r : Reading) (told : AgentChange → Agent) (made : Option MadeChange) → weight gives (calls_for_change a r told made) ≤ length (given_by made)
gives_for_change a r told None = omega arith
gives_for_change a r told (Some m) = omega arith

pub goes_once : (port : ℕ) (reading : Option Reading) (old : ServingSide) (t : ServingTurn) (mid : ServingSide) (new : Agent) (h : TurnHears port reading old t.is_whole mid) → weight goes (calls_at port reading old t mid new h) ≤ 1
goes_once port None old t mid new h = omega arith
goes_once port (Some r) old t mid new h =
    let all : weight goes (calls_at port (Some r) old t mid new h) ≡ 1 + (weight goes (calls_for_change mid.held.agent r (λ change. new) t.made) + 0) = weight_at goes (λ agent thing. refl) port r old t mid new h in
    let last = goes_for_change mid.held.agent r (λ change. new) t.made in
    omega (arith, all, last)

pub gives_few : (port : ℕ) (reading : Option Reading) (old : ServingSide) (t : ServingTurn) (mid : ServingSide) (new : Agent) (h : TurnHears port reading old t.is_whole mid) → weight gives (calls_at port reading old t mid new h) ≤ length (given_by t.made)
gives_few port None old t mid new h = omega arith
gives_few port (Some r) old t mid new h =
    let all : weight gives (calls_at port (Some r) old t mid new h) ≡ 0 + (weight gives (calls_for_change mid.held.agent r (λ change. new) t.made) + 0) = weight_at gives (λ agent thing. refl) port r old t mid new h in
    let last = gives_for_change mid.held.agent r (λ change. new) t.made in
    omega (arith, all, last)

offers_for_change : (a : Agent) (r : Reading) (told : AgentChange → Agent) (made : Option MadeChange) → weight offers (calls_for_change a r told made) ≡ 1
offers_for_change a r told None = refl
offers_for_change a r told (Some m) = refl

pub offers_once : (port : ℕ) (reading : Option Reading) (old : ServingSide) (t : ServingTurn) (mid : ServingSide) (new : Agent) (h : TurnHears port reading old t.is_whole mid) → weight offers (calls_at port reading old t mid new h) ≤ 1
offers_once port None old t mid new h = omega arith
offers_once port (Some r) old t mid new h =
    let all : weight offers (calls_at port (Some r) old t mid new h) ≡ 0 + (weight offers (calls_for_change mid.held.agent r (λ change. new) t.made) + 0) = weight_at offers (λ agent thing. refl) port r old t mid new h in
    let last = offers_for_change mid.held.agent r (λ change. new) t.made in
    omega (arith, all, last)
