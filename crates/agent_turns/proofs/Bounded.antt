-- Bounded: how long a turn waits at most, and how often it calls its neighbours. For `a_turn_is_bounded`.
use Rattle.std.proofs.Common.{◌≡◌, ◌∙◌, ℕ, ◌+◌, ◌-◌, ◌≤◌, Bool, true, false, ◌||◌, List, [], ◌∷◌, ◌++◌, Option, None, Some, length, ap, arith, inl, inr, refl, subst, sym}
use Rattle.std.specs.Prelude.{IfSome}
use Rattle.std.proofs.lemmas.List.{length-append}
use Rattle.agent_standing.specs.Agent.{Agent}
use Rattle.vault_asking.specs.Sending.{Lanes}
use Rattle.vault_asking.proofs.InStep.{parted_count}
use Rattle.base_clock.specs.declared.reading.Reading.{Reading}
use Rattle.base_device.specs.Moments.{earlier}
use Rattle.vault_lanes.specs.declared.lanes.Answered.{Answered}
use Rattle.agent_turns.specs.{Changes.MadeChange, Changes.is_one_made, Laws.CallsLaw, Laws.TurnWaitLaw, declared.change.AgentChange.AgentChange}
use Rattle.agent_turns.specs.Calls.{calls_after, calls_at, calls_of_answering, calls_of_answers, calls_of_reading, calls_of_taken, calls_of_taking, heard_of_want}
use Rattle.agent_turns.specs.Held.{Held, IsInStep, ServingSide}
use Rattle.agent_turns.specs.Neighbours.{GoOn, Rest, calls_for_change}
use Rattle.agent_turns.specs.Stages.{AnswersAreTaken, Commands, HandsInAnswers, HaveTaken, LeftOverGoesFirst, OnHeld, TakesAnswers, TakesUp, Then, of_answers, of_coming, of_commands, of_left, of_stages}
use Rattle.agent_turns.specs.Turns.{ServingTurn, TurnHears, longest_wait, turn_wait_by}
use Rattle.agent_turns.proofs.Staged.{sends_keeps}

-- ---- the wait

within : (longest : ℕ) (rest : Option ℕ) → earlier longest rest ≤ longest
within longest None = omega arith
within longest (Some rest) = omega arith

longest : (is_more is_whole : Bool) (h : Held) (due : ℕ) (rest : Option ℕ) (reading : Option Reading) → turn_wait_by is_more is_whole h due rest reading ≤ longest_wait h.agent.inventory.forest.margin
longest true is_whole h due rest reading = omega arith
longest false is_whole h due rest None = omega arith
longest false true h due rest (Some r) = (let most = within (longest_wait h.agent.inventory.forest.margin) rest in omega (arith, most))
longest false false h due rest (Some r) = omega arith

in_time : (is_more : Bool) (h : Held) (due : ℕ) (rest : Option ℕ) (r : Reading) → turn_wait_by is_more true h due rest (Some r) ≤ h.until - r.elapsed
in_time true h due rest r = omega arith
in_time false h due rest r = omega arith

-- as long as the neighbours may be left alone
in_rest : (is_more : Bool) (h : Held) (due : ℕ) (rest : Option ℕ) (r : Reading) → IfSome rest (λ n. turn_wait_by is_more true h due rest (Some r) ≤ n)
in_rest is_more h due None r = tt
in_rest true h due (Some rest) r = omega arith
in_rest false h due (Some rest) r = omega arith

pub wait_law : TurnWaitLaw
wait_law port old new t h =
    let is_more = is_one_made t.made || t.is_busy in
    let waits = h.waits in
    let most = longest is_more t.is_whole new.held t.due t.rest t.reading in (
      omega (arith, waits, most),
      λ r read whole.
          (let is = waits ∙ ap (λ x. turn_wait_by is_more t.is_whole new.held t.due t.rest x) read ∙ ap (λ w. turn_wait_by is_more w new.held t.due t.rest (Some r)) whole in
          let before = in_time is_more new.held t.due t.rest r in (
            omega (arith, is, before),
            subst (λ n. IfSome t.rest (λ rest. n ≤ rest)) (sym is) (in_rest is_more new.held t.due t.rest r),
          )),
    )

-- ---- the calls

-- one for each answer
few_of_answers : (answers : List Answered) (old new : Agent) (h : AnswersAreTaken answers old new) → length (calls_of_answers answers old new h) ≡ length answers
few_of_answers [] old new h = refl
few_of_answers (a ∷ rest) old new h = (let more = few_of_answers rest h.0 new h.1.1 in omega (arith, more))

few_taken : (old new : Held) (h : HaveTaken old new) → length (calls_of_taken old new h) + length new.pending ≡ length old.pending
few_taken old new h =
    let parts = ap length h.parts ∙ length-append h.taken new.pending in
    let one = few_of_answers h.taken old.agent new.agent h.agent in
    omega (arith, parts, one)

few_taking : (old : Held) (is_whole : Bool) (new : Held) (h : TakesAnswers old is_whole new) → length (calls_of_taking old is_whole new h) + length new.pending ≡ length old.pending
few_taking old true new h = few_taken old new h.0
few_taking old false new h = few_taken old new h.0

module _ (port : ℕ) (r : Reading) where
  few_commands : (old : ServingSide) (is_whole : Bool) (new : ServingSide) (h : Commands port r old is_whole new) → length (of_commands port r calls_of_answering (calls_of_reading r) old is_whole new h) ≤ 2
  few_commands old is_whole new (inl h) = omega arith
  few_commands old is_whole new (inr h) = omega arith

  few_handed : (old : ServingSide) (is_whole : Bool) (new : ServingSide) (h : HandsInAnswers port r old is_whole new) → length (of_answers port r calls_of_answering (calls_of_reading r) old is_whole new h) ≤ length old.held.pending + 2
  few_handed old is_whole new (inl h) =
      let first = calls_of_taking old.held true h.0.held h.1.0.0 in
      let more = of_commands port r calls_of_answering (calls_of_reading r) h.0 is_whole new h.1.1 in
      let all = length-append first more in
      let one = few_taking old.held true h.0.held h.1.0.0 in
      let two = few_commands h.0 is_whole new h.1.1 in
      omega (arith, all, one, two)
  few_handed old is_whole new (inr h) = (let one = few_taking old.held false new.held h.0.0 in omega (arith, one))

  few_come : (old : ServingSide) (is_whole : Bool) (new : ServingSide) (h : TakesUp port r old is_whole new) → length (of_coming port r calls_of_answering (calls_of_reading r) old is_whole new h) ≤ length old.lanes.out + 2
  few_come old is_whole new (inl h) =
      let parts = parted_count old.lanes.out h.0.held.pending h.0.lanes.out h.1.0.parted in
      let more = few_handed h.0 is_whole new h.1.1 in
      omega (arith, parts, more)
  few_come old is_whole new (inr h) = omega arith

  few_left : (old : ServingSide) (is_whole : Bool) (new : ServingSide) (h : Then (OnHeld TakesAnswers) (TakesUp port r) old is_whole new) →
      length (of_left port r calls_of_answering (calls_of_reading r) old is_whole new h) ≤ length old.held.pending + length old.lanes.out + 2
  few_left old is_whole new (inl h) =
      let first = calls_of_taking old.held true h.0.held h.1.0.0 in
      let more = of_coming port r calls_of_answering (calls_of_reading r) h.0 is_whole new h.1.1 in
      let all = length-append first more in
      let one = few_taking old.held true h.0.held h.1.0.0 in
      let two = few_come h.0 is_whole new h.1.1 in
      let same = ap (λ (l : Lanes). length l.out) h.1.0.1 in
      omega (arith, all, one, two, same)
  few_left old is_whole new (inr h) = (let one = few_taking old.held false new.held h.0.0 in omega (arith, one))

  -- no more than there are lanes, and two of the time
  few_heard : (width : ℕ) (old : ServingSide) (is_whole : Bool) (new : ServingSide) (h : LeftOverGoesFirst port r old is_whole new) → IsInStep width old.lanes.out old.held →
      length (of_stages port r calls_of_answering (calls_of_reading r) old is_whole new h) ≤ width + 2
  few_heard width old is_whole new (inl h) step =
      let sent = sends_keeps port width old h.0 true h.1.0 step in
      let count = sent.count in
      let room = sent.room in
      let left = few_left h.0 is_whole new h.1.1 in
      omega (arith, count, room, left)
  few_heard width old is_whole new (inr h) step = omega arith

few_of_change : (a : Agent) (r : Reading) (told : AgentChange → Agent) (made : Option MadeChange) → length (calls_for_change a r told made) ≤ 2
few_of_change a r told None = omega arith
few_of_change a r told (Some m) = omega arith

few_of_want : (is_whole : Bool) (a : Agent) → length (heard_of_want is_whole a) ≤ 1
few_of_want true a = omega arith
few_of_want false a = omega arith

-- but for the call that tells of a want
few_after : (r : Reading) (t : ServingTurn) (mid new : Agent) → length (calls_after r t mid new) ≤ 4 + length (heard_of_want t.is_whole mid)
few_after r t mid new =
    let asks = calls_for_change mid r (λ change. new) t.made in
    let all = length-append (heard_of_want t.is_whole mid) (GoOn mid r t.is_busy ∷ (asks ++ Rest r.elapsed t.rest ∷ [])) in
    let after = length-append asks (Rest r.elapsed t.rest ∷ []) in
    let change = few_of_change mid r (λ change. new) t.made in
    omega (arith, all, after, change)

few_calls :
    (port width : ℕ) (reading : Option Reading) (old : ServingSide) (t : ServingTurn) (mid : ServingSide) (new : Agent) (h : TurnHears port reading old t.is_whole mid) → IsInStep width old.lanes.out old.held →
    length (calls_at port reading old t mid new h) ≤ width + 6 + length (heard_of_want t.is_whole mid.held.agent)
few_calls port width None old t mid new h step = omega arith
few_calls port width (Some r) old t mid new h step =
    let heard = of_stages port r calls_of_answering (calls_of_reading r) old t.is_whole mid h in
    let all = length-append heard (calls_after r t mid.held.agent new) in
    let first = few_heard port r width old t.is_whole mid h step in
    let after = few_after r t mid.held.agent new in
    omega (arith, all, first, after)

pub calls_law : CallsLaw
calls_law port width old new t is step =
    let few = few_calls port width t.reading old t is.mid new.held.agent is.hears step in
    let want = few_of_want t.is_whole is.mid.held.agent in (
      omega (arith, few, want),
      λ whole. (let none : length (heard_of_want t.is_whole is.mid.held.agent) ≡ 0 = ap (λ w. length (heard_of_want w is.mid.held.agent)) whole in omega (arith, few, none)),
    )
