-- Taken: answers are handed in one after another, and the neighbours hear of each. For `take_all`.
use Rattle.std.proofs.Common.{◌≡◌, ◌∙◌, ◌<◌, ◌∷◌, [], ◌++◌, Bool, true, false, List, Ok, Some, append_assoc, arith, length, refl, sym, ap, subst}
use Rattle.std.proofs.lemmas.List.{nil_from_length}
use Rattle.agent_standing.specs.{Agent.Agent, Turns.AgentTurn}
use Rattle.vault_asking.specs.{Handing.out_of, Told.event_as, Told.said_to, declared.told.Said.Said}
use Rattle.vault_lanes.specs.declared.lanes.Answered.{Answered}
use Rattle.agent_turns.specs.{Held.Held, code.Firsts.TakesFirst, code.Firsts.calls_of_first}
use Rattle.agent_turns.specs.Calls.{call_of_answer, calls_of_answers, calls_of_taken, calls_of_taking}
use Rattle.agent_turns.specs.Neighbours.{Answer, Hear, NeighbourCall, WithCalls}
use Rattle.agent_turns.specs.Stages.{AnswerIsTaken, AnswersAreTaken, HaveTaken, TakesAnswers}
use Rattle.agent_turns.proofs.Called.{called_once}
use Rattle.watch_machine.specs.{declared.command.WatchOutput.WatchOutput, declared.lanes.Out.Out}

module _ {N : Type 0} (does : NeighbourCall → N → N → Type 0) where
  pub none_taken : (h : Held) (a : N) → WithCalls does (HaveTaken h h) (calls_of_taken h h) a a
  none_taken h a = record { is = record { taken = []; parts = refl; agent = refl; held = refl }; called = refl }

  taken_more :
      (answers : List Answered) (a : Answered) (old mid new : Agent) (x y z : N) → WithCalls does (AnswersAreTaken answers old mid) (calls_of_answers answers old mid) x y →
      WithCalls does (AnswerIsTaken a mid new) (λ h. call_of_answer a mid new h ∷ []) y z → WithCalls does (AnswersAreTaken (answers ++ a ∷ []) old new) (calls_of_answers (answers ++ a ∷ []) old new) x z
  taken_more [] a old mid new x y z h one =
      let from = subst (λ (n : N). WithCalls does (AnswerIsTaken a mid new) (λ k. call_of_answer a mid new k ∷ []) n z) h.called one in
      let moved = subst (λ (m : Agent). WithCalls does (AnswerIsTaken a m new) (λ k. call_of_answer a m new k ∷ []) x z) h.is from in
      record { is = (new, (moved.is, refl)); called = moved.called }
  taken_more (b ∷ rest) a old mid new x y z h one =
      let more = taken_more rest a h.is.0 mid new h.called.0 y z (record { is = h.is.1.1; called = h.called.1.1 }) one in
      record { is = (h.is.0, (h.is.1.0, more.is)); called = (h.called.0, (h.called.1.0, more.called)) }

  -- and one more
  pub taken_on : (old mid new : Held) (a b c : N) → WithCalls does (HaveTaken old mid) (calls_of_taken old mid) a b → WithCalls does (TakesFirst mid new) (calls_of_first mid new) b c → WithCalls does (HaveTaken old new) (calls_of_taken old new) a c
  taken_on old mid new a b c h one =
      let first = one.is in
      let more = taken_more h.is.taken first.answer old.agent mid.agent new.agent a b c (record { is = h.is.agent; called = h.called }) (record { is = first.agent; called = one.called }) in
      record {
        is = record {
          taken = h.is.taken ++ first.answer ∷ [];
          parts = h.is.parts ∙ ap (λ xs. h.is.taken ++ xs) first.first ∙ sym (append_assoc h.is.taken (first.answer ∷ []) new.pending);
          agent = more.is;
          held = first.held ∙ ap (λ (x : Held). record x { agent = new.agent; pending = new.pending }) h.is.held;
        };
        called = more.called;
      }

  -- the first of them is, as the event of the request that is out of its entry
  pub first_heard :
      (old new : Held) (a : Answered) (request : Out) (said : Said) (output : WatchOutput) (x y : N) → old.pending ≡ a ∷ new.pending → out_of old.agent.machine.out a.index ≡ Some request → said ≡ said_to old.agent.inventory request.operation a.index a.answer →
      AgentTurn old.agent (event_as request.operation a.index said.reply said.terms) (Ok output) new.agent → new ≡ record old { agent = new.agent; pending = new.pending } → does (Hear new.agent (Answer a.index request.operation said output.notes)) x y →
      WithCalls does (TakesFirst old new) (calls_of_first old new) x y
  first_heard old new a request said output x y first is_out said_is turn held hears = record {
    is = record { answer = a; first = first; agent = record { request = request; is_out = is_out; said = said; said_is = said_is; output = output; turn = turn }; held = held };
    called = called_once does (Hear new.agent (Answer a.index request.operation said output.notes)) x y hears;
  }

  -- ---- all of them are, or memory is wanting for one

  pub none_left : (old new : Held) (a b : N) → length new.pending ≡ 0 → WithCalls does (HaveTaken old new) (calls_of_taken old new) a b → WithCalls does (TakesAnswers old true new) (calls_of_taking old true new) a b
  none_left old new a b none h = record { is = (h.is, nil_from_length new.pending none); called = h.called }

  pub some_left :
      (old mid new : Held) (is_whole : Bool) (a b c : N) → is_whole ≡ false → 0 < length mid.pending → new ≡ mid → c ≡ b → WithCalls does (HaveTaken old mid) (calls_of_taken old mid) a b →
      WithCalls does (TakesAnswers old is_whole new) (calls_of_taking old is_whole new) a c
  some_left old mid new true a b c not some same unheard h = absurd (let e : true ≡ false = not in cc)
  some_left old mid new false a b c not some same unheard h =
      let there = subst (λ (x : Held). WithCalls does (HaveTaken old x) (calls_of_taken old x) a b) (sym same) h in
      let heard = subst (λ (n : N). WithCalls does (HaveTaken old new) (calls_of_taken old new) a n) (sym unheard) there in
      let left = ap (λ (x : Held). length x.pending) same in
      record { is = (heard.is, λ none. (let e = ap length none in omega (arith, e, left, some))); called = heard.called }
