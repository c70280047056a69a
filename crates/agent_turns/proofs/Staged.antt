-- Staged: each stage leaves what is held in step with the lanes. For the parts of a turn.
use Rattle.std.proofs.Common.{◌≡◌, ℕ, Bool, true, false, List, sym, subst, inl, inr}
use Rattle.base_clock.specs.declared.reading.Reading.{Reading}
use Rattle.vault_lanes.specs.Out as lanes
use Rattle.agent_turns.specs.Held.{IsInStep, ServingSide}
use Rattle.agent_turns.specs.Stages.{AnswersCome, Commands, HandsInAnswers, LeftOverGoesFirst, OnHeld, SendsRequests, TakesAnswers, TakesReadings, TakesUp, Then}
use Rattle.agent_turns.proofs.InStep.{in_step_come, in_step_gone, in_step_kept, in_step_read, in_step_taken}

-- ---- in step

abbrev pub Keeps : ℕ → (ServingSide → Bool → ServingSide → Type 0) → Type 0
Keeps width stage = (old new : ServingSide) (is_whole : Bool) → stage old is_whole new → IsInStep width old.lanes.out old.held → IsInStep width new.lanes.out new.held

then_keeps : (width : ℕ) (first second : ServingSide → Bool → ServingSide → Type 0) → Keeps width first → Keeps width second → Keeps width (Then first second)
then_keeps width first second a b old new is_whole (inl h) step = b h.0 new is_whole h.1.1 (a old h.0 true h.1.0 step)
then_keeps width first second a b old new is_whole (inr h) step = a old new false h.0 step

pub sends_keeps : (port width : ℕ) → Keeps width (SendsRequests port)
sends_keeps port width old new true h step = in_step_gone port width old new h.0 step
sends_keeps port width old new false h step = in_step_kept port width h.0 new h.1.1 (in_step_gone port width old h.0 h.1.0 step)

on_held : (width : ℕ) (old new : ServingSide) → new.lanes ≡ old.lanes → ((out : List lanes.Out) → IsInStep width out old.held → IsInStep width out new.held) → IsInStep width old.lanes.out old.held → IsInStep width new.lanes.out new.held
on_held width old new same to step = subst (λ l. IsInStep width l.out new.held) (sym same) (to old.lanes.out step)

pub takes_keeps : (width : ℕ) → Keeps width (OnHeld TakesAnswers)
takes_keeps width old new true h step = on_held width old new h.1 (λ out. in_step_taken width out old.held new.held h.0.0) step
takes_keeps width old new false h step = on_held width old new h.1 (λ out. in_step_taken width out old.held new.held h.0.0) step

pub comes_keeps : (now width : ℕ) → Keeps width (AnswersCome now)
comes_keeps now width old new true h step = in_step_come now width old new h step
comes_keeps now width old new false h step = subst (λ (s : ServingSide). IsInStep width s.lanes.out s.held) (sym h) step

pub reads_keeps : (r : Reading) (width : ℕ) → Keeps width (OnHeld (TakesReadings r))
reads_keeps r width old new true h step = on_held width old new h.1 (λ out. in_step_read r width out old.held new.held h.0) step
reads_keeps r width old new false h step = on_held width old new h.1 (λ out s. subst (IsInStep width out) (sym h.0) s) step

pub goes_keeps : (port : ℕ) (r : Reading) (width : ℕ) → Keeps width (LeftOverGoesFirst port r)
goes_keeps port r width =
    then_keeps width (SendsRequests port) (Then (OnHeld TakesAnswers) (TakesUp port r)) (sends_keeps port width)
    (then_keeps width (OnHeld TakesAnswers) (TakesUp port r) (takes_keeps width)
    (then_keeps width (AnswersCome r.elapsed) (HandsInAnswers port r) (comes_keeps r.elapsed width)
    (then_keeps width (OnHeld TakesAnswers) (Commands port r) (takes_keeps width)
    (then_keeps width (OnHeld (TakesReadings r)) (SendsRequests port) (reads_keeps r width) (sends_keeps port width)))))
