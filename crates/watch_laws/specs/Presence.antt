-- Presence: when the broker counts as away. The law is the contract of a public function without a body.
-- Source: this project's own.
use Rattle.std.specs.Prelude.{◌≡◌, ◌≢◌, ◌==◌, ℕ, ◌≤◌, Bool, true, false, not, ◌&&◌, List, [], ◌∷◌, ◌++◌, Option, Some, None, All, length}
use Rattle.std.specs.List.{list_any}
use Rattle.watch_machine.specs.{declared.command.WatchRequest.WatchRequest, declared.event.WatchEvent.WatchEvent, declared.event.WatchReply.WatchReply, declared.lanes.Out.Out, Change.place_now, State.WatchState}
use Rattle.watch_machine.specs.declared.event.WatchEvent.TheVariants.{Clock, Looked, Renewed, Need, Begin, Known}
use Rattle.watch_machine.specs.declared.event.WatchReply.TheVariants.{Told, Refused, Busy, Lost}
use Rattle.watch_machine.specs.History.{AllHappen, Changes, Happening, Happens, Hands, History, Turned, state_after, state_after_all}
use Rattle.watch_laws.specs.{Absence.is_event_taken, Load.requests_at_turn}

-- the broker answered, whatever it said
abbrev pub is_answered : WatchReply → Bool
is_answered (Told seconds renewable date) = true
is_answered (Refused status date) = true
is_answered Busy = true
is_answered Lost = false

-- it told what was asked
abbrev pub is_told : WatchReply → Bool
is_told (Told seconds renewable date) = true
is_told (Refused status date) = false
is_told Busy = false
is_told Lost = false

-- so at an event
abbrev pub answers : WatchEvent → Bool
answers (Clock wall elapsed) = false
answers (Looked i reply terms) = is_answered reply
answers (Renewed i reply) = is_answered reply
answers (Need i until) = false
answers Begin = false
answers (Known i end renewable) = false

-- a request of i is lost
abbrev pub loses : ℕ → WatchEvent → Bool
loses i (Clock wall elapsed) = false
loses i (Looked j reply terms) = j == i && not (is_answered reply)
loses i (Renewed j reply) = j == i && not (is_answered reply)
loses i (Need j until) = false
loses i Begin = false
loses i (Known j end renewable) = false

-- the same at a turn, where the event is taken
abbrev pub is_answer_taken : Turned → Bool
is_answer_taken turn = is_event_taken turn.result && answers turn.event

abbrev pub is_loss : ℕ → Turned → Bool
is_loss i turn = is_event_taken turn.result && loses i turn.event

-- a request of i goes out at a turn
abbrev pub is_asked_at_turn : ℕ → Turned → Bool
is_asked_at_turn i turn = list_any (λ (r : WatchRequest). r.entry == i) (requests_at_turn turn.result)

-- a change of what is watched is neither
abbrev pub is_answer_at : Happening → Bool
is_answer_at (Hands turn) = is_answer_taken turn
is_answer_at (Changes c) = false

abbrev pub is_loss_at : ℕ → Happening → Bool
is_loss_at i (Hands turn) = is_loss i turn
is_loss_at i (Changes c) = false

-- the index of a request after a change, that was out before it: that of its entry, or one past the last where that is no more
abbrev pub IsIndexNow : ℕ → Option ℕ → ℕ → Type 0
IsIndexNow n None j = n ≤ j
IsIndexNow n (Some k) j = j ≡ k

-- a request that is out under k after all of this may have been out under i before it
abbrev pub MayHaveBeen : List Happening → ℕ → ℕ → Type 0
MayHaveBeen [] k i = i ≡ k
MayHaveBeen (Hands turn ∷ hs) k i = MayHaveBeen hs k i
MayHaveBeen (Changes c ∷ hs) k i = (j : ℕ) × (IsIndexNow (length c.forest.entries) (place_now c.was i) j × MayHaveBeen hs k j)

-- no request goes out in all of this that may be out under k after it
abbrev pub NoneGoesOut : ℕ → List Happening → Type 0
NoneGoesOut k [] = Unit {0}
NoneGoesOut k (Hands turn ∷ hs) = ((i : ℕ) → MayHaveBeen hs k i → is_asked_at_turn i turn ≡ false) × NoneGoesOut k hs
NoneGoesOut k (Changes c ∷ hs) = NoneGoesOut k hs

-- when the broker is away, by what came. It is from the loss of a request on, if it answered none since that went out; it is not once it
-- has answered. Nothing else changes it: not the loss of a request since whose going out it answered another, nor what is no reply, nor a
-- change of what is watched
pub record AwayLaw : Type 0 where
  pub lost :
      (old : WatchState) (between : List Happening) (loss : Turned) (k : ℕ) → AllHappen old (between ++ Hands loss ∷ []) → ((i : ℕ) → MayHaveBeen between k i → All (λ (q : Out). q.entry ≢ i) old.out) →
      list_any is_answer_at between ≡ false → is_loss k loss ≡ true → loss.state.presence.away ≡ true
  pub back : (old : WatchState) (turn : Turned) → History old (turn ∷ []) → is_answer_taken turn ≡ true → turn.state.presence.away ≡ false
  pub heard :
      (old : WatchState) (answer loss : Turned) (between : List Happening) (k : ℕ) → AllHappen old (Hands answer ∷ (between ++ Hands loss ∷ [])) → is_answer_taken answer ≡ true → NoneGoesOut k between →
      is_loss k loss ≡ true → loss.state.presence.away ≡ (state_after_all answer.state between).presence.away
  pub others :
      (old : WatchState) (happening : Happening) → Happens old happening → is_answer_at happening ≡ false → ((i : ℕ) → is_loss_at i happening ≡ false) →
      (state_after happening).presence.away ≡ old.presence.away
