-- Handed: what is made of an answer. For `hand_in`.
use Rattle.std.proofs.Common.{◌≡◌, ◌∙◌, true, false, Option, None, inr, refl, sym, ap}
use Rattle.std.proofs.lemmas.Bool.{cond-false, cond-true}
use Rattle.agent_standing.specs.Agent.{Agent}
use Rattle.vault_lanes.specs.declared.lanes.Answered.{Answered}
use Rattle.watch_machine.specs.{declared.event.WatchEvent.WatchEvent, declared.event.WatchReply.WatchReply, declared.event.WatchReply.TheVariants.Lost, State.WatchState}
use Rattle.watch_scout.specs.{Hearing.event_of, Hearing.freed, State.ScoutState}
use Rattle.agent_behind.specs.Lookouts.{IsHandedIn, IsReplyTo, is_of_served}

-- one that is of no entry that is served is dropped
pub dropped : (a : Agent) (x : Answered) (s : ScoutState) → is_of_served a s x.index ≡ false → IsHandedIn a x s None s
dropped a x s other = record {
  reply = Lost;
  reply_is = inr refl;
  event_is = sym (cond-false (is_of_served a s x.index) (event_of s a.machine x.index Lost) None other);
  scout = sym (cond-false (is_of_served a s x.index) (freed s x.index) s other);
}

-- any other is handed in
pub handed : (a : Agent) (x : Answered) (w : WatchState) (s t : ScoutState) (reply : WatchReply) (event : Option WatchEvent) → is_of_served a s x.index ≡ true → w ≡ a.machine → IsReplyTo a x reply → event ≡ event_of s w x.index reply → t ≡ freed s x.index → IsHandedIn a x s event t
handed a x w s t reply event served here said is free = record {
  reply = reply;
  reply_is = said;
  event_is = is ∙ ap (λ v. event_of s v x.index reply) here ∙ sym (cond-true (is_of_served a s x.index) (event_of s a.machine x.index reply) None served);
  scout = free ∙ sym (cond-true (is_of_served a s x.index) (freed s x.index) s served);
}
