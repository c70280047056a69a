-- Answering: what an answer leaves of a watch as it was. For every law over histories.
use Rattle.std.proofs.Common.{◌≡◌, ◌∙◌, if◌then◌else◌, [], None, refl}
use Rattle.watch_machine.specs.{declared.event.WatchReply.WatchReply, declared.event.WatchReply.TheVariants.Told, declared.event.WatchTerms.WatchTerms, declared.lanes.Out.Out, Looked.looked, Renewed.state_renewed, Settling.is_real}
use Rattle.watch_machine.specs.{State.WatchState, State.broker_present, Step.notes_looked, Step.notes_renewed}
use Rattle.watch_machine.specs.Answers.{answers_all, lane_freed, noted, replied, silent}
use Rattle.watch_machine.proofs.Cases.{if_both}

-- all but the forest, the tracks, the requests that are out, the answers and the presence
abbrev pub rest_of : WatchState → WatchState
rest_of s = record s { forest = record { entries = []; margin = 0 }; tracks = []; out = []; answers = []; presence = broker_present }

pub looked_rest : (s : WatchState) (r : Out) (reply : WatchReply) (terms : WatchTerms) → rest_of (looked s r reply terms) ≡ rest_of s
looked_rest s r (Told seconds renewable date) terms = refl
looked_rest s r _ terms = refl

pub replied_rest : (s : WatchState) (r : Out) (reply : WatchReply) → rest_of (replied s r reply) ≡ rest_of s
replied_rest s r reply =
    let free = lane_freed s r in
    if_both (λ (t : WatchState). rest_of t ≡ rest_of s) (is_real reply) (answers_all free) (if r.heard then free else silent free)
    (if_both (λ (t : WatchState). rest_of t ≡ rest_of s) s.presence.away _ _ refl refl)
    (if_both (λ (t : WatchState). rest_of t ≡ rest_of s) r.heard free (silent free) refl (if_both (λ (t : WatchState). rest_of t ≡ rest_of s) s.presence.away _ _ refl refl))

-- an answer leaves the clocks, the width and the last beginning
pub looked_leaves : (s : WatchState) (r : Out) (reply : WatchReply) (terms : WatchTerms) → rest_of (replied (looked (noted s r reply) r reply terms) r reply) ≡ rest_of s
looked_leaves s r reply terms = replied_rest (looked (noted s r reply) r reply terms) r reply ∙ looked_rest (noted s r reply) r reply terms

pub renewed_leaves : (s : WatchState) (r : Out) (reply : WatchReply) → rest_of (replied (state_renewed (noted s r reply) r reply) r reply) ≡ rest_of s
renewed_leaves s r reply = replied_rest (state_renewed (noted s r reply) r reply) r reply

-- and nothing begins at it
pub looked_begins : (s : WatchState) (r : Out) (reply : WatchReply) (terms : WatchTerms) → (notes_looked s r reply terms).began ≡ None
looked_begins s r (Told seconds renewable date) terms = refl
looked_begins s r _ terms = refl

pub renewed_begins : (s : WatchState) (r : Out) (reply : WatchReply) → (notes_renewed s r reply).began ≡ None
renewed_begins s r reply = refl
