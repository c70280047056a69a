-- Failing: what an answer that tells nothing leaves of a try. For the law of failures.
use Rattle.std.proofs.Common.{◌≡◌, ◌∙◌, ◌⊎◌, ℕ, Bool, true, false, if◌then◌else◌, [], ◌∷◌, Option, Some, None, Result, Ok, Err, IfSome, min, refl, sym, ap, subst, arith, inl, inr, true≢false}
use Rattle.std.proofs.lemmas.Bool.{cond-true}
use Rattle.watch_machine.specs.{declared.command.WatchOutput.WatchOutput, declared.event.WatchEvent.WatchEvent, declared.event.WatchReply.WatchReply, declared.event.WatchTerms.WatchTerms, declared.fault.WatchFault.WatchFault}
use Rattle.watch_machine.specs.{declared.lanes.Out.Out, declared.track.Track.Track, declared.track.Try.Try, Clocks.sec, History.Turn, Lines.rested, Refusal.request_out, Wanted.is_open}
use Rattle.watch_machine.specs.declared.event.WatchEvent.TheVariants.{Looked, Renewed}
use Rattle.watch_machine.specs.declared.event.Operation.TheVariants.{Look, Renew}
use Rattle.watch_machine.specs.declared.event.WatchReply.TheVariants.{Told, Refused, Busy, Lost}
use Rattle.watch_machine.specs.Answers.{back_track, back_try, due_again, failing, lane_freed, noted, replied, silent, with_track}
use Rattle.watch_machine.specs.Looked.{looked, refused_try, untold, untold_track}
use Rattle.watch_machine.specs.Renewed.{renewed_track, state_renewed, ungranted, ungranted_track}
use Rattle.watch_machine.specs.State.{WatchState, attempt_at, each, no_track, track_at, track_in}
use Rattle.watch_machine.specs.Step.{Step, StepLooked, StepRenewed}
use Rattle.watch_machine.proofs.Within.{out_entry}
use Rattle.watch_machine.proofs.Cases.{if_both, if_cases, not_both}
use Rattle.watch_laws.specs.Presses.{asked_again_at}
use Rattle.watch_laws.specs.Failures.{FailedLaw, FailsRight, FailsTaken, IsLostToBusy, LookupFails, MayGoNow, RenewalFails, TryHasFailed}
use Rattle.watch_laws.proofs.{Answering.looked_leaves, Presses.again_is}
use Rattle.watch_laws.proofs.Tracking.{back_kept, each_holds, set_holds}

-- the broker's return leaves a try that was refused
back_refused : (x : Track) (o : Option Try) → TryHasFailed false o → TryHasFailed false (back_try x o)
back_refused x None h = tt
back_refused x (Some t) h =
    if_both (TryHasFailed false) x.out (Some (record t { fails = 0 })) (if t.lost then Some (due_again t (rested x.last)) else Some t) h
    (if_cases (TryHasFailed false) t.lost (Some (due_again t (rested x.last))) (Some t) (λ lost. absurd (not_both lost h.1)) (λ kept. h))

back_now : (at : ℕ) (x : Track) (o : Option Try) → MayGoNow at o → MayGoNow at (back_try x o)
back_now at x None h = tt
back_now at x (Some t) h =
    if_both (MayGoNow at) x.out (Some (record t { fails = 0 })) (if t.lost then Some (due_again t (rested x.last)) else Some t) h
    (if_cases (MayGoNow at) t.lost (Some (due_again t (rested x.last))) (Some t) (λ lost. absurd (not_both lost h.1)) (λ kept. h))

abbrev IsRefused : Track → Type 0
IsRefused x = TryHasFailed false x.attempt

back_renewal : (x : Track) → IsRefused x → IsRefused (back_track x)
unfolding back_track
back_renewal x h = back_refused x x.attempt h

abbrev IsRefusedOrGoes : ℕ → Track → Type 0
IsRefusedOrGoes at x = TryHasFailed false x.attempt ⊎ MayGoNow at x.attempt

back_lookup : (at : ℕ) (x : Track) → IsRefusedOrGoes at x → IsRefusedOrGoes at (back_track x)
unfolding back_track
back_lookup at x (inl failed) = inl (back_refused x x.attempt failed)
back_lookup at x (inr now) = inr (back_now at x x.attempt now)

-- an entry that is not out, and whose try was lost since the last clock
record IsLostNow (x : Track) : Type 0 where
  out : x.out ≡ false
  attempt : TryHasFailed true x.attempt

none_lost : IsLostNow no_track
none_lost = record { out = refl; attempt = tt }

-- it stays so at a loss
lost_stays : (mid : WatchState) (q : Out) (i : ℕ) → IsLostNow (track_at mid i) → TryHasFailed true (attempt_at (replied mid q Lost) i)
lost_stays mid q i h =
    if_both (λ (s : WatchState). TryHasFailed true (attempt_at s i)) q.heard (lane_freed mid q) (silent (lane_freed mid q)) h.attempt
    (if_both (λ (s : WatchState). TryHasFailed true (attempt_at s i)) mid.presence.away _ _ h.attempt h.attempt)

-- and where the broker was busy, if it was not away; else it is back with that
due_busy : (x : Track) (o : Option Try) → x.out ≡ false → TryHasFailed true o → IfSome (back_try x o) (λ t. (t.lost ≡ true) × ((t.failed ≡ false) × (true ≡ true → t.at ≡ asked_again_at x.last)))
due_busy x None free h = tt
due_busy x (Some t) free h =
    let P : Option Try → Type 0 = λ o. IfSome o (λ (u : Try). (u.lost ≡ true) × ((u.failed ≡ false) × (true ≡ true → u.at ≡ asked_again_at x.last))) in
    if_cases P x.out (Some (record t { fails = 0 })) (if t.lost then Some (due_again t (rested x.last)) else Some t) (λ out. absurd (not_both out free))
    (λ _. if_cases P t.lost (Some (due_again t (rested x.last))) (Some t)
    (λ lost. (lost, (refl, λ _. cond-true t.failed (rested x.last) (min t.at (rested x.last)) h.0 ∙ again_is x.last))) (λ kept. absurd (not_both h.1 kept)))

back_busy : (x : Track) → IsLostNow x → IsLostToBusy true (back_track x)
unfolding back_track
back_busy x h = due_busy x x.attempt h.out h.attempt

some_busy : (x : Track) (o : Option Try) → TryHasFailed true o → IfSome o (λ t. (t.lost ≡ true) × ((t.failed ≡ true) × (false ≡ true → t.at ≡ asked_again_at x.last)))
some_busy x None h = tt
some_busy x (Some t) h = (h.1, (h.0, λ bad. absurd (true≢false (sym bad))))

busy_left : (mid : WatchState) (q : Out) (i : ℕ) → IsLostNow (track_at mid i) → IsLostToBusy mid.presence.away (track_at (replied mid q Busy) i)
busy_left mid q i h =
    if_cases (λ (s : WatchState). IsLostToBusy mid.presence.away (track_at s i)) mid.presence.away _ _
    (λ away. subst (λ b. IsLostToBusy b (track_in (each (λ j. back_track) mid.tracks) i)) (sym away) (each_holds (IsLostToBusy true) tt (λ j. back_track) mid.tracks i (back_busy (track_at mid i) h)))
    (λ there. subst (λ b. IsLostToBusy b (track_at mid i)) (sym there) (some_busy (track_at mid i) (attempt_at mid i) h.attempt))

-- the answer to a renewal
refused_renewal : (at : ℕ) (heard : Bool) (status : ℕ) (date : Option ℕ) (x : Track) (o : Option Try) → TryHasFailed false (ungranted at heard (Refused status date) x o)
refused_renewal at heard status date x None = tt
refused_renewal at heard status date x (Some t) = (refl, refl)

lost_renewal : (at : ℕ) (heard : Bool) (x : Track) (o : Option Try) → TryHasFailed true (ungranted at heard Lost x o)
lost_renewal at heard x None = tt
lost_renewal at heard x (Some t) = (refl, refl)

busy_renewal : (at : ℕ) (heard : Bool) (x : Track) (o : Option Try) → TryHasFailed true (ungranted at heard Busy x o)
busy_renewal at heard x None = tt
busy_renewal at heard x (Some t) = (refl, refl)

refused_made : (margin step at : ℕ) (q : Out) (status : ℕ) (date : Option ℕ) (x : Track) → IsRefused (renewed_track margin step at q (Refused status date) x)
unfolding renewed_track ungranted_track
refused_made margin step at q status date x = refused_renewal at q.heard status date x x.attempt

lost_made : (margin step at : ℕ) (q : Out) (x : Track) → IsLostNow (renewed_track margin step at q Lost x)
unfolding renewed_track ungranted_track
lost_made margin step at q x = record { out = refl; attempt = lost_renewal at q.heard x x.attempt }

busy_made : (margin step at : ℕ) (q : Out) (x : Track) → IsLostNow (renewed_track margin step at q Busy x)
unfolding renewed_track ungranted_track
busy_made margin step at q x = record { out = refl; attempt = busy_renewal at q.heard x x.attempt }

renewed_fails : (s : WatchState) (q : Out) (reply : WatchReply) → RenewalFails s.presence.away reply (track_at (replied (state_renewed s q reply) q reply) q.entry)
renewed_fails s q (Told seconds renewable date) = tt
renewed_fails s q (Refused status date) =
    back_kept (λ y x. IsRefused x → IsRefused y) (λ x h. h) (λ x. back_renewal x) (state_renewed s q (Refused status date)) q (Refused status date) q.entry
    (set_holds IsRefused tt s.tracks q.entry _ (refused_made s.forest.margin _ s.clocks.at q status date (track_at s q.entry)))
renewed_fails s q Busy = busy_left (state_renewed s q Busy) q q.entry (set_holds IsLostNow none_lost s.tracks q.entry _ (busy_made s.forest.margin _ s.clocks.at q (track_at s q.entry)))
renewed_fails s q Lost = lost_stays (state_renewed s q Lost) q q.entry (set_holds IsLostNow none_lost s.tracks q.entry _ (lost_made s.forest.margin _ s.clocks.at q (track_at s q.entry)))

-- and that to a lookup
refused_try_fails : (at : ℕ) (x : Track) (t : Try) → TryHasFailed false (Some (refused_try at x t)) ⊎ MayGoNow at (Some (refused_try at x t))
refused_try_fails at x t =
    if_both (λ u. TryHasFailed false (Some u) ⊎ MayGoNow at (Some u)) (is_open (sec at) x)
    (if t.pressed then failing t Renew false false else record (failing t Renew false false) { at = at; failed = false }) (failing t Look false false)
    (if_both (λ u. TryHasFailed false (Some u) ⊎ MayGoNow at (Some u)) t.pressed (failing t Renew false false) (record (failing t Renew false false) { at = at; failed = false }) (inl (refl, refl))
    (inr (omega arith, refl))) (inl (refl, refl))

refused_lookup : (at : ℕ) (heard : Bool) (status : ℕ) (date : Option ℕ) (x : Track) (o : Option Try) →
    TryHasFailed false (untold at heard (Refused status date) x o) ⊎ MayGoNow at (untold at heard (Refused status date) x o)
refused_lookup at heard status date x None = inl tt
refused_lookup at heard status date x (Some t) = refused_try_fails at x t

lost_lookup : (at : ℕ) (heard : Bool) (x : Track) (o : Option Try) → TryHasFailed true (untold at heard Lost x o)
lost_lookup at heard x None = tt
lost_lookup at heard x (Some t) = (refl, refl)

busy_lookup : (at : ℕ) (heard : Bool) (x : Track) (o : Option Try) → TryHasFailed true (untold at heard Busy x o)
busy_lookup at heard x None = tt
busy_lookup at heard x (Some t) = (refl, refl)

refused_look : (at : ℕ) (heard : Bool) (status : ℕ) (date : Option ℕ) (x : Track) → IsRefusedOrGoes at (untold_track at heard (Refused status date) x)
unfolding untold_track
refused_look at heard status date x = refused_lookup at heard status date x x.attempt

lost_look : (at : ℕ) (heard : Bool) (x : Track) → IsLostNow (untold_track at heard Lost x)
unfolding untold_track
lost_look at heard x = record { out = refl; attempt = lost_lookup at heard x x.attempt }

busy_look : (at : ℕ) (heard : Bool) (x : Track) → IsLostNow (untold_track at heard Busy x)
unfolding untold_track
busy_look at heard x = record { out = refl; attempt = busy_lookup at heard x x.attempt }

looked_fails : (s : WatchState) (q : Out) (reply : WatchReply) (terms : WatchTerms) → LookupFails s.presence.away s.clocks.at reply (track_at (replied (looked s q reply terms) q reply) q.entry)
looked_fails s q (Told seconds renewable date) terms = tt
looked_fails s q (Refused status date) terms =
    let y = untold_track s.clocks.at q.heard (Refused status date) (track_at s q.entry) in
    back_kept (λ z x. IsRefusedOrGoes s.clocks.at x → IsRefusedOrGoes s.clocks.at z) (λ x k. k) (λ x. back_lookup s.clocks.at x) (with_track s q.entry y) q (Refused status date) q.entry
    (set_holds (IsRefusedOrGoes s.clocks.at) (inl tt) s.tracks q.entry y (refused_look s.clocks.at q.heard status date (track_at s q.entry)))
looked_fails s q Busy terms =
    let y = untold_track s.clocks.at q.heard Busy (track_at s q.entry) in
    busy_left (with_track s q.entry y) q q.entry (set_holds IsLostNow none_lost s.tracks q.entry y (busy_look s.clocks.at q.heard (track_at s q.entry)))
looked_fails s q Lost terms =
    let y = untold_track s.clocks.at q.heard Lost (track_at s q.entry) in
    lost_stays (with_track s q.entry y) q q.entry (set_holds IsLostNow none_lost s.tracks q.entry y (lost_look s.clocks.at q.heard (track_at s q.entry)))

-- a turn
looked_step :
    (old new : WatchState) (found : Option Out) (i : ℕ) (reply : WatchReply) (terms : WatchTerms) (output : WatchOutput) → request_out old.out i Look ≡ found → StepLooked old found reply terms output new →
    LookupFails old.presence.away new.clocks.at reply (track_at new i)
looked_step old new None i reply terms output is step = absurd step
looked_step old new (Some q) i reply terms output is step =
    let s = noted old q reply in
    let clock : new.clocks.at ≡ s.clocks.at = ap (λ (x : WatchState). x.clocks.at) step.1 ∙ ap (λ (x : WatchState). x.clocks.at) (looked_leaves old q reply terms) in
    subst (λ at. LookupFails old.presence.away at reply (track_at new i)) (sym clock)
    (subst (λ k. LookupFails old.presence.away s.clocks.at reply (track_at new k)) (out_entry old.out i Look q is)
    (subst (λ (x : WatchState). LookupFails old.presence.away s.clocks.at reply (track_at x q.entry)) (sym step.1) (looked_fails s q reply terms)))

renewed_step :
    (old new : WatchState) (found : Option Out) (i : ℕ) (reply : WatchReply) (output : WatchOutput) → request_out old.out i Renew ≡ found → StepRenewed old found reply output new →
    RenewalFails old.presence.away reply (track_at new i)
renewed_step old new None i reply output is step = absurd step
renewed_step old new (Some q) i reply output is step =
    subst (λ k. RenewalFails old.presence.away reply (track_at new k)) (out_entry old.out i Renew q is)
    (subst (λ (x : WatchState). RenewalFails old.presence.away reply (track_at x q.entry)) (sym step.1) (renewed_fails (noted old q reply) q reply))

step_fails : (old new : WatchState) (event : WatchEvent) (output : WatchOutput) → Step old event output new → FailsTaken old event new
step_fails old new (Looked i reply terms) output step = looked_step old new (request_out old.out i Look) i reply terms output refl step
step_fails old new (Renewed i reply) output step = renewed_step old new (request_out old.out i Renew) i reply output refl step
step_fails old new _ output step = tt

turn_fails : (old new : WatchState) (event : WatchEvent) (result : Result WatchOutput WatchFault) → Turn old event result new → FailsRight old event result new
turn_fails old new event (Ok output) turn = step_fails old new event output turn.1
turn_fails old new event (Err fault) turn = tt

pub failed_so : FailedLaw
failed_so old [] h = tt
failed_so old (turn ∷ turns) h = (turn_fails old turn.state turn.event turn.result h.0, failed_so turn.state turns h.1)
