-- Granting: a grant is believed as it is told. For the law of grants that are told.
use Rattle.std.proofs.Common.{◌≡◌, ℕ, ◌<◌, Bool, true, Option, Some, None, Result, Ok, Err, length, refl, sym, subst, arith, true≢false}
use Rattle.std.proofs.lemmas.List.{get_or-set_same}
use Rattle.watch_machine.specs.{declared.command.WatchOutput.WatchOutput, declared.event.WatchEvent.WatchEvent, declared.event.WatchEvent.TheVariants.Renewed, declared.event.Operation.TheVariants.Renew}
use Rattle.watch_machine.specs.{declared.event.WatchReply.TheVariants.Told, declared.fault.WatchFault.WatchFault, declared.lanes.Out.Out, declared.track.Track.Track, History.Turn, Refusal.request_out, Step.Step, Step.StepRenewed}
use Rattle.watch_machine.specs.Answers.{back_track, noted, replied}
use Rattle.watch_machine.specs.Renewed.{from_try, granted_from, renewed_track, state_renewed}
use Rattle.watch_machine.specs.State.{WatchState, entry_of, no_track, track_at}
use Rattle.watch_machine.proofs.Within.{out_entry}
use Rattle.watch_laws.specs.{Absence.is_event_taken, Grants.GrantedLaw, Grants.IsGranted}
use Rattle.watch_laws.proofs.Tracking.{back_kept}

made : (step at seconds : ℕ) (renewable : Bool) (from' : ℕ) (x : Track) → IsGranted (granted_from step at seconds renewable from' x) seconds renewable
unfolding granted_from
made step at seconds renewable from' x = record { grant = record { seconds = seconds; from = from' }; last = refl; told = refl; ends = refl; goes_on = refl }

-- the broker's return leaves it
back_granted : (seconds : ℕ) (renewable : Bool) (x : Track) → IsGranted x seconds renewable → IsGranted (back_track x) seconds renewable
unfolding back_track
back_granted seconds renewable x h = record { grant = h.grant; last = h.last; told = h.told; ends = h.ends; goes_on = h.goes_on }

renewed_granted :
    (s : WatchState) (q : Out) (seconds : ℕ) (renewable : Bool) (date : Option ℕ) → q.entry < length s.tracks →
    IsGranted (track_at (replied (state_renewed s q (Told seconds renewable date)) q (Told seconds renewable date)) q.entry) seconds renewable
unfolding renewed_track
renewed_granted s q seconds renewable date within =
    let step = (entry_of s q.entry).step in
    let x = track_at s q.entry in
    let from' = from_try s.forest.margin step seconds s.clocks.at q.since x.attempt in
    back_kept (λ y z. IsGranted z seconds renewable → IsGranted y seconds renewable) (λ z h. h) (λ z. back_granted seconds renewable z) (state_renewed s q (Told seconds renewable date)) q
    (Told seconds renewable date) q.entry
    (subst (λ (y : Track). IsGranted y seconds renewable) (sym (get_or-set_same s.tracks q.entry (granted_from step s.clocks.at seconds renewable from' x) no_track within))
    (made step s.clocks.at seconds renewable from' x))

turn_granted :
    (old new : WatchState) (event : WatchEvent) (result : Result WatchOutput WatchFault) (i seconds : ℕ) (renewable : Bool) (date : Option ℕ) → Turn old event result new → i < length old.tracks →
    event ≡ Renewed i (Told seconds renewable date) → is_event_taken result ≡ true → IsGranted (track_at new i) seconds renewable
turn_granted old new event (Err fault) i seconds renewable date turn within told taken' = absurd (true≢false (sym taken'))
turn_granted old new event (Ok output) i seconds renewable date turn within told taken' = by (request_out old.out i Renew) refl (subst (λ e. Step old e output new) told turn.1) where
  by : (found : Option Out) → request_out old.out i Renew ≡ found → StepRenewed old found (Told seconds renewable date) output new → IsGranted (track_at new i) seconds renewable
  by None is step = absurd step
  by (Some q) is step =
      let s = noted old q (Told seconds renewable date) in
      let entry = out_entry old.out i Renew q is in
      subst (λ k. IsGranted (track_at new k) seconds renewable) entry
      (subst (λ (x : WatchState). IsGranted (track_at x q.entry) seconds renewable) (sym step.1) (renewed_granted s q seconds renewable date (omega (arith, entry, within))))

pub granted_so : GrantedLaw
granted_so old turn i seconds renewable date history within told taken' = turn_granted old turn.state turn.event turn.result i seconds renewable date history.0 within told taken'
