-- Ahead: a grant that is far enough leaves the time of its entry ahead of the second in which the request went out. For the law of grants.
use Rattle.std.proofs.Common.{◌≡◌, ◌∙◌, ℕ, ◌+◌, ◌-◌, ◌/◌, ◌<◌, ◌≤◌, Bool, true, Option, Some, None, IfSome, All, Result, Ok, Err, length, min, nat_lt, refl, sym, ap, subst, arith, true≢false}
use Rattle.std.proofs.lemmas.{Bool.Decides.nat_tests, List.get_or-set_same}
use Rattle.plan_forest.specs.{declared.entry.Entry.Entry, Forest.Forest, Forest.entry_at}
use Rattle.watch_machine.specs.{declared.command.WatchOutput.WatchOutput, declared.event.WatchEvent.WatchEvent, declared.event.WatchEvent.TheVariants.Renewed, declared.event.Operation.TheVariants.Renew}
use Rattle.watch_machine.specs.{declared.event.WatchReply.TheVariants.Told, declared.fault.WatchFault.WatchFault, declared.lanes.Out.Out, declared.track.End.TheVariants.At, declared.track.Track.Track, declared.track.Try.Try}
use Rattle.watch_machine.specs.{Answers.noted, Answers.replied, Clocks.sec, History.Turn, Outlook.time_of, Refusal.request_out, Step.Step, Step.StepRenewed}
use Rattle.watch_machine.specs.Margins.{asking_margin, own_by, own_margin, time, time_before}
use Rattle.watch_machine.specs.Renewed.{from_base, from_try, granted_from, renewed_track, state_renewed, time_from}
use Rattle.watch_machine.specs.State.{WatchState, entry_of, no_track, track_at}
use Rattle.watch_machine.proofs.{Cases.if_cases, Cases.of_value, Within.out_all, Within.out_entry}
use Rattle.watch_laws.specs.{Absence.is_event_taken, Time.AheadLaw}
use Rattle.watch_laws.proofs.{Bases.reached_base, Tracking.back_kept, Tracking.replied_forest, Trying.asking_least, Trying.own_same}
use Rattle.watch_laws.proofs.Lasting.{Bears, back_bears, same_bears}

-- the second from which a grant counts leaves the time two seconds after that of the request
from_far :
    (margin step seconds at since : ℕ) (o : Option Try) → since ≤ at → own_by margin (min step seconds) + 2 ≤ seconds →
    sec since + 2 ≤ (sec (from_try margin step seconds at since o) + seconds) - own_by margin (min step seconds)
unfolding sec
from_far margin step seconds at since None le far = omega (arith, far)
from_far margin step seconds at since (Some t) le far = by t.base where
  by : (b : Option ℕ) → since / 1000 + 2 ≤ ((from_base margin step seconds at since b) / 1000 + seconds) - own_by margin (min step seconds)
  by None = omega (arith, far)
  by (Some base) =
      if_cases (λ n. since / 1000 + 2 ≤ (n / 1000 + seconds) - own_by margin (min step seconds)) (nat_lt (at / 1000 + 1) (time_from margin step seconds (base / 1000))) base since
      (λ yes'. let late : at / 1000 + 1 < time_from margin step seconds (base / 1000) = grind (arith, nat_tests) in omega (arith, late, le)) (λ no'. omega (arith, far))

-- the own margin of a track after it, and its end
granted_own :
    (margin : ℕ) (e : Entry) (at seconds : ℕ) (renewable : Bool) (from' : ℕ) (x : Track) →
    ((granted_from e.step at seconds renewable from' x).end ≡ At (sec from' + seconds)) × (own_margin margin e (granted_from e.step at seconds renewable from' x) ≡ own_by margin (min e.step seconds))
unfolding own_margin granted_from
granted_own margin e at seconds renewable from' x = (refl, refl)

-- a time comes no sooner than the own margin before the end
time_least : (margin : ℕ) (e : Entry) (x : Track) (end : ℕ) → x.end ≡ At end → end - own_margin margin e x ≤ time margin e x
unfolding time
time_least margin e x end is =
    let asking = asking_margin margin e x in
    let own = own_margin margin e x in
    let less = asking_least margin e x in
    let at : time_before x.end asking ≡ end - asking = ap (λ it. time_before it asking) is in
    omega (arith, less, at)

-- an own margin is by what a track bears
bears_own : (margin : ℕ) (e : Entry) (y x : Track) → Bears y x → own_margin margin e y ≡ own_margin margin e x
bears_own margin e y x h = own_same margin margin e e y x refl refl h.1.0

renewed_far :
    (s new : WatchState) (q : Out) (seconds : ℕ) (renewable : Bool) (date : Option ℕ) (i : ℕ) → new ≡ replied (state_renewed s q (Told seconds renewable date)) q (Told seconds renewable date) → q.entry ≡ i → i < length s.tracks →
    q.since ≤ s.clocks.at → own_margin new.forest.margin (entry_of new i) (track_at new i) + 2 ≤ seconds → sec q.since + 2 ≤ time_of new i
unfolding renewed_track
renewed_far s new q seconds renewable date i is own within before far =
    let reply = Told seconds renewable date in
    let mid = state_renewed s q reply in
    let g = s.forest in
    let e = entry_of s i in
    let x = track_at s i in
    let from' = from_try g.margin e.step seconds s.clocks.at q.since x.attempt in
    let made = granted_from e.step s.clocks.at seconds renewable from' x in
    let there : track_at mid i ≡ made =
    subst (λ k. track_at mid k ≡ granted_from (entry_of s k).step s.clocks.at seconds renewable (from_try g.margin (entry_of s k).step seconds s.clocks.at q.since (track_at s k).attempt) (track_at s k)) own
    (get_or-set_same s.tracks q.entry (granted_from (entry_of s q.entry).step s.clocks.at seconds renewable (from_try g.margin (entry_of s q.entry).step seconds s.clocks.at q.since (track_at s q.entry).attempt) (track_at s q.entry)) no_track
    (omega (arith, own, within))) in
    let bears : Bears (track_at new i) made =
    subst (λ (y : Track). Bears (track_at new i) y) there (subst (λ (y : WatchState). Bears (track_at y i) (track_at mid i)) (sym is) (back_kept Bears same_bears back_bears mid q reply i)) in
    let forest : new.forest ≡ g = ap (λ (y : WatchState). y.forest) is ∙ replied_forest mid q reply in
    let same = bears_own g.margin e (track_at new i) made bears in
    let is_time = granted_own g.margin e s.clocks.at seconds renewable from' x in
    let t : time_of new i ≡ time g.margin e (track_at new i) = ap (λ (h : Forest). time h.margin (entry_at h.entries i) (track_at new i)) forest in
    let o : own_margin new.forest.margin (entry_of new i) (track_at new i) ≡ own_margin g.margin e (track_at new i) = ap (λ (h : Forest). own_margin h.margin (entry_at h.entries i) (track_at new i)) forest in
    let own0 = is_time.1 in
    let least = time_least g.margin e (track_at new i) (sec from' + seconds) (bears.0 ∙ is_time.0) in
    let late = from_far g.margin e.step seconds s.clocks.at q.since x.attempt before (omega (arith, far, o, same, own0)) in
    omega (arith, late, t, same, own0, least)

turn_far :
    (width n : ℕ) (old new : WatchState) (event : WatchEvent) (result : Result WatchOutput WatchFault) (i seconds : ℕ) (renewable : Bool) (date : Option ℕ) → Turn old event result new → is_event_taken result ≡ true →
    event ≡ Renewed i (Told seconds renewable date) → i < length old.tracks → All (λ (q : Out). q.since ≤ old.clocks.at) old.out →
    own_margin new.forest.margin (entry_of new i) (track_at new i) + 2 ≤ seconds → IfSome (request_out old.out i Renew) (λ (q : Out). sec q.since + 2 ≤ time_of new i)
turn_far width n old new event (Err fault) i seconds renewable date turn taken' told within now far = absurd (true≢false (sym taken'))
turn_far width n old new event (Ok output) i seconds renewable date turn taken' told within now far = by (request_out old.out i Renew) refl (subst (λ e. Step old e output new) told turn.1) where
  by : (found : Option Out) → request_out old.out i Renew ≡ found → StepRenewed old found (Told seconds renewable date) output new → IfSome found (λ (q : Out). sec q.since + 2 ≤ time_of new i)
  by None is step = tt
  by (Some q) is step =
      renewed_far (noted old q (Told seconds renewable date)) new q seconds renewable date i step.1 (out_entry old.out i Renew q is) within
      (of_value (λ (r : Out). r.since ≤ old.clocks.at) (request_out old.out i Renew) q (out_all (λ (r : Out). r.since ≤ old.clocks.at) old.out i Renew now) is) far

pub grants_far : AheadLaw
grants_far old grant i seconds renewable date reached h within told taken' far =
    let base = reached_base old reached in
    let count = base.count in
    turn_far old.width (length old.forest.entries) old grant.state grant.event grant.result i seconds renewable date h.0 taken' told (omega (arith, count, within)) base.since far
