-- Lasting: what stays of an entry while its requests are lost. For the law of outages.
use Rattle.std.proofs.Common.{◌≡◌, ◌≢◌, ◌∙◌, ℕ, zero, suc, Bool, true, false, min, ◌&&◌, ◌||◌, ◌==◌, if◌then◌else◌, List, [], ◌∷◌, Option, Some, None, IfSome, Result, Ok, Err, length, refl, sym, ap, subst, inl, inr, true≢false, ◌≤◌}
use Rattle.std.proofs.lemmas.{Bool.cases_Bool, Bool.eqb-true, List.get_or-set_other, List.length-set}
use Rattle.std.specs.List.{list_any}
use Rattle.std.specs.Prelude.{slice_set}
use Rattle.base_moment.specs.declared.moment.TheConstants.{LAST}
use Rattle.plan_forest.specs.declared.entry.Entry.{Entry}
use Rattle.plan_forest.specs.Forest.{Forest, entry_at, no_entry}
use Rattle.watch_machine.specs.{declared.command.WatchOutput.WatchOutput, declared.command.WatchRequest.WatchRequest, declared.event.WatchEvent.WatchEvent, declared.event.WatchReply.WatchReply, declared.event.WatchTerms.WatchTerms}
use Rattle.watch_machine.specs.{declared.fault.WatchFault.WatchFault, declared.lanes.Out.Out, declared.notes.BeginReason.BeginReason, declared.track.Track.Track, Clocks.sec, History.Turn, Outlook.time_of, Refusal.request_out}
use Rattle.watch_machine.specs.declared.event.WatchEvent.TheVariants.{Clock, Looked, Renewed, Need, Begin, Known}
use Rattle.watch_machine.specs.declared.event.Operation.TheVariants.{Look, Renew}
use Rattle.watch_machine.specs.declared.event.WatchReply.TheVariants.{Told, Refused, Busy, Lost}
use Rattle.watch_machine.specs.Answers.{back_track, noted, replied}
use Rattle.watch_machine.specs.Beginning.{begun, is_called, is_start, owing, owing_lookup, soon, sooner_try, untopped, untopped_track}
use Rattle.watch_machine.specs.Looked.{by_terms, looked, untold_track}
use Rattle.watch_machine.specs.Press.{asked_track, dropped, is_fresh, press, pressed, pressed_alone, pressed_track, track_asked_in}
use Rattle.watch_machine.specs.Renewed.{renewed_track, state_renewed, ungranted_track}
use Rattle.watch_machine.specs.Sending.{sent, sent_in, sent_track}
use Rattle.watch_machine.specs.Settling.{settled, settled_track, timed}
use Rattle.watch_machine.specs.State.{WatchState, entry_of, has_last_try, no_track, track_at, track_in}
use Rattle.watch_machine.specs.Step.{Step, StepLooked, StepRenewed, known, readied, why, with_need_until}
use Rattle.watch_machine.specs.Wanted.{is_open, need_of, wants}
use Rattle.watch_machine.proofs.{Cases.if_both, Cases.not_both, Within.out_entry}
use Rattle.watch_laws.specs.Presence.{is_told}
use Rattle.watch_laws.specs.Outage.{IsLived, Outage, TellsNothing}
use Rattle.watch_laws.proofs.{Clocking.refused_stays, Lanes.Ticks, Lanes.ticks, Spacing.looked_other, Spacing.same_index, Trying.time_sooner}
use Rattle.watch_laws.proofs.Tracking.{back_kept, each_kept, replied_forest, set_kept}

-- the end, the last grant, what is owed, and whether there is a last try
abbrev pub Bears : Track → Track → Type 0
Bears y x = (y.end ≡ x.end) × ((y.grant ≡ x.grant) × ((y.owes ≡ x.owes) × (has_last_try y ≡ has_last_try x)))

pub same_bears : (x : Track) → Bears x x
same_bears x = (refl, (refl, (refl, refl)))

-- the end and the last grant; and there is a last try only where there was one
abbrev pub Ends : Track → Track → Type 0
Ends y x = (y.end ≡ x.end) × ((y.grant ≡ x.grant) × (has_last_try y ≡ true → has_last_try x ≡ true))

pub same_ends : (x : Track) → Ends x x
same_ends x = (refl, (refl, λ tries. tries))

both_end : (z y x : Track) → Ends z y → Ends y x → Ends z x
both_end z y x h k = (h.0 ∙ k.0, (h.1.0 ∙ k.1.0, λ tries. k.1.1 (h.1.1 tries)))

bears_end : (y x : Track) → Bears y x → Ends y x
bears_end y x h = (h.0, (h.1.0, λ tries. sym h.1.1.1 ∙ tries))

pub both_bear : (z y x : Track) → Bears z y → Bears y x → Bears z x
both_bear z y x h k = (h.0 ∙ k.0, (h.1.0 ∙ k.1.0, (h.1.1.0 ∙ k.1.1.0, h.1.1.1 ∙ k.1.1.1)))

settled_bears : (margin at : ℕ) (x : Track) → Bears (settled_track margin at x) x
unfolding settled_track
settled_bears margin at x = (refl, (refl, (refl, refl)))

pressed_bears : (margin : ℕ) (e : Entry) (need at : ℕ) (x : Track) → Bears (pressed_track margin e need at x) x
unfolding pressed_track
pressed_bears margin e need at x =
    if_both (λ y. Bears y x) (is_fresh margin e x need (sec at)) (record x { attempt = Some (press at x) }) (if wants x need || x.out then x else record x { attempt = dropped x x.attempt })
    (refl, (refl, (refl, refl))) (if_both (λ y. Bears y x) (wants x need || x.out) x (record x { attempt = dropped x x.attempt }) (refl, (refl, (refl, refl))) (refl, (refl, (refl, refl))))

asked_bears : (at : ℕ) (round : List ℕ) (i : ℕ) (x : Track) → Bears (track_asked_in at round i x) x
unfolding asked_track
asked_bears at round i x =
    if_both (λ y. Bears y x) (list_any (λ j. j == i) round) (asked_track at x) x
    (if_both (λ y. Bears y x) x.out x (record x { attempt = Some (press at x) }) (refl, (refl, (refl, refl))) (refl, (refl, (refl, refl)))) (refl, (refl, (refl, refl)))

pub sent_bears : (at : ℕ) (requests : List WatchRequest) (i : ℕ) (x : Track) → Bears (sent_in at requests i x) x
sent_bears at requests i x = if_both (λ y. Bears y x) (list_any (λ (r : WatchRequest). r.entry == i) requests) (sent_track at x) x (refl, (refl, (refl, refl))) (refl, (refl, (refl, refl)))

pub back_bears : (x : Track) → Bears (back_track x) x
unfolding back_track
back_bears x = (refl, (refl, (refl, refl)))

ungranted_ends : (at : ℕ) (heard : Bool) (reply : WatchReply) (x : Track) → Ends (ungranted_track at heard reply x) x
unfolding ungranted_track
ungranted_ends at heard reply x = (refl, (refl, λ tries. tries))

untold_ends : (at : ℕ) (heard : Bool) (reply : WatchReply) (x : Track) → Ends (untold_track at heard reply x) x
unfolding untold_track
untold_ends at heard reply x = (refl, (refl, λ tries. tries))

-- a beginning
owing_ends : (at : ℕ) (first called : Bool) (x : Track) → Ends (owing at first called x) x
unfolding owing
owing_ends at first called x =
    if_both (λ y. Ends y x) (called && (first || is_open (sec at) x)) (owing_lookup at x) x
    (if_both (λ y. Ends y x) x.out (record x { owes = true }) (record x { owes = true; attempt = Some (sooner_try (soon at x) x.attempt) }) (same_ends x) (same_ends x)) (same_ends x)

begun_ends : (s : WatchState) (w : Option BeginReason) (i : ℕ) → Ends (track_at (begun s w) i) (track_at s i)
begun_ends s None i = same_ends (track_at s i)
begun_ends s (Some w) i =
    let xs = untopped s.tracks in
    both_end (track_at (begun s (Some w)) i) (track_in xs i) (track_at s i)
    (each_kept Ends (same_ends no_track) (λ j. owing s.clocks.at (is_start w) (is_called s.forest xs s.clocks j)) xs (λ j x. owing_ends s.clocks.at (is_start w) (is_called s.forest xs s.clocks j) x) i)
    (each_kept Ends (same_ends no_track) (λ j. untopped_track) s.tracks (λ j x. (refl, (refl, λ tries. absurd cc))) i)

-- a clock at which nothing begins anew
pub calm_ready : (s : WatchState) (wall elapsed : ℕ) → why s wall elapsed ≡ None → readied s wall elapsed ≡ settled (timed s wall elapsed)
unfolding readied
calm_ready s wall elapsed none = ap (begun (settled (timed s wall elapsed))) none

pub mid_bears : (s : WatchState) (round : List ℕ) (i : ℕ) → Bears (track_at (pressed s round) i) (track_at s i)
mid_bears s round i =
    let c = s.clocks in
    let g = s.forest in
    let alone = pressed_alone g c s.tracks in
    both_bear (track_at (pressed s round) i) (track_in alone i) (track_at s i)
    (each_kept Bears (same_bears no_track) (track_asked_in c.at round) alone (asked_bears c.at round) i)
    (each_kept Bears (same_bears no_track) (λ j. pressed_track g.margin (entry_at g.entries j) (need_of g.entries s.tracks c j) c.at) s.tracks
    (λ j x. pressed_bears g.margin (entry_at g.entries j) (need_of g.entries s.tracks c j) c.at x) i)

pub clock_bears : (old new : WatchState) (wall elapsed : ℕ) (output : WatchOutput) (i : ℕ) → Ticks old new wall elapsed output → why old wall elapsed ≡ None → Bears (track_at new i) (track_at old i)
clock_bears old new wall elapsed output i h none =
    let t = timed old wall elapsed in
    let ready = readied old wall elapsed in
    let mid = pressed ready h.round in
    let calm = calm_ready old wall elapsed none in
    subst (λ (x : WatchState). Bears (track_at x i) (track_at old i)) (sym h.new_is)
    (both_bear (track_at (sent mid h.requests) i) (track_at mid i) (track_at old i)
    (each_kept Bears (same_bears no_track) (sent_in mid.clocks.at h.requests) mid.tracks (λ j x. sent_bears mid.clocks.at h.requests j x) i)
    (both_bear (track_at mid i) (track_at ready i) (track_at old i) (mid_bears ready h.round i)
    (subst (λ (x : WatchState). Bears (track_at x i) (track_at old i)) (sym calm)
    (each_kept Bears (same_bears no_track) (λ j. settled_track t.forest.margin t.clocks.at) t.tracks (λ j x. settled_bears t.forest.margin t.clocks.at x) i))))

-- any clock
clock_ends : (old new : WatchState) (wall elapsed : ℕ) (output : WatchOutput) (i : ℕ) → Ticks old new wall elapsed output → Ends (track_at new i) (track_at old i)
unfolding readied
clock_ends old new wall elapsed output i h =
    let t = timed old wall elapsed in
    let ready = readied old wall elapsed in
    let mid = pressed ready h.round in
    subst (λ (x : WatchState). Ends (track_at x i) (track_at old i)) (sym h.new_is)
    (both_end (track_at (sent mid h.requests) i) (track_at mid i) (track_at old i)
    (bears_end (track_at (sent mid h.requests) i) (track_at mid i) (each_kept Bears (same_bears no_track) (sent_in mid.clocks.at h.requests) mid.tracks (λ j x. sent_bears mid.clocks.at h.requests j x) i))
    (both_end (track_at mid i) (track_at ready i) (track_at old i) (bears_end (track_at mid i) (track_at ready i) (mid_bears ready h.round i))
    (both_end (track_at ready i) (track_at (settled t) i) (track_at old i) (begun_ends (settled t) (why old wall elapsed) i)
    (each_kept Ends (same_ends no_track) (λ j. settled_track t.forest.margin t.clocks.at) t.tracks (λ j x. bears_end (settled_track t.forest.margin t.clocks.at x) x (settled_bears t.forest.margin t.clocks.at x)) i))))

begun_forest : (s : WatchState) (w : Option BeginReason) → (begun s w).forest ≡ s.forest
begun_forest s None = refl
begun_forest s (Some w) = refl

pub clock_forest : (old new : WatchState) (wall elapsed : ℕ) (output : WatchOutput) → Ticks old new wall elapsed output → new.forest ≡ old.forest
unfolding readied
clock_forest old new wall elapsed output h = ap (λ (x : WatchState). x.forest) h.new_is ∙ begun_forest (settled (timed old wall elapsed)) (why old wall elapsed)

-- what stays of an entry, and of the forest
pub record Same (i : ℕ) (old new : WatchState) : Type 0 where
  pub count : length new.forest.entries ≡ length old.forest.entries
  pub margin : new.forest.margin ≡ old.forest.margin
  pub step : (entry_of new i).step ≡ (entry_of old i).step
  pub ends : Ends (track_at new i) (track_at old i)

pub same_first : (i : ℕ) (s : WatchState) → Same i s s
same_first i s = record { count = refl; margin = refl; step = refl; ends = same_ends (track_at s i) }

-- so its time comes no later
pub same_time : (i : ℕ) (old new : WatchState) → Same i old new → time_of new i ≤ time_of old i
same_time i old new h = time_sooner new.forest.margin old.forest.margin (entry_of new i) (entry_of old i) (track_at new i) (track_at old i) h.margin h.step h.ends.0 h.ends.1.0 h.ends.1.1

-- an entry that is written anew with the same step
entry_kept : (es : List Entry) (j : ℕ) (e : Entry) (i : ℕ) → e.step ≡ (entry_at es j).step → (entry_at (slice_set es j e) i).step ≡ (entry_at es i).step
unfolding entry_at
entry_kept [] j e i h = refl
entry_kept (x ∷ es) zero e zero h = h
entry_kept (x ∷ es) (suc j) e (suc i) h = entry_kept es j e i h
entry_kept (x ∷ es) _ e _ h = refl

entry_other : (es : List Entry) (j : ℕ) (e : Entry) (i : ℕ) → i ≢ j → entry_at (slice_set es j e) i ≡ entry_at es i
unfolding entry_at
entry_other es j e i apart = get_or-set_other es j i e no_entry apart

-- the answer to a lookup: of another, or such as tells nothing
looked_forest :
    (s : WatchState) (q : Out) (reply : WatchReply) (terms : WatchTerms) (i : ℕ) → (q.entry ≡ i → is_told reply ≡ false) →
    (length (looked s q reply terms).forest.entries ≡ length s.forest.entries) × (((looked s q reply terms).forest.margin ≡ s.forest.margin) × ((entry_of (looked s q reply terms) i).step ≡ (entry_of s i).step))
looked_forest s q (Told seconds renewable date) terms i untold' =
    let e = by_terms s.forest.margin terms (entry_of s q.entry) in
    (length-set s.forest.entries q.entry e, (refl, ap (λ (x : Entry). x.step) (entry_other s.forest.entries q.entry e i (λ is. absurd (true≢false (untold' (sym is)))))))
looked_forest s q _ terms i untold' = (refl, (refl, refl))

replied_same : (i : ℕ) (old mid new : WatchState) (q : Out) (reply : WatchReply) → new ≡ replied mid q reply → Same i old mid → Same i old new
replied_same i old mid new q reply is h =
    let forest = ap (λ (x : WatchState). x.forest) is ∙ replied_forest mid q reply in
    let bears = subst (λ (x : WatchState). Bears (track_at x i) (track_at mid i)) (sym is) (back_kept Bears same_bears back_bears mid q reply i) in
    record {
      count = ap (λ (g : Forest). length g.entries) forest ∙ h.count;
      margin = ap (λ (g : Forest). g.margin) forest ∙ h.margin;
      step = ap (λ (g : Forest). (entry_at g.entries i).step) forest ∙ h.step;
      ends = both_end (track_at new i) (track_at mid i) (track_at old i) (bears_end (track_at new i) (track_at mid i) bears) h.ends;
    }

apart_from : (j i : ℕ) → (j == i) ≡ false → j ≢ i
apart_from j i different e = not_both (subst (λ n. (n == i) ≡ true) (sym e) (same_index i)) different

untold_look_ends : (t : WatchState) (r : Out) (reply : WatchReply) (terms : WatchTerms) (k : ℕ) → is_told reply ≡ false → Ends (track_at (looked t r reply terms) k) (track_at t k)
untold_look_ends t r (Told seconds renewable date) terms k untold' = absurd (true≢false untold')
untold_look_ends t r (Refused status date) terms k untold' = set_kept Ends same_ends t.tracks r.entry _ (untold_ends t.clocks.at r.heard (Refused status date) (track_at t r.entry)) k
untold_look_ends t r Busy terms k untold' = set_kept Ends same_ends t.tracks r.entry _ (untold_ends t.clocks.at r.heard Busy (track_at t r.entry)) k
untold_look_ends t r Lost terms k untold' = set_kept Ends same_ends t.tracks r.entry _ (untold_ends t.clocks.at r.heard Lost (track_at t r.entry)) k

looked_ends : (s : WatchState) (q : Out) (reply : WatchReply) (terms : WatchTerms) (i : ℕ) → (q.entry ≡ i → is_told reply ≡ false) → Ends (track_at (looked s q reply terms) i) (track_at s i)
looked_ends s q reply terms i untold' =
    elim (cases_Bool (q.entry == i)) [
      | inl same ↦ untold_look_ends s q reply terms i (untold' (eqb-true q.entry i same))
      | inr different ↦ subst (λ x. Ends x (track_at s i)) (sym (looked_other s q reply terms i (apart_from q.entry i different))) (same_ends (track_at s i))
    ]

looked_same :
    (o : Outage) (i j : ℕ) (old new : WatchState) (found : Option Out) (reply : WatchReply) (terms : WatchTerms) (output : WatchOutput) → request_out old.out j Look ≡ found → StepLooked old found reply terms output new →
    (j ≡ i → IfSome found (TellsNothing o reply)) → Same i old new
looked_same o i j old new None reply terms output is step untold' = absurd step
looked_same o i j old new (Some q) reply terms output is step untold' =
    let s = noted old q reply in
    let entry = out_entry old.out j Look q is in
    let own : q.entry ≡ i → is_told reply ≡ false = λ e. (untold' (sym entry ∙ e)).0 in
    let forest = looked_forest s q reply terms i own in
    replied_same i old (looked s q reply terms) new q reply step.1
    (record { count = forest.0; margin = forest.1.0; step = forest.1.1; ends = looked_ends s q reply terms i own })

untold_renewal_ends : (t : WatchState) (r : Out) (reply : WatchReply) (k : ℕ) → is_told reply ≡ false → Ends (track_at (state_renewed t r reply) k) (track_at t k)
unfolding renewed_track
untold_renewal_ends t r (Told seconds renewable date) k untold' = absurd (true≢false untold')
untold_renewal_ends t r (Refused status date) k untold' = set_kept Ends same_ends t.tracks r.entry _ (ungranted_ends t.clocks.at r.heard (Refused status date) (track_at t r.entry)) k
untold_renewal_ends t r Busy k untold' = set_kept Ends same_ends t.tracks r.entry _ (ungranted_ends t.clocks.at r.heard Busy (track_at t r.entry)) k
untold_renewal_ends t r Lost k untold' = set_kept Ends same_ends t.tracks r.entry _ (ungranted_ends t.clocks.at r.heard Lost (track_at t r.entry)) k

renewed_ends : (s : WatchState) (q : Out) (reply : WatchReply) (i : ℕ) → (q.entry ≡ i → is_told reply ≡ false) → Ends (track_at (state_renewed s q reply) i) (track_at s i)
renewed_ends s q reply i untold' =
    elim (cases_Bool (q.entry == i)) [
      | inl same ↦ untold_renewal_ends s q reply i (untold' (eqb-true q.entry i same))
      | inr different ↦
          let apart = apart_from q.entry i different in
          subst (λ x. Ends x (track_at s i)) (sym (get_or-set_other s.tracks q.entry i _ no_track (λ e. apart (sym e)))) (same_ends (track_at s i))
    ]

renewed_same :
    (o : Outage) (i j : ℕ) (old new : WatchState) (found : Option Out) (reply : WatchReply) (output : WatchOutput) → request_out old.out j Renew ≡ found → StepRenewed old found reply output new →
    (j ≡ i → IfSome found (TellsNothing o reply)) → Same i old new
renewed_same o i j old new None reply output is step untold' = absurd step
renewed_same o i j old new (Some q) reply output is step untold' =
    let s = noted old q reply in
    let entry = out_entry old.out j Renew q is in
    replied_same i old (state_renewed s q reply) new q reply step.1
    (record { count = refl; margin = refl; step = refl; ends = renewed_ends s q reply i (λ own. (untold' (sym entry ∙ own)).0) })

-- an end that an earlier watch told of another
pub known_other : (s : WatchState) (j end : ℕ) (renewable : Bool) (i : ℕ) → j ≢ i → track_at (known s j end renewable) i ≡ track_at s i
known_other s j end renewable i apart = get_or-set_other s.tracks j i _ no_track (λ e. apart (sym e))

needed_step : (s : WatchState) (j until i : ℕ) → (entry_of (with_need_until s j until) i).step ≡ (entry_of s i).step
needed_step s j until i = entry_kept s.forest.entries j (record (entry_of s j) { need = min LAST until }) i refl

-- a turn
step_same : (o : Outage) (i due : ℕ) (old new : WatchState) (event : WatchEvent) (output : WatchOutput) → Step old event output new → IsLived o i due old event (Ok output) → Same i old new
step_same o i due old new (Clock wall elapsed) output step lived =
    let h = ticks old new wall elapsed output step in
    let forest = clock_forest old new wall elapsed output h in
    record {
      count = ap (λ (g : Forest). length g.entries) forest;
      margin = ap (λ (g : Forest). g.margin) forest;
      step = ap (λ (g : Forest). (entry_at g.entries i).step) forest;
      ends = clock_ends old new wall elapsed output i h;
    }
step_same o i due old new (Looked j reply terms) output step lived = looked_same o i j old new (request_out old.out j Look) reply terms output refl step lived.1
step_same o i due old new (Renewed j reply) output step lived = renewed_same o i j old new (request_out old.out j Renew) reply output refl step lived.1
step_same o i due old new (Need j until) output step lived =
    subst (Same i old) (sym step.1) (record { count = length-set old.forest.entries j _; margin = refl; step = needed_step old j until i; ends = same_ends (track_at old i) })
step_same o i due old new Begin output step lived = subst (Same i old) (sym step.1) (record { count = refl; margin = refl; step = refl; ends = same_ends (track_at old i) })
step_same o i due old new (Known j end renewable) output step lived =
    subst (Same i old) (sym step.1)
    (record { count = refl; margin = refl; step = refl; ends = subst (λ x. Ends x (track_at old i)) (sym (known_other old j end renewable i lived)) (same_ends (track_at old i)) })

pub turn_same : (o : Outage) (i due : ℕ) (old new : WatchState) (event : WatchEvent) (result : Result WatchOutput WatchFault) → Turn old event result new → IsLived o i due old event result → Same i old new
turn_same o i due old new event (Ok output) turn lived = step_same o i due old new event output turn.1 lived
turn_same o i due old new event (Err fault) turn lived = subst (Same i old) (sym (refused_stays old new event fault turn)) (same_first i old)
