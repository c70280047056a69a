-- Owed: an entry of which a lookup is owed, or whose request is out, has a try. For the law of owed lookups.
use Rattle.std.proofs.Common.{◌≡◌, ◌⊎◌, ◌∙◌, ℕ, zero, suc, ◌+◌, ◌-◌, ◌<◌, Bool, true, false, max, not, ◌&&◌, ◌||◌, ◌==◌, if◌then◌else◌, List, [], ◌∷◌, Option, Some, None, Result, Ok, Err, is_none, is_some, length, map, nat_le, nat_lt, refl, sym, ap, subst, inl, inr, true≢false}
use Rattle.std.proofs.lemmas.Bool.{and_parts, cases_Bool, cond-false, cond-true, or_parts}
use Rattle.std.specs.List.{list_any}
use Rattle.plan_forest.specs.{declared.entry.Entry.Entry, Forest.entry_at}
use Rattle.watch_machine.specs.{declared.command.WatchCommand.WatchCommand, declared.command.WatchOutput.WatchOutput, declared.command.WatchRequest.WatchRequest, declared.event.WatchEvent.WatchEvent, declared.event.WatchReply.WatchReply}
use Rattle.watch_machine.specs.{declared.event.WatchTerms.WatchTerms, declared.fault.WatchFault.WatchFault, declared.lanes.Out.Out, declared.lanes.Presence.Presence, declared.notes.BeginReason.BeginReason, declared.track.Track.Track}
use Rattle.watch_machine.specs.{declared.track.Try.Try, Clocks.sec, Pauses.pause, Refusal.request_out, Round.asked_by_round as round_of, Wait.wait}
use Rattle.watch_machine.specs.declared.command.WatchCommand.TheVariants.{Go, Taken}
use Rattle.watch_machine.specs.declared.event.WatchEvent.TheVariants.{Clock, Looked, Renewed, Known}
use Rattle.watch_machine.specs.declared.event.Operation.TheVariants.{Look, Renew}
use Rattle.watch_machine.specs.declared.event.WatchReply.TheVariants.{Told, Refused, Busy, Lost}
use Rattle.watch_machine.specs.Answers.{back_track, back_try, due_again, failing, noted}
use Rattle.watch_machine.specs.Beginning.{begun, is_called, is_start, owed, owing, owing_lookup, owing_past, soon, sooner_try, untopped, untopped_track}
use Rattle.watch_machine.specs.History.{History, Turn, Turned}
use Rattle.watch_machine.specs.Lines.{is_due, is_due_try, rested}
use Rattle.watch_machine.specs.Looked.{looked, status_of, told_state, told_track, untold, untold_track}
use Rattle.watch_machine.specs.Press.{asked_track, dropped, is_fresh, let_go, press, pressed, pressed_alone, pressed_track, track_asked_in}
use Rattle.watch_machine.specs.Renewed.{from_try, granted_from, granted_try, renewed_track, state_renewed, ungranted, ungranted_track}
use Rattle.watch_machine.specs.Sending.{sent, sent_in, sent_track}
use Rattle.watch_machine.specs.Settling.{settled, settled_track, settled_try, timed}
use Rattle.watch_machine.specs.State.{WatchState, attempt_at, entry_of, fresh_track, no_track, track_at, track_in}
use Rattle.watch_machine.specs.Step.{Step, StepClock, StepCommand, StepLooked, StepRenewed, readied, told_earlier, why}
use Rattle.watch_machine.specs.Wanted.{is_open, need_of, wants}
use Rattle.watch_machine.proofs.Cases.{if_both, if_cases, not_both}
use Rattle.watch_laws.specs.Waiting.{AllOwed, HasTry, OwedRight, OwesRight, RequestIsOut}
use Rattle.watch_laws.proofs.{Clocking.refused_stays, Minding.has_try}
use Rattle.watch_laws.proofs.Going.{Goes, goes, named_of, one_sent}
use Rattle.watch_laws.proofs.Tracking.{back_kept, each_holds, each_kept, known_is, set_holds, set_kept}

-- there is a try where a lookup is owed, and where the request is out
pub record Tries (x : Track) : Type 0 where
  pub owed : x.owes ≡ true → is_some x.attempt ≡ true
  pub out : x.out ≡ true → is_some x.attempt ≡ true

abbrev Still : Track → Track → Type 0
Still y x = Tries x → Tries y

-- a try stays one
settled_some : (margin at : ℕ) (x : Track) (o : Option Try) → is_some o ≡ true → is_some (settled_try margin at x o) ≡ true
settled_some margin at x None h = h
settled_some margin at x (Some t) h =
    if_both (λ (o : Option Try). is_some o ≡ true) t.failed (Some (record t { at = at + pause margin at x t; alone = t.alone && nat_le (rested x.last) at; failed = false })) (Some t) refl refl

settled_tries : (margin at : ℕ) (x : Track) → Still (settled_track margin at x) x
unfolding settled_track
settled_tries margin at x h = record { owed = λ o. settled_some margin at x x.attempt (h.owed o); out = λ o. settled_some margin at x x.attempt (h.out o) }

owing_tries : (at : ℕ) (first called : Bool) (x : Track) → Still (owing at first called x) x
unfolding owing
owing_tries at first called x h =
    if_both Tries (called && (first || is_open (sec at) x)) (owing_lookup at x) x
    (if_cases Tries x.out (record x { owes = true }) (record x { owes = true; attempt = Some (sooner_try (soon at x) x.attempt) })
    (λ out. record { owed = λ o. h.out out; out = h.out }) (λ free. record { owed = λ o. refl; out = λ o. refl })) h

dropped_some : (x : Track) (o : Option Try) → x.owes ≡ true → is_some o ≡ true → is_some (dropped x o) ≡ true
dropped_some x None owes h = h
dropped_some x (Some t) owes h =
    if_both (λ (o : Option Try). is_some o ≡ true) t.pressed (let_go x t) (Some t)
    (if_cases (λ (o : Option Try). is_some o ≡ true) x.owes (Some (record t { at = max t.at (rested x.last); operation = Look; pressed = false })) None (λ e. refl)
    (λ e. absurd (not_both owes e))) refl

pressed_tries : (margin : ℕ) (e : Entry) (need at : ℕ) (x : Track) → Still (pressed_track margin e need at x) x
unfolding pressed_track
pressed_tries margin e need at x h =
    if_both Tries (is_fresh margin e x need (sec at)) (record x { attempt = Some (press at x) }) (if wants x need || x.out then x else record x { attempt = dropped x x.attempt })
    (record { owed = λ o. refl; out = λ o. refl })
    (if_cases Tries (wants x need || x.out) x (record x { attempt = dropped x x.attempt }) (λ e'. h)
    (λ let_go'. record { owed = λ o. dropped_some x x.attempt o (h.owed o); out = λ o. absurd (not_both o (or_parts (wants x need) x.out let_go').1) }))

asked_tries : (at : ℕ) (round : List ℕ) (i : ℕ) (x : Track) → Still (track_asked_in at round i x) x
unfolding asked_track
asked_tries at round i x h =
    if_both Tries (list_any (λ j. j == i) round) (asked_track at x) x
    (if_both Tries x.out x (record x { attempt = Some (press at x) }) h (record { owed = λ o. refl; out = λ o. refl })) h

begun_tries : (s : WatchState) (w : Option BeginReason) (i : ℕ) → Still (track_at (begun s w) i) (track_at s i)
begun_tries s None i h = h
begun_tries s (Some w) i h =
    let xs = untopped s.tracks in
    each_kept Still (λ k. k) (λ j. owing s.clocks.at (is_start w) (is_called s.forest xs s.clocks j)) xs (λ j x. owing_tries s.clocks.at (is_start w) (is_called s.forest xs s.clocks j) x) i
    (each_kept Still (λ k. k) (λ j. untopped_track) s.tracks (λ j x k. record { owed = k.owed; out = k.out }) i h)

readied_tries : (s : WatchState) (wall elapsed i : ℕ) → Still (track_at (readied s wall elapsed) i) (track_at s i)
unfolding readied
readied_tries s wall elapsed i h =
    let t = timed s wall elapsed in
    begun_tries (settled t) (why s wall elapsed) i
    (each_kept Still (λ k. k) (λ j. settled_track t.forest.margin t.clocks.at) s.tracks (λ j x. settled_tries t.forest.margin t.clocks.at x) i h)

mid_tries : (s : WatchState) (round : List ℕ) (i : ℕ) → Still (track_at (pressed s round) i) (track_at s i)
mid_tries s round i h =
    let c = s.clocks in
    let g = s.forest in
    let alone = pressed_alone g c s.tracks in
    each_kept Still (λ k. k) (track_asked_in c.at round) alone (asked_tries c.at round) i
    (each_kept Still (λ k. k) (λ j. pressed_track g.margin (entry_at g.entries j) (need_of g.entries s.tracks c j) c.at) s.tracks
    (λ j x. pressed_tries g.margin (entry_at g.entries j) (need_of g.entries s.tracks c j) c.at x) i h)

-- what goes out is a try
pub due_some : (p : Presence) (at : ℕ) (x : Track) → is_due p at x ≡ true → is_some x.attempt ≡ true
unfolding is_due
due_some p at x due = by x.attempt (and_parts (not x.out) (is_due_try p at x x.attempt) due).1 where
  by : (o : Option Try) → is_due_try p at x o ≡ true → is_some o ≡ true
  by None h = absurd cc
  by (Some t) h = refl

pub none_tries : Tries no_track
none_tries = record { owed = λ o. absurd cc; out = λ o. absurd cc }

sent_tries : (s : WatchState) (requests : List WatchRequest) (lanes i : ℕ) → Goes s.forest s.presence s.clocks.at s.tracks lanes requests → Still (track_at (sent s requests) i) (track_at s i)
sent_tries s requests lanes i h k =
    let p = s.presence in
    let at = s.clocks.at in
    each_holds Tries none_tries (sent_in at requests) s.tracks i
    (elim (one_sent p (sec at) at s.tracks i h.entries (h.once i)) as (λ _. Tries (sent_in at requests i (track_at s i))) [
      | inl none ↦
          subst Tries (sym (cond-false (list_any (λ (r : WatchRequest). r.entry == i) requests) (sent_track at (track_at s i)) (track_at s i) (ap (list_any (λ (r : WatchRequest). r.entry == i)) h.requests_are ∙ none.1))) k
      | inr one ↦
          let due = named_of (λ j. (j < length s.tracks) × (is_due p at (track_in s.tracks j) ≡ true)) i h.entries h.due one.1.1 in
          let some = due_some p at (track_at s i) due.1 in
          subst Tries (sym (cond-true (list_any (λ (r : WatchRequest). r.entry == i) requests) (sent_track at (track_at s i)) (track_at s i) (ap (list_any (λ (r : WatchRequest). r.entry == i)) h.requests_are ∙ one.1.0)))
          (record { owed = λ o. some; out = λ o. some })
    ])

-- the broker's return, and the answers
back_some : (x : Track) (o : Option Try) → is_some o ≡ true → is_some (back_try x o) ≡ true
back_some x None h = h
back_some x (Some t) h =
    if_both (λ (o : Option Try). is_some o ≡ true) x.out (Some (record t { fails = 0 })) (if t.lost then Some (due_again t (rested x.last)) else Some t) refl
    (if_both (λ (o : Option Try). is_some o ≡ true) t.lost (Some (due_again t (rested x.last))) (Some t) refl refl)

back_tries : (x : Track) → Still (back_track x) x
unfolding back_track
back_tries x h = record { owed = λ o. back_some x x.attempt (h.owed o); out = λ o. back_some x x.attempt (h.out o) }

untold_some : (at : ℕ) (heard : Bool) (reply : WatchReply) (x : Track) (o : Option Try) → is_some o ≡ true → is_some (untold at heard reply x o) ≡ true
untold_some at heard reply x None h = h
untold_some at heard reply x (Some t) h = refl

untold_tries : (at : ℕ) (heard : Bool) (reply : WatchReply) (x : Track) → Still (untold_track at heard reply x) x
unfolding untold_track
untold_tries at heard reply x h = record { owed = λ o. untold_some at heard reply x x.attempt (h.owed (and_parts x.owes (is_none (status_of reply)) o).0); out = λ o. absurd (true≢false (sym o)) }

-- after a lookup that told, nothing is owed
told_tries : (since seconds : ℕ) (renewable endless : Bool) (x : Track) → ((told_track since seconds renewable endless x).owes ≡ false) × ((told_track since seconds renewable endless x).out ≡ false)
unfolding told_track
told_tries since seconds renewable endless x = (refl, refl)

nothing_owed : (x : Track) → x.owes ≡ false → x.out ≡ false → Tries x
nothing_owed x owes free = record { owed = λ o. absurd (not_both o owes); out = λ o. absurd (not_both o free) }

-- of a track, that nothing is owed and it is not out, or past the last one
abbrev Rid : Track → Type 0
Rid x = (x.owes ≡ false) × (x.out ≡ false)

looked_tries : (s : WatchState) (q : Out) (reply : WatchReply) (terms : WatchTerms) (i : ℕ) → Still (track_at (looked s q reply terms) i) (track_at s i)
looked_tries s q (Told seconds renewable date) terms i h =
    let j = q.entry in
    let mid = told_state s j q.since seconds renewable terms in
    let x = told_track q.since seconds renewable terms.endless (track_at s j) in
    let rid = told_tries q.since seconds renewable terms.endless (track_at s j) in
    let here : Rid (track_at mid j) = set_holds Rid (refl, refl) s.tracks j x rid in
    set_kept Still (λ y k. k) mid.tracks j _ (λ k. nothing_owed (record (track_at mid j) { attempt = _ }) here.0 here.1) i
    (set_kept Still (λ y k. k) s.tracks j x (λ k. nothing_owed x rid.0 rid.1) i h)
looked_tries s q (Refused status date) terms i h = set_kept Still (λ y k. k) s.tracks q.entry _ (untold_tries s.clocks.at q.heard (Refused status date) (track_at s q.entry)) i h
looked_tries s q Busy terms i h = set_kept Still (λ y k. k) s.tracks q.entry _ (untold_tries s.clocks.at q.heard Busy (track_at s q.entry)) i h
looked_tries s q Lost terms i h = set_kept Still (λ y k. k) s.tracks q.entry _ (untold_tries s.clocks.at q.heard Lost (track_at s q.entry)) i h

granted_some : (at : ℕ) (owes : Bool) (end : ℕ) (o : Option Try) → owes ≡ true → is_some o ≡ true → is_some (granted_try at owes end o) ≡ true
granted_some at owes end None owed' h = h
granted_some at owes end (Some t) owed' h =
    if_both (λ (o : Option Try). is_some o ≡ true) (nat_lt (sec at) end) (if owes then Some (owed (at + 30000)) else None) (Some (failing t Look false false))
    (if_cases (λ (o : Option Try). is_some o ≡ true) owes (Some (owed (at + 30000))) None (λ e. refl) (λ e. absurd (not_both owed' e))) refl

granted_tries : (step at seconds : ℕ) (renewable : Bool) (from : ℕ) (x : Track) → Still (granted_from step at seconds renewable from x) x
unfolding granted_from
granted_tries step at seconds renewable from x h =
    record { owed = λ o. granted_some at x.owes (sec from + seconds) x.attempt o (h.owed o); out = λ o. absurd (true≢false (sym o)) }

ungranted_some : (at : ℕ) (heard : Bool) (reply : WatchReply) (x : Track) (o : Option Try) → is_some o ≡ true → is_some (ungranted at heard reply x o) ≡ true
ungranted_some at heard reply x None h = h
ungranted_some at heard reply x (Some t) h = refl

ungranted_tries : (at : ℕ) (heard : Bool) (reply : WatchReply) (x : Track) → Still (ungranted_track at heard reply x) x
unfolding ungranted_track
ungranted_tries at heard reply x h = record { owed = λ o. ungranted_some at heard reply x x.attempt (h.owed o); out = λ o. absurd (true≢false (sym o)) }

renewed_tries : (s : WatchState) (q : Out) (reply : WatchReply) (i : ℕ) → Still (track_at (state_renewed s q reply) i) (track_at s i)
unfolding renewed_track
renewed_tries s q (Told seconds renewable date) i h =
    let j = q.entry in
    let x = track_at s j in
    let step = (entry_of s j).step in
    set_kept Still (λ y k. k) s.tracks j _ (granted_tries step s.clocks.at seconds renewable (from_try s.forest.margin step seconds s.clocks.at q.since x.attempt) x) i h
renewed_tries s q (Refused status date) i h = set_kept Still (λ y k. k) s.tracks q.entry _ (ungranted_tries s.clocks.at q.heard (Refused status date) (track_at s q.entry)) i h
renewed_tries s q Busy i h = set_kept Still (λ y k. k) s.tracks q.entry _ (ungranted_tries s.clocks.at q.heard Busy (track_at s q.entry)) i h
renewed_tries s q Lost i h = set_kept Still (λ y k. k) s.tracks q.entry _ (ungranted_tries s.clocks.at q.heard Lost (track_at s q.entry)) i h

-- what every turn keeps, and what the command of a clock heeds
abbrev pub AllTry : WatchState → Type 0
AllTry s = (i : ℕ) → Tries (track_at s i)

abbrev pub Outcome : WatchCommand → WatchState → Type 0
Outcome command new = AllTry new × OwesRight command new

some_try : (o : Option Try) → is_some o ≡ true → (t : Try) × (o ≡ Some t)
some_try None h = absurd cc
some_try (Some t) h = (t, refl)

commanded : (s new : WatchState) (round : List ℕ) (command : WatchCommand) → AllTry (pressed s round) → StepCommand (pressed s round) command new → Outcome command new
commanded s new round (Go requests until) all h =
    let mid = pressed s round in
    let going = goes s.forest s.presence s.clocks.at mid.tracks (s.width - length s.out) requests h.0.0 in
    subst (λ n. Outcome (Go requests n) new) (sym h.1)
    (subst (λ (x : WatchState). Outcome (Go requests (wait x)) x) (sym h.0.1)
    (let tries : AllTry (sent mid requests) = λ i. sent_tries mid requests (s.width - length s.out) i going (all i) in (
      tries,
      λ i within owes.
          let end = sent mid requests in
          elim (cases_Bool (track_at end i).out) as (λ _. RequestIsOut end i ⊎ HasTry end (wait end) i) [
            | inl out ↦ inl out
            | inr free ↦ (let t = some_try (attempt_at end i) ((tries i).owed owes) in inr (has_try s round requests i t.0 going within free t.1))
          ],
    )))
commanded s new round Taken all h = absurd h

clock_outcome : (old new : WatchState) (wall elapsed : ℕ) (output : WatchOutput) → StepClock old wall elapsed output new → AllTry old → Outcome output.command new
clock_outcome old new wall elapsed output step all =
    let ready = readied old wall elapsed in
    commanded ready new (round_of step.round) output.command (λ i. mid_tries ready (round_of step.round) i (readied_tries old wall elapsed i (all i))) step.command

taken_right : (output out : WatchOutput) (new : WatchState) → output ≡ out → out.command ≡ Taken → AllTry new → Outcome output.command new
taken_right output out new is taken' all = (all, subst (λ c. OwesRight c new) (sym (ap (λ (x : WatchOutput). x.command) is ∙ taken')) tt)

looked_outcome : (old new : WatchState) (found : Option Out) (reply : WatchReply) (terms : WatchTerms) (output : WatchOutput) → StepLooked old found reply terms output new → AllTry old → Outcome output.command new
looked_outcome old new None reply terms output step all = absurd step
looked_outcome old new (Some q) reply terms output step all =
    let s = noted old q reply in
    taken_right output _ new step.0 refl
    (subst AllTry (sym step.1) (λ i. back_kept Still (λ x k. k) (λ x. back_tries x) (looked s q reply terms) q reply i (looked_tries s q reply terms i (all i))))

renewed_outcome : (old new : WatchState) (found : Option Out) (reply : WatchReply) (output : WatchOutput) → StepRenewed old found reply output new → AllTry old → Outcome output.command new
renewed_outcome old new None reply output step all = absurd step
renewed_outcome old new (Some q) reply output step all =
    let s = noted old q reply in
    taken_right output _ new step.0 refl
    (subst AllTry (sym step.1) (λ i. back_kept Still (λ x k. k) (λ x. back_tries x) (state_renewed s q reply) q reply i (renewed_tries s q reply i (all i))))

known_tries : (at end : ℕ) (renewable : Bool) (x : Track) → Still (owing_past at (told_earlier end renewable x)) x
known_tries at end renewable x h =
    known_is Tries at end renewable x (record { owed = h.owed; out = h.out }) (λ out. record { owed = λ o. h.out out; out = h.out }) (λ free. record { owed = λ o. refl; out = λ o. refl })

step_outcome : (old new : WatchState) (event : WatchEvent) (output : WatchOutput) → Step old event output new → AllTry old → Outcome output.command new
step_outcome old new (Clock wall elapsed) output step all = clock_outcome old new wall elapsed output step all
step_outcome old new (Looked j reply terms) output step all = looked_outcome old new (request_out old.out j Look) reply terms output step all
step_outcome old new (Renewed j reply) output step all = renewed_outcome old new (request_out old.out j Renew) reply output step all
step_outcome old new (Known j end renewable) output step all =
    taken_right output _ new step.0 refl (subst AllTry (sym step.1) (λ i. set_kept Still (λ x k. k) old.tracks j _ (known_tries old.clocks.at end renewable (track_at old j)) i (all i)))
step_outcome old new _ output step all = taken_right output _ new step.0 refl (subst AllTry (sym step.1) all)

pub turn_outcome : (old new : WatchState) (event : WatchEvent) (result : Result WatchOutput WatchFault) → Turn old event result new → AllTry old → AllTry new × OwedRight result new
turn_outcome old new event (Ok output) turn all = step_outcome old new event output turn.1 all
turn_outcome old new event (Err fault) turn all = (subst AllTry (sym (refused_stays old new event fault turn)) all, tt)

pub ran_owed : (turns : List Turned) (old : WatchState) → History old turns → AllTry old → AllOwed turns
ran_owed [] old h all = tt
ran_owed (turn ∷ turns) old h all = let here = turn_outcome old turn.state turn.event turn.result h.0 all in (here.1, ran_owed turns turn.state h.1 here.0)

pub first_tries : (es : List Entry) (i : ℕ) → Tries (track_in (map fresh_track es) i)
first_tries [] i = none_tries
first_tries (e ∷ es) zero = record { owed = λ o. absurd cc; out = λ o. absurd cc }
first_tries (e ∷ es) (suc i) = first_tries es i
