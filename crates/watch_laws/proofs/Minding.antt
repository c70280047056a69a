-- Minding: after every clock each entry that is wanted is out, or is pressed, or its time is ahead, and the wait passes none of these. For
-- the laws of waiting.
use Rattle.std.proofs.Common.{◌≡◌, ◌⊎◌, ◌∙◌, ℕ, zero, suc, ◌+◌, ◌-◌, ◌*◌, ◌<◌, ◌≤◌, Bool, true, false, min, not, ◌&&◌, ◌||◌, ◌==◌, if◌then◌else◌, List, [], ◌∷◌, Option, Some, None, Result, Ok, Err, length, map, nat_le, nat_lt, refl, sym, ap, subst, arith, inl, inr, true≢false}
use Rattle.std.proofs.Math.Nat.{le-max_left}
use Rattle.std.proofs.lemmas.Bool.Decides.{nat_tests}
use Rattle.std.proofs.lemmas.Bool.{and_from, and_parts, cases_Bool, cases_lt, cond-false, cond-true}
use Rattle.std.proofs.lemmas.List.{get_or_past, length-append, length-map}
use Rattle.std.specs.List.{list_any, range_with_len}
use Rattle.plan_forest.specs.{declared.entry.Entry.Entry, Forest.entry_at}
use Rattle.watch_machine.specs.{declared.command.WatchCommand.WatchCommand, declared.command.WatchOutput.WatchOutput, declared.command.WatchRequest.WatchRequest, declared.event.WatchEvent.WatchEvent, declared.event.WatchReply.WatchReply}
use Rattle.watch_machine.specs.{declared.event.WatchTerms.WatchTerms, declared.fault.WatchFault.WatchFault, declared.lanes.Out.Out, declared.lanes.Presence.Presence, declared.track.Track.Track, declared.track.Try.Try}
use Rattle.watch_machine.specs.{Beginning.is_pressed, Beginning.is_pressed_try, Clocks.ms, Clocks.sec, History.Turn, Margins.has_come, Margins.time, Refusal.request_out, Round.asked_by_round as round_of}
use Rattle.watch_machine.specs.declared.command.WatchCommand.TheVariants.{Go, Taken}
use Rattle.watch_machine.specs.declared.event.WatchEvent.TheVariants.{Clock, Looked, Renewed}
use Rattle.watch_machine.specs.declared.event.Operation.TheVariants.{Look, Renew}
use Rattle.watch_machine.specs.Lines.{is_due, is_due_try, ready}
use Rattle.watch_machine.specs.Press.{asked_track, dropped, is_fresh, press, pressed, pressed_alone, pressed_track, track_asked_in}
use Rattle.watch_machine.specs.Sending.{out_at, sent, sent_in, sent_track}
use Rattle.watch_machine.specs.State.{WatchState, attempt_at, each, entry_of, no_track, second, track_at, track_in}
use Rattle.watch_machine.specs.Step.{Step, StepCommand, StepLooked, StepRenewed, readied}
use Rattle.watch_machine.specs.Wait.{latest, next_of, time_at, try_at, wait}
use Rattle.watch_machine.specs.Wanted.{is_wanted, least, need_of, wanted_need, wants}
use Rattle.watch_machine.proofs.{Leasts.least_each, Unseen.pressed_seen, Unseen.sent_seen, Written.each_length}
use Rattle.watch_machine.proofs.Cases.{if_both, if_cases, not_both}
use Rattle.watch_machine.proofs.Seeing.{SameSeen, both_seen, need_same}
use Rattle.watch_laws.specs.Waiting.{EndsRight, HasTry, IsHeeded, IsMinded, IsPressed, MindedLaw, TimeIsAhead, WaitsRight}
use Rattle.watch_laws.proofs.{Spacing.passed_over, Spacing.went, Tracking.each_holds}
use Rattle.watch_laws.proofs.Going.{Goes, goes, some_named}

-- the wait is no later than the latest, nor than what each entry has to be done
least_over : (f : ℕ → ℕ) (at m a n : ℕ) → at < m → ((i : ℕ) → at < f i) → at < least m (map f (range_with_len a n))
least_over f at m a zero h each' = h
least_over f at m a (suc n) h each' = let here = each' a in least_over f at (min m (f a)) (a + 1) n (omega (arith, h, here)) each'

latest_after : (margin at : ℕ) → at < latest margin at
unfolding latest
latest_after margin at = let m = le-max_left 1000 (min 30000 (margin * 250)) in omega (arith, m)

abbrev pub next_at : WatchState → ℕ → ℕ
next_at s i = next_of s.forest.margin (entry_of s i) (wanted_need s i) s.presence s.clocks.at (track_at s i)

pub wait_each : (s : WatchState) (i : ℕ) → i < length s.forest.entries → wait s ≤ next_at s i
unfolding wait
wait_each s i within = least_each (next_at s) (latest s.forest.margin s.clocks.at) 0 (length s.forest.entries) i (omega arith) (omega (arith, within))

-- what an entry that is not out has to be done
module _ (margin : ℕ) (e : Entry) (need : ℕ) (p : Presence) (at : ℕ) (x : Track) (free : x.out ≡ false) where
  pub by_try : (t : Try) → x.attempt ≡ Some t → at < ready p x t → next_of margin e need p at x ≤ ready p x t
  unfolding next_of
  by_try t is ahead =
      let last = latest margin at in
      let kept = cond-false x.out last (min (try_at p at last x x.attempt) (time_at margin e x need last)) free in
      let there = ap (try_at p at last x) is in
      let test : nat_lt at (ready p x t) ≡ true = grind (arith, nat_tests) in
      let that = cond-true (nat_lt at (ready p x t)) (ready p x t) last test in
      omega (arith, kept, there, that)

  pub by_time : wants x need ≡ true → is_pressed x ≡ false → next_of margin e need p at x ≤ ms (time margin e x)
  unfolding next_of
  by_time wanted loose =
      let last = latest margin at in
      let kept = cond-false x.out last (min (try_at p at last x x.attempt) (time_at margin e x need last)) free in
      let that = cond-true (wants x need && not (is_pressed x)) (ms (time margin e x)) last (and_from (wants x need) (not (is_pressed x)) wanted (ap not loose)) in
      omega (arith, kept, that)

-- who is wanted is out, pressed, or has a time that is ahead
abbrev Stands : ℕ → Entry → ℕ → ℕ → Track → Type 0
Stands margin e need now x = wants x need ≡ true → x.out ≡ false → (is_pressed x ≡ true) ⊎ ((is_pressed x ≡ false) × (has_come margin e x now ≡ false))

fresh_stands : (margin : ℕ) (e : Entry) (need at : ℕ) (x : Track) → Stands margin e need (sec at) (pressed_track margin e need at x)
unfolding pressed_track is_fresh press wants
fresh_stands margin e need at x =
    let fresh = wants x need && (has_come margin e x (sec at) && (not (is_pressed x) && not x.out)) in
    if_cases (Stands margin e need (sec at)) fresh (record x { attempt = Some (press at x) }) (if wants x need || x.out then x else record x { attempt = dropped x x.attempt })
    (λ yes' wanted free. inl refl)
    (λ no'. if_cases (Stands margin e need (sec at)) (wants x need || x.out) x (record x { attempt = dropped x x.attempt })
    (λ kept wanted free.
    elim (cases_Bool (is_pressed x)) [
      | inl is ↦ inl is
      | inr not_pressed ↦
          elim (cases_Bool (has_come margin e x (sec at))) [
            | inl come ↦ absurd (not_both (and_from (wants x need) (has_come margin e x (sec at) && (not (is_pressed x) && not x.out)) wanted
                (and_from (has_come margin e x (sec at)) (not (is_pressed x) && not x.out) come (and_from (not (is_pressed x)) (not x.out) (ap not not_pressed) (ap not free)))) no')
            | inr ahead ↦ inr (not_pressed, ahead)
          ]
    ])
    (λ let_go wanted free. absurd (not_both (or_left' (wants x need) x.out wanted) let_go))) where
      or_left' : (a b : Bool) → a ≡ true → a || b ≡ true
      or_left' true b h = refl
      or_left' false b h = absurd cc

asked_stands : (margin : ℕ) (e : Entry) (need at : ℕ) (round : List ℕ) (i : ℕ) (x : Track) → Stands margin e need (sec at) x → Stands margin e need (sec at) (track_asked_in at round i x)
unfolding asked_track press
asked_stands margin e need at round i x h =
    if_both (Stands margin e need (sec at)) (list_any (λ j. j == i) round) (asked_track at x) x
    (if_both (Stands margin e need (sec at)) x.out x (record x { attempt = Some (press at x) }) h (λ wanted free. inl refl)) h

none_stands : (margin : ℕ) (e : Entry) (need now : ℕ) → Stands margin e need now no_track
unfolding wants
none_stands margin e need now wanted free = absurd cc

mid_stands : (s : WatchState) (round : List ℕ) (i : ℕ) → Stands s.forest.margin (entry_of s i) (need_of s.forest.entries s.tracks s.clocks i) (second s) (track_at (pressed s round) i)
mid_stands s round i =
    let c = s.clocks in
    let g = s.forest in
    let e = entry_at g.entries i in
    let need = need_of g.entries s.tracks c i in
    let alone = pressed_alone g c s.tracks in
    each_holds (Stands g.margin e need (sec c.at)) (none_stands g.margin e need (sec c.at)) (track_asked_in c.at round) alone i
    (asked_stands g.margin e need c.at round i (track_in alone i)
    (each_holds (Stands g.margin e need (sec c.at)) (none_stands g.margin e need (sec c.at)) (λ j. pressed_track g.margin (entry_at g.entries j) (need_of g.entries s.tracks c j) c.at) s.tracks i
    (fresh_stands g.margin e need c.at (track_at s i))))

-- and after the requests have gone out
sent_stands : (margin : ℕ) (e : Entry) (need now at : ℕ) (requests : List WatchRequest) (xs : List Track) (i : ℕ) → Stands margin e need now (track_in xs i) → Stands margin e need now (track_in (each (sent_in at requests) xs) i)
sent_stands margin e need now at requests xs i h =
    each_holds (Stands margin e need now) (none_stands margin e need now) (sent_in at requests) xs i
    (if_both (Stands margin e need now) (list_any (λ (r : WatchRequest). r.entry == i) requests) (sent_track at (track_in xs i)) (track_in xs i) (λ wanted bad. absurd (true≢false bad)) h)

-- a try that may go out now is due
pub due_so : (p : Presence) (at : ℕ) (x : Track) (t : Try) → x.out ≡ false → x.attempt ≡ Some t → ready p x t ≤ at → is_due p at x ≡ true
unfolding is_due
due_so p at x t free is now =
    and_from (not x.out) (is_due_try p at x x.attempt) (ap not free) (ap (is_due_try p at x) is ∙ (let test : nat_le (ready p x t) at ≡ true = grind (arith, nat_tests) in test))

-- a due try whose request does not go out finds all lanes taken
module _ (s : WatchState) (requests : List WatchRequest) (i : ℕ) where
  abbrev gone : WatchState
  gone = sent s requests

  -- an entry that is not out after it was not named
  pub not_named : i < length s.tracks → (track_at gone i).out ≡ false → list_any (λ (r : WatchRequest). r.entry == i) requests ≡ false
  not_named within free =
      elim (cases_Bool (list_any (λ (r : WatchRequest). r.entry == i) requests)) [
        | inl named ↦ absurd (not_both (ap (λ (x : Track). x.out) (went s requests i named within)) free)
        | inr other ↦ other
      ]

  heeded : (t : Try) → i < length s.tracks → Goes s.forest s.presence s.clocks.at s.tracks (s.width - length s.out) requests → (track_at gone i).out ≡ false → attempt_at gone i ≡ Some t →
      (s.clocks.at < ready s.presence (track_at gone i) t) ⊎ (s.width ≤ length gone.out)
  heeded t within going free is =
      let p = s.presence in
      let at = s.clocks.at in
      let other = not_named within free in
      let same = passed_over s requests i other in
      elim (cases_lt at (ready p (track_at gone i) t)) as (λ _. (at < ready p (track_at gone i) t) ⊎ (s.width ≤ length gone.out)) [
        | inl ahead ↦ inl ahead
        | inr due ↦
            let here : is_due p at (track_at s i) ≡ true = subst (λ x. is_due p at x ≡ true) same (due_so p at (track_at gone i) t free is due) in
            elim (going.full i within here) as (λ _. (at < ready p (track_at gone i) t) ⊎ (s.width ≤ length gone.out)) [
              | inl named ↦ absurd (not_both (ap (list_any (λ (r : WatchRequest). r.entry == i)) going.requests_are ∙ some_named p (sec at) at s.tracks i going.entries named) other)
              | inr full ↦
                  let many = ap length going.requests_are ∙ length-map going.entries _ in
                  let sent' = length-map requests (out_at at) in
                  let both = length-append s.out (map (out_at at) requests) in
                  inr (omega (arith, full, many, sent', both))
            ]
      ]

ahead_of : (margin : ℕ) (e : Entry) (x : Track) (now : ℕ) → has_come margin e x now ≡ false → now < time margin e x
unfolding has_come
ahead_of margin e x now h = grind (arith, nat_tests)

-- past the last entry nothing is to be asked
pub some_within : (xs : List Track) (i : ℕ) (t : Try) → (track_in xs i).attempt ≡ Some t → i < length xs
some_within xs i t is =
    elim (cases_lt i (length xs)) [
      | inl within ↦ within
      | inr past ↦ absurd (let e : None ≡ Some t = ap (λ (x : Track). x.attempt) (sym (get_or_past xs i no_track past)) ∙ is in cc)
    ]

-- a clock: the requests go out of a state in which all are pressed
module _ (s : WatchState) (round : List ℕ) (requests : List WatchRequest) (i : ℕ) where
  abbrev mid : WatchState
  mid = pressed s round

  abbrev end : WatchState
  end = sent mid requests

  pub has_try : (t : Try) → Goes s.forest s.presence s.clocks.at mid.tracks (s.width - length s.out) requests → i < length s.forest.entries → (track_at end i).out ≡ false → attempt_at end i ≡ Some t → HasTry end (wait end) i
  has_try t going within free is =
      let until = wait_each end i within in
      let count = each_length (sent_in s.clocks.at requests) mid.tracks in
      let below = some_within end.tracks i t is in
      record {
        attempt = t;
        attempt_is = is;
        heeded = elim (heeded mid requests i t (omega (arith, count, below)) going free is) as (λ _. IsHeeded end (wait end) i t) [
          | inl ahead ↦
              let soon = by_try s.forest.margin (entry_of s i) (wanted_need end i) s.presence s.clocks.at (track_at end i) free t is ahead in
              inl (omega (arith, until, soon))
          | inr full ↦ inr full
        ];
      }

  -- a try that is not out may go later, and the wait does not pass that; or all lanes are taken
  pub tended : (t : Try) → Goes s.forest s.presence s.clocks.at mid.tracks (s.width - length s.out) requests → i < length s.forest.entries → (track_at end i).out ≡ false → attempt_at end i ≡ Some t →
      ((s.clocks.at < ready s.presence (track_at end i) t) × (wait end ≤ ready s.presence (track_at end i) t)) ⊎ (s.width ≤ length end.out)
  tended t going within free is =
      let until = wait_each end i within in
      let count = each_length (sent_in s.clocks.at requests) mid.tracks in
      let below = some_within end.tracks i t is in
      elim (heeded mid requests i t (omega (arith, count, below)) going free is) as (λ _. ((s.clocks.at < ready s.presence (track_at end i) t) × (wait end ≤ ready s.presence (track_at end i) t)) ⊎ (s.width ≤ length end.out)) [
        | inl ahead ↦
            let soon = by_try s.forest.margin (entry_of s i) (wanted_need end i) s.presence s.clocks.at (track_at end i) free t is ahead in
            inl (ahead, omega (arith, until, soon))
        | inr full ↦ inr full
      ]

  pressed_minded : (o : Option Try) → Goes s.forest s.presence s.clocks.at mid.tracks (s.width - length s.out) requests → i < length s.forest.entries → (track_at end i).out ≡ false → attempt_at end i ≡ o → is_pressed_try o ≡ true → IsPressed end (wait end) i
  unfolding has_try
  pressed_minded None going within free is pressed' = absurd cc
  pressed_minded (Some t) going within free is pressed' = record { has = has_try t going within free is; pressed = pressed' }

  -- who is wanted and not out is pressed, or is not and has a time that is ahead
  pub end_tended : Goes s.forest s.presence s.clocks.at mid.tracks (s.width - length s.out) requests → i < length s.forest.entries → is_wanted end i ≡ true → (track_at end i).out ≡ false →
      IsPressed end (wait end) i ⊎ ((is_pressed (track_at end i) ≡ false) × TimeIsAhead end (wait end) i)
  end_tended going within wanted free =
      let g = s.forest in
      let c = s.clocks in
      let x = track_at end i in
      let seen : SameSeen end.tracks s.tracks = both_seen end.tracks mid.tracks s.tracks (sent_seen c.at requests mid.tracks) (pressed_seen g c round s.tracks) in
      let needs = need_same end.tracks s.tracks seen g.entries c i in
      let stands =
      sent_stands g.margin (entry_at g.entries i) (need_of g.entries s.tracks c i) (sec c.at) c.at requests mid.tracks i (mid_stands s round i) (subst (λ k. wants x k ≡ true) needs wanted) free in
      elim stands as (λ _. IsPressed end (wait end) i ⊎ ((is_pressed x ≡ false) × TimeIsAhead end (wait end) i)) [
        | inl pressed' ↦ inl (pressed_minded x.attempt going within free refl pressed')
        | inr ahead ↦
            let until = wait_each end i within in
            let late = ahead_of g.margin (entry_at g.entries i) x (sec c.at) ahead.1 in
            let soon = by_time g.margin (entry_at g.entries i) (wanted_need end i) s.presence c.at x free wanted ahead.0 in
            inr (ahead.0, record { ahead = late; heeded = omega (arith, until, soon) })
      ]

  pub end_minded : Goes s.forest s.presence s.clocks.at mid.tracks (s.width - length s.out) requests → i < length s.forest.entries → is_wanted end i ≡ true → IsMinded end (wait end) i
  end_minded going within wanted =
      elim (cases_Bool (track_at end i).out) as (λ _. IsMinded end (wait end) i) [
        | inl out ↦ inl out
        | inr free ↦ elim (end_tended going within wanted free) as (λ _. IsMinded end (wait end) i) [ inl pressed' ↦ inr (inl pressed') | inr ahead ↦ inr (inr ahead.1) ]
      ]

-- the wait ends later than now
try_later : (p : Presence) (at last : ℕ) (x : Track) (o : Option Try) → at < last → at < try_at p at last x o
try_later p at last x None h = h
try_later p at last x (Some t) h = if_cases (λ n. at < n) (nat_lt at (ready p x t)) (ready p x t) last (λ e. grind (arith, nat_tests)) (λ e. h)

second_later : (at t : ℕ) → sec at < t → at < ms t
unfolding sec
second_later at t h = omega (arith, h)

end_later : (s : WatchState) (round : List ℕ) (requests : List WatchRequest) → s.clocks.at < wait (sent (pressed s round) requests)
unfolding wait next_of
end_later s round requests =
    let n = sent (pressed s round) requests in
    let g = s.forest in
    let c = s.clocks in
    let last = latest g.margin c.at in
    let after = latest_after g.margin c.at in
    least_over (next_at n) c.at last 0 (length g.entries) after
    (λ i.
    let x = track_at n i in
    let e = entry_at g.entries i in
    let need = wanted_need n i in
    let seen : SameSeen n.tracks s.tracks = both_seen n.tracks (pressed s round).tracks s.tracks (sent_seen c.at requests (pressed s round).tracks) (pressed_seen g c round s.tracks) in
    let needs = need_same n.tracks s.tracks seen g.entries c i in
    if_cases (λ k. c.at < k) x.out last (min (try_at s.presence c.at last x x.attempt) (time_at g.margin e x need last)) (λ out. after)
    (λ free.
    let first = try_later s.presence c.at last x x.attempt after in
    let second' : c.at < time_at g.margin e x need last =
    if_cases (λ k. c.at < k) (wants x need && not (is_pressed x)) (ms (time g.margin e x)) last
    (λ yes'.
    let both = and_parts (wants x need) (not (is_pressed x)) yes' in
    let stands = sent_stands g.margin e (need_of g.entries s.tracks c i) (sec c.at) c.at requests (pressed s round).tracks i (mid_stands s round i) (subst (λ k. wants x k ≡ true) needs both.0) free in
    elim stands as (λ _. c.at < ms (time g.margin e x)) [
      | inl pressed' ↦ absurd (not_both both.1 (ap not pressed'))
      | inr ahead ↦ second_later c.at (time g.margin e x) (ahead_of g.margin e x (sec c.at) ahead.1)
    ])
    (λ no'. after) in
    omega (arith, first, second')))

-- a clock, a step, a turn
commanded : (s new : WatchState) (round : List ℕ) (command : WatchCommand) → StepCommand (pressed s round) command new → WaitsRight command new
commanded s new round (Go requests until) h =
    let going = goes s.forest s.presence s.clocks.at (pressed s round).tracks (s.width - length s.out) requests h.0.0 in
    subst (λ n. WaitsRight (Go requests n) new) (sym h.1)
    (subst (λ (x : WatchState). WaitsRight (Go requests (wait x)) x) (sym h.0.1) (end_later s round requests, (λ i within wanted. end_minded s round requests i going within wanted)))
commanded s new round Taken h = tt

taken_right : (output out : WatchOutput) (s : WatchState) → output ≡ out → out.command ≡ Taken → WaitsRight output.command s
taken_right output out s is taken' = subst (λ c. WaitsRight c s) (sym (ap (λ (x : WatchOutput). x.command) is ∙ taken')) tt

looked_right : (old new : WatchState) (found : Option Out) (reply : WatchReply) (terms : WatchTerms) (output : WatchOutput) → StepLooked old found reply terms output new → WaitsRight output.command new
looked_right old new None reply terms output step = absurd step
looked_right old new (Some q) reply terms output step = taken_right output _ new step.0 refl

renewed_right : (old new : WatchState) (found : Option Out) (reply : WatchReply) (output : WatchOutput) → StepRenewed old found reply output new → WaitsRight output.command new
renewed_right old new None reply output step = absurd step
renewed_right old new (Some q) reply output step = taken_right output _ new step.0 refl

step_right : (old new : WatchState) (event : WatchEvent) (output : WatchOutput) → Step old event output new → WaitsRight output.command new
step_right old new (Clock wall elapsed) output step = commanded (readied old wall elapsed) new (round_of step.round) output.command step.command
step_right old new (Looked j reply terms) output step = looked_right old new (request_out old.out j Look) reply terms output step
step_right old new (Renewed j reply) output step = renewed_right old new (request_out old.out j Renew) reply output step
step_right old new _ output step = taken_right output _ new step.0 refl

turn_right : (old new : WatchState) (event : WatchEvent) (result : Result WatchOutput WatchFault) → Turn old event result new → EndsRight result new
turn_right old new event (Ok output) turn = step_right old new event output turn.1
turn_right old new event (Err fault) turn = tt

pub all_minded : MindedLaw
all_minded old [] h = tt
all_minded old (turn ∷ turns) h = (turn_right old turn.state turn.event turn.result h.0, all_minded turn.state turns h.1)
