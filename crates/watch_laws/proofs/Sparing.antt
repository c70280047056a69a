-- Sparing: while the broker is away, the later tries that go out until the hold is set anew are all out at once. For the law of sparing.
use Rattle.std.proofs.Common.{◌≡◌, ◌⊎◌, ◌∙◌, ℕ, suc, ◌+◌, ◌-◌, ◌<◌, ◌≤◌, Bool, true, false, cond, max, not, ◌&&◌, ◌||◌, ◌==◌, if◌then◌else◌, List, [], ◌∷◌, ◌++◌, Option, Some, None, Result, Ok, Err, filter, is_none, length, map, refl, sym, ap, subst, arith, inl, inr}
use Rattle.std.proofs.Math.Nat.{le-max_left}
use Rattle.std.proofs.lemmas.{Bool.Decides.nat_tests, List.length-append, List.length-map, List.Sums.count_by-le-length, List.Sums.length-filter}
use Rattle.std.proofs.lemmas.Bool.{and_from, and_parts, cases_Bool, cond-false, cond-true, or_right}
use Rattle.std.proofs.lemmas.List.Elements.{All-head, All-tail, filter-append}
use Rattle.std.specs.List.{All, find, list_any}
use Rattle.watch_machine.specs.{declared.command.WatchCommand.WatchCommand, declared.command.WatchOutput.WatchOutput, declared.command.WatchRequest.WatchRequest, declared.event.WatchEvent.WatchEvent, declared.event.Operation.Operation}
use Rattle.watch_machine.specs.{declared.event.WatchReply.WatchReply, declared.event.WatchReply.TheVariants.Told, declared.event.WatchTerms.WatchTerms, declared.fault.WatchFault.WatchFault, declared.lanes.LaneAnswer.LaneAnswer}
use Rattle.watch_machine.specs.{declared.lanes.Out.Out, declared.lanes.Presence.Presence, declared.notes.BeginReason.BeginReason, declared.track.Track.Track, declared.track.Try.Try, Beginning.begun, Clocks.sec, Looked.looked, Press.pressed}
use Rattle.watch_machine.specs.{Refusal.is_same, Refusal.request_out, Renewed.state_renewed, Round.asked_by_round as round_of}
use Rattle.watch_machine.specs.declared.command.WatchCommand.TheVariants.{Go, Taken}
use Rattle.watch_machine.specs.declared.event.WatchEvent.TheVariants.{Clock, Looked, Renewed, Need, Begin, Known}
use Rattle.watch_machine.specs.declared.event.Operation.TheVariants.{Look, Renew}
use Rattle.watch_machine.specs.Answers.{answers_all, back_track, heard, is_back, lane_freed, noted, presence_gone, replied, silent, without_request}
use Rattle.watch_machine.specs.History.{AllHappen, Changed, Changes, Hands, Happening, IsChanged, Turn}
use Rattle.watch_machine.specs.Lines.{is_due, is_due_try, is_first, later_at, ready}
use Rattle.watch_machine.specs.Sending.{out_at, sent, sent_in, sent_track}
use Rattle.watch_machine.specs.Settling.{count_after, held_back, hold_after, is_real, is_silent, presence_after, settled, timed}
use Rattle.watch_machine.specs.State.{WatchState, attempt_at, each, track_in}
use Rattle.watch_machine.specs.Step.{Step, StepClock, StepCommand, StepLooked, StepRenewed, known, readied, why, with_need_until}
use Rattle.watch_machine.proofs.Within.{out_entry}
use Rattle.watch_machine.proofs.Cases.{if_both, not_both, value_is}
use Rattle.watch_laws.specs.Load.{requests_asked_by, requests_at_turn}
use Rattle.watch_laws.specs.Absence.{AllAway, NoneSets, Sets, SparedLaw, is_later, is_later_try, laters}
use Rattle.watch_laws.proofs.{Answering.looked_rest, Holding.looked_presence, Holding.ready_presence, Spacing.looked_out, Spacing.readied_out, Tracking.each_kept, Width.Fits, Width.turn_fits}
use Rattle.watch_laws.proofs.Alone.{IsAlone, lanes_of, turn_alone}
use Rattle.watch_laws.proofs.Bases.{changed_alone, changed_fits, reached_base}
use Rattle.watch_laws.proofs.Clocking.{begun_some, clock_rises, readied_clocks, readied_width, refused_stays}
use Rattle.watch_laws.proofs.Following.{IsCounted, changed_counted, filter_after, reached_counted, turn_counted}
use Rattle.watch_laws.proofs.Going.{Goes, entry_by, goes, request_at}

-- how many of those that are out have heard of no answer
abbrev unheard : List Out → ℕ
unheard out = length (filter (λ q. not q.heard) out)

-- what is not there is not taken away
none_gone : (i : ℕ) (out : List Out) → lanes_of i out ≡ 0 → without_request i out ≡ out
unfolding without_request
none_gone i [] none = refl
none_gone i (q ∷ out) none =
    let rest = filter (λ (o : Out). o.entry == i) out in
    elim (cases_Bool (q.entry == i)) [
      | inl here ↦ absurd (let some : lanes_of i (q ∷ out) ≡ length (q ∷ rest) = ap (λ b. length (cond b (q ∷ rest) rest)) here in omega (arith, some, none))
      | inr other ↦
          let left : lanes_of i out ≡ 0 = sym (ap (λ b. length (cond b (q ∷ rest) rest)) other) ∙ none in
          ap (λ b. cond (not b) (q ∷ filter (λ (o : Out). not (o.entry == i)) out) (filter (λ (o : Out). not (o.entry == i)) out)) other ∙ ap (λ os. q ∷ os) (none_gone i out left)
    ]

pub found_lane : (i : ℕ) (operation : Operation) (out : List Out) (q : Out) → find (λ (o : Out). o.entry == i && is_same o.operation operation) out ≡ Some q → 1 ≤ lanes_of i out
found_lane i operation [] q found = absurd cc
found_lane i operation (o ∷ out) q found =
    let rest = filter (λ (p : Out). p.entry == i) out in
    elim (cases_Bool (o.entry == i)) [
      | inl here ↦ (let some : lanes_of i (o ∷ out) ≡ length (o ∷ rest) = ap (λ b. length (cond b (o ∷ rest) rest)) here in omega (arith, some))
      | inr other ↦
          let next : find (λ (p : Out). p.entry == i && is_same p.operation operation) out ≡ Some q =
          sym (ap (λ b. cond (b && is_same o.operation operation) (Some o) (find (λ (p : Out). p.entry == i && is_same p.operation operation) out)) other) ∙ found in
          let there = found_lane i operation out q next in
          let same : lanes_of i (o ∷ out) ≡ length rest = ap (λ b. length (cond b (o ∷ rest) rest)) other in
          omega (arith, there, same)
    ]

-- an answer to a request that has heard leaves those that have not
rid_heard :
    (i : ℕ) (operation : Operation) (out : List Out) (q : Out) → request_out out i operation ≡ Some q → q.heard ≡ true → lanes_of i out ≤ 1 → unheard (without_request i out) ≡ unheard out
unfolding request_out without_request
rid_heard i operation [] q found hears once = absurd cc
rid_heard i operation (o ∷ out) q found hears once =
    let rest = filter (λ (p : Out). p.entry == i) out in
    let left = filter (λ (p : Out). not (p.entry == i)) out in
    let after = find (λ (p : Out). p.entry == i && is_same p.operation operation) out in
    let silent' = filter (λ (p : Out). not p.heard) out in
    elim (cases_Bool (o.entry == i)) as (λ _. unheard (filter (λ (p : Out). not (p.entry == i)) (o ∷ out)) ≡ unheard (o ∷ out)) [
      | inl here ↦
          let some : lanes_of i (o ∷ out) ≡ length (o ∷ rest) = ap (λ b. length (cond b (o ∷ rest) rest)) here in
          let none : lanes_of i out ≡ 0 = omega (arith, some, once) in
          let gone : filter (λ (p : Out). not (p.entry == i)) (o ∷ out) ≡ left = ap (λ b. cond (not b) (o ∷ left) left) here in
          elim (cases_Bool (is_same o.operation operation)) as (λ _. unheard (filter (λ (p : Out). not (p.entry == i)) (o ∷ out)) ≡ unheard (o ∷ out)) [
            | inl same ↦
                let is : o ≡ q = value_is o q (sym (cond-true (o.entry == i && is_same o.operation operation) (Some o) after (and_from (o.entry == i) (is_same o.operation operation) here same)) ∙ found) in
                let heard' : o.heard ≡ true = ap (λ (p : Out). p.heard) is ∙ hears in
                ap unheard gone ∙ ap unheard (none_gone i out none) ∙ sym (ap (λ b. length (cond (not b) (o ∷ silent') silent')) heard')
            | inr different ↦
                let next : after ≡ Some q = sym (ap (λ b. cond b (Some o) after) (ap (λ b. b && is_same o.operation operation) here ∙ different)) ∙ found in
                let there = found_lane i operation out q next in
                absurd (omega (arith, there, none))
          ]
      | inr other ↦
          let next : after ≡ Some q = sym (ap (λ b. cond (b && is_same o.operation operation) (Some o) after) other) ∙ found in
          let same : lanes_of i (o ∷ out) ≡ length rest = ap (λ b. length (cond b (o ∷ rest) rest)) other in
          let kept : filter (λ (p : Out). not (p.entry == i)) (o ∷ out) ≡ o ∷ left = ap (λ b. cond (not b) (o ∷ left) left) other in
          let fewer = rid_heard i operation out q next hears (omega (arith, same, once)) in
          ap unheard kept ∙ by (not o.heard) o (filter (λ (p : Out). not p.heard) left) silent' fewer
    ] where
      by : (b : Bool) (p : Out) (xs ys : List Out) → length xs ≡ length ys → length (cond b (p ∷ xs) xs) ≡ length (cond b (p ∷ ys) ys)
      by true p xs ys h = ap (λ n. suc n) h
      by false p xs ys h = h

-- what goes out has heard of none
new_unheard : (at : ℕ) (rs : List WatchRequest) → unheard (map (out_at at) rs) ≡ length rs
new_unheard at [] = refl
new_unheard at (r ∷ rs) = ap (λ n. suc n) (new_unheard at rs)

-- n later tries have gone out: the hold is over, and either a request had no answer since the last clock or they are all out
record IsOver (n : ℕ) (s : WatchState) : Type 0 where
  begun : is_none s.begun ≡ false
  over : s.presence.hold ≤ s.clocks.at
  rest : (list_any is_silent s.answers ≡ true) ⊎ (n ≤ unheard s.out)

-- or none has
record Spares (width n : ℕ) (s : WatchState) : Type 0 where
  few : n ≤ width
  all : (n ≡ 0) ⊎ IsOver n s

-- a later try that goes out finds the hold over
due_over : (p : Presence) (at : ℕ) (x : Track) → is_due p at x ≡ true → is_later_try x.attempt ≡ true → p.hold ≤ at
unfolding is_due ready
due_over p at x due later = by x.attempt (and_parts (not x.out) (is_due_try p at x x.attempt) due).1 later where
  not_so : (b : Bool) → not b ≡ true → b ≡ false
  not_so true h = absurd cc
  not_so false h = refl

  by : (o : Option Try) → is_due_try p at x o ≡ true → is_later_try o ≡ true → p.hold ≤ at
  by None h l = absurd cc
  by (Some t) h l =
      let first : is_first t ≡ false = not_so (is_first t) l in
      let held = le-max_left p.hold (later_at p.away x t) in
      let is = cond-false (is_first t) t.at (max p.hold (later_at p.away x t)) first in
      let now : (if is_first t then t.at else max p.hold (later_at p.away x t)) ≤ at = grind (arith, nat_tests) in
      omega (arith, held, is, now)

some_later : (p : Presence) (at : ℕ) (xs : List Track) (s : WatchState) (is : List ℕ) → ((j : ℕ) → attempt_at s j ≡ (track_in xs j).attempt) → All (λ i. (i < length xs) × (is_due p at (track_in xs i) ≡ true)) is →
    (length (filter (is_later s) (map (request_at p (sec at) xs) is)) ≡ 0) ⊎ (p.hold ≤ at)
some_later p at xs s [] same all = inl refl
some_later p at xs s (j ∷ js) same all =
    let r = request_at p (sec at) xs j in
    let rest = filter (is_later s) (map (request_at p (sec at) xs) js) in
    let e = ap (λ k. is_later_try (attempt_at s k)) (entry_by p (sec at) xs j) ∙ ap is_later_try (same j) in
    let here = All-head (λ i. (i < length xs) × (is_due p at (track_in xs i) ≡ true)) j js all in
    elim (cases_Bool (is_later_try (track_in xs j).attempt)) [
      | inl later ↦ inr (due_over p at (track_in xs j) here.1 later)
      | inr first ↦
          elim (some_later p at xs s js same (All-tail (λ i. (i < length xs) × (is_due p at (track_in xs i) ≡ true)) j js all)) [
            | inl none ↦ inl (ap (λ b. length (cond b (r ∷ rest) rest)) (e ∙ first) ∙ none)
            | inr over ↦ inr over
          ]
    ]

-- the requests that go out at a clock
goes_spares :
    (width n : ℕ) (s : WatchState) (requests : List WatchRequest) (lanes : ℕ) → is_none s.begun ≡ false → s.answers ≡ [] → s.width ≡ width → lanes ≡ s.width - length s.out → length s.out ≤ width →
    ((n ≡ 0) ⊎ ((s.presence.hold ≤ s.clocks.at) × (n ≤ unheard s.out))) → Goes s.forest s.presence s.clocks.at s.tracks lanes requests →
    Spares width (length (filter (is_later (sent s requests)) requests) + n) (sent s requests)
goes_spares width n s requests lanes begun' answers wide free fits so h =
    let new = sent s requests in
    let p = s.presence in
    let at = s.clocks.at in
    let same : (j : ℕ) → attempt_at new j ≡ (track_in s.tracks j).attempt =
    λ j. each_kept (λ y x. y.attempt ≡ x.attempt) refl (sent_in at requests) s.tracks
    (λ k x. if_both (λ (y : Track). y.attempt ≡ x.attempt) (list_any (λ (r : WatchRequest). r.entry == k) requests) (sent_track at x) x refl refl) j in
    let these = some_later p at s.tracks new h.entries same h.due in
    let count = ap (λ rs. length (filter (is_later new) rs)) h.requests_are in
    let filtered = length-filter (is_later new) requests in
    let most = count_by-le-length (is_later new) requests in
    let many = ap length h.requests_are ∙ length-map h.entries _ in
    let lanes' = h.few in
    let split = ap length (filter-append (λ (q : Out). not q.heard) s.out (map (out_at at) requests)) ∙ length-append (filter (λ (q : Out). not q.heard) s.out) (filter (λ (q : Out). not q.heard) (map (out_at at) requests)) in
    let added = new_unheard at requests in
    let some = length-filter (λ (q : Out). not q.heard) s.out in
    let less = count_by-le-length (λ (q : Out). not q.heard) s.out in
    let total = length (filter (is_later new) requests) + n in
    record {
      few = elim so as (λ _. total ≤ width) [
        | inl none ↦ omega (arith, none, filtered, most, many, lanes', free, wide, fits)
        | inr all ↦ (let u = all.1 in omega (arith, u, some, less, filtered, most, many, lanes', free, wide, fits))
      ];
      all = elim so as (λ _. (total ≡ 0) ⊎ IsOver total new) [
        | inl none ↦
            elim these as (λ _. (total ≡ 0) ⊎ IsOver total new) [
              | inl quiet ↦ inl (omega (arith, none, count, quiet))
              | inr over ↦ inr (record { begun = begun'; over = over; rest = inr (omega (arith, none, filtered, most, split, added)) })
            ]
        | inr all ↦ (let u = all.1 in inr (record { begun = begun'; over = all.0; rest = inr (omega (arith, u, filtered, most, split, added)) }))
      ];
    }

-- a clock that does not set the hold
kept_hold :
    (margin at : ℕ) (xs : List Track) (answers : List LaneAnswer) (p : Presence) → list_any is_silent answers ≡ false → (presence_after margin at xs answers p).hold ≡ p.hold
unfolding presence_after held_back
kept_hold margin at xs answers p quiet =
    ap (λ (q : Presence). q.hold)
    (cond-false (p.away && list_any is_silent answers) (record p { count = count_after at p; hold = hold_after margin at xs p }) p (right p.away (list_any is_silent answers) quiet)) where
      right : (a b : Bool) → b ≡ false → a && b ≡ false
      right true b h = h
      right false b h = refl

begun_answers : (s : WatchState) (w : Option BeginReason) → (begun s w).answers ≡ s.answers
begun_answers s None = refl
begun_answers s (Some w) = refl

pub readied_answers : (s : WatchState) (wall elapsed : ℕ) → (readied s wall elapsed).answers ≡ []
unfolding readied
readied_answers s wall elapsed = begun_answers (settled (timed s wall elapsed)) (why s wall elapsed)

commanded :
    (width n : ℕ) (s new : WatchState) (command : WatchCommand) → is_none s.begun ≡ false → s.answers ≡ [] → Fits width s →
    ((n ≡ 0) ⊎ ((s.presence.hold ≤ s.clocks.at) × (n ≤ unheard s.out))) → StepCommand s command new →
    Spares width (length (filter (is_later new) (requests_asked_by command)) + n) new
commanded width n s new (Go requests until) begun' answers fits so h =
    let going = goes s.forest s.presence s.clocks.at s.tracks (s.width - length s.out) requests h.0.0 in
    subst (λ (x : WatchState). Spares width (length (filter (is_later x) requests) + n) x) (sym h.0.1)
    (goes_spares width n s requests (s.width - length s.out) begun' answers fits.0 refl fits.1 so going)
commanded width n s new Taken begun' answers fits so h = absurd h

-- the clock of a command is that of its state
same_clock : (s new : WatchState) (command : WatchCommand) → StepCommand s command new → new.clocks ≡ s.clocks
same_clock s new (Go requests until) h = ap (λ (x : WatchState). x.clocks) h.0.1
same_clock s new Taken h = absurd h

clock_spares :
    (width n : ℕ) (old new : WatchState) (wall elapsed : ℕ) (output : WatchOutput) → StepClock old wall elapsed output new → Fits width old → old.presence.away ≡ true →
    (Sets old (record { event = Clock wall elapsed; result = Ok output; state = new }) → ⊥) → Spares width n old →
    Spares width (length (filter (is_later new) (requests_asked_by output.command)) + n) new
clock_spares width n old new wall elapsed output step fits away never h =
    let ready = readied old wall elapsed in
    let mid = pressed ready (round_of step.round) in
    let at = (timed old wall elapsed).clocks.at in
    let clock : mid.clocks.at ≡ at = ap (λ c. c.at) (readied_clocks old wall elapsed) in
    let now : new.clocks.at ≡ mid.clocks.at = ap (λ c. c.at) (same_clock mid new output.command step.command) in
    let presence = ready_presence old wall elapsed in
    let out = readied_out old wall elapsed in
    let fits' : Fits width mid = (readied_width old wall elapsed ∙ fits.0, (let l = fits.1 in let e = ap length out in omega (arith, l, e))) in
    commanded width n mid new output.command (begun_some old wall elapsed) (readied_answers old wall elapsed) fits'
    (elim h.all as (λ _. (n ≡ 0) ⊎ ((mid.presence.hold ≤ mid.clocks.at) × (n ≤ unheard mid.out))) [
      | inl none ↦ inl none
      | inr over ↦
          let rises = clock_rises old wall elapsed over.begun in
          let past = over.over in
          elim (cases_Bool (list_any is_silent old.answers)) as (λ _. (n ≡ 0) ⊎ ((mid.presence.hold ≤ mid.clocks.at) × (n ≤ unheard mid.out))) [
            | inl silent' ↦ absurd (never (record { clock = refl; taken = refl; away = away; silent = silent'; over = omega (arith, rises, past, clock, now) }))
            | inr quiet ↦
                let hold = ap (λ (p : Presence). p.hold) presence ∙ kept_hold old.forest.margin at old.tracks old.answers old.presence quiet in
                elim over.rest as (λ _. (n ≡ 0) ⊎ ((mid.presence.hold ≤ mid.clocks.at) × (n ≤ unheard mid.out))) [
                  | inl silent' ↦ absurd (not_both silent' quiet)
                  | inr all ↦ (let e = ap unheard out in inr (omega (arith, rises, past, clock, hold), omega (arith, all, e)))
                ]
          ]
    ]) step.command

-- an answer after which the broker is still away
or_more : (a b c : Bool) → (b ≡ true → c ≡ true) → a || b ≡ true → a || c ≡ true
or_more true b c more h = refl
or_more false b c more h = more h

any_left : (p : LaneAnswer → Bool) (xs ys : List LaneAnswer) → list_any p xs ≡ true → list_any p (xs ++ ys) ≡ true
any_left p [] ys h = absurd cc
any_left p (x ∷ xs) ys h = or_more (p x) (list_any p xs) (list_any p (xs ++ ys)) (any_left p xs ys) h

any_last : (p : LaneAnswer → Bool) (xs : List LaneAnswer) (a : LaneAnswer) → p a ≡ true → list_any p (xs ++ a ∷ []) ≡ true
any_last p [] a h = ap (λ b. b || false) h
any_last p (x ∷ xs) a h = or_right (p x) (list_any p (xs ++ a ∷ [])) (any_last p xs a h)

real_back : (s : WatchState) (q : Out) (reply : WatchReply) → s.presence.away ≡ true → is_real reply ≡ true → (replied s q reply).presence.away ≡ false
real_back s q reply away real =
    let free = lane_freed s q in
    ap (λ (t : WatchState). t.presence.away) (cond-true (is_real reply) (answers_all free) (if q.heard then free else silent free) real)
    ∙ ap (λ (t : WatchState). t.presence.away) (cond-true s.presence.away (record free { out = map heard free.out; tracks = each (λ i. back_track) s.tracks; presence = is_back s.presence }) (record free { out = map heard free.out }) away)

lost_frees : (s : WatchState) (q : Out) (reply : WatchReply) → s.presence.away ≡ true → is_real reply ≡ false → replied s q reply ≡ lane_freed s q
lost_frees s q reply away lost =
    let free = lane_freed s q in
    cond-false (is_real reply) (answers_all free) (if q.heard then free else silent free) lost
    ∙ if_both (λ (t : WatchState). t ≡ free) q.heard free (silent free) refl (cond-true s.presence.away free (record free { presence = presence_gone s.presence }) away)

-- it leaves all that have gone out, or it tells of none
answer_spares :
    (width n : ℕ) (old mid new : WatchState) (q : Out) (reply : WatchReply) (i : ℕ) (operation : Operation) → request_out old.out i operation ≡ Some q → q.entry ≡ i → new ≡ replied mid q reply →
    mid.out ≡ old.out → mid.answers ≡ (noted old q reply).answers → mid.presence ≡ old.presence → mid.clocks ≡ old.clocks → mid.begun ≡ old.begun → old.presence.away ≡ true →
    new.presence.away ≡ true → IsAlone old → Spares width n old → Spares width n new
answer_spares width n old mid new q reply i operation found entry is out answers presence clocks begun' away still alone h =
    elim (cases_Bool (is_real reply)) as (λ _. Spares width n new) [
      | inl real ↦ absurd (not_both still (ap (λ (x : WatchState). x.presence.away) is ∙ real_back mid q reply (ap (λ (p : Presence). p.away) presence ∙ away) real))
      | inr lost ↦
          let freed : new ≡ lane_freed mid q = is ∙ lost_frees mid q reply (ap (λ (p : Presence). p.away) presence ∙ away) lost in
          let a : LaneAnswer = record { since = q.since; heard = q.heard; reply = reply } in
          let these : new.answers ≡ old.answers ++ a ∷ [] = ap (λ (x : WatchState). x.answers) freed ∙ answers in
          let left : new.out ≡ without_request i old.out = ap (λ (x : WatchState). x.out) freed ∙ ap (λ k. without_request k mid.out) entry ∙ ap (without_request i) out in
          record {
            few = h.few;
            all = elim h.all as (λ _. (n ≡ 0) ⊎ IsOver n new) [
              | inl none ↦ inl none
              | inr over ↦
                  let past = over.over in
                  let hold = ap (λ (x : WatchState). x.presence.hold) freed ∙ ap (λ (p : Presence). p.hold) presence in
                  let clock = ap (λ (x : WatchState). x.clocks.at) freed ∙ ap (λ c. c.at) clocks in
                  inr (record {
                    begun = ap (λ (x : WatchState). is_none x.begun) freed ∙ ap is_none begun' ∙ over.begun;
                    over = omega (arith, past, hold, clock);
                    rest = elim over.rest as (λ _. (list_any is_silent new.answers ≡ true) ⊎ (n ≤ unheard new.out)) [
                      | inl silent' ↦ inl (ap (list_any is_silent) these ∙ any_left is_silent old.answers (a ∷ []) silent')
                      | inr all ↦
                          elim (cases_Bool q.heard) as (λ _. (list_any is_silent new.answers ≡ true) ⊎ (n ≤ unheard new.out)) [
                            | inl hears ↦
                                let same = ap unheard left ∙ rid_heard i operation old.out q found hears (alone.single i) in
                                inr (omega (arith, all, same))
                            | inr unheard' ↦ inl (ap (list_any is_silent) these ∙ any_last is_silent old.answers a (and_from (not (is_real reply)) (not q.heard) (ap not lost) (ap not unheard')))
                          ]
                    ];
                  })
            ];
          }
    ]

pub looked_answers : (s : WatchState) (q : Out) (reply : WatchReply) (terms : WatchTerms) → (looked s q reply terms).answers ≡ s.answers
looked_answers s q (Told seconds renewable date) terms = refl
looked_answers s q _ terms = refl

looked_spares :
    (width n : ℕ) (old new : WatchState) (found : Option Out) (j : ℕ) (reply : WatchReply) (terms : WatchTerms) (output : WatchOutput) → request_out old.out j Look ≡ found → StepLooked old found reply terms output new →
    old.presence.away ≡ true → new.presence.away ≡ true → IsAlone old → Spares width n old → Spares width n new
looked_spares width n old new None j reply terms output is step away still alone h = absurd step
looked_spares width n old new (Some q) j reply terms output is step away still alone h =
    let s = noted old q reply in
    let rest = looked_rest s q reply terms in
    answer_spares width n old (looked s q reply terms) new q reply j Look is (out_entry old.out j Look q is) step.1 (looked_out s q reply terms) (looked_answers s q reply terms)
    (looked_presence s q reply terms) (ap (λ (x : WatchState). x.clocks) rest) (ap (λ (x : WatchState). x.begun) rest) away still alone h

renewed_spares :
    (width n : ℕ) (old new : WatchState) (found : Option Out) (j : ℕ) (reply : WatchReply) (output : WatchOutput) → request_out old.out j Renew ≡ found → StepRenewed old found reply output new →
    old.presence.away ≡ true → new.presence.away ≡ true → IsAlone old → Spares width n old → Spares width n new
renewed_spares width n old new None j reply output is step away still alone h = absurd step
renewed_spares width n old new (Some q) j reply output is step away still alone h =
    answer_spares width n old (state_renewed (noted old q reply) q reply) new q reply j Renew is (out_entry old.out j Renew q is) step.1 refl refl refl refl refl away still alone h

-- nothing goes out but at a clock
quiet : (width n : ℕ) (output out : WatchOutput) (new : WatchState) → output ≡ out → requests_asked_by out.command ≡ [] → Spares width n new → Spares width (length (filter (is_later new) (requests_asked_by output.command)) + n) new
quiet width n output out new is none h =
    let zero' : length (filter (is_later new) (requests_asked_by output.command)) ≡ 0 = ap (λ (x : WatchOutput). length (filter (is_later new) (requests_asked_by x.command))) is ∙ ap (λ rs. length (filter (is_later new) rs)) none in
    subst (λ m. Spares width m new) (let e : n ≡ length (filter (is_later new) (requests_asked_by output.command)) + n = omega (arith, zero') in e) h

looked_quiet : (output : WatchOutput) (old new : WatchState) (found : Option Out) (reply : WatchReply) (terms : WatchTerms) (width n : ℕ) → StepLooked old found reply terms output new → Spares width n new → Spares width (length (filter (is_later new) (requests_asked_by output.command)) + n) new
looked_quiet output old new None reply terms width n step h = absurd step
looked_quiet output old new (Some q) reply terms width n step h = quiet width n output _ new step.0 refl h

renewed_quiet : (output : WatchOutput) (old new : WatchState) (found : Option Out) (reply : WatchReply) (width n : ℕ) → StepRenewed old found reply output new → Spares width n new → Spares width (length (filter (is_later new) (requests_asked_by output.command)) + n) new
renewed_quiet output old new None reply width n step h = absurd step
renewed_quiet output old new (Some q) reply width n step h = quiet width n output _ new step.0 refl h

left_spares : (width n : ℕ) (old new : WatchState) → new.out ≡ old.out → new.answers ≡ old.answers → new.presence ≡ old.presence → new.clocks ≡ old.clocks → new.begun ≡ old.begun → Spares width n old → Spares width n new
left_spares width n old new out answers presence clocks begun' h = record {
  few = h.few;
  all = elim h.all as (λ _. (n ≡ 0) ⊎ IsOver n new) [
    | inl none ↦ inl none
    | inr over ↦
        let past = over.over in
        let hold = ap (λ (p : Presence). p.hold) presence in
        let clock = ap (λ c. c.at) clocks in
        inr (record {
          begun = ap is_none begun' ∙ over.begun;
          over = omega (arith, past, hold, clock);
          rest = elim over.rest as (λ _. (list_any is_silent new.answers ≡ true) ⊎ (n ≤ unheard new.out)) [
            | inl silent' ↦ inl (ap (list_any is_silent) answers ∙ silent')
            | inr all ↦ (let e = ap unheard out in inr (omega (arith, all, e)))
          ];
        })
  ];
}

step_spares :
    (width n : ℕ) (old new : WatchState) (event : WatchEvent) (output : WatchOutput) → Step old event output new → Fits width old → IsAlone old → old.presence.away ≡ true → new.presence.away ≡ true →
    (Sets old (record { event = event; result = Ok output; state = new }) → ⊥) → Spares width n old → Spares width (length (filter (is_later new) (requests_asked_by output.command)) + n) new
step_spares width n old new (Clock wall elapsed) output step fits alone away still never h = clock_spares width n old new wall elapsed output step fits away never h
step_spares width n old new (Looked j reply terms) output step fits alone away still never h =
    looked_quiet output old new (request_out old.out j Look) reply terms width n step (looked_spares width n old new (request_out old.out j Look) j reply terms output refl step away still alone h)
step_spares width n old new (Renewed j reply) output step fits alone away still never h =
    renewed_quiet output old new (request_out old.out j Renew) reply width n step (renewed_spares width n old new (request_out old.out j Renew) j reply output refl step away still alone h)
step_spares width n old new (Need j until) output step fits alone away still never h =
    quiet width n output _ new step.0 refl (subst (Spares width n) (sym step.1) (left_spares width n old (with_need_until old j until) refl refl refl refl refl h))
step_spares width n old new Begin output step fits alone away still never h =
    quiet width n output _ new step.0 refl (subst (Spares width n) (sym step.1) (left_spares width n old (record old { asked = true }) refl refl refl refl refl h))
step_spares width n old new (Known j end renewable) output step fits alone away still never h =
    quiet width n output _ new step.0 refl (subst (Spares width n) (sym step.1) (left_spares width n old (known old j end renewable) refl refl refl refl refl h))

turn_spares :
    (width n : ℕ) (old new : WatchState) (event : WatchEvent) (result : Result WatchOutput WatchFault) → Turn old event result new → Fits width old → IsAlone old → old.presence.away ≡ true → new.presence.away ≡ true →
    (Sets old (record { event = event; result = result; state = new }) → ⊥) → Spares width n old → Spares width (length (filter (is_later new) (requests_at_turn result)) + n) new
turn_spares width n old new event (Ok output) turn fits alone away still never h = step_spares width n old new event output turn.1 fits alone away still never h
turn_spares width n old new event (Err fault) turn fits alone away still never h =
    subst (λ m. Spares width m new) (let e : n ≡ 0 + n = omega arith in e) (subst (Spares width n) (sym (refused_stays old new event fault turn)) h)

-- and a change leaves as many out, of which as many have heard of none
changed_spares : (width n : ℕ) (old : WatchState) (c : Changed) → IsChanged old c → Spares width n old → Spares width n c.state
changed_spares width n old c h spares = record {
  few = spares.few;
  all = elim spares.all as (λ _. (n ≡ 0) ⊎ IsOver n c.state) [
    | inl none ↦ inl none
    | inr over ↦
        let past = over.over in
        let hold = ap (λ (s : WatchState). s.presence.hold) h.state in
        let clock = ap (λ (s : WatchState). s.clocks.at) h.state in
        inr (record {
          begun = ap (λ (s : WatchState). is_none s.begun) h.state ∙ over.begun;
          over = omega (arith, past, hold, clock);
          rest = elim over.rest as (λ _. (list_any is_silent c.state.answers ≡ true) ⊎ (n ≤ unheard c.state.out)) [
            | inl silent' ↦ inl (ap (λ (s : WatchState). list_any is_silent s.answers) h.state ∙ silent')
            | inr all ↦ (let same = ap (λ (s : WatchState). unheard s.out) h.state ∙ filter_after (λ (q : Out). not q.heard) (λ r k. refl) c.was (length c.forest.entries) old.out in inr (omega (arith, all, same)))
          ];
        })
  ];
}

ran :
    (hs : List Happening) (width n : ℕ) (old : WatchState) → AllHappen old hs → IsCounted old → Fits width old → IsAlone old → old.presence.away ≡ true → AllAway hs → NoneSets old hs → Spares width n old →
    laters hs + n ≤ width
ran [] width n old h count fits alone away all none spares = let few = spares.few in omega (arith, few)
ran (Hands turn ∷ hs) width n old h count fits alone away all none spares =
    let here = length (filter (is_later turn.state) (requests_at_turn turn.result)) in
    let rest =
    ran hs width (here + n) turn.state h.1 (turn_counted old turn.state turn.event turn.result h.0 count) (turn_fits width old turn.state turn.event turn.result h.0 fits)
    (turn_alone old turn.state turn.event turn.result h.0 alone) all.0 all.1 none.1 (turn_spares width n old turn.state turn.event turn.result h.0 fits alone away all.0 none.0 spares) in
    omega (arith, rest)
ran (Changes c ∷ hs) width n old h count fits alone away all none spares =
    ran hs width n c.state h.1 (changed_counted old c h.0) (changed_fits old c h.0 width fits) (changed_alone old c h.0 count alone) all.0 all.1 none (changed_spares width n old c h.0 spares)

pub spared : SparedLaw
spared old hs reached h away all none =
    let base = reached_base old reached in
    let few = ran hs old.width 0 old h (reached_counted old reached) base.fits base.alone away all none (record { few = omega arith; all = inl refl }) in
    omega (arith, few)
