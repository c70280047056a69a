-- Alone: no two requests are out under one index, and none of an entry that is not marked as out. For the law of sparing.
use Rattle.std.proofs.Common.{◌≡◌, ◌≢◌, ◌⊎◌, ◌∙◌, ℕ, zero, suc, ◌-◌, ◌<◌, ◌≤◌, Bool, true, false, cond, not, ◌==◌, if◌then◌else◌, List, [], ◌∷◌, Option, Some, None, Result, Ok, Err, filter, length, map, refl, sym, ap, subst, arith, inl, inr}
use Rattle.std.proofs.lemmas.{Bool.cases_Bool, Bool.eqb-true, Bool.Decides.nat_tests, List.get_or-set_other, List.length-append, List.Elements.filter-append}
use Rattle.std.specs.List.{list_any}
use Rattle.watch_machine.specs.{declared.command.WatchCommand.WatchCommand, declared.command.WatchOutput.WatchOutput, declared.command.WatchRequest.WatchRequest, declared.event.WatchEvent.WatchEvent, declared.event.WatchReply.WatchReply}
use Rattle.watch_machine.specs.{declared.event.WatchTerms.WatchTerms, declared.fault.WatchFault.WatchFault, declared.lanes.Out.Out, declared.lanes.Presence.Presence, declared.track.Track.Track, Clocks.sec, History.Turn, Lines.is_due}
use Rattle.watch_machine.specs.{Looked.looked, Press.pressed, Press.pressed_alone, Refusal.request_out, Renewed.state_renewed, Round.asked_by_round as round_of, Sending.out_at, Sending.sent, Settling.is_real}
use Rattle.watch_machine.specs.declared.command.WatchCommand.TheVariants.{Go, Taken}
use Rattle.watch_machine.specs.declared.event.WatchEvent.TheVariants.{Clock, Looked, Renewed, Known}
use Rattle.watch_machine.specs.declared.event.Operation.TheVariants.{Look, Renew}
use Rattle.watch_machine.specs.Answers.{answers_all, heard, lane_freed, noted, replied, silent, without_request}
use Rattle.watch_machine.specs.State.{WatchState, no_track, track_at, track_in}
use Rattle.watch_machine.specs.Step.{Step, StepCommand, StepLooked, StepRenewed, known, readied}
use Rattle.watch_machine.proofs.Written.{each_length}
use Rattle.watch_machine.proofs.Cases.{if_both, if_cases, not_both}
use Rattle.watch_laws.proofs.{Clocking.refused_stays, Topping.readied_count, Topping.turn_count, Tracking.known_out, Tracking.set_kept}
use Rattle.watch_laws.proofs.Going.{Goes, counts, entry_by, goes, named_of, one_sent, request_at, skips, some_named, times}
use Rattle.watch_laws.proofs.Spacing.{after_flag, free_of, looked_other, looked_out, mid_flag, passed_over, readied_out, went}

-- how many requests of an entry are out
abbrev pub lanes_of : ℕ → List Out → ℕ
lanes_of i out = length (filter (λ q. q.entry == i) out)

abbrev pub flag : Bool → ℕ
flag b = if b then 1 else 0

-- and of the first so many entries, none where one is not marked as out
record IsAloneTo (n : ℕ) (s : WatchState) : Type 0 where
  once : (i : ℕ) → i < n → lanes_of i s.out ≤ flag (track_at s i).out
  single : (i : ℕ) → lanes_of i s.out ≤ 1

pub record IsAlone (s : WatchState) : Type 0 where
  pub once : (i : ℕ) → i < length s.tracks → lanes_of i s.out ≤ flag (track_at s i).out
  pub single : (i : ℕ) → lanes_of i s.out ≤ 1

-- those that remain
fewer : (i e : ℕ) (out : List Out) → lanes_of i (without_request e out) ≤ lanes_of i out
unfolding without_request
fewer i e [] = omega arith
fewer i e (q ∷ out) =
    let rest = fewer i e out in
    let p : Out → Bool = λ o. o.entry == i in
    if_cases (λ (os : List Out). length (filter p os) ≤ lanes_of i (q ∷ out)) (not (q.entry == e)) (q ∷ filter (λ o. not (o.entry == e)) out) (filter (λ o. not (o.entry == e)) out)
    (λ kept. if_both_le (p q) q (filter p (filter (λ o. not (o.entry == e)) out)) (filter p out) rest)
    (λ gone. if_cases (λ (os : List Out). lanes_of i (filter (λ o. not (o.entry == e)) out) ≤ length os) (p q) (q ∷ filter p out) (filter p out) (λ e'. omega (arith, rest)) (λ e'. rest)) where
      if_both_le : (b : Bool) (o : Out) (xs ys : List Out) → length xs ≤ length ys → length (if b then o ∷ xs else xs) ≤ length (if b then o ∷ ys else ys)
      if_both_le true o xs ys h = omega (arith, h)
      if_both_le false o xs ys h = h

pub none_left : (i : ℕ) (out : List Out) → lanes_of i (without_request i out) ≡ 0
unfolding without_request
none_left i [] = refl
none_left i (q ∷ out) =
    let p : Out → Bool = λ o. o.entry == i in
    let rest = none_left i out in
    elim (cases_Bool (p q)) [
      | inl here ↦ ap (λ b. length (filter p (cond (not b) (q ∷ filter (λ o. not (o.entry == i)) out) (filter (λ o. not (o.entry == i)) out)))) here ∙ rest
      | inr other ↦
          ap (λ b. length (filter p (cond (not b) (q ∷ filter (λ o. not (o.entry == i)) out) (filter (λ o. not (o.entry == i)) out)))) other
          ∙ ap (λ b. length (cond b (q ∷ filter p (filter (λ o. not (o.entry == i)) out)) (filter p (filter (λ o. not (o.entry == i)) out)))) other ∙ rest
    ]

heard_same : (i : ℕ) (out : List Out) → lanes_of i (map heard out) ≡ lanes_of i out
heard_same i [] = refl
heard_same i (q ∷ out) = by (q.entry == i) (heard_same i out) where
  by : (b : Bool) → length (filter (λ (o : Out). o.entry == i) (map heard out)) ≡ length (filter (λ (o : Out). o.entry == i) out) →
      length (cond b (heard q ∷ filter (λ (o : Out). o.entry == i) (map heard out)) (filter (λ (o : Out). o.entry == i) (map heard out))) ≡ length (cond b (q ∷ filter (λ (o : Out). o.entry == i) out) (filter (λ (o : Out). o.entry == i) out))
  by true h = ap (λ n. suc n) h
  by false h = h

pub replied_lanes : (s : WatchState) (q : Out) (reply : WatchReply) (i : ℕ) → lanes_of i (replied s q reply).out ≤ lanes_of i (without_request q.entry s.out)
replied_lanes s q reply i =
    let free = lane_freed s q in
    let same = heard_same i (without_request q.entry s.out) in
    if_both (λ (t : WatchState). lanes_of i t.out ≤ lanes_of i (without_request q.entry s.out)) (is_real reply) (answers_all free) (if q.heard then free else silent free)
    (if_both (λ (t : WatchState). lanes_of i t.out ≤ lanes_of i (without_request q.entry s.out)) s.presence.away _ _ (omega (arith, same)) (omega (arith, same)))
    (if_both (λ (t : WatchState). lanes_of i t.out ≤ lanes_of i (without_request q.entry s.out)) q.heard free (silent free) (omega arith)
    (if_both (λ (t : WatchState). lanes_of i t.out ≤ lanes_of i (without_request q.entry s.out)) s.presence.away _ _ (omega arith) (omega arith)))

-- those that go out
sent_lanes : (p : Presence) (now at : ℕ) (xs : List Track) (i : ℕ) (is : List ℕ) → lanes_of i (map (out_at at) (map (request_at p now xs) is)) ≡ times i is
sent_lanes p now at xs i [] = refl
sent_lanes p now at xs i (j ∷ js) =
    let rest = sent_lanes p now at xs i js in
    let r = request_at p now xs j in
    let e = entry_by p now xs j in
    let tail = filter (λ (o : Out). o.entry == i) (map (out_at at) (map (request_at p now xs) js)) in
    elim (cases_Bool (j == i)) [
      | inl same ↦ (let more = counts i j js same in
          ap (λ b. length (cond b (out_at at r ∷ tail) tail)) (ap (λ n. n == i) e ∙ same) ∙ (let n : length (out_at at r ∷ tail) ≡ times i (j ∷ js) = omega (arith, more, rest) in n))
      | inr other ↦ ap (λ b. length (cond b (out_at at r ∷ tail) tail)) (ap (λ n. n == i) e ∙ other) ∙ rest ∙ sym (skips i j js other)
    ]

module _ (n : ℕ) where
  sent_alone : (s : WatchState) (requests : List WatchRequest) (lanes : ℕ) → length s.tracks ≤ n → Goes s.forest s.presence s.clocks.at s.tracks lanes requests → IsAloneTo n s → IsAloneTo n (sent s requests)
  sent_alone s requests lanes count h alone = record {
    once = λ i low. (by_case i).0 low;
    single = λ i. (by_case i).1;
  } where
    cases_one : (k : ℕ) → k ≤ 1 → (k ≡ 0) ⊎ (1 ≤ k)
    cases_one zero h' = inl refl
    cases_one (suc k) h' = inr (omega arith)

    Ends : ℕ → Type 0
    Ends i = (i < n → lanes_of i (sent s requests).out ≤ flag (track_at (sent s requests) i).out) × (lanes_of i (sent s requests).out ≤ 1)

    by_case : (i : ℕ) → Ends i
    by_case i =
        let p = s.presence in
        let at = s.clocks.at in
        let new = sent s requests in
        let more = filter-append (λ (q : Out). q.entry == i) s.out (map (out_at at) requests) in
        let all = ap length more ∙ length-append (filter (λ (q : Out). q.entry == i) s.out) (filter (λ (q : Out). q.entry == i) (map (out_at at) requests)) in
        let there = ap (λ rs. lanes_of i (map (out_at at) rs)) h.requests_are ∙ sent_lanes p (sec at) at s.tracks i h.entries in
        elim (one_sent p (sec at) at s.tracks i h.entries (h.once i)) as (λ _. Ends i) [
          | inl none ↦
              let same = ap (λ (x : Track). flag x.out) (passed_over s requests i (ap (list_any (λ (r : WatchRequest). r.entry == i)) h.requests_are ∙ none.1)) in
              let few = h.once i in
              elim (cases_one (times i h.entries) few) as (λ _. Ends i) [
                | inl zero' ↦ (λ low. (let before = alone.once i low in omega (arith, all, there, before, same, zero')), (let before = alone.single i in omega (arith, all, there, before, zero')))
                | inr some ↦ absurd (not_both (some_named p (sec at) at s.tracks i h.entries some) none.1)
              ]
          | inr one ↦
              let due = named_of (λ j. (j < length s.tracks) × (is_due p at (track_in s.tracks j) ≡ true)) i h.entries h.due one.1.1 in
              let free = ap flag (free_of p at (track_at s i) due.1).0 in
              let marked = ap (λ (x : Track). flag x.out) (went s requests i (ap (list_any (λ (r : WatchRequest). r.entry == i)) h.requests_are ∙ one.1.0) due.0) in
              let times' = one.1.1 in
              let below = due.0 in
              let before = alone.once i (omega (arith, below, count)) in
              (λ low. omega (arith, all, there, before, free, marked, times'), omega (arith, all, there, before, free, times'))
        ]

  -- a clock
  mid_alone : (old : WatchState) (wall elapsed : ℕ) (round : List ℕ) → IsAloneTo n old → IsAloneTo n (pressed (readied old wall elapsed) round)
  mid_alone old wall elapsed round alone = record {
    once = λ i low.
        let same = ap flag (mid_flag old wall elapsed round i) in
        let out = ap (lanes_of i) (readied_out old wall elapsed) in
        let before = alone.once i low in
        omega (arith, same, out, before);
    single = λ i. let out = ap (lanes_of i) (readied_out old wall elapsed) in let before = alone.single i in omega (arith, out, before);
  }

  mid_count : (old : WatchState) (wall elapsed : ℕ) (round : List ℕ) → length (pressed (readied old wall elapsed) round).tracks ≡ length old.tracks
  mid_count old wall elapsed round = each_length _ (pressed_alone (readied old wall elapsed).forest (readied old wall elapsed).clocks (readied old wall elapsed).tracks) ∙ each_length _ (readied old wall elapsed).tracks ∙ readied_count old wall elapsed

  commanded : (s new : WatchState) (command : WatchCommand) → length s.tracks ≤ n → IsAloneTo n s → StepCommand s command new → IsAloneTo n new
  commanded s new (Go requests until) count alone h =
      subst (IsAloneTo n) (sym h.0.1) (sent_alone s requests (s.width - length s.out) count (goes s.forest s.presence s.clocks.at s.tracks (s.width - length s.out) requests h.0.0) alone)
  commanded s new Taken count alone h = absurd h

  -- an answer
  answered : (old mid new : WatchState) (q : Out) (reply : WatchReply) → new ≡ replied mid q reply → mid.out ≡ old.out → ((i : ℕ) → q.entry ≢ i → track_at mid i ≡ track_at old i) → IsAloneTo n old → IsAloneTo n new
  answered old mid new q reply is out other alone = record {
    once = λ i low.
        let less = replied_lanes mid q reply i in
        let that = ap (λ (x : WatchState). lanes_of i x.out) is in
        let same = ap (λ os. lanes_of i (without_request q.entry os)) out in
        elim (cases_Bool (q.entry == i)) [
          | inl here ↦
              let none = none_left i old.out in
              let these = ap (λ n. lanes_of i (without_request n old.out)) (eqb-true q.entry i here) in
              omega (arith, less, that, same, none, these)
          | inr different ↦
              let apart : q.entry ≢ i = λ e. not_both (subst (λ n. (n == i) ≡ true) (sym e) (same_index' i)) different in
              let kept = ap flag (after_flag old mid new q reply i is out (other i) apart) in
              let few = fewer i q.entry old.out in
              let before = alone.once i low in
              omega (arith, less, that, same, kept, few, before)
        ];
    single = λ i.
        let less = replied_lanes mid q reply i in
        let that = ap (λ (x : WatchState). lanes_of i x.out) is in
        let same = ap (λ os. lanes_of i (without_request q.entry os)) out in
        let few = fewer i q.entry old.out in
        let before = alone.single i in
        omega (arith, less, that, same, few, before);
  } where
    same_index' : (n : ℕ) → (n == n) ≡ true
    same_index' n = grind (arith, nat_tests)

  looked_alone : (old new : WatchState) (found : Option Out) (reply : WatchReply) (terms : WatchTerms) (output : WatchOutput) → StepLooked old found reply terms output new → IsAloneTo n old → IsAloneTo n new
  looked_alone old new None reply terms output step alone = absurd step
  looked_alone old new (Some q) reply terms output step alone =
      let s = noted old q reply in
      answered old (looked s q reply terms) new q reply step.1 (looked_out s q reply terms) (λ i. looked_other s q reply terms i) alone

  renewed_alone : (old new : WatchState) (found : Option Out) (reply : WatchReply) (output : WatchOutput) → StepRenewed old found reply output new → IsAloneTo n old → IsAloneTo n new
  renewed_alone old new None reply output step alone = absurd step
  renewed_alone old new (Some q) reply output step alone =
      let s = noted old q reply in
      answered old (state_renewed s q reply) new q reply step.1 refl (λ i apart. get_or-set_other s.tracks q.entry i _ no_track (λ e. apart (sym e))) alone

  known_flag : (s : WatchState) (j end : ℕ) (renewable : Bool) (i : ℕ) → (track_at (known s j end renewable) i).out ≡ (track_at s i).out
  known_flag s j end renewable i = set_kept (λ (y x : Track). y.out ≡ x.out) (λ x. refl) s.tracks j _ (known_out s.clocks.at end renewable (track_at s j)) i

  step_alone : (old new : WatchState) (event : WatchEvent) (output : WatchOutput) → length old.tracks ≤ n → Step old event output new → IsAloneTo n old → IsAloneTo n new
  step_alone old new (Clock wall elapsed) output count step alone =
      commanded (pressed (readied old wall elapsed) (round_of step.round)) new output.command (let same = mid_count old wall elapsed (round_of step.round) in omega (arith, same, count)) (mid_alone old wall elapsed (round_of step.round) alone) step.command
  step_alone old new (Looked j reply terms) output count step alone = looked_alone old new (request_out old.out j Look) reply terms output step alone
  step_alone old new (Renewed j reply) output count step alone = renewed_alone old new (request_out old.out j Renew) reply output step alone
  step_alone old new (Known j end renewable) output count step alone =
      subst (IsAloneTo n) (sym step.1) (record {
        once = λ i low.
            let same = ap flag (known_flag old j end renewable i) in
            let before = alone.once i low in
            omega (arith, same, before);
        single = alone.single;
      })
  step_alone old new _ output count step alone = subst (IsAloneTo n) (sym step.1) (record { once = alone.once; single = alone.single })

pub turn_alone : (old new : WatchState) (event : WatchEvent) (result : Result WatchOutput WatchFault) → Turn old event result new → IsAlone old → IsAlone new
turn_alone old new event (Ok output) turn alone =
    let count = turn_count old new event (Ok output) turn in
    let to = step_alone (length old.tracks) old new event output (omega arith) turn.1 (record { once = alone.once; single = alone.single }) in
    record { once = λ i low. to.once i (omega (arith, low, count)); single = to.single }
turn_alone old new event (Err fault) turn alone = subst IsAlone (sym (refused_stays old new event fault turn)) alone
