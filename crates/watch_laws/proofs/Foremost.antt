-- Foremost: while the broker is there, whatever goes out at a clock before an entry of known end whose time has come, and that has not
-- failed, stands before it. For the laws of a start and of partial outages.
use Rattle.std.proofs.Common.{◌≡◌, ◌≢◌, ◌∙◌, ℕ, ◌<◌, ◌≤◌, Bool, true, false, not, ◌&&◌, ◌==◌, List, [], ◌∷◌, Option, Some, None, All, Result, Ok, Err, get_or, length, refl, sym, ap, subst, arith, inl, inr}
use Rattle.std.proofs.lemmas.Bool.Decides.{nat_tests}
use Rattle.std.proofs.lemmas.Bool.{and_from, cases_Bool, cases_lt}
use Rattle.std.proofs.lemmas.List.Elements.{All-cons, All-map, All-nil}
use Rattle.std.specs.List.{list_any}
use Rattle.plan_forest.specs.declared.entry.Entry.{Entry}
use Rattle.watch_machine.specs.{declared.command.WatchCommand.TheVariants.Taken, declared.command.WatchOutput.WatchOutput, declared.command.WatchRequest.WatchRequest, declared.event.WatchEvent.WatchEvent}
use Rattle.watch_machine.specs.{declared.event.WatchReply.WatchReply, declared.event.WatchTerms.WatchTerms, declared.fault.WatchFault.WatchFault, declared.lanes.Out.Out, declared.track.Track.Track, declared.track.Try.Try, Clocks.sec}
use Rattle.watch_machine.specs.{History.Turn, Lines.is_due, Lines.is_first, Margins.has_come, Margins.time, Press.pressed, Refusal.is_same, Refusal.request_out, Wait.wait, Wanted.is_alive}
use Rattle.watch_machine.specs.declared.event.WatchEvent.TheVariants.{Clock, Looked, Renewed}
use Rattle.watch_machine.specs.declared.event.Operation.TheVariants.{Look, Renew}
use Rattle.watch_machine.specs.Sending.{is_before, place, sent, sent_in}
use Rattle.watch_machine.specs.State.{WatchState, entry_of, second, track_at}
use Rattle.watch_machine.specs.Step.{Step, StepLooked, StepRenewed, readied}
use Rattle.watch_machine.proofs.{Cases.not_both, Cases.value_is, Written.each_length}
use Rattle.watch_laws.specs.{Load.requests_asked_by, Load.requests_at_turn, Partial.is_own_try, Partial.stands_before, Recovery.MayGo, Starts.IsToRenew, Starts.KnownFirstLaw, Time.is_come, Waiting.IsMinded}
use Rattle.watch_laws.proofs.{Lanes.Ticks, Lanes.ticks, Spacing.passed_over}
use Rattle.watch_laws.proofs.Fronts.{front_at, fronts, own_at, sent_front, sent_own}
use Rattle.watch_laws.proofs.Going.{counts, entry_by, request_at, skips, some_named, times}
use Rattle.watch_laws.proofs.Minding.{due_so, end_minded, not_named, some_within}

-- ---- a clock

come_by : (margin : ℕ) (e : Entry) (x : Track) (now : ℕ) → has_come margin e x now ≡ true → time margin e x ≤ now
unfolding has_come
come_by margin e x now h = grind (arith, nat_tests)

-- whose time has come does not go along
come_alone : (renews come : Bool) → come ≡ true → not (renews && not come) ≡ true
come_alone true true come = refl
come_alone false true come = refl
come_alone renews false come = absurd cc

-- none of some numbers is another
absent : (i : ℕ) (is : List ℕ) → times i is ≡ 0 → All (λ k. k ≢ i) is
absent i [] none = All-nil (λ k. k ≢ i)
absent i (j ∷ js) none =
    elim (cases_Bool (j == i)) as (λ _. All (λ k. k ≢ i) (j ∷ js)) [
      | inl here ↦ absurd (let more = counts i j js here in omega (arith, more, none))
      | inr there ↦
          let more = skips i j js there in
          All-cons (λ k. k ≢ i) j js (λ e. not_both (same_is j i e) there) (absent i js (omega (arith, more, none)))
    ] where
      same_is : (a b : ℕ) → a ≡ b → (a == b) ≡ true
      same_is a b e = grind (arith, nat_tests)

module _ (old new : WatchState) (wall elapsed : ℕ) (output : WatchOutput) (h : Ticks old new wall elapsed output) (i : ℕ) where
  abbrev ready : WatchState
  ready = readied old wall elapsed

  abbrev mid : WatchState
  mid = pressed ready h.round

  abbrev left : WatchState
  left = sent mid h.requests

  abbrev gone : List ℕ
  gone = h.going.entries

  abbrev at : ℕ
  at = mid.clocks.at

  within_mid : MayGo left i → i < length mid.tracks
  within_mid may =
      let count = each_length (sent_in mid.clocks.at h.requests) mid.tracks in
      let low = some_within left.tracks i may.attempt may.attempt_is in
      omega (arith, low, count)

  none_of : MayGo left i → times i gone ≡ 0
  none_of may =
      let other = not_named mid h.requests i (within_mid may) may.free in
      elim (cases_lt (times i gone) 1) as (λ _. times i gone ≡ 0) [
        | inl none ↦ omega (arith, none)
        | inr some ↦ absurd (not_both (ap (list_any (λ (r : WatchRequest). r.entry == i)) h.going.requests_are ∙ some_named mid.presence (sec at) at mid.tracks i gone some) other)
      ]

  -- whoever goes out is another, and stands no further behind
  pub none_behind : MayGo left i → All (λ k. (k ≢ i) × (is_before (place mid.forest mid.presence.away (sec at) mid.tracks i) (place mid.forest mid.presence.away (sec at) mid.tracks k) ≡ false)) gone
  none_behind may =
      let within = within_mid may in
      let same = passed_over mid h.requests i (not_named mid h.requests i within may.free) in
      let due : is_due mid.presence at (track_at mid i) ≡ true = subst (λ x. is_due mid.presence at x ≡ true) same (due_so mid.presence at (track_at left i) may.attempt may.free may.attempt_is may.due) in
      let none = none_of may in
      let apart = absent i gone none in
      let order = h.going.order i within due none in
      λ k d below. (apart k d below, order k d below)

  -- while the broker is there, whoever goes out stands before a first try that is an entry's own and does not
  pub all_front : MayGo left i → left.presence.away ≡ false → own_at mid.forest (sec at) left.tracks i ≡ true → All (λ k. front_at mid.forest (sec at) mid.tracks i k ≡ true) gone
  all_front may there own' =
      let within = within_mid may in
      let other = not_named mid h.requests i within may.free in
      let same = passed_over mid h.requests i other in
      let due : is_due mid.presence at (track_at mid i) ≡ true = subst (λ x. is_due mid.presence at x ≡ true) same (due_so mid.presence at (track_at left i) may.attempt may.free may.attempt_is may.due) in
      let none = none_of may in
      let apart = absent i gone none in
      let order = h.going.order i within due none in
      let all = h.going.due in
      let own : own_at mid.forest (sec at) mid.tracks i ≡ true = sym (sent_own mid h.requests (sec at) i) ∙ own' in
      λ k d below. fronts mid.forest mid.presence at mid.tracks i (get_or gone k d) there own (all k d below).1 (apart k d below) (order k d below)

  -- an entry of known end whose time has come has such a try
  renews_own : IsToRenew left i → own_at mid.forest (sec at) left.tracks i ≡ true
  renews_own r =
      let may = r.may in
      let t = may.attempt in
      let x = track_at left i in
      let minded : IsMinded left (wait left) i = end_minded ready h.round h.requests i h.going may.within r.wanted in
      let pressed' : t.pressed ≡ true = elim minded as (λ _. t.pressed ≡ true) [
        | inl out ↦ absurd (not_both out may.free)
        | inr rest ↦ elim rest as (λ _. t.pressed ≡ true) [
          | inl p ↦ (let e : p.has.attempt ≡ t = value_is p.has.attempt t (sym p.has.attempt_is ∙ may.attempt_is) in sym (ap (λ (u : Try). u.pressed) e) ∙ p.pressed)
          | inr a ↦ absurd (let late = a.ahead in let by = come_by left.forest.margin (entry_of left i) x (second left) r.come in omega (arith, late, by))
        ]
      ] in
      let never : (t.fails == 0) ≡ true = (let e = r.first in grind (arith, nat_tests)) in
      and_from (is_own_try (is_come left i) x.attempt) (is_alive (sec at) x)
      (ap (is_own_try (is_come left i)) may.attempt_is
      ∙ and_from (is_first t) (not (is_same t.operation Renew && not (is_come left i))) (and_from t.pressed (t.fails == 0) pressed' never) (come_alone (is_same t.operation Renew) (is_come left i) r.come))
      r.alive

  clock_first : left.presence.away ≡ false → IsToRenew left i → All (λ (r : WatchRequest). stands_before i left r.entry ≡ true) h.requests
  clock_first there r =
      let rq = request_at mid.presence (sec at) mid.tracks in
      let front = all_front r.may there (renews_own r) in
      let P : WatchRequest → Type 0 = λ q. stands_before i left q.entry ≡ true in
      subst (All P) (sym h.going.requests_are)
      (All-map P rq gone (λ k d below. ap (stands_before i left) (entry_by mid.presence (sec at) mid.tracks (get_or gone k d)) ∙ sent_front mid h.requests (sec at) i (get_or gone k d) ∙ front k d below))

  pub new_first : new.presence.away ≡ false → IsToRenew new i → All (λ (r : WatchRequest). stands_before i new r.entry ≡ true) h.requests
  new_first there r =
      subst (λ (x : WatchState). All (λ (q : WatchRequest). stands_before i x q.entry ≡ true) h.requests) (sym h.new_is)
      (clock_first (subst (λ (x : WatchState). x.presence.away ≡ false) h.new_is there) (subst (λ (x : WatchState). IsToRenew x i) h.new_is r))

-- ---- a step, a turn

abbrev First : WatchState → ℕ → WatchOutput → Type 0
First new i output = All (λ (r : WatchRequest). stands_before i new r.entry ≡ true) (requests_asked_by output.command)

none_goes : (new : WatchState) (i : ℕ) (output out : WatchOutput) → output ≡ out → out.command ≡ Taken → First new i output
none_goes new i output out is taken' =
    subst (λ c. All (λ (r : WatchRequest). stands_before i new r.entry ≡ true) (requests_asked_by c)) (sym (ap (λ (x : WatchOutput). x.command) is ∙ taken')) (All-nil (λ (r : WatchRequest). stands_before i new r.entry ≡ true))

looked_first : (old new : WatchState) (i : ℕ) (found : Option Out) (reply : WatchReply) (terms : WatchTerms) (output : WatchOutput) → StepLooked old found reply terms output new → First new i output
looked_first old new i None reply terms output step = absurd step
looked_first old new i (Some q) reply terms output step = none_goes new i output _ step.0 refl

renewed_first : (old new : WatchState) (i : ℕ) (found : Option Out) (reply : WatchReply) (output : WatchOutput) → StepRenewed old found reply output new → First new i output
renewed_first old new i None reply output step = absurd step
renewed_first old new i (Some q) reply output step = none_goes new i output _ step.0 refl

step_first : (old new : WatchState) (event : WatchEvent) (output : WatchOutput) (i : ℕ) → Step old event output new → new.presence.away ≡ false → IsToRenew new i → First new i output
step_first old new (Clock wall elapsed) output i step there r =
    let h = ticks old new wall elapsed output step in
    subst (λ c. All (λ (q : WatchRequest). stands_before i new q.entry ≡ true) (requests_asked_by c)) (sym h.command) (new_first old new wall elapsed output h i there r)
step_first old new (Looked j reply terms) output i step there r = looked_first old new i (request_out old.out j Look) reply terms output step
step_first old new (Renewed j reply) output i step there r = renewed_first old new i (request_out old.out j Renew) reply output step
step_first old new _ output i step there r = none_goes new i output _ step.0 refl

turn_first :
    (old new : WatchState) (event : WatchEvent) (result : Result WatchOutput WatchFault) (i : ℕ) → Turn old event result new → new.presence.away ≡ false → IsToRenew new i →
    All (λ (r : WatchRequest). stands_before i new r.entry ≡ true) (requests_at_turn result)
turn_first old new event (Ok output) i turn there r = step_first old new event output i turn.1 there r
turn_first old new event (Err fault) i turn there r = All-nil (λ (q : WatchRequest). stands_before i new q.entry ≡ true)

pub known_first : KnownFirstLaw
known_first old [] h = tt
known_first old (turn ∷ turns) h = ((λ there i r. turn_first old turn.state turn.event turn.result i h.0 there r), known_first turn.state turns h.1)
