-- Marked: of each entry that is marked as out a request is out. For the laws of outages.
use Rattle.std.proofs.Common.{◌≡◌, ◌≢◌, ◌∙◌, ℕ, zero, suc, ◌<◌, ◌≤◌, Bool, true, false, cond, ◌&&◌, ◌||◌, ◌==◌, List, [], ◌∷◌, Option, Some, None, All, Result, Ok, Err, filter, length, map, refl, sym, ap, subst, arith, inl, inr}
use Rattle.std.proofs.lemmas.List.{get_or-set_other}
use Rattle.std.proofs.lemmas.Bool.{and_from, cases_Bool, eqb-true}
use Rattle.std.proofs.lemmas.List.Elements.{All-cons, All-head, All-tail, All-weaker}
use Rattle.std.specs.List.{list_any}
use Rattle.plan_forest.specs.declared.entry.Entry.{Entry}
use Rattle.watch_machine.specs.{declared.command.WatchOutput.WatchOutput, declared.event.WatchEvent.WatchEvent, declared.event.WatchReply.WatchReply, declared.event.WatchTerms.WatchTerms, declared.fault.WatchFault.WatchFault}
use Rattle.watch_machine.specs.{declared.lanes.Out.Out, declared.track.Track.Track, History.Turn, Refusal.request_out}
use Rattle.watch_machine.specs.declared.event.WatchEvent.TheVariants.{Clock, Looked, Renewed, Known}
use Rattle.watch_machine.specs.declared.event.Operation.TheVariants.{Look, Renew}
use Rattle.watch_machine.specs.declared.event.WatchReply.TheVariants.{Told, Refused, Busy, Lost}
use Rattle.watch_machine.specs.Answers.{back_track, noted, replied}
use Rattle.watch_machine.specs.Looked.{looked, told_state, told_track, untold_track}
use Rattle.watch_machine.specs.Renewed.{granted_from, renewed_track, state_renewed, ungranted_track}
use Rattle.watch_machine.specs.State.{WatchState, fresh_track, no_track, track_at, track_in}
use Rattle.watch_machine.specs.Step.{Step, StepLooked, StepRenewed}
use Rattle.watch_machine.proofs.Cases.{not_both}
use Rattle.watch_laws.specs.Outage.{Outage, is_request_served, is_request_whole}
use Rattle.watch_laws.proofs.{Clocking.refused_stays, Counting.no_lane, Requests.none_passes}
use Rattle.watch_laws.proofs.Alone.{IsAlone, flag, lanes_of}
use Rattle.watch_laws.proofs.Lanes.{Ticks, goes_out_now, is_of, replied_lane, still_out, ticks}
use Rattle.watch_laws.proofs.Spacing.{after_flag, looked_other, looked_out, same_index}
use Rattle.watch_laws.proofs.Tracking.{back_kept, known_out, set_holds, set_kept}

-- whenever it went out
abbrev pub any_time : ℕ → Bool
any_time since = true

abbrev pub AllMarked : WatchState → Type 0
AllMarked s = (i : ℕ) → (track_at s i).out ≡ true → list_any (is_of i any_time) s.out ≡ true

clock_marked : (old new : WatchState) (wall elapsed : ℕ) (output : WatchOutput) → Ticks old new wall elapsed output → AllMarked old → AllMarked new
clock_marked old new wall elapsed output h all i out =
    elim (cases_Bool (track_at old i).out) as (λ _. list_any (is_of i any_time) new.out ≡ true) [
      | inl before ↦ still_out old new wall elapsed output (is_of i any_time) h (all i before)
      | inr free ↦ goes_out_now old new wall elapsed output i any_time h free out refl
    ]

-- an answer: the entry is out no more
abbrev Free : Track → Type 0
Free x = x.out ≡ false

back_out : (x : Track) → (back_track x).out ≡ x.out
unfolding back_track
back_out x = refl

answer_marked :
    (old mid new : WatchState) (q : Out) (reply : WatchReply) → new ≡ replied mid q reply → mid.out ≡ old.out → ((i : ℕ) → q.entry ≢ i → track_at mid i ≡ track_at old i) → Free (track_at mid q.entry) → AllMarked old → AllMarked new
answer_marked old mid new q reply is outs other free all i out =
    elim (cases_Bool (q.entry == i)) as (λ _. list_any (is_of i any_time) new.out ≡ true) [
      | inl here ↦
          let same = back_kept (λ y x. y.out ≡ x.out) (λ x. refl) (λ x. back_out x) mid q reply i in
          let flag' : (track_at new i).out ≡ false = ap (λ (x : WatchState). (track_at x i).out) is ∙ same ∙ subst (λ k. Free (track_at mid k)) (eqb-true q.entry i here) free in
          absurd (not_both out flag')
      | inr different ↦
          let apart : q.entry ≢ i = λ e. not_both (subst (λ n. (n == i) ≡ true) (sym e) (same_index i)) different in
          let before = all i (sym (after_flag old mid new q reply i is outs (other i) apart) ∙ out) in
          ap (λ (x : WatchState). list_any (is_of i any_time) x.out) is ∙ replied_lane i any_time mid q reply apart (ap (list_any (is_of i any_time)) outs ∙ before)
    ]

told_free : (since seconds : ℕ) (renewable endless : Bool) (x : Track) → Free (told_track since seconds renewable endless x)
unfolding told_track
told_free since seconds renewable endless x = refl

untold_free : (at : ℕ) (heard : Bool) (reply : WatchReply) (x : Track) → Free (untold_track at heard reply x)
unfolding untold_track
untold_free at heard reply x = refl

looked_free : (s : WatchState) (q : Out) (reply : WatchReply) (terms : WatchTerms) → Free (track_at (looked s q reply terms) q.entry)
looked_free s q (Told seconds renewable date) terms =
    let mid = told_state s q.entry q.since seconds renewable terms in
    let here : Free (track_at mid q.entry) = set_holds Free refl s.tracks q.entry _ (told_free q.since seconds renewable terms.endless (track_at s q.entry)) in
    set_holds Free refl mid.tracks q.entry _ here
looked_free s q (Refused status date) terms = set_holds Free refl s.tracks q.entry _ (untold_free s.clocks.at q.heard (Refused status date) (track_at s q.entry))
looked_free s q Busy terms = set_holds Free refl s.tracks q.entry _ (untold_free s.clocks.at q.heard Busy (track_at s q.entry))
looked_free s q Lost terms = set_holds Free refl s.tracks q.entry _ (untold_free s.clocks.at q.heard Lost (track_at s q.entry))

renewed_free : (s : WatchState) (q : Out) (reply : WatchReply) → Free (track_at (state_renewed s q reply) q.entry)
unfolding renewed_track granted_from ungranted_track
renewed_free s q (Told seconds renewable date) = set_holds Free refl s.tracks q.entry _ refl
renewed_free s q _ = set_holds Free refl s.tracks q.entry _ refl

looked_marked : (old new : WatchState) (found : Option Out) (reply : WatchReply) (terms : WatchTerms) (output : WatchOutput) → StepLooked old found reply terms output new → AllMarked old → AllMarked new
looked_marked old new None reply terms output step all = absurd step
looked_marked old new (Some q) reply terms output step all =
    let s = noted old q reply in
    answer_marked old (looked s q reply terms) new q reply step.1 (looked_out s q reply terms) (λ i. looked_other s q reply terms i) (looked_free s q reply terms) all

renewed_marked : (old new : WatchState) (found : Option Out) (reply : WatchReply) (output : WatchOutput) → StepRenewed old found reply output new → AllMarked old → AllMarked new
renewed_marked old new None reply output step all = absurd step
renewed_marked old new (Some q) reply output step all =
    let s = noted old q reply in
    answer_marked old (state_renewed s q reply) new q reply step.1 refl (λ i apart. get_or-set_other s.tracks q.entry i _ no_track (λ e. apart (sym e))) (renewed_free s q reply) all

step_marked : (old new : WatchState) (event : WatchEvent) (output : WatchOutput) → Step old event output new → AllMarked old → AllMarked new
step_marked old new (Clock wall elapsed) output step all = clock_marked old new wall elapsed output (ticks old new wall elapsed output step) all
step_marked old new (Looked j reply terms) output step all = looked_marked old new (request_out old.out j Look) reply terms output step all
step_marked old new (Renewed j reply) output step all = renewed_marked old new (request_out old.out j Renew) reply output step all
step_marked old new (Known j end renewable) output step all =
    subst AllMarked (sym step.1)
    (λ i out. all i (sym (set_kept (λ (y x : Track). y.out ≡ x.out) (λ x. refl) old.tracks j _ (known_out old.clocks.at end renewable (track_at old j)) i) ∙ out))
step_marked old new _ output step all = subst AllMarked (sym step.1) all

pub turn_marked : (old new : WatchState) (event : WatchEvent) (result : Result WatchOutput WatchFault) → Turn old event result new → AllMarked old → AllMarked new
turn_marked old new event (Ok output) turn all = step_marked old new event output turn.1 all
turn_marked old new event (Err fault) turn all = subst AllMarked (sym (refused_stays old new event fault turn)) all

pub first_free : (es : List Entry) (i : ℕ) → (track_in (map fresh_track es) i).out ≡ false
first_free [] i = refl
first_free (e ∷ es) zero = refl
first_free (e ∷ es) (suc i) = first_free es i

-- a request that is whole is served: who is not served is not out where all are whole
lane_served :
    (o : Outage) (i : ℕ) (out : List Out) → list_any (is_of i any_time) out ≡ true → All (λ (q : Out). is_request_whole o q.since ≡ true) out → list_any (λ (q : Out). q.entry == i && is_request_whole o q.since) out ≡ true
lane_served o i [] any all = absurd cc
lane_served o i (q ∷ out) any all =
    elim (cases_Bool (q.entry == i)) as (λ _. (q.entry == i && is_request_whole o q.since) || list_any (λ (r : Out). r.entry == i && is_request_whole o r.since) out ≡ true) [
      | inl here ↦
          let w = All-head (λ (r : Out). is_request_whole o r.since ≡ true) q out all in
          ap (λ b. b || list_any (λ (r : Out). r.entry == i && is_request_whole o r.since) out) (and_from (q.entry == i) (is_request_whole o q.since) here w)
      | inr there ↦
          ap (λ b. (b && is_request_whole o q.since) || list_any (λ (r : Out). r.entry == i && is_request_whole o r.since) out) there
          ∙ lane_served o i out (sym (ap (λ b. (b && true) || list_any (is_of i any_time) out) there) ∙ any) (All-tail (λ (r : Out). is_request_whole o r.since ≡ true) q out all)
    ]

pub not_out : (o : Outage) (i : ℕ) (s : WatchState) → AllMarked s → is_request_served o s i ≡ false → All (λ (q : Out). is_request_whole o q.since ≡ true) s.out → (track_at s i).out ≡ false
not_out o i s marked unserved whole =
    elim (cases_Bool (track_at s i).out) as (λ _. (track_at s i).out ≡ false) [
      | inl out ↦ absurd (not_both (lane_served o i s.out (marked i out) whole) unserved)
      | inr free ↦ free
    ]

-- of whom no request is out, is not marked as out
none_of_entry : (i : ℕ) (out : List Out) → All (λ (q : Out). q.entry ≡ i → ⊥) out → list_any (is_of i any_time) out ≡ false
none_of_entry i [] all = refl
none_of_entry i (q ∷ out) all =
    let P : Out → Type 0 = λ r. r.entry ≡ i → ⊥ in
    elim (cases_Bool (q.entry == i)) as (λ _. (q.entry == i && true) || list_any (is_of i any_time) out ≡ false) [
      | inl here ↦ absurd (All-head P q out all (eqb-true q.entry i here))
      | inr other ↦ ap (λ b. (b && true) || list_any (is_of i any_time) out) other ∙ none_of_entry i out (All-tail P q out all)
    ]

pub none_out : (i : ℕ) (s : WatchState) → AllMarked s → All (λ (q : Out). q.entry ≡ i → ⊥) s.out → (track_at s i).out ≡ false
none_out i s marked none =
    elim (cases_Bool (track_at s i).out) as (λ _. (track_at s i).out ≡ false) [
      | inl out ↦ absurd (not_both (marked i out) (none_of_entry i s.out none))
      | inr free ↦ free
    ]

-- where no lane holds a request of an entry, none that is out is of it
pub none_of : (i : ℕ) (out : List Out) → lanes_of i out ≡ 0 → All (λ (q : Out). q.entry ≡ i → ⊥) out
none_of i out h =
    All-weaker (λ (q : Out). (q.entry == i && true) ≡ false) (λ (q : Out). q.entry ≡ i → ⊥)
    (λ q other is. not_both (and_from (q.entry == i) true (ap (λ k. k == i) is ∙ same_index i) refl) other) out
    (none_passes (λ (q : Out). q.entry == i && true) out (no_lane i (λ q. true) out h))

pub free_lanes : (i : ℕ) (s : WatchState) → i < length s.tracks → IsAlone s → (track_at s i).out ≡ false → lanes_of i s.out ≡ 0
free_lanes i s low alone free = let once = alone.once i low in let e = ap flag free in omega (arith, once, e)

-- where an entry is served each request of it that is out is whole, since it has one at most
served_whole : (o : Outage) (i : ℕ) (out : List Out) → lanes_of i out ≤ 1 → list_any (λ (q : Out). q.entry == i && is_request_whole o q.since) out ≡ true → All (λ (q : Out). q.entry ≡ i → is_request_whole o q.since ≡ true) out
served_whole o i [] once any = absurd cc
served_whole o i (q ∷ out) once any =
    let P : Out → Type 0 = λ r. r.entry ≡ i → is_request_whole o r.since ≡ true in
    let rest = filter (λ (r : Out). r.entry == i) out in
    let others = list_any (λ (r : Out). r.entry == i && is_request_whole o r.since) out in
    elim (cases_Bool (q.entry == i)) as (λ _. All P (q ∷ out)) [
      | inl here ↦
          let one : lanes_of i (q ∷ out) ≡ length (q ∷ rest) = ap (λ b. length (cond b (q ∷ rest) rest)) here in
          let gone : lanes_of i out ≡ 0 = omega (arith, one, once) in
          let none = no_lane i (λ (r : Out). is_request_whole o r.since) out gone in
          let this : is_request_whole o q.since ≡ true = by (is_request_whole o q.since) others none (sym (ap (λ b. (b && is_request_whole o q.since) || others) here) ∙ any) in
          All-cons P q out (λ is. this) (All-weaker (λ (r : Out). r.entry ≡ i → ⊥) P (λ r no' is. absurd (no' is)) out (none_of i out gone))
      | inr other ↦
          let same : lanes_of i (q ∷ out) ≡ lanes_of i out = ap (λ b. length (cond b (q ∷ rest) rest)) other in
          All-cons P q out (λ is. absurd (not_both (subst (λ n. (n == i) ≡ true) (sym is) (same_index i)) other))
          (served_whole o i out (omega (arith, same, once)) (sym (ap (λ b. (b && is_request_whole o q.since) || others) other) ∙ any))
    ] where
      by : (w rest' : Bool) → rest' ≡ false → (true && w) || rest' ≡ true → w ≡ true
      by true rest' none any' = refl
      by false rest' none any' = absurd (not_both any' none)

pub only_whole : (o : Outage) (i : ℕ) (s : WatchState) → IsAlone s → is_request_served o s i ≡ true → All (λ (q : Out). q.entry ≡ i → is_request_whole o q.since ≡ true) s.out
only_whole o i s alone served = served_whole o i s.out (alone.single i) served

-- where it is not, each is cut
pub only_cut : (o : Outage) (i : ℕ) (s : WatchState) → is_request_served o s i ≡ false → All (λ (q : Out). q.entry ≡ i → is_request_whole o q.since ≡ false) s.out
only_cut o i s unserved =
    All-weaker (λ (q : Out). (q.entry == i && is_request_whole o q.since) ≡ false) (λ (q : Out). q.entry ≡ i → is_request_whole o q.since ≡ false)
    (λ q no' is. by (q.entry == i) (is_request_whole o q.since) (ap (λ k. k == i) is ∙ same_index i) no') s.out (none_passes (λ (q : Out). q.entry == i && is_request_whole o q.since) s.out unserved) where
      by : (a b : Bool) → a ≡ true → a && b ≡ false → b ≡ false
      by true b here no' = no'
      by false b here no' = absurd cc
