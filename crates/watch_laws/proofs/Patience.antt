-- Patience: how long the requests of a clock may take. For the law of patience.
use Rattle.std.proofs.Common.{◌≡◌, ◌⊎◌, ◌∙◌, ℕ, ◌-◌, ◌*◌, ◌^◌, ◌<◌, Bool, true, false, ◌&&◌, ◌||◌, ◌==◌, if◌then◌else◌, List, Option, Some, None, All, Result, Ok, Err, get_or, is_some, max, min, nat_lt, refl, sym, ap, subst, arith, inl, inr}
use Rattle.std.proofs.lemmas.{Bool.Decides.nat_tests, List.Elements.All-map, List.Elements.All-nil}
use Rattle.std.proofs.lemmas.Bool.{and_from, and_parts, cases_Bool, cond-false, cond-true}
use Rattle.watch_machine.specs.{declared.command.WatchCommand.TheVariants.Taken, declared.command.WatchOutput.WatchOutput, declared.command.WatchRequest.WatchRequest, declared.event.WatchEvent.WatchEvent}
use Rattle.watch_machine.specs.{declared.event.WatchReply.WatchReply, declared.event.WatchTerms.WatchTerms, declared.fault.WatchFault.WatchFault, declared.lanes.Out.Out, declared.track.End.End, declared.track.Try.Try, History.Turn}
use Rattle.watch_machine.specs.{Lines.is_first, Press.pressed, Refusal.request_out}
use Rattle.watch_machine.specs.declared.command.Patience.TheVariants.{Full, AtMost}
use Rattle.watch_machine.specs.declared.event.WatchEvent.TheVariants.{Clock, Looked, Renewed}
use Rattle.watch_machine.specs.declared.event.Operation.TheVariants.{Look, Renew}
use Rattle.watch_machine.specs.declared.track.End.TheVariants.{Unknown, At, Never}
use Rattle.watch_machine.specs.Sending.{is_alone, is_alone_try, is_partial, patience, request_of, sent}
use Rattle.watch_machine.specs.State.{WatchState, attempt_at, second, track_at}
use Rattle.watch_machine.specs.Step.{Step, StepLooked, StepRenewed, readied}
use Rattle.watch_machine.specs.Wanted.{believed, is_open, is_unknown}
use Rattle.watch_laws.specs.Load.{requests_asked_by, requests_at_turn}
use Rattle.watch_laws.specs.Patience.{AloneLaw, IsAloneAt, IsOfTry, IsPatience, PatienceLaw, SomebodyIsAlone}
use Rattle.watch_laws.proofs.{Going.request_at, Lanes.Ticks, Lanes.ticks, Minding.some_within, Owed.due_some}
use Rattle.watch_laws.proofs.Fronts.{alone_index, index_alone, sent_partial, sent_stays}

-- who is alone
lost_try : (o : Option Try) → is_alone_try o ≡ true → (t : Try) × ((o ≡ Some t) × (t.alone ≡ true))
lost_try None h = absurd cc
lost_try (Some t) h = (t, (refl, h))

open_if : (now : ℕ) (e : End) → is_unknown e || nat_lt now (believed e) ≡ true → (e ≡ Unknown) ⊎ (now < believed e)
open_if now Unknown h = inl refl
open_if now _ h = inr (grind (arith, nat_tests, h))

if_open : (now : ℕ) (e : End) → (e ≡ Unknown) ⊎ (now < believed e) → is_unknown e || nat_lt now (believed e) ≡ true
if_open now Unknown h = refl
if_open now (At end) (inr ahead) = grind (arith, nat_tests, ahead)
if_open now Never (inr ahead) = grind (arith, nat_tests, ahead)
if_open now _ (inl is) = absurd cc

alone_at : (s : WatchState) (j : ℕ) → is_alone (second s) (track_at s j) ≡ true → IsAloneAt s j
alone_at s j h =
    let parts = and_parts (is_alone_try (attempt_at s j)) (is_open (second s) (track_at s j)) h in
    let t = lost_try (attempt_at s j) parts.0 in
    record { attempt = t.0; attempt_is = t.1.0; alone = t.1.1; lives = open_if (second s) (track_at s j).end parts.1 }

at_alone : (s : WatchState) (j : ℕ) → IsAloneAt s j → is_alone (second s) (track_at s j) ≡ true
at_alone s j h =
    and_from (is_alone_try (attempt_at s j)) (is_open (second s) (track_at s j)) (ap is_alone_try h.attempt_is ∙ h.alone) (if_open (second s) (track_at s j).end h.lives)

pub alone_so : AloneLaw
unfolding is_partial
alone_so s = (
  λ some. let there = alone_index (is_alone (second s)) s.tracks some in (there.0, alone_at s there.0 there.1.1),
  λ some. index_alone (is_alone (second s)) s.tracks some.0 (some_within s.tracks some.0 some.1.attempt some.1.attempt_is) (at_alone s some.0 some.1),
)

-- whoever is alone before the requests go out is so after it
alone_sent : (s : WatchState) (rs : List WatchRequest) → SomebodyIsAlone s → SomebodyIsAlone (sent s rs)
alone_sent s rs some =
    let j = some.0 in
    let h = some.1 in
    let same = sent_stays s rs j in
    (j, record { attempt = h.attempt; attempt_is = same.0 ∙ h.attempt_is; alone = h.alone; lives = subst (λ (e : End). (e ≡ Unknown) ⊎ (second s < believed e)) (sym same.1) h.lives })

-- how long a request may take
no_haste : (away pressed' : Bool) (fails : ℕ) → (away ≡ false) ⊎ ((pressed' ≡ false) ⊎ (0 < fails)) → away && (pressed' && fails == 0) ≡ false
no_haste false pressed' fails h = refl
no_haste true false fails h = refl
no_haste true true fails (inl is) = absurd cc
no_haste true true fails (inr (inl is)) = absurd cc
no_haste true true fails (inr (inr some)) = grind (arith, nat_tests, some)

patience_so : (s : WatchState) (rs : List WatchRequest) (t : Try) → IsPatience (sent s rs) t (patience s.presence.away (is_partial (second s) s.tracks) s.presence.pace t)
unfolding patience
patience_so s rs t =
    let away = s.presence.away in
    let pace = s.presence.pace in
    let partial = is_partial (second s) s.tracks in
    let short = AtMost (max 1000 (2 * pace) * 2 ^ (min 20 t.fails - 1)) in
    let rest = if partial then short else Full in
    record {
      quick = λ gone pressed' none.
          let never : (t.fails == 0) ≡ true = grind (arith, nat_tests, none) in
          cond-true (away && is_first t) (AtMost 250) rest (and_from away (is_first t) gone (and_from t.pressed (t.fails == 0) pressed' never));
      partial = λ later some.
          cond-false (away && is_first t) (AtMost 250) rest (no_haste away t.pressed t.fails later)
          ∙ cond-true partial short Full (sent_partial s rs (second s) ((alone_so (sent s rs)).1 some));
      whole = λ later none.
          cond-false (away && is_first t) (AtMost 250) rest (no_haste away t.pressed t.fails later)
          ∙ elim (cases_Bool partial) as (λ _. rest ≡ Full) [
            | inl yes' ↦ absurd (none (alone_sent s rs ((alone_so s).0 yes')))
            | inr no' ↦ cond-false partial short Full no'
          ];
    }

goes_for : (s : WatchState) (rs : List WatchRequest) (j : ℕ) → is_some (attempt_at s j) ≡ true → IsOfTry (sent s rs) (request_at s.presence (second s) s.tracks j)
goes_for s rs j some = by (attempt_at s j) refl some where
  by : (o : Option Try) → attempt_at s j ≡ o → is_some o ≡ true → IsOfTry (sent s rs) (request_of s.presence.away (is_partial (second s) s.tracks) s.presence.pace j o)
  by None is some' = absurd cc
  by (Some t) is some' = record { attempt = t; attempt_is = (sent_stays s rs j).0 ∙ is; operation = refl; patience = patience_so s rs t }

-- a clock, and a turn
clock_asks : (old new : WatchState) (wall elapsed : ℕ) (output : WatchOutput) → Ticks old new wall elapsed output → All (IsOfTry new) (requests_asked_by output.command)
clock_asks old new wall elapsed output h =
    let mid = pressed (readied old wall elapsed) h.round in
    let due = h.going.due in
    let all : All (IsOfTry (sent mid h.requests)) h.requests =
    subst (All (IsOfTry (sent mid h.requests))) (sym h.going.requests_are)
    (All-map (IsOfTry (sent mid h.requests)) (request_at mid.presence (second mid) mid.tracks) h.going.entries
    (λ k d below. goes_for mid h.requests (get_or h.going.entries k d) (due_some mid.presence mid.clocks.at (track_at mid (get_or h.going.entries k d)) (due k d below).1))) in
    subst (λ c. All (IsOfTry new) (requests_asked_by c)) (sym h.command) (subst (λ x. All (IsOfTry x) h.requests) (sym h.new_is) all)

none_asks : (new : WatchState) (output out : WatchOutput) → output ≡ out → out.command ≡ Taken → All (IsOfTry new) (requests_asked_by output.command)
none_asks new output out is taken' = subst (λ c. All (IsOfTry new) (requests_asked_by c)) (sym (ap (λ (x : WatchOutput). x.command) is ∙ taken')) (All-nil (IsOfTry new))

looked_asks : (old new : WatchState) (found : Option Out) (reply : WatchReply) (terms : WatchTerms) (output : WatchOutput) → StepLooked old found reply terms output new → All (IsOfTry new) (requests_asked_by output.command)
looked_asks old new None reply terms output step = absurd step
looked_asks old new (Some q) reply terms output step = none_asks new output _ step.0 refl

renewed_asks : (old new : WatchState) (found : Option Out) (reply : WatchReply) (output : WatchOutput) → StepRenewed old found reply output new → All (IsOfTry new) (requests_asked_by output.command)
renewed_asks old new None reply output step = absurd step
renewed_asks old new (Some q) reply output step = none_asks new output _ step.0 refl

step_asks : (old new : WatchState) (event : WatchEvent) (output : WatchOutput) → Step old event output new → All (IsOfTry new) (requests_asked_by output.command)
step_asks old new (Clock wall elapsed) output step = clock_asks old new wall elapsed output (ticks old new wall elapsed output step)
step_asks old new (Looked j reply terms) output step = looked_asks old new (request_out old.out j Look) reply terms output step
step_asks old new (Renewed j reply) output step = renewed_asks old new (request_out old.out j Renew) reply output step
step_asks old new _ output step = none_asks new output _ step.0 refl

turn_asks : (old new : WatchState) (event : WatchEvent) (result : Result WatchOutput WatchFault) → Turn old event result new → All (IsOfTry new) (requests_at_turn result)
turn_asks old new event (Ok output) turn = step_asks old new event output turn.1
turn_asks old new event (Err fault) turn = All-nil (IsOfTry new)

pub patience_kept : PatienceLaw
patience_kept old turn h = turn_asks old turn.state turn.event turn.result h.0
