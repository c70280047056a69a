-- Waits: until when a clock waits. For the law of the wait.
use Rattle.std.proofs.Common.{◌≡◌, ◌⊎◌, ◌∙◌, ℕ, zero, suc, ◌+◌, ◌<◌, ◌≤◌, Bool, true, false, not, ◌&&◌, Option, Some, None, Result, Ok, Err, length, map, min, nat_lt, refl, sym, ap, subst, arith, inl, inr}
use Rattle.std.proofs.lemmas.Bool.Decides.{nat_tests}
use Rattle.std.proofs.lemmas.Bool.{and_parts, cases_Bool, cases_lt, cond-false, cond-true}
use Rattle.std.specs.List.{range_with_len}
use Rattle.plan_forest.specs.declared.entry.Entry.{Entry}
use Rattle.watch_machine.specs.{declared.command.WatchCommand.WatchCommand, declared.command.WatchOutput.WatchOutput, declared.event.WatchEvent.WatchEvent, declared.event.WatchReply.WatchReply, declared.event.WatchTerms.WatchTerms}
use Rattle.watch_machine.specs.{declared.fault.WatchFault.WatchFault, declared.lanes.Out.Out, declared.lanes.Presence.Presence, declared.track.Track.Track, declared.track.Try.Try, Beginning.is_pressed, Clocks.ms, History.Turn, Lines.ready}
use Rattle.watch_machine.specs.{Margins.time, Press.pressed, Refusal.request_out, Round.asked_by_round}
use Rattle.watch_machine.specs.declared.command.WatchCommand.TheVariants.{Go, Taken}
use Rattle.watch_machine.specs.declared.event.WatchEvent.TheVariants.{Clock, Looked, Renewed}
use Rattle.watch_machine.specs.declared.event.Operation.TheVariants.{Look, Renew}
use Rattle.watch_machine.specs.State.{WatchState, entry_of, track_at}
use Rattle.watch_machine.specs.Step.{Step, StepCommand, StepLooked, StepRenewed, readied}
use Rattle.watch_machine.specs.Wait.{latest, next_of, time_at, try_at, wait}
use Rattle.watch_machine.specs.Wanted.{least, wanted_need, wants}
use Rattle.watch_machine.proofs.Leasts.{least_start}
use Rattle.watch_laws.specs.Waits.{EndsSo, IsToBeDone, IsWait, WaitLaw, WaitsSo, latest_wait}
use Rattle.watch_laws.proofs.Minding.{by_time, by_try, next_at, wait_each}

-- the least of some numbers is one of them
one_of : (f : ℕ → ℕ) (m a n : ℕ) → (least m (map f (range_with_len a n)) ≡ m) ⊎ ((i : ℕ) × ((i < a + n) × (least m (map f (range_with_len a n)) ≡ f i)))
one_of f m a zero = inl refl
one_of f m a (suc n) =
    let rest = least (min m (f a)) (map f (range_with_len (a + 1) n)) in
    elim (one_of f (min m (f a)) (a + 1) n) as (λ _. (rest ≡ m) ⊎ ((i : ℕ) × ((i < a + suc n) × (rest ≡ f i)))) [
      | inr later ↦ (let low = later.1.0 in inr (later.0, (omega (arith, low), later.1.1)))
      | inl first ↦
          elim (cases_lt (f a) m) as (λ _. (rest ≡ m) ⊎ ((i : ℕ) × ((i < a + suc n) × (rest ≡ f i)))) [
            | inl less ↦ inr (a, (omega arith, omega (arith, first, less)))
            | inr more ↦ inl (omega (arith, first, more))
          ]
    ]

latest_is : (s : WatchState) → latest s.forest.margin s.clocks.at ≡ latest_wait s
unfolding latest
latest_is s = omega arith

-- what is to be done of an entry
try_comes : (p : Presence) (at last : ℕ) (x : Track) (o : Option Try) → (try_at p at last x o ≡ last) ⊎ ((t : Try) × ((o ≡ Some t) × ((at < ready p x t) × (try_at p at last x o ≡ ready p x t))))
try_comes p at last x None = inl refl
try_comes p at last x (Some t) =
    elim (cases_lt at (ready p x t)) as (λ _. (try_at p at last x (Some t) ≡ last) ⊎ ((u : Try) × ((Some t ≡ Some u) × ((at < ready p x u) × (try_at p at last x (Some t) ≡ ready p x u))))) [
      | inl ahead ↦ (let test : nat_lt at (ready p x t) ≡ true = grind (arith, nat_tests) in inr (t, (refl, (ahead, cond-true (nat_lt at (ready p x t)) (ready p x t) last test))))
      | inr due ↦ (let test : nat_lt at (ready p x t) ≡ false = grind (arith, nat_tests) in inl (cond-false (nat_lt at (ready p x t)) (ready p x t) last test))
    ]

time_comes : (margin : ℕ) (e : Entry) (x : Track) (need last : ℕ) → (time_at margin e x need last ≡ last) ⊎ ((wants x need ≡ true) × ((is_pressed x ≡ false) × (time_at margin e x need last ≡ ms (time margin e x))))
time_comes margin e x need last =
    elim (cases_Bool (wants x need && not (is_pressed x))) as (λ _. (time_at margin e x need last ≡ last) ⊎ ((wants x need ≡ true) × ((is_pressed x ≡ false) × (time_at margin e x need last ≡ ms (time margin e x))))) [
      | inl yes' ↦ (let both = and_parts (wants x need) (not (is_pressed x)) yes' in inr (both.0, (no_more (is_pressed x) both.1, cond-true (wants x need && not (is_pressed x)) (ms (time margin e x)) last yes')))
      | inr no' ↦ inl (cond-false (wants x need && not (is_pressed x)) (ms (time margin e x)) last no')
    ] where
      no_more : (b : Bool) → not b ≡ true → b ≡ false
      no_more true h = absurd cc
      no_more false h = refl

module _ (s : WatchState) (i : ℕ) (within : i < length s.forest.entries) where
  abbrev last : ℕ
  last = latest s.forest.margin s.clocks.at

  abbrev x : Track
  x = track_at s i

  abbrev a : ℕ
  a = try_at s.presence s.clocks.at last x x.attempt

  abbrev b : ℕ
  b = time_at s.forest.margin (entry_of s i) x (wanted_need s i) last

  free_next : x.out ≡ false → next_at s i ≡ min a b
  unfolding next_of
  free_next free = cond-false x.out last (min a b) free

  out_next : x.out ≡ true → next_at s i ≡ last
  unfolding next_of
  out_next out = cond-true x.out last (min a b) out

  -- where that is all that there is to wait for
  done_at : (until : ℕ) → until ≡ next_at s i → (until ≡ last) ⊎ IsToBeDone s i until
  done_at until is =
      elim (cases_Bool x.out) as (λ _. (until ≡ last) ⊎ IsToBeDone s i until) [
        | inl out ↦ inl (is ∙ out_next out)
        | inr free ↦
            let so : until ≡ min a b = is ∙ free_next free in
            elim (cases_lt b a) as (λ _. (until ≡ last) ⊎ IsToBeDone s i until) [
              | inl less ↦ elim (time_comes s.forest.margin (entry_of s i) x (wanted_need s i) last) as (λ _. (until ≡ last) ⊎ IsToBeDone s i until) [
                | inl none ↦ inl (omega (arith, so, less, none))
                | inr comes ↦
                    let e = comes.1.1 in
                    inr (record { within = within; free = free; comes = inr (record { wanted = comes.0; loose = comes.1.0; at = omega (arith, so, less, e) }) })
              ]
              | inr more ↦ elim (try_comes s.presence s.clocks.at last x x.attempt) as (λ _. (until ≡ last) ⊎ IsToBeDone s i until) [
                | inl none ↦ inl (omega (arith, so, more, none))
                | inr comes ↦
                    let e = comes.1.1.1 in
                    let ahead = comes.1.1.0 in
                    inr (record { within = within; free = free; comes = inl (record { attempt = comes.0; attempt_is = comes.1.0; ahead = omega (arith, so, more, e, ahead); at = omega (arith, so, more, e) }) })
              ]
            ]
      ]

not_passed : (s : WatchState) (i moment : ℕ) → IsToBeDone s i moment → wait s ≤ moment
not_passed s i moment h =
    let each' = wait_each s i h.within in
    elim h.comes as (λ _. wait s ≤ moment) [
      | inl t ↦
          let is = t.at in
          let ahead = t.ahead in
          let by = by_try s.forest.margin (entry_of s i) (wanted_need s i) s.presence s.clocks.at (track_at s i) h.free t.attempt t.attempt_is (omega (arith, is, ahead)) in
          omega (arith, each', by, is)
      | inr t ↦
          let is = t.at in
          let by = by_time s.forest.margin (entry_of s i) (wanted_need s i) s.presence s.clocks.at (track_at s i) h.free t.wanted t.loose in
          omega (arith, each', by, is)
    ]

wait_is : (s : WatchState) → IsWait s (wait s)
unfolding wait
wait_is s =
    let last = latest s.forest.margin s.clocks.at in
    let n = length s.forest.entries in
    let same = latest_is s in
    let most = least_start last (map (next_at s) (range_with_len 0 n)) in
    record {
      latest = omega (arith, most, same);
      passes_none = not_passed s;
      ends = elim (one_of (next_at s) last 0 n) as (λ _. (wait s ≡ latest_wait s) ⊎ ((i : ℕ) × IsToBeDone s i (wait s))) [
        | inl is ↦ inl (is ∙ same)
        | inr there ↦
            let low = there.1.0 in
            elim (done_at s there.0 (omega (arith, low)) (wait s) there.1.1) as (λ _. (wait s ≡ latest_wait s) ⊎ ((i : ℕ) × IsToBeDone s i (wait s))) [
              | inl is ↦ inl (is ∙ same)
              | inr done ↦ inr (there.0, done)
            ]
      ];
    }

-- a turn
clock_waits : (mid new : WatchState) (command : WatchCommand) → StepCommand mid command new → WaitsSo command new
clock_waits mid new (Go requests until) h = subst (IsWait new) (sym h.1) (wait_is new)
clock_waits mid new Taken h = absurd h

taken_waits : (new : WatchState) (output out : WatchOutput) → output ≡ out → out.command ≡ Taken → WaitsSo output.command new
taken_waits new output out is taken' = subst (λ c. WaitsSo c new) (sym (ap (λ (x : WatchOutput). x.command) is ∙ taken')) tt

looked_waits : (old new : WatchState) (found : Option Out) (reply : WatchReply) (terms : WatchTerms) (output : WatchOutput) → StepLooked old found reply terms output new → WaitsSo output.command new
looked_waits old new None reply terms output step = absurd step
looked_waits old new (Some q) reply terms output step = taken_waits new output _ step.0 refl

renewed_waits : (old new : WatchState) (found : Option Out) (reply : WatchReply) (output : WatchOutput) → StepRenewed old found reply output new → WaitsSo output.command new
renewed_waits old new None reply output step = absurd step
renewed_waits old new (Some q) reply output step = taken_waits new output _ step.0 refl

step_waits : (old new : WatchState) (event : WatchEvent) (output : WatchOutput) → Step old event output new → WaitsSo output.command new
step_waits old new (Clock wall elapsed) output step = clock_waits (pressed (readied old wall elapsed) (asked_by_round step.round)) new output.command step.command
step_waits old new (Looked i reply terms) output step = looked_waits old new (request_out old.out i Look) reply terms output step
step_waits old new (Renewed i reply) output step = renewed_waits old new (request_out old.out i Renew) reply output step
step_waits old new _ output step = taken_waits new output _ step.0 refl

turn_waits : (old new : WatchState) (event : WatchEvent) (result : Result WatchOutput WatchFault) → Turn old event result new → EndsSo result new
turn_waits old new event (Ok output) turn = step_waits old new event output turn.1
turn_waits old new event (Err fault) turn = tt

pub waits_so : WaitLaw
waits_so old turn h = turn_waits old turn.state turn.event turn.result h.0
