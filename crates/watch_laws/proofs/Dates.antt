-- Dates: what the date of one reply makes of the broker's clock. For the law of dates.
use Rattle.std.proofs.Common.{◌≡◌, ◌∙◌, ℕ, ◌+◌, ◌-◌, ◌<◌, ◌≤◌, Bool, true, false, ◌&&◌, ◌||◌, if◌then◌else◌, List, [], ◌∷◌, Option, Some, None, is_none, min, nat_lt, refl, sym, ap, subst, arith, inl, inr}
use Rattle.std.proofs.lemmas.Bool.Decides.{nat_tests}
use Rattle.std.proofs.lemmas.Bool.{cases_Bool, cond-false, cond-true, or_left, or_right}
use Rattle.base_moment.specs.declared.moment.TheConstants.{LAST}
use Rattle.watch_machine.specs.{declared.clocks.BrokerOffset.BrokerOffset, declared.clocks.Clocks.Clocks, declared.command.WatchOutput.WatchOutput, declared.event.WatchReply.WatchReply, declared.event.WatchReply.TheVariants.Told}
use Rattle.watch_machine.specs.{declared.lanes.LaneAnswer.LaneAnswer, declared.notes.Notes.Notes, Press.pressed, Round.asked_by_round, State.WatchState, State.second}
use Rattle.watch_machine.specs.Clocks.{dated_by, first_clocks, is_ahead, is_behind, is_stepped, reading, sec, to_broker, walled}
use Rattle.watch_machine.specs.Settling.{at_reading, clocks_after, date_of, dated_by_all, dated_on, has_stepped, is_step, read, settled, steps, timed}
use Rattle.watch_machine.specs.Step.{StepClock, readied, why}
use Rattle.watch_machine.proofs.Cases.{if_both}
use Rattle.watch_laws.specs.Clocks.{date_told}
use Rattle.watch_laws.specs.Dates.{IsAheadOf, IsBehindOf, IsDatedBy, IsSteppedBy, WindowLaw}
use Rattle.watch_laws.proofs.{Begins.begun_stepped, Begins.turn_of, Dating.clock_of, Dating.reached_clocked, OnPlan.sec_rises}
use Rattle.watch_laws.proofs.Clocking.{clock_rises, dated_at, sent_by}

-- what the readings leave of a broker's clock that a date has set
read_kept : (c : Clocks) (wall elapsed : ℕ) → c.dated ≡ true → ((read c wall elapsed).broker ≡ c.broker) × ((read c wall elapsed).dated ≡ true)
unfolding walled
read_kept c wall elapsed is =
    let now = at_reading c elapsed in
    if_both (λ (d : Clocks). (d.broker ≡ c.broker) × (d.dated ≡ true)) (is_stepped now (reading wall))
    (record now { wall = record { here = now.at; there = reading wall }; broker = if now.dated then now.broker else record { here = now.at; there = sec (reading wall) } }) now
    (cond-true c.dated c.broker (record { here = now.at; there = sec (reading wall) }) is, is) (refl, is)

told_is : (reply : WatchReply) → date_of reply ≡ date_told reply
told_is (Told seconds renewable date) = refl
told_is _ = refl

-- its tests
ahead_is : (c : Clocks) (date : ℕ) → c.broker.here ≤ c.at → IsAheadOf c.broker (sec c.at) date → is_ahead c date ≡ true
unfolding is_ahead to_broker
ahead_is c date set ahead =
    let past = sec_rises c.broker.here c.at set in
    let more : (sec c.at + c.broker.there) - sec c.broker.here + 2 < date = omega (arith, past, ahead) in
    grind (arith, nat_tests, more)

not_ahead : (c : Clocks) (date : ℕ) → c.broker.here ≤ c.at → (IsAheadOf c.broker (sec c.at) date → ⊥) → is_ahead c date ≡ false
unfolding is_ahead to_broker
not_ahead c date set none =
    let past = sec_rises c.broker.here c.at set in
    elim (cases_Bool (nat_lt ((sec c.at + c.broker.there) - sec c.broker.here + 2) date)) [
      | inl yes' ↦ absurd (let more : (sec c.at + c.broker.there) - sec c.broker.here + 2 < date = grind (arith, nat_tests, yes') in none (omega (arith, past, more)))
      | inr no' ↦ no'
    ]

behind_is : (c : Clocks) (since date : ℕ) → IsBehindOf c.broker (sec since) date → is_behind c since date ≡ true
unfolding is_behind to_broker
behind_is c since date behind = let more : date + 3 < (sec since + c.broker.there) - sec c.broker.here = omega (arith, behind) in grind (arith, nat_tests, more)

not_behind : (c : Clocks) (since date : ℕ) → (IsBehindOf c.broker (sec since) date → ⊥) → is_behind c since date ≡ false
unfolding is_behind to_broker
not_behind c since date none =
    elim (cases_Bool (nat_lt (date + 3) ((sec since + c.broker.there) - sec c.broker.here))) [
      | inl yes' ↦ absurd (let more : date + 3 < (sec since + c.broker.there) - sec c.broker.here = grind (arith, nat_tests, yes') in none (omega (arith, more)))
      | inr no' ↦ no'
    ]

set_by : (c : Clocks) (since date : ℕ) → is_ahead c date || is_behind c since date ≡ true → (dated_by since c date).broker ≡ record { here = c.at; there = date }
unfolding dated_by
set_by c since date test = ap (λ (d : Clocks). d.broker) (cond-true (is_ahead c date || is_behind c since date) (record c { broker = record { here = c.at; there = date }; dated = true }) (record c { dated = true }) test)

kept_by : (c : Clocks) (since date : ℕ) → is_ahead c date ≡ false → is_behind c since date ≡ false → (dated_by since c date).broker ≡ c.broker
unfolding dated_by
kept_by c since date ahead behind =
    ap (λ (d : Clocks). d.broker)
    (cond-false (is_ahead c date || is_behind c since date) (record c { broker = record { here = c.at; there = date }; dated = true }) (record c { dated = true }) (ap (λ b. b || is_behind c since date) ahead ∙ behind))

-- a clock after one answer
module _ (old : WatchState) (wall elapsed : ℕ) (a : LaneAnswer) (date : ℕ) (some : is_none old.begun ≡ false) (dated' : old.clocks.dated ≡ true) (one : old.answers ≡ a ∷ []) (told : date_told a.reply ≡ Some date) where
  abbrev c : Clocks
  c = read old.clocks wall elapsed

  abbrev d : ℕ
  d = min LAST date

  after_is : clocks_after old wall elapsed ≡ dated_by a.since c d
  unfolding clocks_after
  after_is =
      cond-false (is_none old.begun) (first_clocks wall elapsed) (dated_by_all c old.answers) some ∙ ap (dated_by_all c) one
      ∙ ap (dated_on a.since c) (told_is a.reply ∙ told)

  steps_is : has_stepped old wall elapsed ≡ old.stepped || (is_ahead c d || false)
  unfolding has_stepped
  steps_is =
      ap (λ (xs : List LaneAnswer). old.stepped || steps c xs) one ∙ ap (λ (o : Option ℕ). old.stepped || (is_step c o || false)) (told_is a.reply ∙ told)
      ∙ ap (λ b. old.stepped || ((b && is_ahead c d) || false)) (read_kept old.clocks wall elapsed dated').1

  module _ (new : WatchState) (is : new.clocks ≡ clocks_after old wall elapsed) (set : old.clocks.broker.here ≤ old.clocks.at) where
    abbrev o : BrokerOffset
    o = old.clocks.broker

    same : c.broker ≡ o
    same = (read_kept old.clocks wall elapsed dated').0

    at_is : new.clocks.at ≡ c.at
    at_is = ap (λ (x : Clocks). x.at) (is ∙ after_is) ∙ dated_at a.since c d

    broker_is : new.clocks.broker ≡ (dated_by a.since c d).broker
    broker_is = ap (λ (x : Clocks). x.broker) (is ∙ after_is)

    set_now : c.broker.here ≤ c.at
    set_now =
        let here = ap (λ (x : BrokerOffset). x.here) same in
        let rises = clock_rises old wall elapsed some in
        let moved = ap (λ (x : Clocks). x.at) after_is ∙ dated_at a.since c d in
        omega (arith, here, rises, moved, set)

    ahead_here : IsAheadOf o (second new) d → IsAheadOf c.broker (sec c.at) d
    ahead_here h = subst (λ p. IsAheadOf p (sec c.at) d) (sym same) (subst (λ n. IsAheadOf o (sec n) d) at_is h)

    ahead_there : IsAheadOf c.broker (sec c.at) d → IsAheadOf o (second new) d
    ahead_there h = subst (λ n. IsAheadOf o (sec n) d) (sym at_is) (subst (λ p. IsAheadOf p (sec c.at) d) same h)

    pub is_dated : IsDatedBy old new a.since d
    is_dated = record {
      set = λ out.
          broker_is
          ∙ set_by c a.since d
          (elim out as (λ _. is_ahead c d || is_behind c a.since d ≡ true) [
            | inl ahead ↦ or_left (is_ahead c d) (is_behind c a.since d) (ahead_is c d set_now (ahead_here ahead))
            | inr behind ↦ or_right (is_ahead c d) (is_behind c a.since d) (behind_is c a.since d (subst (λ p. IsBehindOf p (sec a.since) d) (sym same) behind))
          ])
          ∙ ap (λ n. record { here = n; there = d }) (sym at_is);
      kept = λ ahead behind.
          broker_is
          ∙ kept_by c a.since d (not_ahead c d set_now (λ h. ahead (ahead_there h))) (not_behind c a.since d (λ h. behind (subst (λ p. IsBehindOf p (sec a.since) d) same h))) ∙ same;
    }

    pub is_stepped_by : new.stepped ≡ has_stepped old wall elapsed → IsSteppedBy old new d
    is_stepped_by stepped = record {
      on = λ ahead. stepped ∙ steps_is ∙ or_right old.stepped (is_ahead c d || false) (or_left (is_ahead c d) false (ahead_is c d set_now (ahead_here ahead)));
      not_on = λ none. stepped ∙ steps_is ∙ ap (λ b. old.stepped || (b || false)) (not_ahead c d set_now (λ h. none (ahead_there h))) ∙ no_more old.stepped;
    } where
      no_more : (b : Bool) → b || false ≡ b
      no_more true = refl
      no_more false = refl

clock_stepped : (old new : WatchState) (wall elapsed : ℕ) (output : WatchOutput) → StepClock old wall elapsed output new → output.notes.began ≡ None → new.stepped ≡ has_stepped old wall elapsed
unfolding readied
clock_stepped old new wall elapsed output step none =
    let go = sent_by (pressed (readied old wall elapsed) (asked_by_round step.round)) new output.command step.command in
    ap (λ (x : WatchState). x.stepped) go.1 ∙ begun_stepped (settled (timed old wall elapsed)) (why old wall elapsed) (ap (λ (n : Notes). n.began) (sym step.notes) ∙ none)

pub window_so : WindowLaw
window_so old turn wall elapsed a date reached h clock some dated' one told =
    let o = reached_clocked old reached in
    let goes = clock_of old turn.state turn.event turn.result wall elapsed h.0 clock.0 clock.1 in (
      is_dated old wall elapsed a date some dated' one told turn.state goes.clocks o.set.broker,
      turn_of (λ w. w ≡ None → IsSteppedBy old turn.state (min LAST date)) old turn.state turn.event turn.result wall elapsed h.0 clock.0 clock.1
          (λ output step none. is_stepped_by old wall elapsed a date some dated' one told turn.state goes.clocks o.set.broker (clock_stepped old turn.state wall elapsed output step none)),
    )
