-- Clocking: what a clock leaves of a watch as it was, and that no clock falls. For every law over histories.
use Rattle.std.proofs.Common.{◌≡◌, ◌∙◌, ℕ, ◌≤◌, true, false, ◌+◌, ◌||◌, List, [], ◌∷◌, Option, Some, None, Err, is_none, min, refl, ap, arith, inl, inr}
use Rattle.std.proofs.Math.Nat.{le-max_left}
use Rattle.std.proofs.lemmas.Bool.{cases_Bool, cond-false, cond-true}
use Rattle.base_moment.specs.declared.moment.TheConstants.{LAST}
use Rattle.watch_machine.specs.{declared.clocks.Clocks.Clocks, declared.command.WatchCommand.WatchCommand, declared.command.WatchRequest.WatchRequest, declared.event.WatchEvent.WatchEvent, declared.fault.WatchFault.WatchFault}
use Rattle.watch_machine.specs.{declared.fault.WatchFault.TheVariants.OutOfMemory, declared.lanes.LaneAnswer.LaneAnswer, declared.notes.BeginReason.BeginReason, declared.notes.BeginReason.TheVariants.Start}
use Rattle.watch_machine.specs.{Beginning.beginning, Beginning.begun, History.Turn, Sending.sent, State.WatchState}
use Rattle.watch_machine.specs.declared.command.WatchCommand.TheVariants.{Go, Taken}
use Rattle.watch_machine.specs.Clocks.{dated_by, first_clocks, is_ahead, is_behind, is_stepped, moment_at_reading, reading, walled}
use Rattle.watch_machine.specs.Settling.{at_reading, clocks_after, date_of, dated, dated_by_all, dated_on, read, settled, timed}
use Rattle.watch_machine.specs.Step.{StepCommand, readied, why}
use Rattle.watch_machine.proofs.Cases.{if_both}

-- what is refused leaves the watch as it was
pub refused_stays : (old new : WatchState) (event : WatchEvent) (fault : WatchFault) → Turn old event (Err fault) new → new ≡ old
refused_stays old new event OutOfMemory h = h.1.1
refused_stays old new event _ h = h.1

-- what goes out at a clock
pub sent_by : (mid new : WatchState) (command : WatchCommand) → StepCommand mid command new → (requests : List WatchRequest) × (new ≡ sent mid requests)
sent_by mid new (Go requests until) h = (requests, h.0.1)
sent_by mid new Taken h = absurd h

-- dates and the wall leave this clock
pub dated_at : (since : ℕ) (c : Clocks) (date : ℕ) → (dated_by since c date).at ≡ c.at
unfolding dated_by
dated_at since c date =
    if_both (λ (x : Clocks). x.at ≡ c.at) (is_ahead c date || is_behind c since date) (record c { broker = record { here = c.at; there = date }; dated = true }) (record c { dated = true }) refl refl

dated_on_at : (since : ℕ) (c : Clocks) (date : Option ℕ) → (dated_on since c date).at ≡ c.at
dated_on_at since c None = refl
dated_on_at since c (Some date) = dated_at since c (min LAST date)

all_dated_at : (c : Clocks) (answers : List LaneAnswer) → (dated_by_all c answers).at ≡ c.at
all_dated_at c [] = refl
all_dated_at c (a ∷ answers) = all_dated_at (dated c a) answers ∙ dated_on_at a.since c (date_of a.reply)

walled_at : (c : Clocks) (wall : ℕ) → (walled c wall).at ≡ c.at
unfolding walled
walled_at c wall = if_both (λ (x : Clocks). x.at ≡ c.at) (is_stepped c wall) _ c refl refl

-- this clock shows the reading, if there was a clock before, and does not fall
pub clock_at : (s : WatchState) (wall elapsed : ℕ) → is_none s.begun ≡ false → (timed s wall elapsed).clocks.at ≡ moment_at_reading s.clocks elapsed
unfolding clocks_after
clock_at s wall elapsed begun' =
    ap (λ (x : Clocks). x.at) (cond-false (is_none s.begun) (first_clocks wall elapsed) (dated_by_all (read s.clocks wall elapsed) s.answers) begun')
    ∙ all_dated_at (read s.clocks wall elapsed) s.answers ∙ walled_at (at_reading s.clocks elapsed) (reading wall)

pub clock_rises : (s : WatchState) (wall elapsed : ℕ) → is_none s.begun ≡ false → s.clocks.at ≤ (timed s wall elapsed).clocks.at
unfolding moment_at_reading
clock_rises s wall elapsed begun' =
    let m : s.clocks.at ≤ moment_at_reading s.clocks elapsed = le-max_left s.clocks.at (reading (elapsed + s.clocks.phase)) in
    let is = clock_at s wall elapsed begun' in
    omega (arith, is, m)

-- nothing after the first step moves the clocks
begun_clocks : (s : WatchState) (w : Option BeginReason) → (begun s w).clocks ≡ s.clocks
begun_clocks s None = refl
begun_clocks s (Some w) = refl

pub readied_clocks : (s : WatchState) (wall elapsed : ℕ) → (readied s wall elapsed).clocks ≡ (timed s wall elapsed).clocks
unfolding readied
readied_clocks s wall elapsed = begun_clocks (settled (timed s wall elapsed)) (why s wall elapsed)

begun_width : (s : WatchState) (w : Option BeginReason) → (begun s w).width ≡ s.width
begun_width s None = refl
begun_width s (Some w) = refl

pub readied_width : (s : WatchState) (wall elapsed : ℕ) → (readied s wall elapsed).width ≡ s.width
unfolding readied
readied_width s wall elapsed = begun_width (settled (timed s wall elapsed)) (why s wall elapsed)

-- a beginning has been after a clock
pub begun_some : (s : WatchState) (wall elapsed : ℕ) → is_none (readied s wall elapsed).begun ≡ false
unfolding readied why beginning
begun_some s wall elapsed = by (settled (timed s wall elapsed)) (why s wall elapsed) (λ none. cond-true (is_none s.begun) (Some Start) _ none) where
  by : (t : WatchState) (w : Option BeginReason) → (is_none t.begun ≡ true → w ≡ Some Start) → is_none (begun t w).begun ≡ false
  by t (Some w) first = refl
  by t None first =
      elim (cases_Bool (is_none t.begun)) [
        | inl none ↦ absurd (let e = first none in cc)
        | inr some ↦ some
      ]
