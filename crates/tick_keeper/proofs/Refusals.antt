-- What an event has that is not refused: each test of its refusal failed.
use Rattle.std.proofs.Common.{◌≡◌, ℕ, ◌<◌, ◌≤◌, Bool, true, false, cond, Option, Some, None, is_some, length, nat_le, nat_lt, refl, arith}
use Rattle.std.proofs.lemmas.Bool.Decides.{nat_tests}
use Rattle.base_moment.specs.declared.moment.TheConstants.{LAST}
use Rattle.tick_keeper.specs.{declared.event.Event.Event, LawsOfHistories.IsAnswerEvent, declared.refusal.TheConstants.LONGEST, State.CoreState, State.Round, Step.entry_of_event}
use Rattle.tick_keeper.specs.declared.event.Event.TheVariants.{Tick, Told, Refused, Lost, Need}
use Rattle.tick_keeper.specs.declared.fault.StepFault.TheVariants.{BadIndex, ClockBack, NotAsked, OutOfRange, RoundOpen}
use Rattle.tick_keeper.specs.Refusal.{TellsSpan, step_refusal, unless_closed, unless_waited_for, waits_for}

-- the first test failed, and so did the others
pub first_none : {X : Type 0} (b : Bool) (x : X) (o : Option X) → cond b (Some x) o ≡ None → (b ≡ false) × (o ≡ None)
first_none true x o e = absurd cc
first_none false x o e = (refl, e)

none_open : (round : Option Round) → cond (is_some round) (Some RoundOpen) None ≡ None → round ≡ None
none_open None e = refl
none_open (Some r) e = absurd cc

is_waited_for : (waits : Bool) → cond waits None (Some NotAsked) ≡ None → waits ≡ true
is_waited_for true e = refl
is_waited_for false e = absurd cc

pub asked_parts : (s : CoreState) (i : ℕ) → unless_waited_for s i ≡ None → (i < length s.forest.entries) × (waits_for s.round i ≡ true)
asked_parts s i e =
    let tests = first_none (nat_le (length s.forest.entries) i) BadIndex (cond (waits_for s.round i) None (Some NotAsked)) e in
    let one : nat_le (length s.forest.entries) i ≡ false = tests.0 in
    (grind (arith, nat_tests), is_waited_for (waits_for s.round i) tests.1)

-- an answer that is not refused: its entry is one, and is waited for
pub record IsTaken (s : CoreState) (event : Event) : Type 0 where
  pub seconds : TellsSpan event
  pub within : entry_of_event event < length s.forest.entries
  pub waits : waits_for s.round (entry_of_event event) ≡ true

pub answer_taken : (s : CoreState) (event : Event) → IsAnswerEvent event → step_refusal s event ≡ None → IsTaken s event
unfolding step_refusal
answer_taken s (Refused i) answer e = let taken = asked_parts s i e in record { seconds = tt; within = taken.0; waits = taken.1 }
answer_taken s (Lost i) answer e = let taken = asked_parts s i e in record { seconds = tt; within = taken.0; waits = taken.1 }
answer_taken s (Told i seconds renewable) answer e =
    let test = first_none (nat_lt LONGEST seconds) OutOfRange (unless_waited_for s i) e in
    let short : nat_lt LONGEST seconds ≡ false = test.0 in
    let taken = asked_parts s i test.1 in
    record { seconds = grind (arith, nat_tests); within = taken.0; waits = taken.1 }
answer_taken s _ answer e = absurd answer

pub need_taken : (s : CoreState) (i until : ℕ) → step_refusal s (Need i until) ≡ None → (until ≤ LAST) × (i < length s.forest.entries) × (s.round ≡ None)
unfolding step_refusal
need_taken s i until e =
    let range = first_none (nat_lt LAST until) OutOfRange _ e in
    let index = first_none (nat_le (length s.forest.entries) i) BadIndex (unless_closed s) range.1 in
    let one : nat_lt LAST until ≡ false = range.0 in
    let other : nat_le (length s.forest.entries) i ≡ false = index.0 in
    (grind (arith, nat_tests), grind (arith, nat_tests), none_open s.round index.1)

pub tick_taken : (s : CoreState) (t : ℕ) → step_refusal s (Tick t) ≡ None → (t ≤ LAST) × (s.last ≤ t) × (s.round ≡ None)
unfolding step_refusal
tick_taken s t e =
    let range = first_none (nat_lt LAST t) OutOfRange _ e in
    let clock = first_none (nat_lt t s.last) ClockBack (unless_closed s) range.1 in
    let one : nat_lt LAST t ≡ false = range.0 in
    let other : nat_lt t s.last ≡ false = clock.0 in
    (grind (arith, nat_tests), grind (arith, nat_tests), none_open s.round clock.1)
