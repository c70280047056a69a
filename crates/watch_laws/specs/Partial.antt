-- Partial: how long an entry waits while requests of others have no answer. Each law is the contract of a public function without a body.
-- Source: this project's own.
use Rattle.std.specs.Prelude.{◌≡◌, ◌≢◌, ◌==◌, ℕ, zero, suc, ◌+◌, ◌*◌, ◌≤◌, ◌<◌, Bool, true, false, not, ◌&&◌, ◌||◌, if◌then◌else◌, List, [], ◌∷◌, ◌++◌, Option, Some, None, Result, Ok, Err, length, map, max, min, nat_lt}
use Rattle.std.specs.List.{All}
use Rattle.watch_machine.specs.{declared.command.WatchCommand.WatchCommand, declared.command.WatchOutput.WatchOutput, declared.command.Patience.Patience, declared.command.WatchRequest.WatchRequest, declared.event.WatchEvent.WatchEvent}
use Rattle.watch_machine.specs.{declared.event.Operation.TheVariants.Renew, declared.fault.WatchFault.WatchFault, declared.lanes.Out.Out, declared.track.Try.Try, Beginning.is_pressed, Lines.is_first, Refusal.is_same, Sending.is_partial}
use Rattle.watch_machine.specs.{Settling.timed}
use Rattle.watch_machine.specs.declared.command.WatchCommand.TheVariants.{Go, Taken}
use Rattle.watch_machine.specs.declared.command.Patience.TheVariants.{Full, AtMost}
use Rattle.watch_machine.specs.declared.event.WatchEvent.TheVariants.{Clock, Looked, Renewed, Need, Begin, Known}
use Rattle.watch_machine.specs.Change.{former_at, index_or, place_now}
use Rattle.watch_machine.specs.History.{AllHappen, Changed, Changes, Happening, Hands, IsReached, Turned, state_after_all}
use Rattle.watch_machine.specs.State.{WatchState, attempt_at, second, track_at}
use Rattle.watch_machine.specs.Wanted.{believed, is_alive, is_wanted, least}
use Rattle.watch_laws.specs.{Absence.is_clock, Absence.is_event_taken, Outage.how_many, Outage.one_where, Presence.is_told, Recovery.MayGo, Time.is_come}

-- a partial outage, in milliseconds of the watch's clock: which entries are hung, so that each of their requests may be silent until
-- its patience is over; how long the request of an entry takes that goes out at a moment; within what those of the others are answered; the
-- driver's time-out; the longest patience while somebody is alone; and how late a clock is handed in at most
pub record Partial : Type 0 where
  pub hung : ℕ → Bool
  pub takes : ℕ → ℕ → ℕ
  pub quick : ℕ
  pub slow : ℕ
  pub patience : ℕ
  pub late : ℕ

-- over changes of what is watched an outage is one such record after another: as it stands at first, and after each change, by the indices
-- that entries have then. This is it from the next change on
abbrev pub outage_then : (ℕ → Partial) → ℕ → Partial
outage_then o n = o (suc n)

-- by when a request that is out is settled
abbrev pub partial_settled_by : Partial → Out → ℕ
partial_settled_by o q = q.since + o.takes q.entry q.since

-- how long a request may be silent
abbrev pub may_take : ℕ → Patience → ℕ
may_take slow Full = slow
may_take slow (AtMost n) = min slow n

-- how long it takes at most: that of a hung entry until its patience is over
abbrev pub longest : Partial → WatchRequest → ℕ
longest o r = if o.hung r.entry then may_take o.slow r.patience else o.quick

-- the broker: each request that goes out is settled in that time
abbrev pub AreSettled : Partial → WatchCommand → WatchState → Type 0
AreSettled o (Go requests until) s = All (λ r. o.takes r.entry s.clocks.at ≤ longest o r) requests
AreSettled o Taken s = Unit {0}

-- the shell: by when the next clock is handed in. It is no later than the moment until which was to be waited, nor than any answer, but
-- for so much
abbrev pub partial_next_by : Partial → ℕ → List Out → ℕ
partial_next_by o until out = least (until + o.late) (map (λ (q : Out). partial_settled_by o q + o.late) out)

abbrev pub partial_next_after_command : Partial → WatchCommand → WatchState → ℕ → ℕ
partial_next_after_command o (Go requests until) s due = partial_next_by o until s.out
partial_next_after_command o Taken s due = due

abbrev pub partial_next_after : Partial → Result WatchOutput WatchFault → WatchState → ℕ → ℕ
partial_next_after o (Ok output) s due = partial_next_after_command o output.command s due
partial_next_after o (Err fault) s due = due

-- a first try that does not go along with others: the time of its entry has come, whether a round asked it along before that or not, or
-- it asks for a lookup
abbrev pub is_own_try : Bool → Option Try → Bool
is_own_try come None = false
is_own_try come (Some t) = is_first t && not (is_same t.operation Renew && not come)

-- j has one now, and its end is ahead
abbrev pub is_own_first : WatchState → ℕ → Bool
is_own_first s j = is_own_try (is_come s j) (attempt_at s j) && is_alive (second s) (track_at s j)

-- i is held up after a clock: it has such a try, which may go out and does not. The broker is there, and somebody is alone
pub record IsHeldUp (o : Partial) (s : WatchState) (i : ℕ) : Type 0 where
  pub may : MayGo s i
  pub own : is_own_first s i ≡ true
  pub there : s.presence.away ≡ false
  pub partial : is_partial (second s) s.tracks ≡ true
  pub patience : max 1000 (2 * s.presence.pace) ≤ o.patience

-- a clock comes in time
abbrev pub ClockIsInTime : ℕ → WatchState → WatchEvent → Type 0
ClockIsInTime due old (Clock wall elapsed) = (timed old wall elapsed).clocks.at ≤ due
ClockIsInTime due old event = Unit {0}

-- a clock after which i is still held up
abbrev pub IsHolding : Partial → ℕ → ℕ → WatchState → WatchEvent → WatchOutput → WatchState → Type 0
IsHolding o i due old (Clock wall elapsed) output new = ((timed old wall elapsed).clocks.at ≤ due) × (AreSettled o output.command new × IsHeldUp o new i)
IsHolding o i due old event output new = Unit {0}

abbrev pub IsHeld : Partial → ℕ → ℕ → WatchState → WatchEvent → Result WatchOutput WatchFault → WatchState → Type 0
IsHeld o i due old event (Ok output) new = IsHolding o i due old event output new
IsHeld o i due old event (Err fault) new = Unit {0}

-- an outage that goes on over a change: an entry that stays is hung if it was; each request that is out is settled when it was to be, that of
-- an entry that is no more, too; and all else is as it was. An entry that is new may be hung or not
pub record IsCarried (o p : Partial) (s : WatchState) (c : Changed) : Type 0 where
  pub hung : (i k : ℕ) → former_at c.was k ≡ Some i → p.hung k ≡ o.hung i
  pub settled : map (partial_settled_by p) c.state.out ≡ map (partial_settled_by o) s.out
  pub rest : p ≡ record o { hung = p.hung; takes = p.takes }

-- the index that the entry at i has after a change, past the last where it is no more
abbrev pub index_over : Changed → ℕ → ℕ
index_over c i = index_or (length c.was) (place_now c.was i)

-- turns that hold i up, and changes among them
abbrev pub AreHolding : (ℕ → Partial) → ℕ → ℕ → WatchState → List Happening → Type 0
AreHolding o i due s [] = Unit {0}
AreHolding o i due s (Hands turn ∷ hs) = IsHeld (o 0) i due s turn.event turn.result turn.state × AreHolding o i (partial_next_after (o 0) turn.result turn.state due) turn.state hs
AreHolding o i due s (Changes c ∷ hs) = IsCarried (o 0) (outage_then o 0) s c × AreHolding (outage_then o) (index_over c i) due c.state hs

-- by when the clock after them is handed in
abbrev pub due_after : (ℕ → Partial) → ℕ → List Happening → ℕ
due_after o due [] = due
due_after o due (Hands turn ∷ hs) = due_after o (partial_next_after (o 0) turn.result turn.state due) hs
due_after o due (Changes c ∷ hs) = due_after (outage_then o) due hs

-- j stands before i: it has such a try, and its end is ahead and earlier, or the same where its index is lower
abbrev pub stands_before : ℕ → WatchState → ℕ → Bool
stands_before i s j =
    let end = believed (track_at s j).end in
    let mine = believed (track_at s i).end in
    is_own_first s j && (nat_lt end mine || (end == mine && nat_lt j i))

-- and is not out
abbrev pub waits_before : ℕ → WatchState → ℕ → Bool
waits_before i s j = stands_before i s j && not (track_at s j).out

-- j comes to stand before i between two states: it did not before, or a request of it was answered
abbrev pub comes_before : ℕ → WatchState → WatchState → ℕ → Bool
comes_before i old new j = stands_before i new j && (not (stands_before i old j) || ((track_at old j).out && not (track_at new j).out))

-- and at a change: it did not stand there before, or was not yet
abbrev pub stood_before : ℕ → WatchState → Option ℕ → Bool
stood_before i s None = false
stood_before i s (Some j) = stands_before i s j

abbrev pub comes_before_over : ℕ → WatchState → Changed → ℕ → Bool
comes_before_over i old c j = stands_before (index_over c i) c.state j && not (stood_before i old (former_at c.was j))

-- what those of the first n add up to that pass a test
abbrev pub total : ℕ → (ℕ → ℕ) → (ℕ → Bool) → ℕ
total zero f p = 0
total (suc n) f p = (if p n then f n else 0) + total n f p

-- how long a request of j keeps a lane
abbrev pub keeps_lane : Partial → ℕ → ℕ
keeps_lane o j = (if o.hung j then o.patience else o.quick) + o.late

-- how long those keep lanes that wait before i, and those that come to
abbrev pub waiting_before : Partial → ℕ → ℕ → WatchState → ℕ
waiting_before o n i s = total n (keeps_lane o) (waits_before i s)

abbrev pub coming_before : (ℕ → Partial) → ℕ → WatchState → List Happening → ℕ
coming_before o i old [] = 0
coming_before o i old (Hands turn ∷ hs) = total (length old.forest.entries) (keeps_lane (o 0)) (comes_before i old turn.state) + coming_before o i turn.state hs
coming_before o i old (Changes c ∷ hs) = total (length c.forest.entries) (keeps_lane (outage_then o 0)) (comes_before_over i old c) + coming_before (outage_then o) (index_over c i) c.state hs

-- while somebody is alone and the broker is there, an entry that comes to its first try goes out no later than the lanes have served what
-- was out by then, for the time-out at most, and whoever stands before it: each that is hung for the patience, each other for its answer.
-- By then: at the clock that finds that its time has come; or, of one that a round asked along, at the last clock before that, if it waited.
-- Over changes, too: whoever stands before it after one and did not has come to
abbrev pub PartialLaw : Type 0
PartialLaw =
    (o : ℕ → Partial) (old : WatchState) (first : Turned) (hs : List Happening) (next : Turned) (i : ℕ) → IsReached old → AllHappen old (Hands first ∷ (hs ++ Hands next ∷ [])) → is_clock first.event ≡ true → is_event_taken first.result ≡ true → MayGo first.state i →
    All (λ q. partial_settled_by (o 0) q ≤ first.state.clocks.at + (o 0).slow) first.state.out → AreHolding o i (partial_next_after (o 0) first.result first.state 0) first.state hs →
    is_clock next.event ≡ true → is_event_taken next.result ≡ true → ClockIsInTime (due_after o (partial_next_after (o 0) first.result first.state 0) hs) (state_after_all first.state hs) next.event →
    old.width * next.state.clocks.at
    ≤ old.width * (first.state.clocks.at + (o 0).slow + (o 0).late) + (waiting_before (o 0) (length old.forest.entries) i first.state + coming_before o i first.state hs)

-- nothing is told of j: each request of it is lost or refused, or finds the broker busy, and nothing else tells its end
abbrev pub IsUntoldOf : ℕ → WatchEvent → Type 0
IsUntoldOf j (Clock wall elapsed) = Unit {0}
IsUntoldOf j (Looked k reply terms) = k ≡ j → is_told reply ≡ false
IsUntoldOf j (Renewed k reply) = k ≡ j → is_told reply ≡ false
IsUntoldOf j (Need k until) = Unit {0}
IsUntoldOf j Begin = Unit {0}
IsUntoldOf j (Known k end renewable) = k ≢ j

-- a turn at which j is hung: it is wanted after it, the broker is there, and the end of i stays as it is
pub record IsHung (i j : ℕ) (old : WatchState) (turn : Turned) : Type 0 where
  pub untold : is_event_taken turn.result ≡ true → IsUntoldOf j turn.event
  pub wanted : is_wanted turn.state j ≡ true
  pub there : turn.state.presence.away ≡ false
  pub same : (track_at turn.state i).end ≡ (track_at old i).end

abbrev pub AreHung : ℕ → ℕ → WatchState → List Happening → Type 0
AreHung i j old [] = Unit {0}
AreHung i j old (Hands turn ∷ hs) = IsHung i j old turn × AreHung i j turn.state hs
AreHung i j old (Changes c ∷ hs) = AreHung (index_over c i) (index_over c j) c.state hs

-- how often j comes to stand before i
abbrev pub often_before : ℕ → ℕ → WatchState → List Happening → ℕ
often_before i j old [] = 0
often_before i j old (Hands turn ∷ hs) = one_where (comes_before i old turn.state j) + often_before i j turn.state hs
often_before i j old (Changes c ∷ hs) = one_where (comes_before_over i old c (index_over c j)) + often_before (index_over c i) (index_over c j) c.state hs

-- a change puts j before i anew: it is new; or it had a first try of its own behind i, and stands before it now, as where their ends are the same
-- and their order another; or it is pressed, and its time had come and has not any more, as with a smaller margin
abbrev pub is_put_from : ℕ → WatchState → Changed → Option ℕ → ℕ → Bool
is_put_from i old c None j = true
is_put_from i old c (Some k) j = (is_own_first old k && comes_before_over i old c j) || (is_pressed (track_at old k) && (is_come old k && not (is_come c.state j)))

abbrev pub is_put_before : ℕ → WatchState → Changed → ℕ → Bool
is_put_before i old c j = is_put_from i old c (former_at c.was j) j

-- how often changes do so
abbrev pub put_before : ℕ → ℕ → WatchState → List Happening → ℕ
put_before i j old [] = 0
put_before i j old (Hands turn ∷ hs) = put_before i j turn.state hs
put_before i j old (Changes c ∷ hs) = one_where (is_put_before i old c (index_over c j)) + put_before (index_over c i) (index_over c j) c.state hs

-- an entry of which nothing is told stands before another one once: at its first try. After that it stands behind it, over changes too, but
-- where one puts it there anew
abbrev pub OnceInFrontLaw : Type 0
OnceInFrontLaw =
    (old : WatchState) (hs : List Happening) (i j : ℕ) → IsReached old → AllHappen old hs → old.presence.away ≡ false → AreHung i j old hs →
    one_where (waits_before i old j) + often_before i j old hs ≤ 1 + put_before i j old hs

-- every hung entry is so at each turn, and the broker is there at each change
abbrev pub AllHung : (ℕ → Partial) → ℕ → WatchState → List Happening → Type 0
AllHung o i s [] = Unit {0}
AllHung o i s (Hands turn ∷ hs) = ((j : ℕ) → j < length s.forest.entries → (o 0).hung j ≡ true → IsHung i j s turn) × AllHung o i turn.state hs
AllHung o i s (Changes c ∷ hs) = (c.state.presence.away ≡ false) × AllHung (outage_then o) (index_over c i) c.state hs

-- how often a change puts a hung entry before i anew
abbrev pub hung_anew : (ℕ → Partial) → ℕ → WatchState → List Happening → ℕ
hung_anew o i old [] = 0
hung_anew o i old (Hands turn ∷ hs) = hung_anew o i turn.state hs
hung_anew o i old (Changes c ∷ hs) = how_many (length c.forest.entries) (λ j. (outage_then o 0).hung j && is_put_before i old c j) + hung_anew (outage_then o) (index_over c i) c.state hs

-- how many that are answered wait before i, and how often one comes to
abbrev pub answered_before : Partial → ℕ → ℕ → WatchState → ℕ
answered_before o n i s = how_many n (λ j. not (o.hung j) && waits_before i s j)

abbrev pub answered_coming : (ℕ → Partial) → ℕ → WatchState → List Happening → ℕ
answered_coming o i old [] = 0
answered_coming o i old (Hands turn ∷ hs) = how_many (length old.forest.entries) (λ j. not ((o 0).hung j) && comes_before i old turn.state j) + answered_coming o i turn.state hs
answered_coming o i old (Changes c ∷ hs) = how_many (length c.forest.entries) (λ j. not ((outage_then o 0).hung j) && comes_before_over i old c j) + answered_coming (outage_then o) (index_over c i) c.state hs

-- so, however long some entries are hung: an entry that comes to its first try, and was asked along before that or not, is out as soon as the
-- lanes have served what was out by then, each hung entry once for its patience, and the others that stand before it. A change lengthens this by
-- whomever it puts before that entry, and by nothing else
abbrev pub HungLaw : Type 0
HungLaw =
    (o : ℕ → Partial) (old : WatchState) (first : Turned) (hs : List Happening) (next : Turned) (i : ℕ) → IsReached old → AllHappen old (Hands first ∷ (hs ++ Hands next ∷ [])) → is_clock first.event ≡ true → is_event_taken first.result ≡ true → MayGo first.state i → first.state.presence.away ≡ false →
    All (λ q. partial_settled_by (o 0) q ≤ first.state.clocks.at + (o 0).slow) first.state.out → AreHolding o i (partial_next_after (o 0) first.result first.state 0) first.state hs →
    AllHung o i first.state hs →
    is_clock next.event ≡ true → is_event_taken next.result ≡ true → ClockIsInTime (due_after o (partial_next_after (o 0) first.result first.state 0) hs) (state_after_all first.state hs) next.event →
    old.width * next.state.clocks.at
    ≤ old.width * (first.state.clocks.at + (o 0).slow + (o 0).late) + ((o 0).patience + (o 0).late) * (how_many (length old.forest.entries) (o 0).hung + hung_anew o i first.state hs)
    + ((o 0).quick + (o 0).late) * (answered_before (o 0) (length old.forest.entries) i first.state + answered_coming o i first.state hs)
