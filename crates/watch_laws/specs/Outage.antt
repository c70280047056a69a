-- Outage: how long the broker may be away. Each law is the contract of a public function without a body.
-- Source: this project's own.
use Rattle.std.specs.Prelude.{◌≡◌, ◌≢◌, ◌⊎◌, ◌==◌, ℕ, zero, suc, ◌+◌, ◌-◌, ◌*◌, ◌/◌, ◌<◌, ◌≤◌, Bool, true, false, not, ◌&&◌, ◌||◌, if◌then◌else◌, List, [], ◌∷◌, ◌++◌, Option, Some, None, Result, Ok, Err, IfSome, is_some, length, map, max, nat_le}
use Rattle.std.specs.List.{All, list_any}
use Rattle.plan_forest.specs.Forest.{Forest}
use Rattle.watch_machine.specs.{declared.command.WatchCommand.WatchCommand, declared.command.WatchOutput.WatchOutput, declared.event.WatchEvent.WatchEvent, declared.event.WatchReply.WatchReply, declared.fault.WatchFault.WatchFault}
use Rattle.watch_machine.specs.{declared.lanes.Out.Out, declared.track.Try.Try, Beginning.is_pressed, Change.former_at, Clocks.ms, Lines.is_first, Lines.rested, Margins.is_in_plan, Outlook.time_of, Refusal.request_out, Settling.timed}
use Rattle.watch_machine.specs.declared.command.WatchCommand.TheVariants.{Go, Taken}
use Rattle.watch_machine.specs.declared.event.WatchEvent.TheVariants.{Clock, Looked, Renewed, Need, Begin, Known}
use Rattle.watch_machine.specs.declared.event.Operation.TheVariants.{Look, Renew}
use Rattle.watch_machine.specs.declared.event.WatchReply.TheVariants.{Told, Refused, Busy, Lost}
use Rattle.watch_machine.specs.History.{AllHappen, Changed, Changes, Happening, Hands, History, IsReached, Turned}
use Rattle.watch_machine.specs.State.{WatchState, attempt_at, entry_of, opened, second, track_at}
use Rattle.watch_machine.specs.Wanted.{believed, is_known, is_wanted, least}
use Rattle.watch_laws.specs.{Absence.is_clock, Absence.is_event_taken, Presence.is_told}

-- an outage, in milliseconds of the watch's clock: when it begins and ends; by when a request is settled while the broker is there,
-- and by when at all; how late a clock is handed in at most; and how many rounds of all lanes hold those that wait and come to wait
pub record Outage : Type 0 where
  pub from : ℕ
  pub until : ℕ
  pub quick : ℕ
  pub slow : ℕ
  pub late : ℕ
  pub rounds : ℕ

-- a request that goes out at a moment is whole: it is answered before the broker goes, or goes out when it is back
unfoldable pub is_request_whole : Outage → ℕ → Bool
is_request_whole o since = nat_le (since + o.quick) o.from || nat_le o.until since

-- by when a request that went out at a moment is settled
unfoldable pub outage_settled_by : Outage → ℕ → ℕ
outage_settled_by o since = since + (if is_request_whole o since then o.quick else o.slow)

-- the shell: by when the next clock is handed in. It is no later than the moment until which was to be waited, nor than any answer, but
-- for so much
abbrev pub outage_next_by : Outage → ℕ → List Out → ℕ
outage_next_by o until out = least (until + o.late) (map (λ (q : Out). outage_settled_by o q.since + o.late) out)

abbrev pub outage_next_after_command : Outage → WatchCommand → WatchState → ℕ → ℕ
outage_next_after_command o (Go requests until) s due = outage_next_by o until s.out
outage_next_after_command o Taken s due = due

abbrev pub outage_next_after : Outage → Result WatchOutput WatchFault → WatchState → ℕ → ℕ
outage_next_after o (Ok output) s due = outage_next_after_command o output.command s due
outage_next_after o (Err fault) s due = due

-- how long a lane is taken by one request after another, as many as rounds; and the longest pause before them
abbrev pub sweep : Outage → ℕ
sweep o = (o.quick + o.late) * o.rounds + o.late

abbrev pub breath : Outage → ℕ
breath o = max 1000 (sweep o / 15)

-- an outage that so much time outlasts: beside it there is room for the request that its end cuts, that which its beginning cuts, the one
-- under way when the time came, all rounds, and one pause
abbrev pub IsShortFor : Outage → ℕ → Type 0
IsShortFor o left = (o.until - o.from) + o.slow + 2 * (o.quick + o.late) + sweep o + breath o ≤ left

-- so a margin of so many seconds does
abbrev pub IsShortOutage : Outage → ℕ → Type 0
IsShortOutage o margin = IsShortFor o (ms margin)

-- the broker: no request that is whole is lost
abbrev pub IsReplyInOutage : Outage → WatchReply → Out → Type 0
IsReplyInOutage o (Told seconds renewable date) q = Unit {0}
IsReplyInOutage o (Refused status date) q = Unit {0}
IsReplyInOutage o Busy q = Unit {0}
IsReplyInOutage o Lost q = is_request_whole o q.since ≡ false

-- a reply that tells nothing, and not to a request that is whole
abbrev pub TellsNothing : Outage → WatchReply → Out → Type 0
TellsNothing o reply q = (is_told reply ≡ false) × (is_request_whole o q.since ≡ false)

-- what happens until i is told, or a request of it that is whole is answered: a clock in time, with or without a beginning; replies; needs;
-- beginnings that are asked for; and ends of others, as an earlier watch told them
abbrev pub IsIncident : Outage → ℕ → ℕ → WatchState → WatchEvent → Type 0
IsIncident o i due s (Clock wall elapsed) = (timed s wall elapsed).clocks.at ≤ due
IsIncident o i due s (Looked j reply terms) = IfSome (request_out s.out j Look) (IsReplyInOutage o reply) × (j ≡ i → IfSome (request_out s.out j Look) (TellsNothing o reply))
IsIncident o i due s (Renewed j reply) = IfSome (request_out s.out j Renew) (IsReplyInOutage o reply) × (j ≡ i → IfSome (request_out s.out j Renew) (TellsNothing o reply))
IsIncident o i due s (Need j until) = Unit {0}
IsIncident o i due s Begin = Unit {0}
IsIncident o i due s (Known j end renewable) = j ≢ i

abbrev pub IsLived : Outage → ℕ → ℕ → WatchState → WatchEvent → Result WatchOutput WatchFault → Type 0
IsLived o i due s event (Ok output) = IsIncident o i due s event
IsLived o i due s event (Err fault) = Unit {0}

-- a change over which i stays, under the index k. If it is not pressed yet and its time comes later, as with a smaller margin, what is left
-- from then to its end outlasts the outage
pub record IsLivedChange (o : Outage) (s : WatchState) (c : Changed) (i k : ℕ) : Type 0 where
  pub kept : former_at c.was k ≡ Some i
  pub left : is_pressed (track_at s i) ≡ false → time_of s i < time_of c.state k → IsShortFor o (ms (believed (track_at c.state k).end) - ms (time_of c.state k))

-- turns and changes that are lived through the outage, until i is told; i is wanted after each
abbrev pub AreLived : Outage → ℕ → ℕ → WatchState → List Happening → Type 0
AreLived o i due s [] = Unit {0}
AreLived o i due s (Hands turn ∷ hs) =
    IsLived o i due s turn.event turn.result × ((is_wanted turn.state i ≡ true) × AreLived o i (outage_next_after o turn.result turn.state due) turn.state hs)
AreLived o i due s (Changes c ∷ hs) = (k : ℕ) × (IsLivedChange o s c i k × ((is_wanted c.state k ≡ true) × AreLived o k due c.state hs))

-- how many of the first n pass a test
abbrev pub one_where : Bool → ℕ
one_where b = if b then 1 else 0

abbrev pub how_many : ℕ → (ℕ → Bool) → ℕ
how_many zero p = 0
how_many (suc n) p = one_where (p n) + how_many n p

-- something is to be asked of j, or asked
abbrev pub is_tried : WatchState → ℕ → Bool
is_tried s j = is_some (attempt_at s j)

-- a request of j that is whole is out
abbrev pub is_request_served : Outage → WatchState → ℕ → Bool
is_request_served o s j = list_any (λ (q : Out). q.entry == j && is_request_whole o q.since) s.out

-- j waits: something is to be asked of it, and no request that is whole is out
abbrev pub waits_to_be_asked : Outage → WatchState → ℕ → Bool
waits_to_be_asked o s j = is_tried s j && not (is_request_served o s j)

-- how many of n entries wait
abbrev pub waiting : Outage → ℕ → WatchState → ℕ
waiting o n s = how_many n (waits_to_be_asked o s)

-- j comes to wait between two states: something is to be asked of it, and nothing was before, or a request that is whole was answered
abbrev pub comes : Outage → WatchState → WatchState → ℕ → Bool
comes o old new j = is_tried new j && (not (is_tried old j) || (is_request_served o old j && not (is_request_served o new j)))

-- and at a change: something is to be asked of it, and nothing was before. So a change counts as the lookups that it brings
abbrev pub was_tried : WatchState → Option ℕ → Bool
was_tried s None = false
was_tried s (Some i) = is_tried s i

abbrev pub comes_over : WatchState → Changed → ℕ → Bool
comes_over old c j = is_tried c.state j && not (was_tried old (former_at c.was j))

-- how often one comes to wait in all that happens
abbrev pub coming_through : Outage → WatchState → List Happening → ℕ
coming_through o old [] = 0
coming_through o old (Hands turn ∷ hs) = how_many (length old.forest.entries) (comes o old turn.state) + coming_through o turn.state hs
coming_through o old (Changes c ∷ hs) = how_many (length c.forest.entries) (comes_over old c) + coming_through o c.state hs

-- those that wait in a state, and those that come to
abbrev pub in_line : Outage → WatchState → List Happening → ℕ
in_line o s hs = waiting o (length s.forest.entries) s + coming_through o s hs

-- by when whoever was lost may go out again that has that end, after a clock at that moment
abbrev pub again : ℕ → ℕ → ℕ
again end at = at + max 1000 ((ms end - at) / 16)

-- by when an entry of that end is granted which may be asked from a moment on
abbrev pub granted_by : Outage → ℕ → ℕ → ℕ
granted_by o from end = max from (again end (o.until + o.slow + o.late)) + sweep o + o.quick

-- a state in which the time of i is ahead: i is wanted, in the plan, and not pressed, and may be asked when its time comes. A lookup of it may
-- be owed, and out. It is not at its top: of a last try, whose time comes later, speaks the law of what is left
pub record IsBefore (s : WatchState) (i : ℕ) : Type 0 where
  pub within : i < length s.forest.entries
  pub wanted : is_wanted s i ≡ true
  pub in_plan : is_in_plan s.forest.margin (entry_of s i) (track_at s i) ≡ true
  pub not_topped : (track_at s i).top ≡ false
  pub loose : is_pressed (track_at s i) ≡ false
  pub ahead : second s < time_of s i
  pub rested : rested (track_at s i).last ≤ ms (time_of s i)

-- a state in which i is wanted and its end is known, and from a moment on that is ahead it may be asked: it is not pressed, and that moment is
-- not before its time, or it is on a first try of which nothing is out but what went out just now; and it has rested by then, but where that
-- is out
pub record MayBeAsked (s : WatchState) (i from : ℕ) : Type 0 where
  pub within : i < length s.forest.entries
  pub wanted : is_wanted s i ≡ true
  pub known : is_known (track_at s i).end ≡ true
  pub first : (t : Try) → attempt_at s i ≡ Some t → t.pressed ≡ true → (is_first t ≡ true) × ((t.failed ≡ false) × (t.at ≤ from))
  pub fresh : All (λ q. q.entry ≡ i → is_pressed (track_at s i) ≡ true → (q.heard ≡ false) × (q.since ≡ s.clocks.at)) s.out
  pub come : is_pressed (track_at s i) ≡ false → ms (time_of s i) ≤ from
  pub ahead : s.clocks.at < from
  pub rested : (is_pressed (track_at s i) ≡ true → (track_at s i).out ≡ false) → rested (track_at s i).last ≤ from

-- the clock at which the last request of i went out, the one that told its end
abbrev pub clock_asked_at : Option ℕ → ℕ
clock_asked_at None = 0
clock_asked_at (Some at) = at

abbrev pub granted_at : WatchState → ℕ → ℕ
granted_at s i = clock_asked_at (track_at s i).last

-- a reply tells the end of i: to a renewal that is granted, or to a lookup
abbrev pub tells : ℕ → WatchEvent → Bool
tells i (Clock wall elapsed) = false
tells i (Looked j reply terms) = j == i && is_told reply
tells i (Renewed j reply) = j == i && is_told reply
tells i (Need j until) = false
tells i Begin = false
tells i (Known j end renewable) = false

-- and the time of i is ahead after it
pub record IsGrant (turn : Turned) (i : ℕ) : Type 0 where
  pub told : tells i turn.event ≡ true
  pub taken : is_event_taken turn.result ≡ true
  pub before : IsBefore turn.state i

-- by when the next clock is handed in after it: no later than after that request, or any that is out, is settled, but for so much
abbrev pub granted_next : Outage → WatchState → ℕ → ℕ
granted_next o s i = outage_next_by o (outage_settled_by o (granted_at s i)) s.out

-- after each turn the end of i is ahead, and it is no later than i is told, where it may be asked from a moment on
abbrev pub EndIsInTime : Outage → ℕ → ℕ → WatchState → Type 0
EndIsInTime o i from s = (s.clocks.at < ms (believed (track_at s i).end)) × (s.clocks.at ≤ granted_by o from (believed (track_at s i).end))

-- from when on the entry at k may be asked after a change: from its time on, if that is later and it is not pressed yet
abbrev pub from_over : ℕ → Changed → ℕ → ℕ
from_over from c k = if is_pressed (track_at c.state k) then from else max from (ms (time_of c.state k))

abbrev pub AllInTime : Outage → ℕ → ℕ → List Happening → Type 0
AllInTime o i from [] = Unit {0}
AllInTime o i from (Hands turn ∷ hs) = EndIsInTime o i from turn.state × AllInTime o i from hs
AllInTime o i from (Changes c ∷ hs) = (k : ℕ) → former_at c.was k ≡ Some i → EndIsInTime o k (from_over from c k) c.state × AllInTime o k (from_over from c k) hs

-- whatever was before: from a clock on at which the time of an entry is ahead that is wanted and in the plan, until it is granted or looked
-- up, its end is ahead, through any outage that the margin outlasts
abbrev pub OutageLaw : Type 0
OutageLaw =
    (o : Outage) (old : WatchState) (last : Turned) (hs : List Happening) (i : ℕ) → IsReached old → 0 < old.width → AllHappen old (Hands last ∷ hs) → is_clock last.event ≡ true →
    is_event_taken last.result ≡ true → IsBefore last.state i → AreLived o i (outage_next_after o last.result last.state 0) last.state hs →
    in_line o last.state hs ≤ old.width * o.rounds → o.from ≤ o.until → IsShortOutage o last.state.forest.margin →
    AllInTime o i (ms (time_of last.state i)) hs

-- and so it is from a grant or a lookup of the entry on, until the next one. So outages of which no two lie between the same two count each
-- by itself
abbrev pub GrantLaw : Type 0
GrantLaw =
    (o : Outage) (old : WatchState) (grant : Turned) (hs : List Happening) (i : ℕ) → IsReached old → 0 < old.width → AllHappen old (Hands grant ∷ hs) → IsGrant grant i →
    AreLived o i (granted_next o grant.state i) grant.state hs → in_line o grant.state hs ≤ old.width * o.rounds → o.from ≤ o.until → IsShortOutage o grant.state.forest.margin →
    AllInTime o i (ms (time_of grant.state i)) hs

-- a turn from which on an entry is lived with: a clock, or a reply that tells its end; and by when the next clock is handed in
abbrev pub StartsBy : Outage → Turned → ℕ → ℕ → Type 0
StartsBy o turn i due =
    ((is_clock turn.event ≡ true) × ((is_event_taken turn.result ≡ true) × (due ≡ outage_next_after o turn.result turn.state 0)))
    ⊎ ((tells i turn.event ≡ true) × ((is_event_taken turn.result ≡ true) × (due ≡ granted_next o turn.state i)))

-- and so it is of any entry that is wanted and whose end is known, in the plan or not, its time come or not: what is left to its end, from a
-- moment on from which it may be asked, stands for the margin. So after a lookup at which its time has come, and at the first clock of a watch
-- that was told the ends of an earlier one
abbrev pub LeftLaw : Type 0
LeftLaw =
    (o : Outage) (old : WatchState) (last : Turned) (hs : List Happening) (i from due : ℕ) → IsReached old → 0 < old.width → AllHappen old (Hands last ∷ hs) → StartsBy o last i due →
    MayBeAsked last.state i from → AreLived o i due last.state hs → in_line o last.state hs ≤ old.width * o.rounds → o.from ≤ o.until →
    IsShortFor o (ms (believed (track_at last.state i).end) - from) → AllInTime o i from hs

-- what a new watch may be told before its first clock: ends of an earlier one, needs, and that all is to begin anew
abbrev pub is_handed : WatchEvent → Bool
is_handed (Clock wall elapsed) = false
is_handed (Looked j reply terms) = false
is_handed (Renewed j reply) = false
is_handed (Need j until) = true
is_handed Begin = true
is_handed (Known j end renewable) = true

abbrev pub AreHanded : List Turned → Type 0
AreHanded [] = Unit {0}
AreHanded (turn ∷ turns) = (is_handed turn.event ≡ true) × AreHanded turns

-- from when on what is left to the end of i counts: from its time on, or from now where that is later; but not before it has rested, where it is
-- not pressed
abbrev pub left_from : WatchState → ℕ → ℕ
left_from s i = max (ms (time_of s i)) (max (s.clocks.at + 1) (if is_pressed (track_at s i) then 0 else rested (track_at s i).last))

-- a kill: so it is from the first clock of a watch on that was told the end of an entry which is wanted. It costs the time until that clock, as
-- far as it lies past the entry's time, and nothing more
abbrev pub KillLaw : Type 0
KillLaw =
    (o : Outage) (g : Forest) (width : ℕ) (before : List Turned) (first : Turned) (hs : List Happening) (i : ℕ) → 0 < width →
    History (opened g width) (before ++ first ∷ []) → AllHappen first.state hs → AreHanded before → is_clock first.event ≡ true → is_event_taken first.result ≡ true → i < length g.entries →
    is_wanted first.state i ≡ true → is_known (track_at first.state i).end ≡ true → AreLived o i (outage_next_after o first.result first.state 0) first.state hs →
    in_line o first.state hs ≤ width * o.rounds → o.from ≤ o.until →
    IsShortFor o (ms (believed (track_at first.state i).end) - left_from first.state i) → AllInTime o i (left_from first.state i) hs
