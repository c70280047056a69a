-- Time: nobody is renewed too early. Each law is the contract of a public function without a body.
use Rattle.std.specs.Prelude.{◌≡◌, ◌==◌, ℕ, ◌+◌, ◌<◌, ◌≤◌, Bool, true, false, ◌&&◌, ◌||◌, if◌then◌else◌, List, [], ◌∷◌, Option, Some, None, Result, Ok, Err, IfSome, length}
use Rattle.std.specs.List.{list_any}
use Rattle.plan_forest.specs.Forest.{Forest}
use Rattle.watch_machine.specs.{declared.command.WatchOutput.WatchOutput, declared.command.WatchRequest.WatchRequest, declared.event.WatchEvent.WatchEvent, declared.event.Operation.TheVariants.Renew, declared.event.WatchReply.WatchReply}
use Rattle.watch_machine.specs.{declared.fault.WatchFault.WatchFault, Clocks.sec, Margins.has_come, Margins.own_margin, Outlook.time_of, Refusal.is_same, Refusal.request_out}
use Rattle.watch_machine.specs.declared.event.WatchEvent.TheVariants.{Clock, Looked, Renewed, Need, Begin, Known}
use Rattle.watch_machine.specs.declared.event.WatchReply.TheVariants.{Told, Refused, Busy, Lost}
use Rattle.watch_machine.specs.History.{Changes, Happening, Hands, History, IsReached, IsRun, Turned, stood}
use Rattle.watch_machine.specs.State.{WatchState, entry_of, second, track_at}
use Rattle.watch_laws.specs.{Absence.is_event_taken, Load.requests_at_turn}

-- the time of i has come
abbrev pub is_come : WatchState → ℕ → Bool
is_come s i = has_come s.forest.margin (entry_of s i) (track_at s i) (second s)

-- a round that opened names i
abbrev pub is_named_in_round : Option (List ℕ) → ℕ → Bool
is_named_in_round None i = false
is_named_in_round (Some asked) i = list_any (λ j. j == i) asked

-- an answer of i leaves a reason to renew it: as told its time has come, or it failed. s is the state after it
abbrev pub reason_answered : WatchState → ℕ → WatchReply → Bool
reason_answered s i (Told seconds renewable date) = is_come s i
reason_answered s i (Refused status date) = true
reason_answered s i Busy = true
reason_answered s i Lost = true

abbrev pub reason_taken : ℕ → Bool → WatchEvent → WatchOutput → WatchState → Bool
reason_taken i before (Clock wall elapsed) output s = before || (is_come s i || is_named_in_round output.notes.round i)
reason_taken i before (Looked j reply terms) output s = if j == i then reason_answered s i reply else before
reason_taken i before (Renewed j reply) output s = if j == i then reason_answered s i reply else before
reason_taken i before (Need j until) output s = before
reason_taken i before Begin output s = before
reason_taken i before (Known j end renewable) output s = before

-- there is a reason to renew i after a turn, where there was one before or not: since the answer that told it last, a clock found
-- that its time had come, a round named it, or it failed
abbrev pub reason : ℕ → Bool → WatchEvent → Result WatchOutput WatchFault → WatchState → Bool
reason i before event (Ok output) s = reason_taken i before event output s
reason i before event (Err fault) s = before

-- a renewal of i goes out
abbrev pub renewal_goes_out : ℕ → List WatchRequest → Bool
renewal_goes_out i requests = list_any (λ r. r.entry == i && is_same r.operation Renew) requests

-- a renewal of the entry that stands there goes out for a reason alone; of one that is not there yet there is none
abbrev pub IsReasonedAt : Option ℕ → Bool → Turned → Type 0
IsReasonedAt None before turn = Unit {0}
IsReasonedAt (Some i) before turn = renewal_goes_out i (requests_at_turn turn.result) ≡ true → reason i before turn.event turn.result turn.state ≡ true

abbrev pub reason_at : Option ℕ → Bool → Turned → Bool
reason_at None before turn = false
reason_at (Some i) before turn = reason i before turn.event turn.result turn.state

-- so at each turn, of the entry that stands at k in the end: a change gives no reason, and takes none
abbrev pub AllReasoned : ℕ → Bool → List Happening → Type 0
AllReasoned k before [] = Unit {0}
AllReasoned k before (Hands turn ∷ hs) = IsReasonedAt (stood hs k) before turn × AllReasoned k (reason_at (stood hs k) before turn) hs
AllReasoned k before (Changes c ∷ hs) = AllReasoned k before hs

-- no entry is renewed before its time, but in a round, or after a failure
abbrev pub EarlyLaw : Type 0
EarlyLaw = (g : Forest) (width : ℕ) (hs : List Happening) → IsRun g width hs → (k : ℕ) → AllReasoned k false hs

-- the round that opens at a turn, None where none does
abbrev pub round_of : Result WatchOutput WatchFault → Option (List ℕ)
round_of (Ok output) = output.notes.round
round_of (Err fault) = None

-- however long a renewal waited for its turn, a grant of the entry's own margin and two seconds or more leaves its time two seconds or
-- more after the second in which the request went out
abbrev pub AheadLaw : Type 0
AheadLaw =
    (old : WatchState) (grant : Turned) (i seconds : ℕ) (renewable : Bool) (date : Option ℕ) → IsReached old → History old (grant ∷ []) → i < length old.forest.entries →
    grant.event ≡ Renewed i (Told seconds renewable date) → is_event_taken grant.result ≡ true →
    own_margin grant.state.forest.margin (entry_of grant.state i) (track_at grant.state i) + 2 ≤ seconds →
    IfSome (request_out old.out i Renew) (λ q. sec q.since + 2 ≤ time_of grant.state i)
