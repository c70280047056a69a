-- A request on its way over a connection, or what came of it, as the code has it.
use Rattle.std.specs.Prelude.{◌≡◌, ◌⊎◌, ℕ, ◌<◌, ◌≤◌, List, [], ◌∷◌, Bool, IsTrue, true, false, Option, Some, None, IfSome, filter, map, min, not, vec_capacity, if◌then◌else◌}
use Rattle.std.specs.List.{list_any}
use Rattle.vault_lanes.specs.{declared.reason.ConnectReason.ConnectReason, Allowed.deadline, Allowed.millis_after, Failing.FailsAs, Failing.FailsMore, Losses.Answer, Serving.allowed, code.Courses.came_by, code.Courses.is_unjudged}
use Rattle.vault_lanes.specs.{declared.allowance.Allowance.Allowance, declared.lane.Lane.Lane, declared.lanes.Answered.Answered, declared.seats.Seat.Seat, declared.stage.RequestStage.TheVariants.Connecting, declared.way.Way.Way}
use Rattle.vault_lanes.specs.Calls.{LanesCall, Renamed, Sent, StoodStill, Unsent, WentOn}
use Rattle.vault_lanes.specs.Lanes.{AreWaitedFor, Came, FrontIsWritten, IsJudgedFirst, ReplyIsHeard, RequestIsSettled, to_come}
use Rattle.vault_lanes.specs.Seats.{SeatIsPut, answers_of, under}
use Rattle.vault_lanes.specs.declared.way.Way.TheVariants.{Out, Over}
use Rattle.vault_http.specs.Written.{request_text}

abbrev pub is_way_over : {L : Type 0} → Way L → Bool
is_way_over (Out lane) = false
is_way_over (Over a) = true

-- what is still to come of its reply
abbrev pub left_of : {L : Type 0} → (L → Option (List ℕ)) → Lane L → Option (List ℕ)
left_of remaining lane = to_come lane.course.has_ended (remaining lane.line)

-- all of it was sent, and something that has come of its reply is not judged yet
abbrev pub HasUnjudged : {L : Type 0} → Lane L → Type 0
HasUnjudged lane = (lane.unsent.items ≡ []) × IsTrue (is_unjudged lane.course)

-- one request goes as far as it can: what of it is written, what is heard of its reply, and whether it is settled then
pub record LaneGoesOn {L : Type 0} (written remaining : L → Option (List ℕ)) (failures : L → Option ℕ) (reason : L → ConnectReason) (now : ℕ) (old new : Lane L) (answer : Option Answer) : Type 0 where
  pub allowance : new.course.allowance ≡ old.course.allowance
  pub sent : FrontIsWritten old.unsent.items new.unsent.items (written old.line) (written new.line)
  pub heard : ReplyIsHeard (came_by old.course) answer (came_by new.course) (left_of remaining old) (left_of remaining new)
  pub first : HasUnjudged old → IsJudgedFirst (came_by old.course) old.course.has_ended answer (new.line ≡ old.line)
  pub settled : RequestIsSettled new.course.allowance now new.course.stage new.unsent.items answer
  pub failing : FailsAs (came_by old.course) (left_of remaining old) (reason new.line) answer (failures old.line) (failures new.line)

-- it is on its way, or over with what came of it
abbrev pub WayMoves : {L : Type 0} → (L → Option (List ℕ)) → (L → Option (List ℕ)) → (L → Option ℕ) → (L → ConnectReason) → ℕ → Way L → Way L → Type 0
WayMoves written remaining failures reason now (Over a) new = new ≡ Over a
WayMoves written remaining failures reason now (Out lane) (Out next) = LaneGoesOn written remaining failures reason now lane next None
WayMoves {L} written remaining failures reason now (Out lane) (Over a) = (next : Lane L) × LaneGoesOn written remaining failures reason now lane next (Some a)

-- the deadline of one that is on its way is ahead
abbrev pub DeadlineIsAhead : {L : Type 0} → ℕ → Way L → Type 0
DeadlineIsAhead now (Out lane) = now < deadline lane.course.allowance lane.course.stage
DeadlineIsAhead now (Over a) = Unit {0}

-- that of each of them
abbrev pub AreAhead : {L : Type 0} → ℕ → List (Seat (Way L)) → Type 0
AreAhead now [] = Unit {0}
AreAhead now (s ∷ ss) = DeadlineIsAhead now s.standing × AreAhead now ss

-- each for itself, under its own index
abbrev pub Move : {L : Type 0} → (L → Option (List ℕ)) → (L → Option (List ℕ)) → (L → Option ℕ) → (L → ConnectReason) → ℕ → List (Seat (Way L)) → List (Seat (Way L)) → Type 0
Move written remaining failures reason now [] new = new ≡ []
Move written remaining failures reason now (s ∷ ss) [] = ⊥
Move written remaining failures reason now (s ∷ ss) (n ∷ ns) = ((n.index ≡ s.index) × (WayMoves written remaining failures reason now s.standing n.standing × DeadlineIsAhead now n.standing)) × Move written remaining failures reason now ss ns

-- memory was wanting to one on its way: what was written of it is not written again, what came of its reply is held, and what is
-- not judged yet of that was and is judged first; and its connection has not failed
pub record LaneWants {L : Type 0} (written remaining : L → Option (List ℕ)) (failures : L → Option ℕ) (old new : Lane L) : Type 0 where
  pub allowance : new.course.allowance ≡ old.course.allowance
  pub sent : FrontIsWritten old.unsent.items new.unsent.items (written old.line) (written new.line)
  pub came : Came (came_by old.course) (came_by new.course) (left_of remaining old) (left_of remaining new)
  pub first : HasUnjudged old → (new.line ≡ old.line) ⊎ AreWaitedFor (came_by old.course)
  pub unjudged : HasUnjudged new ⊎ ((came_by new.course ≡ came_by old.course) ⊎ AreWaitedFor (came_by new.course))
  pub failing : FailsMore 0 (failures old.line) (failures new.line)

abbrev pub WayWants : {L : Type 0} → (L → Option (List ℕ)) → (L → Option (List ℕ)) → (L → Option ℕ) → Way L → Way L → Type 0
WayWants written remaining failures (Over a) new = ⊥
WayWants written remaining failures (Out lane) (Over a) = ⊥
WayWants written remaining failures (Out lane) (Out next) = LaneWants written remaining failures lane next

-- there is room for a read of so many bytes
abbrev pub WayHasRoom : {L : Type 0} → ℕ → Way L → Type 0
WayHasRoom n (Out lane) = n ≤ vec_capacity lane.course.piece
WayHasRoom n (Over a) = Unit {0}

-- it was sent, and what has come of its reply is held
abbrev pub WayHolds : {L : Type 0} → Way L → Type 0
WayHolds (Out lane) = HasUnjudged lane
WayHolds (Over a) = ⊥

-- those in front of one to which memory was wanting went on, and those behind it are as they were
abbrev pub GoOnUpTo : {L : Type 0} → (L → Option (List ℕ)) → (L → Option (List ℕ)) → (L → Option ℕ) → (L → ConnectReason) → ℕ → List (Seat (Way L)) → List (Seat (Way L)) → Type 0
GoOnUpTo written remaining failures reason now [] new = ⊥
GoOnUpTo written remaining failures reason now (s ∷ ss) [] = ⊥
GoOnUpTo written remaining failures reason now (s ∷ ss) (n ∷ ns) =
    (n.index ≡ s.index) × ((WayWants written remaining failures s.standing n.standing × (ns ≡ ss)) ⊎ (WayMoves written remaining failures reason now s.standing n.standing × (DeadlineIsAhead now n.standing × GoOnUpTo written remaining failures reason now ss ns)))

-- nothing was sent yet of a request with this text, which may take so long
pub record LaneIsFresh {L : Type 0} (written : L → Option (List ℕ)) (text : List ℕ) (allowance : Allowance) (lane : Lane L) : Type 0 where
  pub unwritten : IfSome (written lane.line) (λ bytes. bytes ≡ [])
  pub unsent : lane.unsent.items ≡ text
  pub allowance_is : lane.course.allowance ≡ allowance
  pub stage : lane.course.stage ≡ Connecting
  pub none : came_by lane.course ≡ []
  pub unended : lane.course.has_ended ≡ false

-- such a request has gone as far as it can at the moment at which it was asked; or all of it was sent, and what has come of its reply
-- is held until there is memory to judge it
abbrev pub HasBegun : {L : Type 0} → (L → Option (List ℕ)) → (L → Option (List ℕ)) → (L → Option ℕ) → (L → ConnectReason) → List ℕ → Allowance → Way L → Type 0
HasBegun {L} written remaining failures reason text allowance way =
    (fresh : Lane L) × (LaneIsFresh written text allowance fresh
    × (WayMoves written remaining failures reason allowance.asked (Out fresh) way ⊎ (WayWants written remaining failures (Out fresh) way × WayHolds way)))

-- one more has begun, for this index, among those that are out, and these are as they were
pub record OneHasBegun {L : Type 0} (written remaining : L → Option (List ℕ)) (failures : L → Option ℕ) (reason : L → ConnectReason) (text : List ℕ) (allowance : Allowance) (index : ℕ) (old new : List (Seat (Way L))) : Type 0 where
  pub seat : Seat (Way L)
  pub put : SeatIsPut seat old new
  pub index_is : seat.index ≡ index
  pub begun : HasBegun written remaining failures reason text allowance seat.standing

-- what came of one that is over
abbrev pub answer_of_way : {L : Type 0} → Way L → Option Answer
answer_of_way (Out lane) = None
answer_of_way (Over a) = Some a

-- each goes on; those that are over then are handed back with what came of them, and the others are out
pub record WaysGoOn {L : Type 0} (written remaining : L → Option (List ℕ)) (failures : L → Option ℕ) (reason : L → ConnectReason) (now : ℕ) (answers : List Answered) (old new : List (Seat (Way L))) : Type 0 where
  pub gone : List (Seat (Way L))
  pub moved : Move written remaining failures reason now old gone
  pub answers_are : answers ≡ answers_of (λ (way : Way L). answer_of_way way) (filter (λ (seat : Seat (Way L)). is_way_over seat.standing) gone)
  pub left : new ≡ filter (λ (seat : Seat (Way L)). not (is_way_over seat.standing)) gone

-- what is known of a call
abbrev pub WaysAreCalled : {L : Type 0} → (L → Option (List ℕ)) → (L → Option (List ℕ)) → (L → Option ℕ) → (L → ConnectReason) → ℕ → LanesCall → List (Seat (Way L)) → List (Seat (Way L)) → Type 0
WaysAreCalled written remaining failures reason seconds (Sent now ask) old new = OneHasBegun written remaining failures reason (request_text ask.request) (allowed seconds now ask) ask.index old new
WaysAreCalled written remaining failures reason seconds Unsent old new = new ≡ old
WaysAreCalled written remaining failures reason seconds (WentOn now answers) old new = WaysGoOn written remaining failures reason now answers old new
WaysAreCalled written remaining failures reason seconds (StoodStill now) old new = (new ≡ old) ⊎ (GoOnUpTo written remaining failures reason now old new ⊎ Move written remaining failures reason now old new)
WaysAreCalled written remaining failures reason seconds (Renamed from to) old new = new ≡ map (under from to) old

-- the moment by which one has to be looked at again, and no later than another moment
abbrev pub sooner : {L : Type 0} → (L → Bool) → ℕ → ℕ → Way L → ℕ
sooner restless time moment (Over a) = moment
sooner restless time moment (Out lane) =
    if restless lane.line then min (min moment (deadline lane.course.allowance lane.course.stage)) (millis_after time 20) else min moment (deadline lane.course.allowance lane.course.stage)

-- the moment by which the first of them has to be looked at again, and no later than another moment
abbrev pub soonest : {L : Type 0} → (L → Bool) → ℕ → ℕ → List (Seat (Way L)) → ℕ
soonest restless time moment [] = moment
soonest restless time moment (s ∷ ss) = soonest restless time (sooner restless time moment s.standing) ss

-- the moment by which they have to be looked at again: at once where one is over
abbrev pub soonest_or_now : {L : Type 0} → (L → Bool) → ℕ → ℕ → List (Seat (Way L)) → ℕ
soonest_or_now restless now by seats = if list_any (λ seat. is_way_over seat.standing) seats then min now by else soonest restless now by seats
