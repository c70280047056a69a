-- A table of guests, and a turn of it.
-- Source: this project's own.
use Rattle.std.specs.Prelude.{◌≡◌, ℕ, ◌+◌, ◌-◌, ◌^◌, ◌≤◌, ◌⊎◌, min, nat_lt, nat_eq, List, [], ◌∷◌, ◌++◌, length, filter, not, Bool, true, false, ◌&&◌, Option, Some, None, Result, Ok, Err, if◌then◌else◌}
use Rattle.std.specs.List.{position, remove, slice_get, slice_set}
use Rattle.base_device.specs.Moments.{earlier}
use Rattle.base_clients.specs.{Doors.AskedFor, Doors.DoorLog, declared.clients.Came.Came, declared.clients.GuestRequest.GuestRequest, declared.fed.Fed.Fed, declared.fed.Fed.TheVariants.Gone, declared.guest.Guest.Guest}
use Rattle.base_clients.specs.{declared.limits.GuestLimits.GuestLimits, declared.talk.TalkCall.TalkCall}
use Rattle.base_clients.specs.Guests.{GuestGoesOn, GuestIsFed, GuestIsLost, asked_bytes, by_after, is_following, is_stage_asked, is_stage_busy, is_stage_over, is_waiting, newcomer}
use Rattle.base_clients.specs.declared.clients.Came.TheVariants.{One, Nobody, NoPlace}
use Rattle.base_clients.specs.declared.stage.GuestStage.TheVariants.{Asked, Answering, Following, Waiting}

-- the guests, the first to come first; the number of the next; how many may be there and how long a request may be; what tells
-- that one is whole
pub record GuestTable (T F : Type 0) : Type 0 where
  pub guests : List (Guest T)
  pub next : ℕ
  pub limits : GuestLimits
  pub framing : F

-- ---- who makes room

-- since when the one has been idle that has been so longest, of those that have to be read or written by a moment
abbrev pub idle_since : {T : Type 0} → List (Guest T) → Option ℕ
idle_since [] = None
idle_since (g ∷ gs) = if is_stage_busy g.stage then Some (earlier g.moved (idle_since gs)) else idle_since gs

abbrev pub is_idle_since : {T : Type 0} → ℕ → Guest T → Bool
is_idle_since since g = is_stage_busy g.stage && nat_eq g.moved since

abbrev pub without_place : {X : Type 0} → List X → Option ℕ → List X
without_place xs None = xs
without_place xs (Some i) = remove xs i

abbrev pub without_idlest : {T : Type 0} → List (Guest T) → Option ℕ → List (Guest T)
without_idlest guests None = guests
without_idlest guests (Some since) = without_place guests (position (is_idle_since since) guests)

-- with a place for one more: the one that has been idle longest makes room where there are as many as may be
abbrev pub with_place : {T : Type 0} → ℕ → List (Guest T) → List (Guest T)
with_place most guests = if nat_lt (length guests) most then guests else without_idlest guests (idle_since guests)

-- the moment by which the first of those has to be read or written to
abbrev pub first_by : {T : Type 0} → List (Guest T) → Option ℕ
first_by [] = None
first_by (g ∷ gs) = if is_stage_busy g.stage then Some (earlier g.by (first_by gs)) else first_by gs

-- one that comes is the last
abbrev pub arrive : {T F : Type 0} → ℕ → GuestTable T F → T → GuestTable T F
arrive now table talk = record table {
  guests = with_place table.limits.guests table.guests ++ newcomer now table.next talk ∷ [];
  next = min (table.next + 1) (2 ^ 64 - 1);
}

-- there are as many as may be, and nobody is read or written to, so that nobody makes room
pub record IsFull {T F : Type 0} (table : GuestTable T F) : Type 0 where
  pub many : table.limits.guests ≤ length table.guests
  pub none_idle : idle_since table.guests ≡ None

-- one is let in, and the door was asked for it; or it had none; or it was not asked
abbrev pub LetsOneIn : {T F E : Type 0} → Result Came E → ℕ → GuestTable T F → GuestTable T F → Option (DoorLog T) → Option (DoorLog T) → Type 0
LetsOneIn {T} (Ok One) now old new before after = (talk : T) × (AskedFor before after 1 (talk ∷ []) × (new ≡ arrive now old talk))
LetsOneIn (Ok Nobody) now old new before after = AskedFor before after 1 [] × (new ≡ old)
LetsOneIn (Ok NoPlace) now old new before after = AskedFor before after 0 [] × ((new ≡ old) × IsFull old)
LetsOneIn (Err e) now old new before after = AskedFor before after 0 [] × (new ≡ old)

-- these come, one after another
abbrev pub arrive_all : {T F : Type 0} → ℕ → GuestTable T F → List T → GuestTable T F
arrive_all now table [] = table
arrive_all now table (t ∷ ts) = arrive_all now (arrive now table t) ts

-- ---- a turn

module _ {T : Type 0} (remaining written : T → Option (List ℕ)) (calls : T → Option (List TalkCall)) (tells : List ℕ → Bool → Type 0) (most now : ℕ) where
  -- each goes on by one call at most, for itself; one is lost only where it is told that memory was wanting
  abbrev pub OneGoesOn : Bool → Guest T → Guest T → Type 0
  OneGoesOn enough old new = GuestGoesOn remaining written calls tells most now old new ⊎ ((enough ≡ false) × GuestIsLost written calls old new)

  abbrev pub EachGoesOn : Bool → List (Guest T) → List (Guest T) → Type 0
  EachGoesOn enough [] new = new ≡ []
  EachGoesOn enough (g ∷ gs) [] = ⊥
  EachGoesOn enough (g ∷ gs) (n ∷ ns) = OneGoesOn enough g n × EachGoesOn enough gs ns

-- some are let in: as many as come, up to 16, unless there is no place for one more, or memory was wanting
pub record LetsIn {T F : Type 0} (now : ℕ) (enough : Bool) (old new : GuestTable T F) (before after : Option (DoorLog T)) : Type 0 where
  pub talks : List T
  pub asks : ℕ
  pub few : asks ≤ 16
  pub each : length talks ≤ asks
  pub asked : AskedFor before after asks talks
  pub arrived : new ≡ arrive_all now old talks
  pub stops : (asks ≡ 16) ⊎ ((asks ≡ length talks + 1) ⊎ (IsFull new ⊎ (enough ≡ false)))

-- each goes on, those that are over leave, and some are let in
pub record Turns {T F : Type 0} (remaining written : T → Option (List ℕ)) (calls : T → Option (List TalkCall)) (tells : F → List ℕ → Bool → Type 0) (now : ℕ) (enough : Bool)
    (old new : GuestTable T F) (before after : Option (DoorLog T)) : Type 0 where
  pub went : List (Guest T)
  pub on : EachGoesOn remaining written calls (tells old.framing) old.limits.bytes now enough old.guests went
  pub arrivals : LetsIn now enough (record old { guests = filter (λ g. not (is_stage_over g.stage)) went }) new before after

-- ---- requests and answers

-- the request of this guest is taken, and it waits for an answer; where there is none it is as it was
abbrev pub TakesFrom : {T : Type 0} → Guest T → Option GuestRequest → Guest T → Type 0
TakesFrom old None new = (is_stage_asked old.stage ≡ false) × (new ≡ old)
TakesFrom old (Some request) new = (request.id ≡ old.id) × ((old.stage ≡ Asked request.bytes) × (new ≡ record old { stage = Waiting }))

-- the first request that nobody has taken yet is taken, where there is one
abbrev pub TakesAt : {T F : Type 0} → Option ℕ → GuestTable T F → Option GuestRequest → GuestTable T F → Type 0
TakesAt None old request new = (request ≡ None) × (new ≡ old)
TakesAt (Some i) old None new = ⊥
TakesAt {T} (Some i) old (Some request) new = (g : Guest T) × ((n : Guest T) × ((slice_get old.guests i ≡ Some g) × (TakesFrom g (Some request) n × (new ≡ record old { guests = slice_set old.guests i n }))))

abbrev pub TakesRequest : {T F : Type 0} → GuestTable T F → Option GuestRequest → GuestTable T F → Type 0
TakesRequest old request new = TakesAt (position (λ g. is_stage_asked g.stage) old.guests) old request new

-- the first request that nobody has taken yet, where there is one
abbrev pub request_of_guest : {T : Type 0} → Option (Guest T) → Option (List ℕ)
request_of_guest None = None
request_of_guest (Some g) = asked_bytes g.stage

abbrev pub request_asked_at : {T : Type 0} → Option ℕ → List (Guest T) → Option (List ℕ)
request_asked_at None guests = None
request_asked_at (Some i) guests = request_of_guest (slice_get guests i)

abbrev pub first_asked : {T F : Type 0} → GuestTable T F → Option (List ℕ)
first_asked table = request_asked_at (position (λ g. is_stage_asked g.stage) table.guests) table.guests

-- the guest that waits under this number
abbrev pub waits_as : {T : Type 0} → ℕ → Guest T → Bool
waits_as id g = is_waiting g.stage && nat_eq g.id id

-- with its answer, and 10 seconds to read it
abbrev pub guest_answered : {T : Type 0} → ℕ → List ℕ → Guest T → Guest T
guest_answered now answer g = record g { stage = Answering answer; by = by_after now; moved = now; waits = false }

-- the guest at this place becomes another; where there is no place nothing changes
abbrev pub BecomesAt : {T F : Type 0} → Option ℕ → (Guest T → Guest T) → Bool → GuestTable T F → GuestTable T F → Type 0
BecomesAt None change found old new = (found ≡ false) × (new ≡ old)
BecomesAt {T} (Some i) change found old new = (found ≡ true) × ((g : Guest T) × ((slice_get old.guests i ≡ Some g) × (new ≡ record old { guests = slice_set old.guests i (change g) })))

-- the guest is given its answer; where nobody waits under that number nobody is given it
abbrev pub AnswersGuest : {T F : Type 0} → ℕ → ℕ → List ℕ → Bool → GuestTable T F → GuestTable T F → Type 0
AnswersGuest id now answer given old new = BecomesAt (position (waits_as id) old.guests) (guest_answered now answer) given old new

-- the guest of the first request that nobody has taken yet is given its answer
abbrev pub AnswersFirst : {T F : Type 0} → ℕ → List ℕ → Bool → GuestTable T F → GuestTable T F → Type 0
AnswersFirst now answer given old new = BecomesAt (position (λ g. is_stage_asked g.stage) old.guests) (guest_answered now answer) given old new

-- ---- answers that go on

-- with the first of an answer that goes on
abbrev pub following : {T : Type 0} → List ℕ → Guest T → Guest T
following answer g = record g { stage = Following answer; waits = false }

-- the guest is given the first of an answer that goes on; where nobody waits under that number nobody is given it
abbrev pub GuestFollows : {T F : Type 0} → ℕ → List ℕ → Bool → GuestTable T F → GuestTable T F → Type 0
GuestFollows id answer given old new = BecomesAt (position (waits_as id) old.guests) (following answer) given old new

-- the guest whose answer goes on under this number
abbrev pub follows_as : {T : Type 0} → ℕ → Guest T → Bool
follows_as id g = is_following g.stage && nat_eq g.id id

-- the guest is given of these bytes what one call writes; where nobody follows under that number it is said that it has gone
abbrev pub FeedsAt : {T F E : Type 0} → Option ℕ → List ℕ → Result Fed E → GuestTable T F → GuestTable T F → Type 0
FeedsAt None bytes fed old new = (fed ≡ Ok Gone) × (new ≡ old)
FeedsAt {T} (Some i) bytes fed old new = (g : Guest T) × ((n : Guest T) × ((slice_get old.guests i ≡ Some g) × (GuestIsFed bytes fed g n × (new ≡ record old { guests = slice_set old.guests i n }))))

abbrev pub Feeds : {T F E : Type 0} → ℕ → List ℕ → Result Fed E → GuestTable T F → GuestTable T F → Type 0
Feeds id bytes fed old new = FeedsAt (position (follows_as id) old.guests) bytes fed old new
