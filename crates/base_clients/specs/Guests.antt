-- One guest: how far it has come, and what it becomes by one call of its connection.
-- Source: this project's own.
use Rattle.std.specs.Prelude.{◌≡◌, ◌≢◌, ℕ, zero, suc, ◌+◌, ◌-◌, ◌^◌, ◌<◌, ◌≤◌, min, nat_lt, List, [], ◌∷◌, ◌++◌, length, take, drop, Bool, true, false, not, ◌&&◌, ◌||◌, Option, Some, None, Result, Ok, Err, if◌then◌else◌}
use Rattle.std.specs.Io.KnownBytes.{Appends, Consumes, IsAtEnd, Keeps}
use Rattle.base_device.specs.{Tries.MatchTried, declared.tried.Tried.Tried}
use Rattle.base_device.specs.declared.tried.Tried.TheVariants.{Done, Waits, Failed}
use Rattle.base_clients.specs.{Calls.Logs, declared.fed.Fed.Fed, declared.guest.Guest.Guest, declared.stage.GuestStage.GuestStage, declared.talk.TalkCall.TalkCall}
use Rattle.base_clients.specs.declared.fed.Fed.TheVariants.{Gone, Full, Taken}
use Rattle.base_clients.specs.declared.stage.GuestStage.TheVariants.{Reading, Asked, Waiting, Answering, Following, Over}
use Rattle.base_clients.specs.declared.talk.TalkCall.TheVariants.{Gave, Got}

abbrev pub is_stage_over : GuestStage → Bool
is_stage_over (Reading bytes) = false
is_stage_over (Asked bytes) = false
is_stage_over Waiting = false
is_stage_over (Answering left) = false
is_stage_over (Following left) = false
is_stage_over Over = true

abbrev pub is_stage_asked : GuestStage → Bool
is_stage_asked (Reading bytes) = false
is_stage_asked (Asked bytes) = true
is_stage_asked Waiting = false
is_stage_asked (Answering left) = false
is_stage_asked (Following left) = false
is_stage_asked Over = false

-- its request, where nobody has taken it yet
abbrev pub asked_bytes : GuestStage → Option (List ℕ)
asked_bytes (Reading bytes) = None
asked_bytes (Asked bytes) = Some bytes
asked_bytes Waiting = None
asked_bytes (Answering left) = None
asked_bytes (Following left) = None
asked_bytes Over = None

abbrev pub is_waiting : GuestStage → Bool
is_waiting (Reading bytes) = false
is_waiting (Asked bytes) = false
is_waiting Waiting = true
is_waiting (Answering left) = false
is_waiting (Following left) = false
is_waiting Over = false

-- it has to be read or written by a moment
abbrev pub is_stage_busy : GuestStage → Bool
is_stage_busy (Reading bytes) = true
is_stage_busy (Asked bytes) = false
is_stage_busy Waiting = false
is_stage_busy (Answering left) = true
is_stage_busy (Following left) = false
is_stage_busy Over = false

-- its answer goes on
abbrev pub is_following : GuestStage → Bool
is_following (Reading bytes) = false
is_following (Asked bytes) = false
is_following Waiting = false
is_following (Answering left) = false
is_following (Following left) = true
is_following Over = false

-- it has to be read and written in time; what is done by others is not on its account, and an answer that goes on has all the time
abbrev pub in_time : ℕ → ℕ → GuestStage → GuestStage
in_time now by (Reading bytes) = if nat_lt now by then Reading bytes else Over
in_time now by (Asked bytes) = Asked bytes
in_time now by Waiting = Waiting
in_time now by (Answering left) = if nat_lt now by then Answering left else Over
in_time now by (Following left) = Following left
in_time now by Over = Over

-- how many bytes a try has moved
abbrev pub count : Tried → ℕ
count (Done n) = n
count Waits = 0
count Failed = 0

-- with these bytes so far, by a read: a request is handed on once it is whole, or longer than may be, or no more comes
abbrev pub read_to : Tried → Bool → ℕ → List ℕ → GuestStage
read_to (Done zero) whole most bytes = Asked bytes
read_to (Done (suc n)) whole most bytes = if whole || nat_lt most (length bytes) then Asked bytes else Reading bytes
read_to Waits whole most bytes = Reading bytes
read_to Failed whole most bytes = Over

-- with this left, by a write
abbrev pub answering_rest : List ℕ → GuestStage
answering_rest [] = Over
answering_rest (b ∷ bs) = Answering (b ∷ bs)

abbrev pub written_to : Tried → List ℕ → GuestStage
written_to (Done n) left = answering_rest left
written_to Waits left = answering_rest left
written_to Failed left = Over

-- with this left of what it was given so far, by a write; more may be given
abbrev pub told_to : Tried → List ℕ → GuestStage
told_to (Done n) left = Following left
told_to Waits left = Following left
told_to Failed left = Over

-- by a read, where all that it was given is written: one that sends more, or has gone, is sent away
abbrev pub heard_to : Tried → List ℕ → GuestStage
heard_to (Done n) left = Over
heard_to Waits left = Following left
heard_to Failed left = Over

-- the moment of the last progress
abbrev pub moved_by : Tried → ℕ → ℕ → ℕ
moved_by (Done zero) now moved = moved
moved_by (Done (suc n)) now moved = now
moved_by Waits now moved = moved
moved_by Failed now moved = moved

-- it came to nothing but that it would have to wait
abbrev pub has_waited : Tried → Bool
has_waited (Done n) = false
has_waited Waits = true
has_waited Failed = false

-- one that has just come has 10 seconds for its request
abbrev pub by_after : ℕ → ℕ
by_after now = min (now + 10000) (2 ^ 64 - 1)

abbrev pub newcomer : {T : Type 0} → ℕ → ℕ → T → Guest T
newcomer now id talk = record { id = id; talk = talk; stage = Reading []; by = by_after now; moved = now; waits = false }

-- one call more may come to something, although nobody told of it: the last one did, or there was none yet
abbrev pub can_go_on : {T : Type 0} → Guest T → Bool
can_go_on g = (is_stage_busy g.stage || is_following g.stage) && not g.waits

module _ {T : Type 0} (remaining written : T → Option (List ℕ)) (calls : T → Option (List TalkCall)) where
  -- it is read once: all that comes is kept, and handed on where it is told whole
  pub record IsReadOn (tells : List ℕ → Bool → Type 0) (most now : ℕ) (bytes : List ℕ) (old new : Guest T) : Type 0 where
    pub tried : Tried
    pub came : List ℕ
    pub whole : Bool
    pub logged : Logs (calls old.talk) (calls new.talk) (Got tried)
    pub silent : Keeps (written old.talk) (written new.talk)
    pub counted : length came ≡ count tried
    pub few : length came ≤ 4096
    pub consumed : MatchTried tried (λ n. Consumes (remaining old.talk) (remaining new.talk) came × (n ≡ 0 → IsAtEnd (remaining new.talk))) (Keeps (remaining old.talk) (remaining new.talk))
    pub told : 0 < length came → tells (bytes ++ came) whole
    pub same : new ≡ record old { talk = new.talk; stage = in_time now old.by (read_to tried whole most (bytes ++ came)); moved = moved_by tried now old.moved; waits = has_waited tried }

  -- it is written to once: the front of what is left of its answer, and nothing else
  pub record GuestIsWrittenTo (now : ℕ) (tried : Tried) (stage : GuestStage) (left : List ℕ) (old new : Guest T) : Type 0 where
    pub logged : Logs (calls old.talk) (calls new.talk) (Gave tried)
    pub unread : Keeps (remaining old.talk) (remaining new.talk)
    pub few : count tried ≤ 4096
    pub appended : Appends (written old.talk) (written new.talk) (take (count tried) left)
    pub same : new ≡ record old { talk = new.talk; stage = stage; moved = moved_by tried now old.moved; waits = has_waited tried }

  abbrev pub IsWrittenOn : ℕ → List ℕ → Guest T → Guest T → Type 0
  IsWrittenOn now left old new = (tried : Tried) × GuestIsWrittenTo now tried (in_time now old.by (written_to tried (drop (count tried) left))) left old new

  -- it is read once, to see whether it has gone: nothing of that is kept
  pub record IsListenedTo (old new : Guest T) : Type 0 where
    pub tried : Tried
    pub logged : Logs (calls old.talk) (calls new.talk) (Got tried)
    pub silent : Keeps (written old.talk) (written new.talk)
    pub same : new ≡ record old { talk = new.talk; stage = heard_to tried []; waits = has_waited tried }

  -- its answer goes on: it is written to as long as anything is left of what it was given, and else it is read
  abbrev pub IsToldOn : ℕ → List ℕ → Guest T → Guest T → Type 0
  IsToldOn now [] old new = IsListenedTo old new
  IsToldOn now (b ∷ bs) old new = (tried : Tried) × GuestIsWrittenTo now tried (told_to tried (drop (count tried) (b ∷ bs))) (b ∷ bs) old new

  -- it goes on by one call at most
  abbrev pub GoesOnFrom : (List ℕ → Bool → Type 0) → ℕ → ℕ → GuestStage → Guest T → Guest T → Type 0
  GoesOnFrom tells most now (Reading bytes) old new = IsReadOn tells most now bytes old new
  GoesOnFrom tells most now (Asked bytes) old new = new ≡ old
  GoesOnFrom tells most now Waiting old new = new ≡ old
  GoesOnFrom tells most now (Answering left) old new = IsWrittenOn now left old new
  GoesOnFrom tells most now (Following left) old new = IsToldOn now left old new
  GoesOnFrom tells most now Over old new = new ≡ old

  abbrev pub GuestGoesOn : (List ℕ → Bool → Type 0) → ℕ → ℕ → Guest T → Guest T → Type 0
  GuestGoesOn tells most now old new = GoesOnFrom tells most now old.stage old new

-- it is lost for lack of memory, after one read by which something came: it was told nothing
pub record GuestIsLost {T : Type 0} (written : T → Option (List ℕ)) (calls : T → Option (List TalkCall)) (old new : Guest T) : Type 0 where
  pub tried : Tried
  pub some : 0 < count tried
  pub logged : Logs (calls old.talk) (calls new.talk) (Got tried)
  pub silent : Keeps (written old.talk) (written new.talk)
  pub over : new.stage ≡ Over

-- ---- what a guest is given whose answer goes on

-- nothing where something is left, and else what one call writes; where memory was wanting for that, nothing
abbrev pub AddsFront : {E : Type 0} → List ℕ → Result Fed E → List ℕ → List ℕ → Type 0
AddsFront bytes (Ok Gone) old new = ⊥
AddsFront bytes (Ok Full) old new = (old ≢ []) × (new ≡ old)
AddsFront bytes (Ok (Taken n)) old new = (old ≡ []) × ((new ≡ take 4096 bytes) × (n ≡ length new))
AddsFront bytes (Err e) old new = (old ≡ []) × (new ≡ old)

-- where this is left of what it was given
abbrev pub FeedsOn : {T E : Type 0} → List ℕ → List ℕ → Result Fed E → Guest T → Guest T → Type 0
FeedsOn bytes left fed old new = (now : List ℕ) × (AddsFront bytes fed left now × (new ≡ record old { stage = Following now }))

-- the guest is given of these bytes what one call writes, where all that it was given is written
abbrev pub IsFedFrom : {T E : Type 0} → GuestStage → List ℕ → Result Fed E → Guest T → Guest T → Type 0
IsFedFrom (Reading bytes) piece fed old new = (fed ≡ Ok Gone) × (new ≡ old)
IsFedFrom (Asked bytes) piece fed old new = (fed ≡ Ok Gone) × (new ≡ old)
IsFedFrom Waiting piece fed old new = (fed ≡ Ok Gone) × (new ≡ old)
IsFedFrom (Answering left) piece fed old new = (fed ≡ Ok Gone) × (new ≡ old)
IsFedFrom (Following left) piece fed old new = FeedsOn piece left fed old new
IsFedFrom Over piece fed old new = (fed ≡ Ok Gone) × (new ≡ old)

abbrev pub GuestIsFed : {T E : Type 0} → List ℕ → Result Fed E → Guest T → Guest T → Type 0
GuestIsFed piece fed old new = IsFedFrom old.stage piece fed old new
