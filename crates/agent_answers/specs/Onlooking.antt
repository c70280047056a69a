-- Onlooking: what the onlookers of a running agent are sent.
-- Source: this project's own; what answers a question is agent_pages's.
use Rattle.std.specs.Prelude.{◌≡◌, ℕ, List, [], ◌++◌, Bool, true, false, ◌&&◌, ◌||◌, if◌then◌else◌, Option, Some, None, is_some, nat_le}
use Rattle.std.specs.List.{list_any}
use Rattle.agent_standing.specs.Agent.{Agent}
use Rattle.base_clients.specs.{Doors.DoorLog, Guests.can_go_on, declared.talk.TalkCall.TalkCall}
use Rattle.base_clients.specs.Tables.{AnswersFirst, GuestTable, Turns, first_asked, first_by}
use Rattle.base_clock.specs.Rests.{shorter}
use Rattle.agent_pages.specs.{Answers.IsAnswer, Board.board_of, Questions.BytesAsk, declared.answer.OnlookerAnswer.OnlookerAnswer, declared.asked.AskedPage.AskedPage, declared.asked.Question.Question}
use Rattle.agent_pages.specs.{declared.asked.Question.TheVariants.Unread, declared.asked.TheConstants.HEAD_MAX, Naming.Around}
use Rattle.agent_pages.specs.declared.asked.AskedPage.TheVariants.{Open, Whole}
use Rattle.agent_answers.specs.{Resting.rest_before, declared.heads.Heads.Heads, declared.onlookers.Onlookers.Onlookers, declared.rest.Rest.Rest, declared.went.Went.Went}

-- ---- what is asked

abbrev pub is_whole : AskedPage → Bool
is_whole Open = false
is_whole (Whole question) = true

-- all has come that is needed: a head, or what no head can begin with, or too much
abbrev pub TellsHead : List ℕ → Bool → Type 0
TellsHead bytes whole = (asked : AskedPage) × (BytesAsk bytes asked × (whole ≡ is_whole asked))

-- what is answered where no more comes: a front of a head is no head
abbrev pub question_of : AskedPage → Question
question_of Open = Unread
question_of (Whole question) = question

-- ---- what is sent

abbrev pub bytes_of : OnlookerAnswer → List ℕ
bytes_of answer = answer.head ++ answer.body

-- to an onlooker that has sent these bytes: what answers them, from the agent as it is, and what is around it
abbrev pub OnlookerIsSent : Agent → Around → List ℕ → List ℕ → Type 0
OnlookerIsSent agent around bytes sent =
    (asked : AskedPage) × (answer : OnlookerAnswer) × BytesAsk bytes asked × IsAnswer (board_of agent around) (question_of asked) answer × (sent ≡ bytes_of answer)

-- or nothing, where memory was wanting
abbrev pub IsSentIf : Bool → Agent → Around → List ℕ → List ℕ → Type 0
IsSentIf true agent around bytes sent = OnlookerIsSent agent around bytes sent
IsSentIf false agent around bytes sent = sent ≡ []

-- the first of those who have asked is sent its answer, and nobody else is sent anything; where nobody has asked nothing is done
abbrev pub FirstIsSent : {T : Type 0} → Agent → Around → ℕ → Option (List ℕ) → Bool → GuestTable T Heads → GuestTable T Heads → Type 0
FirstIsSent agent around now None enough old new = (enough ≡ true) × (new ≡ old)
FirstIsSent agent around now (Some bytes) enough old new = (sent : List ℕ) × (IsSentIf enough agent around bytes sent × AnswersFirst now sent true old new)

-- unless the rest after the last answer goes on
abbrev pub OneIsSent : {T : Type 0} → Bool → Agent → Around → ℕ → Bool → GuestTable T Heads → GuestTable T Heads → Type 0
OneIsSent true agent around now enough old new = FirstIsSent agent around now (first_asked old) enough old new
OneIsSent false agent around now enough old new = (enough ≡ true) × (new ≡ old)

abbrev pub is_asked : {T : Type 0} → GuestTable T Heads → Bool
is_asked table = is_some (first_asked table)

-- one has asked, and the rest after the last answer is over
abbrev pub is_answered_next : {T D : Type 0} → ℕ → Onlookers T D → Bool
is_answered_next now o = nat_le o.rest.until now && is_asked o.clients

-- when something is due of itself: the first is sent away, or the rest is over after which one is answered
abbrev pub onlookers_due : {T D : Type 0} → Onlookers T D → Option ℕ
onlookers_due o = shorter (if is_asked o.clients then Some o.rest.until else None) (first_by o.clients.guests)

-- an answer that is made now is noted, for the rest after it
abbrev pub rest_with : Bool → ℕ → Rest → Rest
rest_with true now rest = record rest { begun = Some now }
rest_with false now rest = rest

-- ---- a call

-- a door with room for so many onlookers
abbrev pub nobody : {T D : Type 0} → ℕ → D → Onlookers T D
nobody room door = record { clients = record { guests = []; next = 0; limits = record { guests = room; bytes = HEAD_MAX }; framing = record {} }; door = door; rest = record { until = 0; begun = None } }

-- each goes on by one call of its connection at most, some are let in, and then one of those who have asked is sent its answer
pub record OnlookingGoesOn {T D : Type 0} (remaining written : T → Option (List ℕ)) (calls : T → Option (List TalkCall)) (log : D → Option (DoorLog T)) (agent : Agent) (around : Around) (now : ℕ)
    (went : Went) (old new : Onlookers T D) : Type 0 where
  pub turned : GuestTable T Heads
  pub turned_enough : Bool
  pub sent_enough : Bool
  pub turn : Turns remaining written calls (λ heads. TellsHead) now turned_enough old.clients turned (log old.door) (log new.door)
  pub one : OneIsSent (nat_le (rest_before now old.rest).until now) agent around now sent_enough turned new.clients
  pub rest : new.rest ≡ rest_with (nat_le (rest_before now old.rest).until now && is_asked turned) now (rest_before now old.rest)
  pub busy : went.is_busy ≡ (list_any (λ g. can_go_on g) new.clients.guests || is_answered_next now new)
  pub enough : went.is_enough ≡ (turned_enough && sent_enough)
