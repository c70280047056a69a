-- Controlling: what the clients of an agent's control socket are answered, and what they ask to be done.
-- Source: this project's own.
use Rattle.std.specs.Prelude.{◌≡◌, ◌⊎◌, ◌/◌, ℕ, List, [], ◌∷◌, ◌++◌, Bool, true, false, ◌&&◌, ◌||◌, Option, Some, None, is_none, is_some, Result, Ok, Err, codes, if◌then◌else◌}
use Rattle.std.specs.List.{list_any}
use Rattle.agent_standing.specs.Agent.{Agent}
use Rattle.base_clients.specs.{Doors.DoorLog, Guests.can_go_on, declared.clients.GuestRequest.GuestRequest, declared.talk.TalkCall.TalkCall}
use Rattle.base_clients.specs.Tables.{AnswersFirst, AnswersGuest, GuestFollows, GuestTable, TakesRequest, Turns, first_asked}
use Rattle.base_clock.specs.declared.reading.Reading.{Reading}
use Rattle.agent_control.specs.declared.limits.TheConstants.{LINE_MAX}
use Rattle.agent_pages.specs.{Answers.IsTold, Board.board_of, declared.asked.Page.Page, Naming.Around}
use Rattle.agent_answers.specs.{declared.asked.ClientOrder.ClientOrder, declared.control.Control.Control, declared.lines.RequestLines.RequestLines, declared.wanted.Wanted.Wanted, declared.wanted.ClientRefusal.ClientRefusal}
use Rattle.agent_answers.specs.{declared.went.Went.Went}
use Rattle.agent_answers.specs.Wanting.{ClientWants, TellsRequestLine, refusal_text}
use Rattle.agent_answers.specs.declared.wanted.Wanted.TheVariants as wanted

-- ---- what is answered

-- `ok`, and what a client is told
abbrev pub IsShownText : Agent → Around → Page → List ℕ → Type 0
IsShownText agent around page text = (told : List ℕ) × IsTold (board_of agent around) page told × (text ≡ codes "ok\n" ++ told)

unfoldable pub refused_text : ClientRefusal → List ℕ
refused_text why = codes "error: " ++ refusal_text why ++ 10 ∷ []

-- or nothing, where memory was wanting
abbrev pub TextIf : Bool → List ℕ → List ℕ → Type 0
TextIf true text sent = sent ≡ text
TextIf false text sent = sent ≡ []

abbrev pub ShownIf : Bool → Agent → Around → Page → List ℕ → Type 0
ShownIf true agent around page sent = IsShownText agent around page sent
ShownIf false agent around page sent = sent ≡ []

-- the first of those whose line has ended is answered; one that asks for something to be done is left there
abbrev pub RepliesTo : {T : Type 0} → Agent → Around → Reading → Wanted → Bool → GuestTable T RequestLines → GuestTable T RequestLines → Type 0
RepliesTo agent around now (wanted.Do asked) enough old new = (enough ≡ true) × (new ≡ old)
RepliesTo agent around now (wanted.Show page) enough old new = (sent : List ℕ) × (ShownIf enough agent around page sent × AnswersFirst now.elapsed sent true old new)
RepliesTo agent around now (wanted.Refused why) enough old new = (sent : List ℕ) × (TextIf enough (refused_text why) sent × AnswersFirst now.elapsed sent true old new)

-- where memory was wanting to read what it has sent, nothing is sent
abbrev pub IsUnheard : {T : Type 0} → Reading → Bool → GuestTable T RequestLines → GuestTable T RequestLines → Type 0
IsUnheard now enough old new = (enough ≡ false) × AnswersFirst now.elapsed [] true old new

abbrev pub FirstIsReplied : {T : Type 0} → Agent → Around → Reading → Option (List ℕ) → Bool → GuestTable T RequestLines → GuestTable T RequestLines → Type 0
FirstIsReplied agent around now None enough old new = (enough ≡ true) × (new ≡ old)
FirstIsReplied agent around now (Some bytes) enough old new =
    ((it : Wanted) × (ClientWants (now.wall / 1000) bytes it × RepliesTo agent around now it enough old new)) ⊎ IsUnheard now enough old new

abbrev pub OneIsReplied : {T : Type 0} → Agent → Around → Reading → Bool → GuestTable T RequestLines → GuestTable T RequestLines → Type 0
OneIsReplied agent around now enough old new = FirstIsReplied agent around now (first_asked old) enough old new

-- ---- a call

-- a door with room for so many clients
abbrev pub nobody_asks : {T D : Type 0} → ℕ → D → Control T D
nobody_asks room door = record { clients = record { guests = []; next = 0; limits = record { guests = room; bytes = LINE_MAX }; framing = record {} }; door = door; asking = None }

-- a request is there that may be taken: so the next turn is to come at once, which writes its answer
abbrev pub can_be_asked : {T D : Type 0} → Control T D → Bool
can_be_asked control = is_none control.asking && is_some (first_asked control.clients)

-- each goes on by one call of its connection at most, some are let in, and then one of those who have asked is answered
pub record ControlGoesOn {T D : Type 0} (remaining written : T → Option (List ℕ)) (calls : T → Option (List TalkCall)) (log : D → Option (DoorLog T)) (agent : Agent) (around : Around)
    (now : Reading) (went : Went) (old new : Control T D) : Type 0 where
  pub turned : GuestTable T RequestLines
  pub turned_enough : Bool
  pub sent_enough : Bool
  pub turn : Turns remaining written calls (λ lines. TellsRequestLine) now.elapsed turned_enough old.clients turned (log old.door) (log new.door)
  pub one : OneIsReplied agent around now sent_enough turned new.clients
  pub asking : new.asking ≡ old.asking
  pub busy : went.is_busy ≡ (list_any (λ g. can_go_on g) new.clients.guests || can_be_asked new)
  pub enough : went.is_enough ≡ (turned_enough && sent_enough)

-- ---- what is to be done

-- the request of the first of those whose line has ended is taken, which asks for this; its client waits for an answer
pub record TakesAsked {T D : Type 0} (now : Reading) (asked : ClientOrder) (old new : Control T D) : Type 0 where
  pub request : GuestRequest
  pub wants : ClientWants (now.wall / 1000) request.bytes (wanted.Do asked)
  pub taken : TakesRequest old.clients (Some request) new.clients
  pub rest : new ≡ record old { clients = new.clients; asking = Some request.id }

abbrev pub IsNotDone : Wanted → Type 0
IsNotDone (wanted.Do asked) = ⊥
IsNotDone (wanted.Show page) = Unit {0}
IsNotDone (wanted.Refused why) = Unit {0}

-- nobody has asked, or the first of those who have wants nothing to be done
abbrev pub NothingIsAsked : Reading → Option (List ℕ) → Type 0
NothingIsAsked now None = Unit {0}
NothingIsAsked now (Some bytes) = (it : Wanted) × (ClientWants (now.wall / 1000) bytes it × IsNotDone it)

-- one at a time: nothing is taken before the last one is answered
abbrev pub NoneIsDue : Reading → Option ℕ → Option (List ℕ) → Type 0
NoneIsDue now None first = NothingIsAsked now first
NoneIsDue now (Some id) first = Unit {0}

-- an error says that memory was wanting
abbrev pub GivesAsked : {T D E : Type 0} → Reading → Control T D → Result (Option ClientOrder) E → Control T D → Type 0
GivesAsked now old (Ok None) new = (new ≡ old) × NoneIsDue now old.asking (first_asked old.clients)
GivesAsked now old (Ok (Some asked)) new = (old.asking ≡ None) × TakesAsked now asked old new
GivesAsked now old (Err e) new = new ≡ old

-- the client whose request was taken last is sent this, and nobody else; where none was taken nothing is done
abbrev pub AnswersAsking : {T D : Type 0} → Option ℕ → List ℕ → ℕ → Control T D → Control T D → Type 0
AnswersAsking None answer now old new = new ≡ old
AnswersAsking (Some id) answer now old new =
    (given : Bool) × (AnswersGuest id now answer given old.clients new.clients × (new ≡ record old { clients = new.clients; asking = None }))

abbrev pub AnswersAsked : {T D : Type 0} → List ℕ → ℕ → Control T D → Control T D → Type 0
AnswersAsked answer now old new = AnswersAsking old.asking answer now old new

-- the client that was set aside under this number is sent this, and nobody else; where it has gone nobody is
abbrev pub AnswersAside : {T D : Type 0} → ℕ → List ℕ → ℕ → Control T D → Control T D → Type 0
AnswersAside number answer now old new = (given : Bool) × (AnswersGuest number now answer given old.clients new.clients × (new ≡ record old { clients = new.clients }))

-- the client whose request was taken last is sent this, and its answer goes on under its number; where none was taken nothing is done
abbrev pub FollowsAsking : {T D : Type 0} → Option ℕ → List ℕ → Option ℕ → Control T D → Control T D → Type 0
FollowsAsking None answer number old new = (number ≡ None) × (new ≡ old)
FollowsAsking (Some id) answer number old new =
    (given : Bool) × (GuestFollows id answer given old.clients new.clients × ((number ≡ (if given then Some id else None)) × (new ≡ record old { clients = new.clients; asking = None })))

abbrev pub FollowsAsked : {T D : Type 0} → List ℕ → Option ℕ → Control T D → Control T D → Type 0
FollowsAsked answer number old new = FollowsAsking old.asking answer number old new
