-- Stages: the parts of a turn in which the time is handed in, one after another. Where memory is wanting in one, those after it
-- are left out, and what is left over is held until the next turn.
-- Source: this project's own.
use Rattle.std.proofs.Common.{inl, inr}
use Rattle.std.specs.Prelude.{◌≡◌, ◌⊎◌, ℕ, ◌-◌, ◌++◌, Bool, true, false, List, [], ◌∷◌, Option, Some, Ok, IfSome}
use Rattle.agent_standing.specs.{Agent.Agent, Shorts.all_said, Turns.AgentTurn}
use Rattle.vault_asking.specs.{Asking.ask_of, Handing.out_of, Sending.GoOut, Told.event_as, Told.said_to, declared.told.Said.Said}
use Rattle.base_clock.specs.declared.reading.Reading.{Reading}
use Rattle.vault_lanes.specs.{Out.AreThereAt, Out.IsParted, Serving.BrokerIsLeft, declared.lanes.Answered.Answered}
use Rattle.watch_machine.specs.{declared.command.WatchCommand.TheVariants.Go, declared.command.WatchOutput.WatchOutput, declared.command.WatchRequest.WatchRequest, declared.event.WatchEvent.TheVariants.Clock, declared.lanes.Out.Out}
use Rattle.watch_machine.specs.{declared.notes.Notes.Notes, declared.outlook.Next.Next, Clocks.second_of_wall}
use Rattle.agent_turns.specs.{Held.Held, Held.ServingSide, Outlook.IsOutlook}

-- ---- requests go out

-- the first of the requests that were not sent went out in their order, each as it was commanded
pub record HaveGone (port : ℕ) (old new : ServingSide) : Type 0 where
  pub sent : List WatchRequest
  pub parts : old.held.unsent ≡ sent ++ new.held.unsent
  pub out : GoOut port old.held.agent.inventory old.held.agent.machine (second_of_wall old.held.asked.wall) old.held.asked.elapsed sent old.lanes new.lanes
  pub held : new.held ≡ record old.held { unsent = new.held.unsent }

-- memory is wanting for the next, which is not out. A broker in memory may have served it
pub record IsKeptBack (port : ℕ) (old new : ServingSide) : Type 0 where
  pub request : WatchRequest
  pub later : List WatchRequest
  pub first : old.held.unsent ≡ request ∷ later
  pub held : new.held ≡ old.held
  pub out : new.lanes.out ≡ old.lanes.out
  pub seconds : new.lanes.seconds ≡ old.lanes.seconds
  pub left : IfSome old.lanes.behind (λ b. BrokerIsLeft (second_of_wall old.held.asked.wall) (ask_of port old.held.agent.inventory old.held.agent.machine request).request b new.lanes.behind)

-- all of them go out, or memory is wanting for one
abbrev pub SendsRequests : ℕ → ServingSide → Bool → ServingSide → Type 0
SendsRequests port old true new = HaveGone port old new × (new.held.unsent ≡ [])
SendsRequests port old false new = (mid : ServingSide) × (HaveGone port old mid × IsKeptBack port mid new)

-- ---- answers come, and are handed in

-- the answers that are there come off their lanes; none waits before them
pub record HaveCome (now : ℕ) (old new : ServingSide) : Type 0 where
  pub none : old.held.pending ≡ []
  pub parted : IsParted old.lanes.out new.held.pending new.lanes.out
  pub there : IfSome old.lanes.behind (λ _. AreThereAt now old.lanes.out new.held.pending new.lanes.out)
  pub held : new.held ≡ record old.held { pending = new.held.pending }
  pub lanes : new.lanes ≡ record old.lanes { out = new.lanes.out }

abbrev pub AnswersCome : ℕ → ServingSide → Bool → ServingSide → Type 0
AnswersCome now old true new = HaveCome now old new
AnswersCome now old false new = new ≡ old

-- the answer is handed in as the event of the request that is out of its entry
pub record AnswerIsTaken (a : Answered) (old new : Agent) : Type 0 where
  pub request : Out
  pub is_out : out_of old.machine.out a.index ≡ Some request
  pub said : Said
  pub said_is : said ≡ said_to old.inventory request.operation a.index a.answer
  pub output : WatchOutput
  pub turn : AgentTurn old (event_as request.operation a.index said.reply said.terms) (Ok output) new

abbrev pub AnswersAreTaken : List Answered → Agent → Agent → Type 0
AnswersAreTaken [] old new = new ≡ old
AnswersAreTaken (a ∷ rest) old new = (mid : Agent) × (AnswerIsTaken a old mid × AnswersAreTaken rest mid new)

-- the first of the answers that wait were handed in, one after another
pub record HaveTaken (old new : Held) : Type 0 where
  pub taken : List Answered
  pub parts : old.pending ≡ taken ++ new.pending
  pub agent : AnswersAreTaken taken old.agent new.agent
  pub held : new ≡ record old { agent = new.agent; pending = new.pending }

-- all of them are, or memory is wanting for one
abbrev pub TakesAnswers : Held → Bool → Held → Type 0
TakesAnswers old true new = HaveTaken old new × (new.pending ≡ [])
TakesAnswers old false new = HaveTaken old new × (new.pending ≡ [] → ⊥)

-- ---- the time is handed in

-- what is short is said to be, unless memory is wanting for that
abbrev pub ShortsAreSaid : Agent → Agent → Type 0
ShortsAreSaid old new = (new ≡ old) ⊎ (new ≡ all_said old)

-- the readings are handed in; what is commanded is to be sent. The next time is told where nothing is out then, unless memory is wanting
-- for it
pub record TimeIsHandedIn (r : Reading) (old new : Held) : Type 0 where
  pub none : old.unsent ≡ []
  pub until : ℕ
  pub notes : Notes
  pub mid : Agent
  pub turn : AgentTurn old.agent (Clock r.wall r.elapsed) (Ok (record { command = Go new.unsent until; notes = notes })) mid
  pub next : Option (Option Next)
  pub outlook : IfSome next (IsOutlook mid.machine)
  pub said : ShortsAreSaid mid new.agent
  pub held : new ≡ record { agent = new.agent; pending = old.pending; unsent = new.unsent; asked = r; until = until - mid.machine.clocks.phase }

abbrev pub TakesReadings : Reading → Held → Bool → Held → Type 0
TakesReadings r old true new = TimeIsHandedIn r old new
TakesReadings r old false new = new ≡ old

-- ---- one after another

-- a stage of what is held alone
abbrev pub OnHeld : (Held → Bool → Held → Type 0) → ServingSide → Bool → ServingSide → Type 0
OnHeld stage old is_whole new = stage old.held is_whole new.held × (new.lanes ≡ old.lanes)

-- the first stage and then the second; where memory is wanting in the first there is no second
abbrev pub Then : (ServingSide → Bool → ServingSide → Type 0) → (ServingSide → Bool → ServingSide → Type 0) → ServingSide → Bool → ServingSide → Type 0
Then first second old is_whole new = ((mid : ServingSide) × (first old true mid × second mid is_whole new)) ⊎ (first old false new × (is_whole ≡ false))

-- the time is handed in, and what is commanded goes out
abbrev pub Commands : ℕ → Reading → ServingSide → Bool → ServingSide → Type 0
Commands port r = Then (OnHeld (TakesReadings r)) (SendsRequests port)

-- before that the answers that have come are handed in
abbrev pub HandsInAnswers : ℕ → Reading → ServingSide → Bool → ServingSide → Type 0
HandsInAnswers port r = Then (OnHeld TakesAnswers) (Commands port r)

-- and before that they come off their lanes
abbrev pub TakesUp : ℕ → Reading → ServingSide → Bool → ServingSide → Type 0
TakesUp port r = Then (AnswersCome r.elapsed) (HandsInAnswers port r)

-- what is left over from the turn before goes first: requests go out, and then answers are handed in
abbrev pub LeftOverGoesFirst : ℕ → Reading → ServingSide → Bool → ServingSide → Type 0
LeftOverGoesFirst port r = Then (SendsRequests port) (Then (OnHeld TakesAnswers) (TakesUp port r))

-- ---- what is listed of them

-- of each way in which a stage goes, a list
abbrev pub Listed : Type 0 → (ServingSide → Bool → ServingSide → Type 0) → Type 0
Listed X stage = (old : ServingSide) (is_whole : Bool) (new : ServingSide) → stage old is_whole new → List X

abbrev pub nothing : {X : Type 0} → (stage : ServingSide → Bool → ServingSide → Type 0) → Listed X stage
nothing stage old is_whole new h = []

abbrev pub one_and_then : {X : Type 0} → (first second : ServingSide → Bool → ServingSide → Type 0) → Listed X first → Listed X second → Listed X (Then first second)
one_and_then first second one more old is_whole new (inl h) = one old true h.0 h.1.0 ++ more h.0 is_whole new h.1.1
one_and_then first second one more old is_whole new (inr h) = one old false new h.0

-- where it is of answers that are handed in and of readings alone
module _ {X : Type 0} (port : ℕ) (r : Reading) (answers : Listed X (OnHeld TakesAnswers)) (time : Listed X (OnHeld (TakesReadings r))) where
  abbrev pub of_commands : Listed X (Commands port r)
  of_commands = one_and_then (OnHeld (TakesReadings r)) (SendsRequests port) time (nothing (SendsRequests port))

  abbrev pub of_answers : Listed X (HandsInAnswers port r)
  of_answers = one_and_then (OnHeld TakesAnswers) (Commands port r) answers of_commands

  abbrev pub of_coming : Listed X (TakesUp port r)
  of_coming = one_and_then (AnswersCome r.elapsed) (HandsInAnswers port r) (nothing (AnswersCome r.elapsed)) of_answers

  abbrev pub of_left : Listed X (Then (OnHeld TakesAnswers) (TakesUp port r))
  of_left = one_and_then (OnHeld TakesAnswers) (TakesUp port r) answers of_coming

  abbrev pub of_stages : Listed X (LeftOverGoesFirst port r)
  of_stages = one_and_then (SendsRequests port) (Then (OnHeld TakesAnswers) (TakesUp port r)) (nothing (SendsRequests port)) of_left
