-- Words: all that a turn hears by which it decides what to do. Of the log, of onlookers, of what clients read and of the disk there is
-- nothing among it, nor of the lanes, but for the answers that come off them.
-- Source: this project's own.
use Rattle.std.specs.Prelude.{◌≡◌, ℕ, ◌-◌, ◌++◌, Bool, true, false, List, [], ◌∷◌, Option, Some, None, Ok}
use Rattle.agent_standing.specs.{Agent.Agent, Shorts.all_said, Turns.AgentTurn}
use Rattle.vault_asking.specs.Sending.{Lanes}
use Rattle.base_clock.specs.declared.reading.Reading.{Reading}
use Rattle.vault_lanes.specs.declared.lanes.Answered.{Answered}
use Rattle.watch_machine.specs.{declared.command.WatchCommand.TheVariants.Go, declared.command.WatchRequest.WatchRequest, declared.event.WatchEvent.TheVariants.Clock, declared.notes.Notes.Notes}
use Rattle.agent_turns.specs.{Changes.MadeChange, Changes.OneIsMade, Held.Held, Held.serving_side, Stages.AnswersAreTaken, Turns.ServingTurn}

-- the readings, where the clocks could be read; the answers that came off their lanes; whether memory sufficed to say what is short;
-- and the change that was taken, where one was given
pub record Words : Type 0 where
  pub reading : Option Reading
  pub came : List Answered
  pub is_said : Bool
  pub made : Option MadeChange

abbrev pub SaysBy : Bool → Agent → Agent → Type 0
SaysBy true old new = new ≡ all_said old
SaysBy false old new = new ≡ old

-- the answers that were left over and those that came are handed in, and then the readings; what goes out is what was left over and
-- then what is commanded
pub record WordsHandIn (r : Reading) (came : List Answered) (is_said : Bool) (old : Held) (sent : List WatchRequest) (new : Held) : Type 0 where
  pub told : Agent
  pub taken : AnswersAreTaken (old.pending ++ came) old.agent told
  pub commanded : List WatchRequest
  pub until : ℕ
  pub notes : Notes
  pub mid : Agent
  pub turn : AgentTurn told (Clock r.wall r.elapsed) (Ok (record { command = Go commanded until; notes = notes })) mid
  pub said : SaysBy is_said mid new.agent
  pub sent_is : sent ≡ old.unsent ++ commanded
  pub held : new ≡ record { agent = new.agent; pending = []; unsent = []; asked = r; until = until - mid.machine.clocks.phase }

abbrev pub HandsBy : Option Reading → List Answered → Bool → Held → List WatchRequest → Held → Type 0
HandsBy None came is_said old sent new = (sent ≡ []) × (new ≡ old)
HandsBy (Some r) came is_said old sent new = WordsHandIn r came is_said old sent new

-- what goes out in a turn of these words, and what is held after it, whatever is on the lanes
pub record TurnFollowsWords (w : Words) (old : Held) (sent : List WatchRequest) (new : Held) : Type 0 where
  pub mid : Held
  pub hands : HandsBy w.reading w.came w.is_said old sent mid
  pub before : Lanes
  pub after : Lanes
  pub made : OneIsMade w.made (serving_side mid before) (serving_side new after)

-- and in turns one after another
abbrev pub AllFollow : List Words → Held → List (List WatchRequest) → Held → Type 0
AllFollow [] old sent new = (sent ≡ []) × (new ≡ old)
AllFollow (w ∷ rest) old [] new = ⊥
AllFollow (w ∷ rest) old (s ∷ later) new = (mid : Held) × (TurnFollowsWords w old s mid × AllFollow rest mid later new)

-- words that a turn heard: its readings and its change
pub record AreWordsOf (t : ServingTurn) (w : Words) : Type 0 where
  pub reading : w.reading ≡ t.reading
  pub made : w.made ≡ t.made

abbrev pub AllAreWordsOf : List ServingTurn → List Words → Type 0
AllAreWordsOf [] [] = Unit {0}
AllAreWordsOf [] (w ∷ ws) = ⊥
AllAreWordsOf (t ∷ ts) [] = ⊥
AllAreWordsOf (t ∷ ts) (w ∷ ws) = AreWordsOf t w × AllAreWordsOf ts ws

-- memory sufficed for a turn, or the clocks could not be read in it
abbrev pub SufficesBy : Option Reading → Bool → Type 0
SufficesBy None is_whole = Unit {0}
SufficesBy (Some r) is_whole = is_whole ≡ true

abbrev pub Suffices : ServingTurn → Type 0
Suffices t = SufficesBy t.reading t.is_whole
