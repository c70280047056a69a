-- Wants: a lack of memory that costs turns of the loop is said once as long as it goes on, as soon as it can be.
-- Source: this project's own; docs/commands/serve.md, "The log".
use Rattle.std.specs.Prelude.{◌≡◌, ℕ, Bool, true, false, ◌&&◌, ◌==◌, if◌then◌else◌, Option, Some, None, length}
use Rattle.agent_standing.specs.Agent.{Agent}
use Rattle.base_clock.specs.declared.rest.TheConstants.{TRY_AGAIN}
use Rattle.agent_log.specs.{LinesOfClocks.memory_line, LogDesk.Desk, Lines.IsSaid, declared.mark.Want.Want}
use Rattle.agent_log.specs.declared.mark.Want.TheVariants.{Over, Unsaid, Said, Passing}
use Rattle.agent_words.specs.Moments.{now_of}

-- what is left where it was said, and where it could not be
abbrev pub said_or : Bool → Want → Want
said_or true left = left
said_or false left = Unsaid

-- that memory was refused is said; where memory is wanting for that too, nothing is done but that it is left to say
pub record SaysWant (a : Agent) (left : Want) (old new : Desk) : Type 0 where
  pub is_said : Bool
  pub line : IsSaid is_said old.form (now_of a.machine) memory_line old.room new.room
  pub rest : new ≡ record old { room = new.room; want = said_or is_said left }

-- memory was wanting: that is said, unless it was said before and the time was not handed in twice since, with no lack of memory between
abbrev pub HearsWantingBy : Want → Agent → Desk → Desk → Type 0
HearsWantingBy Over a old new = SaysWant a Said old new
HearsWantingBy Unsaid a old new = SaysWant a Said old new
HearsWantingBy Said a old new = new ≡ record old { want = Said }
HearsWantingBy Passing a old new = new ≡ record old { want = Said }

abbrev pub HearsWanting : Agent → Desk → Desk → Type 0
HearsWanting a old new = HearsWantingBy old.want a old new

-- the same of a change, which was made or lacked memory
abbrev pub HearsUnmade : Bool → Agent → Desk → Desk → Type 0
HearsUnmade true a old new = new ≡ old
HearsUnmade false a old new = HearsWanting a old new

-- the time was handed in: what is left to say is said now
abbrev pub HearsTimeBy : Want → Agent → Desk → Desk → Type 0
HearsTimeBy Over a old new = new ≡ old
HearsTimeBy Unsaid a old new = SaysWant a Passing old new
HearsTimeBy Said a old new = new ≡ record old { want = Passing }
HearsTimeBy Passing a old new = new ≡ record old { want = Over }

abbrev pub HearsTime : Agent → Desk → Desk → Type 0
HearsTime a old new = HearsTimeBy old.want a old new

-- ---- for how long the log may be left alone

abbrev pub is_over : Want → Bool
is_over Over = true
is_over Unsaid = false
is_over Said = false
is_over Passing = false

-- as long as may be where no lack of memory goes on and no byte waits
abbrev pub rest_if : Bool → ℕ → Option ℕ
rest_if over waiting = if over && (waiting == 0) then None else Some TRY_AGAIN

abbrev pub log_rest : Desk → Option ℕ
log_rest d = rest_if (is_over d.want) (length d.room.log.bytes)
