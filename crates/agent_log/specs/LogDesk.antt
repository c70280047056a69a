-- LogDesk: where it is said what happens to an agent: the rooms of its log and of those who follow it, and what was said
-- last of each entry, and of a lack of memory.
-- Source: this project's own; docs/running.md, "What the operator sees".
use Rattle.std.specs.Prelude.{◌≡◌, ◌⊎◌, ◌≤◌, ℕ, Bool, true, false, not, ◌&&◌, List, [], ◌∷◌, Option, length, min, nat_eq, nat_lt, replicate, take}
use Rattle.std.specs.Io.KnownBytes.{Appends}
use Rattle.agent_standing.specs.{Agent.Agent, declared.shorts.Short.Short}
use Rattle.vault_asking.specs.declared.told.Said.{Said}
use Rattle.base_clock.specs.declared.reading.Reading.{Reading}
use Rattle.base_device.specs.declared.tried.Tried.{Tried}
use Rattle.base_log.specs.{Turns.TurnIsMade, declared.level.Level.Level, declared.form.Form.Form}
use Rattle.base_log.specs.Waiting.{Waiting, after_turn, closed_if, giving, with_notice}
use Rattle.watch_machine.specs.{declared.command.WatchRequest.WatchRequest, declared.event.Operation.Operation, declared.notes.Notes.Notes}
use Rattle.agent_log.specs.{LinesOfAnswers.answered_lines, Rooms.Rooms, Rooms.begun_rooms, Sockets.socket_log_line, declared.log_reader.TheConstants.MOST_GIVEN, declared.mark.Mark.Mark, declared.mark.Want.Want}
use Rattle.agent_log.specs.{declared.mark.Want.TheVariants.Over}
use Rattle.agent_log.specs.LinesBehind.{ahead_line, steps_in_lines, with_step, with_steps}
use Rattle.agent_log.specs.LinesOfClocks.{clocked_lines, marks_clocked, memory_line, short_log_lines, trouble_at}
use Rattle.agent_log.specs.Lines.{AreSaid, Line, LineIsSaid, TellsDropped, text_line}
use Rattle.agent_log.specs.Marks.{fresh_mark, mark_at, with_trouble}
use Rattle.agent_words.specs.Moments.{now_of, second_of}

-- how lines are written, where the broker is reached, those that wait, a mark for each entry, and what was said of a lack of memory
pub record Desk : Type 0 where
  pub form : Form
  pub place : List ℕ
  pub room : Rooms
  pub marks : List Mark
  pub want : Want

-- nothing was said yet of so many entries
abbrev pub begun_desk : Form → List ℕ → ℕ → Desk
begun_desk form place count = record { form = form; place = place; room = begun_rooms; marks = replicate count fresh_mark; want = Over }

-- these lines are said of the agent as it is, and these marks are left
pub record SaysLines (a : Agent) (lines : List Line) (marks : List Mark) (old new : Desk) : Type 0 where
  pub said : AreSaid old.form (now_of a.machine) lines old.room new.room
  pub rest : new ≡ record old { room = new.room; marks = marks }

abbrev pub HearsClock : Agent → Notes → List WatchRequest → Desk → Desk → Type 0
HearsClock a notes requests old new = SaysLines a (clocked_lines a notes requests old.marks) (marks_clocked a old.marks) old new

abbrev pub HearsShorts : Agent → List Short → Desk → Desk → Type 0
HearsShorts a shorts old new = SaysLines a (short_log_lines a shorts) old.marks old new

-- an answer is said by what was wrong with its entry when the last one was; what is wrong with it now is the agent's word
abbrev pub HearsAnswer : Agent → ℕ → Operation → Said → Notes → Desk → Desk → Type 0
HearsAnswer a i operation said notes old new = SaysLines a (answered_lines old.place a i operation said notes (mark_at old.marks i).trouble) (with_trouble i (trouble_at a i) old.marks) old new

-- an end that was looked up; after it an entry may be stepped in for anew
abbrev pub HearsAhead : Agent → ℕ → ℕ → Desk → Desk → Type 0
HearsAhead a i end old new = SaysLines a (ahead_line a i end ∷ []) (with_step i false old.marks) old new

abbrev pub HearsSteps : Agent → ℕ → List WatchRequest → Desk → Desk → Type 0
HearsSteps a lead requests old new = SaysLines a (steps_in_lines a lead old.marks requests) (with_steps a.machine lead requests old.marks) old new

abbrev pub HearsRefusal : Agent → Desk → Desk → Type 0
HearsRefusal a old new = SaysLines a (memory_line ∷ []) old.marks old new

abbrev pub HearsWant : Agent → Bool → Desk → Desk → Type 0
HearsWant a true old new = new ≡ old
HearsWant a false old new = HearsRefusal a old new

-- this line alone is said; or it is where something was done
abbrev pub SaysLine : Agent → Line → Desk → Desk → Type 0
SaysLine a l old new = SaysLines a (l ∷ []) old.marks old new

abbrev pub HearsIf : Bool → Agent → Line → Desk → Desk → Type 0
HearsIf true a l old new = SaysLine a l old new
HearsIf false a l old new = new ≡ old

-- a socket cannot be had, for this reason, and what that costs. The agent may have heard no clock yet
pub record HearsNoSocket (now : Reading) (socket why cost : List ℕ) (old new : Desk) : Type 0 where
  pub said : LineIsSaid old.form (second_of now.wall) (socket_log_line socket why cost) old.room new.room
  pub rest : new ≡ record old { room = new.room }

-- something is said of the state folder or the file, in one text
pub record HearsAtStart (now : Reading) (level : Level) (event text : List ℕ) (old new : Desk) : Type 0 where
  pub said : LineIsSaid old.form (second_of now.wall) (text_line level event text) old.room new.room
  pub rest : new ≡ record old { room = new.room }

-- ---- what is given to the log's reader

-- once the reader took something, lines that were dropped are told of where there is room for that, unless memory is wanting for it
abbrev pub MayTell : Form → ℕ → Waiting → Waiting → Type 0
MayTell form moment old new = (new ≡ old) ⊎ ((notice : List ℕ) × (TellsDropped form moment old.untold notice × (new ≡ with_notice notice old)))

-- only where that may be
abbrev pub TellsIf : Bool → Form → ℕ → Waiting → Waiting → Type 0
TellsIf true form moment old new = MayTell form moment old new
TellsIf false form moment old new = new ≡ old

-- in a turn the reader took so many bytes from the front of what waits, and then its sink failed or did not; what it was given before
-- and after, the failures of its sink, and the tries at it: it was tried until it had taken all that it may have in a turn, would have had
-- to wait, or failed, or as often as it may be. Lines that were dropped may be told of where it took something and its sink did not fail
pub record ReaderIsGiven (form : Form) (moment : ℕ) (old new : Waiting) (before after : Option (List ℕ)) (failures_before failures_after : ℕ) (tried_before tried_after : Option (List Tried)) (goes_on : Bool) : Type 0 where
  pub taken : ℕ
  pub failed : Bool
  pub most : taken ≤ min MOST_GIVEN (length old.bytes)
  pub given : Appends before after (take taken old.bytes)
  pub turn : TurnIsMade (min MOST_GIVEN (length old.bytes)) taken failed tried_before tried_after
  pub failures : failures_after ≡ after_turn failed failures_before
  pub room : TellsIf (nat_lt 0 taken && not failed) form moment (closed_if failed (giving taken old)) new
  pub more : goes_on ≡ (nat_eq taken MOST_GIVEN && not failed)
