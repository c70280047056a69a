-- Turns: one round of the loop: the time is handed in, a change is taken, and one wait follows.
-- Source: this project's own.
use Rattle.std.specs.Prelude.{◌≡◌, ℕ, ◌-◌, ◌*◌, ◌/◌, Bool, false, ◌||◌, if◌then◌else◌, List, [], ◌∷◌, Option, Some, None, IfSome, max, min}
use Rattle.base_clock.specs.{Seen.read_call, declared.call.ClockCall.ClockCall, declared.call.ClockCall.TheVariants.Wait, declared.reading.Reading.Reading}
use Rattle.base_device.specs.Moments.{earlier}
use Rattle.vault_lanes.specs.Out.{first_at}
use Rattle.agent_turns.specs.{Held.Held, Held.ServingSide, Stages.LeftOverGoesFirst}
use Rattle.agent_turns.specs.Changes.{MadeChange, OneIsMade, is_one_made}

-- what a turn read, where it could; whether memory sufficed to hand the time in; the change that it took, where one was given;
-- whether a neighbour could go on at once; the moment by which a lane has to be looked at; for how long the neighbours may then be left
-- alone, where that is said; and for how long it then waited, both in milliseconds
pub record ServingTurn : Type 0 where
  pub reading : Option Reading
  pub is_whole : Bool
  pub made : Option MadeChange
  pub is_busy : Bool
  pub due : ℕ
  pub rest : Option ℕ
  pub millis : ℕ

-- nothing is handed in where the clocks could not be read
abbrev pub TurnHears : ℕ → Option Reading → ServingSide → Bool → ServingSide → Type 0
TurnHears port None old is_whole new = (is_whole ≡ false) × (new ≡ old)
TurnHears port (Some r) old is_whole new = LeftOverGoesFirst port r old is_whole new

-- ---- how long it waits

-- with a margin in seconds, the longest wait in milliseconds: a sixteenth of it, but half a minute at most, and a second at least. A wait
-- counts no suspension, so one may go unseen for so long
abbrev pub longest_wait : ℕ → ℕ
longest_wait margin = max 1000 (min 30000 (margin * 1000 / 16))

-- no wait where a change was made, or a neighbour can go on. Else until the Watch's moment, or until a lane has to be looked at, or for as
-- long as the neighbours may be left alone, or the longest wait; a tenth of a second where memory is wanting or no clock is read
abbrev pub wait_at : Held → ℕ → Option ℕ → ℕ → ℕ
wait_at h due rest now = min (earlier (longest_wait h.agent.inventory.forest.margin) rest) (min h.until due - now)

abbrev pub wait_after : Bool → Held → ℕ → Option ℕ → Option Reading → ℕ
wait_after is_whole h due rest None = 100
wait_after is_whole h due rest (Some r) = if is_whole then wait_at h due rest r.elapsed else 100

abbrev pub turn_wait_by : Bool → Bool → Held → ℕ → Option ℕ → Option Reading → ℕ
turn_wait_by is_more is_whole h due rest reading = if is_more then 0 else wait_after is_whole h due rest reading

abbrev pub wait_of : ServingTurn → Held → ℕ
wait_of t h = turn_wait_by (is_one_made t.made || t.is_busy) t.is_whole h t.due t.rest t.reading

-- the moment by which a lane has to be looked at is known of lanes in memory: that at which the first answer is there, or the Watch's moment
abbrev pub IsDue : Option Reading → ℕ → ServingSide → Type 0
IsDue None due s = due ≡ 0
IsDue (Some r) due s = IfSome s.lanes.behind (λ _. due ≡ earlier s.held.until (first_at s.lanes.out))

-- ---- a turn

pub record IsServingTurn (port : ℕ) (old : ServingSide) (t : ServingTurn) (new : ServingSide) : Type 0 where
  pub mid : ServingSide
  pub hears : TurnHears port t.reading old t.is_whole mid
  pub made : OneIsMade t.made mid new
  pub due : IsDue t.reading t.due new
  pub waits : t.millis ≡ wait_of t new.held

-- what is asked of the clock: one reading, and one wait
abbrev pub calls_of_turn : ServingTurn → List ClockCall
calls_of_turn t = read_call t.reading ∷ Wait t.millis ∷ []
