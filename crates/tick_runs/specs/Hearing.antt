-- Hearing: what an event line comes to: what the keeper puts out, whom it asks, and the lines that say so.
-- Source: this project's own.
use Rattle.std.specs.Prelude.{◌≡◌, ℕ, ◌<◌, ◌≤◌, ◌⊎◌, IsTrue, IfSome, true, List, [], ◌∷◌, ◌++◌, Option, Some, None, Result, Ok, Err, codes, decimal, if◌then◌else◌, map, take}
use Rattle.std.specs.declared.alloc.AllocError.{AllocError}
use Rattle.base_device.specs.{Seen.Change, Seen.Receives, Failures.HasFailed}
use Rattle.tick_keeper.specs.declared.event.Event.TheVariants as events
use Rattle.tick_keeper.specs.{declared.event.Output.Output, History.CoreTurn, State.CoreState}
use Rattle.tick_keeper.specs.declared.event.Output.TheVariants as out
use Rattle.tick_keeper.specs.declared.fault.StepFault.TheVariants as steps
use Rattle.vault_exchange.specs.{Exchanges.Behind, Requests.ExchangeAsks, Requests.renewal_request}
use Rattle.vault_inventory.specs.Inventories.{Inventory}
use Rattle.program_report.specs.{declared.stop.Stop.Stop, Sent.IsAll, Sent.IsUntouched}
use Rattle.program_report.specs.declared.stop.Stop.TheVariants as stops
use Rattle.tick_runs.specs.Stops.{both}
use Rattle.tick_runs.specs.Closed.{AreAnswered, Beat, Exchanged, IsBeat, World, asked_by_output, asks_some, closing, shorts_taken}
use Rattle.tick_runs.specs.Text.{answer_text, beat_text, inventory_with, short_need_lines}
use Rattle.program_lines.specs.{declared.event_line.HeardLine.HeardLine, Text.line}
use Rattle.program_lines.specs.declared.event_line.HeardLine.TheVariants.{Tick, Need, Unknown}
use Rattle.vault_http.specs.declared.reply.Reply.{Reply}

-- ---- lines

abbrev pub sleep_line : ℕ → List ℕ
sleep_line t = line (codes "sleep" ∷ decimal t ∷ [])

-- a round closes, and the next wake-up is then, or there is none
abbrev pub next_tick_line : Option ℕ → List ℕ
next_tick_line None = line (codes "next" ∷ codes "none" ∷ [])
next_tick_line (Some t) = line (codes "next" ∷ decimal t ∷ [])

-- the last line of a tick
abbrev pub last_tick_line : Output → List Exchanged → List ℕ
last_tick_line (out.Ask asked) answers = next_tick_line (closing None answers)
last_tick_line (out.Sleep t) answers = sleep_line t
last_tick_line out.Idle answers = line (codes "idle" ∷ [])
last_tick_line output answers = []

-- a tick: the needs that it shortened, who was asked and what they were told, and its last line
abbrev pub tick_text : Inventory → Beat → List ℕ
tick_text s b = beat_text s b ++ last_tick_line b.output b.answers

-- ---- what is heard

-- a tick that is told at t, with its answers, to requests that name this port
abbrev pub TicksLive : ℕ → List (List ℕ) → ℕ → World → World → List ℕ → Type 0
TicksLive port cs t old new text = (b : Beat) × ((b.at ≡ t) × (IsBeat port cs old b new × (text ≡ tick_text (inventory_with cs old.keeper.forest) b)))

-- a tick before the last moment is refused
abbrev pub IsClockBack : ℕ → World → World → List ℕ → Type 0
IsClockBack t old new text = (t < old.keeper.last) × ((new ≡ old) × (text ≡ codes "fault clock-back\n"))

-- the new need is in force
pub record NeedIsInForce (i until : ℕ) (old : World) (new : World) (text : List ℕ) : Type 0 where
  pub keeper : CoreState
  pub turn : CoreTurn old.keeper (events.Need i until) (Ok out.Planned) keeper
  pub is : new ≡ both (shorts_taken keeper) old.behind
  pub text_is : text ≡ short_need_lines keeper.forest keeper.shortened ++ codes "planned\n"

-- what an event line comes to; its requests name this port
abbrev pub EventIsHeard : ℕ → List (List ℕ) → World → HeardLine → World → List ℕ → Type 0
EventIsHeard port cs old (Tick t) new text = IsClockBack t old new text ⊎ TicksLive port cs t old new text
EventIsHeard port cs old (Need i until) new text = NeedIsInForce i until old new text
EventIsHeard port cs old Unknown new text = (new ≡ old) × (text ≡ codes "fault unknown-name\n")

-- between two events: the shortened needs are taken, and no round is open
pub record IsBetweenEvents (keeper : CoreState) : Type 0 where
  pub quiet : keeper.shortened ≡ []
  pub closed : keeper.round ≡ None

-- ---- an event that stops short

-- a tick under way: of those whom it asks some were asked and answered, and the others were not asked
pub record TickIsUnderWay (port : ℕ) (cs : List (List ℕ)) (old : World) (b : Beat) (others : List ℕ) (new : World) : Type 0 where
  pub keeper : CoreState
  pub turn : CoreTurn old.keeper (events.Tick b.at) (Ok b.output) keeper
  pub short : b.short ≡ keeper.shortened
  pub asked : map (λ x. x.entry) b.answers ++ others ≡ asked_by_output b.output
  pub answered : AreAnswered port cs b.at (both (shorts_taken keeper) old.behind) b.answers new

-- what a tick writes before its first request; one that asks nobody writes all of its lines at once
abbrev pub opening_text : Inventory → Beat → List ℕ
opening_text s b = if asks_some b.output then beat_text s b else tick_text s b

-- the lines that a tick under way had told, and those of the write under way: the lines before the first request; those of the
-- last answer so far; or the last line, after the answers of all
abbrev pub IsWriting : Inventory → Beat → List ℕ → List ℕ → List ℕ → Type 0
IsWriting s b others told own =
    ((b.answers ≡ []) × ((told ≡ []) × (own ≡ opening_text s b)))
    ⊎ (((before : List Exchanged) × ((x : Exchanged) × ((b.answers ≡ before ++ x ∷ []) × ((told ≡ beat_text s (record b { answers = before })) × (own ≡ answer_text s x)))))
    ⊎ ((asks_some b.output ≡ true) × ((others ≡ []) × ((told ≡ beat_text s b) × (own ≡ last_tick_line b.output b.answers)))))

-- a tick at t up to a write, and up to some answer, with its lines so far
abbrev pub TicksUpTo : ℕ → List (List ℕ) → ℕ → World → World → List ℕ → List ℕ → Type 0
TicksUpTo port cs t old new told own =
    (b : Beat) × ((others : List ℕ) × ((b.at ≡ t) × (TickIsUnderWay port cs old b others new × IsWriting (inventory_with cs old.keeper.forest) b others told own)))

-- a tick at t that asks somebody, up to some answer, with its lines so far; the others were not asked
abbrev pub TicksSoFar : ℕ → List (List ℕ) → ℕ → World → List ℕ → World → List ℕ → Type 0
TicksSoFar port cs t old others new told =
    (b : Beat) × ((b.at ≡ t) × ((asks_some b.output ≡ true) × (TickIsUnderWay port cs old b others new × (told ≡ beat_text (inventory_with cs old.keeper.forest) b))))

-- an event up to a write: what it had told, and the lines of that write, which are all but for a tick that asks somebody
abbrev pub IsHeardUpTo : ℕ → List (List ℕ) → World → HeardLine → World → List ℕ → List ℕ → Type 0
IsHeardUpTo port cs old (Tick t) new told own = ((told ≡ []) × IsClockBack t old new own) ⊎ TicksUpTo port cs t old new told own
IsHeardUpTo port cs old heard new told own = (told ≡ []) × EventIsHeard port cs old heard new own

-- an event is heard up to a write: after this text what it had told before is written, and no more than a front of the lines of
-- that write
pub record EventIsCutOff (port : ℕ) (cs : List (List ℕ)) (old : World) (heard : HeardLine) (new : World) (text : List ℕ) (out : Change) : Type 0 where
  pub told : List ℕ
  pub own : List ℕ
  pub up_to : IsHeardUpTo port cs old heard new told own
  pub n : ℕ
  pub front : Receives (text ++ (told ++ take n own)) out

-- where memory was wanting, and the table is known: the exchange is as it was, or as asking the first of these at t has left it
abbrev pub IsAskLeft : ℕ → List (List ℕ) → ℕ → World → List ℕ → Option Behind → Type 0
IsAskLeft port cs t old [] new = new ≡ old.behind
IsAskLeft port cs t old (i ∷ others) new =
    (new ≡ old.behind) ⊎ IfSome old.behind (λ b. (came : Result (Option Reply) AllocError) × ExchangeAsks b t (renewal_request port cs old.keeper.forest i) came new)

-- a tick is heard up to some answer: after this text its lines so far are written, and nobody was asked after it, or the next was
pub record IsBrokenOff (port : ℕ) (cs : List (List ℕ)) (old : World) (heard : HeardLine) (new : World) (text : List ℕ) (out : Change) : Type 0 where
  pub t : ℕ
  pub is : heard ≡ Tick t
  pub told : List ℕ
  pub mid : World
  pub others : List ℕ
  pub so_far : TicksSoFar port cs t old others mid told
  pub written : Receives (text ++ told) out
  pub left : IsAskLeft port cs t mid others new.behind

-- whether hearing an event may ask for memory before anybody is asked: a tick that is not before the last moment, and a need
abbrev pub HearingMayWantMemory : CoreState → HeardLine → Type 0
HearingMayWantMemory old (Tick t) = old.last ≤ t
HearingMayWantMemory old (Need i until) = Unit {0}
HearingMayWantMemory old Unknown = ⊥

-- memory was wanting before anybody was asked: nothing is written, and the exchange is as it was
abbrev pub IsWanting : World → HeardLine → World → Change → Type 0
IsWanting old heard new out = HearingMayWantMemory old.keeper heard × ((new.behind ≡ old.behind) × Receives [] out)

-- the plan with a new need would be too long, and nothing is changed
abbrev pub NeedIsOverlong : World → HeardLine → World → Type 0
NeedIsOverlong old (Need i until) new = CoreTurn old.keeper (events.Need i until) (Err steps.TooLong) new.keeper × (new.behind ≡ old.behind)
NeedIsOverlong old heard new = ⊥

-- what hearing an event comes to: its lines were written and flushed; the plan would be too long, and nothing is written; a write
-- failed, and nobody was asked after it; or memory was wanting
abbrev pub HearsTo : ℕ → List (List ℕ) → World → HeardLine → Result (Unit {0}) Stop → World → Change → Type 0
HearsTo port cs old heard (Ok u) new out = (text : List ℕ) × (EventIsHeard port cs old heard new text × IsAll text out)
HearsTo port cs old heard (Err stops.TooLong) new out = NeedIsOverlong old heard new × IsUntouched out
HearsTo port cs old heard (Err stops.Write) new out = HasFailed out.old.failed_calls out.new.failed_calls × EventIsCutOff port cs old heard new [] out
HearsTo port cs old heard (Err stops.Memory) new out =
    IsWanting old heard new out ⊎ (IsBrokenOff port cs old heard new [] out ⊎ (IsTrue out.is_in_memory × EventIsCutOff port cs old heard new [] out))
HearsTo port cs old heard (Err stop) new out = ⊥
