-- Stops: a run as the loop of the program knows it, and the runs that come to no end: what is written of them.
-- Source: this project's own.
use Rattle.std.specs.Prelude.{◌≡◌, ℕ, ◌≤◌, List, [], ◌∷◌, ◌++◌, Option, Some, None, Result, Ok, Err, length, map}
use Rattle.std.specs.List.{flat_map}
use Rattle.vault_inventory.specs.Inventories.{Inventory}
use Rattle.broker_rule.specs.declared.fault.NumberedFault.{NumberedFault}
use Rattle.vault_exchange.specs.Exchanges.{Behind}
use Rattle.base_moment.specs.declared.moment.TheConstants.{LAST}
use Rattle.tick_keeper.specs.{declared.event.Event.Event, declared.event.Event.TheVariants.Tick, declared.event.Output.Output, declared.fault.StepFault.StepFault, declared.fault.StepFault.TheVariants.OutOfMemory}
use Rattle.tick_keeper.specs.{declared.shortened.ShortNeed.ShortNeed, History.CoreTurn, Refusal.TellsSpan, State.CoreState}
use Rattle.tick_keeper.specs.declared.event.Output.TheVariants as out
use Rattle.tick_runs.specs.{declared.rehearse.playing.TheConstants.MOST_WAKES, Replies.IsAnswerOf}
use Rattle.tick_runs.specs.Closed.{AreAnswered, Beat, Exchanged, IsBeat, IsClosedRun, IsRunOpening, Played, RequestIsAnswered, RunCourse, World, closing, next_tick, request_count, rounds, shorts_taken, told_next}
use Rattle.tick_runs.specs.Text.{beat_text, course_text, done_text, short_need_lines}

-- ---- what the loops keep

-- the outer loop: the ticks so far, where they led and when the next is; how many wake-ups and requests they were, and their text
pub record SoFar (inventory : Inventory) (faults : List NumberedFault) (start : ℕ) (final : World) (next : Option ℕ) (wakes asked : ℕ) (text : List ℕ) : Type 0 where
  pub short : List ShortNeed
  pub opening : World
  pub opened : IsRunOpening inventory faults start short opening
  pub beats : List Beat
  pub played : Played 8200 inventory.credentials opening (Some start) beats final next
  pub wakes_are : wakes ≡ length (rounds beats)
  pub asked_are : asked ≡ request_count beats
  pub text_is : text ≡ short_need_lines inventory.forest short ++ flat_map (beat_text inventory) beats

-- ---- runs without an end: exit 5

-- a wake-up is due: after ticks that ask nobody, the first of them, if any, at t, there is one that asks
pub record WakeUpIsDue (cs : List (List ℕ)) (old : World) (t : ℕ) : Type 0 where
  pub beats : List Beat
  pub mid : World
  pub at : ℕ
  pub played : Played 8200 cs old (Some t) beats mid (Some at)
  pub none_asked : rounds beats ≡ []
  pub asked : List ℕ
  pub keeper : CoreState
  pub turn : CoreTurn mid.keeper (Tick at) (Ok (out.Ask asked)) keeper

-- a run that has made 100,000 wake-ups, of which another is due, and its text
pub record RunIsStopped (inventory : Inventory) (faults : List NumberedFault) (start : ℕ) (final : World) (text : List ℕ) : Type 0 where
  pub due : ℕ
  pub asked : ℕ
  pub so_far : SoFar inventory faults start final (Some due) MOST_WAKES asked text
  pub more : WakeUpIsDue inventory.credentials final due

-- ---- laws of the loops

-- a tick more
abbrev pub TickMoreLaw : Type 0
TickMoreLaw =
    (port : ℕ) (cs : List (List ℕ)) (old mid new : World) (due : Option ℕ) (bs : List Beat) (b : Beat) → Played port cs old due bs mid (Some b.at) → IsBeat port cs mid b new →
    Played port cs old due (bs ++ b ∷ []) new (next_tick b)

-- an answer more
abbrev pub AnswerMoreLaw : Type 0
AnswerMoreLaw =
    (port : ℕ) (cs : List (List ℕ)) (t : ℕ) (old mid new : World) (xs : List Exchanged) (x : Exchanged) → AreAnswered port cs t old xs mid → RequestIsAnswered port cs t mid x new →
    AreAnswered port cs t old (xs ++ x ∷ []) new × ((next : Option ℕ) → closing next (xs ++ x ∷ []) ≡ told_next (closing next xs) x.output)

-- the outer loop at its end: the closed run, and its whole text
abbrev pub EndLaw : Type 0
EndLaw =
    (inventory : Inventory) (faults : List NumberedFault) (start : ℕ) (final : World) (wakes asked : ℕ) (text : List ℕ) → SoFar inventory faults start final None wakes asked text → wakes ≤ MOST_WAKES →
    (course : RunCourse) × (IsClosedRun inventory faults start course final × (text ++ done_text wakes asked ≡ course_text inventory course))

-- ---- no refusals

-- a step that is refused at most for lack of memory
abbrev pub StepIsTaken : Result Output StepFault → Type 0
StepIsTaken (Ok output) = Unit {0}
StepIsTaken (Err OutOfMemory) = Unit {0}
StepIsTaken (Err fault) = ⊥

-- whatever the broker does, the keeper refuses neither the next tick nor the next answer of a round, but for lack of memory
abbrev pub NeverRefusedLaw : Type 0
NeverRefusedLaw =
    (inventory : Inventory) (faults : List NumberedFault) (start port : ℕ) (short : List ShortNeed) (opening final : World) (beats : List Beat) (t : ℕ) → start ≤ LAST → IsRunOpening inventory faults start short opening →
    Played port inventory.credentials opening (Some start) beats final (Some t) →
    ((result : Result Output StepFault) (new : CoreState) → CoreTurn final.keeper (Tick t) result new → StepIsTaken result)
    × ((asked : List ℕ) (keeper : CoreState) → CoreTurn final.keeper (Tick t) (Ok (out.Ask asked)) keeper →
    (xs : List Exchanged) (now : World) (i : ℕ) (others : List ℕ) → map (λ (x : Exchanged). x.entry) xs ++ (i ∷ others) ≡ asked →
    AreAnswered port inventory.credentials t (record { keeper = shorts_taken keeper; behind = final.behind }) xs now →
    (event : Event) (result : Result Output StepFault) (new : CoreState) → IsAnswerOf i event → TellsSpan event → CoreTurn now.keeper event result new → StepIsTaken result)

-- ---- the code of one answer

-- a keeper, and what stands after the exchange that it asks over, where that is known
abbrev pub both : CoreState → Option Behind → World
both keeper behind = record { keeper = keeper; behind = behind }

-- a run is cut anywhere
abbrev pub SplitLaw : Type 0
SplitLaw =
    (port : ℕ) (cs : List (List ℕ)) (old new : World) (due next : Option ℕ) (before after : List Beat) → Played port cs old due (before ++ after) new next →
    (mid : World) × ((then' : Option ℕ) × (Played port cs old due before mid then' × Played port cs mid then' after new next))
