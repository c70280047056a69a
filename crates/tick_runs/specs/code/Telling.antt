-- Telling: words for the parts of a live tick, whose answers are told one by one. No public clause cites them.
-- Source: this project's own.
use Rattle.std.specs.Prelude.{◌≡◌, ℕ, ◌⊎◌, IsTrue, List, [], ◌∷◌, ◌++◌, Option, Result, Ok, Err, map, take}
use Rattle.std.specs.{Io.KnownBytes.Keeps, List.flat_map}
use Rattle.base_device.specs.Failures.{HasFailed}
use Rattle.base_device.specs.Seen.{Change, Receives, ReceivesFront}
use Rattle.tick_keeper.specs.declared.event.Output.{Output}
use Rattle.program_report.specs.{declared.stop.Stop.Stop, Sent.IsAll}
use Rattle.program_report.specs.declared.stop.Stop.TheVariants as stops
use Rattle.tick_runs.specs.{Hearing.IsAskLeft, Hearing.NeedIsOverlong, code.Playing.Answers, code.Playing.AnswersAll, Text.answer_text, Text.inventory_with}
use Rattle.tick_runs.specs.Closed.{AreAnswered, Exchanged, World}
use Rattle.program_lines.specs.declared.event_line.HeardLine.{HeardLine}

-- all of a text was written and flushed, and no call failed
abbrev pub IsSentWhole : List ℕ → Change → Type 0
IsSentWhole text out = IsAll text out × (out.new.failed_calls ≡ out.old.failed_calls)

-- ---- one answer

-- one was asked and answered, and no more than a front of its lines was written
abbrev pub IsOneCut : ℕ → List (List ℕ) → ℕ → World → ℕ → World → Change → Type 0
IsOneCut port cs t old i new out = (output : Output) × ((text : List ℕ) × (Answers port cs t old i output new [] text × ReceivesFront text out))

-- what asking one comes to: its lines were written and flushed, or why not
abbrev pub TellsOne : ℕ → List (List ℕ) → ℕ → World → ℕ → Result Output Stop → World → Change → Type 0
TellsOne port cs t old i (Ok output) new out = (text : List ℕ) × (Answers port cs t old i output new [] text × IsSentWhole text out)
TellsOne port cs t old i (Err stops.Write) new out = HasFailed out.old.failed_calls out.new.failed_calls × IsOneCut port cs t old i new out
TellsOne port cs t old i (Err stops.Memory) new out = (Keeps out.old.output.written out.new.output.written × IsAskLeft port cs t old (i ∷ []) new.behind) ⊎ (IsTrue out.is_in_memory × IsOneCut port cs t old i new out)
TellsOne port cs t old i (Err stop) new out = ⊥

-- ---- a round

-- some of these were asked and answered, with the lines of all answers
pub record IsRoundSoFar (port : ℕ) (cs : List (List ℕ)) (t : ℕ) (old : World) (asked : List ℕ) (new : World) (told : List ℕ) : Type 0 where
  pub xs : List Exchanged
  pub others : List ℕ
  pub who : map (λ x. x.entry) xs ++ others ≡ asked
  pub answered : AreAnswered port cs t old xs new
  pub told_is : told ≡ flat_map (answer_text (inventory_with cs old.keeper.forest)) xs

-- some of these were asked and answered, with the lines of all answers but the last, and those of the last
pub record IsRoundUpTo (port : ℕ) (cs : List (List ℕ)) (t : ℕ) (old : World) (asked : List ℕ) (new : World) (told own : List ℕ) : Type 0 where
  pub before : List Exchanged
  pub x : Exchanged
  pub others : List ℕ
  pub who : map (λ y. y.entry) (before ++ x ∷ []) ++ others ≡ asked
  pub answered : AreAnswered port cs t old (before ++ x ∷ []) new
  pub told_is : told ≡ flat_map (answer_text (inventory_with cs old.keeper.forest)) before
  pub own_is : own ≡ answer_text (inventory_with cs old.keeper.forest) x

-- no more than a front of the lines of an answer was written, after those of the answers before
pub record IsRoundCut (port : ℕ) (cs : List (List ℕ)) (t : ℕ) (old : World) (asked : List ℕ) (new : World) (out : Change) : Type 0 where
  pub told : List ℕ
  pub own : List ℕ
  pub up_to : IsRoundUpTo port cs t old asked new told own
  pub n : ℕ
  pub front : Receives (told ++ take n own) out

-- the lines of some answers were written, and nobody was asked after them, or the next was
pub record IsRoundBroken (port : ℕ) (cs : List (List ℕ)) (t : ℕ) (old : World) (asked : List ℕ) (new : World) (out : Change) : Type 0 where
  pub told : List ℕ
  pub mid : World
  pub so_far : IsRoundSoFar port cs t old asked mid told
  pub left : IsAskLeft port cs t mid so_far.others new.behind
  pub written : Receives told out

-- what a round comes to: the lines of each answer were written and flushed before the next was asked, or why not
abbrev pub TellsRound : ℕ → List (List ℕ) → ℕ → World → List ℕ → Result (Option ℕ) Stop → World → Change → Type 0
TellsRound port cs t old asked (Ok next) new out = (text : List ℕ) × (AnswersAll port cs t old asked next new [] text × IsSentWhole text out)
TellsRound port cs t old asked (Err stops.Write) new out = HasFailed out.old.failed_calls out.new.failed_calls × IsRoundCut port cs t old asked new out
TellsRound port cs t old asked (Err stops.Memory) new out = IsRoundBroken port cs t old asked new out ⊎ (IsTrue out.is_in_memory × IsRoundCut port cs t old asked new out)
TellsRound port cs t old asked (Err stop) new out = ⊥

-- ---- a need

-- why hearing a need stops
abbrev pub StopsNeed : World → HeardLine → Stop → World → Type 0
StopsNeed old heard stops.TooLong new = NeedIsOverlong old heard new
StopsNeed old heard stops.Memory new = Unit {0}
StopsNeed old heard stop new = ⊥
