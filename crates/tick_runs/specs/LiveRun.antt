-- LiveRun: the live run: each entry is looked up, the keeper is planned from the start, and event lines are heard; and how it
-- ends.
-- Source: this project's own.
use Rattle.std.specs.Prelude.{◌≡◌, ℕ, ◌+◌, ◌⊎◌, Bool, List, ◌++◌, Option, Result, Ok, Err, length, take, Some, IsTrue}
use Rattle.std.specs.Io.KnownBytes.{Consumes}
use Rattle.base_device.specs.{Seen.Change, Seen.ReceivesFront, Failures.HasFailed, Whole.MakesAtMost}
use Rattle.tick_keeper.specs.{Replan.Replan, Replan.ReplanTooLong, State.CoreState, State.unplanned}
use Rattle.vault_exchange.specs.Exchanges.{Behind}
use Rattle.vault_inventory.specs.{Inventory.read_served, Served.Served}
use Rattle.vault_served.specs.ForGood.{marks}
use Rattle.vault_start.specs.Start.{from_start}
use Rattle.program_lines.specs.{Hearing.EndsBetweenLines, Hearing.TextIsSaid, Listening.IsPrompt}
use Rattle.program_report.specs.{declared.exit.Exit.Exit, declared.stop.Stop.Stop, Exits.exit_of, FaultLine.line_of_stop, Sent.IsAll, Sent.IsUntouched, Told.Reports}
use Rattle.program_report.specs.declared.exit.Exit.TheVariants as exits
use Rattle.program_report.specs.declared.stop.Stop.TheVariants as stops
use Rattle.tick_runs.specs.{Closed.World, Closed.shorts_taken, declared.live.listening.TheConstants.MOST_EVENTS, declared.live.listening.TheConstants.MOST_EVENT_READS, Listening.EventLinesAreHeard, Listening.EventListeningEnds, Stops.both}
use Rattle.tick_runs.specs.{Text.short_need_lines}
use Rattle.tick_runs.specs.Looking.{AreLookedUp, IsUnlooked, Looked, LookingIsCut, LookupsLeave, first_indices, looked_text}
use Rattle.base_words.specs.Pieces.{pieces}

-- ---- the opening

-- each entry was looked up at the start, and the keeper planned from there, where an entry that is needed always is needed as long as
-- it can then be kept: the lines of all entries, and of the needs that were shortened
pub record IsLiveOpening (port start : ℕ) (always : List Bool) (old : Looked) (opening : World) (text : List ℕ) : Type 0 where
  pub looked : Looked
  pub all : AreLookedUp port start old (first_indices (length old.inventory.forest.entries)) looked
  pub keeper : CoreState
  pub planned : Replan (unplanned (from_start looked.inventory always start).forest) start keeper
  pub is : opening ≡ both (shorts_taken keeper) looked.behind
  pub text_is : text ≡ looked_text looked.inventory (first_indices (length old.inventory.forest.entries)) ++ short_need_lines looked.inventory.forest keeper.shortened

-- a run that was opened, with these credentials: its lines were written and flushed, and no write failed
pub record RunIsOpened (port start : ℕ) (always : List Bool) (old : Looked) (credentials : List (List ℕ)) (keeper : CoreState) (new : Option Behind) (out : Change) : Type 0 where
  pub same : credentials ≡ old.inventory.credentials
  pub text : List ℕ
  pub opened : IsLiveOpening port start always old (both keeper new) text
  pub sent : IsAll text out
  pub kept : out.new.failed_calls ≡ out.old.failed_calls

-- all entries were looked up, and their lines written and flushed; the plan from the start is too long
pub record IsUnplanned (port start : ℕ) (always : List Bool) (old : Looked) (out : Change) (new : Option Behind) : Type 0 where
  pub looked : Looked
  pub all : AreLookedUp port start old (first_indices (length old.inventory.forest.entries)) looked
  pub long : ReplanTooLong (from_start looked.inventory always start).forest start
  pub said : TextIsSaid (looked_text looked.inventory (first_indices (length old.inventory.forest.entries))) out
  pub left : new ≡ looked.behind

-- no more than a front of the lines of the opening was written
abbrev pub WritesOpening : ℕ → ℕ → List Bool → Looked → Change → Option Behind → Type 0
WritesOpening port start always old out new = (opening : World) × (text : List ℕ) × IsLiveOpening port start always old opening text × ReceivesFront text out × (new ≡ opening.behind)

-- why a run ends before it listens: a lookup is not applied; the plan is too long; or, after some lookups or at the opening,
-- the writer failed or memory was wanting
abbrev pub EndsEarly : ℕ → ℕ → List Bool → Looked → Stop → Change → Option Behind → Type 0
EndsEarly port start always old (stops.Broker name) out new = IsUnlooked port start old name out new
EndsEarly port start always old stops.TooLong out new = IsUnplanned port start always old out new
EndsEarly port start always old stops.Write out new =
    HasFailed out.old.failed_calls out.new.failed_calls
    × (((n : ℕ) × (now : Looked) × LookingIsCut port start old now n out × (new ≡ now.behind)) ⊎ WritesOpening port start always old out new)
EndsEarly port start always old stops.Memory out new =
    ((n : ℕ) × (now : Looked) × LookingIsCut port start old now n out × LookupsLeave port start now n new) ⊎ WritesOpening port start always old out new
EndsEarly port start always old stop out new = ⊥

-- ---- the run

-- the live run: the opening, and then these event lines are heard, one after another
pub record IsLiveRun (port start : ℕ) (always : List Bool) (old : Looked) (lines : List (List ℕ)) (final : World) (text : List ℕ) : Type 0 where
  pub opening : World
  pub before : List ℕ
  pub opened : IsLiveOpening port start always old opening before
  pub spoken : List ℕ
  pub heard : EventLinesAreHeard port old.inventory.credentials opening lines final spoken
  pub text_is : text ≡ before ++ spoken

-- a run that listened: what was read of the events, by at most 65,536 reads; the lines of its first 1 MiB that were heard, with the
-- text of the run so far; and how it ended after them
pub record RunHasListened (port start : ℕ) (always : List Bool) (old : Looked) (result : Result (Unit {0}) Stop) (new : World) (fed : Change) (out : Change) : Type 0 where
  pub read : List ℕ
  pub consumed : Consumes fed.old.input.remaining fed.new.input.remaining read
  pub reads : MakesAtMost MOST_EVENT_READS fed.old.input fed.new.input
  pub lines : List (List ℕ)
  pub behind : List (List ℕ)
  pub cut : pieces 10 (take MOST_EVENTS read) ≡ lines ++ behind
  pub prompt : IsPrompt (Some MOST_EVENTS) read lines
  pub mid : World
  pub text : List ℕ
  pub run : IsLiveRun port start always old lines mid text
  pub ends : EventListeningEnds port old.inventory.credentials read (length lines + 1) mid behind text result new fed out
  pub flushed : EndsBetweenLines result → IsTrue out.new.output.is_flushed

-- ---- how it ends

-- how the run of an inventory ends: before it listens, or after some lines
abbrev pub RunsTo : ℕ → ℕ → List Bool → Looked → Result (Unit {0}) Stop → Change → Change → Option Behind → Type 0
RunsTo port start always old (Ok u) fed out new = (final : World) × RunHasListened port start always old (Ok u) final fed out × (new ≡ final.behind)
RunsTo port start always old (Err stop) fed out new =
    (EndsEarly port start always old stop out new × IsUntouched fed) ⊎ ((final : World) × RunHasListened port start always old (Err stop) final fed out × (new ≡ final.behind))

-- how the run over the bytes of an inventory ends
abbrev pub LivesTo : ℕ → List ℕ → ℕ → Option Behind → Result (Unit {0}) Stop → Change → Change → Option Behind → Type 0
LivesTo port bytes start old (Err (stops.Inventory fault)) fed out new = (read_served bytes ≡ Err fault) × IsUntouched fed × IsUntouched out × (new ≡ old)
LivesTo port bytes start old (Err stops.Memory) fed out new =
    (IsUntouched fed × IsUntouched out × (new ≡ old))
    ⊎ ((v : Served) × (read_served bytes ≡ Ok v) × RunsTo port start (marks v.notes) (record { inventory = v.inventory; behind = old }) (Err stops.Memory) fed out new)
LivesTo port bytes start old result fed out new = (v : Served) × (read_served bytes ≡ Ok v) × RunsTo port start (marks v.notes) (record { inventory = v.inventory; behind = old }) result fed out new

-- `run` over the bytes of an inventory and a start, and over any exchange, by exit: how the run ends, and what it tells of that
abbrev pub LiveRun : ℕ → List ℕ → ℕ → Option Behind → Exit → Change → Change → Change → Option Behind → Type 0
LiveRun port bytes start old exits.Done fed out errors new = LivesTo port bytes start old (Ok tt) fed out new × IsUntouched errors
LiveRun port bytes start old exit fed out errors new =
    (stop : Stop) × (exit ≡ exit_of stop) × LivesTo port bytes start old (Err stop) fed out new × Reports (line_of_stop stop) errors
