-- Laws of the rehearsal without faults. Each is the contract of a public function without a body.
use Rattle.std.specs.Prelude.{◌≡◌, ℕ, ◌+◌, ◌≤◌, ◌<◌, ◌++◌, true, List, [], ◌∷◌, Option, Some, None, IfSome, Result, Ok, is_some, length, map}
use Rattle.std.specs.List.{All, flat_map}
use Rattle.base_moment.specs.declared.moment.TheConstants.{LAST}
use Rattle.plan_forest.specs.{Forest.end_of, Forest.entry_at, Renewal.renewal}
use Rattle.plan_rule.specs.{declared.wake.Wake.Wake, Asks.with_asks, Keeps.Keeps, Plans.IsPlan, Requests.requests, declared.limit.TheConstants.LIMIT, Runs.moments_of}
use Rattle.plan_search.specs.{declared.decision.Decision.TheVariants.Keep, Decides.Decides, Planned.Planned, Planned.to_come}
use Rattle.vault_start.specs.Start.{inventory_at}
use Rattle.vault_inventory.specs.Inventories.{IsInventory, Inventory}
use Rattle.broker_rule.specs.{Rows.row_named, Sweep.swept}
use Rattle.tick_keeper.specs.{declared.event.Output.Output, declared.fault.StepFault.StepFault, declared.shortened.ShortNeed.ShortNeed, Replan.IsPlanOf, Shorten.pairs, Shorten.shorten, History.CoreTurn, State.CoreState}
use Rattle.tick_keeper.specs.declared.event.Event.TheVariants.{Tick, Told}
use Rattle.tick_keeper.specs.declared.event.Output.TheVariants as out
use Rattle.tick_runs.specs.{declared.rehearse.playing.TheConstants.MOST_WAKES, Replies.event_for, Stops.StepIsTaken}
use Rattle.tick_runs.specs.Closed.{AreAnswered, Beat, Exchanged, IsClosedRun, IsRunOpening, Played, RunCourse, World, event_in, request_count, rounds, shorts_taken}
use Rattle.tick_runs.specs.Text.{beat_text, course_text, done_text}
use Rattle.vault_exchange.specs.{Exchanges.Behind, Requests.RequestIsAsked, Requests.renewal_request}
use Rattle.vault_http.specs.declared.reply.Reply.{Reply}

-- the entry was told the end that the renewal rule gives at t, and nothing was shortened
pub record IsToldByRule (inventory : Inventory) (t : ℕ) (x : Exchanged) : Type 0 where
  pub seconds : ℕ
  pub told : event_in inventory.credentials inventory.forest x ≡ Told x.entry seconds true
  pub by_rule : t + seconds ≡ renewal (entry_at inventory.forest.entries x.entry) t
  pub short : x.short ≡ []

pub record IsQuietBeat (inventory : Inventory) (b : Beat) : Type 0 where
  pub short : b.short ≡ []
  pub told : All (IsToldByRule inventory b.at) b.answers

-- the ticks so far of a run by a plan at these moments: its rounds are at the first of them, all are where no tick is next;
-- who was asked was told by the rule, and nothing was shortened; the next tick is not refused; and at a moment from the
-- start that comes before the next tick and after none of these, each entry that is needed longer has its row in the table,
-- after a sweep at that moment
pub record GoesAsPlanned (inventory : Inventory) (start : ℕ) (ts : List ℕ) (beats : List Beat) (final : World) (next : Option ℕ) : Type 0 where
  pub rest : List ℕ
  pub moments : ts ≡ map (λ b. b.at) (rounds beats) ++ rest
  pub ended : next ≡ None → rest ≡ []
  pub asked : next ≡ None → request_count beats ≡ requests (with_asks inventory.forest.entries inventory.forest.margin start (end_of inventory.forest.entries) ts)
  pub quiet : All (IsQuietBeat inventory) beats
  pub taken : (t : ℕ) (result : Result Output StepFault) (new : CoreState) → next ≡ Some t → CoreTurn final.keeper (Tick t) result new → StepIsTaken result
  pub behind : Behind
  pub known : final.behind ≡ Some behind
  pub stands : (m i : ℕ) → start ≤ m → All (λ b. b.at ≤ m) beats → IfSome next (λ t. m < t) → m < (entry_at inventory.forest.entries i).need
      → is_some (row_named (swept m behind.table.rows) (entry_at inventory.forest.entries i).name) ≡ true

-- without faults, a run of an inventory that a plan keeps goes as planned, as far as it went
abbrev pub SoFarLaw : Type 0
SoFarLaw =
    (inventory : Inventory) (start : ℕ) (ts : List ℕ) → IsInventory inventory → start ≤ LAST → IsPlanOf inventory.forest start ts → length ts ≤ LIMIT →
    (short : List ShortNeed) (opening final : World) (beats : List Beat) (next : Option ℕ) → IsRunOpening inventory [] start short opening →
    Played 8200 inventory.credentials opening (Some start) beats final next →
    (short ≡ []) × GoesAsPlanned inventory start ts beats final next

-- so the closed run has exactly as many rounds as the plan has wake-ups, at its moments, and as many requests as its Asks
abbrev pub RehearsalLaw : Type 0
RehearsalLaw =
    (inventory : Inventory) (start : ℕ) (ts : List ℕ) → IsInventory inventory → start ≤ LAST → IsPlanOf inventory.forest start ts → length ts ≤ MOST_WAKES →
    (course : RunCourse) (final : World) → IsClosedRun inventory [] start course final →
    (map (λ b. b.at) (rounds course.beats) ≡ ts)
    × ((request_count course.beats ≡ requests (with_asks inventory.forest.entries inventory.forest.margin start (end_of inventory.forest.entries) ts))
    × ((course.short ≡ []) × All (IsQuietBeat inventory) course.beats))

-- of any inventory: the opening shortens the needs that no plan keeps; the rounds are at the moments of the least and latest
-- plan for the forest that has the needs then in force, and no plan that keeps it has fewer wake-ups than the rehearsal made
abbrev pub LeastLaw : Type 0
LeastLaw =
    (inventory : Inventory) (start : ℕ) → IsInventory inventory → start ≤ LAST → (course : RunCourse) (final : World) → IsClosedRun inventory [] start course final →
    (course.short ≡ pairs inventory.forest start)
    × (IsPlanOf (shorten inventory.forest start) start (map (λ b. b.at) (rounds course.beats))
    × ((plan : List Wake) → IsPlan start plan → Keeps (shorten inventory.forest start).entries (shorten inventory.forest start).margin start (end_of (shorten inventory.forest start).entries) plan →
    length (rounds course.beats) ≤ length plan))

-- nor is any answer of a round refused: the round at t was opened, some of the asked have answered, and i is the next
abbrev pub AnswersTakenLaw : Type 0
AnswersTakenLaw =
    (inventory : Inventory) (start : ℕ) (ts : List ℕ) → IsInventory inventory → start ≤ LAST → IsPlanOf inventory.forest start ts → length ts ≤ LIMIT →
    (short : List ShortNeed) (opening final : World) (beats : List Beat) (t : ℕ) → IsRunOpening inventory [] start short opening →
    Played 8200 inventory.credentials opening (Some start) beats final (Some t) →
    (asked : List ℕ) (keeper : CoreState) → CoreTurn final.keeper (Tick t) (Ok (out.Ask asked)) keeper →
    (xs : List Exchanged) (now : World) (i : ℕ) (others : List ℕ) → map (λ x. x.entry) xs ++ (i ∷ others) ≡ asked →
    AreAnswered 8200 inventory.credentials t (record { keeper = shorts_taken keeper; behind = final.behind }) xs now →
    (behind : Behind) × ((now.behind ≡ Some behind)
    × ((reply : Option Reply) (left : Option Behind) (result : Result Output StepFault) (new : CoreState) → RequestIsAsked behind.table t (renewal_request 8200 inventory.credentials now.keeper.forest i) reply left →
    CoreTurn now.keeper (event_for inventory.credentials now.keeper.forest i reply) result new → StepIsTaken result))

-- over the bytes of an inventory, and for the plan that `plan` gives: the run's text ends in its number of wake-ups and the
-- sum of the lengths of its Asks
abbrev pub PlannedRunLaw : Type 0
PlannedRunLaw =
    (bytes : List ℕ) (inventory : Inventory) (start : ℕ) (p : Planned) → inventory_at start bytes ≡ Ok inventory → start ≤ LAST → Decides inventory.forest start (Keep p) → length (to_come p) ≤ MOST_WAKES →
    (course : RunCourse) (final : World) → IsClosedRun inventory [] start course final →
    (map (λ b. b.at) (rounds course.beats) ≡ moments_of (to_come p))
    × (course_text inventory course ≡ flat_map (beat_text inventory) course.beats
    ++ done_text (length (to_come p)) (requests (with_asks inventory.forest.entries inventory.forest.margin start (end_of inventory.forest.entries) (moments_of (to_come p)))))

-- at each moment from the start, before a need, that need's entry stands in the rows, after the ticks up to that moment and
-- a sweep at it
abbrev pub StandsLaw : Type 0
StandsLaw =
    (inventory : Inventory) (start : ℕ) (ts : List ℕ) → IsInventory inventory → start ≤ LAST → IsPlanOf inventory.forest start ts → length ts ≤ LIMIT →
    (short : List ShortNeed) (opening mid final : World) (before after : List Beat) (due : Option ℕ) → IsRunOpening inventory [] start short opening →
    Played 8200 inventory.credentials opening (Some start) before mid due → Played 8200 inventory.credentials mid due after final None →
    (m i : ℕ) → start ≤ m → All (λ b. b.at ≤ m) before → All (λ b. m < b.at) after → m < (entry_at inventory.forest.entries i).need →
    (behind : Behind) × ((mid.behind ≡ Some behind) × (is_some (row_named (swept m behind.table.rows) (entry_at inventory.forest.entries i).name) ≡ true))
