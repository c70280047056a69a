-- The rehearsal of an inventory that a plan keeps, without FAULT words. The contract of a public function without a body.
use Rattle.std.specs.Prelude.{◌≡◌, ℕ, ◌≤◌, ◌++◌, List, [], Some, Ok, length, map}
use Rattle.std.specs.List.{All, flat_map}
use Rattle.base_device.specs.Seen.{Change}
use Rattle.base_moment.specs.declared.moment.TheConstants.{LAST}
use Rattle.plan_forest.specs.Forest.{end_of}
use Rattle.plan_rule.specs.{Asks.with_asks, Requests.requests, Runs.moments_of}
use Rattle.plan_search.specs.{declared.decision.Decision.TheVariants.Keep, Decides.Decides, Planned.Planned, Planned.to_come}
use Rattle.vault_start.specs.Start.{inventory_at}
use Rattle.vault_inventory.specs.Inventories.{Inventory}
use Rattle.vault_exchange.specs.Exchanges.{Behind}
use Rattle.program_report.specs.{declared.exit.Exit.Exit, Sent.IsAll}
use Rattle.program_report.specs.declared.exit.Exit.TheVariants as exits
use Rattle.tick_runs.specs.{declared.rehearse.playing.TheConstants.MOST_WAKES, Laws.IsQuietBeat, Rehearse.RehearseRun, Text.beat_text, Text.done_text}
use Rattle.tick_runs.specs.Closed.{IsClosedRun, RunCourse, World, rounds}

-- the closed run has its rounds at the plan's moments, all who are asked are told the renewal rule's ends, and its lines end in
-- the plan's number of wake-ups and the sum of the lengths of its Asks
pub record IsPlannedRun (inventory : Inventory) (start : ℕ) (p : Planned) (out : Change) (new : Behind) : Type 0 where
  pub course : RunCourse
  pub final : World
  pub run : IsClosedRun inventory [] start course final
  pub moments : map (λ b. b.at) (rounds course.beats) ≡ moments_of (to_come p)
  pub quiet : All (IsQuietBeat inventory) course.beats
  pub sent : IsAll (flat_map (beat_text inventory) course.beats
      ++ done_text (length (to_come p)) (requests (with_asks inventory.forest.entries inventory.forest.margin start (end_of inventory.forest.entries) (moments_of (to_come p))))) out
  pub left : final.behind ≡ Some new

-- it comes to its end, unless the writer fails or memory is wanting
abbrev pub EndsAsPlanned : Inventory → ℕ → Planned → Exit → Change → Behind → Type 0
EndsAsPlanned inventory start p exits.Done out new = IsPlannedRun inventory start p out new
EndsAsPlanned inventory start p exits.Device out new = Unit {0}
EndsAsPlanned inventory start p exits.Memory out new = Unit {0}
EndsAsPlanned inventory start p exit out new = ⊥

-- where `plan` keeps with at most 100,000 wake-ups, the rehearsal without FAULT words makes just these
abbrev pub PlannedRehearsalLaw : Type 0
PlannedRehearsalLaw =
    (bytes : List ℕ) (inventory : Inventory) (start : ℕ) (p : Planned) (exit : Exit) (out : Change) (old new : Behind) → inventory_at start bytes ≡ Ok inventory → start ≤ LAST → Decides inventory.forest start (Keep p) → length (to_come p) ≤ MOST_WAKES →
    RehearseRun (inventory_at start bytes) start [] exit out old new → EndsAsPlanned inventory start p exit out new
