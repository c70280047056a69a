-- The run `margin`: which text goes with which exit, and when there is none.
-- Source: this project's own.
use Rattle.std.specs.Prelude.{◌≡◌, ℕ, List, Option, Some, None}
use Rattle.base_device.specs.Seen.{Change}
use Rattle.plan_forest.specs.Forest.{Forest}
use Rattle.plan_search.specs.Decides.{PlanIsTooLong}
use Rattle.program_report.specs.{declared.exit.Exit.Exit, declared.stop.Stop.Stop}
use Rattle.program_report.specs.declared.stop.Stop.TheVariants as stops
use Rattle.plan_commands.specs.{declared.margin.MarginQuery.MarginQuery, MarginText.IsMarginText, MarginText.asked_about}
use Rattle.plan_commands.specs.Running.{Halts, RunOf, Texts}
use Rattle.vault_start.specs.Start.{inventory_at}

abbrev pub MarginTexts : MarginQuery → Texts
MarginTexts q g exit text = IsMarginText (asked_about q g) q.start q.most_wakes exit text

-- WAKES is not given, and no plan that keeps with the forest's own margin is short enough
abbrev pub HasNoCount : Forest → ℕ → Option ℕ → Stop → Type 0
HasNoCount g s None stop = (stop ≡ stops.TooLong) × PlanIsTooLong g s
HasNoCount g s (Some most) stop = ⊥

abbrev pub MarginHalts : MarginQuery → Halts
MarginHalts q g stop = HasNoCount (asked_about q g) q.start q.most_wakes stop

-- `margin` over the bytes of an inventory, from its start on
abbrev pub MarginRun : List ℕ → MarginQuery → Exit → Change → Change → Type 0
MarginRun bytes q exit out errors = RunOf (MarginTexts q) (MarginHalts q) (inventory_at q.start bytes) exit out errors
