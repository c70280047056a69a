-- The command `rehearse` over its file: a rehearsal of the bytes of an inventory, over some exchange in memory.
-- Source: this project's own.
use Rattle.std.specs.Prelude.{ℕ, List, Option}
use Rattle.base_device.specs.Seen.{Change}
use Rattle.vault_exchange.specs.Exchanges.{Behind}
use Rattle.vault_inventory.specs.declared.limits.TheConstants.{MOST_INVENTORY}
use Rattle.program_report.specs.declared.exit.Exit.{Exit}
use Rattle.tick_runs.specs.Rehearse.{RehearseRun, RehearseTold}
use Rattle.vault_start.specs.Start.{inventory_at}
use Rattle.plan_commands.specs.From.{RunFrom}

-- over the bytes, from a start on, with these FAULT words
abbrev pub Rehearses : List ℕ → ℕ → List (List ℕ) → Exit → Change → Change → Type 0
Rehearses bytes start words exit out errors = (old : Behind) × (new : Behind) × RehearseRun (inventory_at start bytes) start words exit out old new × RehearseTold (inventory_at start bytes) words exit errors

-- over the bytes of the file at a path, by what is known of it
abbrev pub RehearseFrom : Option (List ℕ) → ℕ → List (List ℕ) → Exit → Change → Change → Type 0
RehearseFrom known start words exit out errors = RunFrom known MOST_INVENTORY (λ bytes. Rehearses bytes start words) exit out errors
