-- Waits: the agent of a start, and its wait for its part of a spread.
-- Source: this project's own; docs/running.md, "A fleet".
use Rattle.std.specs.Prelude.{◌≡◌, ◌≢◌, ◌⊎◌, ℕ, ◌+◌, ◌*◌, Bool, true, false, List, ◌++◌, Option, Some, None, codes, decimal, min, nat_eq}
use Rattle.agent_log.specs.LogDesk.{Desk, HearsAtStart}
use Rattle.agent_standing.specs.Agent.{Agent, fresh}
use Rattle.base_clock.specs.declared.reading.Reading.{Reading}
use Rattle.vault_inventory.specs.Inventories.{Inventory}
use Rattle.base_log.specs.declared.level.Level.TheVariants.{Info}
use Rattle.agent_turns.specs.{Apart.MayWait, Held.Held, Held.held_at_first, Resuming.AreResumed, declared.waiting.Wait.Wait}
use Rattle.watch_machine.specs.{Clocks.second_of_wall, declared.event.WatchEvent.WatchEvent}

-- an agent of this inventory that has done nothing yet, to which these ends were handed in, over so many lanes
pub record IsResumedFrom (known : List WatchEvent) (s : Inventory) (width : ℕ) (serving : Held) : Type 0 where
  pub agent : Agent
  pub resumed : AreResumed known (fresh s width) agent
  pub at_first : serving ≡ held_at_first agent

-- a part of a spread, in milliseconds
abbrev pub millis_of : ℕ → ℕ
millis_of part = part * 1000

-- when it is over, by the clock that never steps
abbrev pub until_of : Reading → ℕ → ℕ
until_of now part = min (now.elapsed + millis_of part) 18446744073709551615

abbrev pub wait_text : ℕ → List ℕ
wait_text part = codes "waits for " ++ decimal part ++ codes " s: no entry is due before then"

abbrev pub SaysWait : Reading → ℕ → Desk → Desk → Type 0
SaysWait now part old new = HearsAtStart now Info (codes "start") (wait_text part) old new

-- whether it has a part of a spread, and no entry may have to be asked before that is over
abbrev pub IsToWaitBy : Bool → Agent → Reading → ℕ → Bool → Type 0
IsToWaitBy true a now part is = is ≡ false
IsToWaitBy false a now part is = MayWait a (second_of_wall now.wall) (until_of now part) is

abbrev pub IsToWait : Agent → Reading → ℕ → Bool → Type 0
IsToWait a now part is = IsToWaitBy (nat_eq part 0) a now part is

-- it waits, which is said; meanwhile the inventory that it serves is shown, and no other
pub record IsWait (known : List WatchEvent) (width : ℕ) (now : Reading) (part : ℕ) (a : Agent) (again : Option Inventory) (w : Wait) (old new : Desk) : Type 0 where
  pub is : again ≡ Some a.inventory
  pub to_wait : IsToWait a now part true
  pub until : w.until ≡ until_of now part
  pub shown : IsResumedFrom known a.inventory width w.shown
  pub said : SaysWait now part old new

-- it does not where that is not there to be shown
pub record IsNoWait (now : Reading) (part : ℕ) (a : Agent) (again : Option Inventory) (old new : Desk) : Type 0 where
  pub why : (again ≢ Some a.inventory) ⊎ IsToWait a now part false
  pub silent : new ≡ old

abbrev pub WaitsFor : List WatchEvent → ℕ → Reading → ℕ → Agent → Option Inventory → Option Wait → Desk → Desk → Type 0
WaitsFor known width now part a again (Some w) old new = IsWait known width now part a again w old new
WaitsFor known width now part a again None old new = IsNoWait now part a again old new
