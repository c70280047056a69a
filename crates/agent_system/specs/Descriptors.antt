-- Descriptors: how many guests an agent lets in, by the descriptors that its process may have open at once.
-- Source: this project's own; docs/commands/serve.md, "Open files".
use Rattle.std.specs.Prelude.{◌≡◌, ℕ, ◌+◌, ◌-◌, ◌*◌, ◌/◌, Bool, true, false, if◌then◌else◌, List, ◌++◌, codes, decimal, min, nat_lt}
use Rattle.agent_log.specs.LogDesk.{Desk}
use Rattle.agent_answers.specs.{declared.control.TheConstants.MOST_CLIENTS, declared.onlookers.TheConstants.MOST_ONLOOKERS}
use Rattle.base_clock.specs.declared.reading.Reading.{Reading}
use Rattle.base_log.specs.declared.level.Level.TheVariants.{Warning}
use Rattle.agent_system.specs.{Saying.SaysOrWants, declared.descriptors.Places.Places}

-- an agent behind another looks ahead over lanes of its own
abbrev pub needed_ahead : ℕ → Bool → ℕ
needed_ahead width is_behind = if is_behind then width + 1 else 0

-- what an agent with so many lanes needs, with one guest of each kind: three descriptors for each lane, and 26 for all else
abbrev pub needed : ℕ → Bool → ℕ
needed width is_behind = 26 + (3 * width + needed_ahead width is_behind)

-- what this limit leaves for more guests
abbrev pub free_within : ℕ → ℕ → Bool → ℕ
free_within limit width is_behind = limit - needed width is_behind

-- one guest of each kind; and of what is left a third is for onlookers
abbrev pub places_within : ℕ → ℕ → Bool → Places
places_within limit width is_behind = record {
  clients = 1 + min (free_within limit width is_behind - free_within limit width is_behind / 3) (MOST_CLIENTS - 1);
  onlookers = 1 + min (free_within limit width is_behind / 3) (MOST_ONLOOKERS - 1);
}

-- ---- what is said of too few

abbrev pub few_text : ℕ → ℕ → List ℕ
few_text limit least = decimal limit ++ codes " may be open at once, and " ++ decimal least ++ codes " are needed"

abbrev pub Warns : Reading → List ℕ → Desk → Desk → Type 0
Warns now text old new = SaysOrWants now Warning (codes "descriptors") text old new

abbrev pub WarnsIf : Bool → Reading → List ℕ → Desk → Desk → Type 0
WarnsIf true now text old new = Warns now text old new
WarnsIf false now text old new = new ≡ old

-- how many guests are let in by the descriptors that may be open at once; where these are too few, that is said
pub record ArePlaces (now : Reading) (width : ℕ) (is_behind : Bool) (places : Places) (old new : Desk) : Type 0 where
  pub limit : ℕ
  pub are : places ≡ places_within limit width is_behind
  pub warns : WarnsIf (nat_lt limit (needed width is_behind)) now (few_text limit (needed width is_behind)) old new
