-- Carried: what each entry of a forest carries from a start on, in the order of the indices.
-- Source: Vault, "Tokens" (a token's end ends its children and its leases); needs are this project's own.
use Rattle.std.specs.Prelude.{◌≡◌, ℕ, ◌<◌, List, Option, Some, None, length, slice_index_or}
use Rattle.plan_forest.specs.{declared.entry.Entry.Entry, Forest.Forest, Carried.IsFrom, Carried.carried}

-- a carried need, 0 for none, and the entry that has it, None where there is none
pub record CarriedNeed : Type 0 where
  pub need : ℕ
  pub from : Option ℕ

-- what the entry at an index carries
unfoldable pub load_at : List CarriedNeed → ℕ → CarriedNeed
load_at loads i = slice_index_or loads i (record { need = 0; from = None })

-- from is the entry that has the need which i carries, None where i carries none
abbrev pub NamesFrom : List Entry → ℕ → ℕ → Option ℕ → Type 0
NamesFrom es s i (Some needed) = (0 < carried es s i) × IsFrom es s i needed
NamesFrom es s i None = carried es s i ≡ 0

-- the loads are those of the forest's entries from s on
pub record IsCarried (g : Forest) (s : ℕ) (loads : List CarriedNeed) : Type 0 where
  pub count : length loads ≡ length g.entries
  pub need : (i : ℕ) → i < length g.entries → (load_at loads i).need ≡ carried g.entries s i
  pub from : (i : ℕ) → i < length g.entries → NamesFrom g.entries s i (load_at loads i).from
