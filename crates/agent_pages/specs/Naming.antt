-- Naming: what is around an agent, and what is told of the entries that its inventory names.
-- Source: this project's own.
use Rattle.std.specs.Prelude.{ℕ, false, if◌then◌else◌, List, [], ◌∷◌, ◌++◌, Option, Some, None}
use Rattle.state_changes.specs.declared.row.Row.{Row}
use Rattle.vault_inventory.specs.Needs.{has_always, until}
use Rattle.base_moment.specs.declared.moment.TheConstants.{LAST}
use Rattle.plan_forest.specs.{declared.entry.Entry.Entry, declared.entry.Kind.Kind, Forest.index_named}
use Rattle.agent_pages.specs.declared.board.Surroundings.{Surroundings}

-- figures that an agent does not know of itself, and the entries that its inventory names, after every change
pub record Around : Type 0 where
  pub surroundings : Surroundings
  pub named : List Row

abbrev pub beside : Surroundings → List Row → Around
beside s rows = record { surroundings = s; named = rows }

-- what is told of such an entry: no credential, and nothing of the terms on which it is renewed. One that is always needed is needed until
-- the last moment
pub record Named : Type 0 where
  pub name : List ℕ
  pub kind : Kind
  pub parent : Option (List ℕ)
  pub need : ℕ

abbrev pub named_by : Row → Named
named_by row = record { name = row.name; kind = row.kind; parent = row.parent; need = if has_always row.need then LAST else until row.need }

-- ---- the forest of all of them

-- the one over an entry is among those before it
abbrev pub parent_among : List Entry → Option (List ℕ) → Option ℕ
parent_among es None = None
parent_among es (Some name) = index_named es name

-- only its place and its need count: neither an end nor terms are known of it, and the step is the least that a forest takes
abbrev pub named_entry : List Entry → Named → Entry
named_entry es x = record { name = x.name; kind = x.kind; parent = parent_among es x.parent; end = 0; renewable = false; step = 2; ceiling = None; need = x.need }

-- the entries of these, after those before them
abbrev pub entries_after : List Entry → List Named → List Entry
entries_after es [] = es
entries_after es (x ∷ xs) = entries_after (es ++ named_entry es x ∷ []) xs
