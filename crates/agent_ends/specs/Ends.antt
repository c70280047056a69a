-- Ends: the file that keeps the ends of a boot, what it says, and which of them a Watch is handed at a start.
-- Source: this project's own.
use Rattle.std.specs.Prelude.{ℕ, List, [], ◌∷◌, ◌++◌, Option, Some, None, bytes_eq, if◌then◌else◌, length, option_to_list}
use Rattle.std.specs.List.{flat_map, range_with_len}
use Rattle.base_words.specs.Pieces.{pieces}
use Rattle.plan_forest.specs.{declared.entry.Kind.Kind, Forest.entry_at, Forest.index_named}
use Rattle.vault_inventory.specs.{Inventories.Inventory, Inventories.credential_at, Kinds.kind_word}
use Rattle.state_changes.specs.Words.{fingerprint}
use Rattle.watch_machine.specs.{declared.event.WatchEvent.WatchEvent, declared.event.WatchEvent.TheVariants.Known}
use Rattle.agent_standing.specs.{declared.ends.KnownEnd.KnownEnd, declared.standing.Told.Told, Agent.Agent, Agent.standing_at}
use Rattle.agent_standing.specs.Ends.{end_of_text, end_text, in_boot}

-- ---- the file

abbrev pub line_of_end : KnownEnd → List ℕ
line_of_end k = end_text k ++ 10 ∷ []

-- a line for each end, with its line feed
unfoldable pub ends_text : List KnownEnd → List ℕ
ends_text ends = flat_map line_of_end ends

-- the end of this boot that a line keeps, where it keeps one
abbrev pub ends_in_line : List ℕ → List ℕ → List KnownEnd
ends_in_line boot line = option_to_list (in_boot boot (end_of_text line))

-- those that a text keeps, line by line
unfoldable pub ends_in : List ℕ → List ℕ → List KnownEnd
ends_in boot text = flat_map (ends_in_line boot) (pieces 10 text)

-- ---- what is kept of an agent

-- what a credential is known by: the fingerprint of its kind and itself
unfoldable pub known_by : Kind → List ℕ → List ℕ
known_by kind credential = fingerprint (kind_word kind ++ 32 ∷ credential)

abbrev pub mark_of : Inventory → ℕ → List ℕ
mark_of s i = known_by (entry_at s.forest.entries i).kind (credential_at s.credentials i)

abbrev pub end_with : Inventory → List ℕ → ℕ → Option Told → List KnownEnd
end_with s boot i None = []
end_with s boot i (Some t) = record { name = (entry_at s.forest.entries i).name; fingerprint = mark_of s i; boot = boot; told = t } ∷ []

-- what was told of an entry in this boot
abbrev pub ends_told_at : Agent → List ℕ → ℕ → List KnownEnd
ends_told_at a boot i = end_with a.inventory boot i (standing_at a i).told

unfoldable pub ends_of : Agent → List ℕ → List KnownEnd
ends_of a boot = flat_map (ends_told_at a boot) (range_with_len 0 (length a.inventory.forest.entries))

-- ---- what a Watch is handed

-- an end is handed on for the entry of its name, where that is of the kind and has the credential that it was told of
abbrev pub event_at : Inventory → KnownEnd → Option ℕ → List WatchEvent
event_at s k None = []
event_at s k (Some i) = if bytes_eq (mark_of s i) k.fingerprint then Known i k.told.end k.told.renewable ∷ [] else []

abbrev pub events_for_known : Inventory → KnownEnd → List WatchEvent
events_for_known s k = event_at s k (index_named s.forest.entries k.name)

unfoldable pub events_for : Inventory → List KnownEnd → List WatchEvent
events_for s ends = flat_map (events_for_known s) ends
