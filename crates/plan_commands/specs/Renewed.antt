-- Renewed: the forest that one wake-up leaves which asks every entry.
-- Source: Vault, "Lease, renew, and revoke" (a renewal counts from its own moment); Vault, "Tokens".
use Rattle.std.specs.Prelude.{ℕ, length, map}
use Rattle.std.specs.List.{range_with_len}
use Rattle.plan_forest.specs.{declared.entry.Entry.Entry, Renewal.renewed}
use Rattle.plan_forest.specs.Forest.{Forest, end_of, entry_at}

-- the entry i with the end that a request for it at t leaves, which is judged by the ends before
abbrev pub renewed_entry : Forest → ℕ → ℕ → Entry
renewed_entry g t i = record (entry_at g.entries i) { end = renewed g.entries g.margin (end_of g.entries) t i }

-- every entry so
unfoldable pub all_renewed : Forest → ℕ → Forest
all_renewed g t = record g { entries = map (renewed_entry g t) (range_with_len 0 (length g.entries)) }
