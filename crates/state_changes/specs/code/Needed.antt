-- Words for the needs of later records, by which those before them are void. No public clause cites them.
-- Source: this project's own.
use Rattle.std.specs.Prelude.{◌≡◌, ℕ, List}
use Rattle.std.specs.{BTreeSet.BTreeSet, BTreeSet.contains, Cmp.Lexicographic.slice_cmp, List.list_any, Ordering.nat_cmp, Ordering.ordering_then, declared.cmp.Ordering.Ordering}
use Rattle.state_changes.specs.{declared.change.Record.Record, declared.compaction.Needed.Needed, Compaction.is_need_of}

abbrev pub needed_cmp : Needed → Needed → Ordering
needed_cmp a b = ordering_then (slice_cmp nat_cmp a.name b.name) (slice_cmp nat_cmp a.was b.was)

-- the set has the needs of these records
abbrev pub AreNeedsOf : BTreeSet Needed → List Record → Type 0
AreNeedsOf set records = (name was : List ℕ) → contains needed_cmp set (record { name = name; was = was }) ≡ list_any (is_need_of name was) records
