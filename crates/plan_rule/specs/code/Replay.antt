-- Words for the replay, which holds ends in a list and carries down what lasts over an entry. No public clause cites them.
use Rattle.std.specs.Prelude.{◌≡◌, ℕ, ◌+◌, ◌&&◌, if◌then◌else◌, ◌≤◌, ◌<◌, List, length, nat_le, slice_index}
use Rattle.plan_forest.specs.{declared.entry.Entry.Entry, Forest.entry_at, Renewal.all_last, Renewal.renewal}
use Rattle.plan_rule.specs.Keeps.{Alive}

-- a list of ends as the function from an index to its end, 0 past the last
unfoldable pub shown_ends : List ℕ → ℕ → ℕ
shown_ends ends i = slice_index ends i

-- each of lasts is the least end among those of the entry and of all over it
pub record Lasts (es : List Entry) (ends : ℕ → ℕ) (lasts : List ℕ) : Type 0 where
  pub count : length lasts ≡ length es
  pub least : (i m : ℕ) → i < length es → nat_le m (slice_index lasts i) ≡ all_last es ends m i

-- each entry is alive, by these ends, at each moment from `from` on, before `to` and before its need
abbrev pub KeptBetween : List Entry → (ℕ → ℕ) → ℕ → ℕ → Type 0
KeptBetween es ends from to = (i m : ℕ) → from ≤ m → m < to → m < (entry_at es i).need → Alive es ends m i

-- the end after a request at t of an entry with this end, over which each end is `last` or later
abbrev pub end_renewed_by : Entry → ℕ → ℕ → ℕ → ℕ → ℕ
end_renewed_by e margin t last end = if e.renewable && nat_le (t + margin) last then renewal e t else end
