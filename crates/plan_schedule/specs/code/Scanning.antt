-- Words for the scan over the entries that finds who leads. No public clause cites them.
-- Source: this project's own.
use Rattle.std.specs.Prelude.{ℕ, ◌≤◌, ◌<◌, Option, Some, None}
use Rattle.plan_schedule.specs.Terms.{Ahead, Leads, Terms, lasts_until}

-- who leads; with no answer nothing falls short
abbrev pub IsLeader : Terms → Option ℕ → Option ℕ → Type 0
IsLeader t prev None = (i : ℕ) → t.need i ≤ lasts_until t prev i
IsLeader t prev (Some f) = Leads t prev f

-- who leads of the first n
abbrev pub LeadsBelow : Terms → Option ℕ → ℕ → Option ℕ → Type 0
LeadsBelow t prev n None = (i : ℕ) → i < n → t.need i ≤ lasts_until t prev i
LeadsBelow t prev n (Some f) =
    (f < n) × ((lasts_until t prev f < t.need f) × ((i : ℕ) → i < n → lasts_until t prev i < t.need i → Ahead (lasts_until t prev f) f (lasts_until t prev i) i))

-- i falls short, and has a lesser deadline than the one that leads so far
abbrev pub TakesLead : Terms → Option ℕ → ℕ → Option ℕ → Type 0
TakesLead t prev i None = lasts_until t prev i < t.need i
TakesLead t prev i (Some f) = (lasts_until t prev i < t.need i) × (lasts_until t prev i < lasts_until t prev f)
