-- Words for the pass over the entries that says which are to be asked. No public clause cites them.
-- Source: this project's own.
use Rattle.std.specs.Prelude.{ℕ, ◌+◌, Bool, ◌&&◌, List, Option, Some, None, nat_lt}
use Rattle.plan_forest.specs.{Forest.Forest, Forest.end_of, Renewal.renewed}
use Rattle.plan_rule.specs.Asks.{is_end_due}
use Rattle.plan_needs.specs.Carried.{CarriedNeed, load_at}

-- until when an end has to last so that its entry can wait for the next moment, None where there is none
abbrev pub waits_until : ℕ → Option ℕ → Option ℕ
waits_until margin None = None
waits_until margin (Some next) = Some (next + margin)

-- the question of the code: i ends before the need that it carries, cannot wait, and gains by a renewal at `at`
abbrev pub is_test : Forest → List CarriedNeed → ℕ → Option ℕ → ℕ → Bool
is_test g loads at until i =
    nat_lt (end_of g.entries i) (load_at loads i).need
    && (is_end_due 0 until (end_of g.entries i) && nat_lt (end_of g.entries i) (renewed g.entries g.margin (end_of g.entries) at i))
