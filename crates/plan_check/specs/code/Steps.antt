-- Words for the steps of the code, which goes run by run. No public clause cites them.
use Rattle.std.specs.Prelude.{◌≡◌, ℕ, ◌+◌, ◌*◌, ◌≤◌, ◌<◌, ◌⊎◌, max, min, slice_index, true, false, List, [], ◌∷◌, ◌++◌, length, Option, Some, None}
use Rattle.std.specs.List.{AllByRecursion}
use Rattle.plan_forest.specs.{declared.entry.Entry.Entry, Renewal.all_last, Renewal.renewal}
use Rattle.plan_forest.specs.Forest.{Forest, end_of, entry_at}
use Rattle.plan_rule.specs.{Forced.latest_end, declared.force.Force.Force, declared.run.Run.Run}
use Rattle.plan_check.specs.{declared.answer.Cause.Cause, Fit.RunIsFit, Walk.fault}

-- what a walk over the wake-ups us finds, by the present ends, whatever follows them: with no fault in them it goes on
-- after one at last with the k'-th
abbrev pub WalkFinds : Forest → ℕ → Option ℕ → ℕ → List Force → ℕ → ℕ → Option Cause → Type 0
WalkFinds g s prev k us last k' None =
    (rest : List Force) → fault g.entries g.margin s (end_of g.entries) prev k (us ++ rest) ≡ fault g.entries g.margin s (end_of g.entries) (Some last) k' rest
WalkFinds g s prev k us last k' (Some cause) = (rest : List Force) → fault g.entries g.margin s (end_of g.entries) prev k (us ++ rest) ≡ Some cause

-- from `top` on, and no sooner, a wake-up leads an entry up to the need
pub record LongFrom (e : Entry) (need top : ℕ) : Type 0 where
  pub below : (t : ℕ) → t < top → latest_end e e.end (Some t) < need
  pub above : (t : ℕ) → top ≤ t → need ≤ latest_end e e.end (Some t)

-- of n moments after one at t that comes in time, each `gap` after the one before, k come in time too, and no more
pub record Stops (e : Entry) (margin end gap t k n : ℕ) : Type 0 where
  pub reach : ℕ
  -- a moment up to the reach finds the renewal at the one before late enough
  pub within : (u : ℕ) → u + gap + margin ≤ reach → u + gap + margin ≤ max end (renewal e u)
  pub last : t + k * gap + margin ≤ reach
  pub stop : (k ≡ n) ⊎ (max end (renewal e (t + k * gap)) < t + k * gap + gap + margin)

-- each of the first n entries with a need after s lasts, with those over it, until that
abbrev pub AllLast : Forest → ℕ → (ℕ → ℕ) → ℕ → Type 0
AllLast g s ends n = (j : ℕ) → j < n → s < (entry_at g.entries j).need → all_last g.entries ends (entry_at g.entries j).need j ≡ true

-- the first that does not
abbrev pub FirstShort : Forest → ℕ → (ℕ → ℕ) → Option ℕ → Type 0
FirstShort g s ends None = AllLast g s ends (length g.entries)
FirstShort g s ends (Some i) =
    (i < length g.entries) × ((s < (entry_at g.entries i).need) × ((all_last g.entries ends (entry_at g.entries i).need i ≡ false) × AllLast g s ends i))

-- the less of an end and what is carried for the parent
abbrev pub least_with : Option ℕ → ℕ → List ℕ → ℕ
least_with None end lasts = end
least_with (Some p) end lasts = min end (slice_index lasts p)

-- each is at most `gap` after the one before it, and the first of them after t
abbrev pub AllBridged : ℕ → ℕ → List ℕ → Type 0
AllBridged gap t [] = Unit {0}
AllBridged gap t (u ∷ us) = (u ≤ t + gap) × AllBridged gap u us

-- the last of them, t where there is none
abbrev pub last_behind : ℕ → List ℕ → ℕ
last_behind t [] = t
last_behind t (u ∷ us) = last_behind u us

-- each of these runs is fit, among n entries
abbrev pub AllFit : ℕ → List Run → Type 0
AllFit n rs = AllByRecursion (RunIsFit n) rs
