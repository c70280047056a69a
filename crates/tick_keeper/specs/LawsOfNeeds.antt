-- Laws of needs: what shortening does, and that a plan can always be made after it. Each is the contract of a public
-- function without a body.
use Rattle.std.specs.Prelude.{◌≡◌, ℕ, ◌+◌, ◌≤◌, ◌<◌, List, [], length}
use Rattle.std.specs.List.{All, Contains}
use Rattle.plan_forest.specs.Push.{IsForest}
use Rattle.plan_forest.specs.Forest.{Forest, end_of, entry_at}
use Rattle.plan_rule.specs.{declared.wake.Wake.Wake, Plans.IsPlan, Unkeepable.AllKeepable}
use Rattle.plan_rule.specs.Keeps.{Alive, Keeps, ends_at}
use Rattle.tick_keeper.specs.{declared.shortened.ShortNeed.ShortNeed, Replan.IsPlanOf, Shorten.pairs, Shorten.shorten}

-- under a plan from t, i is kept to n: it is alive at each moment from t on and before n
abbrev pub IsKeptTo : Forest → ℕ → List Wake → ℕ → ℕ → Type 0
IsKeptTo g t ws i n = (m : ℕ) → t ≤ m → m < n → Alive g.entries (ends_at g.entries g.margin (end_of g.entries) ws m) m i

-- g is the forest before planning at t, and h the one after it. The pair's need was after t and was greater; now it is that
-- of the pair. Where it comes after t, some plan from t that keeps all needs in force keeps the entry to it, and none keeps
-- it a second longer. Where it does not, the entry is not alive at t, and no plan keeps it to a moment after t
pub record IsShortened (g h : Forest) (t : ℕ) (pair : ShortNeed) : Type 0 where
  pub within : pair.entry < length g.entries
  pub later : t < (entry_at g.entries pair.entry).need
  pub less : pair.need < (entry_at g.entries pair.entry).need
  pub in_force : (entry_at h.entries pair.entry).need ≡ pair.need
  pub kept : t < pair.need → (plan : List Wake) × (IsPlan t plan × (Keeps h.entries h.margin t (end_of h.entries) plan × IsKeptTo h t plan pair.entry pair.need))
  pub no_longer : t < pair.need → (plan : List Wake) → IsPlan t plan → IsKeptTo h t plan pair.entry (pair.need + 1) → ⊥
  pub gone : pair.need ≤ t → Alive h.entries (end_of h.entries) t pair.entry → ⊥
  pub never : pair.need ≤ t → (plan : List Wake) → IsPlan t plan → (m : ℕ) → t < m → IsKeptTo h t plan pair.entry m → ⊥

-- each pair that is noted is shortened as far as it has to be, and no farther
abbrev pub ShortenedLaw : Type 0
ShortenedLaw = (g : Forest) (t : ℕ) → IsForest g → All (IsShortened g (shorten g t) t) (pairs g t)

-- no other need is changed, and nothing but needs
abbrev pub UnchangedLaw : Type 0
UnchangedLaw =
    (g : Forest) (t : ℕ) → (length (shorten g t).entries ≡ length g.entries)
    × (((i : ℕ) → entry_at (shorten g t).entries i ≡ record (entry_at g.entries i) { need = (entry_at (shorten g t).entries i).need })
    × ((i : ℕ) → ((need : ℕ) → Contains (pairs g t) (record { entry = i; need = need }) → ⊥) → entry_at (shorten g t).entries i ≡ entry_at g.entries i))

-- where no pair is Unkeepable, and so wherever some plan keeps, no need is shortened
abbrev pub KeepableLaw : Type 0
KeepableLaw = (g : Forest) (t : ℕ) → AllKeepable g t (end_of g.entries) → (shorten g t ≡ g) × (pairs g t ≡ [])

-- after shortening a forest is one, no pair is Unkeepable, and there is a least and latest plan
abbrev pub PlannableLaw : Type 0
PlannableLaw =
    (g : Forest) (t : ℕ) → IsForest g → IsForest (shorten g t) × (AllKeepable (shorten g t) t (end_of (shorten g t).entries)
    × ((ts : List ℕ) × IsPlanOf (shorten g t) t ts))
