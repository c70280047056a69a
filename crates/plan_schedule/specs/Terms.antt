-- Terms: which entry forces the next wake-up, by four numbers for each entry, where none of them is led past its ceiling.
-- Source: this project's own.
use Rattle.std.specs.Prelude.{◌≡◌, ℕ, ◌+◌, ◌-◌, ◌≤◌, ◌<◌, ◌⊎◌, max, List, [], ◌∷◌, Option, Some, None}
use Rattle.plan_rule.specs.declared.force.Force.{Force}

-- of the entry at an index: its end, its step, the need that it carries, and the entry that has this need; and the margin
pub record Terms : Type 0 where
  pub end : ℕ → ℕ
  pub step : ℕ → ℕ
  pub need : ℕ → ℕ
  pub from : ℕ → ℕ
  pub margin : ℕ

-- until when an entry lasts after a wake-up at prev
abbrev pub lasts_until : Terms → Option ℕ → ℕ → ℕ
lasts_until t None i = t.end i
lasts_until t (Some v) i = max (t.end i) (v + t.step i)

-- x at i comes before y at j, of equals the lower index
abbrev pub Ahead : ℕ → ℕ → ℕ → ℕ → Type 0
Ahead x i y j = (x < y) ⊎ ((x ≡ y) × (i ≤ j))

-- f falls short of its need, and of all that do it has the least deadline, of several the lowest index
pub record Leads (t : Terms) (prev : Option ℕ) (f : ℕ) : Type 0 where
  pub short : lasts_until t prev f < t.need f
  pub first : (i : ℕ) → lasts_until t prev i < t.need i → Ahead (lasts_until t prev f) f (lasts_until t prev i) i

-- the wake-ups after the one at prev, each by the entry that leads
abbrev pub AreLed : Terms → Option ℕ → List Force → Type 0
AreLed t prev [] = (i : ℕ) → t.need i ≤ lasts_until t prev i
AreLed t prev (x ∷ xs) =
    Leads t prev x.entry × ((x.at ≡ lasts_until t prev x.entry - t.margin) × ((x.needed ≡ t.from x.entry) × AreLed t (Some x.at) xs))
