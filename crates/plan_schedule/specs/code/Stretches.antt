-- Stretches: wake-ups of one entry, one after the other. No public clause cites them.
-- Source: this project's own.
use Rattle.std.specs.Prelude.{◌≡◌, ℕ, ◌+◌, ◌-◌, ◌*◌, ◌≤◌, ◌<◌, Some}
use Rattle.base_moment.specs.declared.moment.TheConstants.{LAST}
use Rattle.plan_schedule.specs.{declared.groups.Groups.Groups, declared.groups.Next.Next, declared.groups.Next.TheVariants.Done, declared.groups.Next.TheVariants.Joined, declared.groups.Next.TheVariants.Waiting, code.Groups.SettlesGroups}
use Rattle.plan_schedule.specs.{Prospect.Prospect, Prospect.terms_of, Terms.Leads, Terms.Terms}

-- f leads after each of n wake-ups, the first at w, d apart
abbrev pub LeadsAll : Terms → ℕ → ℕ → ℕ → ℕ → Type 0
LeadsAll t w d f n = (k : ℕ) → k < n → Leads t (Some (w + k * d)) f

-- after a wake-up at first come `more` by f, of fewer than `most`, the last at `last`, after which the groups are settled
pub record Stretches (o : Prospect) (f first most : ℕ) (old new : Groups) (more last : ℕ) (next : Next) : Type 0 where
  pub within : more < most
  pub ends : last ≡ first + more * ((terms_of o).step f - (terms_of o).margin)
  pub moment : last ≤ LAST
  pub leads : LeadsAll (terms_of o) first ((terms_of o).step f - (terms_of o).margin) f more
  pub settles : SettlesGroups o last old new next

-- another entry forces the next wake-up, or none
abbrev pub IsOtherEntry : ℕ → Next → Type 0
IsOtherEntry f Done = Unit {0}
IsOtherEntry f (Waiting h) = Unit {0}
IsOtherEntry f (Joined g) = g ≡ f → ⊥
