-- Words for the steps of a queue of deadlines. No public clause cites them.
-- Source: this project's own.
use Rattle.std.specs.Prelude.{◌≡◌, ℕ, ◌+◌, ◌-◌, ◌≤◌, ◌<◌, length, Option, Some}
use Rattle.std.specs.List.{Contains}
use Rattle.plan_schedule.specs.{declared.groups.Groups.Groups, declared.groups.Next.Next, declared.groups.Next.TheVariants.Done, declared.groups.Next.TheVariants.Joined, declared.groups.Next.TheVariants.Waiting}
use Rattle.plan_schedule.specs.{code.Groups.IsGrouped, code.Groups.IsHeadOfJoined, code.Groups.IsKeyed, code.Groups.Joins, code.Groups.StandsWaiting, code.Groups.size_of_groups, code.Line.IsFirstInLine, code.Line.Lined, code.Line.spot}
use Rattle.plan_schedule.specs.{Prospect.Prospect, Prospect.terms_of, Terms.Ahead, Terms.Leads, Terms.lasts_until}

-- how many runs at most are still to come: an entry ends one when it joins, and one when it leaves
abbrev pub runs_left : Groups → Next → ℕ
runs_left g Done = 0
runs_left g (Waiting h) = size_of_groups g - 1
runs_left g (Joined f) = size_of_groups g

-- h, which waits, forces the wake-up after the one at prev
pub record WaiterIsDue (o : Prospect) (prev : Option ℕ) (g : Groups) (h : ℕ) : Type 0 where
  pub grouped : IsGrouped o prev g
  pub leads : Leads (terms_of o) prev h
  pub within : h < length o.loads
  pub front : IsFirstInLine g.waits.spots (spot ((terms_of o).end h) h)
  pub least : (i : ℕ) → Joins (terms_of o) g i → (terms_of o).step h < (terms_of o).step i
  pub unjoined : (v : ℕ) → prev ≡ Some v → v + (terms_of o).step h < (terms_of o).end h

-- f, which has joined, forces the wake-up after the one at prev
pub record IsLasting (o : Prospect) (prev : Option ℕ) (g : Groups) (f : ℕ) : Type 0 where
  pub at : ℕ
  pub is : prev ≡ Some at
  pub grouped : IsGrouped o (Some at) g
  pub within : f < length o.loads
  pub head : IsHeadOfJoined (terms_of o) at (StandsWaiting (terms_of o) g) (Joins (terms_of o) g) f

-- the groups and what forces the wake-up after the one at prev
abbrev pub GroupsAreReady : Prospect → Option ℕ → Groups → Next → Type 0
GroupsAreReady o prev g Done = (i : ℕ) → (terms_of o).need i ≤ lasts_until (terms_of o) prev i
GroupsAreReady o prev g (Waiting h) = WaiterIsDue o prev g h
GroupsAreReady o prev g (Joined f) = IsLasting o prev g f

-- the first wake-up of a run by f, at `first`, is taken
pub record RunIsBegun (o : Prospect) (prev : Option ℕ) (old new : Groups) (next : Next) (f first : ℕ) : Type 0 where
  pub leads : Leads (terms_of o) prev f
  pub within : f < length o.loads
  pub at : first ≡ lasts_until (terms_of o) prev f - (terms_of o).margin
  pub grouped : IsGrouped o (Some first) new
  pub joined : Joins (terms_of o) new f
  pub least : (i : ℕ) → Joins (terms_of o) new i → Ahead ((terms_of o).step f) f ((terms_of o).step i) i
  pub left : size_of_groups new ≡ runs_left old next

-- of the first k entries those that fall short before any wake-up stand in the line
pub record FillsLine (o : Prospect) (k : ℕ) (l : Lined) : Type 0 where
  pub keyed : IsKeyed (terms_of o).end (length o.loads) l.spots
  pub short : (i : ℕ) → Contains l.spots (spot ((terms_of o).end i) i) → (terms_of o).end i < (terms_of o).need i
  pub all : (i : ℕ) → i < k → (terms_of o).end i < (terms_of o).need i → Contains l.spots (spot ((terms_of o).end i) i)
  pub count : length l.spots ≤ k
  pub room : length o.loads ≤ l.room
