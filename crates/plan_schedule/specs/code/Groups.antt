-- The groups of a queue. No public clause cites them.
-- Source: this project's own.
use Rattle.std.specs.Prelude.{◌≡◌, ℕ, ◌+◌, ◌*◌, ◌≤◌, ◌<◌, ◌⊎◌, List, [], length, Option, Some, None}
use Rattle.std.specs.List.{All, Contains}
use Rattle.plan_schedule.specs.{declared.groups.Groups.Groups, declared.groups.Next.Next, declared.groups.Next.TheVariants.Done, declared.groups.Next.TheVariants.Joined, declared.groups.Next.TheVariants.Waiting, declared.groups.Turn.Turn}
use Rattle.plan_schedule.specs.{declared.groups.Turn.TheVariants.Comes, declared.groups.Turn.TheVariants.Empty, declared.groups.Turn.TheVariants.Leaves, declared.groups.Turn.TheVariants.Steady}
use Rattle.plan_schedule.specs.{code.Line.IsFirstInLine, code.Line.Spot, code.Line.spot, Prospect.Prospect, Prospect.terms_of, Terms.Ahead, Terms.Terms, Terms.lasts_until}

-- a wake-up at prev reaches the end that the entry has now
abbrev pub HasJoined : Terms → Option ℕ → ℕ → Type 0
HasJoined t None i = ⊥
HasJoined t (Some v) i = t.end i ≤ v + t.step i

-- after a wake-up at prev: what falls short waits, bound by its present end, or has joined, bound by its step
pub record Grouped (t : Terms) (prev : Option ℕ) (wait join : ℕ → Type 0) : Type 0 where
  pub all : (i : ℕ) → lasts_until t prev i < t.need i → wait i ⊎ join i
  pub short : (i : ℕ) → wait i → t.end i < t.need i
  pub joined : (i : ℕ) → join i → HasJoined t prev i

-- g has joined, has the least step of those, of several the lowest index, and lasts no longer than any that waits
pub record IsHeadOfJoined (t : Terms) (v : ℕ) (wait join : ℕ → Type 0) (g : ℕ) : Type 0 where
  pub joined : join g
  pub short : v + t.step g < t.need g
  pub joins : (i : ℕ) → join i → Ahead (t.step g) g (t.step i) i
  pub waits : (i : ℕ) → wait i → Ahead (v + t.step g) g (t.end i) i

-- h waits, is the first to end of those, and ends no later than any that has joined lasts
pub record IsFrontWaiter (t : Terms) (v : ℕ) (wait join : ℕ → Type 0) (h : ℕ) : Type 0 where
  pub waiting : wait h
  pub unjoined : v + t.step h < t.end h
  pub waits : (i : ℕ) → wait i → Ahead (t.end h) h (t.end i) i
  pub joins : (i : ℕ) → join i → Ahead (t.end h) h (v + t.step i) i

-- the entry stands in the line of those that wait, by its end
abbrev pub StandsWaiting : Terms → Groups → ℕ → Type 0
StandsWaiting t g i = Contains g.waits.spots (spot (t.end i) i)

-- the entry stands in the line of those that have joined, by its step
abbrev pub Joins : Terms → Groups → ℕ → Type 0
Joins t g i = Contains g.joined.spots (spot (t.step i) i)

-- each spot is that of one of n entries, with its key
abbrev pub IsKeyed : (ℕ → ℕ) → ℕ → List Spot → Type 0
IsKeyed key n spots = All (λ x. (x.0.0 ≡ key x.0.1) × (x.0.1 < n)) spots

-- the lines are those of the entries, and what waits has room among what has joined
pub record IsFiled (o : Prospect) (g : Groups) : Type 0 where
  pub waits : IsKeyed (terms_of o).end (length o.loads) g.waits.spots
  pub joined : IsKeyed (terms_of o).step (length o.loads) g.joined.spots
  pub room : length g.waits.spots + length g.joined.spots ≤ g.joined.room

-- how often an entry can still change its group
abbrev pub size_of_groups : Groups → ℕ
size_of_groups g = 2 * length g.waits.spots + length g.joined.spots

-- the groups are filed, and hold what falls short after a wake-up at prev
pub record IsGrouped (o : Prospect) (prev : Option ℕ) (g : Groups) : Type 0 where
  pub filed : IsFiled o g
  pub grouped : Grouped (terms_of o) prev (StandsWaiting (terms_of o) g) (Joins (terms_of o) g)

-- what is to be done with the groups after a wake-up at v
abbrev pub IsTurnOfGroups : Prospect → ℕ → Groups → Turn → Type 0
IsTurnOfGroups o v g Empty = (g.waits.spots ≡ []) × (g.joined.spots ≡ [])
IsTurnOfGroups o v g (Leaves f) = IsFirstInLine g.joined.spots (spot ((terms_of o).step f) f) × ((f < length o.loads) × ((terms_of o).need f ≤ v + (terms_of o).step f))
IsTurnOfGroups o v g (Comes h) = IsFirstInLine g.waits.spots (spot ((terms_of o).end h) h) × ((h < length o.loads) × ((i : ℕ) → Joins (terms_of o) g i → Ahead ((terms_of o).end h) h (v + (terms_of o).step i) i))
IsTurnOfGroups o v g (Steady f) = (f < length o.loads) × IsHeadOfJoined (terms_of o) v (StandsWaiting (terms_of o) g) (Joins (terms_of o) g) f

-- what forces the wake-up after the one at v
abbrev pub GroupsAreSettled : Prospect → ℕ → Groups → Next → Type 0
GroupsAreSettled o v g Done = (g.waits.spots ≡ []) × (g.joined.spots ≡ [])
GroupsAreSettled o v g (Waiting h) = (h < length o.loads) × (IsFirstInLine g.waits.spots (spot ((terms_of o).end h) h) × IsFrontWaiter (terms_of o) v (StandsWaiting (terms_of o) g) (Joins (terms_of o) g) h)
GroupsAreSettled o v g (Joined f) = (f < length o.loads) × IsHeadOfJoined (terms_of o) v (StandsWaiting (terms_of o) g) (Joins (terms_of o) g) f

-- the groups after some changes: none has been put back, and where they are as large as before there was no change
pub record Shrinks (o : Prospect) (v : ℕ) (old new : Groups) : Type 0 where
  pub grouped : IsGrouped o (Some v) new
  pub fewer : size_of_groups new ≤ size_of_groups old
  pub same : size_of_groups new ≡ size_of_groups old → (new.waits.spots ≡ old.waits.spots) × (new.joined.spots ≡ old.joined.spots)

-- the groups settled after a wake-up at v
pub record SettlesGroups (o : Prospect) (v : ℕ) (old new : Groups) (next : Next) : Type 0 where
  pub shrinks : Shrinks o v old new
  pub settled : GroupsAreSettled o v new next
