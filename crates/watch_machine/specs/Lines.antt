-- Lines: from which moment on a try may go out, and where it stands among those that may.
-- Source: this project's own.
use Rattle.std.specs.Prelude.{ℕ, ◌+◌, Bool, false, not, ◌&&◌, ◌==◌, if◌then◌else◌, Option, Some, None, max, min, nat_le}
use Rattle.plan_forest.specs.declared.entry.Entry.{Entry}
use Rattle.watch_machine.specs.{declared.event.Operation.TheVariants.Renew, declared.lanes.Presence.Presence, declared.track.Track.Track, declared.track.Try.Try, Margins.has_come, Refusal.is_same, Wanted.believed, Wanted.is_alive}

-- the moment from which an entry may be asked again: a second after it was last asked
abbrev pub rested : Option ℕ → ℕ
rested None = 0
rested (Some last) = last + 1000

-- pressed, and never failed
abbrev pub is_first : Try → Bool
is_first t = t.pressed && t.fails == 0

-- the moment of a later try: one that was lost is tried again a second after it, while the broker is away
abbrev pub later_at : Bool → Track → Try → ℕ
later_at away x t = if away && t.lost then min t.at (rested x.last) else t.at

-- the moment from which on a try may go out
unfoldable pub ready : Presence → Track → Try → ℕ
ready p x t = if is_first t then t.at else max p.hold (later_at p.away x t)

abbrev pub is_due_try : Presence → ℕ → Track → Option Try → Bool
is_due_try p at x None = false
is_due_try p at x (Some t) = nat_le (ready p x t) at

-- it is not out, and has a try that may go out now
unfoldable pub is_due : Presence → ℕ → Track → Bool
is_due p at x = not x.out && is_due_try p at x x.attempt

-- it is renewed along with others: its own time has not come
abbrev pub is_along : ℕ → Entry → ℕ → Track → Try → Bool
is_along margin e now x t = is_same t.operation Renew && not (has_come margin e x now)

-- in which part of the line a first try stands, and in which a later one: first tries whose ends are ahead, the other first
-- tries, later ones, those that only owe a lookup, and first tries that go along. While the broker is away the later ones stand
-- in front
abbrev pub part_of_first : ℕ → Entry → Bool → ℕ → Track → Try → ℕ
part_of_first margin e away now x t = if is_along margin e now x t then 4 else ((if away then 2 else 0) + (if is_alive now x then 0 else 1))

abbrev pub part_of_later : Bool → Try → ℕ
part_of_later away t = (if away then 0 else 2) + (if t.pressed then 0 else 1)

abbrev pub part : ℕ → Entry → Bool → ℕ → Track → Try → ℕ
part margin e away now x t = if is_first t then part_of_first margin e away now x t else part_of_later away t

-- where a try stands in its part: a first one by its end, a later one by when it was last asked
abbrev pub asked_rank : Option ℕ → ℕ
asked_rank None = 0
asked_rank (Some last) = last + 1

abbrev pub rank : Track → Try → ℕ
rank x t = if is_first t then believed x.end else asked_rank x.last
