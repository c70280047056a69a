-- Bounds: what keeps the numbers of a watch small. No public clause cites it.
-- Source: this project's own.
use Rattle.std.specs.Prelude.{◌≤◌, IfSome}
use Rattle.base_moment.specs.declared.moment.TheConstants.{LAST}
use Rattle.plan_forest.specs.declared.forest.TheConstants.{END_MAX}
use Rattle.watch_machine.specs.{declared.clocks.Clocks.Clocks, declared.lanes.Out.Out, declared.reading.TheConstants.READING_MAX, declared.track.End.End, declared.track.Track.Track, declared.track.Try.Try}
use Rattle.watch_machine.specs.declared.track.End.TheVariants.{Unknown, At, Never}

-- all are readings
pub record IsClocks (c : Clocks) : Type 0 where
  pub at : c.at ≤ READING_MAX
  pub here : c.broker.here ≤ READING_MAX
  pub there : c.broker.there ≤ LAST
  pub here_of_wall : c.wall.here ≤ READING_MAX
  pub wall : c.wall.there ≤ READING_MAX

-- an end that an entry may have
abbrev pub IsEnd : End → Type 0
IsEnd Unknown = Unit {0}
IsEnd (At end) = end ≤ END_MAX
IsEnd Never = Unit {0}

-- it began at a reading
abbrev pub IsTry : Try → Type 0
IsTry t = IfSome t.base (λ base. base ≤ READING_MAX)

-- its end is one that an entry may have, and it was asked at a reading
pub record IsTrack (x : Track) : Type 0 where
  pub end : IsEnd x.end
  pub attempt : IfSome x.attempt IsTry
  pub last : IfSome x.last (λ last. last ≤ READING_MAX)

-- it went out at a reading
abbrev pub WentOutAtReading : Out → Type 0
WentOutAtReading r = r.since ≤ READING_MAX
