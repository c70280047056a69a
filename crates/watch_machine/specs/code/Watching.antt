-- Watching: what a watch keeps of itself. No public clause cites it.
-- Source: this project's own.
use Rattle.std.specs.Prelude.{◌≡◌, List, Option, IfSome, length}
use Rattle.std.specs.List.{All}
use Rattle.plan_forest.specs.Forest.{Forest}
use Rattle.watch_machine.specs.{declared.clocks.Clocks.Clocks, declared.lanes.Out.Out, declared.lanes.Presence.Presence, declared.line.Line.Line, declared.lull.Lull.Lull, declared.track.Track.Track, code.Line.IsKnown, code.Lull.IsLull}
use Rattle.watch_machine.specs.{code.View.IsView}
use Rattle.watch_machine.specs.code.Bounds.{IsClocks, IsTrack, WentOutAtReading}

-- a track for each entry of the forest, a view of it, numbers within bounds, and what is known of a lull and of a line, if anything
pub record IsWatch (forest view : Forest) (xs : List Track) (os : List Out) (c : Clocks) (p : Presence) (known : Option Lull) (waiting : Line) : Type 0 where
  pub count : length xs ≡ length forest.entries
  pub is_view : IsView view forest
  pub tracks : All IsTrack xs
  pub out : All WentOutAtReading os
  pub clocks : IsClocks c
  pub lull : IfSome known (IsLull forest xs c p)
  pub line : IsKnown forest xs p waiting
