-- Margins: a margin that is wider by so many seconds, as far as each step has room for it.
-- Source: this project's own.
use Rattle.std.specs.Prelude.{ℕ, ◌+◌, ◌*◌, ◌/◌, List, [], ◌∷◌, min, max}
use Rattle.plan_forest.specs.{declared.entry.Entry.Entry, declared.forest.TheConstants.MARGIN_MAX}

-- three quarters of the shortest step, or the greatest margin: with more, a renewal would be due almost as soon as the last one came
abbrev pub room_of : List Entry → ℕ
room_of [] = MARGIN_MAX
room_of (e ∷ es) = min (e.step * 3 / 4) (room_of es)

-- the margin and so many seconds, by no more than the margin itself, and as far as there is room; never less than the margin
abbrev pub wider : ℕ → ℕ → ℕ → ℕ
wider margin seconds room = max margin (min (margin + min seconds margin) room)
