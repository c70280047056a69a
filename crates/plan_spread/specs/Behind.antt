-- Behind: the margin of an agent that stands behind another, and that of the one in front.
-- Source: this project's own.
use Rattle.std.specs.Prelude.{ℕ, zero, suc, ◌-◌, ◌/◌, ◌==◌, if◌then◌else◌, List}
use Rattle.plan_spread.specs.Parts.{number_of, part_by}
use Rattle.plan_forest.specs.declared.forest.TheConstants.{MARGIN_MAX}

-- its part by a number, as a spread has it: less than a quarter of the margin
abbrev pub part_behind : ℕ → ℕ → ℕ
part_behind margin number = part_by number (margin / 4 - 1)

-- the margin of the one in front, less a quarter, and less the part
abbrev pub margin_by : ℕ → ℕ → ℕ
margin_by margin number = margin - margin / 4 - part_behind margin number

-- that of the agent of a name, by the name's number
abbrev pub margin_behind : ℕ → List ℕ → ℕ
margin_behind margin name = margin_by margin (number_of name)

-- the greatest margin of which that is the margin behind it by a number, of those up to another; that margin itself where there is none
abbrev pub in_front_up_to : ℕ → ℕ → ℕ → ℕ
in_front_up_to behind number zero = behind
in_front_up_to behind number (suc m) = if margin_by (suc m) number == behind then suc m else in_front_up_to behind number m

unfoldable pub margin_in_front : ℕ → ℕ → ℕ
margin_in_front behind number = in_front_up_to behind number MARGIN_MAX
