-- Clocks: the moment of this clock, and how the broker's clock and the wall's go beside it.
-- Source: this project's own; a reply's date is RFC 9110, 5.6.7 and 6.6.1.
use Rattle.std.specs.Prelude.{ℕ, ◌+◌, ◌-◌, ◌*◌, ◌/◌, ◌%◌, Bool, true, false, ◌||◌, if◌then◌else◌, max, min, nat_lt}
use Rattle.watch_machine.specs.{declared.clocks.BrokerOffset.BrokerOffset, declared.clocks.Clocks.Clocks, declared.clocks.WallOffset.WallOffset}
use Rattle.base_moment.specs.declared.moment.TheConstants.{LAST}

-- the second of a moment in milliseconds
unfoldable pub sec : ℕ → ℕ
sec ms = ms / 1000

-- the milliseconds of a second
abbrev pub ms : ℕ → ℕ
ms s = s * 1000

-- a reading, no later than 9999-12-31T23:59:59.999Z
abbrev pub reading : ℕ → ℕ
reading ms = min ms 253402300799999

-- the second that a wall clock shows, no later than the last moment
abbrev pub second_of_wall : ℕ → ℕ
second_of_wall wall = min (wall / 1000) LAST

-- what this clock shows when the broker's shows t, and the contrary, in seconds. Both are cut off at 0
unfoldable pub to_here : BrokerOffset → ℕ → ℕ
to_here o t = (t + sec o.here) - o.there

unfoldable pub to_broker : BrokerOffset → ℕ → ℕ
to_broker o second = (second + o.there) - sec o.here

-- what the wall shows at a moment of this clock, in milliseconds
unfoldable pub to_wall : WallOffset → ℕ → ℕ
to_wall o at = (at + o.there) - o.here

-- the broker's clock, if it is the wall's
abbrev pub of_wall : WallOffset → BrokerOffset
of_wall o = record { here = o.here; there = sec o.there }

-- the clocks before the first readings
abbrev pub unset : Clocks
unset = record { at = 0; phase = 0; broker = record { here = 0; there = 0 }; wall = record { here = 0; there = 0 }; dated = false }

-- the milliseconds that bring a reading in phase with the wall's seconds
unfoldable pub phase_of : ℕ → ℕ → ℕ
phase_of wall elapsed = (reading wall % 1000 + (1000 - reading elapsed % 1000)) % 1000

-- the clocks at a first moment: the broker's is taken to be the wall's
abbrev pub started : ℕ → ℕ → WallOffset → Clocks
started phase at wall = record { at = at; phase = phase; broker = of_wall wall; wall = wall; dated = false }

unfoldable pub first_clocks : ℕ → ℕ → Clocks
first_clocks wall elapsed =
    let at = reading (elapsed + phase_of wall elapsed) in
    started (phase_of wall elapsed) at (record { here = at; there = reading wall })

-- the moment of this clock at a later reading; a reading before the last one is taken as that
unfoldable pub moment_at_reading : Clocks → ℕ → ℕ
moment_at_reading c elapsed = max c.at (reading (elapsed + c.phase))

-- the wall and what it was expected to show have parted by more than two seconds
unfoldable pub is_stepped : Clocks → ℕ → Bool
is_stepped c wall = nat_lt (to_wall c.wall c.at + 2000) wall || nat_lt (wall + 2000) (to_wall c.wall c.at)

-- the clocks after the wall's reading: where it has stepped it is set anew, and so is the broker's that no reply has told
unfoldable pub walled : Clocks → ℕ → Clocks
walled c wall =
    if is_stepped c wall
    then record c { wall = record { here = c.at; there = wall }; broker = if c.dated then c.broker else record { here = c.at; there = sec wall } }
    else c

-- a date that is more than two seconds ahead of the broker's clock, or more than three seconds behind what that showed when
-- the request went out
unfoldable pub is_ahead : Clocks → ℕ → Bool
is_ahead c date = nat_lt (to_broker c.broker (sec c.at) + 2) date

unfoldable pub is_behind : Clocks → ℕ → ℕ → Bool
is_behind c since date = nat_lt (date + 3) (to_broker c.broker (sec since))

-- the clocks after a date of a reply to a request that went out at since
unfoldable pub dated_by : ℕ → Clocks → ℕ → Clocks
dated_by since c date = if is_ahead c date || is_behind c since date then record c { broker = record { here = c.at; there = date }; dated = true } else record c { dated = true }
