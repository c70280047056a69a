-- Behind: what an agent has done behind another is counted.
-- Source: this project's own.
use Rattle.std.specs.Prelude.{ℕ, ◌+◌, min}
use Rattle.agent_pages.specs.declared.standby.Standby.{Standby}

-- an end more was looked up ahead, and handed in
abbrev pub looked : Standby → Standby
looked s = record s { looked_ahead = min (s.looked_ahead + 1) 18446744073709551615 }

-- it has stepped in for so many entries more
abbrev pub stepped : ℕ → Standby → Standby
stepped count s = record s { stepped_in = min (s.stepped_in + count) 18446744073709551615 }
