-- Laws of clocks. Each is the contract of a public function without a body.
use Rattle.std.specs.Prelude.{List, [], ◌++◌}
use Rattle.base_clock.specs.{Seen.AllMade, Seen.ClockSeen, declared.call.ClockCall.ClockCall}

-- calls that follow others are those and then these
abbrev pub JoinedLaw : Type 0
JoinedLaw = (cs ds : List ClockCall) (a b c : ClockSeen) → AllMade cs a b → AllMade ds b c → AllMade (cs ++ ds) a c

-- where nothing is done, none is made
abbrev pub NoneLaw : Type 0
NoneLaw = (s : ClockSeen) → AllMade [] s s
