-- Round: who is asked along, so that the fewest wake-ups follow.
-- Source: this project's own, over Vault, "Lease, renew, and revoke".
use Rattle.std.specs.Prelude.{◌≡◌, ℕ, ◌+◌, ◌≤◌, Bool, true, false, not, ◌&&◌, ◌||◌, if◌then◌else◌, List, [], Option, Some, None, length, map}
use Rattle.std.specs.List.{list_any, range_with_len}
use Rattle.plan_forest.specs.{declared.entry.Entry.Entry, Carried.carried, Renewal.capped}
use Rattle.plan_forest.specs.Forest.{Forest, end_of, entry_at}
use Rattle.plan_rule.specs.{Asks.asks, Forced.bound, Schedule.IsNextMoment}
use Rattle.watch_machine.specs.{declared.clocks.Clocks.Clocks, declared.track.Track.Track, Beginning.is_pressed, Clocks.sec, Margins.is_in_plan, Margins.lead, Press.is_fresh, State.track_in}
use Rattle.watch_machine.specs.Wanted.{is_alive, is_unknown, need_of, seen_entry, wants}

-- an entry with that need opens a round: it is pressed now, in the plan, and its end is ahead
unfoldable pub opens : ℕ → Entry → Track → ℕ → ℕ → Bool
opens margin e x need now = is_fresh margin e x need now && (is_in_plan margin e x && is_alive now x)

-- one of the entries opens one
unfoldable pub opens_some : Forest → List Track → Clocks → Bool
opens_some g xs c = list_any (λ i. opens g.margin (entry_at g.entries i) (track_in xs i) (need_of g.entries xs c i) (sec c.at)) (range_with_len 0 (length g.entries))

-- it counts as renewed now, in the hope that it is: it is wanted, and is outside the plan, of unknown end, pressed before, or out
unfoldable pub is_hoped : ℕ → Entry → Track → ℕ → Bool
is_hoped margin e x need = wants x need && (not (is_in_plan margin e x) || (is_unknown x.end || (is_pressed x || x.out)))

-- how far a renewal leads in the plan
abbrev pub step_in_plan : ℕ → Entry → Track → ℕ → ℕ
step_in_plan margin e x step = if is_in_plan margin e x then lead e.step x.grant else step

-- an entry with that need, which is written as it is seen, for the Asks
unfoldable pub planned_by : ℕ → Entry → Track → ℕ → ℕ → Entry → Entry
planned_by margin e x need now seen =
    if is_hoped margin e x need
    then record seen { end = capped seen.ceiling (now + lead e.step x.grant); renewable = false }
    else record seen { renewable = x.renewable && not x.top; step = step_in_plan margin e x seen.step }

unfoldable pub entry_planned : Forest → List Track → Clocks → ℕ → Entry
entry_planned g xs c i = planned_by g.margin (entry_at g.entries i) (track_in xs i) (need_of g.entries xs c i) (sec c.at) (seen_entry g.entries xs c i)

abbrev pub plan_view : Forest → List Track → Clocks → List Entry
plan_view g xs c = map (entry_planned g xs c) (range_with_len 0 (length g.entries))

-- the moment of the round after this one, None where no bound falls short
abbrev pub IsSecond : List Entry → ℕ → ℕ → Option ℕ → Type 0
IsSecond es margin now (Some t) = IsNextMoment es margin now (end_of es) (Some now) t
IsSecond es margin now None = (i : ℕ) → carried es now i ≤ bound es (end_of es) (Some now) i

-- these are the Asks of a round that opens now
abbrev pub RoundAsks : List Entry → ℕ → ℕ → List ℕ → Type 0
RoundAsks es margin now asked = (next : Option ℕ) × (IsSecond es margin now next × (asked ≡ asks es margin now (end_of es) now next))

-- the round that opens, None where none does
abbrev pub IsRound : Forest → List Track → Clocks → Option (List ℕ) → Type 0
IsRound g xs c None = opens_some g xs c ≡ false
IsRound g xs c (Some asked) = (opens_some g xs c ≡ true) × RoundAsks (plan_view g xs c) g.margin (sec c.at) asked

abbrev pub asked_by_round : Option (List ℕ) → List ℕ
asked_by_round None = []
asked_by_round (Some asked) = asked
