-- Wanted: until when an entry is needed, on this clock, and whether it is still to be led there.
-- Source: Vault, "Tokens" (a token's end ends its children and its leases); needs are this project's own.
use Rattle.std.specs.Prelude.{ℕ, Bool, true, false, not, ◌&&◌, ◌||◌, ◌==◌, if◌then◌else◌, List, Option, filter, fold, length, map, max, min, option_map, nat_lt}
use Rattle.std.specs.List.{range_with_len}
use Rattle.base_moment.specs.declared.moment.TheConstants.{LAST}
use Rattle.plan_forest.specs.{declared.entry.Entry.Entry, declared.forest.TheConstants.END_MAX, Carried.carried, Forest.entry_at, Over.chain}
use Rattle.watch_machine.specs.{declared.clocks.Clocks.Clocks, declared.track.End.End, declared.track.Track.Track}
use Rattle.watch_machine.specs.declared.track.End.TheVariants.{Unknown, At, Never}
use Rattle.watch_machine.specs.Clocks.{of_wall, sec, to_here}
use Rattle.watch_machine.specs.State.{WatchState, has_last_try, track_at, track_in}

-- an end as a number: 0 where it is unknown, and past every need where there is none
abbrev pub believed : End → ℕ
believed Unknown = 0
believed (At end) = end
believed Never = END_MAX

abbrev pub is_unknown : End → Bool
is_unknown Unknown = true
is_unknown (At end) = false
is_unknown Never = false

abbrev pub is_known : End → Bool
is_known Unknown = false
is_known (At end) = true
is_known Never = false

abbrev pub is_never : End → Bool
is_never Unknown = false
is_never (At end) = false
is_never Never = true

-- the end is ahead in that second; or it is ahead or unknown
abbrev pub is_alive : ℕ → Track → Bool
is_alive now x = nat_lt now (believed x.end)

abbrev pub is_open : ℕ → Track → Bool
is_open now x = is_unknown x.end || is_alive now x

-- it is led no further than its believed end
abbrev pub is_fixed : Track → Bool
is_fixed x = is_known x.end && (not x.renewable || x.top)

-- the least of a number and others
abbrev pub least : ℕ → List ℕ → ℕ
least n xs = fold min n xs

-- the believed ends of those of some entries that are led no further
abbrev pub fixed_ends : List Track → List ℕ → List ℕ
fixed_ends xs is = map (λ a. believed (track_in xs a).end) (filter (λ a. is_fixed (track_in xs a)) is)

-- the least of a number and of such ends over an entry
unfoldable pub least_over : List Entry → List Track → ℕ → ℕ → ℕ
least_over es xs above i = least above (fixed_ends xs (chain es i))

-- until when an entry can be needed: the least end over it that is led no further; past every need where there is none
abbrev pub limit : List Entry → List Track → ℕ → ℕ
limit es xs i = least_over es xs END_MAX i

-- a need on this clock: past only where it is so by the broker's clock and by the wall's. 0 asks for nothing
unfoldable pub need_here : Clocks → ℕ → ℕ
need_here c need = if need == 0 then 0 else min LAST (max (to_here c.broker need) (to_here (of_wall c.wall) need))

abbrev pub ceiling_here : Clocks → Option ℕ → Option ℕ
ceiling_here c ceiling = option_map (λ t. min END_MAX (to_here c.broker t)) ceiling

-- an entry on this clock, by its believed end, its need cut to its limit
unfoldable pub seen_entry : List Entry → List Track → Clocks → ℕ → Entry
seen_entry es xs c i = record (entry_at es i) {
  end = believed (track_in xs i).end;
  renewable = (track_in xs i).renewable;
  ceiling = ceiling_here c (entry_at es i).ceiling;
  need = min (need_here c (entry_at es i).need) (limit es xs i);
}

abbrev pub view : List Entry → List Track → Clocks → List Entry
view es xs c = map (seen_entry es xs c) (range_with_len 0 (length es))

-- the greatest need after now of an entry that i is over, 0 where there is none
unfoldable pub cut_need : List Entry → List Track → Clocks → ℕ → ℕ
cut_need es xs c i = carried (view es xs c) (sec c.at) i

-- and what it would be with no limit at all
abbrev pub free_entry : List Entry → Clocks → ℕ → Entry
free_entry es c i = record (entry_at es i) { need = need_here c (entry_at es i).need }

unfoldable pub free_need : List Entry → Clocks → ℕ → ℕ
free_need es c i = carried (map (free_entry es c) (range_with_len 0 (length es))) (sec c.at) i

-- the one that counts for i: for its last try no limit does
unfoldable pub need_of : List Entry → List Track → Clocks → ℕ → ℕ
need_of es xs c i = if has_last_try (track_in xs i) then free_need es c i else cut_need es xs c i

-- an entry with that need may be led further, and has to be
unfoldable pub wants : Track → ℕ → Bool
wants x need = (x.renewable || is_unknown x.end) && ((not x.top || x.last_try) && (not (is_never x.end) && nat_lt (believed x.end) need))

-- these of a state
abbrev pub wanted_need : WatchState → ℕ → ℕ
wanted_need s i = need_of s.forest.entries s.tracks s.clocks i

abbrev pub is_wanted : WatchState → ℕ → Bool
is_wanted s i = wants (track_at s i) (wanted_need s i)
