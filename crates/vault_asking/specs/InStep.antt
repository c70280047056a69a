-- InStep: on the lanes are the requests that the machine has out.
-- Source: this project's own.
use Rattle.std.specs.Prelude.{◌≡◌, ◌≤◌, ◌==◌, ℕ, List, count_by, if◌then◌else◌, length, map, nat_lt}
use Rattle.vault_lanes.specs.Out as lanes
use Rattle.vault_lanes.specs.declared.lanes.Answered.{Answered}
use Rattle.watch_machine.specs.State.{WatchState, track_at}

-- how often an entry is among these
abbrev pub times : ℕ → List ℕ → ℕ
times i entries = count_by (λ j. j == i) entries

-- the entries of the requests that the machine has out, of those on lanes, and of answers
abbrev pub entries_out : WatchState → List ℕ
entries_out m = map (λ r. r.entry) m.out

abbrev pub entries_on : List lanes.Out → List ℕ
entries_on out = map (λ (o : lanes.Out). o.index) out

abbrev pub entries_answered : List Answered → List ℕ
entries_answered answers = map (λ (a : Answered). a.index) answers

-- how many requests may be out under an index: one of an entry whose track says so, and one under an index past the last
abbrev pub seats_of : WatchState → ℕ → ℕ
seats_of m i = if nat_lt i (length m.forest.entries) then (if (track_at m i).out then 1 else 0) else 1

-- the machine has a track for each entry; and of an entry one request out at most, and that only where its track says so. Of an entry that
-- is no more one may be out, too, under an index of its own past the last
pub record MachineIsSound (m : WatchState) : Type 0 where
  pub count : length m.tracks ≡ length m.forest.entries
  pub once : (i : ℕ) → times i (entries_out m) ≤ seats_of m i

-- on the lanes are the requests that the machine has out
pub record AreInStep (m : WatchState) (out : List lanes.Out) : Type 0 where
  pub count : length out ≡ length m.out
  pub each : (i : ℕ) → times i (entries_on out) ≡ times i (entries_out m)

-- as many may be out on the lanes as the machine has out at once, no more are, and they are in step with it
pub record IsAbreast (m : WatchState) (width : ℕ) (out : List lanes.Out) : Type 0 where
  pub width_is : m.width ≡ width
  pub room : length out ≤ width
  pub sound : MachineIsSound m
  pub in_step : AreInStep m out

-- each of these answers is for a request of the machine that is out, and for another one
abbrev pub AreOut : WatchState → List Answered → Type 0
AreOut m answers = (i : ℕ) → times i (entries_answered answers) ≤ times i (entries_out m)
