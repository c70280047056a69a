-- Looks: which lookups a scout sends, how often and how many at once. Each law is the contract of a public function without a body.
-- Source: this project's own.
use Rattle.std.specs.Prelude.{◌≡◌, ◌==◌, ℕ, ◌+◌, ◌<◌, ◌≤◌, Bool, true, false, List, [], ◌∷◌, Option, Some, None, is_some, length}
use Rattle.plan_forest.specs.Forest.{Forest}
use Rattle.watch_machine.specs.{declared.track.End.TheVariants.At, Outlook.time_of, Wanted.is_wanted}
use Rattle.watch_machine.specs.State.{WatchState, second, track_at}
use Rattle.watch_laws.specs.Outage.{how_many, one_where}
use Rattle.watch_scout.specs.Looking.{look_moment}
use Rattle.watch_scout.specs.State.{ScoutState, opened_scout, seen_at}
use Rattle.watch_scout_laws.specs.Steps.{AllSteps, IsStep, ScoutStep, Seeks, Hears, Sought, scout_after_all, watch_beside}

-- a lookup of k goes out
abbrev pub is_entry : ℕ → Option ℕ → Bool
is_entry k None = false
is_entry k (Some i) = i == k

-- how many do
abbrev pub looks_of : ℕ → List ScoutStep → ℕ
looks_of k [] = 0
looks_of k (Seeks x ∷ xs) = one_where (is_entry k x.entry) + looks_of k xs
looks_of k (Hears x ∷ xs) = looks_of k xs

-- at each step that is the believed end of k
abbrev pub AllBelieve : ℕ → ℕ → List ScoutStep → Type 0
AllBelieve k end [] = Unit {0}
AllBelieve k end (x ∷ xs) = ((track_at (watch_beside x) k).end ≡ At end) × AllBelieve k end xs

-- while the believed end of an entry is the same, at most one lookup of it goes out
abbrev pub OnceLaw : Type 0
OnceLaw = (s : ScoutState) (xs : List ScoutStep) (k end : ℕ) → k < length s.seen → AllSteps s xs → AllBelieve k end xs → looks_of k xs ≤ 1

-- a lookup of j is out
abbrev pub is_asked : ScoutState → ℕ → Bool
is_asked s j = is_some (seen_at s j).since

abbrev pub asked : ScoutState → ℕ
asked s = how_many (length s.seen) (is_asked s)

-- no more lookups are out than the width
abbrev pub LanesLaw : Type 0
LanesLaw = (g : Forest) (margin width : ℕ) (xs : List ScoutStep) → AllSteps (opened_scout g margin width) xs → asked (scout_after_all (opened_scout g margin width) xs) ≤ width

-- a lookup of i goes out rightly beside a watch
pub record IsLook (s : ScoutState) (w : WatchState) (i : ℕ) : Type 0 where
  pub end : ℕ
  pub end_is : (track_at w i).end ≡ At end
  pub ahead : second w < end
  pub free : (track_at w i).out ≡ false
  pub wanted : is_wanted w i ≡ true
  pub moment : look_moment s w i ≤ w.clocks.at
  pub before : second w < time_of w i

abbrev pub LookLaw : Type 0
LookLaw = (s : ScoutState) (x : Sought) (i : ℕ) → IsStep s (Seeks x) → x.entry ≡ Some i → IsLook s x.watch i
