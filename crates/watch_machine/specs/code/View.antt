-- View: a forest in which entries are written as they are seen. No public clause cites it.
-- Source: this project's own.
use Rattle.std.specs.Prelude.{◌≡◌, ℕ, ◌<◌, false, if◌then◌else◌, List, [], Option, Some, None, length, map, slice_index_or}
use Rattle.std.specs.List.{list_any, range_with_len}
use Rattle.plan_needs.specs.Carried.{CarriedNeed, IsCarried, load_at}
use Rattle.plan_forest.specs.{declared.entry.Entry.Entry, Forest.Forest}
use Rattle.watch_machine.specs.{declared.clocks.Clocks.Clocks, declared.track.Track.Track, Clocks.sec, State.has_last_try, State.track_in}
use Rattle.watch_machine.specs.Wanted as wanted

-- an entry without what is written of it
abbrev pub shape : Entry → Entry
shape e = record e { end = 0; renewable = false; step = 0; ceiling = None; need = 0 }

-- a view of a forest: it has the same margin, and entries of the same names, kinds and parents
pub record IsView (view forest : Forest) : Type 0 where
  pub count : length view.entries ≡ length forest.entries
  pub margin : view.margin ≡ forest.margin
  pub shapes : map shape view.entries ≡ map shape forest.entries

-- what entries carry, cut to their limits; and, where one of them has its last try, what counts for each
pub record Loads : Type 0 where
  pub cut : List CarriedNeed
  pub last : List ℕ

-- what counts for i
abbrev pub need_at : Loads → ℕ → ℕ
need_at loads i = slice_index_or loads.last i (load_at loads.cut i).need

-- these loads are what counts for the entries
abbrev pub HasNeeds : List Entry → List Track → Clocks → Loads → Type 0
HasNeeds es xs c loads = (i : ℕ) → i < length es → need_at loads i ≡ wanted.need_of es xs c i

-- a view is written as these entries are seen, and the loads are what they carry and what counts for them
pub record Sees (view g : Forest) (xs : List Track) (c : Clocks) (loads : Loads) : Type 0 where
  pub seen : view.entries ≡ wanted.view g.entries xs c
  pub cut : IsCarried view (sec c.at) loads.cut
  pub needs : HasNeeds g.entries xs c loads

-- these loads are what the entries would carry with no limit at all; None where nobody has its last try
abbrev pub IsFree : List Entry → List Track → Clocks → Option (List CarriedNeed) → Type 0
IsFree es xs c None = list_any has_last_try xs ≡ false
IsFree es xs c (Some loads) = (length loads ≡ length es) × ((i : ℕ) → i < length es → (load_at loads i).need ≡ wanted.free_need es c i)

-- of two needs of an entry that which counts for it
abbrev pub need_by : Track → ℕ → ℕ → ℕ
need_by x cut free = if has_last_try x then free else cut

-- what counts for each of these tracks, where one has its last try
abbrev pub last_needs : List Track → List CarriedNeed → List CarriedNeed → List ℕ
last_needs xs cut free = map (λ i. need_by (track_in xs i) (load_at cut i).need (load_at free i).need) (range_with_len 0 (length xs))

abbrev pub last_by : List Track → List CarriedNeed → Option (List CarriedNeed) → List ℕ
last_by xs cut None = []
last_by xs cut (Some free) = last_needs xs cut free
