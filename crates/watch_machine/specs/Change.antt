-- Change: what a watch makes of another forest that it watches from then on.
-- Source: this project's own.
use Rattle.std.specs.Prelude.{◌≡◌, ℕ, suc, ◌<◌, ◌==◌, Bool, false, if◌then◌else◌, List, [], ◌∷◌, Option, Some, None, is_none, length, map, option_map, slice_index_or}
use Rattle.std.specs.List.{range_with_len}
use Rattle.plan_forest.specs.{declared.entry.Entry.Entry, Forest.Forest, Forest.entry_at, Push.IsForest}
use Rattle.watch_machine.specs.{declared.change.Was.Was, declared.event.WatchTerms.WatchTerms, declared.lanes.Out.Out, declared.track.Track.Track, Beginning.owing_lookup, Beginning.untopped_track, Looked.by_terms}
use Rattle.watch_machine.specs.declared.change.Was.TheVariants.{New, Same, Retold}
use Rattle.watch_machine.specs.State.{WatchState, fresh_track, track_in}

-- ---- where entries were, and where they are

-- the index at which an entry was, if it was
abbrev pub former : Was → Option ℕ
former New = None
former (Same i) = Some i
former (Retold i) = Some i

-- what is said of the entry at j
abbrev pub was_at : List Was → ℕ → Was
was_at was j = slice_index_or was j New

abbrev pub former_at : List Was → ℕ → Option ℕ
former_at was j = former (was_at was j)

-- that index is i
abbrev pub is_former : ℕ → Option ℕ → Bool
is_former i None = false
is_former i (Some k) = k == i

-- where the entry is that was at i, None where it is no more
unfoldable pub place_now : List Was → ℕ → Option ℕ
place_now [] i = None
place_now (w ∷ ws) i = if is_former i (former w) then Some 0 else option_map (λ j. suc j) (place_now ws i)

-- what may be said of the entries of a forest, where n entries were before: something of each; one that was is one of them, and no two were
-- the same one
pub record IsChange (n : ℕ) (g : Forest) (was : List Was) : Type 0 where
  pub forest : IsForest g
  pub count : length was ≡ length g.entries
  pub within : (i j : ℕ) → former_at was j ≡ Some i → i < n
  pub once : (i j k : ℕ) → former_at was j ≡ Some i → former_at was k ≡ Some i → j ≡ k

-- ---- what is written of an entry, and known of it

-- what lookups have told of an entry, as terms that tell it again
abbrev pub terms_left : Entry → WatchTerms
terms_left e = record { step = Some e.step; ceiling = e.ceiling; orphan = is_none e.parent; endless = false }

-- an entry as lookups have told it, where the inventory says of it what it said
abbrev pub entry_by : ℕ → List Entry → Entry → Was → Entry
entry_by margin es e New = e
entry_by margin es e (Same i) = by_terms margin (terms_left (entry_at es i)) e
entry_by margin es e (Retold i) = e

-- what is known of it: all that was; a lookup is owed where it is new, or the inventory says something else, and then it is at no top
abbrev pub track_by : ℕ → List Track → Entry → Was → Track
track_by at xs e New = owing_lookup at (fresh_track e)
track_by at xs e (Same i) = track_in xs i
track_by at xs e (Retold i) = owing_lookup at (untopped_track (track_in xs i))

unfoldable pub forest_after : List Entry → Forest → List Was → Forest
forest_after es g was = record g { entries = map (λ j. entry_by g.margin es (entry_at g.entries j) (was_at was j)) (range_with_len 0 (length g.entries)) }

unfoldable pub tracks_after : ℕ → List Track → Forest → List Was → List Track
tracks_after at xs g was = map (λ j. track_by at xs (entry_at g.entries j) (was_at was j)) (range_with_len 0 (length g.entries))

-- ---- requests that are out

-- an index, where there is one; another where there is none
abbrev pub index_or : ℕ → Option ℕ → ℕ
index_or other None = other
index_or other (Some j) = j

-- a request under the index that its entry has now
abbrev pub moved_out : List Was → ℕ → Out → Out
moved_out was other r = record r { entry = index_or other (place_now was r.entry) }

-- those of a list, in their order, among n entries. Where its entry is no more, each has an index of its own, past the last: the first of
-- these is n, or more
abbrev pub out_after : List Was → ℕ → List Out → List Out
out_after was n [] = []
out_after was n (r ∷ rest) = moved_out was n r ∷ out_after was (suc n) rest

-- ---- all

-- the state from then on. No moment, no presence and no beginning changes, and neither do the answers since the last clock
abbrev pub changed : WatchState → Forest → List Was → WatchState
changed s g was = record s {
  forest = forest_after s.forest.entries g was;
  tracks = tracks_after s.clocks.at s.tracks g was;
  out = out_after was (length g.entries) s.out;
}
